use Rattle.std.proofs.Common.{◌++◌, sym, ◌∙◌}
use Rattle.std.proofs.lemmas.Option.{none-some}
use Rattle.std.specs.Option.{option_to_list}
use Rattle.std.specs.List.{flat_map}
use Rattle.m17_book.specs.Records.{record_bytes}
use Rattle.m17_worker.specs.Taken.{place_of}
use Rattle.m17_worker.proofs.Noting.{place_fits, writes_own, noted_is, noted_untold, note_fits}
use Rattle.m17_worker.proofs.worker.Worker.write_records.Goals as goal

pub write_if-requires-2 : goal.write_if-requires-2
write_if-requires-2 g c =
    writes_own (record { tag = c.args.event.now.tag; moment = c.moment-moment.result; verdict = c.args.verdict; places = 256 })
    c.args.event.now.body c.own_record-own.result
    (c.own_record-own.ensures 256 (place_fits 256 (place_of c.args.event.now.body) c.requires.place))
    c.requires.link c.requires.place c.requires.verdict

pub returns-then-not-is_kept-clause-text : goal.returns-then-not-is_kept-clause-text
returns-then-not-is_kept-clause-text g c = λ start text places fits h.
    noted_untold c.books_are_written_in_turn.ensures start (g.B.Book.told c.args.self.now.book) text c.args.self.now.module.moment
    (record { event = c.args.event.now; verdict = c.args.verdict; bye = c.args.bye.now; places = places })
    c.args.self.now.book_failed (c.is_kept.ensures.untold c.if-not-is_kept.true).0 h

pub returns-clause-text : goal.returns-clause-text
returns-clause-text g c = λ start text places fits h.
    noted_is start (g.B.Book.told c.write_if-2.new.book) text
    c.args.self.now.module.moment c.moment-moment.result
    (record { event = c.args.event.now; verdict = c.args.verdict; bye = c.args.bye.now; places = places })
    c.record_of_bye-leave.result c.own_record-own.result c.write_if-2.new.failed
    c.moment-moment.ensures c.record_of_bye-leave.ensures (c.own_record-own.ensures places fits)
    (c.write_if-2.ensures.text start (text ++ flat_map record_bytes (option_to_list c.record_of_bye-leave.result))
    (c.write_if.ensures.text start text h))

pub returns-then-not-is_kept-clause-fits : goal.returns-then-not-is_kept-clause-fits
returns-then-not-is_kept-clause-fits g c = λ places bytes fits is.
    absurd (none-some bytes (sym (c.is_kept.ensures.untold c.if-not-is_kept.true).0 ∙ is))

pub returns-clause-fits : goal.returns-clause-fits
returns-clause-fits g c = λ places bytes fits is.
    note_fits c.args.self.now.module.moment c.moment-moment.result
    (record { event = c.args.event.now; verdict = c.args.verdict; bye = c.args.bye.now; places = places })
    c.record_of_bye-leave.result c.own_record-own.result c.moment-moment.ensures c.record_of_bye-leave.ensures
    (c.own_record-own.ensures places fits) c.write_if.ensures.fits c.write_if-2.ensures.fits
