use Rattle.std.proofs.Common.{refl}
use Rattle.std.proofs.lemmas.Option.{slice_get_read}
use Rattle.m17_board.specs.Shows.{shown_of}
use Rattle.m17_board.proofs.LastLines.{goes_by_line, written_last}
use Rattle.m17_board.proofs.Order.{one_line}
use Rattle.m17_board.proofs.watch.Watch.write_last_of.Goals as goal

pub returns-clause-on : goal.returns-clause-on
returns-clause-on g c =
    goes_by_line g.B.Book.told c.args.self.now.modules c.args.glances.now (shown_of c.args.self.now) (shown_of c.write_line.new.self) c.args.letter c.args.place c.index-glances-place.result c.books_are_written_in_turn.ensures
    c.requires.at (slice_get_read c.args.glances.now _ c.args.place c.index-glances-place.result refl c.requires.glance c.index-glances-place.is) c.write_line.ensures.line

pub returns-clause-last : goal.returns-clause-last
returns-clause-last g c ok before =
    written_last g.B.Book.told (shown_of c.args.self.now) (shown_of c.write_line.new.self) c.args.glances.now c.args.letter c.args.place c.index-glances-place.result (slice_get_read c.args.glances.now _ c.args.place c.index-glances-place.result refl c.requires.glance c.index-glances-place.is)
    c.write_line.ensures.line ok before

pub returns-clause-in_order : goal.returns-clause-in_order
returns-clause-in_order g c =
    one_line g.B.Book.told c.args.self.now.modules c.args.glances.now c.books_are_written_in_turn.ensures c.args.letter c.args.place c.index-glances-place.result (shown_of c.args.self.now) (shown_of c.write_line.new.self)
    c.requires.at (slice_get_read c.args.glances.now _ c.args.place c.index-glances-place.result refl c.requires.glance c.index-glances-place.is) c.write_line.ensures.line
