use Rattle.std.proofs.Common.{◌≢◌, [], ◌∷◌, ◌++◌, refl, sym, subst, inl, inr, arith}
use Rattle.std.proofs.lemmas.Bool.Decides.{leb_tells}
use Rattle.std.proofs.lemmas.List.Elements.{All-nil}
use Rattle.m17_values.specs.declared.heard.Heard.TheVariants.{End}
use Rattle.m17_client.specs.Talk.{IsOver, TalkPlan, Turn, steps_of}
use Rattle.m17_client.specs.TalkDevices.{HasWritten, records_of}
use Rattle.m17_client.proofs.Ended.{begins, end_is, goes_on_more, hears_one, lost_by_fault, no_end_more, not_over, whole_run}
use Rattle.m17_client.proofs.Turns.{just_made, origin_of, over_is}
use Rattle.m17_client.proofs.talking.talk.Goals as goal

pub loop-init : goal.loop-init
loop-init g c =
    let plan : TalkPlan =
    record { to = c.args.to.now; client = c.args.client; script = c.args.script.now; stay = c.args.stay } in
    let mouth = g.M.Mouth.told c.args.mouth.now in
    let book = g.B.Book.told c.args.book.now in (
      [],
      just_made plan c.new-run.result mouth book (c.mouths_say_in_turn.ensures.nothing mouth)
          (c.books_are_written_in_turn.ensures.nothing book)
          c.new-run.ensures.fresh c.new-run.ensures.no_fault c.new-run.ensures.goes_on,
      begins plan c.requires.idle,
      All-nil (λ entry. entry ≢ End),
      c.ears_hear_in_turn.ensures.nothing (g.E.Ear.told c.args.ear.now),
    )

pub take-requires-clause-faults : goal.take-requires-clause-faults
take-requires-clause-faults g c =
    let plan : TalkPlan =
    record { to = c.args.to.now; client = c.args.client; script = c.args.script.now; stay = c.args.stay } in
    let origin = origin_of plan (g.M.Mouth.told c.args.mouth.now) (g.B.Book.told c.args.book.now) in
    let old = c.loop.invariant in
    elim (leb_tells 16 c.loop.run.faults) [
      | inl many ↦ absurd (not_over plan old.0 old.2 ((over_is origin old.0 c.loop.run (g.M.Mouth.told c.loop.mouth)
          (g.B.Book.told c.loop.book) old.1).0 (inr (inl many.1))))
      | inr few ↦ few.1
    ]

pub returns-then-is_over : goal.returns-then-is_over
returns-then-is_over g c =
    let plan : TalkPlan =
    record { to = c.args.to.now; client = c.args.client; script = c.args.script.now; stay = c.args.stay } in
    let origin = origin_of plan (g.M.Mouth.told c.args.mouth.now) (g.B.Book.told c.args.book.now) in
    let old = c.loop.invariant in
    let next = c.take.ensures origin old.0 (record { to_peer = refl; of_script = refl; for_stay = refl }) old.1 in
    let turn : Turn = record { heard = c.hear-entry.result; steps = next.0 } in
    let is_over = over_is origin (old.0 ++ turn ∷ []) c.take.new.self (g.M.Mouth.told c.take.new.mouth)
    (g.B.Book.told c.take.new.book) next.1 in
    let heard = hears_one c.ears_hear_in_turn.ensures (g.E.Ear.told c.args.ear.now) (g.E.Ear.told c.loop.ear)
    (g.E.Ear.told c.hear-entry.new.self) old.0 turn old.3 old.4 (c.ears_hear_in_turn.ensures.one (g.E.Ear.told c.loop.ear)
    (g.E.Ear.told c.hear-entry.new.self) c.hear-entry.result
    c.hear-entry.ensures.counted c.hear-entry.ensures.fault c.hear-entry.ensures.no_fault c.hear-entry.ensures.appended
    c.hear-entry.ensures.same_device) in
    let over = is_over.0 (c.is_over.ensures.0 c.if-is_over.true) in
    let written = subst (λ b. HasWritten (g.B.Book.told c.args.book.now)
    (records_of (steps_of (old.0 ++ turn ∷ []))) b (g.B.Book.told c.take.new.book))
    (sym c.end.ensures.book_failed) next.1.at.logged.written in
    record {
      turns = old.0 ++ turn ∷ [];
      is_run = whole_run origin old.0 turn c.take.new.self (g.M.Mouth.told c.take.new.mouth)
          (g.B.Book.told c.take.new.book) old.2 next.1 over;
      is_end = end_is origin old.0 turn c.take.new.self (g.M.Mouth.told c.take.new.mouth)
          (g.B.Book.told c.take.new.book) c.end.result old.2 next.1 over
          c.end.ensures.state c.end.ensures.kept c.end.ensures.ended c.end.ensures.lost;
      heard = heard;
      said = next.1.at.said;
      written = written;
      lost = λ e.
          let many = c.end.ensures.lost.0 e in
          let risen = c.hear-entry.ensures.fault (lost_by_fault old.0 turn (omega (arith, many, next.1.faults))) in
          omega (arith, risen, old.4.counted);
      failed = λ e. (written.text.cut e).2;
    }

pub loop-preserved : goal.loop-preserved
loop-preserved g c =
    let plan : TalkPlan =
    record { to = c.args.to.now; client = c.args.client; script = c.args.script.now; stay = c.args.stay } in
    let origin = origin_of plan (g.M.Mouth.told c.args.mouth.now) (g.B.Book.told c.args.book.now) in
    let old = c.loop.invariant in
    let next = c.take.ensures origin old.0 (record { to_peer = refl; of_script = refl; for_stay = refl }) old.1 in
    let turn : Turn = record { heard = c.hear-entry.result; steps = next.0 } in
    let is_over = over_is origin (old.0 ++ turn ∷ []) c.take.new.self (g.M.Mouth.told c.take.new.mouth)
    (g.B.Book.told c.take.new.book) next.1 in
    let heard = hears_one c.ears_hear_in_turn.ensures (g.E.Ear.told c.args.ear.now) (g.E.Ear.told c.loop.ear)
    (g.E.Ear.told c.hear-entry.new.self) old.0 turn old.3 old.4 (c.ears_hear_in_turn.ensures.one (g.E.Ear.told c.loop.ear)
    (g.E.Ear.told c.hear-entry.new.self) c.hear-entry.result
    c.hear-entry.ensures.counted c.hear-entry.ensures.fault c.hear-entry.ensures.no_fault c.hear-entry.ensures.appended
    c.hear-entry.ensures.same_device) in
    let goes_on : IsOver plan (old.0 ++ turn ∷ []) → ⊥ = λ over.
    let yes_over = c.is_over.ensures.1 (is_over.1 over) in let no_over = c.if-is_over.false in absurd (cc) in (
      old.0 ++ turn ∷ [],
      next.1,
      goes_on_more plan old.0 turn old.2 goes_on,
      no_end_more plan old.0 turn old.3 goes_on,
      heard,
    )
