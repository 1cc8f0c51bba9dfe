use Rattle.std.proofs.Common.{sym, subst}
use Rattle.m17_receiver.specs.SoFar.{HasNotedSome}
use Rattle.m17_receiver.proofs.Noted.{noted_nothing, noted_then, noted_popped}
use Rattle.m17_receiver.proofs.notes.pop_notes.Goals as goal

pub notes-init : goal.notes-init
notes-init g c = noted_nothing c.args.notes.now c.args.directory.now c.args.noted.now

pub notes-preserved : goal.notes-preserved
notes-preserved g c =
    noted_then c.args.notes.now c.notes.notes c.try_pop.new.self c.args.directory.now c.notes.directory c.take_note.new.directory
    c.args.noted.now c.notes.noted c.take_note.new.noted c.notes.invariant
    (noted_popped c.notes.notes c.try_pop.new.self c.notes.directory c.take_note.new.directory c.notes.noted c.take_note.new.noted c.in-Some.member
    c.in-Some.ensures c.take_note.ensures)

pub returns-in-None : goal.returns-in-None
returns-in-None g c =
    subst (λ n. HasNotedSome (c.args.notes.now, c.args.directory.now, c.args.noted.now) (n, c.notes.directory, c.notes.noted)) (sym c.in-None.ensures) c.notes.invariant
