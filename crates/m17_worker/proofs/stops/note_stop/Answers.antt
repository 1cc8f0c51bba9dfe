use Rattle.std.proofs.Common.{sym}
use Rattle.m17_worker.proofs.Flags.{flags_set}
use Rattle.m17_worker.proofs.stops.note_stop.Goals as goal

pub returns-then-is_stop_event : goal.returns-then-is_stop_event
returns-then-is_stop_event c = λ events h.
    flags_set c.args.stopped.now events c.args.event.now (sym c.if-is_stop_event.ensures) c.if-link-lt-MOST_LINKS.true h
