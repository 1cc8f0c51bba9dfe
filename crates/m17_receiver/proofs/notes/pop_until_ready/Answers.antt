use Rattle.m17_receiver.proofs.Noted.{noted_nothing, noted_then}
use Rattle.m17_receiver.proofs.notes.pop_until_ready.Goals as goal

pub loop-init : goal.loop-init
loop-init g c = noted_nothing c.args.notes.now c.args.directory.now c.args.noted.now

pub loop-preserved : goal.loop-preserved
loop-preserved g c =
    noted_then c.args.notes.now c.loop.notes c.pop_one.new.notes c.args.directory.now c.loop.directory c.pop_one.new.directory
    c.args.noted.now c.loop.noted c.pop_one.new.noted c.loop.invariant c.pop_one.ensures
