use Rattle.std.proofs.Common.{length}
use Rattle.m17_house.proofs.voice.drop_all.Given as goal

abbrev pub decreases-loop-item : goal.decreases-loop-item
decreases-loop-item l = length l.out
