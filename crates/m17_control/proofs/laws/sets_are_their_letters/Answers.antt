use Rattle.m17_control.proofs.ModuleBits.{sets-are-their-letters}
use Rattle.m17_control.proofs.laws.sets_are_their_letters.Goals as goal

pub returns : goal.returns
returns c = sets-are-their-letters
