use Rattle.m17_roll.proofs.Twice.{never_twice}
use Rattle.m17_roll.proofs.laws.no_member_is_claimed_twice.Goals as goal

pub returns : goal.returns
returns c = never_twice
