use Rattle.std.proofs.Common.{rules}
use Rattle.m17_board.proofs.Moves.{hears}
use Rattle.m17_board.proofs.eye.Eye.told.Goals as goal

pub join_pass-requires : goal.join_pass-requires
join_pass-requires c = (search rules, (search rules, (search rules, hears _ _ _ _ c.self.invariant.reads)))
