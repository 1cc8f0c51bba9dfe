use Rattle.m17_sender.proofs.Spelled.{in_turn, to_each}
use Rattle.m17_sender.proofs.laws.spelled_part_by_part.Goals as goal

pub returns : goal.returns
returns c = record { in_turn = in_turn; to_each = to_each }
