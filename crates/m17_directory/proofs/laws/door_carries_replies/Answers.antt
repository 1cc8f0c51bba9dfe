use Rattle.m17_directory.proofs.LawDoor.{carries_replies}
use Rattle.m17_directory.proofs.laws.door_carries_replies.Goals as goal

pub returns : goal.returns
returns c = carries_replies
