use Rattle.std.proofs.Common.{sym}
use Rattle.m17_floor.proofs.Joins.{joined_anew}
use Rattle.m17_floor.proofs.NoPacket.{no_own_frame}
use Rattle.m17_floor.proofs.floor.Last.new.Goals as goal

pub returns-clause-stands : goal.returns-clause-stands
returns-clause-stands c = λ setup acts k h. sym (no_own_frame setup acts k h)

pub returns-clause-joined : goal.returns-clause-joined
returns-clause-joined c = λ setup acts k at only. sym (joined_anew setup acts at k only)
