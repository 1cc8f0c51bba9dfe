use Rattle.m17_decorators.proofs.AtPace.{more-at, new-at}
use Rattle.m17_decorators.proofs.pace_laws.what_is_said_keeps_pace.Goals as goal

pub returns-clause-new : goal.returns-clause-new
returns-clause-new g c = new-at g.M.Mouth.told g.C.Stopwatch.answers

pub returns-clause-more : goal.returns-clause-more
returns-clause-more g c = more-at g.M.Mouth.told g.C.Stopwatch.answers
