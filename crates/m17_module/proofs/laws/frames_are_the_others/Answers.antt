use Rattle.m17_module.proofs.FramesMine.{frames_heard, heard_once}
use Rattle.m17_module.proofs.laws.frames_are_the_others.Goals as goal

pub returns-clause-frames : goal.returns-clause-frames
returns-clause-frames c = frames_heard

pub returns-clause-once : goal.returns-clause-once
returns-clause-once c = heard_once c.only_speakers_are_heard.ensures.packets
