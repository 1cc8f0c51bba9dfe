use Rattle.std.proofs.lemmas.Bool.Decides.{Decides-at}
use Rattle.m17_sender.proofs.Frames.{frame_decides}
use Rattle.m17_sender.proofs.kept.SpelledFrame.is_of.Goals as goal

pub returns : goal.returns
returns c = Decides-at c.eq.result _ c.eq.ensures (frame_decides c.args.self.now.packet c.args.packet.now)
