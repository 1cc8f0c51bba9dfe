use Rattle.std.proofs.Common.{sym, ap, ◌∙◌}
use Rattle.m17_replay.specs.Run.{with_heard}
use Rattle.m17_replay.proofs.HeardLemmas.{peer_inserted}
use Rattle.m17_replay.proofs.peers.name_sender.Goals as goal

pub returns-in_ok-insert-in-Datagram : goal.returns-in_ok-insert-in-Datagram
returns-in_ok-insert-in-Datagram c = c.in_ok-insert-in-Datagram.ensures.keys ∙ peer_inserted c.in-Datagram.from c.args.named.now.keys ∙ ap (λ h. with_heard h c.args.named.now.keys) (sym c.in-Datagram.is)
