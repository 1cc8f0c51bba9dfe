use Rattle.m17_directory.proofs.LawPeers.{come_and_go}
use Rattle.m17_directory.proofs.laws.peers_come_and_go.Goals as goal

pub returns : goal.returns
returns c = come_and_go
