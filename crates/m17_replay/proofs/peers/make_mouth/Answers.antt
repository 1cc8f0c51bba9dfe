use Rattle.std.proofs.lemmas.Result.{IfOk-weaker}
use Rattle.m17_port_memory.specs.PeerOrder.{tally_at-named}
use Rattle.m17_replay.proofs.peers.make_mouth.Goals as goal

pub returns-clause-named : goal.returns-clause-named
returns-clause-named c =
    IfOk-weaker c.make.result _ _ (λ mouth named x has. (tally_at-named mouth.entries x).0 ((named x).1 has)) c.make.ensures.named
