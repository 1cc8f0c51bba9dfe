use Rattle.std.proofs.Common.{List, ℕ, ap, ◌∙◌}
use Rattle.std.proofs.lemmas.List.{take_all}
use Rattle.m17_port_memory.proofs.list_mouth.datagram_of.Goals as goal

pub returns : goal.returns
returns c = ap (λ (bytes : List ℕ). (c.args.to.now, bytes))
    (c.of.ensures.first ∙ take_all 64 c.args.bytes.now c.requires)
