-- Ports with what stands before their ears fail where the ports do.
use Rattle.std.proofs.Common.{inl, inr}
use Rattle.std.specs.Prelude.{◌⊎◌}
use Rattle.m17_ports.specs.Ports.{FailsLast, PortsTold}

pub fails_inner : {P D : Type 0} (told : P → PortsTold) (inner : D → P) (before after : D) → FailsLast (λ (d : D). told (inner d)) before after → FailsLast told (inner before) (inner after)
fails_inner told inner before after (inl stands) = inl stands
fails_inner told inner before after (inr (between, question, stood, asked)) = inr (inner between, question, stood, asked)
