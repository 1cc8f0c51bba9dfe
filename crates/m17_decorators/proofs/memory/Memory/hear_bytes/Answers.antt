use Rattle.std.proofs.Common.{sym, ◌∙◌}
use Rattle.m17_decorators.proofs.Recalling.{recalls-left}
use Rattle.m17_decorators.proofs.memory.Memory.hear_bytes.Goals as goal

pub returns-then-is_disc-clause-recalls : goal.returns-then-is_disc-clause-recalls
returns-then-is_disc-clause-recalls c past recalls =
    recalls-left c.args.self.now c.part.new.self past c.args.from.now c.args.at c.args.bytes.now
    recalls c.requires.slots (sym c.is_disc.ensures ∙ c.if-is_disc.true) c.part.ensures.left
