use Rattle.std.proofs.Common.{refl}
use Rattle.m17_decorators.proofs.New.{new-whole, new-empty}
use Rattle.m17_decorators.proofs.memory.Memory.make.Goals as goal

pub returns-clause-whole : goal.returns-clause-whole
returns-clause-whole c = new-whole _ c.in_ok-slots.ensures c.in_ok-peers.ensures c.in_ok-frames.ensures
    refl refl

pub returns-clause-empty : goal.returns-clause-empty
returns-clause-empty c = new-empty _ refl refl
