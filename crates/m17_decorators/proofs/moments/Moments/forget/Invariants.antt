use Rattle.std.proofs.Common.{◌≡◌, length}
use Rattle.m17_decorators.proofs.Times.{Forgets}
use Rattle.m17_decorators.proofs.moments.Moments.forget.Given as goal

abbrev pub invariant-forget : goal.invariant-forget
invariant-forget l = Forgets l.from l.initial.self.cut l.initial.self.later.items l.initial.self.last
    l.self.cut l.self.later.items
    × (l.self.last ≡ l.initial.self.last)
    × (l.self.later.capacity ≡ l.initial.self.later.capacity)

abbrev pub decreases-forget : goal.decreases-forget
decreases-forget l = length l.self.later.items
