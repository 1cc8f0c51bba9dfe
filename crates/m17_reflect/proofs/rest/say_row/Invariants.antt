use Rattle.std.proofs.Common.{◌≡◌, ℕ}
use Rattle.m17_reflect.specs.Left.{drained}
use Rattle.m17_reflect.specs.Saying.{SaysRow}
use Rattle.m17_reflect.proofs.PartsBack.{upto}
use Rattle.m17_reflect.proofs.rest.say_row.Given as goal

abbrev pub invariant-loop-at : goal.invariant-loop-at
invariant-loop-at g l = record {
  said : (m : ℕ) → SaysRow g.M.Mouth.told l.name m l.at
      l.held.items l.fn.queues.items l.fn.mouths.items l.mouths.items;
  queues : l.queues.items ≡ upto drained l.at l.fn.queues.items;
}
