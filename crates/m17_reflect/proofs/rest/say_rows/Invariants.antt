use Rattle.std.proofs.Common.{◌≡◌, map, vec_len}
use Rattle.m17_reflect.specs.Left.{drained}
use Rattle.m17_reflect.specs.Saying.{SaysRows}
use Rattle.m17_reflect.proofs.PartsBack.{upto}
use Rattle.m17_reflect.proofs.rest.say_rows.Given as goal

abbrev pub invariant-loop-row : goal.invariant-loop-row
invariant-loop-row g l = record {
  said : SaysRows g.M.Mouth.told l.name l.row
      (map (λ row. row.items) l.held.items) (map (λ row. row.items) l.fn.queues.items) l.fn.mouths.items l.mouths.items;
  queues : map (λ row. row.items) l.queues.items ≡ upto (map drained) l.row (map (λ row. row.items) l.fn.queues.items);
  same_length : vec_len l.queues ≡ vec_len l.fn.queues;
}
