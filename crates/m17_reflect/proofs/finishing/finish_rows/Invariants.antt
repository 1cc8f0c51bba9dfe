use Rattle.std.proofs.Common.{◌≡◌, map, vec_len}
use Rattle.m17_reflect.proofs.PartsBack.{SameFrom, Finished}
use Rattle.m17_reflect.proofs.finishing.finish_rows.Given as goal

-- the rows up to here are taken back, and the others are as they were
abbrev pub invariant-loop-row : goal.invariant-loop-row
invariant-loop-row g l = record {
  pushers : SameFrom l.row l.fn.pushers.items l.pushers.items;
  poppers : SameFrom l.row l.fn.poppers.items l.poppers.items;
  trails : SameFrom l.row l.fn.trails.items l.trails.items;
  finished : Finished l.row (map (λ row. row.items) l.fn.pushers.items) (map (λ row. row.items) l.fn.poppers.items) (map (λ row. row.items) l.trails.items);
  pushers_length : vec_len l.pushers ≡ vec_len l.fn.poppers;
  poppers_length : vec_len l.poppers ≡ vec_len l.fn.poppers;
  trails_length : vec_len l.trails ≡ vec_len l.fn.poppers;
}
