use Rattle.std.proofs.Common.{◌≡◌, ◌+◌, ◌≤◌, ◌++◌, All, map, reverse, vec_len, vec_capacity}
use Rattle.std.specs.List.{AllByRecursion}
use Rattle.m17_control.specs.Forms.{IsModule}
use Rattle.m17_reflect.specs.Bare.{bare_worker, IsNewWorker}
use Rattle.m17_reflect.specs.Taken.{AreTakenFromModules, HaveModules}
use Rattle.m17_reflect.proofs.bare_workers.bare_workers.Given as goal

-- so many workers are made, those of the last modules, from the last on
abbrev pub invariant-loop-made : goal.invariant-loop-made
invariant-loop-made l = record {
  each : All IsModule l.letters.items;
  letters : l.fn.letters.items ≡ l.letters.items ++ map (λ w. w.letter) (reverse l.made.items);
  have : HaveModules (vec_len l.letters) l.ends;
  taken : AreTakenFromModules l.fn.ends l.ends (reverse l.made.items);
  seats : l.fn.seats.items ≡ l.seats.items ++ map (λ w. w.seat) (reverse l.made.items);
  seat_count : vec_len l.seats + l._made ≡ vec_len l.fn.seats;
  new : AllByRecursion (IsNewWorker l.plan l.links) (map bare_worker (reverse l.made.items));
  count : vec_len l.letters + l._made ≡ vec_len l.fn.letters;
  made : vec_len l.made ≡ l._made;
  room : l.modules ≤ vec_capacity l.made;
}
