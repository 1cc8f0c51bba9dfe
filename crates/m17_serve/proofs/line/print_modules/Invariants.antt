use Rattle.std.proofs.Common.{◌≡◌, ℕ, List, ◌++◌, Some, slice_index}
use Rattle.std.specs.List.{flat_map, range_with_len}
use Rattle.m17_serve.specs.Lines.{module_line}
use Rattle.m17_serve.proofs.line.print_modules.Given as goal

abbrev pub invariant-loop-number : goal.invariant-loop-number
invariant-loop-number g l = record {
  written : (before : List ℕ) → (g.K.Sink.told l.fn.out).written ≡ Some before → (g.K.Sink.told l.out).written
      ≡ Some (before ++ flat_map (λ m. module_line (slice_index l.letters m) (slice_index l.admitted m) (slice_index l.missed m)) (range_with_len 0 l.number));
  same : (g.K.Sink.told l.out).faults ≡ (g.K.Sink.told l.fn.out).faults;
}
