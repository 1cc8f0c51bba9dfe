-- The lines that `serve` prints.
use Rattle.std.specs.Prelude.{ℕ, List, [], ◌∷◌, ◌++◌, codes, decimal, length, slice_index}
use Rattle.std.specs.List.{flat_map, range_with_len}

-- The line of a module: how many packets it admitted, and how many items were left out at full queues.
abbrev pub module_line : ℕ → ℕ → ℕ → List ℕ
module_line letter admitted missed = letter ∷ codes " admitted " ++ decimal admitted
    ++ codes " missed " ++ decimal missed ++ 10 ∷ []

-- The line of each module, in order of letters, with its own counts.
abbrev pub module_lines : List ℕ → List ℕ → List ℕ → List ℕ
module_lines letters admitted missed =
    flat_map (λ m. module_line (slice_index letters m) (slice_index admitted m)
    (slice_index missed m)) (range_with_len 0 (length letters))
