-- What a replay came to, as the tapes of its run have it.
use Rattle.std.specs.Prelude.{◌≡◌, ℕ, List, [], ◌∷◌, length, map, slice_get, cond, Option, None, Some, option_and_then}
use Rattle.std.specs.List.{filter_map, range_with_len}
use Rattle.m17_control.specs.declared.modules.Modules.{Modules}
use Rattle.m17_control.specs.Modules.{serves, letters_before}
use Rattle.m17_directory.specs.declared.verdict.Act.TheVariants as act
use Rattle.m17_directory.specs.declared.verdict.LinkVerdict.{LinkVerdict}
use Rattle.m17_directory.specs.declared.verdict.LinkVerdict.TheVariants.{Routed}
use Rattle.m17_floor.specs.declared.verdict.Verdict.{Verdict}

-- What each entry came to that was heard, and the floor rule's verdict on its packet, where it was routed to a module
-- as one.
pub record OutcomesKept : Type 0 where
  pub verdicts : List LinkVerdict
  pub packets : List (Option Verdict)

-- the verdicts that a link's tape has, in order
abbrev pub verdicts_on : List (Option LinkVerdict) → List LinkVerdict
verdicts_on tape = filter_map (λ (cell : Option LinkVerdict). cell) tape

-- what the cell of this number has; nothing where there is no such cell
abbrev pub cell_at : List (Option Verdict) → ℕ → Option Verdict
cell_at tape n = option_and_then (λ (cell : Option Verdict). cell) (slice_get tape n)

-- What the tape of a module has there, by its letter, where the tapes are in the order of letters; nothing where it is
-- not served.
abbrev pub cell_for : Modules → List (List (Option Verdict)) → ℕ → ℕ → Option Verdict
cell_for served tapes letter n = cond (serves served letter)
    (option_and_then (λ (tape : List (Option Verdict)). cell_at tape n)
    (slice_get tapes (length (letters_before served letter)))) None

-- The verdict on the packet of entry n, by what the entry came to: what the tape of the module has
-- there to which it was routed as one.
abbrev pub packet_by : Modules → List (List (Option Verdict)) → ℕ → LinkVerdict → Option Verdict
packet_by served tapes n (Routed letter act.Packet) = cell_for served tapes letter n
packet_by served tapes n _ = None

-- the same of entry n, among these verdicts
abbrev pub packet_on : Modules → List (List (Option Verdict)) → List LinkVerdict → ℕ → Option Verdict
packet_on served tapes verdicts n =
    option_and_then (packet_by served tapes n) (slice_get verdicts n)

-- what the tapes of a link and of the served modules have, entry by entry
abbrev pub outcomes_on : Modules → List (Option LinkVerdict) → List (List (Option Verdict))
    → OutcomesKept
outcomes_on served tape tapes = record {
  verdicts = verdicts_on tape;
  packets = map (packet_on served tapes (verdicts_on tape))
      (range_with_len 0 (length (verdicts_on tape)));
}

-- Behind an empty cell all cells are empty: what was heard fills the first ones.
abbrev pub IsFilledInOrder : List (Option LinkVerdict) → Type 0
IsFilledInOrder [] = Unit {0}
IsFilledInOrder (None ∷ tape) = verdicts_on tape ≡ []
IsFilledInOrder (Some verdict ∷ tape) = IsFilledInOrder tape
