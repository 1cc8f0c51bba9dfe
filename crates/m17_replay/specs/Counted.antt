-- What numbers of entries of each kind stand for.
use Rattle.std.specs.Prelude.{◌≡◌, ℕ, ◌<◌, List, length, slice_index}
use Rattle.m17_print.specs.Kinds.{kind_count}
use Rattle.m17_replay.specs.Summary.{Outcome, count_at}

-- These are the numbers of the kinds of these entries, in the order of the summary.
pub record CountsAre (counts : List ℕ) (outcomes : List Outcome) : Type 0 where
  pub of_all : length counts ≡ kind_count
  pub each : (place : ℕ) → place < kind_count → slice_index counts place ≡ count_at place outcomes
