-- A tape of verdicts: one cell for each of the first entries, as many as it has.
use Rattle.std.specs.Prelude.{◌≡◌, ℕ, ◌<◌, ◌≤◌, List, length, slice_get, Option, Some}
use Rattle.m17_directory.specs.declared.verdict.LinkVerdict.{LinkVerdict}
use Rattle.m17_directory.specs.Entries.{Entry, Setup}
use Rattle.m17_directory.specs.Routed.{link_verdict}

-- Cell n has the verdict of entry n, and where there is no entry n it is as it was.
pub record IsTaped (setup : Setup) (entries : List Entry) (before after : List (Option LinkVerdict))
    : Type 0 where
  pub cells : length after ≡ length before
  pub filled : (n : ℕ) → n < length entries → n < length before →
      slice_get after n ≡ Some (Some (link_verdict setup entries n))
  pub others : (n : ℕ) → length entries ≤ n → slice_get after n ≡ slice_get before n
