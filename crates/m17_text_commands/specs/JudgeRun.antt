-- Where a run of `judge` stands between two records. No public clause cites this module.
use Rattle.std.specs.Prelude.{◌≡◌, ℕ, ◌*◌, ◌<◌, ◌≤◌, List, [], ◌++◌, length, drop, Option, Some}
use Rattle.m17_print.specs.declared.ending.TextEnding.{TextEnding}
use Rattle.m17_print.specs.declared.ending.TextEnding.TheVariants.{Finished, Refused, ReadFailed, WriteFailed}
use Rattle.m17_text_commands.specs.declared.judge_reason.JudgeReason.{JudgeReason}
use Rattle.m17_text_commands.specs.declared.judge_reason.JudgeReason.TheVariants.{Cut, Large}
use Rattle.m17_text_commands.specs.Judge.{IsTextOfRecords}
use Rattle.m17_text_commands.specs.Records.{most_records}

-- The first `count` records of the input were taken and judged. `first` is what was written before the run.
pub record AreJudged (input : List ℕ) (count : ℕ) (left first written : Option (List ℕ)) : Type 0
  where
    pub within : 64 * count ≤ length input
    pub rest_left : left ≡ Some (drop (64 * count) input)
    pub text : List ℕ
    pub is_text : IsTextOfRecords input count text
    pub printed : (before : List ℕ) → first ≡ Some before → written ≡ Some (before ++ text)

-- After as many records as may come: how the look for one more byte ends, with what was left of the
-- input and what is.
abbrev pub LooksPast : TextEnding JudgeReason → List ℕ → Option (List ℕ) → Type 0
LooksPast Finished left rest = (left ≡ []) × (rest ≡ Some [])
LooksPast (Refused place Large) left rest = (place ≡ 64 * most_records) × (0 < length left)
LooksPast (Refused place Cut) left rest = ⊥
LooksPast ReadFailed left rest = rest ≡ Some left
LooksPast WriteFailed left rest = Unit {0}
