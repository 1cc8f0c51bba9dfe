-- The words of verdicts.
use Rattle.std.specs.Prelude.{ℕ, List, ◌++◌, codes, decimal}
use Rattle.m17_floor.specs.declared.verdict.Verdict.{Verdict}
use Rattle.m17_floor.specs.declared.verdict.Verdict.TheVariants.{Busy, Late}
use Rattle.m17_print.specs.Kinds.{kind_word, verdict_kind}

-- the word of a verdict
abbrev pub verdict_word : Verdict → List ℕ
verdict_word verdict = kind_word (verdict_kind verdict)

-- A verdict's word, and what it names: the place of the holder, as in `busy 3`, or the last number,
-- as in `late 5`.
abbrev pub verdict_text : Verdict → List ℕ
verdict_text (Busy holder) = verdict_word (Busy holder) ++ codes " " ++ decimal holder.place
verdict_text (Late last) = verdict_word (Late last) ++ codes " " ++ decimal last
verdict_text verdict = verdict_word verdict
