-- Where a run of `show` stands in its input.
use Rattle.std.proofs.Common.{◌≡◌, ℕ, ◌+◌, ◌-◌, ◌<◌, ◌==◌, Bool, true, false, cond, List, [], ◌∷◌, ◌++◌, length, take, drop, slice_get, Some, refl, sym, ap, ◌∙◌, arith, append_assoc, length-append}
use Rattle.std.proofs.lemmas.List.{length_push, take-append-drop, drop_more, length-take}
use Rattle.m17_print.proofs.TextsOfLines.{slice_get_after}
use Rattle.m17_text_commands.specs.Lines.{lines_of, last_byte, content_of}
use Rattle.m17_text_commands.specs.Reading.{HasNoFeed, BeginsWithLine}
use Rattle.m17_text_commands.specs.ShowRun.{IsAt}
use Rattle.m17_text_commands.proofs.Feeds.{ended_more, lines_of-line}

-- the beginning of a run
pub at_start : (input : List ℕ) → IsAt input 0 input
at_start input = record { lines = []; lines_count = refl; split = refl; before = []; input_is = refl; ended = refl }

-- the first of the lines to come is that line of the input
pub line_at : (input rest line : List ℕ) (after : List (List ℕ)) (count : ℕ) → IsAt input count rest → lines_of rest ≡ line ∷ after → slice_get (lines_of input) count ≡ Some line
line_at input rest line after count at first =
    ap (λ ls. slice_get ls count) (at.split ∙ ap (λ ls. at.lines ++ ls) first) ∙ slice_get_after at.lines line after count at.lines_count

-- how many lines the input has
pub count_at : (input rest : List ℕ) (count : ℕ) → IsAt input count rest → length (lines_of input) ≡ count + length (lines_of rest)
count_at input rest count at = ap length at.split ∙ length-append at.lines (lines_of rest) ∙ ap (λ n. n + length (lines_of rest)) at.lines_count

-- a line that begins what is held, its line feed, and the rest
pub held_line : (held : List ℕ) (size : ℕ) → BeginsWithLine held size → held ≡ take size held ++ 10 ∷ drop (size + 1) held
held_line held size begins =
    sym (take-append-drop size held) ∙ ap (λ xs. take size held ++ xs) (drop_more held size 0 begins.within)
    ∙ ap (λ (byte : ℕ). take size held ++ byte ∷ drop (size + 1) held) begins.feed

-- one line further on
pub at_more : (input line rest : List ℕ) (count : ℕ) → HasNoFeed line → IsAt input count (line ++ 10 ∷ rest) → IsAt input (count + 1) rest
at_more input line rest count none at = record {
  lines = at.lines ++ line ∷ [];
  lines_count = length_push at.lines line ∙ ap (λ n. n + 1) at.lines_count;
  split = at.split ∙ ap (λ ls. at.lines ++ ls) (lines_of-line line rest none) ∙ sym (append_assoc at.lines (line ∷ []) (lines_of rest));
  before = at.before ++ (line ++ 10 ∷ []);
  input_is = at.input_is ∙ ap (λ xs. at.before ++ xs) (sym (append_assoc line (10 ∷ []) rest)) ∙ sym (append_assoc at.before (line ++ 10 ∷ []) rest);
  ended = ended_more at.before line count at.ended none;
}

-- the content of a line lacks one byte at the most
without_return : (line : List ℕ) (b : Bool) (n : ℕ) → n + 1 < length line → n < length (cond b (take (length line - 1) line) line)
without_return line true n more = omega (arith, length-take (length line - 1) line)
without_return line false n more = omega arith

pub content_long : (line : List ℕ) (n : ℕ) → n + 1 < length line → n < length (content_of line)
content_long line n more = without_return line (last_byte line == 13) n more
