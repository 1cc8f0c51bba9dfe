-- The input of `show`: lines of hex digits.
use Rattle.std.specs.Prelude.{◌≡◌, ◌==◌, ℕ, ◌-◌, ◌%◌, ◌<◌, ◌≤◌, List, [], ◌∷◌, length, take, slice_get, slice_index, count_by, Some, IsErr, if◌then◌else◌}
use Rattle.hex.specs.Hex.{decode_of}
use Rattle.m17_text_commands.specs.declared.show_reason.ShowReason.{ShowReason}
use Rattle.m17_text_commands.specs.declared.show_reason.ShowReason.TheVariants.{Large, Long, Odd, Digit}

-- how many lines there may be, and how many bytes one may have
abbrev pub most_lines : ℕ
most_lines = 1000000

abbrev pub longest_line : ℕ
longest_line = 256

-- the byte begins the first of these lines
abbrev pub begin_first : ℕ → List (List ℕ) → List (List ℕ)
begin_first byte [] = (byte ∷ []) ∷ []
begin_first byte (line ∷ lines) = (byte ∷ line) ∷ lines

-- The lines of the input. Each ends at a line feed, or the last at the end; nothing comes after a
-- line feed at the end.
unfoldable pub lines_of : List ℕ → List (List ℕ)
lines_of [] = []
lines_of (byte ∷ rest) = if byte == 10 then [] ∷ lines_of rest else begin_first byte (lines_of rest)

-- there are `count` line feeds in the bytes: that many lines have ended
abbrev pub AreEnded : List ℕ → ℕ → Type 0
AreEnded bytes count = count_by (λ byte. byte == 10) bytes ≡ count

-- the byte at the last place
abbrev pub last_byte : List ℕ → ℕ
last_byte line = slice_index line (length line - 1)

-- what a line holds: one carriage return before its end is dropped
abbrev pub content_of : List ℕ → List ℕ
content_of line = if last_byte line == 13 then take (length line - 1) line else line

-- the input has `count` lines, 1,000,000 at the most
pub record AreLineCount (input : List ℕ) (count : ℕ) : Type 0 where
  pub whole : length (lines_of input) ≡ count
  pub not_large : count ≤ most_lines

-- what a line holds is too long; has an odd number of bytes; has a byte that is no hex digit: the
-- first that fits
abbrev pub IsTooLong : List ℕ → Type 0
IsTooLong content = longest_line < length content

abbrev pub IsOdd : List ℕ → Type 0
IsOdd content = (length content ≤ longest_line) × (length content % 2 ≡ 1)

abbrev pub HasNoHex : List ℕ → Type 0
HasNoHex content = (length content ≤ longest_line) × (length content % 2 ≡ 0)
    × IsErr (decode_of content)

-- Why line `count` of the input is refused: there are too many lines, or what it holds is refused.
abbrev pub RefusesLine : List ℕ → ℕ → ShowReason → Type 0
RefusesLine input count Large = (count ≡ most_lines) × (count < length (lines_of input))
RefusesLine input count Long =
    (count < most_lines) × (line : List ℕ) × (slice_get (lines_of input) count ≡ Some line)
    × IsTooLong (content_of line)
RefusesLine input count Odd =
    (count < most_lines) × (line : List ℕ) × (slice_get (lines_of input) count ≡ Some line)
    × IsOdd (content_of line)
RefusesLine input count Digit =
    (count < most_lines) × (line : List ℕ) × (slice_get (lines_of input) count ≡ Some line)
    × HasNoHex (content_of line)
