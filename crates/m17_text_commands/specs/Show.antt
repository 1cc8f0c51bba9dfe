-- What `show` prints: a line for each line of hex digits.
use Rattle.std.specs.Prelude.{◌≡◌, ◌⊎◌, ℕ, ◌≤◌, List, [], ◌∷◌, ◌++◌, length, take, drop, slice_get, Option, Some, Ok}
use Rattle.hex.specs.Hex.{decode_of}
use Rattle.m17_control.specs.declared.packet.Packet.{Packet}
use Rattle.m17_control.specs.declared.packet.Refusal.{Refusal}
use Rattle.m17_control.specs.Forms.{Spells, Refuses}
use Rattle.m17_print.specs.Endings.{input_refused_line}
use Rattle.m17_print.specs.Packets.{packet_text, refusal_text}
use Rattle.m17_print.specs.Texts.{IsTextOf, BeginsTextOf}
use Rattle.m17_print.specs.declared.ending.TextEnding.{TextEnding}
use Rattle.m17_print.specs.declared.ending.TextEnding.TheVariants.{Finished, Refused, ReadFailed, WriteFailed}
use Rattle.m17_text_commands.specs.declared.show_reason.ShowReason.{ShowReason}
use Rattle.m17_text_commands.specs.ShowReasons.{show_reason_words}
use Rattle.m17_text_commands.specs.Lines.{most_lines, longest_line, lines_of, AreEnded, content_of, AreLineCount, RefusesLine}

-- what is said of bytes: the packet that they spell, or why they spell none
abbrev pub SaysOfBytes : List ℕ → List ℕ → Type 0
SaysOfBytes bytes text = ((packet : Packet) × Spells packet bytes × (text ≡ packet_text packet))
    ⊎ ((refusal : Refusal) × Refuses bytes refusal × (text ≡ refusal_text refusal))

-- the line that is printed for a line that is read: at most 256 hex digits, an even number of them,
-- in either case
pub record IsPrintedFor (line printed : List ℕ) : Type 0 where
  pub not_long : length (content_of line) ≤ longest_line
  pub bytes : List ℕ
  pub digits : decode_of (content_of line) ≡ Ok bytes
  pub text : List ℕ
  pub said : SaysOfBytes bytes text
  pub printed_is : printed ≡ text ++ 10 ∷ []

-- the line that is printed for line n of the input
abbrev pub HasPrintedLine : List ℕ → ℕ → List ℕ → Type 0
HasPrintedLine input n printed =
    (line : List ℕ) × (slice_get (lines_of input) n ≡ Some line) × IsPrintedFor line printed

-- the text of the first `count` lines of the input
abbrev pub IsTextOfFirst : List ℕ → ℕ → List ℕ → Type 0
IsTextOfFirst input count text = IsTextOf (HasPrintedLine input) count text

-- What `show` prints for the input: a line for each of its lines, and where one is refused a line
-- for each line before it and the line that says so, with its number as the place.
abbrev pub IsShowText : List ℕ → List ℕ → Type 0
IsShowText input text = ((count : ℕ) × AreLineCount input count × IsTextOfFirst input count text)
    ⊎ ((place : ℕ) × (reason : ShowReason) × (before : List ℕ) × RefusesLine input place reason
    × IsTextOfFirst input place before
    × (text ≡ before ++ input_refused_line place (show_reason_words reason)))

-- What an ending of `show` says of the input, and of what is left of it.
abbrev pub SaysShow : TextEnding ShowReason → List ℕ → Option (List ℕ) → Type 0
SaysShow Finished input left =
    ((count : ℕ) × AreLineCount input count × ((text : List ℕ) × IsTextOfFirst input count text))
    × (left ≡ Some [])
SaysShow (Refused place reason) input left =
    RefusesLine input place reason × ((text : List ℕ) × IsTextOfFirst input place text)
SaysShow ReadFailed input left = Unit {0}
SaysShow WriteFailed input left = Unit {0}

-- What stands written when `show` ends in each way, of 1,000,000 lines at the most. `left` is what
-- is left of the input.
abbrev pub PrintsShow : TextEnding ShowReason → List ℕ → Option (List ℕ) → List ℕ → Type 0
PrintsShow Finished input left text = (count : ℕ) × AreLineCount input count
    × IsTextOfFirst input count text
PrintsShow (Refused place reason) input left text = RefusesLine input place reason
    × IsTextOfFirst input place text
-- the lines of the lines that were taken whole, each up to its line feed
PrintsShow ReadFailed input left text = (count taken : ℕ) × (count ≤ most_lines)
    × (taken ≤ length input)
    × (left ≡ Some (drop taken input)) × AreEnded (take taken input) count
    × IsTextOfFirst input count text
-- a first part of what is printed for the first `count` lines
PrintsShow WriteFailed input left text =
    (count : ℕ) × (count ≤ most_lines) × BeginsTextOf (HasPrintedLine input) count text
