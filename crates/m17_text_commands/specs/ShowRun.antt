-- Where a run of `show` stands between two lines, and what becomes of a line. No public clause
-- cites this module.
use Rattle.std.specs.Prelude.{◌≡◌, ℕ, ◌+◌, List, ◌++◌, length, Option, None, Some, Result, Ok, Err}
use Rattle.m17_io.specs.Sink.{AppendsPrefix}
use Rattle.m17_io.specs.declared.fault.Fault.{Fault}
use Rattle.m17_io.specs.declared.fault.Fault.TheVariants.{Write}
use Rattle.m17_print.specs.Endings.{Comes}
use Rattle.m17_print.specs.declared.ending.TextEnding.{TextEnding}
use Rattle.m17_print.specs.declared.ending.TextEnding.TheVariants.{Refused, WriteFailed}
use Rattle.m17_text_commands.specs.declared.show_reason.ShowReason.{ShowReason}
use Rattle.m17_text_commands.specs.declared.show_reason.ShowReason.TheVariants.{Large, Long, Odd, Digit}
use Rattle.m17_text_commands.specs.declared.not_shown.NotShown.{NotShown}
use Rattle.m17_text_commands.specs.declared.not_shown.NotShown.TheVariants as not_shown
use Rattle.m17_text_commands.specs.Lines.{lines_of, AreEnded, content_of, IsTooLong, IsOdd, HasNoHex}
use Rattle.m17_text_commands.specs.Reading.{IsAhead}
use Rattle.m17_text_commands.specs.Show.{IsPrintedFor, IsTextOfFirst, SaysShow, PrintsShow}

-- why a line of this content is refused, wherever it stands
abbrev pub RefusesContent : List ℕ → ShowReason → Type 0
RefusesContent content Long = IsTooLong content
RefusesContent content Odd = IsOdd content
RefusesContent content Digit = HasNoHex content
RefusesContent content Large = ⊥

-- What a line comes to: it is shown, refused, or written in part at the most.
abbrev pub ComesOfLine : List ℕ → Option (List ℕ) → Option (List ℕ) → Result Unit NotShown → Type 0
ComesOfLine line written written' (Ok _) = (printed : List ℕ) × IsPrintedFor line printed
    × ((before : List ℕ) → written ≡ Some before → written' ≡ Some (before ++ printed))
ComesOfLine line written written' (Err (not_shown.Refused reason)) =
    RefusesContent (content_of line) reason × (written' ≡ written)
ComesOfLine line written written' (Err not_shown.WriteFailed) = (printed : List ℕ)
    × IsPrintedFor line printed
    × ((before : List ℕ) → written ≡ Some before → AppendsPrefix before printed written')

-- the device that failed, where a line was not shown
abbrev pub failed_at_line : Result Unit NotShown → Option Fault
failed_at_line (Ok _) = None
failed_at_line (Err (not_shown.Refused reason)) = None
failed_at_line (Err not_shown.WriteFailed) = Some Write

-- the ending of a run in which a line of this number was not shown
abbrev pub ending_at : ℕ → NotShown → TextEnding ShowReason
ending_at number (not_shown.Refused reason) = Refused number reason
ending_at number not_shown.WriteFailed = WriteFailed

-- `count` lines stand before the rest of the input, each with its line feed.
pub record IsAt (input : List ℕ) (count : ℕ) (rest : List ℕ) : Type 0 where
  pub lines : List (List ℕ)
  pub lines_count : length lines ≡ count
  pub split : lines_of input ≡ lines ++ lines_of rest
  pub before : List ℕ
  pub input_is : input ≡ before ++ rest
  pub ended : AreEnded before count

-- The first `count` lines of the input were shown. `first` is what was written before the run, `written` what
-- is written now.
pub record AreShown (input : List ℕ) (count : ℕ) (held : List ℕ) (left first written : Option (List
    ℕ)) : Type 0 where
  pub ahead : List ℕ
  pub is_ahead : IsAhead held left ahead
  pub is_at : IsAt input count ahead
  pub text : List ℕ
  pub is_text : IsTextOfFirst input count text
  pub printed : (before : List ℕ) → first ≡ Some before → written ≡ Some (before ++ text)

-- one more line was shown, or the run came to its end with it
abbrev pub GoesOn : List ℕ → ℕ → Option (List ℕ) → Option (TextEnding ShowReason) → List ℕ
    → Option (List ℕ) → Option (List ℕ) → Type 0
GoesOn input count first None held left written = AreShown input (count + 1) held left first written
GoesOn input count first (Some ending) held left written = Comes SaysShow PrintsShow ending input
    left first written
