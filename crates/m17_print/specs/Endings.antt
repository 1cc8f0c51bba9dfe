-- How a command ends, and the last line of its run.
use Rattle.std.specs.Prelude.{◌≡◌, ℕ, List, [], ◌∷◌, ◌++◌, codes, decimal, Option, None, Some}
use Rattle.m17_io.specs.declared.fault.Fault.{Fault}
use Rattle.m17_io.specs.declared.fault.Fault.TheVariants.{Read, Write}
use Rattle.m17_print.specs.declared.ending.Ending.{Ending}
use Rattle.m17_print.specs.declared.ending.Ending.TheVariants.{Finished, Refused, WordsRefused, ReadFailed, WriteFailed, PortFailed, CrewRefused, LinkLost, BookFailed, NoMemory}
use Rattle.m17_print.specs.declared.ending.TextEnding.{TextEnding}
use Rattle.m17_print.specs.declared.ending.TextEnding.TheVariants as ends

-- the last line of a run whose input is refused at this place, with the words of the reason
abbrev pub input_refused_line : ℕ → List ℕ → List ℕ
input_refused_line place reason =
    codes "input refused at " ++ decimal place ++ codes ": " ++ reason ++ 10 ∷ []

-- the last line of a run whose source failed
abbrev pub read_failed_line : List ℕ
read_failed_line = codes "read failed" ++ 10 ∷ []

-- the last line of a run whose words are refused
abbrev pub words_refused_line : List ℕ
words_refused_line = codes "words refused" ++ 10 ∷ []

-- the last line of a run whose ports failed
abbrev pub port_failed_line : List ℕ
port_failed_line = codes "port failed" ++ 10 ∷ []

-- the last line of a run whose crew refused a start
abbrev pub crew_refused_line : List ℕ
crew_refused_line = codes "crew refused" ++ 10 ∷ []

-- the last line of a run whose link was lost
abbrev pub link_lost_line : List ℕ
link_lost_line = codes "link lost" ++ 10 ∷ []

-- the last line of a run whose trace or book failed
abbrev pub book_failed_line : List ℕ
book_failed_line = codes "book failed" ++ 10 ∷ []

-- the last line of a run that ended so, if it has one, where `words` are those of a reason
abbrev pub last_line : {R : Type 0} → (R → List ℕ) → Ending R → List ℕ
last_line words Finished = []
last_line words (Refused place reason) = input_refused_line place (words reason)
last_line words WordsRefused = words_refused_line
last_line words ReadFailed = read_failed_line
last_line words WriteFailed = []
last_line words PortFailed = port_failed_line
last_line words CrewRefused = crew_refused_line
last_line words LinkLost = link_lost_line
last_line words BookFailed = book_failed_line
last_line words NoMemory = []

-- the ending of a command that reads and prints, among all endings
abbrev pub text_ending : {R : Type 0} → TextEnding R → Ending R
text_ending ends.Finished = Finished
text_ending (ends.Refused place reason) = Refused place reason
text_ending ends.ReadFailed = ReadFailed
text_ending ends.WriteFailed = WriteFailed

-- the device that failed, where a command ended so
abbrev pub failed_device : {R : Type 0} → TextEnding R → Option Fault
failed_device ends.Finished = None
failed_device (ends.Refused place reason) = None
failed_device ends.ReadFailed = Some Read
failed_device ends.WriteFailed = Some Write

-- A command came to this ending. `says` is what an ending says of the input and of what is left of
-- it, whatever the sink tells; `prints` is what stands written for the input then. `first` is what
-- was written before the command, `written` what is written after it.
pub record Comes {R : Type 0} (says : TextEnding R → List ℕ → Option (List ℕ) → Type 0)
    (prints : TextEnding R → List ℕ → Option (List ℕ) → List ℕ → Type 0)
    (ending : TextEnding R) (input : List ℕ) (left first written : Option (List ℕ))
    : Type 0 where
  pub said : says ending input left
  pub printed : (before : List ℕ) → first ≡ Some before
      → (text : List ℕ) × (written ≡ Some (before ++ text)) × prints ending input left text

-- Where the sink tells what was written, something was appended, or nothing.
abbrev pub Grows : Option (List ℕ) → Option (List ℕ) → Type 0
Grows first written =
    (before : List ℕ) → first ≡ Some before → (text : List ℕ) × (written ≡ Some (before ++ text))
