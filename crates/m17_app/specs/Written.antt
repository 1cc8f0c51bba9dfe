-- What stands written after a run, and how it came to an ending.
use Rattle.std.specs.Prelude.{◌≡◌, ℕ, List, ◌++◌, Option, Some}
use Rattle.m17_io.specs.Sink.{AppendsPrefix}
use Rattle.m17_app.specs.Status.{Streams}

-- the run left the input alone
abbrev pub LeavesInput : Streams → Streams → Type 0
LeavesInput before after = after.source ≡ before.source

-- the text was appended to what stood there, or a first part of it
abbrev pub Adds : List ℕ → Streams → Streams → Type 0
Adds text before after =
    (first : List ℕ) → before.sink.written ≡ Some first → after.sink.written ≡ Some (first ++ text)

abbrev pub AddsPart : List ℕ → Streams → Streams → Type 0
AddsPart text before after =
    (first : List ℕ) → before.sink.written ≡ Some first → AppendsPrefix first text after.sink.written

-- The text of the input was appended: one that is its text by this relation.
abbrev pub AddsText : (List ℕ → List ℕ → Type 0) → Streams → Streams → Type 0
AddsText is_text before after =
    (input first : List ℕ) → before.source.left ≡ Some input → before.sink.written ≡ Some first
    → (text : List ℕ) × (after.sink.written ≡ Some (first ++ text)) × is_text input text

module _ {E : Type 0} where
  -- The run came to this ending: what it says of the input and of what is left of it holds, and what it prints stands
  -- written, and then this last line, which is told whatever the source tells.
  pub record EndsBy (says : E → List ℕ → Option (List ℕ) → Type 0)
      (prints : E → List ℕ → Option (List ℕ) → List ℕ → Type 0) (line : List ℕ) (ending : E)
      (before after : Streams) : Type 0 where
    pub said : (input : List ℕ) → before.source.left ≡ Some input → says ending input after.source.left
    pub printed : (input first : List ℕ) → before.source.left ≡ Some input → before.sink.written ≡ Some first
        → (text : List ℕ) × (after.sink.written ≡ Some (first ++ text ++ line))
        × prints ending input after.source.left text
    pub last : (first : List ℕ) → before.sink.written ≡ Some first
        → (text : List ℕ) × (after.sink.written ≡ Some (first ++ text ++ line))

  -- The run came to this ending, and the sink failed: what the ending says of the input holds, and what it prints stands
  -- written, and then a first part of the last line, perhaps nothing.
  pub record CutsBy (says : E → List ℕ → Option (List ℕ) → Type 0)
      (prints : E → List ℕ → Option (List ℕ) → List ℕ → Type 0) (line : List ℕ) (ending : E)
      (before after : Streams) : Type 0 where
    pub said : (input : List ℕ) → before.source.left ≡ Some input → says ending input after.source.left
    pub printed : (input first : List ℕ) → before.source.left ≡ Some input → before.sink.written ≡ Some first
        → (text : List ℕ) × AppendsPrefix (first ++ text) line after.sink.written
        × prints ending input after.source.left text
