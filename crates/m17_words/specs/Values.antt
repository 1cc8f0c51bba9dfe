-- The values of options and arguments: which texts they are, and their bounds.
use Rattle.std.specs.Prelude.{◌≡◌, ◌≢◌, ℕ, Bool, false, ◌*◌, ◌≤◌, ◌↔◌, List, [], ◌∷◌, All, Contains, IsTrue, codes, Option, None, Some}
use Rattle.std.specs.Str.Parse.{IsNumeral, digits_value}
use Rattle.m17_control.specs.declared.modules.Modules.{Modules}
use Rattle.m17_control.specs.Forms.{IsModule}
use Rattle.m17_control.specs.Modules.{serves, IsModulesText, IsSet}

-- The text is one or more decimal digits and nothing else, with this value, which is within its bounds.
pub record IsNumber (least most : ℕ) (text : List ℕ) (number : ℕ) : Type 0 where
  pub digits : IsNumeral 10 text
  pub value : number ≡ digits_value 10 text
  pub at_least : least ≤ number
  pub at_most : number ≤ most

-- the number of a text, where there is one
abbrev pub IsNumberIfAny : ℕ → ℕ → Option (List ℕ) → Option ℕ → Type 0
IsNumberIfAny least most None None = Unit {0}
IsNumberIfAny least most None (Some number) = ⊥
IsNumberIfAny least most (Some text) None = ⊥
IsNumberIfAny least most (Some text) (Some number) = IsNumber least most text number

-- The text is a number of seconds, 86,400 at the most, and the limit on talking has 1,000 milliseconds for each.
abbrev pub IsLimit : List ℕ → ℕ → Type 0
IsLimit text limit = (seconds : ℕ) × IsNumber 0 86400 text seconds × (limit ≡ 1000 * seconds)

-- the seconds of the limit where the words name none
abbrev pub limit_unnamed : ℕ
limit_unnamed = 180

-- The text is a number of frames in any second for one peer, 100,000 at the most.
abbrev pub IsPace : List ℕ → ℕ → Type 0
IsPace text pace = IsNumber 0 100000 text pace

-- those frames where the words name none
abbrev pub pace_unnamed : ℕ
pace_unnamed = 100

-- The text names these modules: letters from A to Z, each once.
pub record NamesModules (text : List ℕ) (modules : Modules) : Type 0 where
  pub is_text : IsModulesText text
  pub letters : (letter : ℕ) → IsTrue (serves modules letter) ↔ Contains text letter
  pub set : IsSet modules

-- the parrots among the modules: none, where none are named
abbrev pub NamesParrots : Option (List ℕ) → Modules → Modules → Type 0
NamesParrots None modules parrots =
    ((letter : ℕ) → serves parrots letter ≡ false) × IsSet parrots
NamesParrots (Some text) modules parrots =
    NamesModules text parrots × All (λ letter. IsTrue (serves modules letter)) text

-- the text is the letter of a module
abbrev pub NamesLetter : List ℕ → ℕ → Type 0
NamesLetter text letter = IsModule letter × (text ≡ letter ∷ [])

-- a flag is there
abbrev pub IsFlagged : Option (List ℕ) → Bool → Type 0
IsFlagged text there = IsTrue there ↔ (text ≡ Some (codes "true"))

-- what a flag takes away is there, since the flag isn't
abbrev pub IsUnlessFlagged : Option (List ℕ) → Bool → Type 0
IsUnlessFlagged text there = IsTrue there ↔ (text ≢ Some (codes "true"))
