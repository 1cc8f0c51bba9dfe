-- What readers of whole inputs answer where the bytes do not decide.
use Rattle.std.specs.Prelude.{◌≡◌, ℕ, List, [], ◌∷◌, ◌++◌}
use Rattle.m17_values.specs.declared.heard.Heard.{Heard}
use Rattle.m17_values.specs.declared.heard.Heard.TheVariants.{End}
use Rattle.m17_book.specs.declared.refusal.FormRefusal.{FormRefusal}
use Rattle.m17_book.specs.declared.refusal.FormRefusal.TheVariants.{Cut, Kind, Field, Large, ReadFault, NoMemory}

-- The answers that the bytes do not decide: the source failed, or memory lacked.
abbrev pub IsOutside : FormRefusal → Type 0
IsOutside (Cut at) = ⊥
IsOutside (Kind at byte) = ⊥
IsOutside (Field at) = ⊥
IsOutside (Large at) = ⊥
IsOutside ReadFault = Unit {0}
IsOutside NoMemory = Unit {0}

-- what was heard ends with the end
abbrev pub HasEnd : List Heard → Type 0
HasEnd heard = (entries : List Heard) × (heard ≡ entries ++ End ∷ [])
