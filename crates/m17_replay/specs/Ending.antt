-- What a replay over threads hears.
use Rattle.std.specs.Prelude.{◌≡◌, List, ◌∷◌, ◌++◌}
use Rattle.m17_values.specs.declared.heard.Heard.{Heard}
use Rattle.m17_values.specs.declared.heard.Heard.TheVariants.{End}

-- An End stands in the list: somewhere nothing more comes.
abbrev pub HasAnEnd : List Heard → Type 0
HasAnEnd heard = (front : List Heard) × (rest : List Heard) × (heard ≡ front ++ End ∷ rest)
