-- Content that a device tells, or does not tell.
use Rattle.std.specs.Prelude.{◌≡◌, List, [], ◌++◌, Option, None, Some}

-- What was told, and then these; what is not told stays so.
abbrev pub told_then : {A : Type 0} → Option (List A) → List A → Option (List A)
told_then None more = None
told_then (Some all) more = Some (all ++ more)

-- Where it is told, there is nothing yet.
abbrev pub StartsEmpty : {A : Type 0} → Option (List A) → Type 0
StartsEmpty {A} told = (all : List A) → told ≡ Some all → all ≡ []
