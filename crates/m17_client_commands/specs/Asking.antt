-- One step of the asking of a talk. No public clause cites this module.
use Rattle.std.specs.Prelude.{◌≡◌, ℕ, List, [], ◌∷◌, Option, None, Some}
use Rattle.m17_ports.specs.Ports.{HasAsked, PortsTold}
use Rattle.m17_ports.specs.declared.question.Question.TheVariants.{Book}

-- the ports were asked for a book of this name, or were left as they were where there is none
abbrev pub AsksBook : Option (List ℕ) → PortsTold → PortsTold → Type 0
AsksBook None before after = after ≡ before
AsksBook (Some name) before after = HasAsked (Book name ∷ []) before after
