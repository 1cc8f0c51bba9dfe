-- How a reflector is run, replayed or serving, and how many links it has, for the code alone.
use Rattle.std.specs.Prelude.{◌<◌, ◌≤◌, List, codes, decimal, length, Option, None, Some}
use Rattle.clap.specs.Words.{Row, Text}
use Rattle.m17_callsign.specs.Callsign.{IsCallsignOf}
use Rattle.m17_words.specs.declared.plan.Plan.{Plan}
use Rattle.m17_words.specs.Tables.{text_of, text_or}
use Rattle.m17_words.specs.Values.{IsLimit, IsNumber, NamesModules, NamesParrots, limit_unnamed}

pub record IsPlan (found : List Row) (instead : Text) (plan : Plan) : Type 0 where
  pub call_is : IsCallsignOf (text_or found (codes "call") instead) plan.call
  pub modules_are : NamesModules (text_or found (codes "modules") (codes "ABC")) plan.modules
  pub parrots_are : NamesParrots (text_of found (codes "parrots")) plan.modules plan.parrots
  pub places_are : IsNumber 1 256 (text_or found (codes "places") (codes "64")) plan.places
  pub limit_is : IsLimit (text_or found (codes "limit") (decimal limit_unnamed)) plan.limit

-- the texts name as many links as a reflector may have
abbrev pub NameLinks : Option (List Text) → Type 0
NameLinks None = ⊥
NameLinks (Some texts) = (0 < length texts) × (length texts ≤ 4)
