-- What a seat knows, and what each kind of step adds to it.
use Rattle.std.specs.Prelude.{ℕ, ◌+◌, ◌-◌, List, [], ◌∷◌, ◌++◌, length}
use Rattle.m17_roll.specs.declared.rule.Notes.{Notes}
use Rattle.m17_roll.specs.Sightings.{sighting, member}

-- a seat that has done nothing, of a roll with this number of places, which is in this number of parts
abbrev pub newcomer : ℕ → ℕ → Notes
newcomer places parts = record {
  places = places;
  parts = parts;
  claimed = [];
  given = [];
  missed = [];
  refused = [];
  finished = [];
  seen = [];
}

abbrev pub sees : Notes → ℕ → ℕ → Notes
sees v q w = record v { seen = v.seen ++ sighting q w ∷ [] }

abbrev pub claiming : Notes → ℕ → ℕ → Notes
claiming v q g = record v { claimed = v.claimed ++ member q g ∷ [] }

abbrev pub giving : Notes → ℕ → ℕ → Notes
giving v q g = record v { given = v.given ++ member q g ∷ [] }

abbrev pub missing : Notes → ℕ → ℕ → Notes
missing v q w = record v { missed = v.missed ++ sighting q w ∷ [] }

abbrev pub refusing : Notes → List ℕ → Notes
refusing v who = record v { refused = v.refused ++ who }

-- one seat fewer
abbrev pub rest_of : Notes → Notes
rest_of v = record v { parts = v.parts - 1 }

-- the second seat is joined to the first
abbrev pub joined : Notes → Notes → Notes
joined v w = record {
  places = v.places;
  parts = v.parts + w.parts;
  claimed = w.claimed ++ v.claimed;
  given = w.given ++ v.given;
  missed = v.missed;
  refused = v.refused;
  finished = w.refused ∷ v.finished;
  seen = v.seen;
}

-- how many askers stand in these lists
abbrev pub length_of : List (List ℕ) → ℕ
length_of [] = 0
length_of (who ∷ lists) = length who + length_of lists

-- how many askers were refused, by the seat and by those that were joined to it
abbrev pub refusals : Notes → ℕ
refusals v = length v.refused + length_of v.finished
