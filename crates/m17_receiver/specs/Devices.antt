-- What a receiver's ear has heard, and what its trace then holds.
use Rattle.std.specs.Prelude.{◌≡◌, ℕ, ◌<◌, ◌^◌, List, [], ◌∷◌, ◌++◌, length, replicate}
use Rattle.std.specs.List.{flat_map}
use Rattle.m17_values.specs.declared.heard.Heard.{Heard}
use Rattle.m17_values.specs.declared.heard.Heard.TheVariants.{Fault, End}
use Rattle.m17_ports.specs.Told.{told_then}
use Rattle.m17_ports.specs.Ear.{EarTold, HasHeard}
use Rattle.m17_book.specs.Book.{trace_magic}
use Rattle.m17_book.specs.Entries.{entry_bytes}

-- There are fewer than 2^64.
abbrev pub IsCounted : {A : Type 0} → List A → Type 0
IsCounted xs = length xs < 2 ^ 64

-- The ear heard these entries and no more, and nothing behind an End; so it is always told what it
-- heard, where the ear tells that.
pub record HearsToTheEnd {L : Type 0} (before : EarTold L) (entries : List Heard)
    (after : EarTold L) : Type 0 where
  pub heard : HasHeard before entries after
  pub told : after.heard ≡ told_then before.heard entries
  pub no_more : (front rest : List Heard) → entries ≡ front ++ End ∷ rest → rest ≡ []

-- The last 16 entries heard are Fault.
abbrev pub EndsInFaults : List Heard → Type 0
EndsInFaults heard = (front : List Heard) × (heard ≡ front ++ replicate 16 Fault)

-- The bytes of the trace of a link that heard this: the header, which comes with the first entry,
-- and each entry but the end.
abbrev pub trace_text : List Heard → List ℕ
trace_text [] = []
trace_text (entry ∷ entries) = trace_magic ++ flat_map entry_bytes (entry ∷ entries)
