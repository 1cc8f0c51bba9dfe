-- What an ear that may fill in CRCs has heard after one more call, and when it is new.
use Rattle.std.proofs.Common.{◌≡◌, ◌≢◌, ℕ, Bool, true, false, List, [], ◌∷◌, ◌++◌, Option, None, Some, refl, sym, ap, ◌∙◌}
use Rattle.std.proofs.lemmas.List.{map-append}
use Rattle.std.specs.Prelude.{replicate, option_map}
use Rattle.m17_values.specs.declared.heard.Heard.{Heard}
use Rattle.m17_values.specs.declared.heard.Heard.TheVariants.{Datagram, Quiet, Fault, End}
use Rattle.m17_ports.specs.Told.{told_then, StartsEmpty}
use Rattle.m17_ports.specs.Ear.{EarTold, EndsPastCount, IsNewEar}
use Rattle.m17_ports.specs.Marks.{EarMark, IsNumbered, ear_number}
use Rattle.m17_ports.specs.Untold.{nothing_told}
use Rattle.m17_decorators.specs.Filled.{filled_all, filled_entry}
use Rattle.m17_decorators.specs.Filling.{FillingSeen, fill_told, filled-ends, filled_mark}
use Rattle.m17_decorators.specs.Laws.{IsHeardAs, NothingIsFilled}

-- an entry that is filled in is a fault exactly where it is one as it came
pub fault_is : (fills : Bool) (entry : Heard) → filled_entry fills entry ≡ Fault → entry ≡ Fault
fault_is true (Datagram from at bytes) e = cc
fault_is true (Quiet at) e = cc
fault_is true Fault e = refl
fault_is true End e = cc
fault_is false entry e = e

pub no_fault_is : (fills : Bool) (entry : Heard) → filled_entry fills entry ≢ Fault
    → entry ≢ Fault
no_fault_is true entry other e = other (ap (filled_entry true) e)
no_fault_is false entry other e = other e

ends_behind : (fills : Bool) (before : Option (List Heard)) → EndsPastCount before
    → EndsPastCount (option_map (filled_all fills) before)
ends_behind fills before h = (
  filled_all fills h.0,
  h.1,
  h.2,
  ap (option_map (filled_all fills)) h.3
      ∙ ap (λ (all : List Heard). Some all) (map-append (filled_entry fills) h.0 (replicate h.1 End)
      ∙ ap (λ (rest : List Heard). filled_all fills h.0 ++ rest) (filled-ends fills h.1)),
)

told_more : (fills : Bool) (before after : Option (List Heard)) (entry : Heard)
    → after ≡ told_then before (entry ∷ [])
    → option_map (filled_all fills) after ≡ told_then (option_map (filled_all fills) before)
    (filled_entry fills entry ∷ [])
told_more fills None after entry e = ap (option_map (filled_all fills)) e
told_more fills (Some all) after entry e =
    ap (option_map (filled_all fills)) e
    ∙ ap (λ (all : List Heard). Some all) (map-append (filled_entry fills) all (entry ∷ []))

-- what is told after one more call
pub heard_more : (fills : Bool) (before after : Option (List Heard)) (entry : Heard)
    → ((EndsPastCount before → ⊥) → after ≡ told_then before (entry ∷ []))
    → (EndsPastCount (option_map (filled_all fills) before) → ⊥)
    → option_map (filled_all fills) after ≡ told_then (option_map (filled_all fills) before)
    (filled_entry fills entry ∷ [])
heard_more fills before after entry appended counts =
    told_more fills before after entry (appended (λ ends. counts (ends_behind fills before ends)))

-- an ear that fills in nothing hears what the ear behind it hears
pub all_stay : NothingIsFilled
all_stay [] = refl
all_stay (entry ∷ entries) = ap (λ (rest : List Heard). entry ∷ rest) (all_stay entries)

told_stays : (told : Option (List Heard)) → option_map (filled_all false) told ≡ told
told_stays None = refl
told_stays (Some entries) = ap (λ (all : List Heard). Some all) (all_stay entries)

abbrev mark_with : ℕ → Option (List Heard) → Option EarMark
mark_with number script = Some (record { number = number; script = script })

mark_stays : (mark : Option EarMark) → filled_mark false mark ≡ mark
mark_stays None = refl
mark_stays (Some mark) = ap (mark_with mark.number) (told_stays mark.script)

pub heard_as : {E L : Type 0} (told : E → EarTold L) (ear : E)
    → IsHeardAs (fill_told told (record { inner = ear; fills = false })) (told ear)
heard_as told ear = record {
  heard = told_stays (told ear).heard;
  faults = refl;
  mark = mark_stays (told ear).device.mark;
}

-- a new ear is new where it may fill in
same_value : (x y : List Heard) → Some x ≡ Some y → x ≡ y
same_value x y e = cc

starts_empty : (fills : Bool) (told : Option (List Heard)) → StartsEmpty told
    → StartsEmpty (option_map (filled_all fills) told)
starts_empty fills None starts all e = absurd (nothing_told all e)
starts_empty fills (Some said) starts all e =
    sym (same_value (filled_all fills said) all e) ∙ ap (filled_all fills) (starts said refl)

numbered : (fills : Bool) (mark : Option EarMark) (call : ℕ)
    → IsNumbered (ear_number mark) call → IsNumbered (ear_number (filled_mark fills mark)) call
numbered fills None call h = h
numbered fills (Some mark) call h = h

pub new_behind : {E L : Type 0} (told : E → EarTold L) (ear : FillingSeen E) (call : ℕ)
    → IsNewEar call (told ear.inner) → IsNewEar call (fill_told told ear)
new_behind told ear call new = record {
  heard = starts_empty ear.fills (told ear.inner).heard new.heard;
  faults = new.faults;
  numbered = numbered ear.fills (told ear.inner).device.mark call new.numbered;
}
