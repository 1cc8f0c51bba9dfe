-- A whole trace as it was read: its magic, its entries, and its end.
use Rattle.std.proofs.Common.{◌≡◌, ◌⊎◌, ℕ, ◌+◌, ◌<◌, ◌≤◌, List, [], ◌∷◌, ◌++◌, length, Some, Result, Ok, Err, OnOk, OnErr, IfOk, IfErr, IsOk, IsErr, inl, inr, refl, sym, ap, subst, ◌∙◌, arith, append_assoc, length-append}
use Rattle.std.proofs.lemmas.List.{append-nil}
use Rattle.std.proofs.lemmas.Result.{IfOk-weaker}
use Rattle.std.proofs.lemmas.Bool.{false≢true}
use Rattle.m17_values.specs.declared.heard.Heard.{Heard}
use Rattle.m17_values.specs.declared.heard.Heard.TheVariants.{End}
use Rattle.m17_book.specs.Answers.{IsOutside}
use Rattle.m17_book.specs.Book.{TellsFlaw, MagicFlaw, trace_magic, IsTrace, HasTraceForm, HasTooMany, LacksTraceForm, RefusesTrace}
use Rattle.m17_book.specs.Entries.{SpellsEntry}
use Rattle.m17_book.specs.Flaws.{EntryFlaw}
use Rattle.m17_book.specs.Limits.{told, most_trace_bytes, most_entries}
use Rattle.m17_book.specs.Walk.{coming, Spot, IsAt, HasPassed, Stops, AddsAll, PassesMagic, WrongEntry, ReadsTrace, IsCutAt, IsSettled}
use Rattle.m17_book.specs.declared.refusal.Flaw.{Flaw}
use Rattle.m17_book.specs.declared.refusal.FormRefusal.{FormRefusal}
use Rattle.m17_book.specs.declared.refusal.FormRefusal.TheVariants.{Cut, Kind, Field, Large, ReadFault, NoMemory}

-- a cut is told at the length of the input
pub cut_at_end : (Flawed : List ℕ → Flaw → Type 0) (rest : List ℕ) (place total : ℕ) (refusal : FormRefusal)
    → told total ≡ told (place + length rest) → TellsFlaw Flawed rest place refusal → IsCutAt total refusal
cut_at_end Flawed rest place total (Cut at) e h = h.1 ∙ sym e
cut_at_end Flawed rest place total (Kind at byte) e h = tt
cut_at_end Flawed rest place total (Field at) e h = tt
cut_at_end Flawed rest place total (Large at) e h = tt
cut_at_end Flawed rest place total ReadFault e h = tt
cut_at_end Flawed rest place total NoMemory e h = tt

pub large_is_no_cut : (total at : ℕ) (refusal : FormRefusal) → refusal ≡ Large at → IsCutAt total refusal
large_is_no_cut total at refusal e = subst (λ (r : FormRefusal). IsCutAt total r) (sym e) tt

pub fault_is_outside : (refusal : FormRefusal) → refusal ≡ ReadFault → IsOutside refusal
fault_is_outside refusal e = subst IsOutside (sym e) tt

no_memory_is_outside : (refusal : FormRefusal) → refusal ≡ NoMemory → IsOutside refusal
no_memory_is_outside refusal e = subst IsOutside (sym e) tt

-- a trace whose magic is wrong
pub bad_magic : (T : Type 0) (refusal : FormRefusal) (bytes : List ℕ) (heard : List Heard) (place : ℕ) (after : Spot) → place ≡ 0
    → PassesMagic {T = T} (Err refusal) place bytes after → ReadsTrace {T = T} (Err refusal) bytes heard after
bad_magic T refusal bytes heard place after zero (inl h) = inl (fault_is_outside refusal h)
bad_magic T refusal bytes heard place after zero (inr h) =
    let there : after.place ≡ 0 = h.1 ∙ zero in
    let tells = subst (λ (n : ℕ). TellsFlaw (MagicFlaw trace_magic) bytes n refusal) zero h.2 in
    let total : told (length bytes) ≡ told (after.place + length bytes) = omega (arith, there) in
    inr (bytes, h.0, total, cut_at_end (MagicFlaw trace_magic) bytes 0 (length bytes) refusal (omega arith) tells, inr (inr (inl tells)))

-- what was passed of a trace
record Passed (bytes front rest : List ℕ) (spot : Spot) : Type 0 where
  split : bytes ≡ (trace_magic ++ front) ++ rest
  place_is : told spot.place ≡ told (8 + length front)

passed : (bytes ahead : List ℕ) (values : List Heard) (spot : Spot) (place : ℕ) → bytes ≡ trace_magic ++ ahead → place ≡ told 8
    → (h : HasPassed SpellsEntry place ahead values spot) → Passed bytes h.front h.rest spot
passed bytes ahead values spot place split eight h =
    record {
      split = split ∙ ap (λ xs. trace_magic ++ xs) h.split ∙ sym (append_assoc trace_magic h.front h.rest);
      place_is = h.place_is ∙ ap (λ n. told (n + length h.front)) eight;
    }

long : (bytes front rest : List ℕ) (spot : Spot) → Passed bytes front rest spot → length bytes ≡ 8 + length front + length rest
long bytes front rest spot p =
    omega (arith, ap length p.split, length-append (trace_magic ++ front) rest, length-append trace_magic front)

-- the entries of a whole trace
pub all_read : {T : Type 0} (value : T) (bytes ahead : List ℕ) (values heard : List Heard) (place : ℕ) (spot : Spot) → bytes ≡ trace_magic ++ ahead
    → place ≡ told 8 → AddsAll SpellsEntry WrongEntry most_trace_bytes (Ok value) (coming place ahead) values spot → length values ≤ most_entries → heard ≡ values ++ End ∷ []
    → IsTrace bytes heard × (spot.left ≡ Some [])
all_read value bytes ahead values heard place spot split eight h few is =
    let p = passed bytes ahead values spot place split eight h.0 in
    let size = long bytes h.0.front h.0.rest spot p in
    let whole : bytes ≡ trace_magic ++ h.0.front = p.split ∙ ap (λ xs. (trace_magic ++ h.0.front) ++ xs) h.1 ∙ append-nil (trace_magic ++ h.0.front) in
    ((omega (arith, size, p.place_is, ap length h.1, h.3), values, few, (h.0.front, h.0.spelled, whole), is), h.2)

wrong_entry : (bytes front rest : List ℕ) (values : List Heard) (spot : Spot) (refusal : FormRefusal) → Passed bytes front rest spot → spot.place ≤ most_trace_bytes
    → HasTraceForm (trace_magic ++ front) values → WrongEntry (length values) rest spot.place refusal
    → HasTooMany bytes refusal ⊎ LacksTraceForm bytes refusal
wrong_entry bytes front rest values spot refusal p low form (inl h) =
    let there : spot.place ≡ length (trace_magic ++ front) = omega (arith, p.place_is, low, length-append trace_magic front) in
    inl (values, trace_magic ++ front, rest, p.split, form, h.0, h.1, h.2 ∙ ap Large there)
wrong_entry bytes front rest values spot refusal p low form (inr h) =
    let there : spot.place ≡ length (trace_magic ++ front) = omega (arith, p.place_is, low, length-append trace_magic front) in
    inr (inr (values, trace_magic ++ front, rest, p.split, form, h.0, subst (λ (n : ℕ). TellsFlaw EntryFlaw rest n refusal) there h.1))

cut_entry : (count : ℕ) (rest : List ℕ) (place total : ℕ) (refusal : FormRefusal) → told total ≡ told (place + length rest)
    → WrongEntry count rest place refusal → IsCutAt total refusal
cut_entry count rest place total refusal e (inl h) = large_is_no_cut total place refusal h.2
cut_entry count rest place total refusal e (inr h) = cut_at_end EntryFlaw rest place total refusal e h.1

-- where a trace stops
pub stops : (T : Type 0) (refusal : FormRefusal) (bytes ahead : List ℕ) (values heard : List Heard) (place : ℕ) (spot : Spot) → bytes ≡ trace_magic ++ ahead
    → place ≡ told 8 → Stops SpellsEntry WrongEntry most_trace_bytes place ahead values spot refusal → ReadsTrace {T = T} (Err refusal) bytes heard spot
stops T refusal bytes ahead values heard place spot split eight (h, inl far) =
    let p = passed bytes ahead values spot place split eight h in
    let size = long bytes h.front h.rest spot p in
    inr (
      h.rest,
      h.rest_is,
      omega (arith, size, p.place_is),
      large_is_no_cut (length bytes) most_trace_bytes refusal far.1,
      inl (omega (arith, size, p.place_is, far.0), far.1),
    )
stops T refusal bytes ahead values heard place spot split eight (h, inr wrong) =
    let p = passed bytes ahead values spot place split eight h in
    let size = long bytes h.front h.rest spot p in
    let total : told (length bytes) ≡ told (spot.place + length h.rest) = omega (arith, size, p.place_is) in
    inr (
      h.rest,
      h.rest_is,
      total,
      cut_entry (length values) h.rest spot.place (length bytes) refusal total wrong.1,
      inr (wrong_entry bytes h.front h.rest values spot refusal p wrong.0 (h.front, h.spelled, refl) wrong.1),
    )

pub all_stops : (T U : Type 0) (refusal : FormRefusal) (bytes ahead : List ℕ) (values heard : List Heard) (place : ℕ) (spot : Spot) → bytes ≡ trace_magic ++ ahead
    → place ≡ told 8 → AddsAll SpellsEntry WrongEntry {T = T} most_trace_bytes (Err refusal) (coming place ahead) values spot → ReadsTrace {T = U} (Err refusal) bytes heard spot
all_stops T U refusal bytes ahead values heard place spot split eight (inl h) = inl h
all_stops T U refusal bytes ahead values heard place spot split eight (inr h) = stops U refusal bytes ahead h.0 heard place spot split eight h.1

-- memory lacked
pub no_memory : (T : Type 0) (refusal : FormRefusal) (bytes : List ℕ) (heard : List Heard) (spot : Spot) → refusal ≡ NoMemory
    → ReadsTrace {T = T} (Err refusal) bytes heard spot
no_memory T refusal bytes heard spot e = inl (no_memory_is_outside refusal e)

-- what is answered in the end
settled_in : (bytes : List ℕ) (found refusal : FormRefusal)
    → ((most_trace_bytes < length bytes) × (found ≡ Large most_trace_bytes)) ⊎ (HasTooMany bytes found ⊎ LacksTraceForm bytes found)
    → IsSettled most_trace_bytes (length bytes) found refusal → IsOutside refusal ⊎ RefusesTrace bytes refusal
settled_in bytes found refusal why (inl h) = inl h
settled_in bytes found refusal why (inr (inl h)) = inr (inl h)
settled_in bytes found refusal (inl why) (inr (inr h)) = absurd (omega (arith, why.0, h.0))
settled_in bytes found refusal (inr why) (inr (inr h)) =
    inr (inr (h.0, subst (λ (r : FormRefusal). HasTooMany bytes r ⊎ LacksTraceForm bytes r) (sym h.1) why))

-- the end was added to the entries, or memory lacked
pub trace_ended : {T U : Type 0} (result : Result T FormRefusal) (value : U) (bytes ahead : List ℕ) (values heard : List Heard) (place : ℕ) (spot : Spot)
    → bytes ≡ trace_magic ++ ahead → place ≡ told 8 → AddsAll SpellsEntry WrongEntry most_trace_bytes (Ok value) (coming place ahead) values spot → length values ≤ most_entries
    → OnOk result (heard ≡ values ++ End ∷ []) → IfErr result (λ refusal. refusal ≡ NoMemory) → ReadsTrace result bytes heard spot
trace_ended (Ok v) value bytes ahead values heard place spot split eight h few is lacks = all_read value bytes ahead values heard place spot split eight h few is
trace_ended {T = T} (Err refusal) value bytes ahead values heard place spot split eight h few is lacks = no_memory T refusal bytes heard spot lacks

-- what the reader of a trace answers, from what was read of it and how that was settled
module _ {T U : Type 0} (read : Result T FormRefusal) (result : Result U FormRefusal) (Left : List ℕ → Type 0) (heard : List Heard) (spot : Spot)
    (reads : (bytes : List ℕ) → Left bytes → ReadsTrace read bytes heard spot) where
  trace_of : (read : Result T FormRefusal) → IsOk read → (bytes : List ℕ) (found : List Heard) → found ≡ heard
      → ReadsTrace read bytes heard spot → IsTrace bytes found × (spot.left ≡ Some [])
  trace_of (Ok v) is bytes found same h = (subst (λ (hs : List Heard). IsTrace bytes hs) (sym same) h.0, h.1)
  trace_of (Err refusal) is bytes found same h = absurd (false≢true is)

  pub is_trace : (items : U → List Heard) (Same : U → Type 0) → IfOk result (λ found. IsOk read × (items found ≡ heard) × Same found)
      → IfOk result (λ found. (bytes : List ℕ) → Left bytes → IsTrace bytes (items found))
  is_trace items Same ok = IfOk-weaker result _ _ (λ found h bytes left. (trace_of read h.0 bytes (items found) h.1 (reads bytes left)).0) ok

  pub is_empty : (items : U → List Heard) (Same : U → Type 0) → IfOk result (λ found. IsOk read × (items found ≡ heard) × Same found)
      → IfOk result (λ found. (bytes : List ℕ) → Left bytes → (spot.left ≡ Some []) × Same found)
  is_empty items Same ok = IfOk-weaker result _ _ (λ found h bytes left. ((trace_of read h.0 bytes (items found) h.1 (reads bytes left)).1, h.2)) ok

  refusal_of : (read : Result T FormRefusal) (refusal : FormRefusal) → IsErr read → (bytes : List ℕ)
      → ReadsTrace read bytes heard spot → IfErr read (λ found. IsOutside found → IsOutside refusal)
      → IfErr read (λ found. (total : ℕ) → (ahead : List ℕ) → IsAt spot ahead → told total ≡ told (spot.place + length ahead) → IsCutAt total found
      → IsSettled most_trace_bytes total found refusal) → IsOutside refusal ⊎ RefusesTrace bytes refusal
  refusal_of (Ok v) refusal is bytes h outside settled = absurd (false≢true is)
  refusal_of (Err found) refusal is bytes (inl h) outside settled = inl (outside h)
  refusal_of (Err found) refusal is bytes (inr h) outside settled =
      settled_in bytes found refusal h.4 (settled (length bytes) h.0 h.1 h.2 h.3)

pub refused_with : {T U : Type 0} (read : Result T FormRefusal) (result : Result U FormRefusal) (Left : List ℕ → Type 0) (heard : List Heard) (spot : Spot)
    → ((bytes : List ℕ) → Left bytes → ReadsTrace read bytes heard spot) → OnErr result (IsErr read)
    → IfErr read (λ found. IsOutside found → IfErr result IsOutside)
    → IfErr read (λ found. (total : ℕ) → (ahead : List ℕ) → IsAt spot ahead → told total ≡ told (spot.place + length ahead) → IsCutAt total found
    → IfErr result (IsSettled most_trace_bytes total found))
    → IfErr result (λ refusal. (bytes : List ℕ) → Left bytes → IsOutside refusal ⊎ RefusesTrace bytes refusal)
refused_with read (Ok u) Left heard spot reads is outside settled = tt
refused_with {U = U} read (Err refusal) Left heard spot reads is outside settled = λ bytes left.
    refusal_of {U = U} read (Err refusal) Left heard spot reads read refusal is bytes (reads bytes left) outside settled
