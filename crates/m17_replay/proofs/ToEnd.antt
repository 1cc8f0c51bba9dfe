-- How many entries a link hears: up to the first that ends it, by what was heard.
use Rattle.std.proofs.Common.{◌≡◌, ◌≢◌, ◌⊎◌, ◌||◌, ◌&&◌, ℕ, zero, suc, ◌+◌, ◌-◌, ◌<◌, ◌≤◌, Bool, true, false, leb, List, ◌++◌, length, get_or, slice_get, Some, if◌then◌else◌, inl, inr, refl, ap, sym, subst, ◌∙◌, arith, length-append}
use Rattle.std.specs.List.{list_all, range_with_len}
use Rattle.std.proofs.lemmas.Bool.{cases_Bool, cases_lt, both_ways, le-leb}
use Rattle.std.proofs.lemmas.Option.{same_Some, slice_get-get_or}
use Rattle.m17_lists.proofs.Places.{places_before_stay}
use Rattle.m17_lists.proofs.Tests.{or_true_is_true}
use Rattle.m17_values.specs.declared.heard.Heard.{Heard}
use Rattle.m17_values.specs.declared.heard.Heard.TheVariants as heard
use Rattle.m17_directory.specs.Entries.{Entry, Says, SaysEach, notice_at, ends_at, is_end, is_fault, most_faults}
use Rattle.m17_directory.specs.Laws.{EndsOnce}
use Rattle.m17_replay.specs.Run.{is_end_heard, is_fault_heard}
use Rattle.m17_replay.proofs.HeardLemmas.{length_says, says_at, says_end, says_fault}
use Rattle.m17_replay.proofs.Lost.{row_at, row_of}

-- a row of faults
row_made : (entries : List Entry) (a m : ℕ) → ((i : ℕ) → a ≤ i → i < a + m → is_fault (notice_at entries i) ≡ true) → list_all (λ k. is_fault (notice_at entries k)) (range_with_len a m) ≡ true
row_made entries a zero each = refl
row_made entries a (suc m) each =
    ap (λ b. b && list_all (λ k. is_fault (notice_at entries k)) (range_with_len (a + 1) m)) (each a (omega arith) (omega arith))
    ∙ row_made entries (a + 1) m (λ i from below. each i (omega arith) (omega arith))

ends_by : (entries : List Entry) (n : ℕ) → (is_end (notice_at entries n) ≡ true) ⊎ ((most_faults ≤ suc n) × (list_all (λ k. is_fault (notice_at entries k)) (range_with_len (suc n - most_faults) most_faults) ≡ true)) → ends_at entries n ≡ true
unfolding ends_at
ends_by entries n (inl end) = ap (λ b. b || (leb most_faults (suc n) && list_all (λ k. is_fault (notice_at entries k)) (range_with_len (suc n - most_faults) most_faults))) end
ends_by entries n (inr row) =
    ap (λ b. is_end (notice_at entries n) || (b && list_all (λ k. is_fault (notice_at entries k)) (range_with_len (suc n - most_faults) most_faults))) (le-leb most_faults (suc n) row.0)
    ∙ ap (λ b. is_end (notice_at entries n) || b) row.1
    ∙ or_true_is_true (is_end (notice_at entries n))

-- The first n of these did not end the link, and so many faults came last in a row.
pub record IsOn (heards : List Heard) (n faults : ℕ) : Type 0 where
  pub few : faults < 16
  pub fits : faults ≤ n
  pub row : (i : ℕ) (h : Heard) → i < n → n ≤ i + faults → slice_get heards i ≡ Some h → is_fault_heard h ≡ true
  pub edge : (i : ℕ) (h : Heard) → i + suc faults ≡ n → slice_get heards i ≡ Some h → is_fault_heard h ≡ false
  pub on : (entries : List Entry) (front rest : List Heard) → heards ≡ front ++ rest → SaysEach front entries → (i : ℕ) → i < n → i < length entries → ends_at entries i ≡ false

pub begun : (heards : List Heard) → IsOn heards 0 0
begun heards = record {
  few = omega arith;
  fits = omega arith;
  row = λ i h below from at. absurd (omega arith);
  edge = λ i h is at. absurd (omega arith);
  on = λ entries front rest is says i below inside. absurd (omega arith);
}

module _ (heards front rest : List Heard) (entries : List Entry) (is : heards ≡ front ++ rest) (says : SaysEach front entries) where
  heard_of : (i : ℕ) → i < length entries → (h : Heard) × (slice_get heards i ≡ Some h) × Says h (notice_at entries i)
  heard_of i below =
      let inside : i < length front = omega (arith, length_says front entries says) in
      let h = get_or front i heard.Fault in
      let at = slice_get-get_or front i heard.Fault inside in
      (h, ap (λ (hs : List Heard). slice_get hs i) is ∙ places_before_stay front rest i inside ∙ at, says_at front entries i h says at)

  fault_is : (i : ℕ) (b : Bool) → i < length entries → ((h : Heard) → slice_get heards i ≡ Some h → is_fault_heard h ≡ b) → is_fault (notice_at entries i) ≡ b
  fault_is i b below told =
      let (h, at, it) = heard_of i below in
      says_fault h (notice_at entries i) it ∙ told h at

  end_is : (i : ℕ) (b : Bool) → i < length entries → ((h : Heard) → slice_get heards i ≡ Some h → is_end_heard h ≡ b) → is_end (notice_at entries i) ≡ b
  end_is i b below told =
      let (h, at, it) = heard_of i below in
      says_end h (notice_at entries i) it ∙ told h at

  -- the link goes on where no end comes, and no 16 faults in a row
  goes_on : (n next : ℕ) → n < length entries → next < 16 → ((h : Heard) → slice_get heards n ≡ Some h → is_end_heard h ≡ false)
      → ((i : ℕ) (h : Heard) → i + suc next ≡ n + 1 → slice_get heards i ≡ Some h → is_fault_heard h ≡ false) → ends_at entries n ≡ false
  goes_on n next inside few no_end edge = elim (cases_Bool (ends_at entries n)) [
    | inl ends ↦ elim (row_of entries n ends) [
      | inl end ↦ absurd (both_ways (is_end (notice_at entries n)) (end_is n false inside no_end) end)
      | inr row ↦
          let i = n - next in
          absurd (both_ways (is_fault (notice_at entries i))
          (fault_is i false (omega arith) (λ h at. edge i h (omega (arith, row.0)) at))
          (row_at entries (suc n - most_faults) most_faults i row.1 (omega (arith, row.0)) (omega (arith, row.0))))
    ]
    | inr goes ↦ goes
  ]

  -- and it ends where either comes
  ends_here : (n next : ℕ) → n < length entries → (((h : Heard) → slice_get heards n ≡ Some h → is_end_heard h ≡ true) ⊎ ((next ≡ 16) × (next ≤ n + 1)))
      → ((i : ℕ) (h : Heard) → i < n + 1 → n + 1 ≤ i + next → slice_get heards i ≡ Some h → is_fault_heard h ≡ true) → ends_at entries n ≡ true
  ends_here n next inside (inl end) row = ends_by entries n (inl (end_is n true inside end))
  ends_here n next inside (inr many) row =
      ends_by entries n (inr (
        omega (arith, many.0, many.1),
        row_made entries (suc n - most_faults) most_faults
            (λ i from below. fault_is i true (omega (arith, many.0, many.1)) (λ h at. row i h (omega (arith, many.0, many.1)) (omega (arith, many.0, many.1)) at)),
      ))

module _ (heards : List Heard) (n faults next : ℕ) (one : Heard) (before : IsOn heards n faults) (at : slice_get heards n ≡ Some one) where
  row_by : (b : Bool) → is_fault_heard one ≡ b → next ≡ (if b then faults + 1 else 0) → (i : ℕ) (h : Heard) → i < n + 1 → n + 1 ≤ i + next → slice_get heards i ≡ Some h → is_fault_heard h ≡ true
  row_by true fault is i h below from its = elim (cases_lt i n) [
    | inl earlier ↦ before.row i h earlier (omega arith) its
    | inr here ↦
        let e : i ≡ n = omega arith in
        ap is_fault_heard (same_Some h one (sym its ∙ ap (slice_get heards) e ∙ at)) ∙ fault
  ]
  row_by false fault is i h below from its = absurd (omega arith)

  edge_by : (b : Bool) → is_fault_heard one ≡ b → next ≡ (if b then faults + 1 else 0) → (i : ℕ) (h : Heard) → i + suc next ≡ n + 1 → slice_get heards i ≡ Some h → is_fault_heard h ≡ false
  edge_by true fault is i h e its = before.edge i h (omega arith) its
  edge_by false fault is i h e its =
      let here : i ≡ n = omega arith in
      ap is_fault_heard (same_Some h one (sym its ∙ ap (slice_get heards) here ∙ at)) ∙ fault

  fits_by : (b : Bool) → next ≡ (if b then faults + 1 else 0) → (next ≤ 16) × (next ≤ n + 1)
  fits_by true is = (omega (arith, before.few), omega (arith, before.fits))
  fits_by false is = (omega arith, omega arith)

  module _ (is : next ≡ (if is_fault_heard one then faults + 1 else 0)) where
    pub at_most : next ≤ 16
    at_most = (fits_by (is_fault_heard one) is).0

    -- the next one did not end it either
    pub on_more : is_end_heard one ≡ false → next ≢ 16 → IsOn heards (n + 1) next
    on_more no_end fewer =
        let fits = fits_by (is_fault_heard one) is in
        let few : next < 16 = omega (arith, fits.0, fewer) in
        let edge = edge_by (is_fault_heard one) refl is in
        record {
          few = few;
          fits = fits.1;
          row = row_by (is_fault_heard one) refl is;
          edge = edge;
          on = λ entries front rest parts says i below inside. elim (cases_lt i n) [
            | inl earlier ↦ before.on entries front rest parts says i earlier inside
            | inr here ↦
                let e : n ≡ i = omega arith in
                let goes : (m : ℕ) → m ≡ n → m < length entries → ends_at entries n ≡ false =
                λ m same within. goes_on heards front rest entries parts says n next (omega arith) few (λ h its. ap is_end_heard (same_Some h one (sym its ∙ at)) ∙ no_end) edge in
                subst (λ (m : ℕ). ends_at entries m ≡ false) e (goes i (sym e) inside)
          ];
        }

    -- or it did: so many entries were heard
    pub stops : (is_end_heard one ≡ true) ⊎ (next ≡ 16) → (entries : List Entry) (front rest : List Heard) → heards ≡ front ++ rest → SaysEach front entries → EndsOnce entries → n + 1 ≡ length entries
    stops why entries front rest parts says once =
        let fits = fits_by (is_fault_heard one) is in
        let here : n < length entries → ends_at entries n ≡ true =
        λ inside. ends_here heards front rest entries parts says n next inside
        (elim why [
          | inl end ↦ inl (λ h its. ap is_end_heard (same_Some h one (sym its ∙ at)) ∙ end)
          | inr many ↦ inr (many, fits.1)
        ]) (row_by (is_fault_heard one) refl is) in
        elim (cases_lt n once.last) [
          | inl early ↦ absurd (both_ways (ends_at entries n) (once.not_before n early) (here (omega (arith, once.is_last))))
          | inr not_early ↦ elim (cases_lt once.last n) [
            | inl late ↦ absurd (both_ways (ends_at entries once.last) (before.on entries front rest parts says once.last late (omega (arith, once.is_last))) once.ends)
            | inr not_late ↦ omega (arith, once.is_last)
          ]
        ]

-- all of them did not end it: so it is no whole replay
pub never_stops : (heards : List Heard) (n faults : ℕ) → IsOn heards n faults → length heards ≤ n → (entries : List Entry) (front rest : List Heard) → heards ≡ front ++ rest → SaysEach front entries → EndsOnce entries → ⊥
never_stops heards n faults before all entries front rest parts says once =
    let inside : once.last < length entries = omega (arith, once.is_last) in
    let below : once.last < n = omega (arith, inside, length_says front entries says, ap length parts, length-append front rest) in
    both_ways (ends_at entries once.last) (before.on entries front rest parts says once.last below inside) once.ends
