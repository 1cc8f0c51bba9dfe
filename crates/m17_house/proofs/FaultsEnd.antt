-- Where 16 faults come in a row, the last of them ends the link.
use Rattle.std.proofs.Common.{◌≡◌, ℕ, zero, suc, ◌+◌, ◌-◌, ◌<◌, ◌≤◌, true, leb, List, [], ◌∷◌, ◌++◌, length, slice_get, replicate, Some, refl, ap, subst, ◌∙◌, append_assoc, arith}
use Rattle.std.specs.List.{list_all, range_with_len}
use Rattle.std.proofs.lemmas.Bool.{and_from, le-leb, or_right}
use Rattle.std.proofs.lemmas.Option.{none-some, same_Some, slice_get_within}
use Rattle.m17_values.specs.declared.heard.Heard.{Heard}
use Rattle.m17_values.specs.declared.heard.Heard.TheVariants as heard
use Rattle.m17_directory.specs.Entries.{Entry, Says, SaysEach, notice_of, notice_at, is_end, is_fault, most_faults, ends_at}
use Rattle.m17_house.specs.Laws.{FaultsEndIt, sixteen_faults}

-- what is said of one that was heard
said_of : (all : List Heard) (entries : List Entry) (n : ℕ) (h : Heard) → SaysEach all entries → slice_get all n ≡ Some h → (e : Entry) × (slice_get entries n ≡ Some e) × Says h e.notice
said_of [] entries n h says is = absurd (none-some h is)
said_of (x ∷ all) [] n h says is = absurd says
said_of (x ∷ all) (y ∷ entries) zero h says is = (y, refl, subst (λ (k : Heard). Says k y.notice) (same_Some x h is) says.0)
said_of (x ∷ all) (y ∷ entries) (suc n) h says is = said_of all entries n h says.1 is

-- what stands in so many faults, and behind others
in_faults : (rest : List Heard) (m i : ℕ) → i < m → slice_get (replicate m heard.Fault ++ rest) i ≡ Some heard.Fault
in_faults rest zero i below = absurd (omega arith)
in_faults rest (suc m) zero below = refl
in_faults rest (suc m) (suc i) below = in_faults rest m i (omega arith)

behind : (front more : List Heard) (i j : ℕ) → j ≡ length front + i → slice_get (front ++ more) j ≡ slice_get more i
behind [] more i j is = ap (slice_get more) (let e : j ≡ i = omega arith in e)
behind (h ∷ front) more i zero is = absurd (omega arith)
behind (h ∷ front) more i (suc j) is = behind front more i j (omega arith)

-- each of a row is a fault
row_of_faults : (entries : List Entry) (a m : ℕ) → ((i : ℕ) → a ≤ i → i < a + m → is_fault (notice_at entries i) ≡ true) → list_all (λ i. is_fault (notice_at entries i)) (range_with_len a m) ≡ true
row_of_faults entries a zero each = refl
row_of_faults entries a (suc m) each =
    and_from (is_fault (notice_at entries a)) (list_all (λ i. is_fault (notice_at entries i)) (range_with_len (a + 1) m))
    (each a (omega arith) (omega arith)) (row_of_faults entries (a + 1) m (λ i from below. each i (omega arith) (omega arith)))

row_ends : (entries : List Entry) (n : ℕ) → most_faults ≤ suc n → list_all (λ i. is_fault (notice_at entries i)) (range_with_len (suc n - most_faults) most_faults) ≡ true → ends_at entries n ≡ true
unfolding ends_at
row_ends entries n enough row =
    let faults = list_all (λ i. is_fault (notice_at entries i)) (range_with_len (suc n - most_faults) most_faults) in
    or_right (is_end (notice_at entries n)) _ (and_from (leb most_faults (suc n)) faults (le-leb most_faults (suc n) enough) row)

module _ (front rest : List Heard) (entries : List Entry) (says : SaysEach (front ++ sixteen_faults ++ rest) entries) where
  fault_there : (i : ℕ) → length front ≤ i → i < length front + 16 → (e : Entry) × (slice_get entries i ≡ Some e) × Says heard.Fault e.notice
  fault_there i from below =
      let there : slice_get (front ++ sixteen_faults ++ rest) i ≡ Some heard.Fault =
      ap (λ hs. slice_get hs i) (append_assoc front sixteen_faults rest)
      ∙ behind front (sixteen_faults ++ rest) (i - length front) i (omega arith)
      ∙ in_faults rest 16 (i - length front) (omega arith) in
      said_of (front ++ sixteen_faults ++ rest) entries i heard.Fault says there

  is_fault_there : (i : ℕ) → length front ≤ i → i < length front + 16 → is_fault (notice_at entries i) ≡ true
  is_fault_there i from below =
      let it = fault_there i from below in
      ap is_fault (ap notice_of it.1 ∙ it.2)

  last_within : length front + 15 < length entries
  last_within =
      let it = fault_there (length front + 15) (omega arith) (omega arith) in
      slice_get_within entries (length front + 15) it.0 it.1

  last_ends : ends_at entries (length front + 15) ≡ true
  last_ends =
      row_ends entries (length front + 15) (omega arith)
      (row_of_faults entries (suc (length front + 15) - most_faults) most_faults (λ i from below. is_fault_there i (omega arith) (omega arith)))

pub faults_end_it : FaultsEndIt
faults_end_it = record {
  somewhere = λ front rest entries says. (length front + 15, last_within front rest entries says, last_ends front rest entries says);
  at_the_last = last_ends;
}
