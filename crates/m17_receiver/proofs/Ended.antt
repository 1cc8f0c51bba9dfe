-- Where a link ends, and by what.
use Rattle.std.proofs.Common.{◌≡◌, ◌↔◌, ℕ, zero, suc, ◌+◌, ◌-◌, ◌<◌, ◌≤◌, true, false, leb, List, [], ◌∷◌, ◌++◌, length, take, drop, get_or, slice_get, replicate, Some, inl, inr, refl, ap, sym, subst, ◌∙◌, length-append, length-drop, arith}
use Rattle.std.specs.List.{list_all, range_with_len}
use Rattle.std.proofs.lemmas.Bool.{and_parts, or_cases, cases_lt, false≢true, leb-true}
use Rattle.std.proofs.lemmas.List.{length-replicate, take-append-drop}
use Rattle.std.proofs.lemmas.Option.{none-some, same_Some, slice_get-get_or}
use Rattle.m17_lists.proofs.Places.{one_more_stands_at_the_end, places_behind_follow, dropped_moves_places, all_alike_are_copies, each_copy_is_it}
use Rattle.m17_lists.proofs.Lengths.{one_more_is_one_longer}
use Rattle.m17_values.specs.declared.heard.Heard.{Heard}
use Rattle.m17_values.specs.declared.heard.Heard.TheVariants as heard
use Rattle.m17_directory.specs.Entries.{Entry, Notice, Setup, Says, SaysEach, notice_at, ends_at, is_end, is_fault, most_faults}
use Rattle.m17_directory.specs.Outcome.{Outcome}
use Rattle.m17_directory.specs.Laws.{EndsOnce, is_ended}
use Rattle.m17_receiver.specs.Devices.{EndsInFaults}
use Rattle.m17_receiver.specs.SoFar.{Laws}
use Rattle.m17_receiver.proofs.Positions.{notice_end, heard_before}

-- what was heard, by what it says
says_fault : (h : Heard) (notice : Notice) → Says h notice → is_fault notice ≡ true → h ≡ heard.Fault
says_fault (heard.Datagram from at bytes) notice says is = elim says [
  | inl sent ↦ absurd (false≢true (sym (ap is_fault sent.2) ∙ is))
  | inr garbled ↦ absurd (false≢true (sym (ap is_fault garbled.2) ∙ is))
]
says_fault (heard.Quiet at) notice says is = absurd (false≢true (sym (ap is_fault says) ∙ is))
says_fault heard.Fault notice says is = refl
says_fault heard.End notice says is = absurd (false≢true (sym (ap is_fault says) ∙ is))

fault_says : (h : Heard) (notice : Notice) → Says h notice → h ≡ heard.Fault → notice ≡ Notice.Fault
fault_says h notice says is = subst (λ (x : Heard). Says x notice) is says

pub says_more : (heards : List Heard) (entries : List Entry) (h : Heard) (e : Entry) → SaysEach heards entries → Says h e.notice → SaysEach (heards ++ h ∷ []) (entries ++ e ∷ [])
says_more [] [] h e each says = (says, tt)
says_more [] (x ∷ entries) h e each says = absurd each
says_more (y ∷ heards) [] h e each says = absurd each
says_more (y ∷ heards) (x ∷ entries) h e each says = (each.0, says_more heards entries h e each.1 says)

pub length_says : (heards : List Heard) (entries : List Entry) → SaysEach heards entries → length heards ≡ length entries
length_says [] [] says = refl
length_says [] (e ∷ entries) says = absurd says
length_says (h ∷ heards) [] says = absurd says
length_says (h ∷ heards) (e ∷ entries) says = omega (arith, length_says heards entries says.1)

says_at : (heards : List Heard) (entries : List Entry) (n : ℕ) (h : Heard) → SaysEach heards entries → slice_get heards n ≡ Some h → Says h (notice_at entries n)
says_at [] entries n h says e = absurd (none-some h e)
says_at (x ∷ heards) [] n h says e = absurd says
says_at (x ∷ heards) (y ∷ entries) zero h says e = subst (λ (k : Heard). Says k y.notice) (same_Some x h e) says.0
says_at (x ∷ heards) (y ∷ entries) (suc n) h says e = says_at heards entries n h says.1 e

-- a link that ends at a fault ends at the last of a row of 16
row_at : (entries : List Entry) (a m i : ℕ) → list_all (λ k. is_fault (notice_at entries k)) (range_with_len a m) ≡ true → a ≤ i → i < a + m → is_fault (notice_at entries i) ≡ true
row_at entries a zero i row from below = absurd (omega arith)
row_at entries a (suc m) i row from below =
    let parts = and_parts (is_fault (notice_at entries a)) (list_all (λ k. is_fault (notice_at entries k)) (range_with_len (a + 1) m)) row in
    elim (cases_lt a i) [
      | inl later ↦ row_at entries (a + 1) m i parts.1 (omega arith) (omega arith)
      | inr first ↦ let e : a ≡ i = omega arith in subst (λ (n : ℕ). is_fault (notice_at entries n) ≡ true) e parts.0
    ]

row_of : (entries : List Entry) (n : ℕ) → ends_at entries n ≡ true → notice_at entries n ≡ Notice.Fault
    → (most_faults ≤ suc n) × (list_all (λ k. is_fault (notice_at entries k)) (range_with_len (suc n - most_faults) most_faults) ≡ true)
unfolding ends_at
row_of entries n ends fault = elim (or_cases (is_end (notice_at entries n)) _ ends) [
  | inl end ↦ absurd (false≢true (sym (ap is_end fault) ∙ end))
  | inr row ↦
      let parts = and_parts (leb most_faults (suc n)) (list_all (λ k. is_fault (notice_at entries k)) (range_with_len (suc n - most_faults) most_faults)) row in
      (leb-true most_faults (suc n) parts.0, parts.1)
]

in_a_row : (heards : List Heard) (entries : List Entry) (n : ℕ) → SaysEach heards entries → length entries ≡ suc n → ends_at entries n ≡ true → notice_at entries n ≡ Notice.Fault → EndsInFaults heards
in_a_row heards entries n says size ends fault =
    let row = row_of entries n ends fault in
    let k : ℕ = suc n - most_faults in
    let same : length heards ≡ suc n = length_says heards entries says ∙ size in
    let long : length (drop k heards) ≡ most_faults = omega (arith, length-drop k heards, same, row.0) in
    let faults : drop k heards ≡ replicate most_faults heard.Fault =
    all_alike_are_copies heard.Fault (drop k heards) most_faults long
    (λ i below.
    let within : k + i < length heards = omega (arith, same, row.0, below) in
    let h : Heard = get_or heards (k + i) heard.Fault in
    let at : slice_get heards (k + i) ≡ Some h = slice_get-get_or heards (k + i) heard.Fault within in
    let is : h ≡ heard.Fault = says_fault h (notice_at entries (k + i)) (says_at heards entries (k + i) h says at) (row_at entries k most_faults (k + i) row.1 (omega arith) (omega (arith, below))) in
    dropped_moves_places heards k i (k + i) refl ∙ at ∙ ap (λ (x : Heard). Some x) is) in
    (take k heards, sym (take-append-drop k heards) ∙ ap (λ (hs : List Heard). take k heards ++ hs) faults)

last_of_faults : (heards : List Heard) (h : Heard) → EndsInFaults (heards ++ h ∷ []) → h ≡ heard.Fault
last_of_faults heards h has =
    let size : length heards + 1 ≡ length has.0 + 16 = omega (arith, ap length has.1, length-append heards (h ∷ []), length-append has.0 (replicate 16 heard.Fault), length-replicate 16 heard.Fault) in
    let there : slice_get (heards ++ h ∷ []) (length heards) ≡ Some heard.Fault =
    ap (λ (hs : List Heard). slice_get hs (length heards)) has.1 ∙ places_behind_follow has.0 (replicate 16 heard.Fault) 15 (length heards) (omega (arith, size)) ∙ each_copy_is_it heard.Fault 16 15 (omega arith) in
    same_Some h heard.Fault (sym (one_more_stands_at_the_end heards h) ∙ there)

-- The last 16 entries are faults exactly where the one that ended the link is one.
pub lost_is : (heards : List Heard) (h : Heard) (entries : List Entry) (e : Entry) → SaysEach heards entries → Says h e.notice → ends_at (entries ++ e ∷ []) (length entries) ≡ true →
    (h ≡ heard.Fault) ↔ EndsInFaults (heards ++ h ∷ [])
lost_is heards h entries e each says ends = (
  λ is. in_a_row (heards ++ h ∷ []) (entries ++ e ∷ []) (length entries) (says_more heards entries h e each says) (one_more_is_one_longer entries e) ends (notice_end entries e ∙ fault_says h e.notice says is),
  λ has. last_of_faults heards h has,
)

-- an entry more changes nothing of where the link ends before it
pub ends_before : Laws → (setup : Setup) (entries : List Entry) (e : Entry) (n : ℕ) → n < length entries → ends_at (entries ++ e ∷ []) n ≡ ends_at entries n
ends_before law setup entries e n l =
    sym (law.ended setup (entries ++ e ∷ []) n) ∙ ap (λ (o : Outcome). is_ended o.verdict) (heard_before law setup entries e n l) ∙ law.ended setup entries n

pub ends_once : Laws → (setup : Setup) (entries : List Entry) (e : Entry) → ((n : ℕ) → n < length entries → ends_at entries n ≡ false) → ends_at (entries ++ e ∷ []) (length entries) ≡ true → EndsOnce (entries ++ e ∷ [])
ends_once law setup entries e goes_on ends = record {
  last = length entries;
  is_last = sym (one_more_is_one_longer entries e);
  ends = ends;
  not_before = λ n l. ends_before law setup entries e n l ∙ goes_on n l;
}
