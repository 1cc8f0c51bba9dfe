-- The claims of one entry more.
use Rattle.std.proofs.Common.{◌≡◌, ◌⊎◌, ℕ, suc, ◌<◌, Bool, true, false, cond, List, [], ◌∷◌, ◌++◌, length, refl, ap, sym, subst, ◌∙◌, inl, inr, arith, Option, None, Some}
use Rattle.std.specs.List.{list_any, range_with_len, filter}
use Rattle.std.specs.Option.{option_map, option_to_list}
use Rattle.std.proofs.lemmas.Bool.{cases_lt}
use Rattle.std.proofs.lemmas.List.Elements.{filter_map-append}
use Rattle.std.proofs.lemmas.Option.{none-some}
use Rattle.m17_lists.proofs.Lengths.{one_more_is_one_longer}
use Rattle.m17_roll.specs.Seat.{RollView}
use Rattle.m17_directory.specs.Entries.{Claim, Entry, Setup, claim_at}
use Rattle.m17_directory.specs.Outcome.{has_place}
use Rattle.m17_directory.specs.Routed.{past_at, asks_at, others_at, link_verdict}
use Rattle.m17_directory.specs.Laws.{ClaimsAreAsked, claimed_members, is_full}
use Rattle.m17_receiver.specs.Claims.{HasClaimed, IsPatientAt, HasFreePlaceAt, turned_away}
use Rattle.m17_receiver.specs.SoFar.{Laws, past_with}
use Rattle.m17_receiver.proofs.Lists.{filter_more, filter_same}
use Rattle.m17_receiver.proofs.Positions.{claim_before, claim_end, claim_within_more, asks_before, others_before, verdict_before}

-- a position of a list with one more is one of the list, or the last
pub position_cases : (n m : ℕ) → n < suc m → (n < m) ⊎ (n ≡ m)
position_cases n m l = elim (cases_lt n m) [ inl below ↦ inl below | inr past ↦ inr (omega arith) ]

pub at_end_or_before : {A : Type 0} (xs : List A) (y : A) (n : ℕ) → n < length (xs ++ y ∷ []) → (n < length xs) ⊎ (n ≡ length xs)
at_end_or_before xs y n l = position_cases n (length xs) (omega (arith, l, one_more_is_one_longer xs y))

-- What one entry more claims.
pub record ClaimsOne (patient : Bool) (setup : Setup) (entries : List Entry) (e : Entry) (old new : RollView) : Type 0 where
  pub only : asks_at (past_with setup entries e) ≡ false → e.claim ≡ None
  pub claims : new.claimed ≡ old.claimed ++ option_to_list (option_map (λ (c : Claim). c.member) e.claim)
  pub given : new.given ≡ old.given
  pub refused : patient ≡ false → new.refused ≡ old.refused ++ cond (is_full (link_verdict setup (entries ++ e ∷ []) (length entries))) (length entries ∷ []) []
  pub patient_claims : patient ≡ true → asks_at (past_with setup entries e) ≡ true → IsPatientAt setup (entries ++ e ∷ []) (length entries)
  pub patient_places : patient ≡ true → (claim : Claim) → e.claim ≡ Some claim → list_any (has_place claim.member.place) (others_at (past_with setup entries e)) ≡ false

one_member : (o : Option Claim) (e : Entry) → e.claim ≡ o → claimed_members (e ∷ []) ≡ option_to_list (option_map (λ (c : Claim). c.member) o)
one_member None e is = rw is refl
one_member (Some c) e is = rw is refl

members_more : (entries : List Entry) (e : Entry) → claimed_members (entries ++ e ∷ []) ≡ claimed_members entries ++ option_to_list (option_map (λ (c : Claim). c.member) e.claim)
members_more entries e =
    filter_map-append (λ (x : Entry). option_map (λ (c : Claim). c.member) x.claim) entries (e ∷ [])
    ∙ ap (λ ms. claimed_members entries ++ ms) (one_member e.claim e refl)

turned_more : Laws → (setup : Setup) (entries : List Entry) (e : Entry) → turned_away setup (entries ++ e ∷ []) ≡ turned_away setup entries ++ cond (is_full (link_verdict setup (entries ++ e ∷ []) (length entries))) (length entries ∷ []) []
unfolding turned_away
turned_more law setup entries e =
    let longer : List Entry = entries ++ e ∷ [] in
    let n : ℕ = length entries in
    ap (λ m. filter (λ i. is_full (link_verdict setup longer i)) (range_with_len 0 m)) (one_more_is_one_longer entries e)
    ∙ filter_more (λ i. is_full (link_verdict setup longer i)) n
    ∙ ap (λ xs. xs ++ cond (is_full (link_verdict setup longer n)) (n ∷ []) [])
    (filter_same (λ i. is_full (link_verdict setup longer i)) (λ i. is_full (link_verdict setup entries i)) 0 n
    (λ i l. ap is_full (verdict_before law setup entries e i (omega arith))))

pub asked_more : Laws → (setup : Setup) (entries : List Entry) (e : Entry) → ClaimsAreAsked setup entries → (asks_at (past_with setup entries e) ≡ false → e.claim ≡ None) → ClaimsAreAsked setup (entries ++ e ∷ [])
asked_more law setup entries e before only n l silent = elim (at_end_or_before entries e n l) [
  | inl earlier ↦ claim_before entries e n earlier ∙ before n earlier (sym (asks_before law setup entries e n earlier) ∙ silent)
  | inr last ↦ ap (claim_at (entries ++ e ∷ [])) last ∙ claim_end entries e ∙ only (ap (λ m. asks_at (past_at setup (entries ++ e ∷ []) m)) (sym last) ∙ silent)
]

patient_before : Laws → (setup : Setup) (entries : List Entry) (e : Entry) (n : ℕ) → n < length entries → IsPatientAt setup entries n → IsPatientAt setup (entries ++ e ∷ []) n
patient_before law setup entries e n l was =
    let claim : claim_at (entries ++ e ∷ []) n ≡ claim_at entries n = claim_before entries e n l in
    let others : length (others_at (past_at setup (entries ++ e ∷ []) n)) ≡ length (others_at (past_at setup entries n)) = ap length (others_before law setup entries e n l) in
    (λ none. others ∙ was.0 (sym claim ∙ none), λ all. claim ∙ was.1 (sym others ∙ all))

places_before : Laws → (setup : Setup) (entries : List Entry) (e : Entry) (n : ℕ) → n < length entries → HasFreePlaceAt setup entries n → HasFreePlaceAt setup (entries ++ e ∷ []) n
places_before law setup entries e n l was claim has =
    ap (list_any (has_place claim.member.place)) (others_before law setup entries e n l) ∙ was claim (sym (claim_before entries e n l) ∙ has)

places_more : Laws → (setup : Setup) (entries : List Entry) (e : Entry) → ((n : ℕ) → HasFreePlaceAt setup entries n) →
    ((claim : Claim) → e.claim ≡ Some claim → list_any (has_place claim.member.place) (others_at (past_with setup entries e)) ≡ false) → (n : ℕ) → HasFreePlaceAt setup (entries ++ e ∷ []) n
places_more law setup entries e before here n claim has = elim (position_cases n (length entries) (claim_within_more entries e n claim has)) [
  | inl earlier ↦ places_before law setup entries e n earlier (before n) claim has
  | inr last ↦
      ap (λ m. list_any (has_place claim.member.place) (others_at (past_at setup (entries ++ e ∷ []) m))) last
      ∙ here claim (sym (claim_end entries e) ∙ ap (claim_at (entries ++ e ∷ [])) (sym last) ∙ has)
]

pub claimed_more : Laws → (patient : Bool) (setup : Setup) (entries : List Entry) (e : Entry) (old new : RollView) → HasClaimed patient setup entries old → ClaimsOne patient setup entries e old new → HasClaimed patient setup (entries ++ e ∷ []) new
claimed_more law patient setup entries e old new before one = record {
  asked = asked_more law setup entries e before.asked one.only;
  claims = one.claims ∙ ap (λ ms. ms ++ option_to_list (option_map (λ (c : Claim). c.member) e.claim)) before.claims ∙ sym (members_more entries e);
  given = one.given ∙ before.given;
  refused = λ impatient. one.refused impatient
      ∙ ap (λ ns. ns ++ cond (is_full (link_verdict setup (entries ++ e ∷ []) (length entries))) (length entries ∷ []) []) (before.refused impatient)
      ∙ sym (turned_more law setup entries e);
  patient_claims = λ patience n l asks. elim (at_end_or_before entries e n l) [
    | inl earlier ↦ patient_before law setup entries e n earlier (before.patient_claims patience n earlier (sym (asks_before law setup entries e n earlier) ∙ asks))
    | inr last ↦ subst (IsPatientAt setup (entries ++ e ∷ [])) (sym last) (one.patient_claims patience (ap (λ m. asks_at (past_at setup (entries ++ e ∷ []) m)) (sym last) ∙ asks))
  ];
  patient_places = λ patience. places_more law setup entries e (before.patient_places patience) (one.patient_places patience);
}

turned_nothing : (setup : Setup) → turned_away setup [] ≡ []
unfolding turned_away
turned_nothing setup = refl

-- nothing was claimed yet
pub claimed_none : (patient : Bool) (setup : Setup) (seat : RollView) → seat.claimed ≡ [] → seat.given ≡ [] → seat.refused ≡ [] → HasClaimed patient setup [] seat
claimed_none patient setup seat claims given refused = record {
  asked = λ n l. absurd (omega arith);
  claims = claims;
  given = given;
  refused = λ _. refused ∙ sym (turned_nothing setup);
  patient_claims = λ _ n l. absurd (omega arith);
  patient_places = λ _ n claim has. absurd (none-some claim has);
}
