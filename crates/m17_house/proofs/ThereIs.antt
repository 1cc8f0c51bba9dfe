-- A replay there is: entry by entry, with the claim that is chosen for each, up to the first that ends the link.
use Rattle.std.proofs.Common.{◌≡◌, ◌&&◌, ℕ, zero, suc, ◌+◌, ◌<◌, ◌≤◌, Bool, true, false, List, [], ◌∷◌, ◌++◌, length, nat_lt, Option, None, Some, MatchBool, inl, inr, refl, ap, sym, subst, ◌∙◌, arith, append_assoc}
use Rattle.std.specs.List.{list_any, AllByRecursion}
use Rattle.std.proofs.lemmas.List.{append-nil}
use Rattle.std.proofs.lemmas.Bool.{cases_lt, cases_Bool, false≢true}
use Rattle.m17_lists.proofs.Lengths.{one_more_is_one_longer}
use Rattle.m17_values.specs.declared.heard.Heard.{Heard}
use Rattle.m17_directory.specs.declared.known.Known.{Known}
use Rattle.m17_directory.specs.Entries.{Claim, Entry, Notice, Says, SaysEach, claim_at, ends_at}
use Rattle.m17_directory.specs.Known.{Past}
use Rattle.m17_directory.specs.Laws.{EntriesBeforeDecide, EndedWhereItEnds, EachEntrySaysOneThing, HasBytes}
use Rattle.m17_directory.specs.Outcome.{Outcome, has_place}
use Rattle.m17_directory.specs.Routed.{past_at, unclaimed_at, others_at, asks_at, is_asks}
use Rattle.m17_directory.specs.StandsFor.{unclaimed}
use Rattle.m17_plan.specs.declared.plan.Plan.{Plan}
use Rattle.m17_house.specs.Laws.{AReplayThereIs}
use Rattle.m17_house.specs.Replay.{EndsSomewhere, IsLeastFree, IsFreeClaim, IsChosenAt, IsReplayOf, given_before}
use Rattle.m17_plan.specs.Planned.{setup_of}
use Rattle.m17_house.specs.SoFar.{AreChosen}
use Rattle.m17_house.proofs.Chosen.{chosen_more, given_same}
use Rattle.m17_house.proofs.Places.{places_had}
use Rattle.m17_house.proofs.Played.{says_more, ends_before}
use Rattle.m17_house.proofs.Posts.{claim_end, heard_same, others_same}

-- all places up to one more are had
one_more_had : (rows : List Known) (place : ℕ) → ((lower : ℕ) → lower < place → list_any (has_place lower) rows ≡ true) → list_any (has_place place) rows ≡ true → (lower : ℕ) → lower < suc place → list_any (has_place lower) rows ≡ true
one_more_had rows place had here lower below = elim (cases_lt lower place) [
  | inl less ↦ had lower less
  | inr not_less ↦
      let at : place ≡ lower = omega arith in
      subst (λ (q : ℕ). list_any (has_place q) rows ≡ true) at here
]

-- the least free place, from one below which all are had
least_from : (rows : List Known) (fuel place : ℕ) → ((lower : ℕ) → lower < place → list_any (has_place lower) rows ≡ true) → length rows < place + fuel → (p : ℕ) × IsLeastFree rows p
least_from rows zero place had few = absurd (let all = places_had place rows had in omega arith)
least_from rows (suc fuel) place had few = elim (cases_Bool (list_any (has_place place) rows)) [
  | inl here ↦ least_from rows fuel (suc place) (one_more_had rows place had here) (omega arith)
  | inr free ↦ (place, record { free = free; least = had })
]

least_free : (rows : List Known) → (p : ℕ) × IsLeastFree rows p
least_free rows = least_from rows (suc (length rows)) 0 (λ lower below. absurd (omega arith)) (omega arith)

-- The claim of an entry behind these that asks while a place is free, or does not: whatever the entry says.
record IsChoiceFor (others : List Known) (entries : List Entry) (wanted : Bool) (claim : Option Claim) : Type 0 where
  chosen : (e : Entry) → e.claim ≡ claim → MatchBool wanted (IsFreeClaim others (entries ++ e ∷ []) (length entries) (claim_at (entries ++ e ∷ []) (length entries))) (claim_at (entries ++ e ∷ []) (length entries) ≡ None)

choice_for : (others : List Known) (entries : List Entry) (wanted : Bool) → (claim : Option Claim) × IsChoiceFor others entries wanted claim
choice_for others entries true =
    let (place, least) = least_free others in
    let it : Claim = record { member = record { place = place; generation = given_before entries place (length entries) }; after = 0 } in (
      Some it,
      record {
        chosen = λ e is. record {
          it = it;
          is_it = claim_end entries e ∙ is;
          place = least;
          generation = sym (given_same entries e place (length entries) (omega arith));
          after = refl;
        };
      },
    )
choice_for others entries false = (None, record { chosen = λ e is. claim_end entries e ∙ is })

-- The entry that says this behind these, with its claim.
record IsNext (plan : Plan) (entries : List Entry) (notice : Notice) : Type 0 where
  entry : Entry
  says : entry.notice ≡ notice
  chosen : IsChosenAt (setup_of plan) (entries ++ entry ∷ []) (length entries)

next : EntriesBeforeDecide → (plan : Plan) (entries : List Entry) (notice : Notice) → IsNext plan entries notice
next law plan entries notice =
    let n : ℕ = length entries in
    let bare : Past = past_at (setup_of plan) (entries ++ unclaimed notice ∷ []) n in
    let (claim, choice) = choice_for (others_at bare) entries (asks_at bare && nat_lt (length (others_at bare)) plan.places) in
    let e : Entry = record { notice = notice; claim = claim } in
    let longer : List Entry = entries ++ e ∷ [] in
    let past : Past = past_at (setup_of plan) longer n in
    let heards : unclaimed_at bare ≡ unclaimed_at past = heard_same law (setup_of plan) entries (unclaimed notice) e refl in
    let others : others_at bare ≡ others_at past = others_same law (setup_of plan) entries (unclaimed notice) e refl in
    record {
      entry = e;
      says = refl;
      chosen = subst (λ (rows : List Known). MatchBool (asks_at past && nat_lt (length rows) plan.places) (IsFreeClaim rows longer n (claim_at longer n)) (claim_at longer n ≡ None)) others
          (subst (λ (o : Outcome). MatchBool (is_asks o.verdict && nat_lt (length (others_at bare)) plan.places) (IsFreeClaim (others_at bare) longer n (claim_at longer n)) (claim_at longer n ≡ None)) heards
          (choice.chosen e refl));
    }

-- So much was heard, none of which ends the link, and these are its entries.
record IsBegun (plan : Plan) (front : List Heard) (entries : List Entry) : Type 0 where
  says : SaysEach front entries
  open_still : (n : ℕ) → n < length entries → ends_at entries n ≡ false
  chosen : AreChosen plan entries

module _ (reading : EachEntrySaysOneThing) (law : EntriesBeforeDecide) (ends : EndedWhereItEnds) (plan : Plan) where
  open_more : (entries : List Entry) (e : Entry) → ((n : ℕ) → n < length entries → ends_at entries n ≡ false) → ends_at (entries ++ e ∷ []) (length entries) ≡ false → (n : ℕ) → n < length (entries ++ e ∷ []) → ends_at (entries ++ e ∷ []) n ≡ false
  open_more entries e before last n below = elim (cases_lt n (length entries)) [
    | inl earlier ↦ ends_before law ends plan entries e n earlier ∙ before n earlier
    | inr not_earlier ↦
        let here : length entries ≡ n = omega (arith, one_more_is_one_longer entries e) in
        subst (λ (i : ℕ). ends_at (entries ++ e ∷ []) i ≡ false) here last
  ]

  -- from there to the first entry that ends the link
  from : (front rest : List Heard) (entries : List Entry) → AllByRecursion HasBytes rest → IsBegun plan front entries → EndsSomewhere (front ++ rest) → (all : List Entry) × IsReplayOf plan (front ++ rest) all
  from front [] entries bytes begun somewhere =
      let (n, within, over) = somewhere entries (subst (λ (hs : List Heard). SaysEach hs entries) (sym (append-nil front)) begun.says) in
      absurd (false≢true (sym (begun.open_still n within) ∙ over))
  from front (h ∷ rest) entries bytes begun somewhere =
      let (notice, says, one) = reading h bytes.0 in
      let it = next law plan entries notice in
      let e : Entry = it.entry in
      let longer : List Entry = entries ++ e ∷ [] in
      let more : SaysEach (front ++ h ∷ []) longer = says_more front entries h e begun.says (subst (λ (m : Notice). Says h m) (sym it.says) says) in
      let chosen : AreChosen plan longer = chosen_more law plan entries e begun.chosen it.chosen in
      let whole : (front ++ h ∷ []) ++ rest ≡ front ++ h ∷ rest = append_assoc front (h ∷ []) rest in
      elim (cases_Bool (ends_at longer (length entries))) [
        | inl over ↦ (
          longer,
          record {
            front = front ++ h ∷ [];
            rest = rest;
            heard_is = sym whole;
            says = more;
            ends = record {
              last = length entries;
              is_last = sym (one_more_is_one_longer entries e);
              ends = over;
              not_before = λ n earlier. ends_before law ends plan entries e n earlier ∙ begun.open_still n earlier;
            };
            chosen = chosen;
          },
        )
        | inr going ↦
            let further = from (front ++ h ∷ []) rest longer bytes.1 (record { says = more; open_still = open_more entries e begun.open_still going; chosen = chosen }) (subst EndsSomewhere (sym whole) somewhere) in
            (further.0, subst (λ (hs : List Heard). IsReplayOf plan hs further.0) whole further.1)
      ]

pub there_is : EachEntrySaysOneThing → EntriesBeforeDecide → EndedWhereItEnds → AReplayThereIs
there_is reading law ends plan heard bytes somewhere =
    from reading law ends plan [] heard [] bytes (record { says = tt; open_still = λ n below. absurd (omega arith); chosen = λ n below. absurd (omega arith) }) somewhere
