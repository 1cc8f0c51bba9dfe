-- Each kind of step keeps the rule.
use Rattle.std.proofs.Common.{◌≡◌, ℕ, zero, suc, ◌+◌, ◌<◌, ◌≤◌, ⊎_elim, List, [], ◌∷◌, ◌++◌, length, get_or, set, sym, refl, ap, ◌∙◌, subst, arith, length-set, length-append}
use Rattle.std.specs.List.{All, Contains}
use mathlib.Core.Logic.{dite}
use mathlib.Core.Option.{none, some}
use native.Mathlib.Decide.{ℕ_discrete}
use lib.ListN.{get_elem?}
use Rattle.atomic_table.specs.Table.{State, step, keeps, stepped, Allows}
use Rattle.atomic_table.proofs.Lists.{at_set}
use Rattle.m17_values.specs.declared.member.Member.{Member}
use Rattle.m17_roll.specs.declared.rule.Notes.{Notes}
use Rattle.m17_roll.specs.declared.rule.Sighting.{Sighting}
use Rattle.m17_roll.specs.Sightings.{sighting, IsNotBelow}
use Rattle.m17_roll.specs.Notes.{sees, refusing, length_of}
use Rattle.m17_roll.specs.Rule.{weigh, sums, claims_by, gifts_by, Fits, Kept, Mine, looked, SeenElse}
use Rattle.m17_roll.proofs.Weighing.{total_set, sums_set}

abbrev pub St : Type 0
St = State (Unit {0}) Notes

-- a word that grew is below no word
rises : (ws : List ℕ) (i n q : ℕ) → get_or ws i 0 ≤ n → get_or ws q 0 ≤ get_or (set ws i n) q 0
rises [] i n q h = omega arith
rises (w ∷ ws) zero n zero h = h
rises (w ∷ ws) zero n (suc q) h = omega arith
rises (w ∷ ws) (suc i) n zero h = omega arith
rises (w ∷ ws) (suc i) n (suc q) h = rises ws i n q h

bounds : (ws : List ℕ) (i n q m : ℕ) → get_or ws q 0 ≤ m → n ≤ m → get_or (set ws i n) q 0 ≤ m
bounds [] i n q m h k = h
bounds (w ∷ ws) zero n zero m h k = k
bounds (w ∷ ws) zero n (suc q) m h k = h
bounds (w ∷ ws) (suc i) n zero m h k = h
bounds (w ∷ ws) (suc i) n (suc q) m h k = bounds ws i n q m h k

-- what fits the words fits them after one grew
pub grown : (ws : List ℕ) (i n : ℕ) (v : Notes) → get_or ws i 0 ≤ n → Fits ws v → Fits (set ws i n) v
grown ws i n v le fits = record {
  idle = fits.idle;
  sized = λ h. fits.sized h ∙ sym (length-set ws i n);
  below = λ k d lt. let a = fits.below k d lt in let b = rises ws i n (get_or v.seen k d).place le in omega arith;
  asked = λ h q lt. let a = fits.asked h q (let e = length-set ws i n in omega arith) in let b = rises ws i n q le in omega arith;
}

-- the seat id goes from v to w, and the word i to n
pub moves : (P N : ℕ) (s : St) → Kept P N s → (i n id : ℕ) (c : List (ℕ × Unit {0})) (v w : Notes) → get_elem? s.views id ≡ some v
    → i < P → get_or s.words i 0 ≤ n → n ≤ 18446744073709551614 → w.parts ≡ v.parts
    → ((h : ℕ → ℕ → ℕ) → weigh h w.claimed + sums h claims_by s.words ≡ weigh h v.claimed + sums h claims_by (set s.words i n))
    → ((h : ℕ → ℕ → ℕ) → weigh h w.given + sums h gifts_by s.words ≡ weigh h v.given + sums h gifts_by (set s.words i n))
    → Fits (set s.words i n) w
    → Kept P N (stepped s i n id c w keeps)
moves P N s kept i n id c v w at lt le top parts claims gifts fits = record {
  wide = length-set s.words i n ∙ kept.wide;
  bounded = λ q. bounds s.words i n q 18446744073709551614 (kept.bounded q) top;
  whole = (let e = total_set (λ (u : Notes). u.parts) s.views id v w at in let k = kept.whole in omega arith);
  claims = (λ h. let e = total_set (λ (u : Notes). weigh h u.claimed) s.views id v w at in let k = kept.claims h in let d = claims h in omega arith);
  gifts = (λ h. let e = total_set (λ (u : Notes). weigh h u.given) s.views id v w at in let k = kept.gifts h in let d = gifts h in omega arith);
  each = (λ j u is. ⊎_elim
      (λ t. subst (λ (x : Notes). Fits (set s.words i n) x) t.1 fits)
      (λ t. grown s.words i n u le (kept.each j u t.1))
      (at_set s.views id j w u is));
}

-- what seen words say stays said with one more
below_more : (ws : List ℕ) (seen : List Sighting) (q r : ℕ) → All (λ x. x.word ≤ get_or ws x.place 0) seen → r ≤ get_or ws q 0
    → All (λ x. x.word ≤ get_or ws x.place 0) (seen ++ sighting q r ∷ [])
below_more ws [] q r h le zero d lt = le
below_more ws [] q r h le (suc k) d lt = absurd (omega arith)
below_more ws (x ∷ xs) q r h le zero d lt = h zero d (omega arith)
below_more ws (x ∷ xs) q r h le (suc k) d lt = below_more ws xs q r (λ j e l. h (suc j) e (omega arith)) le k d (omega arith)

-- no word that was seen at a place is above the place's word
pub not_below : (ws : List ℕ) (v : Notes) (q : ℕ) → Fits ws v → IsNotBelow v.seen q (get_or ws q 0)
not_below ws v q fits k d lt e =
    let a = fits.below k d lt in
    let same : get_or ws (get_or v.seen k d).place 0 ≡ get_or ws q 0 = ap (λ (p : ℕ). get_or ws p 0) e in
    omega arith

-- a word that is set to what it is weighs the same
same_sum : (h : ℕ → ℕ → ℕ) (f : ℕ → ℕ) (ws : List ℕ) (i : ℕ) → i < length ws → sums h f (set ws i (get_or ws i 0)) ≡ sums h f ws
same_sum h f ws i lt = let e = sums_set h f ws i (get_or ws i 0) lt in omega arith

-- the word stays, and so do the claims and the givings back of the seat
pub stays : (P N : ℕ) (s : St) → Kept P N s → (i id : ℕ) (c : List (ℕ × Unit {0})) (v w : Notes) → get_elem? s.views id ≡ some v
    → i < P → w.parts ≡ v.parts → w.claimed ≡ v.claimed → w.given ≡ v.given → Fits s.words w
    → Kept P N (stepped s i (get_or s.words i 0) id c w keeps)
stays P N s kept i id c v w at lt parts claimed given fits =
    let wide = kept.wide in let in_words : i < length s.words = omega arith in
    moves P N s kept i (get_or s.words i 0) id c v w at lt (omega arith) (kept.bounded i) parts
    (λ h. let a = ap (λ (ms : List Member). weigh h ms) claimed in let b = same_sum h claims_by s.words i in_words in omega arith)
    (λ h. let a = ap (λ (ms : List Member). weigh h ms) given in let b = same_sum h gifts_by s.words i in_words in omega arith)
    (grown s.words i (get_or s.words i 0) w (omega arith) fits)

-- the seat has seen the word of q
pub saw : (ws : List ℕ) (v : Notes) (q : ℕ) → Fits ws v → Fits ws (sees v q (get_or ws q 0))
saw ws v q fits = record {
  idle = fits.idle;
  sized = fits.sized;
  below = below_more ws v.seen q (get_or ws q 0) fits.below (omega arith);
  asked = fits.asked;
}

pub looks : (P N slots id : ℕ) (me : Mine) (i : ℕ) → i < P
    → Allows (Kept P N) slots id me i (λ n. n) (looked (step slots i 0 0 none) me)
looks P N slots id me i lt s kept homes at small =
    let fits = kept.each id me.0 at in (
      sees me.0 i (get_or s.words i 0),
      keeps,
      tt,
      stays P N s kept i id me.1 me.0 (sees me.0 i (get_or s.words i 0)) at lt refl refl refl (saw s.words me.0 i fits),
      (refl, not_below s.words me.0 i fits),
    )

-- a word that was seen is not above the place's
pub seen_below : (ws : List ℕ) (v : Notes) (q w : ℕ) → Fits ws v → Contains v.seen (sighting q w) → w ≤ get_or ws q 0
seen_below ws v q w fits c =
    let a = fits.below c.0 (sighting q w) c.1 in
    subst (λ (x : Sighting). x.word ≤ get_or ws x.place 0) c.2 a

refused_above : (ws : List ℕ) (v : Notes) (who : List ℕ) → Fits ws v → (0 < length who → (q : ℕ) → q < length ws → 0 < get_or ws q 0)
    → 0 < length (v.refused ++ who) + length_of v.finished → (q : ℕ) → q < length ws → 0 < get_or ws q 0
refused_above ws v [] fits all h q lt = fits.asked (let e = length-append v.refused [] in omega arith) q lt
refused_above ws v (x ∷ xs) fits all h q lt = all (omega arith) q lt

-- the seat refuses askers where every word is above 0
pub refuses : (ws : List ℕ) (v : Notes) (who : List ℕ) → Fits ws v → (0 < length who → (q : ℕ) → q < length ws → 0 < get_or ws q 0)
    → Fits ws (refusing v who)
refuses ws v who fits all = record {
  idle = fits.idle;
  sized = fits.sized;
  below = fits.below;
  asked = refused_above ws v who fits all;
}

-- every word is above 0: that of this place, and those that were seen so
pub all_above : (P i : ℕ) (ws : List ℕ) (v : Notes) (who : List ℕ) → length ws ≡ P → Fits ws v → SeenElse P i v.seen who → 0 < get_or ws i 0
    → 0 < length who → (q : ℕ) → q < length ws → 0 < get_or ws q 0
all_above P i ws v who wide fits seen here asked q lt = dite (ℕ_discrete q i)
    (λ e. subst (λ (p : ℕ). 0 < get_or ws p 0) (sym e) here)
    (λ n. let t = seen asked q (omega arith) n in let a = seen_below ws v q t.0 fits t.1 in let b = t.2 in omega arith)
