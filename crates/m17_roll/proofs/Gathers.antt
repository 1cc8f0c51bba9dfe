-- `close` goes through the seats from the last to the first.
use Rattle.std.proofs.Common.{◌≡◌, ℕ, List, [], ◌∷◌, ◌++◌, length, get_or, sym, refl, ap, ◌∙◌, subst, arith, append-nil, length-append}
use Rattle.std.proofs.Math.Seq.{get_or-append_seam}
use Rattle.std.specs.List.{All}
use Rattle.std.proofs.lemmas.List.Elements.{All-cons, All-nil}
use Rattle.atomic_table.specs.Seated.{TableId}
use Rattle.m17_roll.specs.Seat.{RollView, IsSeatOf}
use Rattle.m17_roll.specs.Closing.{AreAll}
use Rattle.m17_roll.specs.Sightings.{RisesAtPlaces}
use Rattle.m17_roll.specs.Joined.{GatheredView, first_gathered, IsGathered}

-- of all seats the rest is still to come, and the others were joined
pub record Gathers (all rest : List RollView) (g : GatheredView) : Type 0 where
  pub roll : TableId
  pub places : ℕ
  pub are : AreAll roll places all
  pub done : List RollView
  pub parts : all ≡ rest ++ done
  pub gathered : IsGathered roll places (length all) done g
  pub rising : All (λ s. RisesAtPlaces s.claimed) done

-- a seat that stands among all is of the roll
of_roll : (roll : TableId) (places : ℕ) (all before after : List RollView) (s : RollView) → AreAll roll places all
    → all ≡ before ++ s ∷ after → IsSeatOf roll (length all) places s
of_roll roll places all before after s are e =
    let long = ap length e in
    let count = length-append before (s ∷ after) in
    let at : get_or all (length before) s ≡ s =
    ap (λ (xs : List RollView). get_or xs (length before) s) e ∙ get_or-append_seam before s after s in
    subst (λ (x : RollView). IsSeatOf roll (length all) places x) at (are.each (length before) s (omega arith))

pub begins_with : (roll : TableId) (places : ℕ) (all rest : List RollView) (s : RollView) → AreAll roll places all
    → all ≡ rest ++ s ∷ [] → RisesAtPlaces s.claimed → Gathers all rest (first_gathered s)
begins_with roll places all rest s are e rises =
    let of = of_roll roll places all rest [] s are e in record {
      roll = roll;
      places = places;
      are = are;
      done = s ∷ [];
      parts = e;
      gathered = record {
        same_roll = of.0;
        same_places = of.2;
        same_seats = of.1;
        parts = refl;
        claimed = sym (append-nil s.claimed);
        given = sym (append-nil s.given);
        refused = refl;
      };
      rising = All-cons (λ (x : RollView). RisesAtPlaces x.claimed) s [] rises (All-nil (λ (x : RollView). RisesAtPlaces x.claimed));
    }
