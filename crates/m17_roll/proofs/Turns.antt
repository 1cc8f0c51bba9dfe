-- A claim goes from place to place: what its looks say so far.
use Rattle.std.proofs.Common.{◌≡◌, ◌≢◌, ℕ, zero, suc, ◌+◌, ◌*◌, ◌%◌, ◌<◌, ◌≤◌, inl, inr, ⊎_elim, Bool, cond, eqb, eq-eqb, ne_eqb, List, [], ◌∷◌, ◌++◌, length, sym, ap, ◌∙◌, subst, arith, append-nil, append_assoc, length-append}
use Rattle.std.specs.List.{Contains, slice_get}
use Rattle.std.specs.Prelude.{Some}
use Rattle.std.proofs.lemmas.Option.{slice_get_within, get_or_from_slice_get}
use Rattle.std.proofs.lemmas.List.Elements.{Contains-append_left, Contains-append_right}
use mathlib.Core.Logic.{dite}
use native.Mathlib.Decide.{ℕ_discrete}
use Rattle.m17_values.specs.declared.member.Member.{Member}
use Rattle.m17_roll.specs.declared.rule.Sighting.{Sighting}
use Rattle.m17_roll.specs.Sightings.{sighting, IsTaken, IsSeenTaken, IsNewAt}
use Rattle.m17_roll.specs.Seat.{RollView, with_looks, with_refused, with_claim, IsClaim, IsRefusal, PassesAt, TakesAt}
use Rattle.m17_roll.specs.Rule.{SeenElse}

-- who is refused where the place n - 1 is found taken: the asker at the last place, and else nobody
abbrev pub written : ℕ → ℕ → ℕ → List ℕ
written n places asker = cond (eqb n places) (asker ∷ []) []

-- the places below n were seen taken
pub record Passed (old : RollView) (n asker : ℕ) (now : RollView) : Type 0 where
  pub looks : List Sighting
  pub few : length looks ≤ 2 * n
  pub taken : (q : ℕ) → q < n → IsSeenTaken looks q
  pub after : now ≡ with_refused (with_looks old looks) (written n old.places asker)

written_early : (n places asker : ℕ) → n ≢ places → written n places asker ≡ []
written_early n places asker ne = ap (λ (b : Bool). let r : List ℕ = cond b (asker ∷ []) [] in r) (ne_eqb n places ne)

written_last : (n places asker : ℕ) → n ≡ places → written n places asker ≡ asker ∷ []
written_last n places asker e = ap (λ (b : Bool). let r : List ℕ = cond b (asker ∷ []) [] in r) (eq-eqb n places e)

get_left : (xs ys : List Sighting) (i : ℕ) (x : Sighting) → slice_get xs i ≡ Some x → slice_get (xs ++ ys) i ≡ Some x
get_left [] ys i x e = cc
get_left (y ∷ xs) ys zero x e = e
get_left (y ∷ xs) ys (suc i) x e = get_left xs ys i x e

get_right : (xs ys : List Sighting) (i : ℕ) (x : Sighting) → slice_get ys i ≡ Some x → slice_get (xs ++ ys) (length xs + i) ≡ Some x
get_right [] ys i x e = subst (λ (k : ℕ). slice_get ys k ≡ Some x) (omega arith) e
get_right (y ∷ xs) ys i x e =
    let k : suc (length xs + i) ≡ length (y ∷ xs) + i = omega arith in
    let r : slice_get (y ∷ (xs ++ ys)) (suc (length xs + i)) ≡ Some x = get_right xs ys i x e in
    subst (λ (n : ℕ). slice_get (y ∷ (xs ++ ys)) n ≡ Some x) k r

pub taken_left : (xs ys : List Sighting) (q : ℕ) → IsSeenTaken xs q → IsSeenTaken (xs ++ ys) q
taken_left xs ys q h = ⊎_elim
    (λ t. inl (t.0, Contains-append_left xs ys (sighting q t.0) t.1, t.2))
    (λ t. inr (t.0, t.1, t.2, t.3, t.4, get_left xs ys t.0 (sighting q t.2) t.5, get_left xs ys t.1 (sighting q t.3) t.6, t.7))
    h

pub taken_right : (xs ys : List Sighting) (q : ℕ) → IsSeenTaken ys q → IsSeenTaken (xs ++ ys) q
taken_right xs ys q h = ⊎_elim
    (λ t. inl (t.0, Contains-append_right xs ys (sighting q t.0) t.1, t.2))
    (λ t. inr (length xs + t.0, length xs + t.1, t.2, t.3, (let lt = t.4 in omega arith), get_right xs ys t.0 (sighting q t.2) t.5, get_right xs ys t.1 (sighting q t.3) t.6, t.7))
    h

above : (w : ℕ) → IsTaken w → 0 < w
above w t = ⊎_elim (λ odd. let e : w % 2 ≡ 1 = odd in omega arith) (λ is. let e : w ≡ 18446744073709551614 = is in omega arith) t

-- a place that was seen taken was seen with a word above 0
taken_above : (looks : List Sighting) (q : ℕ) → IsSeenTaken looks q → (w : ℕ) × Contains looks (sighting q w) × (0 < w)
taken_above looks q h = ⊎_elim
    (λ t. (t.0, t.1, above t.0 t.2))
    (λ t. (
      t.3,
      (t.1, slice_get_within looks t.1 (sighting q t.3) t.6, get_or_from_slice_get looks t.1 (sighting q t.3) (sighting q t.3) t.6),
      (let lt = t.7 in omega arith),
    ))
    h

-- before its last place a claim has refused nobody
so_far : (old now : RollView) (n asker : ℕ) (p : Passed old n asker now) → n < old.places → now ≡ with_looks old p.looks
so_far old now n asker p lt =
    let nobody = written_early n old.places asker (λ e. omega arith) in
    p.after ∙ ap (λ (who : List ℕ). record old { seen = old.seen ++ p.looks; refused = who }) (ap (λ (who : List ℕ). old.refused ++ who) nobody ∙ append-nil old.refused)

pub goes_on : (old now new : RollView) (n asker : ℕ) → Passed old n asker now → n < old.places
    → PassesAt now n (written (n + 1) now.places asker) new → Passed old (n + 1) asker new
goes_on old now new n asker p lt here =
    let at = so_far old now n asker p lt in record {
      looks = p.looks ++ here.looks;
      few = (let a = p.few in let b = here.few in let e = length-append p.looks here.looks in omega arith);
      taken = (λ q less. dite (ℕ_discrete q n)
          (λ e. subst (λ (k : ℕ). IsSeenTaken (p.looks ++ here.looks) k) (sym e) (taken_right p.looks here.looks n here.taken))
          (λ ne. taken_left p.looks here.looks q (p.taken q (omega arith))));
      after = here.after
          ∙ ap (λ (v : RollView). with_refused (with_looks v here.looks) (written (n + 1) v.places asker)) at
          ∙ ap (λ (xs : List Sighting). record old { seen = xs; refused = old.refused ++ written (n + 1) old.places asker }) (append_assoc old.seen p.looks here.looks);
    }

pub seen_else : (old now : RollView) (n asker : ℕ) → Passed old n asker now → n < old.places
    → SeenElse now.places n now.seen (written (n + 1) now.places asker)
seen_else old now n asker p lt asked q less other =
    let at = so_far old now n asker p lt in
    let places : now.places ≡ old.places = ap (λ (v : RollView). v.places) at in
    let seen : now.seen ≡ old.seen ++ p.looks = ap (λ (v : RollView). v.seen) at in
    let last : n + 1 ≡ now.places = dite (ℕ_discrete (n + 1) now.places) (λ e. e)
    (λ ne. absurd (let e = ap length (written_early (n + 1) now.places asker ne) in omega arith)) in
    let t = taken_above p.looks q (p.taken q (omega arith)) in
    (t.0, subst (λ (xs : List Sighting). Contains xs (sighting q t.0)) (sym seen) (Contains-append_right old.seen p.looks (sighting q t.0) t.1), t.2)

pub claims_here : (old now new : RollView) (n asker : ℕ) (m : Member) → Passed old n asker now → n < old.places
    → TakesAt now n m new → IsClaim old m new
claims_here old now new n asker m p lt here =
    let at = so_far old now n asker p lt in
    let at_place = here.here in record {
      looks = p.looks;
      few = (let a = p.few in omega arith);
      lower = λ q less. p.taken q (omega arith);
      after = here.after
          ∙ ap (λ (v : RollView). with_claim (with_looks v (sighting n (2 * m.generation) ∷ [])) m) at
          ∙ ap (λ (xs : List Sighting). record old { seen = xs; claimed = old.claimed ++ m ∷ [] }) (append_assoc old.seen p.looks (sighting n (2 * m.generation) ∷ []))
          ∙ ap (λ (k : ℕ). record old { seen = old.seen ++ (p.looks ++ sighting k (2 * m.generation) ∷ []); claimed = old.claimed ++ m ∷ [] }) (sym at_place);
      in_roll = omega arith;
      not_last = here.not_last;
      newer = (
          let claimed : now.claimed ≡ old.claimed = ap (λ (v : RollView). v.claimed) at in
          subst (λ (ms : List Member). IsNewAt ms m.place m.generation) claimed
          (subst (λ (k : ℕ). IsNewAt now.claimed k m.generation) (sym at_place) here.newer));
    }

pub refuses_all : (old now : RollView) (n asker : ℕ) → Passed old n asker now → n ≡ old.places → IsRefusal old asker now
refuses_all old now n asker p e = record {
  looks = p.looks;
  few = (let a = p.few in omega arith);
  all_taken = λ q lt. p.taken q (omega arith);
  after = p.after ∙ ap (λ (who : List ℕ). with_refused (with_looks old p.looks) who) (written_last n old.places asker e);
}
