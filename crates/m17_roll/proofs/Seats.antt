-- Cutting a seat in two, joining two, and the look of the one seat that is left, keep the rule.
use Rattle.std.proofs.Common.{◌≡◌, ℕ, zero, suc, ◌+◌, ◌<◌, ◌⊎◌, inl, inr, ⊎_elim, List, [], length, get_or, set, sym, refl, ap, subst, arith}
use mathlib.Core.Option.{none, some}
use lib.ListN.{get_elem?}
use Rattle.atomic_table.specs.Table.{step, keeps, Allows, Splits, Joins, opening}
use Rattle.atomic_table.proofs.Lists.{at_set, at_snoc}
use Rattle.m17_values.specs.declared.member.Member.{Member}
use Rattle.m17_roll.specs.declared.rule.Notes.{Notes}
use Rattle.m17_roll.specs.Notes.{newcomer, rest_of, joined, refusals}
use Rattle.m17_roll.specs.Rule.{weigh, claims_by, gifts_by, Fits, Kept, Mine, reads}
use Rattle.m17_roll.proofs.Weighing.{total_set, total_snoc, total_alone, sums_zero}
use Rattle.m17_roll.proofs.Marks.{weigh_append}
use Rattle.m17_roll.proofs.Steps.{stays}

-- a seat that has done nothing fits
new_fits : (ws : List ℕ) (places parts : ℕ) → (0 < parts → places ≡ length ws) → Fits ws (newcomer places parts)
new_fits ws places parts wide = record {
  idle = λ _. (refl, refl);
  sized = wide;
  below = λ k d lt. absurd (omega arith);
  asked = λ h q lt. absurd (omega arith);
}

pub splitting : (P N id : ℕ) (v : Notes) → 1 < v.parts → Splits (Kept P N) id v (rest_of v) (newcomer v.places 1)
splitting P N id v more s kept at =
    let fits = kept.each id v at in record {
      wide = kept.wide;
      bounded = kept.bounded;
      whole = (
          let a = total_set (λ u. u.parts) s.views id v (rest_of v) at in
          let b = total_snoc (λ u. u.parts) (set s.views id (rest_of v)) (newcomer v.places 1) in
          let k = kept.whole in omega arith);
      claims = (λ h.
          let a = total_set (λ u. weigh h u.claimed) s.views id v (rest_of v) at in
          let b = total_snoc (λ u. weigh h u.claimed) (set s.views id (rest_of v)) (newcomer v.places 1) in
          let k = kept.claims h in omega arith);
      gifts = (λ h.
          let a = total_set (λ u. weigh h u.given) s.views id v (rest_of v) at in
          let b = total_snoc (λ u. weigh h u.given) (set s.views id (rest_of v)) (newcomer v.places 1) in
          let k = kept.gifts h in omega arith);
      each = (λ j u is. ⊎_elim
          (λ e. ⊎_elim
          (λ t. subst (λ (x : Notes). Fits s.words x) t.1 record { idle = λ z. absurd (omega arith); sized = λ _. fits.sized (omega arith); below = fits.below; asked = fits.asked })
          (λ t. kept.each j u t.1)
          (at_set s.views id j (rest_of v) u e))
          (λ e. subst (λ (x : Notes). Fits s.words x) e (new_fits s.words v.places 1 (λ _. fits.sized (omega arith))))
          (at_snoc (set s.views id (rest_of v)) (newcomer v.places 1) u j is));
    }

one_of : (a b : ℕ) → 0 < a + b → (0 < a) ⊎ (0 < b)
one_of zero b h = inr (omega arith)
one_of (suc a) b h = inl (omega arith)

-- who was refused by one of two was refused by the first or by the second
one_asked : (v w : Notes) → 0 < refusals (joined v w) → (0 < refusals v) ⊎ (0 < refusals w)
one_asked v w h = one_of (refusals v) (refusals w) (omega arith)

-- two seats are one: each list is the second's and then the first's
join_fits : (ws : List ℕ) (v w : Notes) → 0 < v.parts → Fits ws v → Fits ws w → Fits ws (joined v w)
join_fits ws v w part a b = record {
  idle = λ z. absurd (omega arith);
  sized = λ _. a.sized part;
  below = a.below;
  asked = λ h q lt. ⊎_elim (λ x. a.asked x q lt) (λ x. b.asked x q lt) (one_asked v w h);
}

pub joining : (P N id : ℕ) (v : Notes) (other : ℕ) (w : Notes) → 0 < v.parts
    → Joins (Kept P N) id v other w (joined v w) (newcomer 0 0)
joining P N id v other w part s kept at apart at_other =
    let b : Notes = joined v w in
    let spent : Notes = newcomer 0 0 in
    let views : List Notes = set s.views id b in
    let fits = kept.each id v at in
    let fits_other : Fits s.words w = ⊎_elim (λ t. absurd (apart t.0)) (λ t. kept.each other w t.1) (at_set s.views id other b w at_other) in record {
      wide = kept.wide;
      bounded = kept.bounded;
      whole = (
          let a = total_set (λ u. u.parts) s.views id v b at in
          let c = total_set (λ u. u.parts) views other w spent at_other in
          let k = kept.whole in omega arith);
      claims = (λ h.
          let a = total_set (λ u. weigh h u.claimed) s.views id v b at in
          let c = total_set (λ u. weigh h u.claimed) views other w spent at_other in
          let d = weigh_append h w.claimed v.claimed in
          let k = kept.claims h in omega arith);
      gifts = (λ h.
          let a = total_set (λ u. weigh h u.given) s.views id v b at in
          let c = total_set (λ u. weigh h u.given) views other w spent at_other in
          let d = weigh_append h w.given v.given in
          let k = kept.gifts h in omega arith);
      each = (λ j u is. ⊎_elim
          (λ t. subst (λ (x : Notes). Fits s.words x) t.1 (new_fits s.words 0 0 (λ z. absurd (omega arith))))
          (λ t. ⊎_elim
          (λ t. subst (λ (x : Notes). Fits s.words x) t.1 (join_fits s.words v w part fits fits_other))
          (λ t. kept.each j u t.1)
          (at_set s.views id j b u t.1))
          (at_set views other j spent u is));
    }

-- the seat that has every part knows all claims and givings back
pub reading : (P N slots id : ℕ) (me : Mine) (i : ℕ) → me.0.parts ≡ N → 0 < N → i < P
    → Allows (Kept P N) slots id me i (λ n. n) (reads (step slots i 0 0 none) me)
reading P N slots id me i all some_seat lt s kept homes at small =
    let fits = kept.each id me.0 at in
    let whole = kept.whole in (
      me.0,
      keeps,
      tt,
      stays P N s kept i id me.1 me.0 me.0 at lt refl refl refl fits,
      (
        refl,
        record {
          words = s.words;
          wide = sym (fits.sized (omega arith));
          found = refl;
          claims = (λ h.
              let a = total_alone (λ u. u.parts) (λ u. weigh h u.claimed) s.views id me.0 at
              (λ j w is z. ap (λ (ms : List Member). weigh h ms) ((kept.each j w is).idle z).0) (omega arith) in
              let k = kept.claims h in omega arith);
          gifts = (λ h.
              let a = total_alone (λ u. u.parts) (λ u. weigh h u.given) s.views id me.0 at
              (λ j w is z. ap (λ (ms : List Member). weigh h ms) ((kept.each j w is).idle z).1) (omega arith) in
              let k = kept.gifts h in omega arith);
          asked = fits.asked;
        },
      ),
    )

no_elem : (j : ℕ) (u : Notes) → get_elem? [] j ≡ some u → ⊥
no_elem j u e = cc

-- the table at the start
pub begins : (P N : ℕ) (ws : List ℕ) → length ws ≡ P → ((q : ℕ) → ◌≡◌ {A = ℕ} (get_or ws q 0) 0)
    → Kept P N (opening ws [] (newcomer P N))
begins P N ws wide none_taken = record {
  wide = wide;
  bounded = λ q. let e = none_taken q in omega arith;
  whole = omega arith;
  claims = λ h. let e = sums_zero h claims_by ws refl none_taken in omega arith;
  gifts = λ h. let e = sums_zero h gifts_by ws refl none_taken in omega arith;
  each = λ j u is. ⊎_elim
      (λ e. absurd (no_elem j u e))
      (λ e. subst (λ (x : Notes). Fits ws x) e (new_fits ws P N (λ _. sym wide)))
      (at_snoc [] (newcomer P N) u j is);
}
