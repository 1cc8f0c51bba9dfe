-- The steps of a claim and of a giving back keep the rule.
use Rattle.std.proofs.Common.{◌≡◌, ℕ, suc, ◌+◌, ◌*◌, ◌/◌, ◌%◌, ◌<◌, ◌≤◌, inl, inr, ⊎_elim, eqb, List, [], ◌∷◌, ◌++◌, get_or, refl, arith, lt_of_not-le}
use Rattle.std.specs.List.{Contains}
use Rattle.std.proofs.lemmas.List.Elements.{Contains-append_left}
use mathlib.Core.Logic.{dite}
use mathlib.Core.Option.{none, some}
use native.Mathlib.Decide.{ℕ_discrete, dec_le}
use lib.ListN.{get_elem?}
use prog.Atomic.{either}
use Rattle.atomic_table.specs.Table.{step, keeps, stepped, Act, Valid, carried_after, Allows}
use Rattle.atomic_table.proofs.Lists.{exchanged}
use Rattle.m17_roll.specs.declared.rule.Notes.{Notes}
use Rattle.m17_roll.specs.declared.rule.Sighting.{Sighting}
use Rattle.m17_roll.specs.Sightings.{sighting, member, IsNewAt, IsTaken}
use Rattle.m17_roll.specs.Notes.{sees, claiming, giving, missing, refusing}
use Rattle.m17_roll.specs.Rule.{weigh, claims_by, gifts_by, Kept, Mine, looked_for, claims_for, gives, SeenElse}
use Rattle.m17_roll.proofs.Weighing.{total_has, sums_set, upto_at}
use Rattle.m17_roll.proofs.Marks.{mark, mark_here, weigh_append, weigh_has, none_sum}
use Rattle.m17_roll.proofs.Steps.{St, grown, moves, stays, saw, not_below, seen_below, refuses, all_above}

pub looking_for : (P N slots id : ℕ) (me : Mine) (i : ℕ) (who : List ℕ) → i < P → SeenElse P i me.0.seen who
    → Allows (Kept P N) slots id me i (λ n. n) (looked_for who (step slots i 0 0 none) me)
looking_for P N slots id me i who lt seen s kept homes at small =
    let r : ℕ = get_or s.words i 0 in
    let fits = kept.each id me.0 at in
    let fits' = saw s.words me.0 i fits in
    let below = not_below s.words me.0 i fits in
    let found : IsTaken r → (w : Notes) × (a : Act (Unit {0})) × Valid s.homes me.1 a × Kept P N (stepped s i r id me.1 w a)
    × looked_for who (step slots i 0 0 none) me r (w, carried_after me.1 a) = (λ t. (
      refusing (sees me.0 i r) who,
      keeps,
      tt,
      stays P N s kept i id me.1 me.0 (refusing (sees me.0 i r) who) at lt refl refl refl
          (refuses s.words (sees me.0 i r) who fits'
          (all_above P i s.words me.0 who kept.wide fits seen (⊎_elim (λ odd. let e : r % 2 ≡ 1 = odd in omega arith) (λ is. let e : r ≡ 18446744073709551614 = is in omega arith) t))),
      record { not_below = below; taken = λ _. refl; free = λ n. absurd (n t) },
    )) in
    dite (ℕ_discrete (r % 2) 1)
    (λ odd. found (inl odd))
    (λ even. dite (ℕ_discrete r 18446744073709551614)
    (λ is. found (inr is))
    (λ not. (
      sees me.0 i r,
      keeps,
      tt,
      stays P N s kept i id me.1 me.0 (sees me.0 i r) at lt refl refl refl fits',
      record { not_below = below; taken = λ t. absurd (⊎_elim even not t); free = λ _. refl },
    )))

-- a generation that the words don't know yet is later than all that a seat claimed
new_at : (P N : ℕ) (s : St) → Kept P N s → (id i g : ℕ) (v : Notes) → get_elem? s.views id ≡ some v → i < P
    → get_or s.words i 0 ≡ 2 * g → IsNewAt v.claimed i g
new_at P N s kept id i g v at lt is k d in_list here = dite (dec_le g (get_or v.claimed k d).generation)
    (λ le.
    let m = get_or v.claimed k d in
    let b : ℕ = m.generation in
    let wide = kept.wide in
    let one = mark_here i b m.place b here refl in
    let mine = weigh_has (mark i b) v.claimed k d in_list in
    let all = total_has (λ u. weigh (mark i b) u.claimed) s.views id v at in
    let is_all = kept.claims (mark i b) in
    let known : claims_by (get_or s.words i 0) ≤ b = omega arith in
    let zero_left = none_sum claims_by s.words i b (omega arith) known in
    absurd (omega arith))
    (λ not. lt_of_not-le not)

pub claiming_for : (P N slots id : ℕ) (me : Mine) (i g old new : ℕ) (who : List ℕ) → 0 < me.0.parts → i < P → old ≡ 2 * g → new ≡ old + 1
    → old < 18446744073709551614 → SeenElse P i me.0.seen who → Contains me.0.seen (sighting i old)
    → Allows (Kept P N) slots id me i (λ n. either (eqb n old) new n) (claims_for who (step slots i old new none) me)
claiming_for P N slots id me i g old new who part lt is_old is_new small seen here s kept homes at fits64 =
    let r : ℕ = get_or s.words i 0 in
    let fits = kept.each id me.0 at in
    let wide = kept.wide in
    exchanged r old new
    (λ n. (w : Notes) × (a : Act (Unit {0})) × Valid s.homes me.1 a × Kept P N (stepped s i n id me.1 w a) × claims_for who (step slots i old new none) me r (w, carried_after me.1 a))
    (λ hit.
    let half : old / 2 ≡ g = omega arith in (
      claiming me.0 i (old / 2),
      keeps,
      tt,
      moves P N s kept i new id me.1 me.0 (claiming me.0 i (old / 2)) at lt (omega arith) (omega arith) refl
          (λ h.
          let a = weigh_append h me.0.claimed (member i (old / 2) ∷ []) in
          let b = sums_set h claims_by s.words i new (omega arith) in
          let c = upto_at (h i) (claims_by r) (old / 2) (omega arith) in
          let d = upto_at (h i) (claims_by new) (suc (old / 2)) (omega arith) in
          omega arith)
          (λ h.
          let b = sums_set h gifts_by s.words i new (omega arith) in
          let c = upto_at (h i) (gifts_by r) (gifts_by new) (omega arith) in
          omega arith)
          record {
            idle = λ z. absurd (omega arith);
            sized = (grown s.words i new me.0 (omega arith) fits).sized;
            below = (grown s.words i new me.0 (omega arith) fits).below;
            asked = (grown s.words i new me.0 (omega arith) fits).asked;
          },
      record {
        won = λ _. (refl, new_at P N s kept id i (old / 2) me.0 at lt (omega arith));
        lost = λ n. absurd (n hit);
      },
    ))
    (λ miss.
    let low = seen_below s.words me.0 i old fits here in (
      refusing (sees me.0 i r) who,
      keeps,
      tt,
      stays P N s kept i id me.1 me.0 (refusing (sees me.0 i r) who) at lt refl refl refl
          (refuses s.words (sees me.0 i r) who (saw s.words me.0 i fits) (all_above P i s.words me.0 who kept.wide fits seen (omega arith))),
      record { won = λ e. absurd (miss e); lost = λ _. (refl, not_below s.words me.0 i fits) },
    ))

pub giving_back : (P N slots id : ℕ) (me : Mine) (i g old new : ℕ) → 0 < me.0.parts → i < P → old ≡ 2 * g + 1 → new ≡ old + 1
    → new ≤ 18446744073709551614
    → Allows (Kept P N) slots id me i (λ n. either (eqb n old) new n) (gives (step slots i old new none) me)
giving_back P N slots id me i g old new part lt is_old is_new small s kept homes at fits64 =
    let r : ℕ = get_or s.words i 0 in
    let fits = kept.each id me.0 at in
    let wide = kept.wide in
    exchanged r old new
    (λ n. (w : Notes) × (a : Act (Unit {0})) × Valid s.homes me.1 a × Kept P N (stepped s i n id me.1 w a) × gives (step slots i old new none) me r (w, carried_after me.1 a))
    (λ hit. (
      giving me.0 i (old / 2),
      keeps,
      tt,
      moves P N s kept i new id me.1 me.0 (giving me.0 i (old / 2)) at lt (omega arith) small refl
          (λ h.
          let b = sums_set h claims_by s.words i new (omega arith) in
          let c = upto_at (h i) (claims_by r) (claims_by new) (omega arith) in
          omega arith)
          (λ h.
          let a = weigh_append h me.0.given (member i (old / 2) ∷ []) in
          let b = sums_set h gifts_by s.words i new (omega arith) in
          let c = upto_at (h i) (gifts_by r) (old / 2) (omega arith) in
          let d = upto_at (h i) (gifts_by new) (suc (old / 2)) (omega arith) in
          omega arith)
          record {
            idle = λ z. absurd (omega arith);
            sized = (grown s.words i new me.0 (omega arith) fits).sized;
            below = (grown s.words i new me.0 (omega arith) fits).below;
            asked = (grown s.words i new me.0 (omega arith) fits).asked;
          },
      record { won = λ _. refl; lost = λ n. absurd (n hit) },
    ))
    (λ miss. (
      missing me.0 i r,
      keeps,
      tt,
      stays P N s kept i id me.1 me.0 (missing me.0 i r) at lt refl refl refl
          record { idle = fits.idle; sized = fits.sized; below = fits.below; asked = fits.asked },
      record { won = λ e. absurd (miss e); lost = λ _. (refl, not_below s.words me.0 i fits) },
    ))

-- what was seen elsewhere stays seen with more
pub else_more : (P i : ℕ) (seen more : List Sighting) (who : List ℕ) → SeenElse P i seen who → SeenElse P i (seen ++ more) who
else_more P i seen more who h asked q lt other =
    let t = h asked q lt other in (t.0, Contains-append_left seen more (sighting q t.0) t.1, t.2)
