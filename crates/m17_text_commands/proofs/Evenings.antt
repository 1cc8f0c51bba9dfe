-- What holds of an evening before each of its entries.
use Rattle.std.proofs.Common.{◌≡◌, ℕ, zero, suc, ◌+◌, ◌-◌, ◌%◌, nat_lt, [], ◌∷◌, length, refl, arith, ◌∙◌, subst, add-one}
use Rattle.std.specs.List.{All}
use Rattle.std.proofs.Math.ListN.{length-set}
use Rattle.std.proofs.lemmas.List.Elements.{All-set, All-cons, All-nil}
use Rattle.std.proofs.lemmas.Bool.Decides.{nat_tests}
use Rattle.m17_text_commands.specs.Made.{IsSound}
use Rattle.m17_text_commands.specs.Moments.{hotspots}
use Rattle.m17_text_commands.specs.Talk.{IsSteady, silent}
use Rattle.m17_text_commands.specs.Make.{is_pong}
use Rattle.m17_text_commands.specs.Maker.{Evening, taken_at, made_at, after, kept_before}
use Rattle.m17_text_commands.proofs.Choices.{by_test}
use Rattle.m17_text_commands.proofs.Steady.{steady_silent, turn_good, IsGoodTurn}

-- entry j comes next, and each of the three modules is steady
pub record IsCalm (j : ℕ) (e : Evening) : Type 0 where
  pub entry_is : e.entry ≡ j
  pub three : length e.talks ≡ 3
  pub steady : All IsSteady e.talks

good_turn : (j : ℕ) (e : Evening) (u : ℕ) → IsCalm j e → IsGoodTurn (taken_at u e)
good_turn j e u calm = turn_good (u % 3) e.x _ (omega arith) (calm.steady (u % 3) silent (omega arith))

pub calm_after : (j : ℕ) (e : Evening) → IsCalm j e → IsCalm (j + 1) (after e)
unfolding after
calm_after j e calm = by_test (IsCalm (j + 1)) (nat_lt e.entry hotspots) _ _
    (λ t. record { entry_is = omega arith; three = calm.three; steady = calm.steady })
    (λ t. by_test (IsCalm (j + 1)) (is_pong (e.entry - hotspots)) _ _
    (λ t. record { entry_is = omega arith; three = calm.three; steady = calm.steady })
    (λ t. record {
      entry_is = omega arith;
      three = length-set e.talks ((e.entry - hotspots) % 3) _ ∙ calm.three;
      steady = All-set IsSteady e.talks ((e.entry - hotspots) % 3) _ (good_turn j e (e.entry - hotspots) calm).steady calm.steady;
    }))

pub calm_before : (seed j : ℕ) → IsCalm j (kept_before seed j)
unfolding kept_before
calm_before seed zero = record {
  entry_is = refl;
  three = refl;
  steady = All-cons IsSteady silent (silent ∷ silent ∷ []) steady_silent (All-cons IsSteady silent (silent ∷ []) steady_silent (All-cons IsSteady silent [] steady_silent (All-nil IsSteady)));
}
calm_before seed (suc j) = subst (λ (n : ℕ). IsCalm n (after (kept_before seed j))) (add-one j) (calm_after j (kept_before seed j) (calm_before seed j))

pub made_fits : (j : ℕ) (e : Evening) → IsCalm j e → IsSound (made_at e)
unfolding made_at
made_fits j e calm = by_test IsSound (nat_lt e.entry hotspots) _ _
    (λ t. grind (arith, nat_tests))
    (λ t. by_test IsSound (is_pong (e.entry - hotspots)) _ _
    (λ t. grind (arith, nat_tests))
    (λ t. (good_turn j e (e.entry - hotspots) calm).sound))
