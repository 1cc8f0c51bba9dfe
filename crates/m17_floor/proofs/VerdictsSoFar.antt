-- The list of verdicts, as far as it was made.
use Rattle.std.proofs.Common.{◌≡◌, ℕ, ◌<◌, List, [], ◌∷◌, ◌++◌, length, take, Option, Some, slice_get, refl, ap, sym, ◌∙◌, ⊎_elim, arith}
use Rattle.std.proofs.lemmas.Bool.{cases_eq}
use Rattle.m17_floor.specs.declared.act.Act.{Act}
use Rattle.m17_floor.specs.declared.verdict.Verdict.{Verdict}
use Rattle.m17_floor.specs.Setup.{FloorSetup}
use Rattle.m17_floor.specs.Acts.{kind_at, moment_at}
use Rattle.m17_floor.specs.Floor.{verdict_given, past_with, verdicts_before, verdict_at}
use Rattle.m17_floor.specs.Plain.{past_answered}
use Rattle.m17_floor.proofs.OneMore.{length_more, slice_get_end}
use Rattle.m17_floor.proofs.Prefix.{slice_get_before}

-- these are the verdicts at the first positions
pub record AreVerdicts (setup : FloorSetup) (acts : List Act) (verdicts : List (Option Verdict)) : Type 0 where
  pub past : verdicts ≡ verdicts_before setup acts (length verdicts)
  pub each : (m : ℕ) → m < length verdicts → slice_get verdicts m ≡ Some (verdict_at setup acts m)

pub no_verdicts : (setup : FloorSetup) (acts : List Act) (verdicts : List (Option Verdict)) → verdicts ≡ [] → AreVerdicts setup acts verdicts
unfolding verdicts_before
no_verdicts setup acts [] e = record { past = refl; each = λ m h. absurd (omega arith) }
no_verdicts setup acts (v ∷ verdicts) e = cc

pub one_more_verdict : (setup : FloorSetup) (acts : List Act) (verdicts : List (Option Verdict)) (v : Option Verdict) → AreVerdicts setup acts verdicts → v ≡ verdict_given (past_answered setup (take (length verdicts) acts) verdicts) (moment_at acts (length verdicts)) (kind_at acts (length verdicts)) → AreVerdicts setup acts (verdicts ++ v ∷ [])
unfolding verdicts_before verdict_at
one_more_verdict setup acts verdicts v h e =
    let n : ℕ = length verdicts in
    let is : v ≡ verdict_at setup acts n = e ∙ ap (λ vs. verdict_given (past_with setup acts n vs) (moment_at acts n) (kind_at acts n)) h.past in
    record {
      past =
          ap (λ vs. vs ++ v ∷ []) h.past
          ∙ ap (λ x. verdicts_before setup acts n ++ x ∷ []) is
          ∙ ap (verdicts_before setup acts) (sym (length_more verdicts v));
      each = λ m l.
          ⊎_elim
          (λ (here : m ≡ n). ap (slice_get (verdicts ++ v ∷ [])) here ∙ slice_get_end verdicts v ∙ ap Some is ∙ ap (λ x. Some (verdict_at setup acts x)) (sym here))
          (λ (ne : m ≡ n → ⊥). let below : m < n = omega (arith, length_more verdicts v) in slice_get_before verdicts (v ∷ []) m below ∙ h.each m below)
          (cases_eq m n);
    }
