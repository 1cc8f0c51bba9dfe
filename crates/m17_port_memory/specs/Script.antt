-- What an ear with a script answers.
use Rattle.std.specs.Prelude.{◌≡◌, ◌⊎◌, ℕ, Bool, true, false, List, [], ◌∷◌, Option, Some, unwrap_or, slice_get, MatchOption, ◌+◌, ◌-◌, ◌^◌, min, count_by, replicate, refl}
use Rattle.std.proofs.Common.{zero, suc, ap, inl, inr, subst}
use Rattle.m17_values.specs.declared.heard.Heard.{Heard}
use Rattle.m17_values.specs.declared.heard.Heard.TheVariants.{Datagram, Quiet, Fault, End}
use Rattle.m17_ports.specs.Ear.{EndsPastCount, FollowsScript}
use Rattle.m17_port_memory.specs.Kept.{ScriptKept}

-- The answer of call n: the script's entry n, and End behind the last.
abbrev pub answer_at : List Heard → ℕ → Heard
answer_at script n = unwrap_or (slice_get script n) End

-- The answers of the first n calls: the script's entries in order, and Ends behind the last.
abbrev pub heard_of : List Heard → ℕ → List Heard
heard_of script zero = []
heard_of [] (suc n) = End ∷ heard_of [] n
heard_of (entry ∷ rest) (suc n) = entry ∷ heard_of rest n

-- whether an answer is a fault of the socket
abbrev pub is_fault : Heard → Bool
is_fault (Datagram from at bytes) = false
is_fault (Quiet at) = false
is_fault Fault = true
is_fault End = false

-- how often an ear with a script has failed: the faults among its answers, counted to 2^64 - 1
abbrev pub faults_of : ScriptKept → ℕ
faults_of ear = min (count_by is_fault (heard_of ear.script ear.calls)) (2 ^ 64 - 1)

-- One more call of an ear with a script: the answer is the script's next, and the call is counted. Where Ends are
-- counted no further, one more of them changes nothing.
pub record IsAnswered (old : ScriptKept) (answer : Heard) (new : ScriptKept) : Type 0 where
  pub answer_is : answer ≡ answer_at old.script old.calls
  pub after : (new ≡ record old { calls = old.calls + 1 })
      ⊎ (EndsPastCount (Some (heard_of old.script old.calls)) × (answer ≡ End) × (new ≡ old))

-- an ear without a script says Ends alone
all_ends : (n : ℕ) → heard_of [] n ≡ replicate n End
all_ends zero = refl
all_ends (suc n) = ap (λ (ends : List Heard). End ∷ ends) (all_ends n)

-- What such an ear has heard follows its script.
pub heard_of-follows : (script : List Heard) (n : ℕ) → FollowsScript script (heard_of script n)
heard_of-follows script zero = inl (0, refl)
heard_of-follows [] (suc n) = inr (suc n, all_ends (suc n))
heard_of-follows (entry ∷ rest) (suc n) = elim (heard_of-follows rest n) [
  | inl front ↦ inl (suc front.0, ap (λ (heard : List Heard). entry ∷ heard) front.1)
  | inr ends ↦ inr (ends.0, ap (λ (heard : List Heard). entry ∷ heard) ends.1)
]

-- The same of lists that are told to be the script and what was heard.
pub told-follows : (own : List Heard) (n : ℕ) (script heard : List Heard)
    → Some own ≡ Some script → Some (heard_of own n) ≡ Some heard → FollowsScript script heard
told-follows own n script heard is_script is_heard =
    let first : FollowsScript script (heard_of own n) =
    subst (λ (told : Option (List Heard)). MatchOption told (Unit {0})
    (λ s. FollowsScript s (heard_of own n))) is_script (heard_of-follows own n) in
    subst (λ (told : Option (List Heard)). MatchOption told (Unit {0})
    (λ h. FollowsScript script h)) is_heard first
