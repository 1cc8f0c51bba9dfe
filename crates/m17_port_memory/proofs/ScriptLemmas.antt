-- What one more answer of an ear with a script does to what was heard, and to the count of faults.
use Rattle.std.proofs.Common.{zero, suc, ◌≡◌, ◌≢◌, inl, inr, ℕ, ◌+◌, ◌-◌, ◌^◌, ◌≤◌, min, false, cond, List, [], ◌∷◌, ◌++◌, length, replicate, Some, refl, sym, ap, arith}
use Rattle.std.specs.List.{count_by}
use Rattle.std.proofs.lemmas.List.Sums.{sum_by-append, sum_by-cons}
use Rattle.std.proofs.lemmas.Bool.{cases_lt}
use Rattle.m17_values.specs.declared.heard.Heard.{Heard}
use Rattle.m17_values.specs.declared.heard.Heard.TheVariants.{Datagram, Quiet, Fault, End}
use Rattle.m17_ports.specs.Told.{told_then}
use Rattle.m17_ports.specs.Ear.{EndsPastCount}
use Rattle.m17_port_memory.specs.Kept.{ScriptKept}
use Rattle.m17_port_memory.specs.Script.{answer_at, heard_of, is_fault, faults_of, IsAnswered}

-- one more answer is appended
pub heard_of-next : (script : List Heard) (n : ℕ)
    → heard_of script (n + 1) ≡ heard_of script n ++ answer_at script n ∷ []
heard_of-next [] zero = refl
heard_of-next (entry ∷ rest) zero = refl
heard_of-next [] (suc n) =
    let e : suc n + 1 ≡ suc (n + 1) = omega arith in
    rw e (ap (λ (ends : List Heard). End ∷ ends) (heard_of-next [] n))
heard_of-next (entry ∷ rest) (suc n) =
    let e : suc n + 1 ≡ suc (n + 1) = omega arith in
    rw e (ap (λ (heard : List Heard). entry ∷ heard) (heard_of-next rest n))

-- behind the script come Ends
pub heard_of-past : (script : List Heard) (n : ℕ)
    → heard_of script (length script + n) ≡ script ++ replicate n End
heard_of-past [] zero = refl
heard_of-past [] (suc n) =
    let e : 0 + suc n ≡ suc (0 + n) = omega arith in
    rw e (ap (λ (ends : List Heard). End ∷ ends) (heard_of-past [] n))
heard_of-past (entry ∷ rest) n =
    let e : length (entry ∷ rest) + n ≡ suc (length rest + n) = omega arith in
    rw e (ap (λ (heard : List Heard). entry ∷ heard) (heard_of-past rest n))

-- one more answer is counted where it is a fault
pub faults-push : (heard : List Heard) (entry : Heard)
    → count_by is_fault (heard ++ entry ∷ []) ≡ count_by is_fault heard + cond (is_fault entry) 1 0
faults-push heard entry =
    let both = sum_by-append (λ (x : Heard). cond (is_fault x) 1 0) heard (entry ∷ []) in
    let last = sum_by-cons (λ (x : Heard). cond (is_fault x) 1 0) entry [] in
    omega (arith, both, last)

-- an answer that is no Fault is none
pub no_fault : (entry : Heard) → entry ≢ Fault → is_fault entry ≡ false
no_fault (Datagram from at bytes) differs = refl
no_fault (Quiet at) differs = refl
no_fault Fault differs = absurd (differs refl)
no_fault End differs = refl

-- the answer behind the script
pub answer_at-past : (script : List Heard) (n : ℕ) → length script ≤ n → answer_at script n ≡ End
answer_at-past [] n past = refl
answer_at-past (entry ∷ rest) zero past = absurd (omega arith)
answer_at-past (entry ∷ rest) (suc n) past = answer_at-past rest n (omega arith)

-- the faults after one more answer
pub faults-answered : (old new : ScriptKept) (answer : Heard) → IsAnswered old answer new
    → faults_of new ≡ min (count_by is_fault (heard_of old.script old.calls) + cond (is_fault answer) 1 0) (2 ^ 64 - 1)
faults-answered old new answer h = elim h.after [
  | inl next ↦ rw (next, heard_of-next old.script old.calls, ← h.answer_is, faults-push (heard_of old.script old.calls) answer) refl
  | inr past ↦ rw (past.2, past.1) (let e : count_by is_fault (heard_of old.script old.calls) + 0 ≡ count_by is_fault (heard_of old.script old.calls) = omega arith in rw e refl)
]

pub heard-answered : (old new : ScriptKept) (answer : Heard) → IsAnswered old answer new
    → (EndsPastCount (Some (heard_of old.script old.calls)) → ⊥)
    → Some (heard_of new.script new.calls) ≡ told_then (Some (heard_of old.script old.calls)) (answer ∷ [])
heard-answered old new answer h counts = elim h.after [
  | inl next ↦ rw (next, heard_of-next old.script old.calls, ← h.answer_is) refl
  | inr past ↦ absurd (counts past.0)
]

pub same-answered : (old new : ScriptKept) (answer : Heard) → IsAnswered old answer new
    → (new.script ≡ old.script) × (new.number ≡ old.number)
same-answered old new answer h = elim h.after [
  | inl next ↦ rw next (refl, refl)
  | inr past ↦ rw past.2 (refl, refl)
]

-- one more End behind the script, counted to 2^64 - 1
pub ended-answered : (script : List Heard) (place ends number : ℕ) → place ≡ length script
    → ends ≤ 2 ^ 64 - 1
    → IsAnswered (record { script = script; calls = place + ends; number = number }) End
    (record { script = script; calls = place + min (ends + 1) (2 ^ 64 - 1); number = number })
ended-answered script place ends number at_end fits = record {
  answer_is = sym (answer_at-past script (place + ends) (omega arith));
  after = elim (cases_lt ends (2 ^ 64 - 1)) [
    | inl below ↦
        let e : place + min (ends + 1) (2 ^ 64 - 1) ≡ place + ends + 1 = omega arith in
        inl (rw e refl)
    | inr full ↦
        let e : place + min (ends + 1) (2 ^ 64 - 1) ≡ place + ends = omega arith in
        inr ((script, ends, full, rw at_end (ap (λ (h : List Heard). Some h) (heard_of-past script ends))), refl, rw e refl)
  ];
}
