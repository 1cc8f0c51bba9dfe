-- A run that is over, and what is answered of it.
use Rattle.std.proofs.Common.{◌≡◌, ◌≢◌, ◌↔◌, ◌⊎◌, ℕ, cond, ◌+◌, ◌≤◌, List, [], ◌∷◌, ◌++◌, length, take, refl, sym, ap, ◌∙◌, subst, inl, inr, arith, None, Some, IsTrue}
use Rattle.std.specs.List.{All, last_or, slice_get, suffix_len}
use Rattle.std.proofs.lemmas.Bool.Decides.{leb_tells}
use Rattle.std.proofs.lemmas.List.Elements.{All-push}
use Rattle.std.proofs.lemmas.List.{append-nil, length_push, take_all, take_at, take-append-le}
use Rattle.std.proofs.lemmas.Bool.{false_from_ne_true}
use Rattle.m17_lists.proofs.Lengths.{one_more_is_the_last}
use Rattle.m17_values.specs.declared.heard.Heard.{Heard}
use Rattle.m17_values.specs.declared.heard.Heard.TheVariants.{Datagram, Quiet, Fault, End}
use Rattle.m17_ports.specs.Ear.{EarTold, HasHeard}
use Rattle.m17_ports.specs.Laws.{EarsHearInTurn}
use Rattle.m17_ports.specs.Mouth.{MouthTold}
use Rattle.m17_ports.specs.Book.{BookTold}
use Rattle.m17_client.specs.declared.run.Run.{Run}
use Rattle.m17_client.specs.declared.talking.TalkEnd.{TalkEnd}
use Rattle.m17_client.specs.declared.state.State.TheVariants.{Idle}
use Rattle.m17_client.specs.Standing.{Standing}
use Rattle.m17_client.specs.Steps.{ClientStep, standing_after}
use Rattle.m17_client.specs.Talk.{IsClosed, IsEnded, IsLost, IsOver, IsTalkRun, IsTurn, TalkPlan, Turn, entries_of, is_fault, steps_of}
use Rattle.m17_client.specs.TalkDevices.{IsTalkEnd}
use Rattle.m17_client.specs.TalkSoFar.{GoesOn, IsSoFar, IsStepless, Origin}
use Rattle.m17_client.proofs.Turns.{entries_more, faults_more, steps_more}

not_yet : (plan : TalkPlan) → plan.client.state ≡ Idle → IsOver plan [] → ⊥
not_yet plan idle (inl e) = absurd (cc)
not_yet plan idle (inr (inl f)) = absurd (omega arith)
not_yet plan idle (inr (inr c)) = let closed = c.1 in absurd (cc)

-- nothing was heard, and the client is idle
pub begins : (plan : TalkPlan) → plan.client.state ≡ Idle → GoesOn plan []
begins plan idle n within over =
    not_yet plan idle (subst (λ l. IsOver plan l) (take_all n [] (omega arith)) over)

-- a run that goes on is not over
pub not_over : (plan : TalkPlan) (turns : List Turn) → GoesOn plan turns → IsOver plan turns → ⊥
not_over plan turns before over = before (length turns) (omega arith)
    (subst (λ l. IsOver plan l) (sym (take_all (length turns) turns (omega arith))) over)

-- a run goes on after one more turn, where it is not over
pub goes_on_more : (plan : TalkPlan) (turns : List Turn) (turn : Turn) → GoesOn plan turns
    → (IsOver plan (turns ++ turn ∷ []) → ⊥) → GoesOn plan (turns ++ turn ∷ [])
goes_on_more plan turns turn before now n within over = elim (leb_tells n (length turns)) [
  | inl early ↦ before n early.1
      (subst (λ l. IsOver plan l) (take-append-le n turns (turn ∷ []) early.1) over)
  | inr late ↦ now (subst (λ l. IsOver plan l)
      (take_all n (turns ++ turn ∷ []) (omega (arith, late.1, length_push turns turn))) over)
]

-- a run that goes on has heard no End
pub no_end_more : (plan : TalkPlan) (turns : List Turn) (turn : Turn)
    → All (λ entry. entry ≢ End) (entries_of turns) → (IsOver plan (turns ++ turn ∷ []) → ⊥)
    → All (λ entry. entry ≢ End) (entries_of (turns ++ turn ∷ []))
no_end_more plan turns turn h now = subst (λ l. All (λ entry. entry ≢ End) l) (sym (entries_more turns turn))
    (All-push (λ entry. entry ≢ End) (entries_of turns) turn.heard h (λ e. now (inl (
    ap (last_or None) (entries_more turns turn) ∙ one_more_is_the_last None (entries_of turns) turn.heard ∙ ap Some e))))

-- one more entry was heard
pub hears_one : {L : Type 0} (law : EarsHearInTurn L) (start old new : EarTold L) (turns : List Turn) (turn : Turn)
    → All (λ entry. entry ≢ End) (entries_of turns) → HasHeard start (entries_of turns) old
    → HasHeard old (turn.heard ∷ []) new → HasHeard start (entries_of (turns ++ turn ∷ [])) new
hears_one law start old new turns turn none h one = subst (λ l. HasHeard start l new) (sym (entries_more turns turn))
    (law.in_turn start old new (entries_of turns) (turn.heard ∷ []) none h one)

-- a run that went on before its last turn, and is over then
pub whole_run : {M B : Type 0} (origin : Origin M B) (turns : List Turn) (turn : Turn) (run : Run) (m : MouthTold M) (b : BookTold B)
    → GoesOn origin.plan turns → IsSoFar origin (turns ++ turn ∷ []) run m b
    → IsOver origin.plan (turns ++ turn ∷ []) → IsTalkRun origin.plan (turns ++ turn ∷ [])
whole_run origin turns turn run m b before h over = record {
  run = h.at.run;
  each = h.each;
  not_before = λ n within now.
      let early : n ≤ length turns = omega (arith, within, length_push turns turn) in
      before n early (subst (λ l. IsOver origin.plan l) (take-append-le n turns (turn ∷ []) early) now);
  over = over;
}

-- the last turn is one behind all others
last_at : (turns : List Turn) (turn : Turn) → slice_get (turns ++ turn ∷ []) (length turns) ≡ Some turn
last_at [] turn = refl
last_at (x ∷ xs) turn = last_at xs turn

last_turn : {M B : Type 0} (origin : Origin M B) (turns : List Turn) (turn : Turn) (run : Run) (m : MouthTold M) (b : BookTold B)
    → IsSoFar origin (turns ++ turn ∷ []) run m b
    → IsTurn origin.plan (steps_of turns) turn.heard turn.steps
last_turn origin turns turn run m b h =
    subst (λ l. IsTurn origin.plan (steps_of l) turn.heard turn.steps)
    (take_at turns (turn ∷ []) (length turns) refl) (h.each (length turns) turn (last_at turns turn))

-- no step is taken at a Fault or an End
no_steps : (plan : TalkPlan) (earlier : List ClientStep) (entry : Heard) (steps : List ClientStep)
    → IsStepless entry → IsTurn plan earlier entry steps → steps ≡ []
no_steps plan earlier entry steps (inl e) t = subst (λ x. IsTurn plan earlier x steps) e t
no_steps plan earlier entry steps (inr e) t = subst (λ x. IsTurn plan earlier x steps) e t

-- where Faults stand last, the last entry is one
ends_in_fault : (entry : Heard) (n : ℕ) → 16 ≤ cond (is_fault entry) n 0 → entry ≡ Fault
ends_in_fault (Datagram from at bytes) n many = absurd (omega arith)
ends_in_fault (Quiet at) n many = absurd (omega arith)
ends_in_fault Fault n many = refl
ends_in_fault End n many = absurd (omega arith)

pub lost_by_fault : (turns : List Turn) (turn : Turn) → IsLost (turns ++ turn ∷ []) → turn.heard ≡ Fault
lost_by_fault turns turn lost =
    ends_in_fault turn.heard (suffix_len is_fault (entries_of turns) + 1)
    (subst (λ n. 16 ≤ n) (ap (suffix_len is_fault) (entries_more turns turn)
    ∙ faults_more (entries_of turns) turn.heard) lost)

stepless : (turns : List Turn) (turn : Turn)
    → IsEnded (turns ++ turn ∷ []) ⊎ IsLost (turns ++ turn ∷ []) → IsStepless turn.heard
stepless turns turn (inl ended) =
    let last : last_or None (entries_of (turns ++ turn ∷ [])) ≡ Some turn.heard =
    ap (last_or None) (entries_more turns turn) ∙ one_more_is_the_last None (entries_of turns) turn.heard in
    inr (let same : turn.heard ≡ End = cc in same)
stepless turns turn (inr lost) = inl (lost_by_fault turns turn lost)

-- a run that an entry ended is not closed
not_closed : {M B : Type 0} (origin : Origin M B) (turns : List Turn) (turn : Turn) (run : Run) (m : MouthTold M) (b : BookTold B)
    → GoesOn origin.plan turns → IsSoFar origin (turns ++ turn ∷ []) run m b
    → IsEnded (turns ++ turn ∷ []) ⊎ IsLost (turns ++ turn ∷ [])
    → IsClosed origin.plan (turns ++ turn ∷ []) → ⊥
not_closed origin turns turn run m b before h by_entry closed =
    let none = no_steps origin.plan (steps_of turns) turn.heard turn.steps (stepless turns turn by_entry)
    (last_turn origin turns turn run m b h) in
    let same : steps_of (turns ++ turn ∷ []) ≡ steps_of (take (length turns) turns) =
    steps_more turns turn ∙ ap (λ l. steps_of turns ++ l) none ∙ append-nil (steps_of turns)
    ∙ ap (steps_of) (sym (take_all (length turns) turns (omega arith))) in
    before (length turns) (omega arith) (inr (inr (
      closed.0,
      sym (ap (λ l. (standing_after origin.plan.client l).state) same) ∙ closed.1,
    )))

-- what is answered of a whole run
pub end_is : {M B : Type 0} (origin : Origin M B) (turns : List Turn) (turn : Turn) (run : Run) (m : MouthTold M) (b : BookTold B)
    (answer : TalkEnd) → GoesOn origin.plan turns → IsSoFar origin (turns ++ turn ∷ []) run m b
    → IsOver origin.plan (turns ++ turn ∷ []) → answer.state ≡ run.session.progress.client.state
    → answer.kept ≡ run.session.log.kept → answer.ended ≡ run.ended
    → (IsTrue answer.lost ↔ (16 ≤ run.faults)) → IsTalkEnd origin.plan (turns ++ turn ∷ []) answer
end_is origin turns turn run m b answer before h over state kept ended lost =
    let fell : IsTrue answer.lost ↔ IsLost (turns ++ turn ∷ []) = (
      λ e. omega (arith, lost.0 e, h.faults),
      λ many. lost.1 (omega (arith, many, h.faults)),
    ) in record {
      state = state ∙ ap (λ (c : Standing). c.state) h.at.after.client;
      kept = kept ∙ h.at.logged.kept;
      ended = (λ e. h.ended.0 (sym ended ∙ e), λ e. ended ∙ h.ended.1 e);
      lost = fell;
      closed = (
        λ neither. elim over [
          | inl e ↦ (let was = h.ended.1 e in let not = neither.0 in absurd (cc))
          | inr (inl f) ↦ (let was = fell.1 f in let not = neither.1 in absurd (cc))
          | inr (inr c) ↦ c
        ],
        λ closed. (
          false_from_ne_true answer.ended
              (λ e. not_closed origin turns turn run m b before h (inl (h.ended.0 (sym ended ∙ e))) closed),
          false_from_ne_true answer.lost
              (λ e. not_closed origin turns turn run m b before h (inr (fell.0 e)) closed),
        ),
      );
    }
