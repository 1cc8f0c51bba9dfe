-- One more turn of a run.
use Rattle.std.proofs.Common.{◌≡◌, ◌↔◌, ◌⊎◌, ℕ, true, false, cond, suc, zero, ◌+◌, ◌≤◌, List, [], ◌∷◌, ◌++◌, take, reverse, refl, sym, ap, ◌∙◌, subst, inl, inr, arith, None, Some, IsTrue}
use Rattle.std.specs.List.{last_or, prefix_len, slice_get, suffix_len}
use Rattle.std.proofs.lemmas.List.{append-nil, map-append, reverse-append}
use Rattle.std.proofs.lemmas.Grind.{flat_map-append}
use Rattle.m17_lists.proofs.Lengths.{one_more_is_the_last}
use Rattle.m17_values.specs.declared.heard.Heard.{Heard}
use Rattle.m17_values.specs.declared.heard.Heard.TheVariants.{Datagram, Quiet, Fault, End}
use Rattle.m17_values.specs.declared.peer.Peer.{Peer}
use Rattle.m17_ports.specs.Mouth.{MouthTold, SaidOf}
use Rattle.m17_ports.specs.Book.{BookTold, HasText}
use Rattle.m17_client.specs.declared.run.Run.{Run}
use Rattle.m17_client.specs.declared.state.Ending.{Ending}
use Rattle.m17_client.specs.declared.state.Input.{Input}
use Rattle.m17_client.specs.declared.state.State.TheVariants.{Closed}
use Rattle.m17_client.specs.Standing.{Standing}
use Rattle.m17_client.specs.Steps.{ClientStep}
use Rattle.m17_client.specs.Talk.{IsHeardAs, IsOver, IsTurn, TakesTurn, TalkPlan, Turn, entries_of, is_fault, steps_of}
use Rattle.m17_client.specs.TalkSoFar.{IsAt, IsFresh, IsSoFar, IsStepless, Origin}

-- what was heard, and the steps, after one more turn
pub entries_more : (turns : List Turn) (turn : Turn)
    → entries_of (turns ++ turn ∷ []) ≡ entries_of turns ++ turn.heard ∷ []
entries_more turns turn = map-append (λ (t : Turn). t.heard) turns (turn ∷ [])

pub steps_more : (turns : List Turn) (turn : Turn) → steps_of (turns ++ turn ∷ []) ≡ steps_of turns ++ turn.steps
steps_more turns turn = flat_map-append (λ (t : Turn). t.steps) turns (turn ∷ [])
    ∙ ap (λ l. steps_of turns ++ l) (append-nil turn.steps)

-- what holds of each turn behind all earlier ones still does after one more
each_more : (P : List Turn → Turn → Type 0) (turns : List Turn) (turn : Turn)
    → ((n : ℕ) (t : Turn) → slice_get turns n ≡ Some t → P (take n turns) t) → P turns turn
    → (n : ℕ) (t : Turn) → slice_get (turns ++ turn ∷ []) n ≡ Some t → P (take n (turns ++ turn ∷ [])) t
each_more P [] turn each last zero t at = let same : turn ≡ t = cc in subst (λ x. P [] x) same last
each_more P [] turn each last (suc n) t at = absurd (cc)
each_more P (x ∷ xs) turn each last zero t at = each 0 t at
each_more P (x ∷ xs) turn each last (suc n) t at =
    each_more (λ l y. P (x ∷ l) y) xs turn (λ k y here. each (suc k) y here) last n t at

-- the Faults that stand last, after one more entry
pub faults_more : (entries : List Heard) (entry : Heard) → suffix_len is_fault (entries ++ entry ∷ [])
    ≡ cond (is_fault entry) (suffix_len is_fault entries + 1) 0
faults_more entries entry =
    ap (prefix_len is_fault) (reverse-append entries (entry ∷ []))
    ∙ ap (λ n. cond (is_fault entry) n 0) (let one : 1 + prefix_len is_fault (reverse entries)
    ≡ suffix_len is_fault entries + 1 = omega arith in one)

-- what a run began with, of a client that was just made
abbrev pub origin_of : {M B : Type 0} → TalkPlan → MouthTold M → BookTold B → Origin M B
origin_of plan mouth book = record { plan = plan; mouth = mouth; book = book }

pub just_made : {M B : Type 0} (plan : TalkPlan) (run : Run) (mouth : MouthTold M) (book : BookTold B)
    → SaidOf mouth [] mouth → HasText book [] false book → IsFresh plan.client run.session
    → run.faults ≡ 0 → run.ended ≡ false → IsSoFar (origin_of plan mouth book) [] run mouth book
just_made plan run mouth book said text fresh faults ended = record {
  at = record {
    run = tt;
    after = fresh.after;
    said = said;
    logged = record {
      kept = fresh.kept;
      written = rw fresh.failed (record { text = text; at_one = λ e. absurd (cc) });
    };
  };
  each = λ n turn at. absurd (cc);
  faults = faults;
  ended = (λ e. absurd (cc), λ e. absurd (cc));
}

-- a run after one more turn
pub so_far_more : {M B : Type 0} (origin : Origin M B) (turns : List Turn) (turn : Turn) (old new : Run)
    (m later : MouthTold M) (b written : BookTold B) → IsSoFar origin turns old m b
    → IsAt origin (steps_of turns ++ turn.steps) new.session later written
    → IsTurn origin.plan (steps_of turns) turn.heard turn.steps
    → new.faults ≡ cond (is_fault turn.heard) (old.faults + 1) 0
    → (IsTrue new.ended ↔ (turn.heard ≡ End)) → IsSoFar origin (turns ++ turn ∷ []) new later written
so_far_more origin turns turn old new m later b written h at is_turn faults ended =
    let last : last_or None (entries_of (turns ++ turn ∷ [])) ≡ Some turn.heard =
    ap (last_or None) (entries_more turns turn) ∙ one_more_is_the_last None (entries_of turns) turn.heard in record {
      at = subst (λ l. IsAt origin l new.session later written) (sym (steps_more turns turn)) at;
      each = each_more (λ l t. IsTurn origin.plan (steps_of l) t.heard t.steps) turns turn h.each is_turn;
      faults = faults ∙ ap (λ n. cond (is_fault turn.heard) (n + 1) 0) h.faults
          ∙ sym (faults_more (entries_of turns) turn.heard) ∙ ap (suffix_len is_fault) (sym (entries_more turns turn));
      ended = (
        λ e. last ∙ ap (λ x. Some x) (ended.0 e),
        λ e. ended.1 (let same : turn.heard ≡ End = cc in same),
      );
    }

-- the steps at an entry that the client steps on, or not
pub turn_on : (plan : TalkPlan) (to : Peer) (earlier : List ClientStep) (entry : Heard) (input : Input)
    (steps : List ClientStep) → IsHeardAs to entry input → TakesTurn plan earlier entry steps
    → IsTurn plan earlier entry steps
turn_on plan to earlier (Datagram from at bytes) input steps heard taken = taken
turn_on plan to earlier (Quiet at) input steps heard taken = taken
turn_on plan to earlier Fault input steps heard taken = absurd heard
turn_on plan to earlier End input steps heard taken = absurd heard

pub no_turn : (plan : TalkPlan) (earlier : List ClientStep) (entry : Heard) → IsStepless entry
    → IsTurn plan earlier entry []
no_turn plan earlier entry (inl e) = subst (λ x. IsTurn plan earlier x []) (sym e) refl
no_turn plan earlier entry (inr e) = subst (λ x. IsTurn plan earlier x []) (sym e) refl

-- a run is over where what is remembered of it says so
pub over_is : {M B : Type 0} (origin : Origin M B) (turns : List Turn) (run : Run) (m : MouthTold M) (b : BookTold B)
    → IsSoFar origin turns run m b → ((run.ended ≡ true) ⊎ ((16 ≤ run.faults)
    ⊎ ((why : Ending) × (run.session.progress.client.state ≡ Closed why)))) ↔ IsOver origin.plan turns
over_is origin turns run m b h =
    let state = ap (λ (c : Standing). c.state) h.at.after.client in (
      λ over. elim over [
        | inl e ↦ inl (h.ended.0 e)
        | inr (inl f) ↦ inr (inl (omega (arith, f, h.faults)))
        | inr (inr c) ↦ inr (inr (c.0, sym state ∙ c.1))
      ],
      λ over. elim over [
        | inl e ↦ inl (h.ended.1 e)
        | inr (inl f) ↦ inr (inl (omega (arith, f, h.faults)))
        | inr (inr c) ↦ inr (inr (c.0, state ∙ c.1))
      ],
    )
