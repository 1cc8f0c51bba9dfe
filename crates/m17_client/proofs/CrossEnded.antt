-- How a run of `cross` goes on, and how it ends.
use Rattle.std.proofs.Common.{◌≡◌, ◌≢◌, ◌↔◌, ◌⊎◌, Bool, true, false, cond, ◌-◌, ◌^◌, ◌≤◌, min, List, [], ◌∷◌, ◌++◌, length, reverse, refl, sym, ap, ◌∙◌, subst, inl, inr, arith, None, Some, IsTrue, Contains}
use Rattle.std.specs.List.{All, last_or, prefix_len, suffix_len}
use Rattle.std.proofs.lemmas.Bool.Decides.{leb_tells}
use Rattle.std.proofs.lemmas.List.Elements.{All-push, Contains-push}
use Rattle.std.proofs.lemmas.List.{append-nil, length_push, reverse-append, reverse-reverse, take_all, take-append-le}
use Rattle.m17_lists.proofs.Lengths.{one_more_is_the_last}
use Rattle.m17_values.specs.declared.heard.Heard.{Heard}
use Rattle.m17_values.specs.declared.heard.Heard.TheVariants.{Datagram, Quiet, Fault, End}
use Rattle.m17_io.specs.Faults.{HasRisen}
use Rattle.m17_ports.specs.Ear.{EarTold, HasHeard}
use Rattle.m17_ports.specs.Mouth.{MouthTold, SaidOf}
use Rattle.m17_ports.specs.Laws.{EarsHearInTurn}
use Rattle.m17_client.specs.declared.state.Ending.{Ending}
use Rattle.m17_client.specs.declared.state.State.TheVariants.{Closed}
use Rattle.m17_client.specs.Standing.{Standing}
use Rattle.m17_client.specs.Talk.{is_fault}
use Rattle.m17_client.specs.declared.side.Side.{Side}
use Rattle.m17_client.specs.declared.side.Side.TheVariants.{Near, Far}
use Rattle.m17_client.specs.declared.bridge_run.Run.{Run}
use Rattle.m17_client.specs.declared.crossing.BridgeEnd.{BridgeEnd}
use Rattle.m17_client.specs.Sides.{Both, both, is_side, of, opposite}
use Rattle.m17_client.specs.BridgeSteps.{BridgeStep}
use Rattle.m17_client.specs.StandsFor.{BridgeStandsFor, BridgeState, MayBeJoined, new_bridge}
use Rattle.m17_client.specs.CrossRun.{BothLeave, CrossPlan, CrossTurn, IsCrossRun, IsLostOn, IsOver, entries_of, entries_on, steps_of}
use Rattle.m17_client.specs.CrossDevices.{IsBridgeEnd}
use Rattle.m17_client.specs.CrossSoFar.{GoesOn, IsAt, IsSoFar, Origin}
use Rattle.m17_client.proofs.Picked.{by_sides, is_other_side, is_same_side, may_cross}
use Rattle.m17_client.proofs.CrossTurns.{by_both, entries_more, side_entries_more}

-- a bridge that was just made has made no step
new_stands : (ends : Both Standing) (bridge : BridgeState) → bridge ≡ new_bridge ends
    → BridgeStandsFor ends [] bridge
new_stands ends bridge is = subst (BridgeStandsFor ends []) (sym is) (record {
  run = record {
    clients = λ side. tt;
    each = λ n step at. absurd (cc);
    crosses = record { each_told = refl; rule = λ n it at. absurd (cc) };
  };
  clients = λ side. refl;
  moment = refl;
  latest = refl;
  passed = by_both (λ s. of s (both 0 0) ≡ min 0 (2 ^ 64 - 1)) refl refl;
})

-- what a run began with
abbrev pub origin_of : {M : Type 0} → CrossPlan → Both (MouthTold M) → Origin M
origin_of plan mouths = record { plan = plan; mouths = mouths }

pub just_made : {M : Type 0} (plan : CrossPlan) (run : Run) (bridge : BridgeState) (mouths : Both (MouthTold M))
    → ((side : Side) → SaidOf (of side mouths) [] (of side mouths)) → bridge ≡ new_bridge plan.ends
    → run.bridge ≡ bridge → run.side ≡ Near → run.near_faults ≡ 0 → run.far_faults ≡ 0
    → run.ended ≡ false → IsSoFar (origin_of plan mouths) [] run mouths
just_made plan run bridge mouths said new is side near far ended = record {
  at = record { stands = new_stands plan.ends run.bridge (is ∙ new); said = said };
  in_turn = λ n turn at. absurd (cc);
  next = side;
  each = λ n turn at. absurd (cc);
  faults = by_both (λ s. of s (both run.near_faults run.far_faults) ≡ suffix_len is_fault (entries_on s [])) near far;
  ended = (λ e. absurd (cc), λ e. absurd (cc));
}

not_yet : (plan : CrossPlan) → MayBeJoined plan.ends → IsOver plan [] → ⊥
not_yet plan joined (inl e) = absurd (cc)
not_yet plan joined (inr (inl (side, many))) = absurd (omega arith)
not_yet plan joined (inr (inr (side, why, closed))) = let idle = (may_cross plan.ends joined side).idle in absurd (cc)

-- nothing was heard, and both clients are idle
pub begins : (plan : CrossPlan) → MayBeJoined plan.ends → GoesOn plan []
begins plan joined n within over =
    not_yet plan joined (subst (λ l. IsOver plan l) (take_all n [] (omega arith)) over)

-- a run that goes on is not over
pub not_over : (plan : CrossPlan) (turns : List CrossTurn) → GoesOn plan turns → IsOver plan turns → ⊥
not_over plan turns before over = before (length turns) (omega arith)
    (subst (λ l. IsOver plan l) (sym (take_all (length turns) turns (omega arith))) over)

-- a run goes on after one more turn, where it is not over
pub goes_on_more : (plan : CrossPlan) (turns : List CrossTurn) (turn : CrossTurn) → GoesOn plan turns
    → (IsOver plan (turns ++ turn ∷ []) → ⊥) → GoesOn plan (turns ++ turn ∷ [])
goes_on_more plan turns turn before now n within over = elim (leb_tells n (length turns)) [
  | inl early ↦ before n early.1
      (subst (λ l. IsOver plan l) (take-append-le n turns (turn ∷ []) early.1) over)
  | inr late ↦ now (subst (λ l. IsOver plan l)
      (take_all n (turns ++ turn ∷ []) (omega (arith, late.1, length_push turns turn))) over)
]

-- a run that goes on has heard no End
all_or_not : (b : Bool) (entries : List Heard) (entry : Heard) → All (λ e. e ≢ End) entries → entry ≢ End
    → All (λ e. e ≢ End) (entries ++ cond b (entry ∷ []) [])
all_or_not true entries entry h not = All-push (λ e. e ≢ End) entries entry h not
all_or_not false entries entry h not = subst (All (λ e. e ≢ End)) (sym (append-nil entries)) h

pub no_end_more : (plan : CrossPlan) (turns : List CrossTurn) (turn : CrossTurn)
    → ((side : Side) → All (λ e. e ≢ End) (entries_on side turns))
    → (IsOver plan (turns ++ turn ∷ []) → ⊥)
    → (side : Side) → All (λ e. e ≢ End) (entries_on side (turns ++ turn ∷ []))
no_end_more plan turns turn h now side =
    subst (All (λ e. e ≢ End)) (sym (side_entries_more side turns turn))
    (all_or_not (is_side turn.side side) (entries_on side turns) turn.heard (h side) (λ e. now (inl (
    ap (last_or None) (entries_more turns turn) ∙ one_more_is_the_last None (entries_of turns) turn.heard ∙ ap (λ x. Some x) e))))

-- one more entry was heard by the ear of its side
pub hears_one : {E : Type 0} (law : EarsHearInTurn E) (start old new : Both (EarTold E))
    (turns : List CrossTurn) (turn : CrossTurn)
    → ((side : Side) → All (λ e. e ≢ End) (entries_on side turns))
    → ((side : Side) → HasHeard (of side start) (entries_on side turns) (of side old))
    → HasHeard (of turn.side old) (turn.heard ∷ []) (of turn.side new)
    → of (opposite turn.side) new ≡ of (opposite turn.side) old
    → (side : Side) → HasHeard (of side start) (entries_on side (turns ++ turn ∷ [])) (of side new)
hears_one law start old new turns turn none h one other side =
    by_sides (λ s. HasHeard (of s start) (entries_on s (turns ++ turn ∷ [])) (of s new)) turn.side side
    (subst (λ l. HasHeard (of turn.side start) l (of turn.side new))
    (sym (side_entries_more turn.side turns turn
    ∙ ap (λ b. entries_on turn.side turns ++ cond b (turn.heard ∷ []) []) (is_same_side turn.side)))
    (law.in_turn (of turn.side start) (of turn.side old) (of turn.side new) (entries_on turn.side turns)
    (turn.heard ∷ []) (none turn.side) (h turn.side) one))
    (subst (λ l. HasHeard (of (opposite turn.side) start) l (of (opposite turn.side) new))
    (sym (side_entries_more (opposite turn.side) turns turn
    ∙ ap (λ b. entries_on (opposite turn.side) turns ++ cond b (turn.heard ∷ []) []) (is_other_side turn.side)
    ∙ append-nil (entries_on (opposite turn.side) turns)))
    (subst (λ e. HasHeard (of (opposite turn.side) start) (entries_on (opposite turn.side) turns) e) (sym other)
    (h (opposite turn.side))))

-- a run is over where what is remembered of it says so
pub over_is : {M : Type 0} (origin : Origin M) (turns : List CrossTurn) (run : Run) (mouths : Both (MouthTold M))
    → IsSoFar origin turns run mouths → ((run.ended ≡ true)
    ⊎ (((side : Side) × (16 ≤ of side (both run.near_faults run.far_faults)))
    ⊎ ((side : Side) × (why : Ending) × ((of side run.bridge.clients).state ≡ Closed why))))
    ↔ IsOver origin.plan turns
over_is origin turns run mouths h = (
  λ over. elim over [
    | inl e ↦ inl (h.ended.0 e)
    | inr (inl (side, many)) ↦ inr (inl (side, subst (λ n. 16 ≤ n) (h.faults side) many))
    | inr (inr (side, why, closed)) ↦ inr (inr (
      side,
      why,
      sym (ap (λ (c : Standing). c.state) (h.at.stands.clients side)) ∙ closed,
    ))
  ],
  λ over. elim over [
    | inl e ↦ inl (h.ended.1 e)
    | inr (inl (side, many)) ↦ inr (inl (side, subst (λ n. 16 ≤ n) (sym (h.faults side)) many))
    | inr (inr (side, why, closed)) ↦ inr (inr (
      side,
      why,
      ap (λ (c : Standing). c.state) (h.at.stands.clients side) ∙ closed,
    ))
  ],
)

-- a run that went on before its last turn, and is over then
pub whole_run : {M : Type 0} (origin : Origin M) (turns : List CrossTurn) (turn : CrossTurn) (run : Run)
    (mouths later : Both (MouthTold M)) (leaves : List BridgeStep) (bridge : BridgeState)
    → GoesOn origin.plan turns → IsSoFar origin (turns ++ turn ∷ []) run mouths
    → IsOver origin.plan (turns ++ turn ∷ []) → BothLeave leaves
    → IsAt origin (steps_of (turns ++ turn ∷ []) ++ leaves) bridge later
    → IsCrossRun origin.plan (turns ++ turn ∷ []) leaves
whole_run origin turns turn run mouths later leaves bridge before h over leave at = record {
  run = at.stands.run;
  in_turn = h.in_turn;
  each = h.each;
  not_before = λ n within now.
      let early : n ≤ length turns = omega (arith, within, length_push turns turn) in
      before n early (subst (λ l. IsOver origin.plan l) (take-append-le n turns (turn ∷ []) early) now);
  over = over;
  leave = leave;
}

-- what is answered of a whole run
pub end_is : {M : Type 0} (origin : Origin M) (turns : List CrossTurn) (run : Run) (mouths : Both (MouthTold M))
    (later : Both (MouthTold M)) (steps : List BridgeStep) (bridge : BridgeState) (answer : BridgeEnd)
    → IsSoFar origin turns run mouths → IsAt origin steps bridge later
    → answer.near ≡ bridge.passed.near → answer.far ≡ bridge.passed.far
    → (IsTrue answer.lost ↔ ((side : Side) × (16 ≤ of side (both run.near_faults run.far_faults))))
    → IsBridgeEnd turns steps answer
end_is origin turns run mouths later steps bridge answer h at near far lost = record {
  near = near ∙ at.stands.passed Near;
  far = far ∙ at.stands.passed Far;
  lost = (
    λ e. let (side, many) = lost.0 e in (side, subst (λ n. 16 ≤ n) (h.faults side) many),
    λ (side, many). lost.1 (side, subst (λ n. 16 ≤ n) (sym (h.faults side)) many),
  );
}

-- where Faults stand last there is one
front_fault : (entries : List Heard) → 1 ≤ prefix_len is_fault entries
    → (rest : List Heard) × (entries ≡ Fault ∷ rest)
front_fault [] h = absurd (omega arith)
front_fault (Datagram from at bytes ∷ rest) h = absurd (omega arith)
front_fault (Quiet at ∷ rest) h = absurd (omega arith)
front_fault (Fault ∷ rest) h = (rest, refl)
front_fault (End ∷ rest) h = absurd (omega arith)

fault_there : (entries : List Heard) → 16 ≤ suffix_len is_fault entries → Contains entries Fault
fault_there entries many =
    let front = front_fault (reverse entries) (omega (arith, many)) in
    let is : entries ≡ reverse front.0 ++ Fault ∷ [] =
    sym (reverse-reverse entries) ∙ ap reverse front.1 ∙ reverse-append (Fault ∷ []) front.0 in
    subst (λ l. Contains l Fault) (sym is) (Contains-push (reverse front.0) Fault)

-- an ear that was lost has counted it
pub has_risen : {E : Type 0} (start new : Both (EarTold E)) (turns : List CrossTurn) (side : Side)
    → HasHeard (of side start) (entries_on side turns) (of side new) → IsLostOn side turns
    → HasRisen (of side start).faults (of side new).faults
has_risen start new turns side heard lost = heard.fault (fault_there (entries_on side turns) lost)
