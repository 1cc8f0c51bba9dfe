-- One more step of a bridge over its devices, and one more turn of a run.
use Rattle.std.proofs.Common.{◌≡◌, ◌↔◌, ℕ, zero, suc, Bool, true, false, cond, ◌+◌, List, [], ◌∷◌, ◌++◌, length, filter, reverse, refl, sym, ap, ◌∙◌, subst, inl, inr, arith, None, Some, IsTrue}
use Rattle.std.specs.List.{flat_map, last_or, prefix_len, slice_get, suffix_len}
use Rattle.std.proofs.lemmas.List.{append-nil, length_push, map-append, reverse-append}
use Rattle.std.proofs.lemmas.List.Elements.{filter-append}
use Rattle.std.proofs.lemmas.Grind.{flat_map-append}
use Rattle.m17_lists.proofs.Lengths.{one_more_is_the_last}
use Rattle.m17_values.specs.declared.heard.Heard.{Heard}
use Rattle.m17_values.specs.declared.heard.Heard.TheVariants.{Datagram, Quiet, Fault, End}
use Rattle.m17_values.specs.declared.peer.Peer.{Peer}
use Rattle.m17_ports.specs.Mouth.{MouthTold, SaidOf}
use Rattle.m17_client.specs.declared.state.Input.{Input}
use Rattle.m17_client.specs.declared.state.Input.TheVariants.{Leave}
use Rattle.m17_client.specs.Steps.{ClientStep}
use Rattle.m17_client.specs.Talk.{IsHeardAs, is_fault}
use Rattle.m17_client.specs.TalkDevices.{datagrams_to, said_by, says_of}
use Rattle.m17_client.specs.declared.side.Side.{Side}
use Rattle.m17_client.specs.declared.side.Side.TheVariants.{Near, Far}
use Rattle.m17_client.specs.declared.side.Cross.{Cross}
use Rattle.m17_client.specs.declared.bridge_run.Run.{Run}
use Rattle.m17_client.specs.Sides.{Both, both, is_side, of, opposite}
use Rattle.m17_client.specs.BridgeSteps.{AreSaidBy, BridgeStep, said_on, steps_on, taken_on}
use Rattle.m17_client.specs.StandsFor.{BridgeStandsFor, BridgeState}
use Rattle.m17_client.specs.CrossRun.{BothLeave, CrossPlan, CrossTurn, IsCrossTurn, entries_of, entries_on, side_at, steps_of}
use Rattle.m17_client.specs.CrossSoFar.{IsAt, IsSoFar, IsStepless, Origin, counted}
use Rattle.m17_client.proofs.BridgeOneStep.{flat_more}

-- what holds of both sides holds of each
pub by_both : (P : Side → Type 0) → P Near → P Far → (side : Side) → P side
by_both P near far Near = near
by_both P near far Far = far

-- what is said on a side after one more step
says_more : (side : Side) (steps : List BridgeStep) (step : BridgeStep) (crosses : List Cross)
    → AreSaidBy step crosses
    → says_of (steps_on side steps) ++ said_on side crosses ≡ says_of (steps_on side (steps ++ step ∷ []))
says_more side steps step crosses are =
    ap (λ l. says_of (steps_on side steps) ++ l) (are side)
    ∙ sym (flat_map-append (λ (s : ClientStep). flat_map said_by s.actions) (steps_on side steps) (taken_on side step))
    ∙ sym (ap says_of (flat_more (taken_on side) steps step))

module _ {M : Type 0} where
  -- a mouth goes on from what it was to say to more
  abbrev pub SaysOn : Peer → List (List ℕ) → MouthTold M → MouthTold M → Type 0
  SaysOn to more old new = (start : MouthTold M) (before : List (List ℕ))
      → SaidOf start (datagrams_to to before) old → SaidOf start (datagrams_to to (before ++ more)) new

  side_says : (origin : Origin M) (side : Side) (to : Peer) (steps : List BridgeStep) (step : BridgeStep)
      (crosses : List Cross) (old new : MouthTold M) → of side origin.plan.to ≡ to → AreSaidBy step crosses
      → SaidOf (of side origin.mouths)
      (datagrams_to (of side origin.plan.to) (says_of (steps_on side steps))) old
      → SaysOn to (said_on side crosses) old new
      → SaidOf (of side origin.mouths)
      (datagrams_to (of side origin.plan.to) (says_of (steps_on side (steps ++ step ∷ [])))) new
  side_says origin side to steps step crosses old new to_is are h on =
      subst (λ p. SaidOf (of side origin.mouths)
      (datagrams_to p (says_of (steps_on side (steps ++ step ∷ [])))) new) (sym to_is)
      (subst (λ l. SaidOf (of side origin.mouths) (datagrams_to to l) new)
      (says_more side steps step crosses are)
      (on (of side origin.mouths) (says_of (steps_on side steps))
      (subst (λ p. SaidOf (of side origin.mouths) (datagrams_to p (says_of (steps_on side steps))) old) to_is h)))

  -- one more step, and what comes of it said
  pub at_more : (origin : Origin M) (steps : List BridgeStep) (step : BridgeStep) (old new : BridgeState)
      (crosses : List Cross) (near_to far_to : Peer) (near near_later far far_later : MouthTold M)
      → origin.plan.to ≡ both near_to far_to → IsAt origin steps old (both near far)
      → BridgeStandsFor origin.plan.ends (steps ++ step ∷ []) new → AreSaidBy step crosses
      → SaysOn near_to (said_on Near crosses) near near_later
      → SaysOn far_to (said_on Far crosses) far far_later
      → IsAt origin (steps ++ step ∷ []) new (both near_later far_later)
  at_more origin steps step old new crosses near_to far_to near near_later far far_later to_is h stands are by_near by_far =
      record {
        stands = stands;
        said = by_both (λ s. SaidOf (of s origin.mouths)
            (datagrams_to (of s origin.plan.to) (says_of (steps_on s (steps ++ step ∷ []))))
            (of s (both near_later far_later)))
            (side_says origin Near near_to steps step crosses near near_later (ap (of Near) to_is) are (h.said Near) by_near)
            (side_says origin Far far_to steps step crosses far far_later (ap (of Far) to_is) are (h.said Far) by_far);
      }

-- what was heard, and the steps, after one more turn
pub entries_more : (turns : List CrossTurn) (turn : CrossTurn)
    → entries_of (turns ++ turn ∷ []) ≡ entries_of turns ++ turn.heard ∷ []
entries_more turns turn = map-append (λ (t : CrossTurn). t.heard) turns (turn ∷ [])

pub steps_more : (turns : List CrossTurn) (turn : CrossTurn)
    → steps_of (turns ++ turn ∷ []) ≡ steps_of turns ++ turn.steps
steps_more turns turn = flat_map-append (λ (t : CrossTurn). t.steps) turns (turn ∷ [])
    ∙ ap (λ l. steps_of turns ++ l) (append-nil turn.steps)

of_filtered : (b : Bool) (turn : CrossTurn)
    → entries_of (cond b (turn ∷ []) []) ≡ cond b (turn.heard ∷ []) []
of_filtered true turn = refl
of_filtered false turn = refl

pub side_entries_more : (side : Side) (turns : List CrossTurn) (turn : CrossTurn)
    → entries_on side (turns ++ turn ∷ [])
    ≡ entries_on side turns ++ cond (is_side turn.side side) (turn.heard ∷ []) []
side_entries_more side turns turn =
    ap entries_of (filter-append (λ (t : CrossTurn). is_side t.side side) turns (turn ∷ []))
    ∙ map-append (λ (t : CrossTurn). t.heard) (filter (λ (t : CrossTurn). is_side t.side side) turns)
    (cond (is_side turn.side side) (turn ∷ []) [])
    ∙ ap (λ l. entries_on side turns ++ l) (of_filtered (is_side turn.side side) turn)

-- the Faults that stand last, after one more entry
faults_more : (entries : List Heard) (entry : Heard) → suffix_len is_fault (entries ++ entry ∷ [])
    ≡ cond (is_fault entry) (suffix_len is_fault entries + 1) 0
faults_more entries entry =
    ap (prefix_len is_fault) (reverse-append entries (entry ∷ []))
    ∙ ap (λ n. cond (is_fault entry) n 0) (let one : 1 + prefix_len is_fault (reverse entries)
    ≡ suffix_len is_fault entries + 1 = omega arith in one)

faults_or_not : (b : Bool) (entries : List Heard) (entry : Heard)
    → suffix_len is_fault (entries ++ cond b (entry ∷ []) [])
    ≡ cond b (cond (is_fault entry) (suffix_len is_fault entries + 1) 0) (suffix_len is_fault entries)
faults_or_not true entries entry = faults_more entries entry
faults_or_not false entries entry = ap (suffix_len is_fault) (append-nil entries)

-- what holds at each place still does after one more item
place_more : {A : Type 0} (P : ℕ → A → Type 0) (xs : List A) (x : A)
    → ((n : ℕ) (y : A) → slice_get xs n ≡ Some y → P n y) → P (length xs) x
    → (n : ℕ) (y : A) → slice_get (xs ++ x ∷ []) n ≡ Some y → P n y
place_more P [] x each last zero y at = let same : x ≡ y = cc in subst (λ z. P 0 z) same last
place_more P [] x each last (suc n) y at = absurd (cc)
place_more P (z ∷ xs) x each last zero y at = each 0 y at
place_more P (z ∷ xs) x each last (suc n) y at =
    place_more (λ k w. P (suc k) w) xs x (λ k w here. each (suc k) w here) last n y at

-- what a run is known by, after one more turn
pub record TurnTaken (turn : CrossTurn) (old new : Run) : Type 0 where
  pub on_side : turn.side ≡ old.side
  pub next : new.side ≡ opposite old.side
  pub faults : (side : Side) → of side (both new.near_faults new.far_faults)
      ≡ counted side old.side (is_fault turn.heard) (of side (both old.near_faults old.far_faults))
  pub ended : IsTrue new.ended ↔ (turn.heard ≡ End)

-- a run whose count is brought up to date, and the end told, where the turn passes to the other
-- side
abbrev pub told_of : Run → Bool → Bool → Run
told_of old ended fault = record old {
  near_faults = counted Near old.side fault old.near_faults;
  far_faults = counted Far old.side fault old.far_faults;
  ended = ended;
}

abbrev pub passed_on : Run → BridgeState → Side → Run
passed_on run bridge side = record run { bridge = bridge; side = side }

pub turn_taken : (old mid : Run) (ended fault : Bool) (turn : CrossTurn) (bridge : BridgeState) (side : Side)
    → mid ≡ told_of old ended fault → fault ≡ is_fault turn.heard → (IsTrue ended ↔ (turn.heard ≡ End))
    → turn.side ≡ old.side → side ≡ opposite old.side → TurnTaken turn old (passed_on mid bridge side)
turn_taken old mid ended fault turn bridge side is fault_is end on_side next = record {
  on_side = on_side;
  next = next;
  faults = by_both (λ s. of s (both mid.near_faults mid.far_faults)
      ≡ counted s old.side (is_fault turn.heard) (of s (both old.near_faults old.far_faults)))
      (ap (λ (r : Run). r.near_faults) is ∙ ap (λ b. counted Near old.side b old.near_faults) fault_is)
      (ap (λ (r : Run). r.far_faults) is ∙ ap (λ b. counted Far old.side b old.far_faults) fault_is);
  ended = subst (λ b. IsTrue b ↔ (turn.heard ≡ End)) (sym (ap (λ (r : Run). r.ended) is)) end;
}

-- the bridge is as it was
pub same_bridge : {M : Type 0} (origin : Origin M) (steps : List BridgeStep) (old mid : Run) (ended fault : Bool)
    (mouths : Both (MouthTold M)) → mid ≡ told_of old ended fault → IsAt origin steps old.bridge mouths
    → IsAt origin steps mid.bridge mouths
same_bridge origin steps old mid ended fault mouths is h =
    subst (λ b. IsAt origin steps b mouths) (sym (ap (λ (r : Run). r.bridge) is)) h

pub so_far_more : {M : Type 0} (origin : Origin M) (turns : List CrossTurn) (turn : CrossTurn) (old new : Run)
    (mouths later : Both (MouthTold M)) → IsSoFar origin turns old mouths
    → IsAt origin (steps_of turns ++ turn.steps) new.bridge later
    → IsCrossTurn origin.plan turn.side turn.heard turn.steps → TurnTaken turn old new
    → IsSoFar origin (turns ++ turn ∷ []) new later
so_far_more origin turns turn old new mouths later h at is_turn taken =
    let last : last_or None (entries_of (turns ++ turn ∷ [])) ≡ Some turn.heard =
    ap (last_or None) (entries_more turns turn) ∙ one_more_is_the_last None (entries_of turns) turn.heard in
    let long : length (turns ++ turn ∷ []) ≡ suc (length turns) = omega (arith, length_push turns turn) in record {
      at = subst (λ l. IsAt origin l new.bridge later) (sym (steps_more turns turn)) at;
      in_turn = place_more (λ n t. t.side ≡ side_at n) turns turn h.in_turn (taken.on_side ∙ h.next);
      next = taken.next ∙ ap opposite h.next ∙ sym (ap side_at long);
      each = place_more (λ n t. IsCrossTurn origin.plan t.side t.heard t.steps) turns turn h.each is_turn;
      faults = λ side. taken.faults side
          ∙ ap (counted side old.side (is_fault turn.heard)) (h.faults side)
          ∙ ap (λ s. counted side s (is_fault turn.heard) (suffix_len is_fault (entries_on side turns)))
          (sym taken.on_side)
          ∙ sym (faults_or_not (is_side turn.side side) (entries_on side turns) turn.heard)
          ∙ ap (suffix_len is_fault) (sym (side_entries_more side turns turn));
      ended = (
        λ e. last ∙ ap (λ x. Some x) (taken.ended.0 e),
        λ e. taken.ended.1 (let same : turn.heard ≡ End = cc in same),
      );
    }

-- the steps at an entry that is stepped on, or not
pub turn_on : (plan : CrossPlan) (side : Side) (to : Peer) (entry : Heard) (input : Input) (step : BridgeStep)
    → of side plan.to ≡ to → IsHeardAs to entry input → step.side ≡ side → step.own.input ≡ input
    → IsCrossTurn plan side entry (step ∷ [])
turn_on plan side to (Datagram from at bytes) input step to_is heard on_side on_input = (
  step,
  refl,
  on_side,
  subst (λ i. IsHeardAs (of side plan.to) (Datagram from at bytes) i) (sym on_input)
      (subst (λ p. IsHeardAs p (Datagram from at bytes) input) (sym to_is) heard),
)
turn_on plan side to (Quiet at) input step to_is heard on_side on_input =
    (step, refl, on_side, on_input ∙ heard)
turn_on plan side to Fault input step to_is heard on_side on_input = absurd heard
turn_on plan side to End input step to_is heard on_side on_input = absurd heard

pub no_turn : (plan : CrossPlan) (side : Side) (entry : Heard) → IsStepless entry
    → IsCrossTurn plan side entry []
no_turn plan side entry (inl e) = subst (λ x. IsCrossTurn plan side x []) (sym e) refl
no_turn plan side entry (inr e) = subst (λ x. IsCrossTurn plan side x []) (sym e) refl

pub both_leave : (near far : BridgeStep) → near.side ≡ Near → far.side ≡ Far → near.own.input ≡ Leave
    → far.own.input ≡ Leave → BothLeave (near ∷ far ∷ [])
both_leave near far near_is far_is near_leaves far_leaves = record { sides = cc; inputs = cc }
