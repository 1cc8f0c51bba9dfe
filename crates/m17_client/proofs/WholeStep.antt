-- A whole step of a bridge, of what its parts do.
use Rattle.std.proofs.Common.{◌≡◌, ◌&&◌, ℕ, ◌+◌, ◌-◌, ◌^◌, ◌≤◌, min, max, Bool, true, false, cond, List, [], ◌∷◌, ◌++◌, length, map, filter, fold, refl, sym, ap, ◌∙◌, subst, arith, option_map}
use Rattle.std.specs.List.{flat_map, items_where_true, last_or}
use Rattle.std.proofs.lemmas.List.{append-nil}
use Rattle.m17_stream.specs.declared.packet.StreamPacket.{StreamPacket}
use Rattle.m17_client.specs.declared.state.Action.{Action}
use Rattle.m17_client.specs.declared.state.Input.{Input}
use Rattle.m17_client.specs.declared.state.Input.TheVariants.{Send}
use Rattle.m17_client.specs.Standing.{Standing}
use Rattle.m17_client.specs.Client.{IsClientStep}
use Rattle.m17_client.specs.Steps.{ClientStep, IsClientRun, inputs_of, is_connected, is_send, standing_after}
use Rattle.m17_client.specs.TalkDevices.{said_by, says_of}
use Rattle.m17_client.specs.Way as client
use Rattle.m17_client.specs.declared.side.Side.{Side}
use Rattle.m17_client.specs.declared.side.Cross.{Cross}
use Rattle.m17_client.specs.Sides.{Both, is_side, of, opposite}
use Rattle.m17_client.specs.Passing.{Kept}
use Rattle.m17_client.specs.BridgeSteps.{AreSaidBy, BridgeStep, kept_in, moments_in, said_on, taken_on}
use Rattle.m17_client.specs.StandsFor.{BridgeStandsFor, BridgeState, crossing_of}
use Rattle.m17_client.specs.OneStep.{IsTaken, OnlySteps, kept_now}
use Rattle.m17_client.proofs.Picked.{by_sides}
use Rattle.m17_client.proofs.Rule.{RuleFrom}
use Rattle.m17_client.proofs.BridgeOneStep.{goes_on, latest_of, taken_other, taken_own}

-- The own client has stepped, and nothing else was done yet.
pub record Stepped (old : BridgeState) (side : Side) (input : Input) (actions : List Action)
    (mid : BridgeState) : Type 0 where
  pub no_send : is_send input ≡ false
  pub step : IsClientStep (of side old.clients) input actions (of side mid.clients)
  pub other : of (opposite side) mid.clients ≡ of (opposite side) old.clients
  pub moment : mid.moment ≡ fold max old.moment (moments_in input)
  pub latest : mid.latest ≡ old.latest
  pub passed : mid.passed ≡ old.passed

-- the moment is brought up to date, and then the client of a side steps
pub stepped : (old seen mid : BridgeState) (side : Side) (input : Input) (actions : List Action)
    → seen ≡ record old { moment = fold max old.moment (moments_in input) } → is_send input ≡ false
    → IsClientStep (of side seen.clients) input actions (of side mid.clients) → OnlySteps side seen mid
    → Stepped old side input actions mid
stepped old seen mid side input actions is unsent by_client only =
    let clients : seen.clients ≡ old.clients = ap (λ (b : BridgeState). b.clients) is in record {
      no_send = unsent;
      step = subst (λ p. IsClientStep (of side p) input actions (of side mid.clients)) clients by_client;
      other = only.other ∙ ap (of (opposite side)) clients;
      moment = only.moment ∙ ap (λ (b : BridgeState). b.moment) is;
      latest = only.latest ∙ ap (λ (b : BridgeState). b.latest) is;
      passed = only.passed ∙ ap (λ (b : BridgeState). b.passed) is;
    }

-- one step behind others, and what is to be said of it
pub record StepIs (ends : Both Standing) (steps : List BridgeStep) (side : Side) (input : Input)
    (out : List Cross) (new : BridgeState) : Type 0 where
  pub step : BridgeStep
  pub on_side : step.side ≡ side
  pub on_input : step.own.input ≡ input
  pub says : AreSaidBy step out
  pub stands : BridgeStandsFor ends (steps ++ step ∷ []) new

said_by_step : (step : BridgeStep) (out : List Cross)
    → said_on step.side out ≡ flat_map said_by step.own.actions
    → said_on (opposite step.side) out ≡ says_of step.others → AreSaidBy step out
said_by_step step out own other side =
    by_sides (λ s. said_on s out ≡ says_of (taken_on s step)) step.side side
    (own ∙ sym (append-nil (flat_map said_by step.own.actions)) ∙ sym (ap says_of (taken_own step)))
    (other ∙ sym (ap says_of (taken_other step)))

-- the step that was made
abbrev step_of : BridgeState → Side → Input → List Action → List Bool → List ClientStep → BridgeStep
step_of mid side input actions passes others = record {
  side = side;
  moment = mid.moment;
  connected = is_connected (of (opposite side) mid.clients).state;
  own = record { input = input; actions = actions; after = of side mid.clients };
  passes = passes;
  others = others;
}

kept_of_step : (mid : BridgeState) (side : Side) (input : Input) (actions : List Action) (passes : List Bool)
    (others : List ClientStep) (packets : List StreamPacket) → flat_map client.kept_in actions ≡ packets
    → kept_in (step_of mid side input actions passes others) ≡ map (kept_now mid side) packets
kept_of_step mid side input actions passes others packets e = ap (map (kept_now mid side)) e

nothing_counted : (n m : ℕ) → n ≤ 2 ^ 64 - 1 → m ≡ n → m ≡ min (n + 0) (2 ^ 64 - 1)
nothing_counted n m le e = omega (arith, le, e)

within : (a n : ℕ) → n ≡ min a (2 ^ 64 - 1) → n ≤ 2 ^ 64 - 1
within a n e = omega (arith, e)

-- nothing was kept
pub none_kept : (ends : Both Standing) (steps : List BridgeStep) (old mid : BridgeState) (side : Side)
    (input : Input) (actions : List Action) (out : List Cross) → BridgeStandsFor ends steps old
    → Stepped old side input actions mid → flat_map client.kept_in actions ≡ []
    → said_on side out ≡ flat_map said_by actions → said_on (opposite side) out ≡ []
    → StepIs ends steps side input out mid
none_kept ends steps old mid side input actions out h did none own other =
    let step = step_of mid side input actions [] [] in
    let kept : kept_in step ≡ [] = kept_of_step mid side input actions [] [] [] none in record {
      step = step;
      on_side = refl;
      on_input = refl;
      says = said_by_step step out own other;
      stands = goes_on ends steps step old mid h (record {
        own = did.step;
        heard = did.no_send;
        others = tt;
        own_after = refl;
        others_after = did.other;
        at = did.moment;
        moment = refl;
        connected = ap (λ (c : Standing). is_connected c.state) did.other;
        each_told = sym (ap length kept);
        sends = refl;
        rule = subst (λ l. RuleFrom (latest_of steps) l []) (sym kept) tt;
        latest = did.latest ∙ h.latest;
        passed = λ s. nothing_counted (of s old.passed) (of s mid.passed)
            (within _ (of s old.passed) (h.passed s)) (ap (of s) did.passed);
      });
    }

-- one more is counted, or not
one_more : (b : Bool) (k : Kept) (n m : ℕ) → n ≤ 2 ^ 64 - 1 → m ≡ cond b (min (n + 1) (2 ^ 64 - 1)) n
    → m ≡ min (n + length (cond b (k ∷ []) [])) (2 ^ 64 - 1)
one_more true k n m le e = omega (arith, e)
one_more false k n m le e = omega (arith, le, e)

counted_one : (passes : Bool) (k : Kept) (s : Side) (n m : ℕ) → n ≤ 2 ^ 64 - 1
    → m ≡ cond (passes && is_side k.side s) (min (n + 1) (2 ^ 64 - 1)) n
    → m ≡ min (n + length (filter (λ (x : Kept). is_side x.side s) (items_where_true (passes ∷ []) (k ∷ []))))
    (2 ^ 64 - 1)
counted_one true k s n m le e = one_more (is_side k.side s) k n m le e
counted_one false k s n m le e = omega (arith, le, e)

-- one packet was kept, and taken
pub one_kept : (ends : Both Standing) (steps : List BridgeStep) (old mid new : BridgeState) (side : Side)
    (input : Input) (actions : List Action) (packet : StreamPacket) (out later : List Cross)
    → BridgeStandsFor ends steps old → Stepped old side input actions mid
    → flat_map client.kept_in actions ≡ packet ∷ []
    → said_on side out ≡ flat_map said_by actions → said_on (opposite side) out ≡ []
    → IsTaken (kept_now mid side packet) (latest_of steps) mid out new later
    → StepIs ends steps side input later new
one_kept ends steps old mid new side input actions packet out later h did one own other taken =
    let passes = taken.passes ∷ [] in
    let step = step_of mid side input actions passes taken.others in
    let kept : kept_in step ≡ kept_now mid side packet ∷ [] =
    kept_of_step mid side input actions passes taken.others (packet ∷ []) one in record {
      step = step;
      on_side = refl;
      on_input = refl;
      says = said_by_step step later (taken.said_own ∙ own)
          (taken.said_other ∙ ap (λ l. l ++ says_of taken.others) other);
      stands = goes_on ends steps step old new h (record {
        own = did.step;
        heard = did.no_send;
        others = subst (λ c. IsClientRun c taken.others) did.other taken.run;
        own_after = taken.own;
        others_after = taken.other ∙ ap (λ c. standing_after c taken.others) did.other;
        at = did.moment;
        moment = taken.moment;
        connected = ap (λ (c : Standing). is_connected c.state) did.other;
        each_told = sym (ap length kept);
        sends = subst (λ l. inputs_of taken.others ≡ map (λ (k : Kept). Send k.packet) (items_where_true passes l))
            (sym kept) taken.sends;
        rule = subst (λ l. RuleFrom (latest_of steps) l passes) (sym kept) (taken.rule, tt);
        latest = subst (λ l. new.latest ≡ option_map crossing_of (last_or (latest_of steps) (items_where_true passes l))) (sym kept)
            taken.latest;
        passed = λ s. subst
            (λ l. of s new.passed ≡ min (of s old.passed + length (filter (λ (x : Kept). is_side x.side s)
            (items_where_true passes l))) (2 ^ 64 - 1))
            (sym kept)
            (counted_one taken.passes (kept_now mid side packet) s (of s old.passed) (of s new.passed)
            (within _ (of s old.passed) (h.passed s))
            (taken.passed s ∙ ap (λ n. cond (taken.passes && is_side side s) (min (n + 1) (2 ^ 64 - 1)) n)
            (ap (of s) did.passed)));
      });
    }
