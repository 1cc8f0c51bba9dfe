-- One more step of a bridge.
use Rattle.std.proofs.Common.{◌≡◌, ℕ, ◌+◌, ◌-◌, ◌^◌, min, max, false, cond, List, [], ◌∷◌, ◌++◌, length, map, filter, fold, refl, sym, ap, ◌∙◌, subst, arith, Option, None, Some, option_map}
use Rattle.std.specs.List.{flat_map, items_where_true, last_or}
use Rattle.std.proofs.lemmas.List.{append-nil, length-append}
use Rattle.std.proofs.lemmas.List.Elements.{filter-append}
use Rattle.std.proofs.lemmas.List.Sums.{fold-append}
use Rattle.std.proofs.lemmas.Grind.{flat_map-append}
use Rattle.m17_client.specs.Standing.{Standing}
use Rattle.m17_client.specs.Client.{IsClientStep}
use Rattle.m17_client.specs.Steps.{ClientStep, IsClientRun, inputs_of, is_connected, is_send, standing_after}
use Rattle.m17_client.specs.declared.state.Input.TheVariants.{Send}
use Rattle.m17_client.specs.declared.side.Side.{Side}
use Rattle.m17_client.specs.Sides.{Both, is_side, of, opposite}
use Rattle.m17_client.specs.Passing.{Crosses, Kept}
use Rattle.m17_client.specs.BridgeSteps.{BridgeStep, IsBehind, kept_in, kept_of, moment_of, moments_in, passes_of, passing, passing_from, standing_on, steps_on, taken_on}
use Rattle.m17_client.specs.StandsFor.{BridgeStandsFor, BridgeState, crossing_of}
use Rattle.m17_client.proofs.Picked.{by_sides, each_more, is_other_side, is_same_side, picked_both}
use Rattle.m17_client.proofs.Rule.{RuleFrom, crosses_by, rule_append, rule_of}

-- runs of a client, one behind another
pub standing_append : (first : Standing) (xs ys : List ClientStep)
    → standing_after first (xs ++ ys) ≡ standing_after (standing_after first xs) ys
standing_append first [] ys = refl
standing_append first (x ∷ xs) ys = standing_append x.after xs ys

pub run_append : (first : Standing) (xs ys : List ClientStep) → IsClientRun first xs
    → IsClientRun (standing_after first xs) ys → IsClientRun first (xs ++ ys)
run_append first [] ys run more = more
run_append first (x ∷ xs) ys run more = (run.0, run_append x.after xs ys run.1 more)

-- what all steps have, after one more
module _ {A : Type 0} where
  pub flat_more : (f : BridgeStep → List A) (steps : List BridgeStep) (step : BridgeStep)
      → flat_map f (steps ++ step ∷ []) ≡ flat_map f steps ++ f step
  flat_more f steps step =
      flat_map-append f steps (step ∷ []) ∙ ap (λ l. flat_map f steps ++ l) (append-nil (f step))

pub taken_own : (step : BridgeStep) → taken_on step.side step ≡ step.own ∷ []
taken_own step = ap (λ b. cond b (step.own ∷ []) step.others) (is_same_side step.side)

pub taken_other : (step : BridgeStep) → taken_on (opposite step.side) step ≡ step.others
taken_other step = ap (λ b. cond b (step.own ∷ []) step.others) (is_other_side step.side)

moment_more : (steps : List BridgeStep) (step : BridgeStep)
    → moment_of (steps ++ step ∷ []) ≡ fold max (moment_of steps) (moments_in step.own.input)
moment_more steps step =
    ap (fold max 0) (flat_more (λ s. moments_in s.own.input) steps step)
    ∙ fold-append max 0 (flat_map (λ (s : BridgeStep). moments_in s.own.input) steps) (moments_in step.own.input)

-- of how many packets of a side
pub count_on : Side → List Kept → ℕ
count_on side all = length (filter (λ (k : Kept). is_side k.side side) all)

-- What a step does to what a bridge keeps, where this is the last packet that passed.
pub record IsNext (old : BridgeState) (before : Option Kept) (step : BridgeStep) (new : BridgeState)
    : Type 0 where
  pub own : IsClientStep (of step.side old.clients) step.own.input step.own.actions step.own.after
  pub heard : is_send step.own.input ≡ false
  pub others : IsClientRun (of (opposite step.side) old.clients) step.others
  pub own_after : of step.side new.clients ≡ step.own.after
  pub others_after : of (opposite step.side) new.clients
      ≡ standing_after (of (opposite step.side) old.clients) step.others
  pub at : step.moment ≡ fold max old.moment (moments_in step.own.input)
  pub moment : new.moment ≡ step.moment
  pub connected : step.connected ≡ is_connected (of (opposite step.side) old.clients).state
  pub each_told : length step.passes ≡ length (kept_in step)
  pub sends : inputs_of step.others
      ≡ map (λ kept. Send kept.packet) (items_where_true step.passes (kept_in step))
  pub rule : RuleFrom before (kept_in step) step.passes
  pub latest : new.latest
      ≡ option_map crossing_of (last_or before (items_where_true step.passes (kept_in step)))
  pub passed : (side : Side) → of side new.passed
      ≡ min (of side old.passed + length (filter (λ kept. is_side kept.side side)
      (items_where_true step.passes (kept_in step)))) (2 ^ 64 - 1)

last_append : {A : Type 0} (o : Option A) (xs ys : List A)
    → last_or o (xs ++ ys) ≡ last_or (last_or o xs) ys
last_append o [] ys = refl
last_append o (x ∷ xs) ys = last_append (Some x) xs ys

passing_more : (steps : List BridgeStep) (step : BridgeStep)
    → length (passes_of steps) ≡ length (kept_of steps)
    → passing (steps ++ step ∷ []) ≡ passing steps ++ items_where_true step.passes (kept_in step)
passing_more steps step e =
    ap (λ ms. items_where_true ms (kept_of (steps ++ step ∷ []))) (flat_more (λ s. s.passes) steps step)
    ∙ ap (λ xs. items_where_true (passes_of steps ++ step.passes) xs) (flat_more kept_in steps step)
    ∙ picked_both (passes_of steps) step.passes (kept_of steps) (kept_in step) e

client_goes_on : (ends : Both Standing) (steps : List BridgeStep) (step : BridgeStep) (side : Side)
    (taken : List ClientStep) → taken_on side step ≡ taken
    → IsClientRun (of side ends) (steps_on side steps)
    → IsClientRun (standing_on ends side steps) taken
    → IsClientRun (of side ends) (steps_on side (steps ++ step ∷ []))
client_goes_on ends steps step side taken is run more =
    subst (λ l. IsClientRun (of side ends) l)
    (sym (flat_more (taken_on side) steps step ∙ ap (λ l. steps_on side steps ++ l) is))
    (run_append (of side ends) (steps_on side steps) taken run more)

client_stands : (ends : Both Standing) (steps : List BridgeStep) (step : BridgeStep) (side : Side)
    (taken : List ClientStep) → taken_on side step ≡ taken
    → standing_on ends side (steps ++ step ∷ []) ≡ standing_after (standing_on ends side steps) taken
client_stands ends steps step side taken is =
    ap (standing_after (of side ends))
    (flat_more (taken_on side) steps step ∙ ap (λ l. steps_on side steps ++ l) is)
    ∙ standing_append (of side ends) (steps_on side steps) taken

-- the last packet that passed
abbrev pub latest_of : List BridgeStep → Option Kept
latest_of steps = last_or None (passing steps)

behind : (ends : Both Standing) (steps : List BridgeStep) (step : BridgeStep) (old new : BridgeState)
    → BridgeStandsFor ends steps old → IsNext old (latest_of steps) step new → IsBehind ends steps step
behind ends steps step old new h one = record {
  heard = one.heard;
  moment = one.at ∙ ap (λ m. fold max m (moments_in step.own.input)) h.moment
      ∙ sym (moment_more steps step);
  connected = one.connected ∙ ap (λ (c : Standing). is_connected c.state) (h.clients (opposite step.side));
  each_told = one.each_told;
  sends = one.sends;
}

pub goes_on : (ends : Both Standing) (steps : List BridgeStep) (step : BridgeStep) (old new : BridgeState)
    → BridgeStandsFor ends steps old → IsNext old (latest_of steps) step new
    → BridgeStandsFor ends (steps ++ step ∷ []) new
goes_on ends steps step old new h one =
    let is_behind = behind ends steps step old new h one in
    let more = passing_more steps step h.run.crosses.each_told in
    let own_was = h.clients step.side in
    let other_was = h.clients (opposite step.side) in
    record {
      run = record {
        clients = λ side. by_sides (λ s. IsClientRun (of s ends) (steps_on s (steps ++ step ∷ []))) step.side side
            (client_goes_on ends steps step step.side (step.own ∷ []) (taken_own step) (h.run.clients step.side)
            (subst (λ c. IsClientStep c step.own.input step.own.actions step.own.after) own_was one.own, tt))
            (client_goes_on ends steps step (opposite step.side) step.others (taken_other step)
            (h.run.clients (opposite step.side))
            (subst (λ c. IsClientRun c step.others) other_was one.others));
        each = each_more (λ l s. IsBehind ends l s) steps step h.run.each is_behind;
        crosses = subst (λ xs. Crosses xs (passes_of (steps ++ step ∷ []))) (sym (flat_more kept_in steps step))
            (subst (λ ms. Crosses (kept_of steps ++ kept_in step) ms)
            (sym (flat_more (λ s. s.passes) steps step))
            (crosses_by (kept_of steps ++ kept_in step) (passes_of steps ++ step.passes)
            (rule_append None (kept_of steps) (passes_of steps) (kept_in step) step.passes
            (rule_of (kept_of steps) (passes_of steps) h.run.crosses) one.rule)));
      };
      clients = λ side. by_sides (λ s. of s new.clients ≡ standing_on ends s (steps ++ step ∷ [])) step.side side
          (one.own_after ∙ sym (client_stands ends steps step step.side (step.own ∷ []) (taken_own step)))
          (one.others_after ∙ ap (λ c. standing_after c step.others) other_was
          ∙ sym (client_stands ends steps step (opposite step.side) step.others (taken_other step)));
      moment = one.moment ∙ is_behind.moment;
      latest = one.latest ∙ ap (option_map crossing_of)
          (sym (last_append None (passing steps) (items_where_true step.passes (kept_in step)))
          ∙ ap (last_or None) (sym more));
      passed = λ side.
          let all = ap (filter (λ (k : Kept). is_side k.side side)) more
          ∙ filter-append (λ (k : Kept). is_side k.side side) (passing steps)
          (items_where_true step.passes (kept_in step)) in
          let long = ap length all
          ∙ length-append (passing_from side steps) (filter (λ (k : Kept). is_side k.side side)
          (items_where_true step.passes (kept_in step))) in
          omega (arith, one.passed side, h.passed side, long);
    }
