-- The stream packets that a bridge says on a side are those of the other side that pass.
use Rattle.std.proofs.Common.{◌≡◌, ℕ, suc, Bool, true, false, cond, List, [], ◌∷◌, ◌++◌, length, map, filter, take, refl, sym, ap, ◌∙◌, subst, inl, inr, None, Some, IsTrue}
use Rattle.std.specs.List.{AllByRecursion, flat_map, items_where_true, slice_get}
use Rattle.std.proofs.lemmas.List.{append-nil, append_assoc, map-append}
use Rattle.std.proofs.lemmas.List.Elements.{filter-append}
use Rattle.std.proofs.lemmas.Grind.{flat_map-append}
use Rattle.m17_stream.specs.declared.packet.StreamPacket.{StreamPacket}
use Rattle.m17_client.specs.declared.state.Input.TheVariants.{Send}
use Rattle.m17_client.specs.Standing.{Standing}
use Rattle.m17_client.specs.Client.{IsClientStep}
use Rattle.m17_client.specs.Steps.{ClientStep, IsClientRun, inputs_of, is_connected, is_send, standing_after}
use Rattle.m17_client.specs.TalkDevices.{said_by, says_of}
use Rattle.m17_client.specs.Way as client
use Rattle.m17_client.specs.declared.side.Side.{Side}
use Rattle.m17_client.specs.Sides.{Both, is_side, of, opposite}
use Rattle.m17_client.specs.Passing.{Kept}
use Rattle.m17_client.specs.BridgeSteps.{BridgeStep, IsBehind, IsBridgeRun, kept_in, kept_of, passes_of, passing, passing_from, standing_on, steps_on, taken_on}
use Rattle.m17_client.specs.StandsFor.{MayBeJoined}
use Rattle.m17_client.specs.Promise.{HasFrames, IsNoFrame, KeepsPromise}
use Rattle.m17_client.proofs.Picked.{by_sides, is_other_side, is_same_side, may_cross, opposite_twice, picked_both}
use Rattle.m17_client.proofs.Rule.{all_connected, rule_of, takes_turns}
use Rattle.m17_client.proofs.Table.{hears, sends}
use Rattle.m17_client.proofs.BridgeOneStep.{flat_more, standing_append, taken_other, taken_own}

abbrev packets_of : List Kept → List StreamPacket
packets_of all = map (λ (k : Kept). k.packet) all

abbrev from_side : Side → List Kept → List Kept
from_side side all = filter (λ (k : Kept). is_side k.side side) all

frames_append : (a b : List (List ℕ)) (p q : List StreamPacket) → HasFrames a p → HasFrames b q
    → HasFrames (a ++ b) (p ++ q)
frames_append [] b p q h more = subst (λ l. HasFrames b (l ++ q)) (sym h) more
frames_append (x ∷ a) b p q (inl (packet, rest, is, spelled, h)) more =
    inl (packet, rest ++ q, ap (λ l. l ++ q) is, spelled, frames_append a b rest q h more)
frames_append (x ∷ a) b p q (inr (none, h)) more = inr (none, frames_append a b p q h more)

quiet_frames : (said : List (List ℕ)) → AllByRecursion IsNoFrame said → HasFrames said []
quiet_frames [] h = refl
quiet_frames (x ∷ xs) h = inr (h.0, quiet_frames xs h.1)

-- a client that is connected, and doesn't only listen, says each packet that it is to send
record SendsAll (c : Standing) (others : List ClientStep) (picked : List Kept) : Type 0 where
  frames : HasFrames (says_of others) (packets_of picked)
  same : standing_after c others ≡ c

sends_all : (c : Standing) (picked : List Kept) (others : List ClientStep) → c.listens ≡ false
    → AllByRecursion (λ k. is_connected c.state ≡ true) picked
    → inputs_of others ≡ map (λ (k : Kept). Send k.packet) picked → IsClientRun c others
    → SendsAll c others picked
sends_all c [] [] speaks on inputs run = record { frames = refl; same = refl }
sends_all c [] (o ∷ os) speaks on inputs run = absurd (cc)
sends_all c (k ∷ ks) [] speaks on inputs run = absurd (cc)
sends_all c (k ∷ ks) (o ∷ os) speaks on inputs run =
    let first : o.input ≡ Send k.packet = cc in
    let rest : inputs_of os ≡ map (λ (x : Kept). Send x.packet) ks = cc in
    let one = sends c k.packet o.actions o.after on.0 speaks
    (subst (λ i. IsClientStep c i o.actions o.after) first run.0) in
    let more = sends_all c ks os speaks on.1 rest (subst (λ s. IsClientRun s os) one.same run.1) in record {
      frames = subst (λ l. HasFrames (l ++ says_of os) (k.packet ∷ packets_of ks)) (sym one.says)
          (inl (k.packet, packets_of ks, refl, one.spelled, more.frames));
      same = ap (λ s. standing_after s os) one.same ∙ more.same;
    }

-- what a step keeps is of its side, and told as connected where the step is
abbrev IsOf : BridgeStep → Kept → Type 0
IsOf step k = (k.side ≡ step.side) × (k.connected ≡ step.connected)

kept_is_of : (step : BridgeStep) (packets : List StreamPacket) → AllByRecursion (IsOf step)
    (map (λ packet. record {
      side = step.side;
      at = step.moment;
      connected = step.connected;
      packet = packet;
    }) packets)
kept_is_of step [] = tt
kept_is_of step (p ∷ ps) = ((refl, refl), kept_is_of step ps)

picked_all : (P : Kept → Type 0) (ms : List Bool) (xs : List Kept) → AllByRecursion P xs
    → AllByRecursion P (items_where_true ms xs)
picked_all P [] xs h = tt
picked_all P (m ∷ ms) [] h = tt
picked_all P (true ∷ ms) (x ∷ xs) h = (h.0, picked_all P ms xs h.1)
picked_all P (false ∷ ms) (x ∷ xs) h = picked_all P ms xs h.1

abbrev picked_in : BridgeStep → List Kept
picked_in step = items_where_true step.passes (kept_in step)

picked_is_of : (step : BridgeStep) → AllByRecursion (IsOf step) (picked_in step)
picked_is_of step = picked_all (IsOf step) step.passes (kept_in step)
    (kept_is_of step (flat_map client.kept_in step.own.actions))

none_from : (step : BridgeStep) (all : List Kept) → AllByRecursion (IsOf step) all
    → from_side (opposite step.side) all ≡ []
none_from step [] h = refl
none_from step (x ∷ xs) h =
    let apart : is_side x.side (opposite step.side) ≡ false =
    ap (λ s. is_side s (opposite step.side)) h.0.0 ∙ is_other_side step.side in
    ap (λ b. cond b (x ∷ from_side (opposite step.side) xs) (from_side (opposite step.side) xs)) apart
    ∙ none_from step xs h.1

all_from : (step : BridgeStep) (all : List Kept) → AllByRecursion (IsOf step) all
    → from_side step.side all ≡ all
all_from step [] h = refl
all_from step (x ∷ xs) h =
    let same : is_side x.side step.side ≡ true =
    ap (λ s. is_side s step.side) h.0.0 ∙ is_same_side step.side in
    ap (λ b. cond b (x ∷ from_side step.side xs) (from_side step.side xs)) same
    ∙ ap (λ l. x ∷ l) (all_from step xs h.1)

all_on : (step : BridgeStep) (c : Standing) (all : List Kept) → step.connected ≡ is_connected c.state
    → AllByRecursion (IsOf step) all → AllByRecursion (λ k. IsTrue k.connected) all
    → AllByRecursion (λ k. is_connected c.state ≡ true) all
all_on step c [] is h on = tt
all_on step c (x ∷ xs) is h on = (sym is ∙ sym h.0.1 ∙ on.0, all_on step c xs is h.1 on.1)

-- what one step says on each side, and that neither client begins to listen only
record StepSays (own other : Standing) (step : BridgeStep) : Type 0 where
  frames : (side : Side) → HasFrames (says_of (taken_on side step))
      (packets_of (from_side (opposite side) (picked_in step)))
  own_listens : step.own.after.listens ≡ own.listens
  other_listens : (standing_after other step.others).listens ≡ other.listens

step_says : (own other : Standing) (step : BridgeStep) → is_send step.own.input ≡ false
    → IsClientStep own step.own.input step.own.actions step.own.after → IsClientRun other step.others
    → other.listens ≡ false → step.connected ≡ is_connected other.state
    → inputs_of step.others ≡ map (λ (k : Kept). Send k.packet) (picked_in step)
    → AllByRecursion (λ k. IsTrue k.connected) (picked_in step) → StepSays own other step
step_says own other step unsent by_own by_other speaks connected inputs on =
    let of_side = picked_is_of step in
    let heard = hears own step.own.input step.own.actions step.own.after unsent by_own in
    let sent = sends_all other (picked_in step) step.others speaks
    (all_on step other (picked_in step) connected of_side on) inputs by_other in record {
      frames = λ side. by_sides (λ s. HasFrames (says_of (taken_on s step))
          (packets_of (from_side (opposite s) (picked_in step)))) step.side side
          (subst (λ l. HasFrames (says_of l) (packets_of (from_side (opposite step.side) (picked_in step))))
          (sym (taken_own step))
          (subst (λ l. HasFrames l (packets_of (from_side (opposite step.side) (picked_in step))))
          (sym (append-nil (flat_map said_by step.own.actions)))
          (subst (λ l. HasFrames (flat_map said_by step.own.actions) (packets_of l))
          (sym (none_from step (picked_in step) of_side))
          (quiet_frames (flat_map said_by step.own.actions) heard.quiet))))
          (subst (λ l. HasFrames (says_of l) (packets_of (from_side (opposite (opposite step.side)) (picked_in step))))
          (sym (taken_other step))
          (subst (λ s. HasFrames (says_of step.others) (packets_of (from_side s (picked_in step))))
          (sym (opposite_twice step.side))
          (subst (λ l. HasFrames (says_of step.others) (packets_of l))
          (sym (all_from step (picked_in step) of_side)) sent.frames)));
      own_listens = heard.listens;
      other_listens = ap (λ (c : Standing). c.listens) sent.same;
    }

-- a run of a client in two parts
run_front : (first : Standing) (xs ys : List ClientStep) → IsClientRun first (xs ++ ys) → IsClientRun first xs
run_front first [] ys h = tt
run_front first (x ∷ xs) ys h = (h.0, run_front x.after xs ys h.1)

run_back : (first : Standing) (xs ys : List ClientStep) → IsClientRun first (xs ++ ys)
    → IsClientRun (standing_after first xs) ys
run_back first [] ys h = h
run_back first (x ∷ xs) ys h = run_back x.after xs ys h.1

all_back : (P : Kept → Type 0) (xs ys : List Kept) → AllByRecursion P (xs ++ ys) → AllByRecursion P ys
all_back P [] ys h = h
all_back P (x ∷ xs) ys h = all_back P xs ys h.1

all_front : (P : Kept → Type 0) (xs ys : List Kept) → AllByRecursion P (xs ++ ys) → AllByRecursion P xs
all_front P [] ys h = tt
all_front P (x ∷ xs) ys h = (h.0, all_front P xs ys h.1)

-- what is left of a run behind earlier steps
record Rest (ends : Both Standing) (earlier rest : List BridgeStep) : Type 0 where
  speaks : (side : Side) → (standing_on ends side earlier).listens ≡ false
  clients : (side : Side) → IsClientRun (standing_on ends side earlier) (steps_on side rest)
  each : (n : ℕ) (step : BridgeStep) → slice_get rest n ≡ Some step
      → IsBehind ends (earlier ++ take n rest) step
  connected : AllByRecursion (λ k. IsTrue k.connected) (passing rest)

first_behind : (ends : Both Standing) (earlier more : List BridgeStep) (step : BridgeStep)
    → Rest ends earlier (step ∷ more) → IsBehind ends earlier step
first_behind ends earlier more step h =
    subst (λ l. IsBehind ends l step) (append-nil earlier) (h.each 0 step refl)

passing_cons : (step : BridgeStep) (more : List BridgeStep) → length step.passes ≡ length (kept_in step)
    → passing (step ∷ more) ≡ picked_in step ++ passing more
passing_cons step more e = picked_both step.passes (passes_of more) (kept_in step) (kept_of more) e

first_says : (ends : Both Standing) (earlier more : List BridgeStep) (step : BridgeStep)
    → Rest ends earlier (step ∷ more)
    → StepSays (standing_on ends step.side earlier) (standing_on ends (opposite step.side) earlier) step
first_says ends earlier more step h =
    let one = first_behind ends earlier more step h in
    let own = run_front (standing_on ends step.side earlier) (taken_on step.side step) (steps_on step.side more)
    (h.clients step.side) in
    let other = run_front (standing_on ends (opposite step.side) earlier) (taken_on (opposite step.side) step)
    (steps_on (opposite step.side) more) (h.clients (opposite step.side)) in
    step_says (standing_on ends step.side earlier) (standing_on ends (opposite step.side) earlier) step one.heard
    (subst (λ l. IsClientRun (standing_on ends step.side earlier) l) (taken_own step) own).0
    (subst (λ l. IsClientRun (standing_on ends (opposite step.side) earlier) l) (taken_other step) other)
    (h.speaks (opposite step.side)) one.connected one.sends
    (all_front (λ k. IsTrue k.connected) (picked_in step) (passing more)
    (subst (λ l. AllByRecursion (λ k. IsTrue k.connected) l) (passing_cons step more one.each_told) h.connected))

stands_more : (ends : Both Standing) (earlier : List BridgeStep) (step : BridgeStep) (side : Side)
    → standing_on ends side (earlier ++ step ∷ [])
    ≡ standing_after (standing_on ends side earlier) (taken_on side step)
stands_more ends earlier step side =
    ap (standing_after (of side ends)) (flat_more (taken_on side) earlier step)
    ∙ standing_append (of side ends) (steps_on side earlier) (taken_on side step)

rest_more : (ends : Both Standing) (earlier more : List BridgeStep) (step : BridgeStep)
    → Rest ends earlier (step ∷ more) → Rest ends (earlier ++ step ∷ []) more
rest_more ends earlier more step h =
    let one = first_behind ends earlier more step h in
    let says = first_says ends earlier more step h in record {
      speaks = λ side. ap (λ (c : Standing). c.listens) (stands_more ends earlier step side)
          ∙ by_sides (λ s. (standing_after (standing_on ends s earlier) (taken_on s step)).listens ≡ false)
          step.side side
          (ap (λ l. (standing_after (standing_on ends step.side earlier) l).listens) (taken_own step)
          ∙ says.own_listens ∙ h.speaks step.side)
          (ap (λ l. (standing_after (standing_on ends (opposite step.side) earlier) l).listens) (taken_other step)
          ∙ says.other_listens ∙ h.speaks (opposite step.side));
      clients = λ side. subst (λ c. IsClientRun c (steps_on side more)) (sym (stands_more ends earlier step side))
          (run_back (standing_on ends side earlier) (taken_on side step) (steps_on side more) (h.clients side));
      each = λ n s at. subst (λ l. IsBehind ends l s) (sym (append_assoc earlier (step ∷ []) (take n more)))
          (h.each (suc n) s at);
      connected = all_back (λ k. IsTrue k.connected) (picked_in step) (passing more)
          (subst (λ l. AllByRecursion (λ k. IsTrue k.connected) l) (passing_cons step more one.each_told) h.connected);
    }

rest_frames : (ends : Both Standing) (earlier rest : List BridgeStep) → Rest ends earlier rest → (side : Side)
    → HasFrames (says_of (steps_on side rest)) (packets_of (passing_from (opposite side) rest))
rest_frames ends earlier [] h side = refl
rest_frames ends earlier (step ∷ more) h side =
    let one = first_behind ends earlier more step h in
    let all = ap (λ l. packets_of (from_side (opposite side) l)) (passing_cons step more one.each_told)
    ∙ ap (λ l. packets_of l)
    (filter-append (λ (k : Kept). is_side k.side (opposite side)) (picked_in step) (passing more))
    ∙ map-append (λ (k : Kept). k.packet) (from_side (opposite side) (picked_in step))
    (from_side (opposite side) (passing more)) in
    subst (λ l. HasFrames l (packets_of (passing_from (opposite side) (step ∷ more))))
    (sym (flat_map-append (λ (s : ClientStep). flat_map said_by s.actions) (taken_on side step) (steps_on side more)))
    (subst (λ l. HasFrames (says_of (taken_on side step) ++ says_of (steps_on side more)) l) (sym all)
    (frames_append (says_of (taken_on side step)) (says_of (steps_on side more))
    (packets_of (from_side (opposite side) (picked_in step)))
    (packets_of (from_side (opposite side) (passing more)))
    ((first_says ends earlier more step h).frames side)
    (rest_frames ends (earlier ++ step ∷ []) more (rest_more ends earlier more step h) side)))

pub keeps_promise : (ends : Both Standing) (steps : List BridgeStep) → MayBeJoined ends → IsBridgeRun ends steps
    → KeepsPromise steps
keeps_promise ends steps joined run =
    let rule = rule_of (kept_of steps) (passes_of steps) run.crosses in record {
      frames = rest_frames ends [] steps (record {
        speaks = λ side. (may_cross ends joined side).speaks;
        clients = run.clients;
        each = run.each;
        connected = all_connected None (kept_of steps) (passes_of steps) rule;
      });
      turns = takes_turns (kept_of steps) (passes_of steps) rule;
    }
