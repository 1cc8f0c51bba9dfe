-- A side of a run of `cross` is a client's end of the way to its reflector, and what passes its
-- client kept.
use Rattle.std.proofs.Common.{◌≡◌, ℕ, Bool, true, false, cond, List, [], ◌∷◌, ◌++◌, map, refl, sym, ap, ◌∙◌, subst, inl, inr, Option, None, Some, Contains}
use Rattle.std.specs.List.{flat_map, items_where_true, slice_get}
use Rattle.std.proofs.lemmas.List.Elements.{Contains-append_cases}
use Rattle.std.proofs.lemmas.Option.{none-some, same_Some, slice_get-get_or}
use Rattle.m17_lists.proofs.Contents.{nothing_is_in_none, first_is_in, is_first_or_in_rest, is_the_only_one, picked_was_in, mapped_is_in, is_mapped_from_one, is_given_by_one, given_by_one_is_in, filtered_was_in, what_passes_is_in}
use Rattle.m17_values.specs.declared.heard.Heard.{Heard}
use Rattle.m17_values.specs.declared.heard.Heard.TheVariants as heard
use Rattle.m17_values.specs.declared.peer.Peer.{Peer}
use Rattle.m17_stream.specs.declared.packet.StreamPacket.{StreamPacket}
use Rattle.m17_ports.specs.Told.{StartsEmpty, told_then}
use Rattle.m17_ports.specs.Mouth.{Datagram}
use Rattle.m17_client.specs.declared.state.Input.{Input}
use Rattle.m17_client.specs.declared.state.Input.TheVariants as input
use Rattle.m17_client.specs.Steps.{ClientStep, inputs_of}
use Rattle.m17_client.specs.Talk.{IsHeardAs}
use Rattle.m17_client.specs.TalkDevices.{datagrams_to, says_of}
use Rattle.m17_client.specs.Way as client
use Rattle.m17_client.specs.Way.{Way}
use Rattle.m17_client.specs.declared.side.Side.{Side}
use Rattle.m17_client.specs.declared.side.Side.TheVariants.{Near, Far}
use Rattle.m17_client.specs.Sides.{is_side, of}
use Rattle.m17_client.specs.Passing.{Kept}
use Rattle.m17_client.specs.BridgeSteps.{BridgeStep, kept_in, kept_of, passes_of, passing, steps_on, taken_on}
use Rattle.m17_client.specs.CrossRun.{BothLeave, CrossPlan, CrossTurn, IsCrossTurn, entries_on, steps_of}
use Rattle.m17_client.specs.BridgeLaws.{IsSideOf, PassingIsKept, SidesAreClientsEnds}
use Rattle.m17_client.proofs.BridgeOneStep.{taken_own}
use Rattle.m17_client.proofs.Picked.{may_cross}

-- two sides that are told to be one are
one_side : (a b : Side) → is_side a b ≡ true → a ≡ b
one_side Near Near is = refl
one_side Near Far is = absurd (cc)
one_side Far Near is = absurd (cc)
one_side Far Far is = refl

abbrev kept_as : BridgeStep → StreamPacket → Kept
kept_as step packet = record {
  side = step.side;
  at = step.moment;
  connected = step.connected;
  packet = packet;
}

abbrev side_of : Kept → Side
side_of k = k.side

abbrev packet_of : Kept → StreamPacket
packet_of k = k.packet

pub passing_kept : PassingIsKept
passing_kept steps side kept h =
    let (there, on_side) = filtered_was_in (λ (k : Kept). is_side k.side side) (passing steps) kept h in
    let all = picked_was_in (passes_of steps) (kept_of steps) kept there in
    let (step, in_steps, in_step) = is_given_by_one kept_in steps kept all in
    let (packet, in_packets, is) = is_mapped_from_one (kept_as step) (flat_map client.kept_in step.own.actions) kept in_step in
    let same : step.side ≡ side = ap side_of is ∙ one_side kept.side side on_side in
    let taken : taken_on side step ≡ step.own ∷ [] =
    ap (λ s. taken_on s step) (sym same) ∙ taken_own step in
    given_by_one_is_in (λ (s : ClientStep). flat_map client.kept_in s.actions) (steps_on side steps) step.own kept.packet
    (given_by_one_is_in (taken_on side) steps step step.own in_steps
    (subst (λ l. Contains l step.own) (sym taken) (first_is_in [] step.own)))
    (subst (Contains (flat_map client.kept_in step.own.actions)) (ap packet_of is) in_packets)

abbrev input_of : ClientStep → Input
input_of s = s.input

-- a step of the side's client on a datagram is the own one of a step of the bridge
of_taken : (b : Bool) (side : Side) (step : BridgeStep) (taken : ClientStep) (at : ℕ) (bytes : List ℕ)
    → (picked : List Kept)
    → inputs_of step.others ≡ map (λ (k : Kept). input.Send k.packet) picked → is_side step.side side ≡ b
    → Contains (cond b (step.own ∷ []) step.others) taken → taken.input ≡ input.Datagram at bytes
    → (step.side ≡ side) × (step.own.input ≡ input.Datagram at bytes)
of_taken true side step taken at bytes picked sends on there is =
    (one_side step.side side on, ap input_of (is_the_only_one step.own taken there) ∙ is)
of_taken false side step taken at bytes picked sends on there is =
    let (k, in_picked, sent) = is_mapped_from_one (λ (k : Kept). input.Send k.packet) picked (input.Datagram at bytes)
    (subst (λ l. Contains l (input.Datagram at bytes)) sends
    (subst (Contains (inputs_of step.others)) is (mapped_is_in input_of step.others taken there))) in
    absurd (cc)

-- a step on a datagram is one at an entry that is it
heard_as : (to : Peer) (entry : Heard) (at : ℕ) (bytes : List ℕ) → IsHeardAs to entry (input.Datagram at bytes)
    → entry ≡ heard.Datagram to at bytes
heard_as to (heard.Datagram from when them) at bytes (inl (same, e)) = cc
heard_as to (heard.Datagram from when them) at bytes (inr (other, e)) = absurd (cc)
heard_as to (heard.Quiet when) at bytes h = absurd (cc)
heard_as to heard.Fault at bytes h = absurd h
heard_as to heard.End at bytes h = absurd h

abbrev own_input : BridgeStep → Input
own_input step = step.own.input

abbrev side_in : BridgeStep → Side
side_in step = step.side

taken_turn : (plan : CrossPlan) (side : Side) (entry : Heard) (one step : BridgeStep) (at : ℕ) (bytes : List ℕ)
    → one ≡ step → one.side ≡ side → IsHeardAs (of side plan.to) entry one.own.input
    → step.own.input ≡ input.Datagram at bytes
    → (step.side ≡ side) × (entry ≡ heard.Datagram (of side plan.to) at bytes)
taken_turn plan side entry one step at bytes same on_side as_heard is = (
  ap side_in (sym same) ∙ on_side,
  heard_as (of side plan.to) entry at bytes
      (subst (IsHeardAs (of side plan.to) entry) (ap own_input same ∙ is) as_heard),
)

turn_heard : (plan : CrossPlan) (side : Side) (entry : Heard) (steps : List BridgeStep) (step : BridgeStep)
    (at : ℕ) (bytes : List ℕ) → IsCrossTurn plan side entry steps → Contains steps step
    → step.own.input ≡ input.Datagram at bytes
    → (step.side ≡ side) × (entry ≡ heard.Datagram (of side plan.to) at bytes)
turn_heard plan side (heard.Datagram from when them) steps step at bytes (one, all, on_side, as_heard) there is =
    taken_turn plan side (heard.Datagram from when them) one step at bytes
    (is_the_only_one one step (subst (λ l. Contains l step) all there)) on_side as_heard is
turn_heard plan side (heard.Quiet when) steps step at bytes (one, all, on_side, as_heard) there is =
    taken_turn plan side (heard.Quiet when) one step at bytes
    (is_the_only_one one step (subst (λ l. Contains l step) all there)) on_side as_heard is
turn_heard plan side heard.Fault steps step at bytes turn there is =
    absurd (nothing_is_in_none step (subst (λ l. Contains l step) turn there))
turn_heard plan side heard.End steps step at bytes turn there is =
    absurd (nothing_is_in_none step (subst (λ l. Contains l step) turn there))

not_left : (leaves : List BridgeStep) (step : BridgeStep) (at : ℕ) (bytes : List ℕ) → BothLeave leaves
    → Contains leaves step → step.own.input ≡ input.Datagram at bytes → ⊥
not_left leaves step at bytes both there is =
    elim (is_first_or_in_rest input.Leave (input.Leave ∷ []) (input.Datagram at bytes)
    (subst (λ l. Contains l (input.Datagram at bytes)) both.inputs
    (subst (Contains (map own_input leaves)) is (mapped_is_in own_input leaves step there)))) [
      | inl e ↦ absurd (cc)
      | inr more ↦ let e = is_the_only_one input.Leave (input.Datagram at bytes) more in absurd (cc)
    ]

abbrev heard_of : CrossTurn → Heard
heard_of turn = turn.heard

abbrev steps_in : CrossTurn → List BridgeStep
steps_in turn = turn.steps

abbrev is_on : Side → CrossTurn → Bool
is_on side turn = is_side turn.side side

-- what stands at its place
at_place : {A : Type 0} (xs : List A) (x : A) (there : Contains xs x) → slice_get xs there.0 ≡ Some x
at_place xs x there = slice_get-get_or xs there.0 x there.1 ∙ ap (λ y. Some y) there.2

is_same : (a b : Side) → a ≡ b → is_side a b ≡ true
is_same Near Near e = refl
is_same Near Far e = absurd (cc)
is_same Far Near e = absurd (cc)
is_same Far Far e = refl

was_heard : {L : Type 0} (way : Way) (plan : CrossPlan) (turns : List CrossTurn) (leaves : List BridgeStep)
    (side : Side) → IsSideOf L way plan turns leaves side → (at : ℕ) (bytes : List ℕ)
    → Contains (inputs_of (steps_on side (steps_of turns ++ leaves))) (input.Datagram at bytes)
    → Contains way.client_heard (heard.Datagram way.reflector at bytes)
was_heard way plan turns leaves side h at bytes on =
    let all = steps_of turns ++ leaves in
    let (taken, in_taken, is) = is_mapped_from_one input_of (steps_on side all) (input.Datagram at bytes) on in
    let (step, in_all, in_step) = is_given_by_one (taken_on side) all taken in_taken in
    let behind = h.run.run.each in_all.0 step (at_place all step in_all) in
    let own = of_taken (is_side step.side side) side step taken at bytes
    (items_where_true step.passes (kept_in step)) behind.sends refl in_step is in
    elim (Contains-append_cases (steps_of turns) leaves step in_all) [
      | inl early ↦
          let (turn, in_turns, in_turn) = is_given_by_one steps_in turns step early in
          let entry = turn_heard plan turn.side turn.heard turn.steps step at bytes
          (h.run.each in_turns.0 turn (at_place turns turn in_turns)) in_turn own.1 in
          let on_side : turn.side ≡ side = sym entry.0 ∙ own.0 in
          subst (λ l. Contains l (heard.Datagram way.reflector at bytes)) (sym h.heard)
          (subst (Contains (entries_on side turns))
          (entry.1 ∙ ap (λ s. heard.Datagram (of s plan.to) at bytes) on_side
          ∙ ap (λ p. heard.Datagram p at bytes) h.to)
          (mapped_is_in heard_of _ turn (what_passes_is_in (is_on side) turns turn in_turns (is_same turn.side side on_side))))
      | inr late ↦ absurd (not_left leaves step at bytes h.run.leave late own.1)
    ]

-- what a new mouth tells is what went
told_all : (before : Option (List Datagram)) (went said : List Datagram) → StartsEmpty before
    → told_then before went ≡ Some said → said ≡ went
told_all None went said new e = absurd (none-some said e)
told_all (Some all) went said new e = sym (same_Some (all ++ went) said e) ∙ ap (λ l. l ++ went) (new all refl)

abbrev bytes_of : Datagram → List ℕ
bytes_of d = d.1

was_said : {L : Type 0} (way : Way) (plan : CrossPlan) (turns : List CrossTurn) (leaves : List BridgeStep)
    (side : Side) → IsSideOf L way plan turns leaves side → (bytes : List ℕ)
    → Contains way.client_said (way.reflector, bytes)
    → Contains (says_of (steps_on side (steps_of turns ++ leaves))) bytes
was_said way plan turns leaves side h bytes there =
    let says = says_of (steps_on side (steps_of turns ++ leaves)) in
    let to = of side plan.to in
    let went = items_where_true h.has_said.went (datagrams_to to says) in
    let all : way.client_said ≡ went =
    told_all h.before.said went way.client_said h.new_mouth (sym h.has_said.told ∙ h.told) in
    let (one, in_says, is) = is_mapped_from_one (λ (d : List ℕ). (to, d)) says (way.reflector, bytes)
    (picked_was_in h.has_said.went (datagrams_to to says) (way.reflector, bytes)
    (subst (λ l. Contains l (way.reflector, bytes)) all there)) in
    subst (Contains says) (ap bytes_of is) in_says

pub side_is_an_end : {L : Type 0} → SidesAreClientsEnds L
side_is_an_end way plan turns leaves side joined h = record {
  idle = (may_cross plan.ends joined side).idle;
  run = h.run.run.clients side;
  hears = was_heard way plan turns leaves side h;
  says = was_said way plan turns leaves side h;
}
