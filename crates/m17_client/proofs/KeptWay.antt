-- A client's end of a way keeps what was said to it, and a talk is such an end.
use Rattle.std.proofs.Common.{◌≡◌, ℕ, List, [], ◌∷◌, ◌++◌, map, take, refl, sym, ap, ◌∙◌, subst, inl, inr, Option, None, Some, Contains}
use Rattle.std.specs.List.{AllZip, flat_map, items_where_true, slice_get}
use Rattle.std.proofs.lemmas.List.Elements.{Contains-append_left, Contains-append_cases}
use Rattle.std.proofs.lemmas.Option.{none-some, same_Some, slice_get-get_or}
use Rattle.m17_lists.proofs.Contents.{nothing_is_in_none, is_first_or_in_rest, is_the_only_one, picked_was_in, mapped_is_in, is_mapped_from_one, is_given_by_one}
use Rattle.m17_values.specs.declared.heard.Heard.{Heard}
use Rattle.m17_values.specs.declared.heard.Heard.TheVariants as heard
use Rattle.m17_values.specs.declared.peer.Peer.{Peer}
use Rattle.m17_stream.specs.declared.packet.StreamPacket.{StreamPacket}
use Rattle.m17_ports.specs.Mouth.{Datagram}
use Rattle.m17_ports.specs.Told.{StartsEmpty, told_then}
use Rattle.m17_client.specs.declared.state.Action.{Action}
use Rattle.m17_client.specs.declared.state.Action.TheVariants.{Say, Keep}
use Rattle.m17_client.specs.declared.state.Input.{Input}
use Rattle.m17_client.specs.declared.state.Input.TheVariants as input
use Rattle.m17_client.specs.Standing.{Standing}
use Rattle.m17_client.specs.Steps.{ClientStep, IsClientRun, inputs_of}
use Rattle.m17_client.specs.Talk.{IsHeardAs, IsTurn, LeavesInTime, TakesTurn, TalkPlan, Turn, due_records, entries_of, steps_of}
use Rattle.m17_client.specs.TalkDevices.{datagrams_to, kept_by, records_of, says_of}
use Rattle.m17_client.specs.Way.{Way, kept_in, keeps_of}
use Rattle.m17_client.specs.Laws.{ClientKeepsWhatWasSaid, IsRecordOf, IsTalkOver, RecordsAreOfKeptPackets, TalkIsAClientsEnd}
use Rattle.m17_client.proofs.Keeping.{FollowOn, all_follow, neighbours, says_own, was_stepped}
use Rattle.m17_client.proofs.GettingIn.{got_in}

run_front : (first : Standing) (front rest : List ClientStep) → IsClientRun first (front ++ rest)
    → IsClientRun first front
run_front first [] rest run = tt
run_front first (step ∷ front) rest run = (run.0, run_front step.after front rest run.1)

abbrev input_of : ClientStep → Input
input_of step = step.input

inputs_front : (front rest : List ClientStep) (i : Input) → Contains (inputs_of front) i
    → Contains (inputs_of (front ++ rest)) i
inputs_front front rest i h =
    let (step, there, is) = is_mapped_from_one input_of front i h in
    subst (Contains (inputs_of (front ++ rest))) is
    (mapped_is_in input_of (front ++ rest) step (Contains-append_left front rest step there))

pub keeps_what_was_said : ClientKeepsWhatWasSaid
keeps_what_was_said way first steps net end' = record {
  got_in = λ front rest is. got_in way first front end'.idle
      (run_front first front rest (subst (IsClientRun first) is end'.run))
      (λ at bytes there.
      let on : Contains (inputs_of steps) (input.Datagram at bytes) =
      subst (λ l. Contains (inputs_of l) (input.Datagram at bytes)) (sym is) (inputs_front front rest _ there) in
      let come = end'.hears at bytes on in (come, net.to_client at bytes come));
  asks = λ at bytes packet there request spelled.
      elim (says_own first steps bytes end'.run (end'.says bytes (net.to_link at bytes there))) [
        | inl own ↦ own
        | inr other ↦ absurd (other packet request spelled)
      ];
  said = λ packet there.
      let (at, bytes, spelled, on) = was_stepped first steps packet end'.run there in
      (bytes, spelled, net.to_client at bytes (end'.hears at bytes on));
  ahead = λ front rest a b is same.
      neighbours first.kept front rest a b (subst (FollowOn first.kept) is (all_follow first steps end'.run)) same;
}

-- what a new mouth tells is what went
told_all : (before : Option (List Datagram)) (went said : List Datagram) → StartsEmpty before
    → told_then before went ≡ Some said → said ≡ went
told_all None went said new e = absurd (none-some said e)
told_all (Some all) went said new e = sym (same_Some (all ++ went) said e) ∙ ap (λ l. l ++ went) (new all refl)

-- a step on a datagram is the turn's first, of a datagram of the reflector
heard_as : (to : Peer) (entry : Heard) (at : ℕ) (bytes : List ℕ) → IsHeardAs to entry (input.Datagram at bytes)
    → entry ≡ heard.Datagram to at bytes
heard_as to (heard.Datagram from when them) at bytes (inl (same, e)) = cc
heard_as to (heard.Datagram from when them) at bytes (inr (other, e)) = absurd cc
heard_as to (heard.Quiet when) at bytes h = absurd cc
heard_as to heard.Fault at bytes h = absurd h
heard_as to heard.End at bytes h = absurd h

not_sent : (dues : List (ℕ × StreamPacket)) (at : ℕ) (bytes : List ℕ)
    → Contains (map (λ due. input.Send due.1) dues) (input.Datagram at bytes) → ⊥
not_sent dues at bytes h = let (due, there, is) = is_mapped_from_one (λ due. input.Send due.1) dues (input.Datagram at bytes) h in cc

not_left : (plan : TalkPlan) (steps : List ClientStep) (inputs : List Input) (at : ℕ) (bytes : List ℕ)
    → LeavesInTime plan steps inputs → Contains inputs (input.Datagram at bytes) → ⊥
not_left plan steps inputs at bytes (inl (time, is)) h =
    let e = is_the_only_one input.Leave (input.Datagram at bytes) (rw is at h) in cc
not_left plan steps inputs at bytes (inr (time, is)) h = nothing_is_in_none (input.Datagram at bytes) (rw is at h)

taken : (plan : TalkPlan) (earlier : List ClientStep) (entry : Heard) (steps : List ClientStep) (step : ClientStep)
    (at : ℕ) (bytes : List ℕ) → TakesTurn plan earlier entry steps → Contains steps step
    → step.input ≡ input.Datagram at bytes → entry ≡ heard.Datagram plan.to at bytes
taken plan earlier entry steps step at bytes turn there is =
    elim (Contains-append_cases (turn.first ∷ turn.sends) turn.leave step (rw turn.in_order at there)) [
      | inl early ↦ elim (is_first_or_in_rest turn.first turn.sends step early) [
        | inl same ↦ heard_as plan.to entry at bytes
            (subst (IsHeardAs plan.to entry) (ap input_of same ∙ is) turn.on_entry)
        | inr sent ↦ absurd (not_sent (due_records plan (earlier ++ turn.first ∷ [])) at bytes
            (subst (λ l. Contains l (input.Datagram at bytes)) turn.on_due
            (subst (Contains (inputs_of turn.sends)) is (mapped_is_in input_of turn.sends step sent))))
      ]
      | inr late ↦ absurd (not_left plan (earlier ++ turn.first ∷ turn.sends) (inputs_of turn.leave) at bytes turn.on_leave
          (subst (Contains (inputs_of turn.leave)) is (mapped_is_in input_of turn.leave step late)))
    ]

turn_heard : (plan : TalkPlan) (earlier : List ClientStep) (entry : Heard) (steps : List ClientStep)
    (step : ClientStep) (at : ℕ) (bytes : List ℕ) → IsTurn plan earlier entry steps → Contains steps step
    → step.input ≡ input.Datagram at bytes → entry ≡ heard.Datagram plan.to at bytes
turn_heard plan earlier (heard.Datagram from when them) steps step at bytes turn there is =
    taken plan earlier (heard.Datagram from when them) steps step at bytes turn there is
turn_heard plan earlier (heard.Quiet when) steps step at bytes turn there is =
    taken plan earlier (heard.Quiet when) steps step at bytes turn there is
turn_heard plan earlier heard.Fault steps step at bytes turn there is = absurd (nothing_is_in_none step (rw turn at there))
turn_heard plan earlier heard.End steps step at bytes turn there is = absurd (nothing_is_in_none step (rw turn at there))

abbrev heard_of : Turn → Heard
heard_of turn = turn.heard

abbrev steps_in : Turn → List ClientStep
steps_in turn = turn.steps

was_heard : {L : Type 0} (way : Way) (plan : TalkPlan) (turns : List Turn) → IsTalkOver L way plan turns → (at : ℕ) (bytes : List ℕ)
    → Contains (inputs_of (steps_of turns)) (input.Datagram at bytes)
    → Contains way.client_heard (heard.Datagram way.reflector at bytes)
was_heard way plan turns h at bytes on =
    let (step, there, is) = is_mapped_from_one input_of (steps_of turns) (input.Datagram at bytes) on in
    let (turn, in_turns, in_turn) = is_given_by_one steps_in turns step there in
    let at_place : slice_get turns in_turns.0 ≡ Some turn =
    slice_get-get_or turns in_turns.0 turn in_turns.1 ∙ ap Some in_turns.2 in
    let entry : turn.heard ≡ heard.Datagram plan.to at bytes =
    turn_heard plan (steps_of (take in_turns.0 turns)) turn.heard turn.steps step at bytes
    (h.run.each in_turns.0 turn at_place) in_turn is in
    rw h.heard (subst (Contains (entries_of turns)) (entry ∙ ap (λ p. heard.Datagram p at bytes) h.to)
    (mapped_is_in heard_of turns turn in_turns))

abbrev bytes_of : Datagram → List ℕ
bytes_of d = d.1

was_said : {L : Type 0} (way : Way) (plan : TalkPlan) (turns : List Turn) → IsTalkOver L way plan turns
    → (bytes : List ℕ) → Contains way.client_said (way.reflector, bytes)
    → Contains (says_of (steps_of turns)) bytes
was_said way plan turns h bytes there =
    let says = says_of (steps_of turns) in
    let went = items_where_true h.has_said.went (datagrams_to plan.to says) in
    let all : way.client_said ≡ went =
    told_all h.before.said went way.client_said h.new_mouth (sym h.has_said.told ∙ h.told) in
    let (one, in_says, is) = is_mapped_from_one (λ (d : List ℕ). (plan.to, d)) says (way.reflector, bytes)
    (picked_was_in h.has_said.went (datagrams_to plan.to says) (way.reflector, bytes) (rw all at there)) in
    subst (Contains says) (ap bytes_of is) in_says

pub talk_is_an_end : {L : Type 0} → TalkIsAClientsEnd L
talk_is_an_end way plan turns h = record {
  idle = h.idle;
  run = h.run.run;
  hears = was_heard way plan turns h;
  says = was_said way plan turns h;
}

-- record by record
of_actions : (moment : ℕ) (actions : List Action) (packets : List StreamPacket) (records : List (List ℕ))
    → AllZip IsRecordOf packets records
    → AllZip IsRecordOf (flat_map kept_in actions ++ packets) (flat_map (kept_by moment) actions ++ records)
of_actions moment [] packets records h = h
of_actions moment (Say bytes ∷ actions) packets records h = of_actions moment actions packets records h
of_actions moment (Keep packet ∷ actions) packets records h =
    ((moment, refl), of_actions moment actions packets records h)

pub records_are : RecordsAreOfKeptPackets
records_are [] = tt
records_are (step ∷ steps) =
    of_actions step.after.moment step.actions (keeps_of steps) (records_of steps) (records_are steps)
