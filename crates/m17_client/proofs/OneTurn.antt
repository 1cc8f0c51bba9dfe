-- One more step of a session: what its client did, and its devices.
use Rattle.std.proofs.Common.{◌≡◌, ◌↔◌, ℕ, true, List, [], ◌∷◌, ◌++◌, length, map, drop, sym, ap, ◌∙◌, subst, arith, IsTrue, option_map, None}
use Rattle.std.specs.List.{flat_map, last_or}
use Rattle.std.specs.Option.{option_or}
use Rattle.std.proofs.lemmas.List.{append-nil, append_assoc, map-append}
use Rattle.std.proofs.lemmas.Grind.{flat_map-append}
use Rattle.m17_ports.specs.Mouth.{MouthTold, SaidOf}
use Rattle.m17_ports.specs.Book.{BookTold}
use Rattle.m17_client.specs.declared.progress.Progress.{Progress}
use Rattle.m17_client.specs.declared.session.Session.{Session}
use Rattle.m17_stream.specs.declared.packet.StreamPacket.{StreamPacket}
use Rattle.m17_client.specs.declared.state.Input.{Input}
use Rattle.m17_client.specs.declared.state.Input.TheVariants.{Send}
use Rattle.m17_client.specs.Standing.{Standing}
use Rattle.m17_client.specs.Client.{IsClientStep}
use Rattle.m17_client.specs.Steps.{ClientStep, inputs_of, is_connected, ms_since, paused_at, sends_of, standing_after}
use Rattle.m17_client.specs.Talk.{IsTimeToLeave, TalkPlan}
use Rattle.m17_client.specs.TalkDevices.{datagrams_to, kept_by, records_of, said_by, says_of}
use Rattle.m17_client.specs.TalkSoFar.{IsAfter, IsAt, IsLogged, IsTimeNow, Origin}
use Rattle.m17_client.proofs.OneStep.{run_more}

says_more : (steps : List ClientStep) (step : ClientStep)
    → says_of steps ++ flat_map said_by step.actions ≡ says_of (steps ++ step ∷ [])
says_more steps step =
    sym (flat_map-append (λ (s : ClientStep). flat_map said_by s.actions) steps (step ∷ [])
    ∙ ap (λ l. says_of steps ++ l) (append-nil (flat_map said_by step.actions)))

records_more : (steps : List ClientStep) (step : ClientStep)
    → records_of steps ++ flat_map (kept_by step.after.moment) step.actions ≡ records_of (steps ++ step ∷ [])
records_more steps step =
    sym (flat_map-append (λ (s : ClientStep). flat_map (kept_by s.after.moment) s.actions) steps (step ∷ [])
    ∙ ap (λ l. records_of steps ++ l) (append-nil (flat_map (kept_by step.after.moment) step.actions)))

-- a session after one more step
pub at_more : {M B : Type 0} (origin : Origin M B) (steps : List ClientStep) (step : ClientStep) (old new : Session)
    (m later : MouthTold M) (b written : BookTold B) → IsAt origin steps old m b
    → IsClientStep old.progress.client step.input step.actions step.after
    → IsAfter origin.plan.client (steps ++ step ∷ []) new.progress
    → SaidOf origin.mouth
    (datagrams_to origin.plan.to (says_of steps ++ flat_map said_by step.actions)) later
    → IsLogged origin.book (records_of steps ++ flat_map (kept_by step.after.moment) step.actions) new.log written
    → IsAt origin (steps ++ step ∷ []) new later written
at_more origin steps step old new m later b written h one after said logged = record {
  run = run_more origin.plan.client steps step h.run
      (subst (λ (c : Standing). IsClientStep c step.input step.actions step.after) h.after.client one);
  after = after;
  said = subst (λ l. SaidOf origin.mouth (datagrams_to origin.plan.to l) later) (says_more steps step) said;
  logged = subst (λ l. IsLogged origin.book l new.log written) (records_more steps step) logged;
}

-- it is time to leave behind the steps where it is for the client that took them
pub time_to_leave : (plan : TalkPlan) (steps : List ClientStep) (p : Progress) (packets stay : ℕ)
    → IsAfter plan.client steps p → packets ≡ length plan.script → plan.stay ≡ stay
    → IsTimeNow p packets stay ↔ IsTimeToLeave plan steps
time_to_leave plan steps p packets stay h all long =
    let paused : option_or p.sent_at p.connected_at ≡ paused_at steps =
    ap (λ o. option_or o p.connected_at) h.sent_at
    ∙ ap (option_or (option_map (λ (s : ClientStep). s.after.moment) (last_or None (sends_of steps)))) h.connected in
    let gone : ms_since (option_or p.sent_at p.connected_at) p.client
    ≡ ms_since (paused_at steps) (standing_after plan.client steps) =
    ap (λ o. ms_since o p.client) paused ∙ ap (ms_since (paused_at steps)) h.client in (
      λ t. record {
        connected = subst (λ (c : Standing). IsTrue (is_connected c.state)) h.client t.connected;
        all_sent = sym h.sent ∙ t.all_sent ∙ all;
        stayed = omega (arith, t.stayed, gone, long);
      },
      λ t. record {
        connected = subst (λ (c : Standing). is_connected c.state ≡ true) (sym h.client) t.connected;
        all_sent = h.sent ∙ t.all_sent ∙ sym all;
        stayed = omega (arith, t.stayed, gone, long);
      },
    )

-- the inputs of what was sent, and of what is still due, after one more packet
pub sent_more : (sends : List ClientStep) (step : ClientStep) (moment : ℕ) (packet : StreamPacket)
    (before after rest : List (ℕ × StreamPacket)) (all : List Input) → step.input ≡ Send packet
    → before ≡ (moment, packet) ∷ rest → after ≡ drop 1 before
    → inputs_of sends ++ map (λ due. Send due.1) before ≡ all
    → inputs_of (sends ++ step ∷ []) ++ map (λ due. Send due.1) after ≡ all
sent_more sends step moment packet before after rest all is before_is after_is h =
    let front : step.input ∷ map (λ (due : ℕ × StreamPacket). Send due.1) after
    ≡ map (λ (due : ℕ × StreamPacket). Send due.1) before =
    ap (λ i. i ∷ map (λ (due : ℕ × StreamPacket). Send due.1) after) is
    ∙ ap (λ l. Send packet ∷ map (λ (due : ℕ × StreamPacket). Send due.1) l) (after_is ∙ ap (drop 1) before_is)
    ∙ sym (ap (map (λ (due : ℕ × StreamPacket). Send due.1)) before_is) in
    ap (λ l. l ++ map (λ (due : ℕ × StreamPacket). Send due.1) after)
    (map-append (λ (s : ClientStep). s.input) sends (step ∷ []))
    ∙ append_assoc (inputs_of sends) (step.input ∷ []) (map (λ (due : ℕ × StreamPacket). Send due.1) after)
    ∙ ap (λ l. inputs_of sends ++ l) front ∙ h
