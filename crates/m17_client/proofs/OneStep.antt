-- One more step of a client, and what is looked up in the steps then.
use Rattle.std.proofs.Common.{◌≡◌, ℕ, Bool, true, false, cond, ◌+◌, List, [], ◌∷◌, ◌++◌, length, refl, sym, ap, ◌∙◌, subst, Option, None, Some, option_map, IsSome}
use Rattle.std.specs.List.{find, last_or}
use Rattle.std.specs.Option.{option_or}
use Rattle.std.proofs.lemmas.List.{append-nil, length_push}
use Rattle.std.proofs.lemmas.List.Elements.{filter-append}
use Rattle.std.proofs.lemmas.List.Folds.{find-append}
use Rattle.m17_lists.proofs.Lengths.{one_more_is_the_last}
use Rattle.m17_stream.specs.declared.packet.StreamPacket.{StreamPacket}
use Rattle.m17_client.specs.declared.progress.Progress.{Progress}
use Rattle.m17_client.specs.declared.state.Action.{Action}
use Rattle.m17_client.specs.declared.state.Input.TheVariants.{Send}
use Rattle.m17_client.specs.declared.state.State.{State}
use Rattle.m17_client.specs.declared.state.State.TheVariants.{Idle, Connecting, Connected, Leaving, Closed}
use Rattle.m17_client.specs.Standing.{Standing}
use Rattle.m17_client.specs.Client.{BySend, IsClientStep}
use Rattle.m17_client.specs.Steps.{ClientStep, IsClientRun, connected_at, is_connected, is_send, sends_of, standing_after}
use Rattle.m17_client.specs.TalkSoFar.{IsAfter, moment_in}

-- where a client stands after one list of steps and another
pub standing_after-append : (first : Standing) (xs ys : List ClientStep)
    → standing_after first (xs ++ ys) ≡ standing_after (standing_after first xs) ys
standing_after-append first [] ys = refl
standing_after-append first (x ∷ xs) ys = standing_after-append x.after xs ys

-- a run goes on by one step
pub run_more : (first : Standing) (steps : List ClientStep) (step : ClientStep) → IsClientRun first steps
    → IsClientStep (standing_after first steps) step.input step.actions step.after
    → IsClientRun first (steps ++ step ∷ [])
run_more first [] step run one = (one, tt)
run_more first (x ∷ xs) step run one = (run.0, run_more x.after xs step run.1 one)

-- the first moment connected, after one more step
moment_of_found : (step : ClientStep) → option_map (λ (s : ClientStep). s.after.moment)
    (find (λ (s : ClientStep). is_connected s.after.state) (step ∷ [])) ≡ moment_in step.after
moment_of_found step = elim (is_connected step.after.state) as (λ b. option_map (λ (s : ClientStep). s.after.moment) (cond b (Some step) None) ≡ cond b (Some step.after.moment) None)
    [ true ↦ refl | false ↦ refl ]

map_or : (f : ClientStep → ℕ) (a b : Option ClientStep)
    → option_map f (option_or a b) ≡ option_or (option_map f a) (option_map f b)
map_or f None b = refl
map_or f (Some x) b = refl

pub connected_more : (steps : List ClientStep) (step : ClientStep)
    → connected_at (steps ++ step ∷ []) ≡ option_or (connected_at steps) (moment_in step.after)
connected_more steps step =
    ap (option_map (λ (s : ClientStep). s.after.moment))
    (find-append (λ (s : ClientStep). is_connected s.after.state) steps (step ∷ []))
    ∙ map_or (λ s. s.after.moment) (find (λ (s : ClientStep). is_connected s.after.state) steps)
    (find (λ (s : ClientStep). is_connected s.after.state) (step ∷ []))
    ∙ ap (option_or (connected_at steps)) (moment_of_found step)

-- the packets sent, after one more step
pub sends_no : (steps : List ClientStep) (step : ClientStep) → is_send step.input ≡ false
    → sends_of (steps ++ step ∷ []) ≡ sends_of steps
sends_no steps step is = filter-append (λ (s : ClientStep). is_send s.input) steps (step ∷ [])
    ∙ ap (λ b. sends_of steps ++ cond b (step ∷ []) []) is ∙ append-nil (sends_of steps)

pub sends_yes : (steps : List ClientStep) (step : ClientStep) → is_send step.input ≡ true
    → sends_of (steps ++ step ∷ []) ≡ sends_of steps ++ step ∷ []
sends_yes steps step is = filter-append (λ (s : ClientStep). is_send s.input) steps (step ∷ [])
    ∙ ap (λ b. sends_of steps ++ cond b (step ∷ []) []) is

-- a moment is remembered where the client is connected
since_more : (b : Bool) (was : Option ℕ) (moment : ℕ) → b ≡ true
    → IsSome (option_or was (cond b (Some moment) None))
since_more true None moment e = refl
since_more true (Some n) moment e = refl
since_more false was moment e = absurd (cc)

-- after one more step that is not on a packet of the user
pub after_step : (first : Standing) (steps : List ClientStep) (step : ClientStep) (old new : Progress)
    → IsAfter first steps old → is_send step.input ≡ false → new.client ≡ step.after
    → new.connected_at ≡ option_or old.connected_at (moment_in new.client)
    → new.sent ≡ old.sent → new.sent_at ≡ old.sent_at → IsAfter first (steps ++ step ∷ []) new
after_step first steps step old new h is client connected sent sent_at = record {
  client = client ∙ sym (standing_after-append first steps (step ∷ []));
  connected = connected ∙ ap (λ o. option_or o (moment_in new.client)) h.connected
      ∙ ap (λ c. option_or (connected_at steps) (moment_in c)) client ∙ sym (connected_more steps step);
  sent = sent ∙ h.sent ∙ ap length (sym (sends_no steps step is));
  sent_at = sent_at ∙ h.sent_at
      ∙ ap (λ l. option_map (λ (s : ClientStep). s.after.moment) (last_or None l)) (sym (sends_no steps step is));
  since = λ e. rw connected (since_more (is_connected new.client.state) old.connected_at new.client.moment e);
}

sends_same : (state : State) (listens : Bool) (packet : StreamPacket) (old : Standing) (answer : Option Action)
    (new : Standing) → BySend state listens packet old answer new → new ≡ old
sends_same Idle listens packet old answer new h = h.1
sends_same (Connecting tries) listens packet old answer new h = h.1
sends_same (Connected at) true packet old answer new h = h.1
sends_same (Connected at) false packet old answer new h = h.1
sends_same Leaving listens packet old answer new h = h.1
sends_same (Closed why) listens packet old answer new h = h.1

-- a packet of the user leaves a client as it is
pub send_stays : (old : Standing) (packet : StreamPacket) (actions : List Action) (new : Standing)
    → IsClientStep old (Send packet) actions new → new ≡ old
send_stays old packet actions new h = sends_same old.state old.listens packet old h.0 new h.1

-- what was remembered stays, where there is something
or_some : (o p : Option ℕ) → IsSome o → option_or o p ≡ o
or_some None p e = absurd (cc)
or_some (Some n) p e = refl

-- after one more step on a packet of the user, while the client is connected
pub after_send : (first : Standing) (steps : List ClientStep) (step : ClientStep) (old new : Progress)
    → IsAfter first steps old → is_send step.input ≡ true → new.client ≡ step.after
    → new.client ≡ old.client → is_connected old.client.state ≡ true
    → new.connected_at ≡ old.connected_at → new.sent ≡ old.sent + 1
    → new.sent_at ≡ Some new.client.moment → IsAfter first (steps ++ step ∷ []) new
after_send first steps step old new h is client same on connected sent sent_at =
    let some : IsSome (connected_at steps) = subst (λ (o : Option ℕ). IsSome o) h.connected (h.since on) in record {
      client = client ∙ sym (standing_after-append first steps (step ∷ []));
      connected = connected ∙ h.connected ∙ sym (or_some (connected_at steps) (moment_in step.after) some)
          ∙ sym (connected_more steps step);
      sent = sent ∙ ap (λ n. n + 1) h.sent ∙ sym (length_push (sends_of steps) step)
          ∙ ap length (sym (sends_yes steps step is));
      sent_at = sent_at ∙ ap (λ (c : Standing). Some c.moment) client
          ∙ ap (option_map (λ (s : ClientStep). s.after.moment))
          (sym (one_more_is_the_last None (sends_of steps) step) ∙ ap (last_or None) (sym (sends_yes steps step is)));
      since = λ e. rw connected (h.since on);
    }
