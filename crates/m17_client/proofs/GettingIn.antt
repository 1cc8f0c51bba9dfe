-- How a client gets in: by an ACKN behind its own request.
use Rattle.std.proofs.Common.{◌≡◌, ℕ, true, List, [], ◌∷◌, ◌++◌, refl, sym, ap, ◌∙◌, subst, inl, inr, Contains, append_assoc}
use Rattle.std.specs.List.{flat_map}
use Rattle.std.proofs.lemmas.List.{append-nil}
use Rattle.std.proofs.lemmas.Grind.{flat_map-append}
use Rattle.std.proofs.lemmas.List.Elements.{Contains-append_left, Contains-append_right}
use Rattle.m17_lists.proofs.Contents.{first_is_in, rest_is_in}
use Rattle.m17_values.specs.declared.heard.Heard.TheVariants as heard
use Rattle.m17_control.specs.Forms.{SpellsControl}
use Rattle.m17_control.specs.declared.packet.Control.{Control}
use Rattle.m17_client.specs.declared.state.Input.{Input}
use Rattle.m17_client.specs.declared.state.Input.TheVariants as input
use Rattle.m17_client.specs.declared.state.State.{State}
use Rattle.m17_client.specs.declared.state.State.TheVariants.{Idle, Connecting, Connected, Leaving, Closed}
use Rattle.m17_client.specs.Standing.{Standing}
use Rattle.m17_client.specs.Client.{join_packet}
use Rattle.m17_client.specs.Steps.{ClientStep, IsClientRun, inputs_of, is_connected, standing_after}
use Rattle.m17_client.specs.TalkDevices.{said_by, says_of}
use Rattle.m17_client.specs.Way.{GotIn, Way}
use Rattle.m17_client.proofs.WholeSteps.{Asks, StepMoves, step_does}

-- the client has said its join packet
abbrev pub HasAsked : Standing → List ClientStep → Type 0
HasAsked first steps =
    (asking : List ℕ) × SpellsControl (join_packet first) asking × Contains (says_of steps) asking

-- what is known of a client behind its steps, by its state
abbrev pub KnownIn : Way → Standing → List ClientStep → State → Type 0
KnownIn way first steps (Connecting tries) = HasAsked first steps
KnownIn way first steps (Connected at) = GotIn way first steps
KnownIn way first steps state = Unit {0}

-- a datagram that came to the client was heard, and said to it
abbrev pub HasCome : Way → ℕ → List ℕ → Type 0
HasCome way at bytes = Contains way.client_heard (heard.Datagram way.reflector at bytes)
    × Contains way.link_said (way.client, bytes)

abbrev pub OnSaid : Way → Input → Type 0
OnSaid way in' = (at : ℕ) (bytes : List ℕ) → in' ≡ input.Datagram at bytes → HasCome way at bytes

asked_before : (first : Standing) (steps : List ClientStep) (step : ClientStep) → HasAsked first steps
    → HasAsked first (steps ++ step ∷ [])
asked_before first steps step (asking, spelled, there) = (
  asking,
  spelled,
  rw (flat_map-append (λ (s : ClientStep). flat_map said_by s.actions) steps (step ∷ []))
      (Contains-append_left (says_of steps) (says_of (step ∷ [])) asking there),
)

asks_now : (first : Standing) (steps : List ClientStep) (step : ClientStep) → Asks (join_packet first) step.actions
    → HasAsked first (steps ++ step ∷ [])
asks_now first steps step (asking, spelled, there) = (
  asking,
  spelled,
  rw (flat_map-append (λ (s : ClientStep). flat_map said_by s.actions) steps (step ∷ []))
      (Contains-append_right (says_of steps) (says_of (step ∷ [])) asking
      (rw (append-nil (flat_map said_by step.actions)) there)),
)

got_in_before : (way : Way) (first : Standing) (steps more : List ClientStep) → GotIn way first steps
    → GotIn way first (steps ++ more)
got_in_before way first steps more h = record {
  asking = h.asking;
  asks = h.asks;
  before = h.before;
  answered = h.answered;
  after = h.after ++ more;
  in_order = ap (λ l. l ++ more) h.in_order ∙ append_assoc h.before (h.answered ∷ h.after) more;
  said = h.said;
  at = h.at;
  answer = h.answer;
  is_ackn = h.is_ackn;
  steps_on_it = h.steps_on_it;
  answer_heard = h.answer_heard;
  answer_said = h.answer_said;
}

-- one step more
known_more : (way : Way) (first : Standing) (steps : List ClientStep) (step : ClientStep) (old new : State)
    → OnSaid way step.input → KnownIn way first steps old
    → StepMoves (join_packet first) old step.input step.actions new
    → KnownIn way first (steps ++ step ∷ []) new
known_more way first steps step old Idle said known move = tt
known_more way first steps step old (Connecting tries) said known (inl asks) = asks_now first steps step asks
known_more way first steps step old (Connecting tries) said known (inr (t, was)) =
    asked_before first steps step (subst (KnownIn way first steps) was known)
known_more way first steps step old (Connected k) said known (inl (t, was, at, bytes, ackn, is)) =
    let (asking, spelled, there) = subst (KnownIn way first steps) was known in record {
      asking = asking;
      asks = spelled;
      before = steps;
      answered = step;
      after = [];
      in_order = refl;
      said = there;
      at = at;
      answer = bytes;
      is_ackn = ackn;
      steps_on_it = is;
      answer_heard = (said at bytes is).0;
      answer_said = (said at bytes is).1;
    }
known_more way first steps step old (Connected k) said known (inr (j, was)) =
    got_in_before way first steps (step ∷ []) (subst (KnownIn way first steps) was known)
known_more way first steps step old Leaving said known move = tt
known_more way first steps step old (Closed why) said known move = tt

abbrev pub AllOnSaid : Way → List ClientStep → Type 0
AllOnSaid way steps = (at : ℕ) (bytes : List ℕ) → Contains (inputs_of steps) (input.Datagram at bytes)
    → HasCome way at bytes

walk : (way : Way) (first : Standing) (steps : List ClientStep) (old : Standing) (more : List ClientStep)
    → join_packet old ≡ join_packet first → KnownIn way first steps old.state → IsClientRun old more
    → AllOnSaid way more → KnownIn way first (steps ++ more) (standing_after old more).state
walk way first steps old [] same known run said = rw (append-nil steps) known
walk way first steps old (step ∷ more) same known run said =
    let did = step_does old step.input step.actions step.after run.0 in
    let first_said : OnSaid way step.input = λ at bytes is.
    said at bytes (subst (λ (i : Input). Contains (inputs_of (step ∷ more)) i) is (first_is_in (inputs_of more) step.input)) in
    let rest_said : AllOnSaid way more = λ at bytes there.
    said at bytes (rest_is_in step.input (inputs_of more) (input.Datagram at bytes) there) in
    subst (λ l. KnownIn way first l (standing_after step.after more).state)
    (append_assoc steps (step ∷ []) more)
    (walk way first (steps ++ step ∷ []) step.after more (did.joins ∙ same)
    (known_more way first steps step old.state step.after.state first_said known
    (subst (λ (join : Control). StepMoves join old.state step.input step.actions step.after.state) same did.moves))
    run.1 rest_said)

connected_got_in : (way : Way) (first : Standing) (steps : List ClientStep) (state : State)
    → KnownIn way first steps state → is_connected state ≡ true → GotIn way first steps
connected_got_in way first steps Idle known e = absurd cc
connected_got_in way first steps (Connecting tries) known e = absurd cc
connected_got_in way first steps (Connected at) known e = known
connected_got_in way first steps Leaving known e = absurd cc
connected_got_in way first steps (Closed why) known e = absurd cc

pub got_in : (way : Way) (first : Standing) (steps : List ClientStep) → first.state ≡ Idle
    → IsClientRun first steps → AllOnSaid way steps → is_connected (standing_after first steps).state ≡ true
    → GotIn way first steps
got_in way first steps idle run said e =
    connected_got_in way first steps (standing_after first steps).state
    (walk way first [] first steps refl (subst (KnownIn way first []) (sym idle) tt) run said) e
