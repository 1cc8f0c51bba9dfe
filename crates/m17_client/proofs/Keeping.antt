-- What a run of a client keeps: what it heard, in order of numbers; and what it says.
use Rattle.std.proofs.Common.{◌≡◌, ◌⊎◌, ℕ, List, [], ◌∷◌, ◌++◌, sym, subst, inl, inr, Option, Some, Contains}
use Rattle.std.specs.List.{flat_map}
use Rattle.std.proofs.lemmas.List.Elements.{Contains-append_cases}
use Rattle.m17_lists.proofs.Contents.{nothing_is_in_none, first_is_in, rest_is_in, is_the_only_one}
use Rattle.m17_stream.specs.Stream.{SpellsStream, IsAhead}
use Rattle.m17_stream.specs.declared.packet.StreamPacket.{StreamPacket}
use Rattle.m17_control.specs.Forms.{SpellsControl}
use Rattle.m17_control.specs.declared.packet.Control.{Control}
use Rattle.m17_client.specs.declared.state.Input.{Input}
use Rattle.m17_client.specs.declared.state.Input.TheVariants as input
use Rattle.m17_client.specs.declared.state.LastKept.{LastKept}
use Rattle.m17_client.specs.Standing.{Standing}
use Rattle.m17_client.specs.Client.{MayKeep, join_packet}
use Rattle.m17_client.specs.Steps.{ClientStep, IsClientRun, inputs_of}
use Rattle.m17_client.specs.TalkDevices.{said_by, says_of}
use Rattle.m17_client.specs.Way.{kept_in, keeps_of}
use Rattle.m17_client.proofs.Moves.{NoRequest}
use Rattle.m17_client.proofs.WholeSteps.{StepKeeps, step_does}

-- each packet may be kept behind the one before it
abbrev pub FollowOn : Option LastKept → List StreamPacket → Type 0
FollowOn last [] = Unit {0}
FollowOn last (packet ∷ packets) =
    MayKeep last packet × FollowOn (Some (record { sid = packet.sid; number = packet.number })) packets

abbrev kept_by_step : ClientStep → List StreamPacket
kept_by_step step = flat_map kept_in step.actions

follow_step : (last new : Option LastKept) (in' : Input) (packets more : List StreamPacket)
    → StepKeeps last in' packets new → FollowOn new more → FollowOn last (packets ++ more)
follow_step last new in' packets more (inl (none, same)) rest =
    rw none (subst (λ (l : Option LastKept). FollowOn l more) same rest)
follow_step last new in' packets more (inr (packet, at, bytes, was, spelled, may, one, kept)) rest =
    rw one (may, subst (λ (l : Option LastKept). FollowOn l more) kept rest)

pub all_follow : (c : Standing) (steps : List ClientStep) → IsClientRun c steps → FollowOn c.kept (keeps_of steps)
all_follow c [] run = tt
all_follow c (step ∷ steps) run =
    follow_step c.kept step.after.kept step.input (kept_by_step step) (keeps_of steps)
    (step_does c step.input step.actions step.after run.0).keeps (all_follow step.after steps run.1)

-- so of two neighbours with one stream id the later is ahead
may_follow : (a b : StreamPacket) → MayKeep (Some (record { sid = a.sid; number = a.number })) b → b.sid ≡ a.sid
    → IsAhead b.number a.number
may_follow a b (inl other) same = absurd (other (sym same))
may_follow a b (inr ahead) same = ahead

pub neighbours : (last : Option LastKept) (front rest : List StreamPacket) (a b : StreamPacket)
    → FollowOn last (front ++ a ∷ b ∷ rest) → b.sid ≡ a.sid → IsAhead b.number a.number
neighbours last [] rest a b h same = may_follow a b h.1.0 same
neighbours last (p ∷ front) rest a b h same =
    neighbours (Some (record { sid = p.sid; number = p.number })) front rest a b h.1 same

-- each kept packet is of a datagram that was stepped on
abbrev pub WasStepped : List ClientStep → StreamPacket → Type 0
WasStepped steps packet = (at : ℕ) × (bytes : List ℕ) × SpellsStream packet bytes
    × Contains (inputs_of steps) (input.Datagram at bytes)

kept_here : (last new : Option LastKept) (step : ClientStep) (steps : List ClientStep) (packet : StreamPacket)
    → StepKeeps last step.input (kept_by_step step) new → Contains (kept_by_step step) packet
    → WasStepped (step ∷ steps) packet
kept_here last new step steps packet (inl (none, same)) h = absurd (nothing_is_in_none packet (rw none at h))
kept_here last new step steps packet (inr (kept, at, bytes, was, spelled, may, one, becomes)) h = (
  at,
  bytes,
  subst (λ (p : StreamPacket). SpellsStream p bytes) (is_the_only_one kept packet (rw one at h)) spelled,
  subst (λ (i : Input). Contains (inputs_of (step ∷ steps)) i) was (first_is_in (inputs_of steps) step.input),
)

pub was_stepped : (c : Standing) (steps : List ClientStep) (packet : StreamPacket) → IsClientRun c steps
    → Contains (keeps_of steps) packet → WasStepped steps packet
was_stepped c [] packet run h = absurd (nothing_is_in_none packet h)
was_stepped c (step ∷ steps) packet run h = elim (Contains-append_cases (kept_by_step step) (keeps_of steps) packet h) [
  | inl now ↦ kept_here c.kept step.after.kept step steps packet
      (step_does c step.input step.actions step.after run.0).keeps now
  | inr then' ↦ let (at, bytes, spelled, there) = was_stepped step.after steps packet run.1 then' in
      (at, bytes, spelled, rest_is_in step.input (inputs_of steps) (input.Datagram at bytes) there)
]

-- what is said is a join packet, or no request
pub says_own : (c : Standing) (steps : List ClientStep) (bytes : List ℕ) → IsClientRun c steps
    → Contains (says_of steps) bytes → SpellsControl (join_packet c) bytes ⊎ NoRequest bytes
says_own c [] bytes run h = absurd (nothing_is_in_none bytes h)
says_own c (step ∷ steps) bytes run h =
    elim (Contains-append_cases (flat_map said_by step.actions) (says_of steps) bytes h) [
      | inl now ↦ (step_does c step.input step.actions step.after run.0).says bytes now
      | inr then' ↦ subst (λ (join : Control). SpellsControl join bytes ⊎ NoRequest bytes)
          (step_does c step.input step.actions step.after run.0).joins
          (says_own step.after steps bytes run.1 then')
    ]
