-- Runs of a client: lists of steps, and what is looked up in them.
use Rattle.std.specs.Prelude.{ℕ, Bool, true, false, ◌-◌, List, [], ◌∷◌, map, filter, Option, None, option_map, unwrap_or}
use Rattle.std.specs.List.{find, last_or}
use Rattle.std.specs.Option.{option_or}
use Rattle.m17_client.specs.declared.state.State.{State}
use Rattle.m17_client.specs.declared.state.State.TheVariants.{Idle, Connecting, Connected, Leaving, Closed}
use Rattle.m17_client.specs.declared.state.Input.{Input}
use Rattle.m17_client.specs.declared.state.Input.TheVariants.{Datagram, Quiet, Send, Leave}
use Rattle.m17_client.specs.declared.state.Action.{Action}
use Rattle.m17_client.specs.Standing.{Standing}
use Rattle.m17_client.specs.Client.{IsClientStep}

-- A step of a client: what it stepped on, what it asked for, in order, and where it stands after it.
pub record ClientStep : Type 0 where
  pub input : Input
  pub actions : List Action
  pub after : Standing

-- Each step is one of the table, from where the step before it left the client.
abbrev pub IsClientRun : Standing → List ClientStep → Type 0
IsClientRun first [] = Unit {0}
IsClientRun first (step ∷ steps) =
    IsClientStep first step.input step.actions step.after × IsClientRun step.after steps

-- where a client that first stood so stands after the steps: after the last of them
abbrev pub standing_after : Standing → List ClientStep → Standing
standing_after first [] = first
standing_after first (step ∷ steps) = standing_after step.after steps

-- what the client stepped on, in order
abbrev pub inputs_of : List ClientStep → List Input
inputs_of steps = map (λ step. step.input) steps

-- whether a client is connected in this state
abbrev pub is_connected : State → Bool
is_connected (Connected heard_at) = true
is_connected Idle = false
is_connected (Connecting tries) = false
is_connected Leaving = false
is_connected (Closed why) = false

-- whether a step is on a packet of the user
abbrev pub is_send : Input → Bool
is_send (Send packet) = true
is_send (Datagram at bytes) = false
is_send (Quiet at) = false
is_send Leave = false

-- the steps on the packets of the user
abbrev pub sends_of : List ClientStep → List ClientStep
sends_of steps = filter (λ step. is_send step.input) steps

-- The client's moment when it became connected: that of the first step that left it so.
abbrev pub connected_at : List ClientStep → Option ℕ
connected_at steps = option_map (λ step. step.after.moment)
    (find (λ step. is_connected step.after.state) steps)

-- The client's moment at the last packet of the user, else when it became connected.
abbrev pub paused_at : List ClientStep → Option ℕ
paused_at steps = option_or
    (option_map (λ step. step.after.moment) (last_or None (sends_of steps)))
    (connected_at steps)

-- how many milliseconds have gone by for a client since this moment
abbrev pub ms_since : Option ℕ → Standing → ℕ
ms_since moment c = c.moment - unwrap_or moment 0
