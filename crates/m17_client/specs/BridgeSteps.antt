-- Steps of a bridge: what each of its two clients does, and what is said on each side.
use Rattle.std.specs.Prelude.{◌≡◌, ℕ, Bool, false, List, [], ◌∷◌, ◌++◌, length, map, filter, fold, max, take, Some, if◌then◌else◌}
use Rattle.std.specs.List.{flat_map, items_where_true, slice_get}
use Rattle.m17_client.specs.declared.state.Input.{Input}
use Rattle.m17_client.specs.declared.state.Input.TheVariants.{Datagram, Quiet, Send, Leave}
use Rattle.m17_client.specs.Standing.{Standing}
use Rattle.m17_client.specs.Steps.{ClientStep, IsClientRun, inputs_of, is_connected, is_send, standing_after}
use Rattle.m17_client.specs.TalkDevices.{says_of}
use Rattle.m17_client.specs.Way as client
use Rattle.m17_client.specs.declared.side.Side.{Side}
use Rattle.m17_client.specs.declared.side.Cross.{Cross}
use Rattle.m17_client.specs.Sides.{Both, is_side, of, opposite}
use Rattle.m17_client.specs.Passing.{Crosses, Kept}

-- A step of a bridge: the side, the bridge's moment, whether the client of the other side is
-- connected at it, the step of the side's own client, whether each packet that this one keeps
-- passes, and the steps of the other client on those that do.
pub record BridgeStep : Type 0 where
  pub side : Side
  pub moment : ℕ
  pub connected : Bool
  pub own : ClientStep
  pub passes : List Bool
  pub others : List ClientStep

-- the steps that the client of a side takes, in order
abbrev pub taken_on : Side → BridgeStep → List ClientStep
taken_on side step = if is_side step.side side then step.own ∷ [] else step.others

abbrev pub steps_on : Side → List BridgeStep → List ClientStep
steps_on side steps = flat_map (taken_on side) steps

-- where the client of a side stands after the steps
abbrev pub standing_on : Both Standing → Side → List BridgeStep → Standing
standing_on ends side steps = standing_after (of side ends) (steps_on side steps)

-- The bridge's moment: the greatest that either side was stepped with, and 0 where there was none.
abbrev pub moments_in : Input → List ℕ
moments_in (Datagram at bytes) = at ∷ []
moments_in (Quiet at) = at ∷ []
moments_in (Send packet) = []
moments_in Leave = []

abbrev pub moment_of : List BridgeStep → ℕ
moment_of steps = fold max 0 (flat_map (λ step. moments_in step.own.input) steps)

-- the packets that a step keeps, and those of all steps, in order; and which of them pass
abbrev pub kept_in : BridgeStep → List Kept
kept_in step = map
    (λ packet. record {
      side = step.side;
      at = step.moment;
      connected = step.connected;
      packet = packet;
    })
    (flat_map client.kept_in step.own.actions)

abbrev pub kept_of : List BridgeStep → List Kept
kept_of steps = flat_map kept_in steps

abbrev pub passes_of : List BridgeStep → List Bool
passes_of steps = flat_map (λ step. step.passes) steps

abbrev pub passing : List BridgeStep → List Kept
passing steps = items_where_true (passes_of steps) (kept_of steps)

-- the packets of a side that pass, in order
abbrev pub passing_from : Side → List BridgeStep → List Kept
passing_from side steps = filter (λ kept. is_side kept.side side) (passing steps)

-- A step behind earlier ones: its own client's is on what was heard or on Leave, it has the
-- bridge's moment and whether the other client is connected, and the other client's steps are on
-- the packets that pass, each a Send, in order.
pub record IsBehind (ends : Both Standing) (earlier : List BridgeStep) (step : BridgeStep)
    : Type 0 where
  pub heard : is_send step.own.input ≡ false
  pub moment : step.moment ≡ moment_of (earlier ++ step ∷ [])
  pub connected : step.connected
      ≡ is_connected (standing_on ends (opposite step.side) earlier).state
  pub each_told : length step.passes ≡ length (kept_in step)
  pub sends : inputs_of step.others
      ≡ map (λ kept. Send kept.packet) (items_where_true step.passes (kept_in step))

-- The steps are a run of a bridge whose clients first stood so: those of each side are a run of its
-- client, each is one behind all earlier ones, and what passes is by the rule.
pub record IsBridgeRun (ends : Both Standing) (steps : List BridgeStep) : Type 0 where
  pub clients : (side : Side) → IsClientRun (of side ends) (steps_on side steps)
  pub each : (n : ℕ) (step : BridgeStep) → slice_get steps n ≡ Some step
      → IsBehind ends (take n steps) step
  pub crosses : Crosses (kept_of steps) (passes_of steps)

-- what these are to say on a side, in order
abbrev pub said_on : Side → List Cross → List (List ℕ)
said_on side crosses = map (λ cross. cross.bytes.items)
    (filter (λ cross. is_side cross.side side) crosses)

-- These are what a step is to say: on each side what the steps of its client say.
abbrev pub AreSaidBy : BridgeStep → List Cross → Type 0
AreSaidBy step crosses = (side : Side) → said_on side crosses ≡ says_of (taken_on side step)
