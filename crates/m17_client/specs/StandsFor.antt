-- What contracts see of a bridge, and which steps it stands for.
use Rattle.std.specs.Prelude.{◌≡◌, ℕ, false, ◌-◌, ◌^◌, min, List, length, Option, None, option_map}
use Rattle.std.specs.List.{last_or}
use Rattle.m17_client.specs.Standing.{Standing}
use Rattle.m17_client.specs.declared.state.State.TheVariants.{Idle}
use Rattle.m17_client.specs.declared.side.Side.{Side}
use Rattle.m17_client.specs.declared.bridge.Crossing.{Crossing}
use Rattle.m17_client.specs.Sides.{Both, both, of}
use Rattle.m17_client.specs.Passing.{Kept}
use Rattle.m17_client.specs.BridgeSteps.{BridgeStep, IsBridgeRun, moment_of, passing, passing_from, standing_on}

-- A bridge: where its clients stand, its moment, what is kept of the last packet that passed, and
-- how many passed from each side.
pub record BridgeState : Type 0 where
  pub clients : Both Standing
  pub moment : ℕ
  pub latest : Option Crossing
  pub passed : Both ℕ

-- A bridge between these clients that has made no step.
abbrev pub new_bridge : Both Standing → BridgeState
new_bridge ends = record { clients = ends; moment = 0; latest = None; passed = both 0 0 }

-- Both clients may be joined by a bridge: each is idle, and doesn't only listen.
pub record MayCross (client : Standing) : Type 0 where
  pub idle : client.state ≡ Idle
  pub speaks : client.listens ≡ false

pub record MayBeJoined (ends : Both Standing) : Type 0 where
  pub near : MayCross ends.near
  pub far : MayCross ends.far

-- A bridge between clients that may be joined has made no step.
pub record IsNewBridge (bridge : BridgeState) : Type 0 where
  pub joined : MayBeJoined bridge.clients
  pub unstepped : bridge ≡ new_bridge bridge.clients

-- what is kept of a packet that passed
abbrev pub crossing_of : Kept → Crossing
crossing_of kept = record { side = kept.side; at = kept.at; ended = kept.packet.last }

-- The bridge stands for these steps of clients that first stood so: they are a run, and it keeps
-- what they come to. It counts packets to 2^64 - 1.
pub record BridgeStandsFor (ends : Both Standing) (steps : List BridgeStep)
    (bridge : BridgeState) : Type 0 where
  pub run : IsBridgeRun ends steps
  pub clients : (side : Side) → of side bridge.clients ≡ standing_on ends side steps
  pub moment : bridge.moment ≡ moment_of steps
  pub latest : bridge.latest ≡ option_map crossing_of (last_or None (passing steps))
  pub passed : (side : Side) → of side bridge.passed
      ≡ min (length (passing_from side steps)) (2 ^ 64 - 1)
