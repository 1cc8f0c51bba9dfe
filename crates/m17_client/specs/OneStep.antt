-- What the parts of a step do to what a bridge keeps. No public clause cites this module.
use Rattle.std.specs.Prelude.{◌≡◌, ◌↔◌, ◌&&◌, ℕ, Bool, true, ◌+◌, ◌-◌, ◌^◌, min, List, [], ◌∷◌, ◌++◌, map, Option, option_map, if◌then◌else◌}
use Rattle.std.specs.List.{items_where_true, last_or}
use Rattle.m17_stream.specs.declared.packet.StreamPacket.{StreamPacket}
use Rattle.m17_client.specs.declared.state.Input.TheVariants.{Send}
use Rattle.m17_client.specs.Steps.{ClientStep, IsClientRun, inputs_of, is_connected, standing_after}
use Rattle.m17_client.specs.TalkDevices.{says_of}
use Rattle.m17_client.specs.declared.side.Side.{Side}
use Rattle.m17_client.specs.declared.side.Cross.{Cross}
use Rattle.m17_client.specs.Sides.{is_side, of, opposite}
use Rattle.m17_client.specs.Passing.{Kept, Passes}
use Rattle.m17_client.specs.BridgeSteps.{said_on}
use Rattle.m17_client.specs.StandsFor.{BridgeState, crossing_of}

-- Only the client of a side stands otherwise.
pub record OnlySteps (side : Side) (old new : BridgeState) : Type 0 where
  pub other : of (opposite side) new.clients ≡ of (opposite side) old.clients
  pub moment : new.moment ≡ old.moment
  pub latest : new.latest ≡ old.latest
  pub passed : new.passed ≡ old.passed

-- a packet that the client of a side has just kept, as the rule sees it
abbrev pub kept_now : BridgeState → Side → StreamPacket → Kept
kept_now bridge side packet = record {
  side = side;
  at = bridge.moment;
  connected = is_connected (of (opposite side) bridge.clients).state;
  packet = packet;
}

-- The count of a side's packets is one higher, where one of this side passed.
abbrev pub counts : Bool → Side → BridgeState → Side → ℕ
counts passes side old s =
    if passes && is_side side s then min (of s old.passed + 1) (2 ^ 64 - 1) else of s old.passed

-- A kept packet is taken behind the last one that passed: where it passes, the other client sends
-- it, and it is noted. What is then to be said is appended.
pub record IsTaken (kept : Kept) (before : Option Kept) (old : BridgeState) (out : List Cross)
    (new : BridgeState) (later : List Cross) : Type 0 where
  pub passes : Bool
  pub others : List ClientStep
  pub rule : (passes ≡ true) ↔ Passes before kept
  pub sends : inputs_of others
      ≡ map (λ k. Send k.packet) (items_where_true (passes ∷ []) (kept ∷ []))
  pub run : IsClientRun (of (opposite kept.side) old.clients) others
  pub other : of (opposite kept.side) new.clients
      ≡ standing_after (of (opposite kept.side) old.clients) others
  pub own : of kept.side new.clients ≡ of kept.side old.clients
  pub moment : new.moment ≡ old.moment
  pub latest : new.latest
      ≡ option_map crossing_of (last_or before (items_where_true (passes ∷ []) (kept ∷ [])))
  pub passed : (s : Side) → of s new.passed ≡ counts passes kept.side old s
  pub said_own : said_on kept.side later ≡ said_on kept.side out
  pub said_other : said_on (opposite kept.side) later
      ≡ said_on (opposite kept.side) out ++ says_of others
