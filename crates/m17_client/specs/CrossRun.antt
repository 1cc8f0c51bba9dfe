-- A run of `cross`: which steps a bridge takes at what its two ears hear, and when it is over.
use Rattle.std.specs.Prelude.{◌≡◌, ◌⊎◌, ℕ, zero, suc, ◌<◌, ◌≤◌, List, [], ◌∷◌, ◌++◌, length, map, filter, take, None, Some}
use Rattle.std.specs.List.{flat_map, last_or, slice_get, suffix_len}
use Rattle.m17_values.specs.declared.heard.Heard.{Heard}
use Rattle.m17_values.specs.declared.heard.Heard.TheVariants as heard
use Rattle.m17_values.specs.declared.peer.Peer.{Peer}
use Rattle.m17_client.specs.declared.state.Ending.{Ending}
use Rattle.m17_client.specs.declared.state.State.TheVariants.{Closed}
use Rattle.m17_client.specs.declared.state.Input.TheVariants.{Leave}
use Rattle.m17_client.specs.Standing.{Standing}
use Rattle.m17_client.specs.Talk.{IsHeardAs, is_fault}
use Rattle.m17_client.specs.declared.side.Side.{Side}
use Rattle.m17_client.specs.declared.side.Side.TheVariants.{Near, Far}
use Rattle.m17_client.specs.Sides.{Both, is_side, of, opposite}
use Rattle.m17_client.specs.BridgeSteps.{BridgeStep, IsBridgeRun, standing_on}

-- What `cross` is told: the clients as they are handed in, and the reflector's peer on each side.
pub record CrossPlan : Type 0 where
  pub ends : Both Standing
  pub to : Both Peer

-- An entry of the ear of a side, and the steps that the bridge takes at it.
pub record CrossTurn : Type 0 where
  pub side : Side
  pub heard : Heard
  pub steps : List BridgeStep

-- all that was heard, what the ear of a side heard, and all the steps, in order
abbrev pub entries_of : List CrossTurn → List Heard
entries_of turns = map (λ turn. turn.heard) turns

abbrev pub entries_on : Side → List CrossTurn → List Heard
entries_on side turns = entries_of (filter (λ turn. is_side turn.side side) turns)

abbrev pub steps_of : List CrossTurn → List BridgeStep
steps_of turns = flat_map (λ turn. turn.steps) turns

-- whose turn it is: near is heard first, and then far and near in turn
abbrev pub side_at : ℕ → Side
side_at zero = Near
side_at (suc n) = opposite (side_at n)

-- The steps at an entry: one of its side, on what the entry is to the client; none at a Fault or an
-- End.
abbrev pub IsCrossTurn : CrossPlan → Side → Heard → List BridgeStep → Type 0
IsCrossTurn plan side heard.Fault steps = steps ≡ []
IsCrossTurn plan side heard.End steps = steps ≡ []
IsCrossTurn plan side entry steps = (step : BridgeStep) × (steps ≡ step ∷ [])
    × (step.side ≡ side) × IsHeardAs (of side plan.to) entry step.own.input

-- The last entry is End.
abbrev pub IsEnded : List CrossTurn → Type 0
IsEnded turns = last_or None (entries_of turns) ≡ Some heard.End

-- The last 16 entries of the ear of a side, or more, are Faults.
abbrev pub IsLostOn : Side → List CrossTurn → Type 0
IsLostOn side turns = 16 ≤ suffix_len is_fault (entries_on side turns)

abbrev pub IsLost : List CrossTurn → Type 0
IsLost turns = (side : Side) × IsLostOn side turns

-- The client of a side is Closed.
abbrev pub IsClosed : CrossPlan → List CrossTurn → Type 0
IsClosed plan turns = (side : Side) × (why : Ending)
    × ((standing_on plan.ends side (steps_of turns)).state ≡ Closed why)

-- A run is over: an ear said End, or failed 16 times in a row, or a client is Closed.
abbrev pub IsOver : CrossPlan → List CrossTurn → Type 0
IsOver plan turns = IsEnded turns ⊎ (IsLost turns ⊎ IsClosed plan turns)

-- Each client leaves, near first.
pub record BothLeave (steps : List BridgeStep) : Type 0 where
  pub sides : map (λ step. step.side) steps ≡ Near ∷ Far ∷ []
  pub inputs : map (λ step. step.own.input) steps ≡ Leave ∷ Leave ∷ []

-- A whole run of `cross`: the ears are heard in turn, the steps at each entry are those of the
-- rule, the run is over at its last entry, and not before, and then each client leaves.
pub record IsCrossRun (plan : CrossPlan) (turns : List CrossTurn) (leaves : List BridgeStep)
    : Type 0 where
  pub run : IsBridgeRun plan.ends (steps_of turns ++ leaves)
  pub in_turn : (n : ℕ) (turn : CrossTurn) → slice_get turns n ≡ Some turn
      → turn.side ≡ side_at n
  pub each : (n : ℕ) (turn : CrossTurn) → slice_get turns n ≡ Some turn
      → IsCrossTurn plan turn.side turn.heard turn.steps
  pub not_before : (n : ℕ) → n < length turns → IsOver plan (take n turns) → ⊥
  pub over : IsOver plan turns
  pub leave : BothLeave leaves
