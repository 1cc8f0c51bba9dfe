-- How far a run of `cross` has come. No public clause cites this module.
use Rattle.std.specs.Prelude.{◌≡◌, ◌↔◌, ◌⊎◌, ℕ, Bool, IsTrue, ◌+◌, ◌≤◌, List, length, take, Some, if◌then◌else◌}
use Rattle.std.specs.List.{slice_get, suffix_len}
use Rattle.m17_values.specs.declared.heard.Heard.{Heard}
use Rattle.m17_values.specs.declared.heard.Heard.TheVariants as heard
use Rattle.m17_ports.specs.Mouth.{MouthTold, SaidOf}
use Rattle.m17_client.specs.Talk.{is_fault}
use Rattle.m17_client.specs.TalkDevices.{datagrams_to, says_of}
use Rattle.m17_client.specs.declared.side.Side.{Side}
use Rattle.m17_client.specs.declared.bridge_run.Run.{Run}
use Rattle.m17_client.specs.Sides.{Both, both, is_side, of}
use Rattle.m17_client.specs.BridgeSteps.{BridgeStep, steps_on}
use Rattle.m17_client.specs.StandsFor.{BridgeState, BridgeStandsFor}
use Rattle.m17_client.specs.CrossRun.{CrossPlan, CrossTurn, IsCrossTurn, IsEnded, IsOver, entries_on, side_at, steps_of}

-- what a run began with: its plan, and what its mouths told then
pub record Origin (M : Type 0) : Type 0 where
  pub plan : CrossPlan
  pub mouths : Both (MouthTold M)

-- The bridge has taken these steps, and the mouths were to say what they say.
pub record IsAt {M : Type 0} (origin : Origin M) (steps : List BridgeStep) (bridge : BridgeState)
    (mouths : Both (MouthTold M)) : Type 0 where
  pub stands : BridgeStandsFor origin.plan.ends steps bridge
  pub said : (side : Side) → SaidOf (of side origin.mouths)
      (datagrams_to (of side origin.plan.to) (says_of (steps_on side steps))) (of side mouths)

-- The bridge has taken these turns.
pub record IsSoFar {M : Type 0} (origin : Origin M) (turns : List CrossTurn) (run : Run)
    (mouths : Both (MouthTold M)) : Type 0 where
  pub at : IsAt origin (steps_of turns) run.bridge mouths
  pub in_turn : (n : ℕ) (turn : CrossTurn) → slice_get turns n ≡ Some turn
      → turn.side ≡ side_at n
  pub next : run.side ≡ side_at (length turns)
  pub each : (n : ℕ) (turn : CrossTurn) → slice_get turns n ≡ Some turn
      → IsCrossTurn origin.plan turn.side turn.heard turn.steps
  pub faults : (side : Side) → of side (both run.near_faults run.far_faults)
      ≡ suffix_len is_fault (entries_on side turns)
  pub ended : IsTrue run.ended ↔ IsEnded turns

-- The Faults in a row of the ear of a side after one more entry, of the ear whose turn it is.
abbrev pub counted : Side → Side → Bool → ℕ → ℕ
counted side turn fault faults =
    if is_side turn side then (if fault then faults + 1 else 0) else faults

-- No step is taken at the entry.
abbrev pub IsStepless : Heard → Type 0
IsStepless entry = (entry ≡ heard.Fault) ⊎ (entry ≡ heard.End)

-- No turn has ended the run.
abbrev pub GoesOn : CrossPlan → List CrossTurn → Type 0
GoesOn plan turns = (n : ℕ) → n ≤ length turns → IsOver plan (take n turns) → ⊥
