-- What the table of talkers stands for. No public clause cites this module.
use Rattle.std.specs.Prelude.{◌≡◌, ℕ, ◌+◌, ◌<◌, List, [], ◌∷◌, ◌++◌, length, slice_get, Option, Some}
use Rattle.m17_values.specs.declared.member.Member.{Member}
use Rattle.m17_floor.specs.declared.act.Act.{Act}
use Rattle.m17_floor.specs.Setup.{FloorSetup}
use Rattle.m17_floor.specs.Acts.{moment_before}
use Rattle.m17_floor.specs.Rule.{Frame, FloorState}
use Rattle.m17_floor.specs.StandsFor.{FloorStandsFor, OwnStandsFor, MaySpeak, HasNoPacket}
use Rattle.m17_text_commands.specs.Judge.{judge_setup, talkers, talker, IsRecordLine}

-- what is kept of the talkers: the floor, a frame of each of them, and the greatest moment so far
pub record TableKept : Type 0 where
  pub floor : FloorState
  pub owns : List (Option Frame)
  pub moment : ℕ

-- The table may have come from these acts, and all of its talkers may speak.
pub record TableStandsFor (acts : List Act) (kept : TableKept) : Type 0 where
  pub floor_stands : FloorStandsFor judge_setup acts kept.floor
  pub each_stands : (t : ℕ) (own : Option Frame) → slice_get kept.owns t ≡ Some own
      → OwnStandsFor judge_setup acts (talker t) own
  pub all_may_speak : (t : ℕ) → t < talkers → MaySpeak judge_setup acts (talker t)
  pub moment_is : kept.moment ≡ moment_before acts (length acts)

-- what is kept of a member at first: it stands for every list without a packet
abbrev pub StandsAtFirst : Option Frame → Type 0
StandsAtFirst own = (setup : FloorSetup) (acts : List Act) (k : Member) → HasNoPacket acts
    → OwnStandsFor setup acts k own

-- Record n is judged: the table then stands for one more act, and the line is that of the record.
abbrev pub JudgesRecord : ℕ → List ℕ → TableKept → TableKept → List ℕ → Type 0
JudgesRecord n bytes kept kept' line = (acts : List Act) → length acts ≡ talkers + n
    → TableStandsFor acts kept →
    (act : Act) × TableStandsFor (acts ++ act ∷ []) kept'
    × IsRecordLine (acts ++ act ∷ []) n bytes line
