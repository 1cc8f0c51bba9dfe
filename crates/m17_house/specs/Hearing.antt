-- A run in one thread: what it has heard, and what the next thing that is heard comes to.
use Rattle.std.specs.Prelude.{◌≡◌, ℕ, ◌<◌, Bool, true, false, List, [], ◌∷◌, ◌++◌, length}
use Rattle.m17_values.specs.declared.heard.Heard.{Heard}
use Rattle.m17_directory.specs.Entries.{Entry, Says, SaysEach, ends_at}
use Rattle.m17_port_memory.specs.Kept.{TalliesKept}
use Rattle.m17_plan.specs.declared.plan.Plan.{Plan}
use Rattle.m17_house.specs.declared.run.Run.{Run}
use Rattle.m17_house.specs.Replay.{Outcome, outcome_of, said_to, IsReplayOf}
use Rattle.m17_house.specs.SoFar.{Scene, IsSoFar}
use Rattle.m17_house.specs.Tallied.{AreTalliesOf}

-- The run of this plan has heard these, as these entries, none of which ends the link; and this mouth has said what was
-- said by then. How the run keeps that is its own.
pub record HasHeard (plan : Plan) (heard : List Heard) (entries : List Entry) (run : Run)
    (mouth : TalliesKept) : Type 0 where
  pub says : SaysEach heard entries
  pub open_still : (n : ℕ) → n < length entries → ends_at entries n ≡ false
  pub so_far : IsSoFar plan entries run mouth
  pub post : run.post ≡ []
  pub out : run.stage.out ≡ []
  pub going : run.directory.ended ≡ false

-- the link has ended
abbrev pub has_ended : Run → Bool
has_ended run = run.directory.ended

-- A run that had heard these, as these entries, heard one thing more. It came to this answer, and what the others came
-- to stays; the mouth tells what is said to each peer by then. Where the link goes on, the run has heard it too; where it
-- has ended, these are the entries of the replay, whatever comes behind.
pub record HearsMore (plan : Plan) (heard : List Heard) (entries : List Entry) (h : Heard) (s : Scene)
    (answer : Outcome) : Type 0 where
  pub entry : Entry
  pub says : Says h entry.notice
  pub is_answer : outcome_of plan (entries ++ entry ∷ []) (length entries) ≡ answer
  pub others_stay : (n : ℕ) → n < length entries →
      outcome_of plan (entries ++ entry ∷ []) n ≡ outcome_of plan entries n
  pub tallies : AreTalliesOf (said_to plan (entries ++ entry ∷ [])) s.mouth
  pub goes_on : has_ended s.run ≡ false →
      HasHeard plan (heard ++ h ∷ []) (entries ++ entry ∷ []) s.run s.mouth
  pub ends : has_ended s.run ≡ true → (rest : List Heard) →
      IsReplayOf plan ((heard ++ h ∷ []) ++ rest) (entries ++ entry ∷ [])
