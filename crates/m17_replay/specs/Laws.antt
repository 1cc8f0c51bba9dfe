-- What follows from the definitions for all bytes.
use Rattle.std.specs.Prelude.{◌≡◌, ◌↔◌, ℕ, Bool, true, List, ◌++◌}
use Rattle.m17_values.specs.declared.heard.Heard.{Heard}
use Rattle.m17_book.specs.Book.{IsTrace}
use Rattle.m17_plan.specs.declared.plan.Plan.{Plan}
use Rattle.m17_directory.specs.Entries.{Entry}
use Rattle.m17_house.specs.Free.{IsFreeReplayOf}
use Rattle.m17_house.specs.Laws.{sixteen_faults}
use Rattle.m17_replay.specs.Replay.{is_lost, replay_text, IsReplayText}

-- An input has one text at most, and says in one way whether its link was lost.
abbrev pub OneReplayText : Type 0
OneReplayText =
    (plan : Plan) (summary lost lost' : Bool) (bytes text text' : List ℕ) →
    IsReplayText plan summary lost bytes text → IsReplayText plan summary lost' bytes text' →
    (lost ≡ lost') × (text ≡ text')

-- 16 faults in a row stand among these.
abbrev pub HasSixteenFaults : List Heard → Type 0
HasSixteenFaults heard =
    (front : List Heard) × (rest : List Heard) × (heard ≡ front ++ sixteen_faults ++ rest)

-- The link of a trace was lost exactly where 16 faults in a row stand in it.
abbrev pub LostBySixteenFaults : Type 0
LostBySixteenFaults =
    (plan : Plan) (summary lost : Bool) (bytes text : List ℕ) (heard : List Heard) →
    IsReplayText plan summary lost bytes text → IsTrace bytes heard →
    (lost ≡ true) ↔ HasSixteenFaults heard

-- The text of the trace that these bytes are, lines or summary, where each entry that asks while the others are fewer
-- than the places is given some place that none of the others has, and no member is given twice.
pub record IsFreeReplayText (plan : Plan) (summary lost : Bool) (bytes text : List ℕ) : Type 0 where
  pub heard : List Heard
  pub entries : List Entry
  pub is_trace : IsTrace bytes heard
  pub is_replay : IsFreeReplayOf plan heard entries
  pub is_lost_so : is_lost entries ≡ lost
  pub text_is : text ≡ replay_text plan summary entries

-- The text of a replay is one with places so given; and they all are one text, whichever places are given, with whatever
-- generations, and however many departed members a greeting waits for.
pub record TextIsFreeOfPlaces : Type 0 where
  pub given : (plan : Plan) (summary lost : Bool) (bytes text : List ℕ) →
      IsReplayText plan summary lost bytes text → IsFreeReplayText plan summary lost bytes text
  pub same : (plan : Plan) (summary lost lost' : Bool) (bytes text text' : List ℕ) →
      IsFreeReplayText plan summary lost bytes text →
      IsFreeReplayText plan summary lost' bytes text' → (lost ≡ lost') × (text ≡ text')
