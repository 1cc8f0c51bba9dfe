-- Who is in, place by place, as the checker keeps it. No public clause of a function cites this module.
use Rattle.std.specs.Prelude.{◌≡◌, ◌==◌, ℕ, Bool, List, slice_index_or, Option, None, Some, IsSome, if◌then◌else◌}
use Rattle.m17_values.specs.declared.member.Member.{Member}
use Rattle.m17_floor.specs.declared.act.Act.{Act}
use Rattle.m17_floor.specs.Rule.{Frame, FloorState}
use Rattle.m17_floor.specs.StandsFor.{FloorStandsFor, OwnStandsFor}
use Rattle.m17_floor.specs.Legal.{KeptAct, book_places, book_setup}
use Rattle.m17_floor.specs.Acts.{with_act}
use Rattle.m17_floor.specs.Alike.{stay_of, BreaksNext}
use Rattle.m17_floor.specs.declared.rule.Rule.{Rule}
use Rattle.m17_floor.specs.declared.rule.Rule.TheVariants as rules
use Rattle.m17_book.specs.declared.stay.Stay.{Stay}

-- who is in, by place, the last admitted frame of each, and the floor
pub record People : Type 0 where
  pub stays : List (Option Stay)
  pub lasts : List (Option Frame)
  pub floor : FloorState

-- who is in at a place; past the places nobody
abbrev pub stay_in : List (Option Stay) → ℕ → Option Stay
stay_in stays place = slice_index_or stays place None

-- the frame that is kept at a place
abbrev pub last_in : List (Option Frame) → ℕ → Option Frame
last_in lasts place = slice_index_or lasts place None

-- whether it listens, if it is of this generation
abbrev pub if_of : ℕ → Option Stay → Option Bool
if_of generation None = None
if_of generation (Some stay) = if stay.generation == generation then Some stay.listens else None

-- of a member that is in, whether it listens
abbrev pub listens_of : List (Option Stay) → Member → Option Bool
listens_of stays k = if_of k.generation (stay_in stays k.place)

-- They may have come from these acts, under this limit.
pub record RosterStandsFor (limit : ℕ) (acts : List Act) (people : People) : Type 0 where
  -- the members are those that are in at the end
  pub stays : (k : Member) → stay_of book_places acts k ≡ listens_of people.stays k
  -- each member's frame is its last admitted one since its Join
  pub owns : (k : Member) → IsSome (listens_of people.stays k) →
      OwnStandsFor (book_setup limit) acts k (last_in people.lasts k.place)
  -- the floor's frame is the last admitted one, unless its sender has left
  pub floor : FloorStandsFor (book_setup limit) acts people.floor

-- What is kept next, after these acts, breaks the rule on members or on verdicts; or neither, and the people follow it.
abbrev pub Follows : Option Rule → ℕ → List Act → KeptAct → People → Type 0
Follows None limit acts one people = RosterStandsFor limit (with_act acts one.act) people
    × (¬ BreaksNext limit acts one rules.Member) × (¬ BreaksNext limit acts one rules.Verdict)
Follows (Some rules.Moment) limit acts one people = ⊥
Follows (Some rules.Member) limit acts one people = BreaksNext limit acts one rules.Member
Follows (Some rules.Verdict) limit acts one people =
    BreaksNext limit acts one rules.Verdict × (¬ BreaksNext limit acts one rules.Member)
