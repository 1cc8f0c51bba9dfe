-- What the small state of a floor stands for: the one frame that matters to the floor, and one for
-- each member, out of the whole list of acts that it came from.
use Rattle.std.specs.Prelude.{◌≡◌, ◌≢◌, ℕ, Bool, false, not, List, length, Option, Some}
use Rattle.std.specs.List.{AllByRecursion}
use Rattle.m17_values.specs.declared.member.Member.{Member}
use Rattle.m17_stream.specs.declared.packet.StreamPacket.{StreamPacket}
use Rattle.m17_floor.specs.declared.act.Act.{Act}
use Rattle.m17_floor.specs.declared.act.ActKind.TheVariants.{Join, Leave, Packet}
use Rattle.m17_floor.specs.declared.verdict.Verdict.{Verdict}
use Rattle.m17_floor.specs.Acts.{with_act, kind_at, is_packet, is_same, joined_at}
use Rattle.m17_floor.specs.Setup.{FloorSetup}
use Rattle.m17_floor.specs.Rule.{Frame, FloorState, only_if}
use Rattle.m17_floor.specs.Floor.{Past, floor_frame, own_frame, listens, verdicts_before, verdict_at}

-- all that happened in the module, with the verdicts on it
abbrev pub past_of : FloorSetup → List Act → Past
past_of setup acts =
    record { setup = setup; acts = acts; verdicts = verdicts_before setup acts (length acts) }

-- the floor that a list of acts leaves behind
abbrev pub floor_of : Past → FloorState
floor_of past = record { frame = floor_frame past; limit = past.setup.limit }

-- The floor stands for the list: it may have come from these acts in a module whose floor is made
-- with this.
abbrev pub FloorStandsFor : FloorSetup → List Act → FloorState → Type 0
FloorStandsFor setup acts floor = floor ≡ floor_of (past_of setup acts)

-- What is kept of a member stands for the list.
abbrev pub OwnStandsFor : FloorSetup → List Act → Member → Option Frame → Type 0
OwnStandsFor setup acts k own = own ≡ own_frame (past_of setup acts) k

-- the position of the Join by which the member is in at the end of the list
abbrev pub its_join : ℕ → List Act → Member → Option ℕ
its_join places acts k = joined_at places acts k (length acts)

-- The member is in at the end of the list, and not to listen only.
abbrev pub MaySpeak : FloorSetup → List Act → Member → Type 0
MaySpeak setup acts k =
    (j : ℕ) × (its_join setup.places acts k ≡ Some j) × (listens (kind_at acts j) ≡ false)

-- no act is a packet
abbrev pub HasNoPacket : List Act → Type 0
HasNoPacket acts = AllByRecursion (λ act. is_packet act.kind ≡ false) acts

-- the floor when a member has left: free, if it was that member's
abbrev pub without : Member → FloorState → FloorState
without m floor = record {
  frame = only_if (λ frame. not (is_same m frame.member)) floor.frame;
  limit = floor.limit;
}

-- a packet of the member, a Join of it, perhaps to listen only, and a Leave of it
abbrev pub packet_act : ℕ → Member → StreamPacket → Act
packet_act at k p = record { at = at; kind = Packet k p }

abbrev pub join_act : ℕ → Member → Bool → Act
join_act at k listens_only = record { at = at; kind = Join k listens_only }

abbrev pub leave_act : ℕ → Member → Act
leave_act at k = record { at = at; kind = Leave k }

-- What stands for one member, and by which Join it is in, is for the new list as for the old one.
pub record MemberKeepsStanding (setup : FloorSetup) (old new : List Act) (k : Member) : Type 0 where
  pub own : (own : Option Frame) → OwnStandsFor setup old k own → OwnStandsFor setup new k own
  pub speaks : MaySpeak setup old k → MaySpeak setup new k
  pub joined : its_join setup.places new k ≡ its_join setup.places old k

-- What stands for the old list stands for the new one: the floor, each member's frame, and who may
-- speak.
pub record KeepsStanding (setup : FloorSetup) (old new : List Act) : Type 0 where
  pub floor : (floor : FloorState) →
      FloorStandsFor setup old floor → FloorStandsFor setup new floor
  pub own : (k : Member) (own : Option Frame) →
      OwnStandsFor setup old k own → OwnStandsFor setup new k own
  pub speakers : (k : Member) → MaySpeak setup old k → MaySpeak setup new k
  pub joined : (k : Member) → its_join setup.places new k ≡ its_join setup.places old k

-- The act is the sender's packet, and was judged after these acts: so the verdict is that of the
-- floor rule, and the frames stand for the longer list.
pub record IsJudged (setup : FloorSetup) (acts : List Act) (act : Act) (sender : Member)
    (verdict : Verdict) (floor : FloorState) (own : Option Frame) : Type 0 where
  pub verdict_is : verdict_at setup (with_act acts act) (length acts) ≡ Some verdict
  pub floor_stands : FloorStandsFor setup (with_act acts act) floor
  pub own_stands : OwnStandsFor setup (with_act acts act) sender own
  -- and so does what is kept of each other member, and who may speak
  pub others_stand : (k : Member) (other : Option Frame) → k ≢ sender →
      OwnStandsFor setup acts k other → OwnStandsFor setup (with_act acts act) k other
  pub speakers : (k : Member) → MaySpeak setup acts k → MaySpeak setup (with_act acts act) k
  -- each is in by the same Join
  pub joined : (k : Member) →
      its_join setup.places (with_act acts act) k ≡ its_join setup.places acts k
