-- What follows for books, act by act.
use Rattle.std.specs.Prelude.{◌≡◌, ◌↔◌, ℕ, ◌<◌, Bool, max, List, [], ◌∷◌, ◌++◌, length, None, Some}
use Rattle.m17_values.specs.declared.member.Member.{Member}
use Rattle.m17_stream.specs.declared.packet.StreamPacket.{StreamPacket}
use Rattle.m17_floor.specs.declared.act.Act.{Act}
use Rattle.m17_floor.specs.declared.rule.Rule.{Rule}
use Rattle.m17_floor.specs.Setup.{FloorSetup}
use Rattle.m17_floor.specs.Acts.{with_act, moment_before}
use Rattle.m17_floor.specs.Floor.{verdict_at}
use Rattle.m17_floor.specs.StandsFor.{packet_act, join_act, leave_act, KeepsStanding}
use Rattle.m17_floor.specs.Legal.{KeptAct, acts_in, HasBreach, IsLegal, IsFirstBreach}
use Rattle.m17_floor.specs.Alike.{stay_of, stay_after, verdict_then, BreaksNext, LeaveTheSame}

-- What a book keeps later changes no breach.
abbrev pub LaterActsChangeNoBreach : Type 0
LaterActsChangeNoBreach =
    (limit : ℕ) (kept more : List KeptAct) (n : ℕ) (rule : Rule) → n < length kept →
    HasBreach limit (kept ++ more) n rule ↔ HasBreach limit kept n rule

-- A breach is at a position of the list.
abbrev pub BreachesAreInTheList : Type 0
BreachesAreInTheList =
    (limit : ℕ) (kept : List KeptAct) (n : ℕ) (rule : Rule) → HasBreach limit kept n rule →
    n < length kept

-- A legal list with one act more that breaks no rule is legal.
abbrev pub LegalWithOneMore : Type 0
LegalWithOneMore =
    (limit : ℕ) (kept : List KeptAct) (one : KeptAct) → IsLegal limit kept →
    ((rule : Rule) → ¬ HasBreach limit (kept ++ one ∷ []) (length kept) rule) →
    IsLegal limit (kept ++ one ∷ [])

-- What is kept next is a breach exactly where it breaks the rule by what the acts before it leave behind.
abbrev pub BreachByWhatIsLeft : Type 0
BreachByWhatIsLeft =
    (limit : ℕ) (kept : List KeptAct) (one : KeptAct) (rule : Rule) →
    HasBreach limit (kept ++ one ∷ []) (length kept) rule ↔ BreaksNext limit (acts_in kept) one rule

-- A list has one first breach at most.
abbrev pub OneFirstBreach : Type 0
OneFirstBreach =
    (limit : ℕ) (kept : List KeptAct) (n m : ℕ) (rule other : Rule) →
    IsFirstBreach limit kept n rule → IsFirstBreach limit kept m other → (n ≡ m) × (rule ≡ other)

-- Before all acts nobody is in.
abbrev pub StayOfNone : Type 0
StayOfNone = (places : ℕ) (k : Member) → stay_of places [] k ≡ None

-- What is known of a member after one act more.
abbrev pub StayOfOneMore : Type 0
StayOfOneMore =
    (places : ℕ) (acts : List Act) (act : Act) (k : Member) →
    stay_of places (with_act acts act) k ≡ stay_after places act.kind k (stay_of places acts k)

-- The verdict on one packet more is that by what the list leaves behind.
abbrev pub VerdictByWhatIsLeft : Type 0
VerdictByWhatIsLeft =
    (setup : FloorSetup) (acts : List Act) (at : ℕ) (k : Member) (p : StreamPacket) →
    verdict_at setup (with_act acts (packet_act at k p)) (length acts)
    ≡ Some (verdict_then setup acts at k p)

-- Under one limit empty lists leave the same, ..
abbrev pub NothingLeavesTheSame : Type 0
NothingLeavesTheSame =
    (setup other : FloorSetup) → setup.limit ≡ other.limit → LeaveTheSame setup [] other []

-- .. and so does a list with one act more that changes nothing.
abbrev pub SameWithoutIdleActs : Type 0
SameWithoutIdleActs =
    (setup : FloorSetup) (acts : List Act) (act : Act) (other : FloorSetup) (others : List Act) →
    KeepsStanding setup acts (with_act acts act) →
    LeaveTheSame setup acts other others →
    LeaveTheSame setup (with_act acts act) other others

-- After lists that leave the same, so do the lists with a Join of the same member at one of the places of both, ..
abbrev pub SameAfterJoins : Type 0
SameAfterJoins =
    (setup : FloorSetup) (acts : List Act) (other : FloorSetup) (others : List Act) (at later : ℕ)
    (k : Member) (listens : Bool) → k.place < setup.places → k.place < other.places →
    LeaveTheSame setup acts other others →
    LeaveTheSame setup (with_act acts (join_act at k listens))
    other (with_act others (join_act later k listens))

-- .. also where another at that place left before it in one of them, ..
abbrev pub SameAfterReplacements : Type 0
SameAfterReplacements =
    (setup : FloorSetup) (acts : List Act) (other : FloorSetup) (others : List Act)
    (at left later : ℕ) (m k : Member) (listens : Bool) → k.place < setup.places → k.place < other.places →
    m.place ≡ k.place → LeaveTheSame setup acts other others →
    LeaveTheSame setup (with_act acts (join_act at k listens))
    other (with_act (with_act others (leave_act left m)) (join_act later k listens))

-- .. with a Leave of the same member, ..
abbrev pub SameAfterLeaves : Type 0
SameAfterLeaves =
    (setup : FloorSetup) (acts : List Act) (other : FloorSetup) (others : List Act) (at later : ℕ)
    (m : Member) → LeaveTheSame setup acts other others →
    LeaveTheSame setup (with_act acts (leave_act at m))
    other (with_act others (leave_act later m))

-- .. and with the same packet, if it comes at one moment of both; and its verdict is the same.
abbrev pub SameAfterPackets : Type 0
SameAfterPackets =
    (setup : FloorSetup) (acts : List Act) (other : FloorSetup) (others : List Act) (at later : ℕ)
    (k : Member) (p : StreamPacket) →
    max (moment_before acts (length acts)) at ≡ max (moment_before others (length others)) later →
    LeaveTheSame setup acts other others →
    LeaveTheSame setup (with_act acts (packet_act at k p))
    other (with_act others (packet_act later k p))
    × (verdict_at setup (with_act acts (packet_act at k p)) (length acts)
    ≡ verdict_at other (with_act others (packet_act later k p)) (length others))
