-- For proofs alone: what a receiver stands for between two entries, and in the midst of one.
use Rattle.std.specs.Prelude.{◌≡◌, ◌⊎◌, ℕ, Bool, true, false, ◌+◌, ◌-◌, ◌<◌, ◌^◌, min, List, [], ◌∷◌, ◌++◌, length, map, not, filter, Contains, Option, None, Some, IfSome, vec_capacity}
use Rattle.std.specs.List.{filter_map, list_any}
use Rattle.std.specs.Option.{option_to_list}
use Rattle.m17_values.specs.declared.heard.Heard.{Heard}
use Rattle.m17_values.specs.declared.heard.Heard.TheVariants.{End}
use Rattle.m17_values.specs.declared.member.Member.{Member}
use Rattle.m17_control.specs.declared.modules.Modules.{Modules}
use Rattle.m17_lane.specs.Ends.{PopEnd}
use Rattle.m17_roll.specs.Seat.{RollView, IsSameSeat}
use Rattle.m17_control.specs.declared.event.Event.{Event}
use Rattle.m17_lane.specs.Rows.{pops, pushes, push_each}
use Rattle.m17_lane.specs.RowsLaws.{RowsPush}
use Rattle.m17_directory.specs.declared.dispatch.Dispatch.{Dispatch}
use Rattle.m17_directory.specs.declared.known.Departed.{Departed}
use Rattle.m17_directory.specs.declared.known.Known.{Known}
use Rattle.m17_directory.specs.declared.verdict.LinkVerdict.{LinkVerdict}
use Rattle.m17_directory.specs.declared.verdict.LinkVerdict.TheVariants.{Asks}
use Rattle.m17_directory.specs.Entries.{Notice, Entry, Setup, SaysEach, ends_at}
use Rattle.m17_directory.specs.Known.{Past}
use Rattle.m17_directory.specs.Outcome.{has_place}
use Rattle.m17_directory.specs.Routed.{past_at, unclaimed_at, others_at, event_for, link_verdict}
use Rattle.m17_directory.specs.StandsFor.{DirectoryKept, StandsFor, is_member, must_wait, unclaimed, departed_of}
use Rattle.m17_directory.specs.Laws.{LaterEntriesChangeNothing, OneEntryMore, EntriesBeforeDecide, ClaimsCompleteAskers, DoorCarriesReplies, EndedWhereItEnds, AskersJoinOrAreFull, PeersComeAndGo, PeersAreToldApart, direct_of, left_before}
use Rattle.m17_receiver.specs.Posting.{Outlets, letter_at, posted_to, AreSameOutlets}
use Rattle.m17_receiver.specs.declared.receiver.Receiver.{Receiver}
use Rattle.m17_ports.specs.Ear.{EarTold}
use Rattle.m17_ports.specs.Book.{BookTold, HasText}
use Rattle.m17_receiver.specs.Devices.{HearsToTheEnd, trace_text}
use Rattle.m17_receiver.specs.Tape.{IsTaped}
use Rattle.m17_receiver.specs.ReceiverDid.{IsSameReceiver, outlets_of}
use Rattle.m17_receiver.specs.Claims.{HasClaimed, IsGreetedAfter}

-- the laws that a receiver rests on
pub record Laws : Type 0 where
  pub later : LaterEntriesChangeNothing
  pub more : OneEntryMore
  pub before : EntriesBeforeDecide
  pub complete : ClaimsCompleteAskers
  pub door : DoorCarriesReplies
  pub ended : EndedWhereItEnds
  pub askers : AskersJoinOrAreFull
  pub people : PeersComeAndGo
  pub apart : PeersAreToldApart
  pub rows : RowsPush Event

-- the outlets after these dispatches
abbrev pub posting : Modules → List Dispatch → Outlets → Outlets
posting modules posts before = record {
  inboxes = push_each (λ m. filter_map (event_for (letter_at modules m)) posts) 0 before.inboxes;
  door = pushes before.door (filter_map direct_of posts);
}

-- the departing but those whose leaving these notes report
abbrev pub without_noted : List Member → List Departed → List Departed
without_noted notes departing =
    filter (λ d. not (list_any (λ m. is_member m d) notes)) departing

-- The directory was told of each of these notes and of nothing else, and they were counted.
pub record HasNoted (notes : List Member) (before after : DirectoryKept × ℕ) : Type 0 where
  pub same : after.0
      ≡ record before.0 { departing = without_noted notes before.0.departing }
  pub waits : must_wait before.0 ≡ false → must_wait after.0 ≡ false
  pub count : (n : ℕ) → before.1 ≡ min n (2 ^ 64 - 1) →
      after.1 ≡ min (n + length notes) (2 ^ 64 - 1)

-- some notes were popped, and the directory was told of them
abbrev pub HasNotedSome : PopEnd Member × DirectoryKept × ℕ → PopEnd Member × DirectoryKept × ℕ → Type 0
HasNotedSome before after = (notes : List Member) × (after.0 ≡ pops before.0 notes)
    × HasNoted notes (before.1, before.2) (after.1, after.2)

-- the asker, where it got no place
abbrev pub refused_by : ℕ → Option Member → List ℕ
refused_by asker None = asker ∷ []
refused_by asker (Some m) = []

-- The seat claimed this, or nothing, for an asker; one that isn't patient claimed once, and a patient
-- one no place that one of the known has.
pub record HasTaken (patient : Bool) (asker : ℕ) (claimed : Option Member) (known : List Known)
    (old new : RollView) : Type 0 where
  pub claims : new.claimed ≡ old.claimed ++ option_to_list claimed
  pub given : new.given ≡ old.given
  pub refused : patient ≡ false → new.refused ≡ old.refused ++ refused_by asker claimed
  pub unknown : patient ≡ true →
      IfSome claimed (λ m. list_any (has_place m.place) known ≡ false)
  pub in_roll : IfSome claimed (λ m. m.place < old.places)
  pub seat : IsSameSeat old new

-- what a receiver was made with, and its outlets as it began
pub record Plan : Type 0 where
  pub setup : Setup
  pub patient : Bool
  pub start : Outlets

-- what a receiver works on, but for its devices and its tape: its directory, its outlets, the notes
-- that it popped and their count, and its seat
pub record Parts : Type 0 where
  pub directory : DirectoryKept
  pub out : Outlets
  pub notes : List Member
  pub noted : ℕ
  pub seat : RollView

abbrev pub parts_of : {E B : Type 0} → Receiver E B → ℕ → Parts
parts_of r noted = record {
  directory = r.directory;
  out = outlets_of r;
  notes = r.notes.popped;
  noted = noted;
  seat = r.seat;
}

-- the receiver was made so
pub record IsPlanOf {E B : Type 0} (plan : Plan) (r : Receiver E B) : Type 0 where
  pub patient : plan.patient ≡ r.patient
  pub places : plan.setup.places ≡ r.places
  pub modules : plan.setup.modules ≡ r.modules

-- What of a receiver stays while it works on an entry: all but its directory, its ends and its seat,
-- of which the directory's setup, the room for inboxes, the roll and the lane of notes do.
pub record IsKept {E B : Type 0} (old new : Receiver E B) : Type 0 where
  pub rest : new ≡ record old {
    directory = new.directory;
    post = new.post;
    inboxes = new.inboxes;
    door = new.door;
    notes = new.notes;
    seat = new.seat;
  }
  pub post : new.post ≡ []
  pub setup : new.directory.setup ≡ old.directory.setup
  pub room : vec_capacity new.inboxes ≡ vec_capacity old.inboxes
  pub notes : new.notes ≡ record old.notes { popped = new.notes.popped }
  pub seat : IsSameSeat old.seat new.seat
  pub lanes : AreSameOutlets (outlets_of old) (outlets_of new)

-- each that left is departing, or its leaving was noted
abbrev pub AreGone : List Departed → List Departed → List Member → Type 0
AreGone gone departing notes =
    (d : Departed) → Contains gone d → Contains departing d ⊎ Contains notes d.member

-- The receiver has come through these entries.
pub record IsSoFar (plan : Plan) (entries : List Entry) (p : Parts) : Type 0 where
  pub setup : p.directory.setup ≡ plan.setup
  pub stands : StandsFor p.directory entries
  pub posted : p.out ≡ posted_to plan.setup entries plan.start
  pub claimed : HasClaimed plan.patient plan.setup entries p.seat
  pub greeted : IsGreetedAfter entries p.notes
  pub gone : AreGone (left_before plan.setup entries (length entries)) p.directory.departing p.notes
  pub count : p.noted ≡ min (length p.notes) (2 ^ 64 - 1)

-- what is looked back on at an entry behind these
abbrev pub past_with : Setup → List Entry → Entry → Past
past_with setup entries entry = past_at setup (entries ++ entry ∷ []) (length entries)

-- The receiver has come through these entries, and heard one more that says this and asks.
pub record IsAsking (plan : Plan) (entries : List Entry) (notice : Notice) (p : Parts)
    : Type 0 where
  pub setup : p.directory.setup ≡ plan.setup
  pub stands : StandsFor p.directory (entries ++ unclaimed notice ∷ [])
  pub asks : (unclaimed_at (past_with plan.setup entries (unclaimed notice))).verdict ≡ Asks
  pub posted : p.out
      ≡ posting plan.setup.modules (unclaimed_at (past_with plan.setup entries (unclaimed notice))).posts
      (posted_to plan.setup entries plan.start)
  pub goes_on : p.directory.ended ≡ false
  pub others : p.directory.known ≡ others_at (past_with plan.setup entries (unclaimed notice))
  pub claimed : HasClaimed plan.patient plan.setup entries p.seat
  pub greeted : IsGreetedAfter entries p.notes
  pub gone : AreGone (left_before plan.setup entries (length entries)
      ++ map departed_of (unclaimed_at (past_with plan.setup entries (unclaimed notice))).left)
      p.directory.departing p.notes
  pub count : p.noted ≡ min (length p.notes) (2 ^ 64 - 1)

-- The receiver has come through one entry more, with this verdict.
pub record IsThrough (plan : Plan) (entries : List Entry) (notice : Notice) (p : Parts)
    (verdict : LinkVerdict) : Type 0 where
  pub entry : Entry
  pub says : entry.notice ≡ notice
  pub so_far : IsSoFar plan (entries ++ entry ∷ []) p
  pub is_verdict : verdict ≡ link_verdict plan.setup (entries ++ entry ∷ []) (length entries)
  pub ends : p.directory.ended ≡ ends_at (entries ++ entry ∷ []) (length entries)

abbrev pub plan_of_job : {E B : Type 0} → Receiver E B → Plan
plan_of_job j =
    record { setup = j.directory.setup; patient = j.patient; start = outlets_of j }

-- What became of all that was heard so far, and nothing of it ended the link.
pub record HasCome {E B : Type 0} (heard : List Heard) (j k : Receiver E B) (noted : ℕ)
    : Type 0 where
  pub entries : List Entry
  pub says : SaysEach heard entries
  pub goes_on : (n : ℕ) → n < length entries → ends_at entries n ≡ false
  pub so_far : IsSoFar (plan_of_job j) entries (parts_of k noted)
  pub taped : IsTaped j.directory.setup entries j.tape.items k.tape.items

-- The receiver has heard so much, and counted it: what became of it.
pub record HasComeBy {E B L K : Type 0} (hears : E → EarTold L) (writes : B → BookTold K)
    (j k : Receiver E B) (index noted : ℕ) : Type 0 where
  pub heard : List Heard
  pub ear : HearsToTheEnd (hears j.ear) heard (hears k.ear)
  pub trace : HasText (writes j.trace) (trace_text heard) k.trace_failed (writes k.trace)
  pub no_end : Contains heard End → ⊥
  pub count : index ≡ length heard
  pub come : HasCome heard j k noted

-- between two entries nothing is asked or posted, and the link goes on
pub record IsBetween {E B : Type 0} (j k : Receiver E B) : Type 0 where
  pub same : IsSameReceiver j k
  pub order : k.order ≡ j.order
  pub post : k.post ≡ []
  pub asked : k.directory.asked ≡ None
  pub goes_on : k.directory.ended ≡ false
