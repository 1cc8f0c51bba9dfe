-- What a run of `talk` does with its devices, and what it answers.
use Rattle.std.specs.Prelude.{◌≡◌, ◌↔◌, ℕ, Bool, true, false, IsTrue, ◌<◌, ◌-◌, ◌^◌, min, List, [], ◌∷◌, ◌++◌, length, map}
use Rattle.std.specs.List.{concat, flat_map}
use Rattle.m17_values.specs.declared.peer.Peer.{Peer}
use Rattle.m17_fields.specs.Fields.{be_16, be_64}
use Rattle.m17_crc.specs.Crc.{crc_of}
use Rattle.m17_stream.specs.Stream.{front_bytes}
use Rattle.m17_stream.specs.declared.packet.StreamPacket.{StreamPacket}
use Rattle.m17_io.specs.Faults.{HasRisen}
use Rattle.m17_ports.specs.Ear.{EarTold, HasHeard}
use Rattle.m17_ports.specs.Mouth.{Datagram, MouthTold, SaidOf}
use Rattle.m17_ports.specs.Book.{BookTold, HasText}
use Rattle.m17_client.specs.declared.state.Action.{Action}
use Rattle.m17_client.specs.declared.state.Action.TheVariants.{Say, Keep}
use Rattle.m17_client.specs.declared.talking.TalkEnd.{TalkEnd}
use Rattle.m17_client.specs.Steps.{ClientStep, standing_after}
use Rattle.m17_client.specs.Talk.{TalkPlan, Turn, IsClosed, IsEnded, IsLost, IsTalkRun, entries_of, steps_of}

-- the bytes that an action says, if it says any
abbrev pub said_by : Action → List (List ℕ)
said_by (Say bytes) = bytes.items ∷ []
said_by (Keep packet) = []

-- the datagrams that the steps say, in order
abbrev pub says_of : List ClientStep → List (List ℕ)
says_of steps = flat_map (λ step. flat_map said_by step.actions) steps

-- The record of a kept packet, which is the one that `judge` reads: the client's moment in 8 bytes, talker 0 in 2, and
-- the packet with its right CRC in 54.
unfoldable pub kept_record : ℕ → StreamPacket → List ℕ
kept_record moment packet = be_64 moment ++ be_16 0
    ++ (front_bytes packet ++ be_16 (crc_of (front_bytes packet)))

-- the record that an action of a client at this moment keeps, if it keeps one
abbrev pub kept_by : ℕ → Action → List (List ℕ)
kept_by moment (Say bytes) = []
kept_by moment (Keep packet) = kept_record moment packet ∷ []

-- the records that the steps keep, in order
abbrev pub records_of : List ClientStep → List (List ℕ)
records_of steps = flat_map (λ step. flat_map (kept_by step.after.moment) step.actions) steps

-- these datagrams, each to this peer
abbrev pub datagrams_to : Peer → List (List ℕ) → List Datagram
datagrams_to to datagrams = map (λ bytes. (to, bytes)) datagrams

-- These records were written to the book, one behind another, up to the one at which it failed, where it did.
pub record HasWritten {L : Type 0} (before : BookTold L) (records : List (List ℕ)) (failed : Bool)
    (after : BookTold L) : Type 0 where
  pub text : HasText before (concat records) failed after
  pub at_one : failed ≡ true → 0 < length records

-- What `talk` answers of a run. The count of kept packets stays at 2^64 - 1.
pub record IsTalkEnd (plan : TalkPlan) (turns : List Turn) (answer : TalkEnd) : Type 0 where
  pub state : answer.state ≡ (standing_after plan.client (steps_of turns)).state
  pub kept : answer.kept ≡ min (length (records_of (steps_of turns))) (2 ^ 64 - 1)
  pub ended : IsTrue answer.ended ↔ IsEnded turns
  pub lost : IsTrue answer.lost ↔ IsLost turns
  pub closed : ((answer.ended ≡ false) × (answer.lost ≡ false)) ↔ IsClosed plan turns

-- What the devices of a talk tell: its ear, its mouth and its book.
pub record DevicesTold (E M B : Type 0) : Type 0 where
  pub ear : EarTold E
  pub mouth : MouthTold M
  pub book : BookTold B

module _ {E M B : Type 0} where
  abbrev pub devices_told : EarTold E → MouthTold M → BookTold B → DevicesTold E M B
  devices_told ear mouth book = record { ear = ear; mouth = mouth; book = book }

  -- The client talked over these devices and came to this end. They are the same devices.
  pub record HasTalked (plan : TalkPlan) (end : TalkEnd) (before after : DevicesTold E M B)
      : Type 0 where
    pub turns : List Turn
    pub is_run : IsTalkRun plan turns
    pub is_end : IsTalkEnd plan turns end
    pub heard : HasHeard before.ear (entries_of turns) after.ear
    pub said : SaidOf before.mouth (datagrams_to plan.to (says_of (steps_of turns))) after.mouth
    pub written : HasWritten before.book (records_of (steps_of turns)) end.book_failed after.book
    pub lost : IsTrue end.lost → HasRisen before.ear.faults after.ear.faults
    pub failed : IsTrue end.book_failed → HasRisen before.book.faults after.book.faults
