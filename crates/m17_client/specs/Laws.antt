-- What follows from the definitions for every run of a client.
use Rattle.std.specs.Prelude.{◌≡◌, ℕ, List, Some}
use Rattle.std.specs.List.{AllZip}
use Rattle.m17_stream.specs.declared.packet.StreamPacket.{StreamPacket}
use Rattle.m17_ports.specs.Told.{StartsEmpty}
use Rattle.m17_ports.specs.Mouth.{MouthTold, SaidOf}
use Rattle.m17_client.specs.declared.state.State.TheVariants.{Idle}
use Rattle.m17_client.specs.Standing.{Standing}
use Rattle.m17_client.specs.Steps.{ClientStep}
use Rattle.m17_client.specs.Talk.{IsTalkRun, TalkPlan, Turn, entries_of, steps_of}
use Rattle.m17_client.specs.TalkDevices.{datagrams_to, kept_record, records_of, says_of}
use Rattle.m17_client.specs.Way.{IsClientsEnd, KeepsWhatWasSaid, NothingInvented, Way, keeps_of}

-- Whatever is lost, repeated or reordered on the way: what a client keeps was said to it, in order
-- of its numbers, and it got in by an ACKN that it stepped on after its request.
abbrev pub ClientKeepsWhatWasSaid : Type 0
ClientKeepsWhatWasSaid =
    (way : Way) (first : Standing) (steps : List ClientStep) → NothingInvented way
    → IsClientsEnd way first steps → KeepsWhatWasSaid way first steps

-- A talk over a new mouth, of an idle client, with the reflector of the way; the client's end of
-- the way tells what its ear heard in this talk, and what its mouth said, which has a label of kind
-- L.
pub record IsTalkOver (L : Type 0) (way : Way) (plan : TalkPlan) (turns : List Turn) : Type 0 where
  pub to : plan.to ≡ way.reflector
  pub idle : plan.client.state ≡ Idle
  pub run : IsTalkRun plan turns
  pub heard : way.client_heard ≡ entries_of turns
  pub before : MouthTold L
  pub after : MouthTold L
  pub new_mouth : StartsEmpty before.said
  pub has_said : SaidOf before (datagrams_to plan.to (says_of (steps_of turns))) after
  pub told : after.said ≡ Some way.client_said

-- Such a talk is a client's end of the way.
abbrev pub TalkIsAClientsEnd : (L : Type 0) → Type 0
TalkIsAClientsEnd L =
    (way : Way) (plan : TalkPlan) (turns : List Turn) → IsTalkOver L way plan turns
    → IsClientsEnd way plan.client (steps_of turns)

-- The records that steps write to a book are those of the packets that they keep, in order, each
-- with the moment of its step.
abbrev pub IsRecordOf : StreamPacket → List ℕ → Type 0
IsRecordOf packet bytes = (moment : ℕ) × (bytes ≡ kept_record moment packet)

abbrev pub RecordsAreOfKeptPackets : Type 0
RecordsAreOfKeptPackets =
    (steps : List ClientStep) → AllZip IsRecordOf (keeps_of steps) (records_of steps)
