-- What `bridge` asks, does and prints, and how it ends.
use Rattle.std.specs.Prelude.{◌≡◌, ℕ, false, ◌*◌, ◌≤◌, List, [], ◌∷◌, ◌++◌, codes, decimal, string_bytes, Option, None, Some, IfSome, if◌then◌else◌}
use Rattle.std.specs.Option.{option_map}
use Rattle.m17_io.specs.Sink.{AppendsPrefix}
use Rattle.m17_io.specs.declared.fault.Fault.{Fault}
use Rattle.m17_io.specs.declared.fault.Fault.TheVariants.{Write}
use Rattle.m17_ports.specs.Ear.{EarTold, IsNewEar}
use Rattle.m17_ports.specs.Mouth.{MouthTold, IsNewMouth}
use Rattle.m17_ports.specs.Ports.{HasAsked, PortsTold, next_number}
use Rattle.m17_ports.specs.declared.question.Question.{Question}
use Rattle.m17_ports.specs.declared.question.Question.TheVariants.{Link}
use Rattle.m17_client.specs.Standing.{new_client}
use Rattle.m17_client.specs.Sides.{both}
use Rattle.m17_client.specs.declared.crossing.BridgeEnd.{BridgeEnd}
use Rattle.m17_client.specs.CrossRun.{CrossPlan}
use Rattle.m17_client.specs.CrossDevices.{DevicesTold, devices_told, HasCrossed}
use Rattle.m17_client_commands.specs.Devices.{FailsAmong}
use Rattle.m17_words.specs.declared.order.BridgeOrder.{BridgeOrder}
use Rattle.m17_client_commands.specs.declared.bridge_command_ending.BridgeEnding.{BridgeEnding}
use Rattle.m17_client_commands.specs.declared.bridge_command_ending.BridgeEnding.TheVariants.{Finished, LinkLost, WriteFailed, PortFailed}

-- The seconds of the words are within their bound.
abbrev pub IsBridgeable : BridgeOrder → Type 0
IsBridgeable order = IfSome order.seconds (λ seconds. seconds ≤ 1000000)

-- the moment in milliseconds at which both links end; none where the bridge runs until it is stopped
abbrev pub until_of : Option ℕ → Option ℕ
until_of seconds = option_map (λ s. 1000 * s) seconds

-- What a bridge asks of the ports, in order: the near link and the far one.
abbrev pub questions_of : BridgeOrder → List Question
questions_of order = Link (string_bytes order.near) (until_of order.seconds)
    ∷ Link (string_bytes order.far) (until_of order.seconds) ∷ []

-- The bridge that the words ask for: on each side a client for the module there, with the callsign of the words, which
-- doesn't only listen, and the reflector there.
abbrev pub bridge_plan : BridgeOrder → CrossPlan
bridge_plan order = record {
  ends = both (new_client order.call order.near_letter false)
      (new_client order.call order.far_letter false);
  to = both order.near_peer order.far_peer;
}

-- what the devices of both sides tell, near first, by what is told of ears and mouths
abbrev pub bridge_told : {E M X Y : Type 0} → (E → EarTold X) → (M → MouthTold Y)
    → (E × M) × (E × M) → DevicesTold X Y
bridge_told ear mouth d = devices_told (ear d.0.0) (mouth d.0.1) (ear d.1.0) (mouth d.1.1)

-- The devices are new: nothing was heard or said, and none has failed. Those of the near side have the number of this
-- call, and those of the far side that of the next one.
pub record AreNew {E M : Type 0} (call : ℕ) (d : DevicesTold E M) : Type 0 where
  pub near_ear : IsNewEar call d.ears.near
  pub near_mouth : IsNewMouth call d.mouths.near
  pub far_ear : IsNewEar (next_number call) d.ears.far
  pub far_mouth : IsNewMouth (next_number call) d.mouths.far

-- What is known of the labels of the first link, and of the one after it, is known of those of the near side, and of those of
-- the far side.
pub record IsKnown {E M : Type 0} (ears : ℕ → E → Type 0) (mouths : ℕ → M → Type 0)
    (d : DevicesTold E M) : Type 0 where
  pub near_ear : ears 0 d.ears.near.device.label
  pub near_mouth : mouths 0 d.mouths.near.device.label
  pub far_ear : ears 1 d.ears.far.device.label
  pub far_mouth : mouths 1 d.mouths.far.device.label

-- What is told of a run of the command beside its line: of the ports before it and after it, and of the devices that it
-- hands back, where it does. Its ears and its mouths have labels of these kinds.
pub record Handed (E M : Type 0) : Type 0 where
  pub before : PortsTold
  pub after : PortsTold
  pub devices : Option (DevicesTold E M)

module _ {E M : Type 0} where
  abbrev pub handed : PortsTold → PortsTold → Option (DevicesTold E M) → Handed E M
  handed before after devices = record { before = before; after = after; devices = devices }

  -- The ports failed at the last of the questions that were asked, which are the first of those of the bridge. No device
  -- is handed back.
  abbrev pub FailsAtPort : BridgeOrder → Handed E M → Type 0
  FailsAtPort order run = FailsAmong (questions_of order) run.before run.after
      × (run.devices ≡ None)

  -- The bridge ran over the devices that the ports handed out, which were new, and they are handed back. `crossed` has all
  -- that is promised of such a run: it ends at the first entry that is named there; the clients of both sides run by
  -- their table over what their ears heard; what is said on a side are the packets of the other side that pass, byte
  -- for byte and in order, short of what its mouth failed to send; never both sides pass at once; and the numbers are
  -- those of the packets that pass.
  pub record Bridges (order : BridgeOrder) (end : BridgeEnd) (run : Handed E M) : Type 0 where
    pub asked : HasAsked (questions_of order) run.before run.after
    pub no_fault : run.after.faults ≡ run.before.faults
    pub new : DevicesTold E M
    pub are_new : AreNew run.before.calls new
    pub devices : DevicesTold E M
    pub handed_back : run.devices ≡ Some devices
    pub crossed : HasCrossed (bridge_plan order) end new devices

-- The line of a bridge: how many packets passed from each side.
abbrev pub bridge_line : BridgeEnd → List ℕ
bridge_line end = codes "bridged near " ++ decimal end.near ++ codes " far "
    ++ decimal end.far ++ 10 ∷ []

-- how the command ends where the bridge ran and its line was written
abbrev pub ending_of : BridgeEnd → BridgeEnding
ending_of end = if end.lost then LinkLost else Finished

-- the device of the streams that failed, where the command ended so
abbrev pub failed_device : BridgeEnding → Option Fault
failed_device Finished = None
failed_device LinkLost = None
failed_device WriteFailed = Some Write
failed_device PortFailed = None

module _ {E M : Type 0} where
  -- The bridge ran, its line was appended to what stood written, and this is how the command ends then.
  abbrev pub EndsBridge : BridgeOrder → BridgeEnding → Handed E M → Option (List ℕ)
      → Option (List ℕ) → Type 0
  EndsBridge order ending run first written = (end : BridgeEnd) × Bridges order end run
      × (ending ≡ ending_of end)
      × ((before : List ℕ) → first ≡ Some before → written ≡ Some (before ++ bridge_line end))

  -- The bridge ran, and a first part of its line was appended.
  abbrev pub CutsBridge : BridgeOrder → Handed E M → Option (List ℕ) → Option (List ℕ) → Type 0
  CutsBridge order run first written = (end : BridgeEnd) × Bridges order end run
      × ((before : List ℕ) → first ≡ Some before
      → AppendsPrefix before (bridge_line end) written)

  -- What each ending of `bridge` says. Nothing is written before the bridge has run.
  abbrev pub ComesToBridge : BridgeOrder → BridgeEnding → Handed E M → Option (List ℕ)
      → Option (List ℕ) → Type 0
  ComesToBridge order Finished run first written = EndsBridge order Finished run first written
  ComesToBridge order LinkLost run first written = EndsBridge order LinkLost run first written
  ComesToBridge order WriteFailed run first written = CutsBridge order run first written
  ComesToBridge order PortFailed run first written =
      FailsAtPort order run × (written ≡ first)
