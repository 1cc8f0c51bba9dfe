-- What a run of `bridge` promises. It reads nothing, and takes memory for the guards of its links alone.
use Rattle.std.specs.Prelude.{◌≡◌, ◌⊎◌, ℕ, ◌<◌, List, ◌++◌, None, Some, true}
use Rattle.m17_print.specs.Endings.{last_line, port_failed_line}
use Rattle.m17_client.specs.declared.crossing.BridgeEnd.{BridgeEnd}
use Rattle.m17_client.specs.declared.side.Side.{Side}
use Rattle.m17_client.specs.Sides.{of}
use Rattle.m17_client.specs.CrossRun.{IsLost}
use Rattle.m17_client.specs.CrossDevices.{DevicesTold}
use Rattle.m17_decorators.specs.declared.guarded.GuardLabel.{GuardLabel}
use Rattle.m17_words.specs.declared.order.BridgeOrder.{BridgeOrder}
use Rattle.m17_client_commands.specs.declared.bridge_command_ending.BridgeEnding.{BridgeEnding}
use Rattle.m17_client_commands.specs.BridgeCommandEndings.{bridge_ending}
use Rattle.m17_client_commands.specs.Bridged.{bridge_line, ending_of, Bridges, FailsAtPort, Handed}
use Rattle.m17_app.specs.declared.status.Status.{Status}
use Rattle.m17_app.specs.declared.status.Status.TheVariants.{Finished, WriteFailed, PortFailed, LinkLost, NoMemory}
use Rattle.m17_app.specs.Serve.{no_words}
use Rattle.m17_app.specs.Status.{Streams, status_of}
use Rattle.m17_app.specs.Terms.{Terms}
use Rattle.m17_app.specs.Written.{Adds, AddsPart, LeavesInput}

-- the last line of a run that ended so, if it has one, and its status where that line could be written
abbrev pub bridge_last_line : BridgeEnding → List ℕ
bridge_last_line ending = last_line no_words (bridge_ending ending)

abbrev pub bridge_status : BridgeEnding → Status
bridge_status ending = status_of (bridge_ending ending)

-- the text of a bridge that came to this end: its line, and then the last line of its status
abbrev pub bridge_text : BridgeEnd → List ℕ
bridge_text end = bridge_line end ++ bridge_last_line (ending_of end)

module _ {E M : Type 0} where
  -- The bridge ran over its devices, which are handed back, to an end with this status, and its text stands written:
  -- `bridges` has what is promised of such a run. The link is lost only where an ear's count of faults is above 0: both
  -- counts began at 0.
  pub record RanBridge (order : BridgeOrder) (status : Status) (before after : Streams)
      (run : Handed E M) : Type 0 where
    pub end : BridgeEnd
    pub bridges : Bridges order end run
    pub status_is : status ≡ bridge_status (ending_of end)
    pub text : Adds (bridge_text end) before after
    pub lost : status ≡ LinkLost → (d : DevicesTold E M) → run.devices ≡ Some d
        → (side : Side) × (0 < (of side d.ears).faults)

  -- The sink failed: after the ports did, or after the bridge had run; a first part of the text of such a run stands
  -- written.
  abbrev pub CutsBridge : BridgeOrder → Streams → Streams → Handed E M → Type 0
  CutsBridge order before after run =
      (FailsAtPort order run × AddsPart port_failed_line before after)
      ⊎ ((end : BridgeEnd) × Bridges order end run × AddsPart (bridge_text end) before after)

  -- What each status says of a run of `bridge`.
  abbrev pub TellsBridge : BridgeOrder → Handed E M → Status → Streams → Streams → Type 0
  TellsBridge order run Finished before after = RanBridge order Finished before after run
  TellsBridge order run LinkLost before after = RanBridge order LinkLost before after run
  TellsBridge order run WriteFailed before after = CutsBridge order before after run
  TellsBridge order run PortFailed before after =
      FailsAtPort order run × Adds port_failed_line before after
  -- before the ports are asked and anything is written, and no device has failed then
  TellsBridge order run NoMemory before after = (run.after ≡ run.before)
      × (run.devices ≡ None) × (after ≡ before)
  TellsBridge order run _ before after = ⊥

module _ {E M : Type 0} where
  -- Of each ear that comes back the label says that its guard is on, so it has heard no echo.
  abbrev pub AreGuarded : Handed (GuardLabel E) M → Type 0
  AreGuarded run = (back : DevicesTold (GuardLabel E) M) → run.devices ≡ Some back
      → (side : Side) → (of side back.ears).device.label.is_on ≡ true

  -- its terms: it takes any input, and reads nothing of it; the guards of its ears are on; and nothing else stood against it
  -- where no ear's list ended in 16 Faults
  abbrev pub bridge_terms : BridgeOrder → Handed (GuardLabel E) M → Terms
  bridge_terms order run = record {
    tells = λ status before after. LeavesInput before after × AreGuarded run
        × TellsBridge order run status before after;
    takes = λ left. Unit {0};
    untroubled = λ left. (end : BridgeEnd) (bridges : Bridges order end run)
        → ¬ IsLost bridges.crossed.turns;
  }
