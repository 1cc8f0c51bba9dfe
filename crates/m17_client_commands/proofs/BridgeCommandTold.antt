-- What the endings of `bridge` say, from what its steps told.
use Rattle.std.proofs.Common.{◌≡◌, ℕ, Bool, true, false, List, Option, None, Some, Result, Ok, Err, OnOk, OnErr, refl, sym, subst, arith}
use Rattle.std.specs.Prelude.{if◌then◌else◌}
use Rattle.m17_io.specs.Faults.{HasCause, HasCauses}
use Rattle.m17_client.specs.declared.crossing.BridgeEnd.{BridgeEnd}
use Rattle.m17_words.specs.declared.order.BridgeOrder.{BridgeOrder}
use Rattle.m17_client_commands.specs.declared.bridge_command_ending.BridgeEnding.{BridgeEnding}
use Rattle.m17_client_commands.specs.declared.bridge_command_ending.BridgeEnding.TheVariants.{Finished, LinkLost, WriteFailed}
use Rattle.m17_client_commands.specs.Bridged.{ending_of, failed_device, Bridges, ComesToBridge, EndsBridge, Handed}
use Rattle.m17_client_commands.specs.Printing.{Prints}

-- a bridge that ran ends in one of two ways
by_end : (lost : Bool) (P : BridgeEnding → Type 0) → P LinkLost → P Finished → P (if lost then LinkLost else Finished)
by_end true P a b = a
by_end false P a b = b

whole_told : {E M : Type 0} (order : BridgeOrder) (ending : BridgeEnding) (end : BridgeEnd) (run : Handed E M) (first written : Option (List ℕ)) → ending ≡ ending_of end
    → EndsBridge order ending run first written → ComesToBridge order ending run first written
whole_told order ending end run first written is ends =
    subst (λ (e : BridgeEnding). EndsBridge order e run first written → ComesToBridge order e run first written) (sym is)
    (by_end end.lost (λ (e : BridgeEnding). EndsBridge order e run first written → ComesToBridge order e run first written) (λ h. h) (λ h. h)) ends

-- the bridge ran, and its line was written or not
pub bridged_told : {T F E M : Type 0} (printed : Result T F) (order : BridgeOrder) (ending : BridgeEnding) (end : BridgeEnd) (run : Handed E M) (first written : Option (List ℕ))
    → OnOk printed (ending ≡ ending_of end) → OnErr printed (ending ≡ WriteFailed) → Bridges order end run → Prints printed end first written
    → ComesToBridge order ending run first written
bridged_told (Ok x) order ending end run first written ok err bridges prints = whole_told order ending end run first written ok (end, bridges, ok, prints.all_of_it)
bridged_told (Err x) order ending end run first written ok err bridges prints =
    subst (λ (e : BridgeEnding). ComesToBridge order e run first written) (sym err) (end, bridges, prints.part_of_it)

-- no device of the streams failed
pub none_failed : (reads a b : ℕ) → b ≡ a → HasCauses (reads, a) (reads, b) None
none_failed reads a b same = record {
  reads_counted = omega arith;
  writes_counted = omega (arith, same);
  read_failed = λ e. cc;
  write_failed = λ e. cc;
  no_read_fault = λ _. refl;
  no_write_fault = λ _. same;
}

pub causes_told : {T F : Type 0} (printed : Result T F) (ending : BridgeEnding) (end : BridgeEnd) (reads a b : ℕ) → OnOk printed (ending ≡ ending_of end) → OnErr printed (ending ≡ WriteFailed)
    → HasCause a b printed → HasCauses (reads, a) (reads, b) (failed_device ending)
causes_told (Ok x) ending end reads a b ok err cause =
    subst (λ (e : BridgeEnding). HasCauses (reads, a) (reads, b) (failed_device e)) (sym ok)
    (by_end end.lost (λ (e : BridgeEnding). HasCauses (reads, a) (reads, b) (failed_device e)) (none_failed reads a b cause.no_fault) (none_failed reads a b cause.no_fault))
causes_told (Err x) ending end reads a b ok err cause =
    subst (λ (e : BridgeEnding). HasCauses (reads, a) (reads, b) (failed_device e)) (sym err) (record {
      reads_counted = omega arith;
      writes_counted = cause.counted;
      read_failed = λ e. cc;
      write_failed = λ _. cause.failed;
      no_read_fault = λ _. refl;
      no_write_fault = λ other. absurd (other refl);
    })
