-- A run of `bridge`, from its ending to what it promises.
use Rattle.std.proofs.Common.{◌≡◌, ◌≢◌, ℕ, ◌<◌, Bool, true, false, List, ◌++◌, take, Option, None, Some, refl, sym, ap, subst, ◌∙◌, arith, inl, inr}
use Rattle.std.specs.Prelude.{IsTrue, if◌then◌else◌}
use Rattle.m17_io.specs.Faults.{HasRisen, HasCauses}
use Rattle.m17_io.specs.Sink.{AppendsPrefix}
use Rattle.m17_ports.specs.Ports.{PortsTold}
use Rattle.m17_print.specs.declared.ending.Ending.{Ending}
use Rattle.m17_print.specs.declared.ending.Ending.TheVariants as ways
use Rattle.m17_print.specs.declared.ending.NoReason.{NoReason}
use Rattle.m17_client.specs.declared.crossing.BridgeEnd.{BridgeEnd}
use Rattle.m17_client.specs.declared.side.Side.{Side}
use Rattle.m17_client.specs.declared.side.Side.TheVariants.{Near, Far}
use Rattle.m17_client.specs.Sides.{of}
use Rattle.m17_client.specs.CrossRun.{IsLost}
use Rattle.m17_client.specs.CrossDevices.{DevicesTold}
use Rattle.m17_decorators.specs.declared.guarded.GuardLabel.{GuardLabel}
use Rattle.m17_words.specs.declared.order.BridgeOrder.{BridgeOrder}
use Rattle.m17_client_commands.specs.declared.bridge_command_ending.BridgeEnding.{BridgeEnding}
use Rattle.m17_client_commands.specs.declared.bridge_command_ending.BridgeEnding.TheVariants as endings
use Rattle.m17_client_commands.specs.BridgeCommandEndings.{bridge_ending}
use Rattle.m17_client_commands.specs.Bridged.{bridge_line, ending_of, failed_device, AreNew, Bridges, ComesToBridge, EndsBridge, Handed}
use Rattle.m17_app.specs.declared.status.Status.{Status}
use Rattle.m17_app.specs.declared.status.Status.TheVariants.{WriteFailed, PortFailed, CrewRefused, LinkLost, NoMemory}
use Rattle.m17_app.specs.Bridge.{bridge_last_line, bridge_status, bridge_terms, AreGuarded, CutsBridge, RanBridge, TellsBridge}
use Rattle.m17_app.specs.Status.{Beside, HasCause, Streams, RoseBy, WritesLast, beside, count_from}
use Rattle.m17_app.specs.Terms.{RunsCommand}
use Rattle.m17_app.specs.Written.{LeavesInput}
use Rattle.m17_app.proofs.Statuses.{Told, is_write_failed, own_status}
use Rattle.m17_app.proofs.Causes.{cause_from, counts, memory_cause, runs_by, stays}
use Rattle.m17_app.proofs.BothGuards.{none_guarded}
use Rattle.m17_app.proofs.Written.{adds_after, adds_part_after, part_longer, same_written}

-- what an ending tells of the streams
told : (ending : BridgeEnding) → Told (bridge_status ending) (failed_device ending)
told endings.Finished = record { read_told = λ e. cc; read_failed = λ e. cc; write_told = λ e. cc; write_failed = λ e. cc; no_memory = λ e. cc }
told endings.LinkLost = record { read_told = λ e. cc; read_failed = λ e. cc; write_told = λ e. cc; write_failed = λ e. cc; no_memory = λ e. cc }
told endings.WriteFailed = record { read_told = λ e. cc; read_failed = λ e. cc; write_told = λ _. refl; write_failed = λ _. refl; no_memory = λ e. cc }
told endings.PortFailed = record { read_told = λ e. cc; read_failed = λ e. cc; write_told = λ e. cc; write_failed = λ e. cc; no_memory = λ e. cc }

-- an end with this status was lost
lost_flag : (lost : Bool) → bridge_status (if lost then endings.LinkLost else endings.Finished) ≡ LinkLost → IsTrue lost
lost_flag true e = refl
lost_flag false e = cc

-- new devices' counts began at 0
above_0 : (a b : ℕ) → a ≡ 0 → HasRisen a b → 0 < b
above_0 a b none risen = omega arith

-- A last line was written behind what an ending printed.
abbrev AddsLine : BridgeEnding → Streams → Streams → Type 0
AddsLine ending mid after = (xs : List ℕ) → mid.sink.written ≡ Some xs → after.sink.written ≡ Some (xs ++ bridge_last_line ending)

abbrev AddsLinePart : BridgeEnding → Streams → Streams → Type 0
AddsLinePart ending mid after = (xs : List ℕ) → mid.sink.written ≡ Some xs → AppendsPrefix xs (bridge_last_line ending) after.sink.written

-- no crew is asked
no_crew : (ending : BridgeEnding) → bridge_status ending ≢ CrewRefused
no_crew endings.Finished e = cc
no_crew endings.LinkLost e = cc
no_crew endings.WriteFailed e = cc
no_crew endings.PortFailed e = cc

-- no memory is wanted
some_way : (ending : BridgeEnding) → bridge_ending ending ≢ ways.NoMemory
some_way endings.Finished e = cc
some_way endings.LinkLost e = cc
some_way endings.WriteFailed e = cc
some_way endings.PortFailed e = cc

pub has_memory : (ending : BridgeEnding) (way : Ending NoReason) → way ≡ bridge_ending ending → way ≢ ways.NoMemory
has_memory ending way is e = some_way ending (sym is ∙ e)

module _ {E M : Type 0} where
  one_of : (o : Option (DevicesTold E M)) (a b : DevicesTold E M) → o ≡ Some a → o ≡ Some b → a ≡ b
  one_of o a b e f = cc

  new_ear : (call : ℕ) (d : DevicesTold E M) → AreNew call d → (side : Side) → (of side d.ears).faults ≡ 0
  new_ear call d new Near = new.near_ear.faults
  new_ear call d new Far = new.far_ear.faults

  lost_ear : (order : BridgeOrder) (end : BridgeEnd) (run : Handed E M) → Bridges order end run → bridge_status (ending_of end) ≡ LinkLost
      → (d : DevicesTold E M) → run.devices ≡ Some d → (side : Side) × (0 < (of side d.ears).faults)
  lost_ear order end run bridges is d at =
      let lost : IsLost bridges.crossed.turns = bridges.crossed.is_end.lost.0 (lost_flag end.lost is) in
      let same : bridges.devices ≡ d = one_of run.devices bridges.devices d bridges.handed_back at in (
        lost.0,
        subst (λ (x : DevicesTold E M). 0 < (of lost.0 x.ears).faults) same
            (above_0 _ _ (new_ear run.before.calls bridges.new bridges.are_new lost.0) (bridges.crossed.lost lost.0 lost.1)),
      )

  ran_tells : (order : BridgeOrder) (ending : BridgeEnding) (before mid after : Streams) (run : Handed E M) → AddsLine ending mid after
      → EndsBridge order ending run before.sink.written mid.sink.written → RanBridge order (bridge_status ending) before after run
  ran_tells order ending before mid after run line (end, bridges, is, printed) = record {
    end = end;
    bridges = bridges;
    status_is = ap bridge_status is;
    text = adds_after (bridge_line end) (bridge_last_line (ending_of end)) before mid after printed (subst (λ (e : BridgeEnding). AddsLine e mid after) is line);
    lost = λ lost. lost_ear order end run bridges (sym (ap bridge_status is) ∙ lost);
  }

  -- the last line was written
  own_tells : (order : BridgeOrder) (ending : BridgeEnding) (before mid after : Streams) (run : Handed E M) → bridge_status ending ≢ WriteFailed
      → AddsLine ending mid after → ComesToBridge order ending run before.sink.written mid.sink.written → TellsBridge order run (bridge_status ending) before after
  own_tells order endings.Finished before mid after run other line came = ran_tells order endings.Finished before mid after run line came
  own_tells order endings.LinkLost before mid after run other line came = ran_tells order endings.LinkLost before mid after run line came
  own_tells order endings.WriteFailed before mid after run other line came = absurd (other refl)
  own_tells order endings.PortFailed before mid after run other line came = (came.0, (λ first is. line first (came.1 ∙ is)))

  -- the sink failed
  cut_ran : (order : BridgeOrder) (ending : BridgeEnding) (before mid after : Streams) (run : Handed E M) → AddsLinePart ending mid after
      → EndsBridge order ending run before.sink.written mid.sink.written → CutsBridge order before after run
  cut_ran order ending before mid after run part (end, bridges, is, printed) = inr (
    end,
    bridges,
    adds_part_after (bridge_line end) (bridge_last_line (ending_of end)) before mid after printed (subst (λ (e : BridgeEnding). AddsLinePart e mid after) is part),
  )

  cut_tells : (order : BridgeOrder) (ending : BridgeEnding) (before mid after : Streams) (run : Handed E M) → AddsLinePart ending mid after
      → ComesToBridge order ending run before.sink.written mid.sink.written → CutsBridge order before after run
  cut_tells order endings.Finished before mid after run part came = cut_ran order endings.Finished before mid after run part came
  cut_tells order endings.LinkLost before mid after run part came = cut_ran order endings.LinkLost before mid after run part came
  cut_tells order endings.WriteFailed before mid after run part (end, bridges, printed) = inr (
    end,
    bridges,
    (λ first is.
        let p = printed first is in
        part_longer first (bridge_line end) (bridge_last_line (ending_of end)) after.sink.written (p.0, same_written mid after part (first ++ take p.0 (bridge_line end)) p.1)),
  )
  cut_tells order endings.PortFailed before mid after run part came = inl (came.0, (λ first is. part first (came.1 ∙ is)))

  -- the ports failed exactly where it is told
  ports_rose : (order : BridgeOrder) (ending : BridgeEnding) (run : Handed E M) (first written : Option (List ℕ)) → ComesToBridge order ending run first written
      → RoseBy PortFailed (bridge_status ending) run.before.faults run.after.faults
  ports_rose order endings.Finished run first written (end, bridges, is, printed) = stays PortFailed (bridge_status endings.Finished) _ _ (λ e. cc) bridges.no_fault
  ports_rose order endings.LinkLost run first written (end, bridges, is, printed) = stays PortFailed (bridge_status endings.LinkLost) _ _ (λ e. cc) bridges.no_fault
  ports_rose order endings.WriteFailed run first written (end, bridges, printed) = stays PortFailed (bridge_status endings.WriteFailed) _ _ (λ e. cc) bridges.no_fault
  ports_rose order endings.PortFailed run first written (fails, same) = record { rose = λ _. fails.0.risen; stands = λ other _. absurd (other refl) }

  -- a bridge whose ears' lists didn't end in 16 Faults
  abbrev IsSmooth : BridgeOrder → Handed E M → Type 0
  IsSmooth order run = (end : BridgeEnd) (bridges : Bridges order end run) → ¬ IsLost bridges.crossed.turns

module _ {E M : Type 0} where
  loses_none : (order : BridgeOrder) (run : Handed (GuardLabel E) M) (before after : Streams)
      → LeavesInput before after × AreGuarded run × TellsBridge order run LinkLost before after → IsSmooth order run → ⊥
  loses_none order run before after (input, guarded, ran) smooth =
      smooth ran.end ran.bridges (ran.bridges.crossed.is_end.lost.0 (lost_flag ran.end.lost (sym ran.status_is)))

  -- the whole run
  pub ran : (order : BridgeOrder) (ending : BridgeEnding) (status : Status) (before mid after : Streams) (run : Handed (GuardLabel E) M) (crew : ℕ) → mid.source ≡ before.source
      → ComesToBridge order ending run before.sink.written mid.sink.written → AreGuarded run → HasCauses (counts before) (counts mid) (failed_device ending)
      → WritesLast (bridge_last_line ending) (bridge_status ending) status mid after
      → RunsCommand (bridge_terms order run) status before after (beside (count_from run.before.faults run.after.faults) (count_from crew crew))
  ran order ending status before mid after run crew same came guarded causes last =
      let own : Status = bridge_status ending in
      let others : Beside = beside (count_from run.before.faults run.after.faults) (count_from crew crew) in
      let cause : HasCause status before after others = cause_from own (failed_device ending) (bridge_last_line ending) status before mid after others (told ending) causes last
      (ports_rose order ending run before.sink.written mid.sink.written came) (stays CrewRefused own crew crew (no_crew ending) refl) in
      let tells : TellsBridge order run status before after = elim (is_write_failed status) [
        | inl four ↦ subst (λ (s : Status). TellsBridge order run s before after) (sym four) (cut_tells order ending before mid after run last.part came)
        | inr other ↦
            let its : status ≡ own = own_status own status last.answer other in
            subst (λ (s : Status). TellsBridge order run s before after) (sym its)
            (own_tells order ending before mid after run (λ e. other (its ∙ e)) (last.whole other) came)
      ] in
      runs_by (bridge_terms order run) status before after others cause ((last.input_untouched ∙ same), guarded, tells) (λ t _. t.2) (λ t. t.2)
      (loses_none order run before after) (λ t _. t.2)

  -- there was no memory
  pub no_run : (order : BridgeOrder) (both : Streams) (run : Handed (GuardLabel E) M) (crew : ℕ) → run.after ≡ run.before → run.devices ≡ None
      → RunsCommand (bridge_terms order run) NoMemory both both (beside (count_from run.before.faults run.after.faults) (count_from crew crew))
  no_run order both run crew ports none =
      let others : Beside = beside (count_from run.before.faults run.after.faults) (count_from crew crew) in
      runs_by (bridge_terms order run) NoMemory both both others (memory_cause both both others refl refl (ap (λ (p : PortsTold). p.faults) ports) refl)
      (refl, none_guarded run.devices none, (ports, none, refl)) (λ t _. t.2) (λ t. t.2) (loses_none order run both both) (λ t _. t.2)
