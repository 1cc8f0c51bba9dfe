use Rattle.std.proofs.Common.{◌≡◌, ℕ, ◌++◌, Some, arith, subst, ap, ◌∙◌}
use Rattle.m17_io.specs.Faults.{HasRisen}
use Rattle.m17_text_commands.specs.Make.{make_text}
use Rattle.m17_text_commands.proofs.Texts.{making_first, making_more, making_failed, header_failed}
use Rattle.m17_text_commands.proofs.make_command.make.Goals as goal

pub returns-in-Err-clause-err : goal.returns-in-Err-clause-err
returns-in-Err-clause-err g c = header_failed c.args.seed c.args.count _ _ (rw c.write_trace_header-header.ensures at c.in-Err.ensures.err)

pub loop-entry-init : goal.loop-entry-init
loop-entry-init g c =
    making_first c.args.seed _ _ _ _ _ c.new-maker.ensures.drawn c.new-maker.ensures.first (rw c.write_trace_header-header.ensures at c.in-Ok.ensures.ok) c.in-Ok.ensures.cause.no_fault

pub next-requires : goal.next-requires
next-requires g c = omega (arith, c.loop-entry.invariant.entry_is)

pub returns-in-Err-write_heard-clause-cause : goal.returns-in-Err-write_heard-clause-cause
returns-in-Err-write_heard-clause-cause g c = record {
  counted = omega (arith, c.in-Err-write_heard.ensures.cause.counted);
  failed = subst (λ (n : ℕ). HasRisen n (g.K.Sink.told c.write_heard.new.out).faults) c.loop-entry.invariant.no_fault c.in-Err-write_heard.ensures.cause.failed;
  no_fault = tt;
}

pub returns-in-Err-write_heard-clause-err : goal.returns-in-Err-write_heard-clause-err
returns-in-Err-write_heard-clause-err g c =
    making_failed c.args.seed c.loop-entry._entry c.args.count _ _ _ _ _ _ _ (omega arith) c.loop-entry.invariant
    (c.next.ensures.heard c.args.seed c.loop-entry.invariant.drawn) c.in-Err-write_heard.ensures.err

pub loop-entry-preserved : goal.loop-entry-preserved
loop-entry-preserved g c =
    making_more c.args.seed c.loop-entry._entry _ _ _ _ _ _ _ _ _ c.loop-entry.invariant c.next.ensures.entry (c.next.ensures.drawn c.args.seed c.loop-entry.invariant.drawn)
    (c.next.ensures.heard c.args.seed c.loop-entry.invariant.drawn) c.in-Ok-write_heard.ensures.ok c.in-Ok-write_heard.ensures.cause.no_fault

pub returns-clause-cause : goal.returns-clause-cause
returns-clause-cause g c = record { counted = omega arith; failed = tt; no_fault = c.loop-entry.invariant.no_fault }

pub returns-clause-ok : goal.returns-clause-ok
returns-clause-ok g c = λ first told.
    let all : c.loop-entry._entry ≡ c.args.count = omega arith in
    c.loop-entry.invariant.written first told ∙ ap (λ (n : ℕ). Some (first ++ make_text c.args.seed n)) all
