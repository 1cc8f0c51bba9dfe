use Rattle.std.proofs.Common.{ℕ, List, length, slice_index, ap₂, ◌∙◌}
use Rattle.m17_serve.specs.Lines.{module_line}
use Rattle.m17_serve.proofs.Printing.{line_cut, line_written}
use Rattle.m17_serve.proofs.line.print_modules.Goals as goal

pub returns-in-Err-clause-prints : goal.returns-in-Err-clause-prints
returns-in-Err-clause-prints g c =
    let n : ℕ = c.loop-number.number in
    let letters : List ℕ = c.args.letters.now in
    record {
      all_of_it = tt;
      part_of_it = line_cut (λ m. module_line (slice_index letters m) (slice_index c.args.admitted.now m) (slice_index c.args.missed.now m)) n (length letters) c.bytes.result.now _ _ _
          c.loop-number-test.true
          (c.bytes.ensures.value ∙ c.make_line.ensures ∙ ap₂ (λ (a m : ℕ). module_line (slice_index letters n) a m) c.count_of.ensures c.count_of-in-loop-number.ensures)
          c.loop-number.invariant.written c.in-Err.ensures.err;
    }

pub loop-number-preserved : goal.loop-number-preserved
loop-number-preserved g c =
    let n : ℕ = c.loop-number.number in
    let letters : List ℕ = c.args.letters.now in
    record {
      written = line_written (λ m. module_line (slice_index letters m) (slice_index c.args.admitted.now m) (slice_index c.args.missed.now m)) n c.bytes.result.now _ _ _
          (c.bytes.ensures.value ∙ c.make_line.ensures ∙ ap₂ (λ (a m : ℕ). module_line (slice_index letters n) a m) c.count_of.ensures c.count_of-in-loop-number.ensures)
          c.loop-number.invariant.written c.in-Ok.ensures.ok;
      same = c.in-Ok.ensures.cause.no_fault ∙ c.loop-number.invariant.same;
    }
