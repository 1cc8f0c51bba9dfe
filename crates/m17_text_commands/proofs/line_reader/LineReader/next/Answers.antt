use Rattle.std.proofs.Common.{rules, ◌++◌, Ok, ap, subst, sym, ◌∙◌, arith}
use Rattle.m17_text_commands.specs.Reading.{HasNoFeed}
use Rattle.m17_text_commands.proofs.Held.{ahead_more, ahead_at_end}
use Rattle.m17_text_commands.proofs.line_reader.LineReader.next.Goals as goal

pub reads-preserved : goal.reads-preserved
reads-preserved g c = record {
  kept = λ ahead before. ahead_more _ _ ahead _ _ c.in-Ok.field-0 (c.reads.invariant.kept ahead before) c.in-Ok.ensures.more;
  reads = search rules;
  writes = search rules;
  written = search rules;
}

pub returns-in-Ok-eq0-clause-found : goal.returns-in-Ok-eq0-clause-found
returns-in-Ok-eq0-clause-found g c =
    subst HasNoFeed (sym (c.in-Ok-eq0.ensures.none (ap Ok c.in-Ok-eq0.field-0-test))) c.in-None.ensures

pub returns-in-Ok-eq0-clause-kept : goal.returns-in-Ok-eq0-clause-kept
returns-in-Ok-eq0-clause-kept g c = λ ahead before. ahead_more _ _ ahead _ _ c.in-Ok-eq0.field-0 (c.reads.invariant.kept ahead before) c.in-Ok-eq0.ensures.more

pub returns-in-Ok-eq0-clause-at_end : goal.returns-in-Ok-eq0-clause-at_end
returns-in-Ok-eq0-clause-at_end g c = λ is ahead before. ahead_at_end _ _ ahead _ _ c.in-Ok-eq0.field-0 (omega arith) (c.reads.invariant.kept ahead before) c.in-Ok-eq0.ensures.more

pub returns-in-Err-clause-kept : goal.returns-in-Err-clause-kept
returns-in-Err-clause-kept g c = λ ahead before.
    let kept = c.reads.invariant.kept ahead before in
    (kept.0, c.in-Err.ensures.nothing_taken ∙ kept.1, kept.2 ∙ ap (λ xs. xs ++ kept.0) (sym c.in-Err.ensures.held))
