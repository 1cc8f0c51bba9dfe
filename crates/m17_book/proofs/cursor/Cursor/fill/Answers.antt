use Rattle.std.proofs.Common.{rules, ◌++◌, inr, ap, sym, ◌∙◌, arith}
use Rattle.m17_book.proofs.Held.{ahead_more, all_held}
use Rattle.m17_book.proofs.cursor.Cursor.fill.Goals as goal

pub reads-preserved : goal.reads-preserved
reads-preserved g c = record {
  kept = λ ahead before. ahead_more _ _ ahead _ _ c.in_ok-read_more.field-0 (c.reads.invariant.kept ahead before) c.in_ok-read_more.ensures.more;
  sound = search rules;
  place = search rules;
}

pub returns-in_err-read_more-clause-kept : goal.returns-in_err-read_more-clause-kept
returns-in_err-read_more-clause-kept g c = λ ahead before.
    let kept = c.reads.invariant.kept ahead before in
    (kept.0, c.in_err-read_more.ensures.nothing_taken ∙ kept.1, kept.2 ∙ ap (λ xs. xs ++ kept.0) (sym c.in_err-read_more.ensures.held))

pub returns-then-branch-eq0-clause-kept : goal.returns-then-branch-eq0-clause-kept
returns-then-branch-eq0-clause-kept g c = λ ahead before.
    ahead_more _ _ ahead _ _ c.in_ok-read_more.field-0 (c.reads.invariant.kept ahead before) c.in_ok-read_more.ensures.more

pub returns-then-branch-eq0-clause-enough : goal.returns-then-branch-eq0-clause-enough
returns-then-branch-eq0-clause-enough g c = inr (λ ahead before.
    all_held _ _ ahead _ _ c.in_ok-read_more.field-0 (omega arith) (c.reads.invariant.kept ahead before) c.in_ok-read_more.ensures.more)
