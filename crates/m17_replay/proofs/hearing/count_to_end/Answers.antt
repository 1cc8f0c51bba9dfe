use Rattle.std.proofs.Common.{length, inl, inr, refl, sym, ◌∙◌, arith}
use Rattle.std.proofs.lemmas.Option.{slice_get_read}
use Rattle.m17_replay.proofs.ToEnd.{never_stops, on_more, stops}
use Rattle.m17_replay.proofs.hearing.count_to_end.Goals as goal
use Rattle.m17_replay.proofs.hearing.count_to_end.Goals.{then-is_end-via-then-is_end, then-is_end-via-else-is_end+then-faults-eq-MOST_FAULTS}

pub returns-then-is_end-clause-ends : goal.returns-then-is_end-clause-ends
returns-then-is_end-clause-ends c =
    let heards = c.args.heard.now in
    let one = c.index-heard-n.result in
    let at = slice_get_read heards (length heards) c.loop-n.n one refl c.loop-n-test.true c.index-heard-n.is in
    stops heards c.loop-n.n c.loop-n.faults c.faults_with-faults.result one c.loop-n.invariant at c.faults_with-faults.ensures
    (elim c.then-is_end.branch [
      | then-is_end-via-then-is_end w ↦ inl (sym c.is_end.ensures ∙ w.if-is_end.true)
      | then-is_end-via-else-is_end+then-faults-eq-MOST_FAULTS w ↦ inr (omega (arith, w.if-faults-eq-MOST_FAULTS.true))
    ])

pub loop-n-preserved : goal.loop-n-preserved
loop-n-preserved c =
    let heards = c.args.heard.now in
    let one = c.index-heard-n.result in
    let at = slice_get_read heards (length heards) c.loop-n.n one refl c.loop-n-test.true c.index-heard-n.is in
    on_more heards c.loop-n.n c.loop-n.faults c.faults_with-faults.result one c.loop-n.invariant at c.faults_with-faults.ensures
    (sym c.is_end.ensures ∙ c.if-is_end.false) (λ many. absurd (omega (arith, many, c.if-faults-eq-MOST_FAULTS.false)))

pub returns-clause-ends : goal.returns-clause-ends
returns-clause-ends c = λ entries front rest parts says once.
    absurd (never_stops c.args.heard.now c.loop-n.n c.loop-n.faults c.loop-n.invariant (omega arith) entries front rest parts says once)
