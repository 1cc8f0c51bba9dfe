use Rattle.std.proofs.Common.{◌≡◌, ℕ, suc, ◌+◌, List, length, take, Option, ap, sym, ◌∙◌, arith}
use Rattle.m17_floor.specs.declared.act.Act.{Act}
use Rattle.m17_floor.specs.declared.act.ActKind.{ActKind}
use Rattle.m17_floor.specs.declared.verdict.Verdict.{Verdict}
use Rattle.m17_floor.specs.Setup.{FloorSetup, floor_setup}
use Rattle.m17_floor.specs.Acts.{greatest_moment, kind_at, moment_at}
use Rattle.m17_floor.specs.Floor.{verdict_given}
use Rattle.m17_floor.specs.Plain.{past_answered}
use Rattle.m17_floor.proofs.OneMore.{length_more}
use Rattle.m17_floor.proofs.VerdictsSoFar.{no_verdicts, one_more_verdict}
use Rattle.m17_floor.proofs.plain.verdicts.Goals as goal

pub loop-init : goal.loop-init
loop-init c = (ap length c.in_ok-verdicts.ensures.items, no_verdicts _ _ _ c.in_ok-verdicts.ensures.items)

pub loop-preserved : goal.loop-preserved
loop-preserved c =
    let setup : FloorSetup = floor_setup c.args.places c.args.limit in
    let acts : List Act = c.args.acts.now in
    let so_far : List (Option Verdict) = c.loop.verdicts.items in
    let n : ℕ = length so_far in
    let at : c.len-n.result ≡ n = c.len-n.ensures ∙ sym c.as_slice.ensures.len ∙ ap length c.as_slice.ensures.value in
    let front : take c.len-n.result acts ≡ take n acts = ap (λ (i : ℕ). take i acts) at in
    let next : n + 1 ≡ suc n = omega arith in
    let moment : c.moment-at.result ≡ moment_at acts n = c.moment-at.ensures ∙ ap (λ (i : ℕ). greatest_moment (take (i + 1) acts)) at ∙ ap (λ (i : ℕ). greatest_moment (take i acts)) next in
    let kind : c.kind.result ≡ kind_at acts n = c.kind.ensures ∙ ap (kind_at acts) at in
    let given =
    c.verdict_on-verdict.ensures
    ∙ ap (λ (xs : List (Option Verdict)). verdict_given (past_answered setup (take c.len-n.result acts) xs) c.moment-at.result c.kind.result) c.as_slice.ensures.value
    ∙ ap (λ (xs : List Act). verdict_given (past_answered setup xs so_far) c.moment-at.result c.kind.result) front
    ∙ ap (λ (m : ℕ). verdict_given (past_answered setup (take n acts) so_far) m c.kind.result) moment
    ∙ ap (λ (x : ActKind). verdict_given (past_answered setup (take n acts) so_far) (moment_at acts n) x) kind in
    let more = one_more_verdict setup acts so_far c.verdict_on-verdict.result c.loop.invariant.1 given in
    let e = ap length c.in_ok-push.ensures.items in
    let same : n ≡ c.loop.index = c.loop.invariant.0 in
    (omega (arith, length_more so_far c.verdict_on-verdict.result), rw c.in_ok-push.ensures.items more)
