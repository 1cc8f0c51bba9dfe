-- How many positions are admitted, with one act more.
use Rattle.std.proofs.Common.{◌≡◌, ◌+◌, cond, List, [], ◌∷◌, ◌++◌, length, Option, ap, ◌∙◌, arith}
use Rattle.std.specs.List.{count_by}
use Rattle.std.proofs.lemmas.List.Sums.{sum_by-append}
use Rattle.m17_floor.specs.declared.act.Act.{Act}
use Rattle.m17_floor.specs.declared.verdict.Verdict.{Verdict}
use Rattle.m17_floor.specs.Setup.{FloorSetup}
use Rattle.m17_floor.specs.Acts.{with_act}
use Rattle.m17_floor.specs.Floor.{admits, verdicts_before, admitted_count}
use Rattle.m17_floor.proofs.OneMore.{verdict_last, admits_last, verdicts_more}

count_push : (vs : List (Option Verdict)) (v : Option Verdict) → count_by admits (vs ++ v ∷ []) ≡ count_by admits vs + cond (admits v) 1 0
count_push vs v = sum_by-append (λ x. cond (admits x) 1 0) vs (v ∷ []) ∙ ap (λ n. count_by admits vs + n) (omega arith)

pub count_more : (setup : FloorSetup) (acts : List Act) (act : Act) → admitted_count setup (with_act acts act) ≡ admitted_count setup acts + cond (admits_last setup acts act) 1 0
unfolding admitted_count
count_more setup acts act =
    ap (count_by admits) (verdicts_more setup acts act)
    ∙ count_push (verdicts_before setup acts (length acts)) (verdict_last setup acts act)
