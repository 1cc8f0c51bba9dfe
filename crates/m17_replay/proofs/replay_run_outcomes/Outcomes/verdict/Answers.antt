use Rattle.std.proofs.Common.{◌≡◌, ◌<◌, length, slice_get, None, Some, get_or, sym, ap, ◌∙◌, arith}
use Rattle.std.proofs.lemmas.Option.{same_Some, slice_get-get_or, slice_get_within}
use Rattle.m17_replay.specs.Tapes.{verdicts_on, OutcomesKept}
use Rattle.m17_replay.proofs.TapeSteps.{first_cells}
use Rattle.m17_replay.proofs.replay_run_outcomes.Outcomes.verdict.Goals as goal

pub index-requires : goal.index-requires
index-requires c =
    let link = c.self.inside.link.items in
    let below : c.args.n < length (verdicts_on link) = omega (arith, ap (λ (o : OutcomesKept). length o.verdicts) c.self.view_is, c.requires.heard) in
    let it = first_cells link c.self.invariant c.args.n below in
    omega (arith, slice_get_within link c.args.n (Some it.0) it.1, c.self.inside.link.ok.0)

pub unreachable-requires : goal.unreachable-requires
unreachable-requires c =
    let link = c.self.inside.link.items in
    let below : c.args.n < length (verdicts_on link) = omega (arith, ap (λ (o : OutcomesKept). length o.verdicts) c.self.view_is, c.requires.heard) in
    let it = first_cells link c.self.invariant c.args.n below in
    let cell = c.index.result.now in
    let is : cell ≡ Some it.0 = c.index.ensures ∙ same_Some (get_or link c.args.n cell) (Some it.0) (sym (slice_get-get_or link c.args.n cell (slice_get_within link c.args.n (Some it.0) it.1)) ∙ it.1) in
    let wrong : None ≡ Some it.0 = sym c.in-None.is ∙ is in cc

pub returns : goal.returns
returns c =
    let link = c.self.inside.link.items in
    let below : c.args.n < length (verdicts_on link) = omega (arith, ap (λ (o : OutcomesKept). length o.verdicts) c.self.view_is, c.requires.heard) in
    let it = first_cells link c.self.invariant c.args.n below in
    let cell = c.index.result.now in
    let is : cell ≡ Some it.0 = c.index.ensures ∙ same_Some (get_or link c.args.n cell) (Some it.0) (sym (slice_get-get_or link c.args.n cell (slice_get_within link c.args.n (Some it.0) it.1)) ∙ it.1) in
    let there : slice_get c.args.self.now.verdicts c.args.n ≡ Some it.0 = ap (λ (o : OutcomesKept). slice_get o.verdicts c.args.n) (sym c.self.view_is) ∙ it.2 in
    there ∙ sym is ∙ c.in-Some.is
