use Rattle.std.proofs.Common.{◌≡◌, ◌<◌, length, slice_get, None, Some, get_or, sym, ap, ◌∙◌, arith}
use Rattle.std.specs.Prelude.{option_and_then}
use Rattle.std.proofs.lemmas.List.FromFn.{length-map-range_with_len}
use Rattle.std.proofs.lemmas.Option.{same_Some, slice_get-get_or, slice_get_within}
use Rattle.m17_replay.specs.Tapes.{packet_by, packet_on, verdicts_on, OutcomesKept}
use Rattle.m17_replay.proofs.TapeSteps.{first_cells, range_there}
use Rattle.m17_replay.proofs.replay_run_outcomes.Outcomes.packet.Goals as goal

pub index-requires : goal.index-requires
index-requires c =
    let link = c.self.inside.link.items in
    let packet = packet_on c.self.inside.served c.self.inside.modules.items (verdicts_on link) in
    let below : c.args.n < length (verdicts_on link) = omega (arith, length-map-range_with_len packet 0 (length (verdicts_on link)), ap (λ (o : OutcomesKept). length o.packets) c.self.view_is, c.requires.heard) in
    let it = first_cells link c.self.invariant c.args.n below in
    omega (arith, slice_get_within link c.args.n (Some it.0) it.1, c.self.inside.link.ok.0)

pub unreachable-requires : goal.unreachable-requires
unreachable-requires c =
    let link = c.self.inside.link.items in
    let packet = packet_on c.self.inside.served c.self.inside.modules.items (verdicts_on link) in
    let below : c.args.n < length (verdicts_on link) = omega (arith, length-map-range_with_len packet 0 (length (verdicts_on link)), ap (λ (o : OutcomesKept). length o.packets) c.self.view_is, c.requires.heard) in
    let it = first_cells link c.self.invariant c.args.n below in
    let cell = c.index.result.now in
    let is : cell ≡ Some it.0 = c.index.ensures ∙ same_Some (get_or link c.args.n cell) (Some it.0) (sym (slice_get-get_or link c.args.n cell (slice_get_within link c.args.n (Some it.0) it.1)) ∙ it.1) in
    let wrong : None ≡ Some it.0 = sym c.in-None.is ∙ is in cc

pub returns : goal.returns
returns c =
    let link = c.self.inside.link.items in
    let served = c.self.inside.served in
    let tapes = c.self.inside.modules.items in
    let verdicts = verdicts_on link in
    let below : c.args.n < length verdicts = omega (arith, length-map-range_with_len (packet_on served tapes verdicts) 0 (length verdicts), ap (λ (o : OutcomesKept). length o.packets) c.self.view_is, c.requires.heard) in
    let it = first_cells link c.self.invariant c.args.n below in
    let cell = c.index.result.now in
    let is : cell ≡ Some it.0 = c.index.ensures ∙ same_Some (get_or link c.args.n cell) (Some it.0) (sym (slice_get-get_or link c.args.n cell (slice_get_within link c.args.n (Some it.0) it.1)) ∙ it.1) in
    let same : it.0 ≡ c.in-Some.verdict = same_Some it.0 c.in-Some.verdict (sym is ∙ c.in-Some.is) in
    ap (λ (o : OutcomesKept). slice_get o.packets c.args.n) (sym c.self.view_is)
    ∙ range_there (packet_on served tapes verdicts) c.args.n (length verdicts) below
    ∙ ap Some (ap (option_and_then (packet_by served tapes c.args.n)) it.2
    ∙ ap (packet_by served tapes c.args.n) same
    ∙ sym (c.packet_verdict.ensures ∙ ap (λ l. packet_by served l c.args.n c.in-Some.verdict) c.deref.ensures.value))
