-- One entry more of the kind that it is.
use Rattle.std.proofs.Common.{sym, subst, ◌∙◌}
use Rattle.m17_replay.specs.Counted.{CountsAre}
use Rattle.m17_replay.proofs.CountedMore.{some_counted}
use Rattle.m17_replay.proofs.counts.Counts.count.Goals as goal

pub returns-in-Some : goal.returns-in-Some
returns-in-Some c before short h =
    some_counted c.self.inside.0 before (c.args.l.now, c.args.v.now) c.in-Some.kind
    c.place-place.result c.saturating_add.result (sym c.kind_of.ensures ∙ c.in-Some.is)
    c.place-place.ensures.value c.place-place.ensures.within c.saturating_add.ensures short
    (subst (λ counts. CountsAre counts before) (sym c.self.view_is) h)
