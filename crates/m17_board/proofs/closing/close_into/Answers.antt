use Rattle.std.proofs.Common.{length, ap, ◌∙◌, arith}
use Rattle.std.proofs.lemmas.List.{nil_from_length}
use Rattle.m17_board.proofs.Pairs.{closed_none, closed_more, last_pair, closed_glances, closed_saw}
use Rattle.m17_board.proofs.closing.close_into.Goals as goal

pub loop-poster-init : goal.loop-poster-init
loop-poster-init g c =
    let none = ap length c.requires.empty in
    (closed_none _ _ _ c.requires.board c.requires.empty, omega (arith, none, c.args.into.now.ok.0, c.requires.room))

pub close_pair-requires : goal.close_pair-requires
close_pair-requires g c =
    (last_pair c.loop-poster.posters.items c.pop.new.self.items c.in-Some.poster c.loop-poster.eyes.items c.pop-in-Some.new.self.items c.in-Some-pop.eye c.in-Some.ensures.items
    c.in-Some-pop.ensures.items c.loop-poster.invariant.0.left).1

pub loop-poster-preserved : goal.loop-poster-preserved
loop-poster-preserved g c = (
  closed_more c.args.posters.items c.loop-poster.posters.items c.pop.new.self.items c.in-Some.poster c.args.eyes.items c.loop-poster.eyes.items c.pop-in-Some.new.self.items c.in-Some-pop.eye
      c.loop-poster.into.items c.push_reserved.new.self.items c.close_pair.result c.loop-poster.invariant.0 c.in-Some.ensures.items c.in-Some-pop.ensures.items
      c.push_reserved.ensures.items c.close_pair.ensures.glance c.close_pair.ensures.seen,
  omega (arith, c.in-Some.ensures.len, c.push_reserved.ensures.len, c.push_reserved.ensures.capacity, c.loop-poster.invariant.1),
)

pub returns-clause-glances : goal.returns-clause-glances
returns-clause-glances g c =
    c.reverse.ensures.items ∙ closed_glances _ _ _ _ _ c.loop-poster.invariant.0 (nil_from_length c.loop-poster.posters.items (omega (arith, c.loop-poster.posters.ok.0, c.in_default.ensures.cases.0)))

pub returns-clause-seen : goal.returns-clause-seen
returns-clause-seen g c =
    closed_saw _ _ _ _ _ c.loop-poster.invariant.0 (nil_from_length c.loop-poster.posters.items (omega (arith, c.loop-poster.posters.ok.0, c.in_default.ensures.cases.0)))
