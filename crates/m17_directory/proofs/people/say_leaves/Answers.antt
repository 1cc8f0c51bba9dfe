use Rattle.std.proofs.Common.{sym, ◌∙◌}
use Rattle.m17_directory.specs.Outcome.{leave}
use Rattle.m17_directory.specs.Steps.{is_among}
use Rattle.m17_directory.proofs.Filters.{posted_less, departing_less}
use Rattle.m17_directory.proofs.people.say_leaves.Goals as goal

pub tell-requires : goal.tell-requires
tell-requires c =
    posted_less (leave c.args.stamp.now c.args.why) (is_among c.args.whom.now) c.args.rows.now c.loop-known.known-index c.known-item.result c.args.post.now c.loop-known.post 300 c.loop-known-test.true c.known-item.is (sym c.has.ensures ∙ c.if-has.true) c.loop-known.invariant.told c.requires.room

pub put-requires : goal.put-requires
put-requires c =
    departing_less (is_among c.args.whom.now) c.args.rows.now c.loop-known.known-index c.args.departing.now c.loop-known.departing 512 c.loop-known-test.true c.loop-known.invariant.left c.requires.members
