use Rattle.std.proofs.Common.{◌≡◌, ◌≤◌, [], length, filter, ap, sym, ◌∙◌, arith}
use Rattle.m17_control.specs.declared.event.Why.TheVariants.{Silent}
use Rattle.m17_directory.specs.Outcome.{leave}
use Rattle.m17_directory.specs.Routed.{is_silent}
use Rattle.m17_directory.specs.Steps.{Lists}
use Rattle.m17_directory.proofs.Filters.{room_for, few_told, left_none}
use Rattle.m17_directory.proofs.people.People.silence.Goals as goal

pub leave-requires : goal.leave-requires
leave-requires c =
    let few : length c.args.self.now.known ≤ 256 = omega (arith, c.self.invariant.few, ap (λ (l : Lists). length l.known) c.self.view_is) in
    room_for (is_silent c.moment-moment.result) c.args.self.now.known c.args.post.now few c.requires

pub returns-then-may_be_silent-clause-few : goal.returns-then-may_be_silent-clause-few
returns-then-may_be_silent-clause-few c =
    let few : length c.args.self.now.known ≤ 256 = omega (arith, c.self.invariant.few, ap (λ (l : Lists). length l.known) c.self.view_is) in
    few_told (leave c.args.stamp.now Silent) (is_silent c.moment-moment.result) c.args.self.now.known c.args.post.now c.leave.new.post few c.requires c.leave.ensures.told

pub returns-else-may_be_silent-clause-left : goal.returns-else-may_be_silent-clause-left
returns-else-may_be_silent-clause-left c =
    let old = c.args.self.now in
    let none : filter (is_silent c.args.stamp.now.moment) old.known ≡ [] =
    ap (λ m. filter (is_silent m) old.known) (sym c.moment-moment.ensures)
    ∙ ap (λ (l : Lists). filter (is_silent c.moment-moment.result) l.known) (sym c.self.view_is)
    ∙ c.may_be_silent.ensures c.if-may_be_silent.false in
    left_none (is_silent c.args.stamp.now.moment) old none
