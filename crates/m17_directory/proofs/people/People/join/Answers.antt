use Rattle.std.proofs.Common.{◌≤◌, length, ap, arith}
use Rattle.m17_control.specs.declared.event.Why.TheVariants.{Replaced}
use Rattle.m17_directory.specs.Outcome.{leave, has_place}
use Rattle.m17_directory.specs.Steps.{Lists}
use Rattle.m17_directory.proofs.Filters.{room_for, few_told, with_row_length, left_together}
use Rattle.m17_directory.proofs.people.People.join.Goals as goal

pub leave-requires : goal.leave-requires
leave-requires c =
    let few : length c.args.self.now.known ≤ 256 = omega (arith, c.self.invariant.few, ap (λ (l : Lists). length l.known) c.self.view_is) in
    room_for (has_place c.args.member.place) c.args.self.now.known c.args.post.now few c.requires.nothing_posted

pub tell-requires : goal.tell-requires
tell-requires c =
    let few : length c.args.self.now.known ≤ 256 = omega (arith, c.self.invariant.few, ap (λ (l : Lists). length l.known) c.self.view_is) in
    omega (arith, few_told (leave c.args.stamp.now Replaced) (has_place c.args.member.place) c.args.self.now.known c.args.post.now c.leave.new.post few c.requires.nothing_posted c.leave.ensures.told)

pub invariant_of-self : goal.invariant_of-self
invariant_of-self c =
    let old = c.args.self.now in
    let sum = left_together (has_place c.args.member.place) old in
    let known_left = ap (λ (l : Lists). length l.known) c.leave.ensures.left in
    let departing_left = ap (λ (l : Lists). length l.departing) c.leave.ensures.left in
    let known_here = ap (λ (l : Lists). length l.known) c.self-2.view_is in
    let departing_here = ap (λ (l : Lists). length l.departing) c.self-2.view_is in
    let put = ap length c.put.ensures in
    let longer = with_row_length c.known_as.result c.self-2.inside.known in
    record {
      few = omega (arith, c.requires.free, known_left, known_here, put, longer);
      together = omega (arith, c.requires.members, sum, known_left, departing_left, known_here, departing_here, put, longer);
    }
