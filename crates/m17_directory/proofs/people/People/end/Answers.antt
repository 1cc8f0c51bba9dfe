use Rattle.std.proofs.Common.{true, List, [], ◌++◌, ◌≤◌, length, map, filter, ap, ◌∙◌, arith}
use Rattle.m17_control.specs.declared.event.Body.TheVariants as body
use Rattle.m17_control.specs.declared.event.Why.TheVariants.{Stopped}
use Rattle.m17_directory.specs.declared.known.Known.{Known}
use Rattle.m17_directory.specs.Outcome.{leave, to_each_module}
use Rattle.m17_directory.specs.StandsFor.{with_left}
use Rattle.m17_directory.specs.Steps.{Lists}
use Rattle.m17_directory.proofs.Filters.{all_pass, none_pass, room_for, few_told}
use Rattle.m17_directory.proofs.people.People.end.Goals as goal

pub leave-requires : goal.leave-requires
leave-requires c =
    let few : length c.args.self.now.known ≤ 256 = omega (arith, c.self.invariant.few, ap (λ (l : Lists). length l.known) c.self.view_is) in
    room_for (λ k. true) c.args.self.now.known c.args.post.now few c.requires

pub tell_each-requires : goal.tell_each-requires
tell_each-requires c =
    let few : length c.args.self.now.known ≤ 256 = omega (arith, c.self.invariant.few, ap (λ (l : Lists). length l.known) c.self.view_is) in
    omega (arith, few_told (leave c.args.stamp.now Stopped) (λ k. true) c.args.self.now.known c.args.post.now c.leave.new.post few c.requires c.leave.ensures.told)

pub returns-clause-posts : goal.returns-clause-posts
returns-clause-posts c =
    c.tell_each.ensures.told
    ∙ ap (λ ps. ps ++ to_each_module c.args.stamp.now body.Stop)
    (c.leave.ensures.told
    ∙ ap (λ ps. ps ++ map (leave c.args.stamp.now Stopped) (filter (λ k. true) c.args.self.now.known)) c.requires
    ∙ ap (map (leave c.args.stamp.now Stopped)) (all_pass c.args.self.now.known))

pub returns-clause-left : goal.returns-clause-left
returns-clause-left c =
    let old = c.args.self.now in
    let lists : List Known → List Known → Lists = λ ks ls. record { known = ks; asked = old.asked; departing = with_left old.departing ls } in
    c.leave.ensures.left
    ∙ ap (λ ks. lists ks (filter (λ k. true) old.known)) (none_pass old.known)
    ∙ ap (lists []) (all_pass old.known)
