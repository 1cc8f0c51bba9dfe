use Rattle.std.proofs.Common.{◌≡◌, None, ◌∙◌, rules}
use Rattle.m17_floor.specs.Rule.{FloorState}
use Rattle.m17_floor.specs.StandsFor.{without}
use Rattle.m17_floor.proofs.Joins.{left_stands, taken_stands}
use Rattle.m17_floor.proofs.Standing.{state}
use Rattle.m17_floor.proofs.floor.Floor.left.Goals as goal

pub returns-then-eq-clause-by_leave : goal.returns-then-eq-clause-by_leave
returns-then-eq-clause-by_leave c =
    let freed : ◌≡◌ {A = FloorState} (state c.self.inside.limit None) (without c.args.m c.args.self.now) = search rules in
    λ setup acts at stands. freed ∙ left_stands setup acts at c.args.m c.args.self.now stands

pub returns-then-eq-clause-by_join : goal.returns-then-eq-clause-by_join
returns-then-eq-clause-by_join c =
    let freed : ◌≡◌ {A = FloorState} (state c.self.inside.limit None) (without c.args.m c.args.self.now) = search rules in
    λ setup acts at k only stands is_in same. freed ∙ taken_stands setup acts at c.args.m k only c.args.self.now is_in same stands

pub returns-in_default-clause-by_leave : goal.returns-in_default-clause-by_leave
returns-in_default-clause-by_leave c =
    let freed : c.args.self.now ≡ without c.args.m c.args.self.now = search rules in
    λ setup acts at stands. freed ∙ left_stands setup acts at c.args.m c.args.self.now stands

pub returns-in_default-clause-by_join : goal.returns-in_default-clause-by_join
returns-in_default-clause-by_join c =
    let freed : c.args.self.now ≡ without c.args.m c.args.self.now = search rules in
    λ setup acts at k only stands is_in same. freed ∙ taken_stands setup acts at c.args.m k only c.args.self.now is_in same stands
