use Rattle.std.proofs.Common.{◌≡◌, None, ap, sym, ◌∙◌}
use Rattle.m17_directory.specs.Routed.{row_for}
use Rattle.m17_directory.specs.Steps.{Lists}
use Rattle.m17_directory.proofs.Heard.{come_to_other}
use Rattle.m17_directory.proofs.people.People.packet.Goals as goal

pub returns-in-Err : goal.returns-in-Err
returns-in-Err c =
    let none : row_for c.args.from.now c.args.self.now.known ≡ None = ap (λ (l : Lists). row_for c.args.from.now l.known) (sym c.self.view_is) ∙ c.in-Err.ensures.none in
    come_to_other c.args.stamp.now c.args.from.now c.args.packet.now c.args.self.now c.of_other.new.self c.args.post.now c.of_other.new.post c.of_other.new.verdict
    c.of_other.ensures.known c.of_other.ensures.departing c.of_other.ensures.asked c.of_other.ensures.posts c.of_other.ensures.verdict
    (row_for c.args.from.now c.args.self.now.known) none none
