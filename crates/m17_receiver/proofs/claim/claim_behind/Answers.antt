use Rattle.std.proofs.Common.{◌≡◌, ◌<◌, ◌++◌, ℕ, List, IfSome, ap, subst, ◌∙◌}
use Rattle.std.specs.Option.{option_to_list}
use Rattle.m17_values.specs.declared.member.Member.{Member}
use Rattle.m17_receiver.specs.SoFar.{refused_by}
use Rattle.m17_receiver.proofs.claim.claim_behind.Goals as goal

pub returns-clause-taken : goal.returns-clause-taken
returns-clause-taken g c = λ known.
    let one = c.claim_once.ensures known in
    let was = c.look_behind.ensures in
    record {
      claims = one.claims ∙ ap (λ (ms : List Member). ms ++ option_to_list c.claim_once.result) was.lists.0;
      given = one.given ∙ was.lists.1;
      refused = λ e. one.refused e ∙ ap (λ (ns : List ℕ). ns ++ refused_by c.args.asker c.claim_once.result) was.lists.2;
      unknown = one.unknown;
      in_roll = subst (λ (n : ℕ). IfSome c.claim_once.result (λ m. m.place < n)) was.seat.2 one.in_roll;
      seat = (one.seat.0 ∙ was.seat.0, one.seat.1 ∙ was.seat.1, one.seat.2 ∙ was.seat.2);
    }

pub returns-clause-behind : goal.returns-clause-behind
returns-clause-behind g c = (c.look_behind.new.seat, c.look_behind.ensures.freed, c.look_behind.ensures.unlooked, c.claim_once.ensures)
