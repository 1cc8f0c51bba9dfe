use Rattle.std.proofs.Common.{◌==◌, ap, sym, ◌∙◌, arith}
use Rattle.m17_receiver.specs.Posting.{letter_at}
use Rattle.m17_receiver.proofs.Pushed.{pushed_there, pushed_past, pushed_nowhere}
use Rattle.m17_receiver.proofs.posting.push_event.Goals as goal

pub returns-then-at-len-clause-pushed : goal.returns-then-at-len-clause-pushed
returns-then-at-len-clause-pushed g c =
    c.push_in.ensures.row ∙ pushed_there c.known_laws.ensures c.args.modules c.args.letter c.args.event c.in-Some.at c.args.inboxes.now.items
    (λ m. ap (λ l. l == letter_at c.args.modules m) (sym c.byte.ensures.same) ∙ c.in-Some.ensures m)

pub returns-else-at-len-clause-pushed : goal.returns-else-at-len-clause-pushed
returns-else-at-len-clause-pushed g c =
    pushed_past c.known_laws.ensures c.args.modules c.args.letter c.args.event c.in-Some.at c.args.inboxes.now.items
    (λ m. ap (λ l. l == letter_at c.args.modules m) (sym c.byte.ensures.same) ∙ c.in-Some.ensures m)
    (omega (arith, c.if-at-len.false, c.len.ensures))

pub returns-in_default-clause-pushed : goal.returns-in_default-clause-pushed
returns-in_default-clause-pushed g c =
    pushed_nowhere c.known_laws.ensures c.args.modules c.args.letter c.args.event c.args.inboxes.now.items
    (λ m. ap (λ l. l == letter_at c.args.modules m) (sym c.byte.ensures.same) ∙ c.in_default.ensures m)
