use Rattle.m17_book.proofs.SeenBook.{seen_more}
use Rattle.m17_book.proofs.checker.Checker.see.Goals as goal

pub returns : goal.returns
returns c = λ limit records seen few.
    seen_more c.books_are_judged_act_by_act.ensures.later c.books_are_judged_act_by_act.ensures.within limit c.args.self.now c.next.new.self c.next.result records c.args.one.now
    (λ has. c.next.ensures.checks limit records has few) c.next.ensures.broken c.next.ensures.again seen
