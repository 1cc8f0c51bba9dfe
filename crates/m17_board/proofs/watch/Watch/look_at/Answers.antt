use Rattle.std.proofs.Common.{rules, inl, inr, arith}
use Rattle.std.proofs.lemmas.Grind.{common_steps}
use Rattle.m17_board.specs.Shows.{shown_of}
use Rattle.m17_board.proofs.Looks.{look_quiet, look_written}
use Rattle.m17_board.proofs.watch.Watch.look_at.Goals as goal

pub returns-then-self-clause-looked : goal.returns-then-self-clause-looked
returns-then-self-clause-looked g c =
    look_quiet g.B.Book.told c.args.self.now.modules c.args.letter c.args.place (shown_of c.args.self.now) c.look_with-glance.new.eyes.items c.look_with-glance.result c.requires
    c.look_with-glance.ensures.looked (inl c.if-self.true)

pub returns-then-glance-index-clause-looked : goal.returns-then-glance-index-clause-looked
returns-then-glance-index-clause-looked g c =
    look_quiet g.B.Book.told c.args.self.now.modules c.args.letter c.args.place (shown_of c.args.self.now) c.look_with-glance.new.eyes.items c.look_with-glance.result c.requires
    c.look_with-glance.ensures.looked (inr (first_of (search rules, grind (arith, common_steps))))

pub returns-clause-looked : goal.returns-clause-looked
returns-clause-looked g c =
    look_written g.B.Book.told c.args.self.now.modules c.args.letter c.args.place (shown_of c.args.self.now) (shown_of c.write_line.new.self) c.look_with-glance.new.eyes.items c.look_with-glance.result
    c.requires c.look_with-glance.ensures.looked c.write_line.ensures.line
