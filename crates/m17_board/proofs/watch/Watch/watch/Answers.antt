use Rattle.m17_board.specs.Shows.{shown_of, not_yet}
use Rattle.m17_board.proofs.Looks.{quit_after}
use Rattle.m17_board.proofs.watch.Watch.watch.Goals as goal

pub returns-then-hears_quit : goal.returns-then-hears_quit
returns-then-hears_quit g c = record {
  modules_are = c.loop.invariant.modules_are;
  watched = c.loop.invariant.looked (shown_of c.args.self.now) not_yet;
  quit = quit_after c.args.self.now.order c.loop.self.order c.hears_quit.new.orders c.loop.invariant.passed c.if-hears_quit.ensures;
}
