use Rattle.std.proofs.Common.{sym, ap, ◌∙◌}
use Rattle.m17_board.specs.Whole.{FeedKept}
use Rattle.m17_board.proofs.Feeds.{refused_turn}
use Rattle.m17_board.proofs.feed.Feed.take_in.Goals as goal

pub returns-in-Refused : goal.returns-in-Refused
returns-in-Refused c taken posted h = refused_turn c.args.self.now taken c.args.byte posted (ap (λ (f : FeedKept). f.stage) (sym c.self.view_is) ∙ c.in-Refused.is) h
