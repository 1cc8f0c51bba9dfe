use Rattle.std.proofs.Common.{[], ◌∷◌, ◌++◌, ap, ◌∙◌, arith}
use Rattle.m17_board.specs.Whole.{FeedKept}
use Rattle.m17_board.proofs.Feeds.{header_turn}
use Rattle.m17_board.proofs.feed.Feed.take_header.Goals as goal

pub returns : goal.returns
returns c taken posted h =
    header_turn c.args.self.now c.push.new.self.items c.as_slice.result.now taken c.args.byte posted c.is_header.result c.behind-self-inside.result c.clear.new.self.items c.requires
    (c.push.ensures.items ∙ ap (λ (f : FeedKept). f.held ++ c.args.byte ∷ []) c.self.view_is) c.as_slice.ensures.value (omega (arith, c.len.ensures.value, c.if-len-lt-HEADER_BYTES.false))
    c.is_header.ensures c.behind-self-inside.ensures c.clear.ensures h
