use Rattle.std.proofs.Common.{[], ◌∷◌, ◌++◌, length, ap, ◌∙◌, arith, length-append}
use Rattle.m17_board.specs.Whole.{FeedKept}
use Rattle.m17_board.proofs.Feeds.{record_turn, record_short, record_long}
use Rattle.m17_board.proofs.feed.Feed.take_record.Goals as goal

pub returns-in-Some : goal.returns-in-Some
returns-in-Some c taken posted h =
    record_turn c.args.self.now c.push.new.self.items c.as_slice.result.now taken c.args.byte posted c.in-Some.one _ c.clear.new.self.items c.requires
    (c.push.ensures.items ∙ ap (λ (f : FeedKept). f.held ++ c.args.byte ∷ []) c.self.view_is) c.as_slice.ensures.value ((c.read_whole.ensures.spelled c.in-Some.one).0 c.in-Some.is)
    (ap (λ (f : FeedKept). f.stage) c.self.view_is) c.clear.ensures h

pub returns-then-len-lt-MOST_BYTES : goal.returns-then-len-lt-MOST_BYTES
returns-then-len-lt-MOST_BYTES c taken posted h =
    record_short c.args.self.now c.push.new.self.items c.as_slice.result.now taken c.args.byte posted _ c.requires
    (c.push.ensures.items ∙ ap (λ (f : FeedKept). f.held ++ c.args.byte ∷ []) c.self.view_is) c.as_slice.ensures.value
    (λ one s. c.in_default.not-Some one ((c.read_whole.ensures.spelled one).1 s)) (ap (λ (f : FeedKept). f.stage) c.self.view_is) h

pub returns : goal.returns
returns c taken posted h =
    record_long c.args.self.now c.push.new.self.items c.as_slice.result.now taken c.args.byte posted c.clear-2.new.self.items c.requires
    (c.push.ensures.items ∙ ap (λ (f : FeedKept). f.held ++ c.args.byte ∷ []) c.self.view_is) c.as_slice.ensures.value
    (λ one s. c.in_default.not-Some one ((c.read_whole.ensures.spelled one).1 s))
    (omega (arith, c.len.ensures.value, c.if-len-lt-MOST_BYTES.false, c.self.invariant, ap length c.push.ensures.items, length-append c.self.inside.held.items (c.args.byte ∷ []))) h
