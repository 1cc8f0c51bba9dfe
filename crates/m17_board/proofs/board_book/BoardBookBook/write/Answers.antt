use Rattle.std.proofs.Common.{◌≡◌, ℕ, List, ◌++◌, sym, subst}
use Rattle.m17_board.specs.Ends.{PostEnd}
use Rattle.m17_board.specs.Whole.{HasRead}
use Rattle.m17_board.specs.Kept.{BoardKept, HasTaken}
use Rattle.m17_board.proofs.Feeds.{reads_whole}
use Rattle.m17_board.proofs.board_book.BoardBookBook.write.Goals as goal

more_taken : {B : Type 0} (now was after : BoardKept B) (taken bytes : List ℕ) → was ≡ now
    → ((t : List ℕ) → HasRead was.feed t was.poster.posted → HasRead after.feed (t ++ bytes) after.poster.posted)
    → HasTaken now taken → HasTaken after (taken ++ bytes)
more_taken {B} now was after taken bytes e more h =
    let read = more taken (subst (λ (x : BoardKept B). HasRead x.feed taken x.poster.posted) (sym e) h.read) in
    record { whole = reads_whole after.feed.stage after.feed.held (taken ++ bytes) after.poster.posted read; read = read }

pub returns-clause-taken : goal.returns-clause-taken
returns-clause-taken g c taken h = more_taken c.args.self.now _ _ taken c.args.bytes.now c.self.view_is
    (λ (t : List ℕ) read. subst (λ (p : PostEnd). HasRead c.feed_all.new.feed (t ++ c.args.bytes.now) p.posted) (sym c.take.ensures)
    (c.feed_all.ensures.read t read)) h
