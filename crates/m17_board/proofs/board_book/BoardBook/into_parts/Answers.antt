use Rattle.std.proofs.Common.{◌≡◌, ℕ, List, Option, None, Some, subst}
use Rattle.std.proofs.lemmas.Option.{same_Some}
use Rattle.m17_ports.specs.Book.{BookTold}
use Rattle.m17_board.specs.Ends.{PostEnd}
use Rattle.m17_board.specs.Whole.{StandWhole, FeedKept, HasRead}
use Rattle.m17_board.specs.Kept.{BoardKept, IsInStep, told_or}
use Rattle.m17_board.proofs.Feeds.{reads_whole}
use Rattle.m17_board.proofs.board_book.BoardBook.into_parts.Goals as goal

-- what is told, or what was taken, is read
read_of : (feed : FeedKept) (poster : PostEnd) (o : Option (List ℕ)) (bytes : List ℕ) → told_or o poster.taken ≡ Some bytes → HasRead feed poster.taken poster.posted
    → ((all : List ℕ) → o ≡ Some all → HasRead feed all poster.posted) → HasRead feed bytes poster.posted
read_of feed poster None bytes is taken told = subst (λ (l : List ℕ). HasRead feed l poster.posted) (same_Some poster.taken bytes is) taken
read_of feed poster (Some all) bytes is taken told = told bytes is

shown : {B L : Type 0} (told : B → BookTold L) (b was : BoardKept B) → was ≡ b → IsInStep (told was.inner) was.feed was.poster
    → (bytes : List ℕ) → told_or (told b.inner).written b.poster.taken ≡ Some bytes → (told b.inner).faults ≡ 0 → StandWhole bytes b.poster.posted
shown {B} told b was e h =
    subst (λ (x : BoardKept B). (bytes : List ℕ) → told_or (told x.inner).written x.poster.taken ≡ Some bytes → (told x.inner).faults ≡ 0 → StandWhole bytes x.poster.posted) e
    (λ bytes w none. reads_whole was.feed.stage was.feed.held bytes was.poster.posted
    (read_of was.feed was.poster (told was.inner).written bytes w h.0 (λ all told_is. h.1 all told_is none)))

pub returns-clause-posted : goal.returns-clause-posted
returns-clause-posted g c = shown g.B.Book.told c.args.self _ c.self.view_is c.self.invariant
