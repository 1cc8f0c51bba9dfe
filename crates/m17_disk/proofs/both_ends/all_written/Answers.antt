use Rattle.std.proofs.Common.{rules, ◌≡◌, ℕ, List, [], ◌∷◌, ◌++◌, Option, refl, ap, subst, ◌∙◌}
use Rattle.std.specs.Prelude.{MatchOption}
use Rattle.m17_lane.specs.Ends.{PushEnd}
use Rattle.m17_lane.specs.Orders.{items_of}
use Rattle.m17_disk.specs.Queue.{QueueKept, joined}
use Rattle.m17_disk.specs.Writing.{IsMarker}
use Rattle.m17_disk.proofs.Marks.{from_book, first_of, two_ends}
use Rattle.m17_disk.proofs.Texts.{first_part}
use Rattle.m17_disk.proofs.both_ends.all_written.Given as given
use Rattle.m17_disk.proofs.both_ends.all_written.Goals as goal

-- what the book handed over has the bytes of what was pushed
same_bytes : (g : given.Over) (c : goal.After-drop-book-inside-3 g)
    → joined c.args.book.slips.pushed ≡ joined (items_of c.finish-trail.result.order)
same_bytes g c =
    let m = subst (λ (o : Option (PushEnd (List ℕ))). MatchOption o ⊥ (IsMarker c.args.writer)) c.in-Some.is c.requires.marker in
    from_book c.push_reserved-2.new.self.items c.in-Some.marker c.args.book.slips c.finish-trail.result.logs c.finish-trail.result.popped
    c.finish-trail.ensures.whole.0 c.finish-trail.result.order c.finish-trail.ensures.logs
    (two_ends _ _ _ c.in-Some.marker _ c.args.book.slips _ c.in_ok-ends.ensures.items c.push_reserved.ensures.items
    c.push_reserved-2.ensures.items refl (ap (λ (b : QueueKept). b.slips) c.book.view_is))
    m.second c.requires.one_lane.first m.marks c.finish-trail.ensures.whole.1

-- and what the thread took is the first part of it
taken : (g : given.Over) (c : goal.After-drop-book-inside-3 g)
    → (rest : List ℕ) × (joined c.args.book.slips.pushed ≡ joined c.args.writer.slips.popped ++ rest)
taken g c =
    let w = c.finish-trail.ensures.whole in (
      joined w.0,
      first_of c.args.book.slips.pushed c.finish-trail.result.popped w.0 c.finish-trail.result.order (same_bytes g c) w.1.queued
          ∙ ap (λ (popped : List (List ℕ)). joined popped ++ joined w.0) c.finish-trail.ensures.popped,
    )

pub returns-clause-taken : goal.returns-clause-taken
returns-clause-taken g c = taken g c

pub returns-clause-first_part : goal.returns-clause-first_part
returns-clause-first_part g c = λ start h.
    let t = taken g c in
    first_part start (g.B.Book.told c.args.writer.book) (joined c.args.book.slips.pushed) (joined c.args.writer.slips.popped) t.0
    c.args.writer.failed t.1 h

pub returns-clause-all : goal.returns-clause-all
returns-clause-all g c = let same = same_bytes g c in search rules
