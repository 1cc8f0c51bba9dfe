use Rattle.std.proofs.Common.{All, Bool, sym, subst, ◌∙◌, inl, inr}
use Rattle.m17_board_run.specs.Putting.{IsKept}
use Rattle.m17_board_run.proofs.Books.{posters_none}
use Rattle.m17_board_run.proofs.keeping.books_back.Goals as goal

pub posting_back-requires-clause-posting : goal.posting_back-requires-clause-posting
posting_back-requires-clause-posting g c = subst (λ (b : Bool). All (IsKept b) c.args.kept.items) c.if-posts.true c.requires.kept

pub returns-then-posts-clause-posted : goal.returns-then-posts-clause-posted
returns-then-posts-clause-posted g c = inr c.posting_back.ensures.posted

pub returns-else-posts-clause-posters : goal.returns-else-posts-clause-posters
returns-else-posts-clause-posters g c =
    c.requires.no_posters ∙ sym (posters_none c.args.kept.items (subst (λ (b : Bool). All (IsKept b) c.args.kept.items) c.if-posts.false c.requires.kept))

pub returns-else-posts-clause-posted : goal.returns-else-posts-clause-posted
returns-else-posts-clause-posted g c = inl c.requires.no_posters
