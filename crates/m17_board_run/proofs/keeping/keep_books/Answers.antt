use Rattle.std.proofs.Common.{All, Bool, sym, subst, ◌∙◌}
use Rattle.m17_board_run.specs.Putting.{IsKept}
use Rattle.m17_board_run.proofs.Books.{kept_plain, over_plain, posters_none}
use Rattle.m17_board_run.proofs.keeping.keep_books.Goals as goal

pub returns-then-posts-clause-kept : goal.returns-then-posts-clause-kept
returns-then-posts-clause-kept g c = subst (λ (b : Bool). All (IsKept b) c.keep_posting.result.items) (sym c.if-posts.true) c.keep_posting.ensures.posting

pub returns-else-posts-clause-shelves : goal.returns-else-posts-clause-shelves
returns-else-posts-clause-shelves g c = over_plain c.keep_plain.result.items c.args.shelves.items c.keep_plain.ensures

pub returns-else-posts-clause-posters : goal.returns-else-posts-clause-posters
returns-else-posts-clause-posters g c =
    posters_none c.keep_plain.result.items (kept_plain c.keep_plain.result.items c.args.shelves.items c.keep_plain.ensures) ∙ sym (c.requires.no_posters c.if-posts.false)

pub returns-else-posts-clause-kept : goal.returns-else-posts-clause-kept
returns-else-posts-clause-kept g c =
    subst (λ (b : Bool). All (IsKept b) c.keep_plain.result.items) (sym c.if-posts.false) (kept_plain c.keep_plain.result.items c.args.shelves.items c.keep_plain.ensures)
