use Rattle.std.proofs.Common.{◌≡◌, ◌+◌, List, ◌++◌, ◌∷◌, [], All, Some, cond, is_ok, vec_len, sym, subst, ap, ◌∙◌}
use Rattle.std.proofs.lemmas.List.Elements.{All-push}
use Rattle.m17_port_memory.specs.declared.list_book.ListBook.{ListBook}
use Rattle.m17_ports.specs.Told.{StartsEmpty}
use Rattle.m17_run_tests.proofs.most_tests.books.Goals as goal

-- what holds of each of some, and of one more, holds of each with that one behind them
one-more : {X : Type 0} (P : X → Type 0) (xs ys : List X) (x : X) → ys ≡ xs ++ x ∷ [] → All P xs → P x → All P ys
one-more P xs ys x is each new = subst (All P) (sym is) (All-push P xs x each new)

pub loop-made-preserved : goal.loop-made-preserved
loop-made-preserved g c =
    let now = c.loop-made in record {
      count = c.push.ensures.len ∙ ap (λ made. cond (is_ok made) (vec_len now.books + 1) (vec_len now.books)) c.must.ensures ∙ ap (λ n. n + 1) now.invariant.count;
      new = one-more (λ (book : ListBook). StartsEmpty (Some book.written)) now.books.items c.push.new.self.items c.book.result
          (c.push.ensures.items ∙ ap (λ made. cond (is_ok made) (now.books.items ++ c.book.result ∷ []) now.books.items) c.must.ensures)
          now.invariant.new c.book.ensures;
    }
