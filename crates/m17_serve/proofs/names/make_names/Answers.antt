use Rattle.std.proofs.Common.{ℕ, List, ◌++◌, length, map, string_bytes, sym, ap, ap₂, ◌∙◌}
use Rattle.std.specs.List.{range_with_len}
use Rattle.std.specs.Option.{option_map}
use Rattle.m17_ports.specs.declared.question.Question.TheVariants.{Book}
use Rattle.m17_serve.specs.Asked.{book_name, shelf_questions, trace_name}
use Rattle.m17_serve.proofs.names.make_names.Goals as goal

pub returns-in_ok-books-in-Some : goal.returns-in_ok-books-in-Some
returns-in_ok-books-in-Some c =
    let order = c.args.order.now in
    let traces = c.in_ok-traces-in-Some.ensures.names
    ∙ ap₂ (λ (folder : List ℕ) (count : ℕ). map (trace_name folder) (range_with_len 0 count)) c.as_str.ensures.value c.len.ensures in
    let books = c.in_ok-books-in-Some.ensures.names
    ∙ ap₂ (λ (folder letters : List ℕ). map (book_name folder) letters) c.as_str-in-Some.ensures.value c.requires.letters in
    record {
      questions = ap (λ o. shelf_questions order (option_map string_bytes o)) c.in-Some.is
          ∙ ap₂ (λ (a b : List (List ℕ)). map Book a ++ map Book b) (sym traces) (sym books);
      traces = λ _. c.in_ok-traces-in-Some.ensures.count ∙ c.len.ensures;
      books = λ _. c.in_ok-books-in-Some.ensures.count ∙ ap (λ (l : List ℕ). length l) c.requires.letters;
    }
