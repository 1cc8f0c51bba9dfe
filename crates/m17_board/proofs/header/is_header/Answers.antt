use Rattle.std.proofs.Common.{◌≡◌, ℕ, ◌<◌, ◌^◌, List, get_or, sym, ap, ◌∙◌}
use Rattle.std.specs.Cmp.Lexicographic.{bytes_decides}
use Rattle.m17_fields.specs.Fields.{Fields64AreExact, be_64, field_at}
use Rattle.m17_book.specs.Versions.{book_header}
use Rattle.m17_book.specs.declared.version.Version.TheVariants.{Two}
use Rattle.m17_board.specs.Whole.{IsHeader}
use Rattle.m17_board.proofs.header.is_header.Goals as goal

-- what is spelled of the letter and the limit of a header is the header
spelled_again : Fields64AreExact → (b : List ℕ) (letter limit d : ℕ) → limit < 2 ^ 64 → letter ≡ get_or b 8 d → be_64 limit ≡ field_at 9 8 b → IsHeader b
    → b ≡ book_header Two record { «module» = letter; limit = limit }
spelled_again law b letter limit d fits l n is =
    let e = is.2 in
    let m : is.0.module ≡ letter = sym (l ∙ ap (λ (x : List ℕ). get_or x 8 d) e) in
    let k : is.0.limit ≡ limit = law.one_number is.0.limit limit is.1.1 fits (sym (n ∙ ap (field_at 9 8) e)) in
    e ∙ (λ i. book_header Two record { «module» = m i; limit = k i })

pub returns : goal.returns
returns c = (
  λ t. (
    record { «module» = c.in-Some.module; limit = c.get_64-limit.result },
    c.write_header-spelled.ensures.in_range,
    (bytes_decides c.args.b.now c.as_slice.result.now).0 (sym c.eq.ensures ∙ t) ∙ c.as_slice.ensures ∙ c.write_header-spelled.ensures.header,
  ),
  λ is. c.eq.ensures
      ∙ (bytes_decides c.args.b.now c.as_slice.result.now).1
      (spelled_again c.fields_of_64_bits_are_exact.ensures c.args.b.now c.in-Some.module c.get_64-limit.result _ c.write_header-spelled.ensures.in_range.1 c.in-Some.ensures.same c.get_64-limit.ensures is
      ∙ sym c.write_header-spelled.ensures.header ∙ sym c.as_slice.ensures),
)
