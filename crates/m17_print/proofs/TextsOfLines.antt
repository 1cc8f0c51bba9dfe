-- A text that is a line for each item: none, one more, the same lines, a first part, and that there is one.
use Rattle.std.proofs.Common.{◌≡◌, ℕ, suc, ◌+◌, ◌<◌, List, [], ◌∷◌, ◌++◌, length, take, drop, slice_get, Some, unwrap_or, refl, sym, ap, subst, ◌∙◌, arith, append_assoc, inl, inr, length-append}
use Rattle.std.proofs.lemmas.Option.{slice_get-get_or}
use Rattle.std.proofs.lemmas.List.{append-nil, length_push, get_or_at, flat_map_more, take-append-drop}
use Rattle.std.proofs.lemmas.Bool.{cases_lt}
use Rattle.m17_lists.proofs.Places.{what_stands_stays}
use Rattle.m17_print.specs.Texts.{joined_lines, IsTextOf, BeginsTextOf}

-- what stands after so many in a list
pub slice_get_after : {X : Type 0} (xs : List X) (y : X) (ys : List X) (n : ℕ) → length xs ≡ n
    → slice_get (xs ++ y ∷ ys) n ≡ Some y
slice_get_after xs y ys n size =
    slice_get-get_or (xs ++ y ∷ ys) n y (omega (arith, length-append xs (y ∷ ys)))
    ∙ ap Some (get_or_at xs y ys y n size)

-- no line yet
pub no_lines : (has_line : ℕ → List ℕ → Type 0) → IsTextOf has_line 0 []
no_lines has_line = record {
  lines = [];
  lines_count = refl;
  each = λ n below. absurd (omega arith);
  joined = refl;
}

-- lines of an item under one rule that are its lines under another
pub same_lines : (old new : ℕ → List ℕ → Type 0) (count : ℕ) (text : List ℕ)
    → ((n : ℕ) (line : List ℕ) → n < count → old n line → new n line) → IsTextOf old count text → IsTextOf new count text
same_lines old new count text keeps is = record {
  lines = is.lines;
  lines_count = is.lines_count;
  each = λ n below. let one = is.each n below in (one.0, one.1, keeps n one.0 below one.2);
  joined = is.joined;
}

-- one more line
pub one_more_line : (has_line : ℕ → List ℕ → Type 0) (count : ℕ) (text line : List ℕ) → IsTextOf has_line count text
    → has_line count line → IsTextOf has_line (count + 1) (text ++ line)
one_more_line has_line count text line is newest = record {
  lines = is.lines ++ line ∷ [];
  lines_count = length_push is.lines line ∙ ap (λ n. n + 1) is.lines_count;
  each = λ n below. elim (cases_lt n count) [
    | inl earlier ↦
        let old = is.each n earlier in (old.0, what_stands_stays is.lines (line ∷ []) n old.0 old.1, old.2)
    | inr later ↦
        let same : count ≡ n = omega arith in (
          line,
          slice_get_after is.lines line [] n (is.lines_count ∙ same),
          subst (λ (k : ℕ). has_line k line) same newest,
        )
  ];
  joined = ap (λ xs. xs ++ line) is.joined ∙ flat_map_more (λ (xs : List ℕ). xs) [] is.lines line;
}

-- all of a text is a first part of it
pub whole_part : (has_line : ℕ → List ℕ → Type 0) (count : ℕ) (text : List ℕ) → IsTextOf has_line count text
    → BeginsTextOf has_line count text
whole_part has_line count text is = record { whole = text; after = []; is_text = is; begins = sym (append-nil text) }

-- a text, and a first part of its next line
pub cut_line : (has_line : ℕ → List ℕ → Type 0) (count : ℕ) (text line : List ℕ) (n : ℕ)
    → IsTextOf has_line count text → has_line count line → BeginsTextOf has_line (count + 1) (text ++ take n line)
cut_line has_line count text line n is newest = record {
  whole = text ++ line;
  after = drop n line;
  is_text = one_more_line has_line count text line is newest;
  begins = ap (λ xs. text ++ xs) (sym (take-append-drop n line)) ∙ sym (append_assoc text (take n line) (drop n line));
}

-- two lists of so many elements that are equal place by place
pub equal_lists : {X : Type 0} (xs ys : List X) → length xs ≡ length ys
    → ((n : ℕ) → n < length xs → slice_get xs n ≡ slice_get ys n) → xs ≡ ys
equal_lists [] [] size same = refl
equal_lists [] (y ∷ ys) size same = absurd (omega arith)
equal_lists (x ∷ xs) [] size same = absurd (omega arith)
equal_lists (x ∷ xs) (y ∷ ys) size same =
    let first : x ≡ y = ap (λ o. unwrap_or o x) (same 0 (omega arith)) in
    let rest : xs ≡ ys = equal_lists xs ys (omega arith) (λ n below. same (suc n) (omega arith)) in
    ap (λ z. z ∷ xs) first ∙ ap (λ zs. y ∷ zs) rest

-- where each item has one line at the most, there is one text
pub one_text : (has_line : ℕ → List ℕ → Type 0) (count : ℕ) (a b : List ℕ)
    → ((n : ℕ) (one other : List ℕ) → n < count → has_line n one → has_line n other → one ≡ other)
    → IsTextOf has_line count a → IsTextOf has_line count b → a ≡ b
one_text has_line count a b one is_a is_b =
    let same : is_a.lines ≡ is_b.lines = equal_lists is_a.lines is_b.lines (is_a.lines_count ∙ sym is_b.lines_count) (λ n below.
    let within : n < count = omega (arith, is_a.lines_count) in
    let in_a = is_a.each n within in
    let in_b = is_b.each n within in
    in_a.1 ∙ ap Some (one n in_a.0 in_b.0 within in_a.2 in_b.2) ∙ sym in_b.1) in
    is_a.joined ∙ ap joined_lines same ∙ sym is_b.joined
