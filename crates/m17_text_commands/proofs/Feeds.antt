-- Line feeds in lists of bytes, and the lines that they end.
use Rattle.std.proofs.Common.{◌≡◌, ℕ, suc, ◌+◌, ◌<◌, ◌==◌, Bool, true, false, cond, List, [], ◌∷◌, ◌++◌, length, take, get_or, Option, None, Some, refl, sym, ap, subst, ◌∙◌, arith}
use Rattle.std.specs.Prelude.{MatchOption}
use Rattle.std.specs.List.{sum_by}
use Rattle.std.proofs.lemmas.List.{get_or-take, length-take}
use Rattle.std.proofs.lemmas.List.Sums.{sum_by-cons, sum_by-append}
use Rattle.std.proofs.lemmas.Bool.{eqb-true}
use Rattle.memchr.specs.Find.{IsFirstByte, is_byte}
use Rattle.m17_text_commands.specs.Lines.{lines_of, begin_first, AreEnded}
use Rattle.m17_text_commands.specs.Reading.{HasNoFeed, BeginsWithLine}

-- a byte that ends a line counts as one
abbrev one_if : Bool → ℕ
one_if b = cond b 1 0

abbrev ends_line : ℕ → ℕ
ends_line byte = one_if (byte == 10)

-- bytes without a line feed
none_ends : (byte : ℕ) → (byte == 10 ≡ true → ⊥) → ends_line byte ≡ 0
none_ends byte h = elim (byte == 10) as (λ (b : Bool). (b ≡ true → ⊥) → one_if b ≡ 0) [ true ↦ λ k. absurd (k refl) | false ↦ λ k. refl ] h

no_feed_from : (xs : List ℕ) → ((k : ℕ) → k < length xs → get_or xs k 0 == 10 ≡ true → ⊥) → HasNoFeed xs
no_feed_from [] h = refl
no_feed_from (x ∷ xs) h =
    let here = none_ends x (h 0 (omega arith)) in
    let after = no_feed_from xs (λ k below. h (suc k) (omega arith)) in
    let sum = sum_by-cons ends_line x xs in
    omega arith

-- the first line feed
pub first_feed : (xs : List ℕ) (r : Option ℕ) → IsFirstByte (is_byte 10) xs r → MatchOption r (HasNoFeed xs) (BeginsWithLine xs)
first_feed xs None h = no_feed_from xs (λ k below. h k (omega arith) below)
first_feed xs (Some size) h = record {
  within = h.0.high;
  no_feed = no_feed_from (take size xs) (λ k below.
      let inside : k < size = omega (arith, length-take size xs) in
      let same : get_or (take size xs) k 0 ≡ get_or xs k 0 = get_or-take size xs k 0 inside in
      let P : ℕ → Type 0 = λ byte. byte == 10 ≡ true → ⊥ in
      subst P (sym same) (h.0.before k (omega arith) inside));
  feed = eqb-true (get_or xs size 0) 10 h.1;
}

-- a byte before bytes without a line feed
no_feed_tail : (x : ℕ) (xs : List ℕ) → HasNoFeed (x ∷ xs) → (x == 10 ≡ false) × HasNoFeed xs
no_feed_tail x xs h =
    let sum = sum_by-cons ends_line x xs in
    let here : ends_line x ≡ 0 = omega arith in
    let after : HasNoFeed xs = omega arith in
    (elim (x == 10) as (λ (b : Bool). one_if b ≡ 0 → b ≡ false) [ true ↦ λ k. absurd (omega arith) | false ↦ λ k. refl ] here, after)

-- the line feeds before a line, and the one after it
pub ended_more : (before line : List ℕ) (count : ℕ) → AreEnded before count → HasNoFeed line → AreEnded (before ++ (line ++ 10 ∷ [])) (count + 1)
ended_more before line count ended none =
    let whole = sum_by-append ends_line before (line ++ 10 ∷ []) in
    let last = sum_by-append ends_line line (10 ∷ []) in
    let one : sum_by ends_line (10 ∷ []) ≡ 1 = refl in
    omega arith

pub ended_same : (before rest : List ℕ) (count : ℕ) → AreEnded before count → HasNoFeed rest → AreEnded (before ++ rest) count
ended_same before rest count ended none =
    let whole = sum_by-append ends_line before rest in
    omega arith

-- one byte that ends no line before lines
lines_of-byte : (x : ℕ) (xs : List ℕ) → x == 10 ≡ false → lines_of (x ∷ xs) ≡ begin_first x (lines_of xs)
unfolding lines_of
lines_of-byte x xs differs = rw differs refl

-- a line, its line feed, and other lines
pub lines_of-line : (line rest : List ℕ) → HasNoFeed line → lines_of (line ++ 10 ∷ rest) ≡ line ∷ lines_of rest
unfolding lines_of
lines_of-line [] rest h = refl
lines_of-line (x ∷ line) rest h =
    let parts = no_feed_tail x line h in
    lines_of-byte x (line ++ 10 ∷ rest) parts.0 ∙ ap (begin_first x) (lines_of-line line rest parts.1)

pub lines_of-none : lines_of [] ≡ []
unfolding lines_of
lines_of-none = refl

-- a last line with no line feed
pub lines_of-last : (x : ℕ) (line : List ℕ) → HasNoFeed (x ∷ line) → lines_of (x ∷ line) ≡ (x ∷ line) ∷ []
lines_of-last x [] h = lines_of-byte x [] (no_feed_tail x [] h).0 ∙ ap (begin_first x) lines_of-none
lines_of-last x (y ∷ line) h =
    let parts = no_feed_tail x (y ∷ line) h in
    lines_of-byte x (y ∷ line) parts.0 ∙ ap (begin_first x) (lines_of-last y line parts.1)

-- a first line that begins with a byte
begins_first : (x : ℕ) (lines : List (List ℕ)) → (more : List ℕ) × (after : List (List ℕ)) × (begin_first x lines ≡ (x ∷ more) ∷ after)
begins_first x [] = ([], [], refl)
begins_first x (line ∷ lines) = (line, lines, refl)

-- bytes without a line feed begin a line
pub lines_of-begun : (x : ℕ) (line rest : List ℕ) → HasNoFeed (x ∷ line)
    → (more : List ℕ) × (after : List (List ℕ)) × (lines_of ((x ∷ line) ++ rest) ≡ ((x ∷ line) ++ more) ∷ after)
lines_of-begun x [] rest h =
    let first = begins_first x (lines_of rest) in
    (first.0, first.1, lines_of-byte x rest (no_feed_tail x [] h).0 ∙ first.2)
lines_of-begun x (y ∷ line) rest h =
    let parts = no_feed_tail x (y ∷ line) h in
    let tail = lines_of-begun y line rest parts.1 in
    (tail.0, tail.1, lines_of-byte x ((y ∷ line) ++ rest) parts.0 ∙ ap (begin_first x) tail.2)

-- where a byte is, a line is
some_first : (x : ℕ) (lines : List (List ℕ)) → 0 < length (begin_first x lines)
some_first x [] = omega arith
some_first x (line ∷ lines) = omega arith

pub some_line : (x : ℕ) (rest : List ℕ) → 0 < length (lines_of (x ∷ rest))
unfolding lines_of
some_line x rest = elim (x == 10) as (λ (b : Bool). 0 < length (cond b ([] ∷ lines_of rest) (begin_first x (lines_of rest)))) [ true ↦ omega arith | false ↦ some_first x (lines_of rest) ]
