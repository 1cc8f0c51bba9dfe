-- Where fewer are known than there are places, some place is free.
use Rattle.std.proofs.Common.{◌≡◌, ◌||◌, ℕ, zero, suc, ◌<◌, ◌≤◌, Bool, true, false, not, cond, List, [], ◌∷◌, length, filter, refl, ap, sym, ◌∙◌, arith}
use Rattle.std.specs.List.{list_any}
use Rattle.std.proofs.lemmas.Bool.{false≢true, eqb-true}
use Rattle.m17_directory.specs.declared.known.Known.{Known}
use Rattle.m17_directory.specs.Outcome.{has_place}

-- those that don't have the place
others : ℕ → List Known → List Known
others place rows = filter (λ k. not (has_place place k)) rows

fewer_by : (b : Bool) (k : Known) (rest rows : List Known) → length rest ≤ length rows → length (cond (not b) (k ∷ rest) rest) ≤ suc (length rows)
fewer_by true k rest rows h = omega arith
fewer_by false k rest rows h = omega arith

no_more : (place : ℕ) (rows : List Known) → length (others place rows) ≤ length rows
unfolding others
no_more place [] = omega arith
no_more place (k ∷ rows) = fewer_by (has_place place k) k (others place rows) rows (no_more place rows)

one_less_by : (place : ℕ) (b : Bool) (k : Known) (rest rows : List Known) → length rest ≤ length rows → (b || list_any (has_place place) rows) ≡ true → (list_any (has_place place) rows ≡ true → length rest < length rows) → length (cond (not b) (k ∷ rest) rest) < suc (length rows)
one_less_by place true k rest rows h e ih = omega arith
one_less_by place false k rest rows h e ih = omega (arith, ih e)

one_less : (place : ℕ) (rows : List Known) → list_any (has_place place) rows ≡ true → length (others place rows) < length rows
unfolding others
one_less place [] e = absurd (false≢true e)
one_less place (k ∷ rows) e = one_less_by place (has_place place k) k (others place rows) rows (no_more place rows) e (one_less place rows)

-- another place is still had by the others
kept_by : (place lower : ℕ) (k : Known) (b c : Bool) (rest : List Known) → (b ≡ true → c ≡ true → lower ≡ place) → (lower ≡ place → ⊥) → c ≡ has_place lower k → (rows : List Known) → (c || list_any (has_place lower) rows) ≡ true → (list_any (has_place lower) rows ≡ true → list_any (has_place lower) rest ≡ true) → list_any (has_place lower) (cond (not b) (k ∷ rest) rest) ≡ true
kept_by place lower k true true rest same other ck rows e ih = absurd (other (same refl refl))
kept_by place lower k true false rest same other ck rows e ih = ih e
kept_by place lower k false true rest same other ck rows e ih = ap (λ b. b || list_any (has_place lower) rest) (sym ck)
kept_by place lower k false false rest same other ck rows e ih = ap (λ b. b || list_any (has_place lower) rest) (sym ck) ∙ ih e

still_had : (place lower : ℕ) → (lower ≡ place → ⊥) → (rows : List Known) → list_any (has_place lower) rows ≡ true → list_any (has_place lower) (others place rows) ≡ true
unfolding others
still_had place lower other [] e = absurd (false≢true e)
still_had place lower other (k ∷ rows) e =
    kept_by place lower k (has_place place k) (has_place lower k) (others place rows)
    (λ at below. sym (eqb-true k.member.place lower below) ∙ eqb-true k.member.place place at) other refl rows e (still_had place lower other rows)

-- As many are known as there are places, where each place is had.
pub places_had : (places : ℕ) (rows : List Known) → ((lower : ℕ) → lower < places → list_any (has_place lower) rows ≡ true) → places ≤ length rows
places_had zero rows had = omega arith
places_had (suc n) rows had =
    let fewer : n ≤ length (others n rows) = places_had n (others n rows) (λ lower below. still_had n lower (λ e. omega arith) rows (had lower (omega arith))) in
    omega (arith, one_less n rows (had n (omega arith)))
