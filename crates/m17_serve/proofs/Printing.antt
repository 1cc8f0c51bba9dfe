-- Lines that are written one after another.
use Rattle.std.proofs.Common.{◌≡◌, ℕ, zero, suc, ◌+◌, ◌-◌, ◌<◌, List, [], ◌∷◌, ◌++◌, length, take, Option, Some, Result, Ok, Err, refl, sym, ap, subst, ◌∙◌, arith, inl, inr, append_assoc, append-nil}
use Rattle.std.specs.List.{flat_map, range_with_len}
use Rattle.std.proofs.lemmas.List.{take_all, take-append-le}
use Rattle.std.proofs.lemmas.List.Concat.{flat_map-append}
use Rattle.std.proofs.lemmas.Bool.{cases_lt}
use Rattle.m17_io.specs.Sink.{AppendsPrefix}
use Rattle.m17_print.specs.Endings.{Grows}
use Rattle.m17_serve.specs.Steps.{Prints}
use Rattle.m17_serve.proofs.Lists.{range_split}

-- so many of two texts that all of the first is among them
take_past : (n k : ℕ) (a b : List ℕ) → k ≡ length a + n → take k (a ++ b) ≡ a ++ take n b
take_past n k [] b e = let same : k ≡ n = omega arith in ap (λ (m : ℕ). take m b) same
take_past n zero (x ∷ a) b e = absurd (omega arith)
take_past n (suc k) (x ∷ a) b e = ap (λ (xs : List ℕ). x ∷ xs) (take_past n k a b (omega arith))

-- a first part of a text is a first part of a longer one
part_of_longer : (before a b : List ℕ) (written : Option (List ℕ)) → AppendsPrefix before a written → AppendsPrefix before (a ++ b) written
part_of_longer before a b written part = elim (cases_lt part.0 (length a)) [
  | inl within ↦ (part.0, part.1 ∙ ap (λ (xs : List ℕ). Some (before ++ xs)) (sym (take-append-le part.0 a b (omega (arith, within)))))
  | inr past ↦ (length a, part.1 ∙ ap (λ (xs : List ℕ). Some (before ++ xs)) (take_all part.0 a (omega (arith, past)) ∙ sym (take-append-le (length a) a b (omega arith) ∙ take_all (length a) a (omega arith))))
]

-- a whole text, and a first part of the next
whole_and_part : (before a b : List ℕ) (written : Option (List ℕ)) → AppendsPrefix (before ++ a) b written → AppendsPrefix before (a ++ b) written
whole_and_part before a b written part = (
  length a + part.0,
  part.1 ∙ ap Some (append_assoc before a (take part.0 b)) ∙ ap (λ (xs : List ℕ). Some (before ++ xs)) (sym (take_past part.0 (length a + part.0) a b refl)),
)

-- the first lines and the next one
pub next_line : (f : ℕ → List ℕ) (n : ℕ) → flat_map f (range_with_len 0 (n + 1)) ≡ flat_map f (range_with_len 0 n) ++ f n
next_line f n =
    let at : 0 + n ≡ n = omega arith in
    ap (flat_map f) (range_split 0 n 1) ∙ flat_map-append f (range_with_len 0 n) (range_with_len (0 + n) 1)
    ∙ ap (λ (l : List ℕ). flat_map f (range_with_len 0 n) ++ l) (append-nil (f (0 + n)) ∙ ap f at)

-- all lines are the first ones, the next one, and the rest
all_lines : (f : ℕ → List ℕ) (n count : ℕ) → n < count → flat_map f (range_with_len 0 count)
    ≡ (flat_map f (range_with_len 0 n) ++ f n) ++ flat_map f (range_with_len (0 + (n + 1)) (count - (n + 1)))
all_lines f n count lt =
    let sum : count ≡ (n + 1) + (count - (n + 1)) = omega arith in
    ap (λ (m : ℕ). flat_map f (range_with_len 0 m)) sum ∙ ap (flat_map f) (range_split 0 (n + 1) (count - (n + 1)))
    ∙ flat_map-append f (range_with_len 0 (n + 1)) (range_with_len (0 + (n + 1)) (count - (n + 1)))
    ∙ ap (λ (l : List ℕ). l ++ flat_map f (range_with_len (0 + (n + 1)) (count - (n + 1)))) (next_line f n)

-- one more line was written
pub line_written : (f : ℕ → List ℕ) (n : ℕ) (line : List ℕ) (x y z : Option (List ℕ)) → line ≡ f n
    → ((before : List ℕ) → x ≡ Some before → y ≡ Some (before ++ flat_map f (range_with_len 0 n)))
    → ((before : List ℕ) → y ≡ Some before → z ≡ Some (before ++ line))
    → (before : List ℕ) → x ≡ Some before → z ≡ Some (before ++ flat_map f (range_with_len 0 (n + 1)))
line_written f n line x y z is first next before e =
    next (before ++ flat_map f (range_with_len 0 n)) (first before e)
    ∙ ap Some (append_assoc before (flat_map f (range_with_len 0 n)) line)
    ∙ ap (λ (l : List ℕ). Some (before ++ (flat_map f (range_with_len 0 n) ++ l))) is
    ∙ ap (λ (l : List ℕ). Some (before ++ l)) (sym (next_line f n))

-- a part of one more line was written
pub line_cut : (f : ℕ → List ℕ) (n count : ℕ) (line : List ℕ) (x y z : Option (List ℕ)) → n < count → line ≡ f n
    → ((before : List ℕ) → x ≡ Some before → y ≡ Some (before ++ flat_map f (range_with_len 0 n)))
    → ((before : List ℕ) → y ≡ Some before → AppendsPrefix before line z)
    → (before : List ℕ) → x ≡ Some before → AppendsPrefix before (flat_map f (range_with_len 0 count)) z
line_cut f n count line x y z lt is first next before e =
    let done : List ℕ = flat_map f (range_with_len 0 n) in
    let rest : List ℕ = flat_map f (range_with_len (0 + (n + 1)) (count - (n + 1))) in
    let here : AppendsPrefix (before ++ done) (f n) z = subst (λ (l : List ℕ). AppendsPrefix (before ++ done) l z) is (next (before ++ done) (first before e)) in
    subst (λ (l : List ℕ). AppendsPrefix before l z) (sym (all_lines f n count lt))
    (part_of_longer before (done ++ f n) rest z (whole_and_part before done (f n) z here))

-- what was printed was appended
pub printed_grows : {T E : Type 0} (result : Result T E) (text : List ℕ) (first written : Option (List ℕ)) → Prints result text first written → Grows first written
printed_grows (Ok _) text first written prints before e = (text, prints.all_of_it before e)
printed_grows (Err _) text first written prints before e =
    let part = prints.part_of_it before e in (take part.0 text, part.1)
