-- Text that stands written, and what was written behind it.
use Rattle.std.proofs.Common.{◌≡◌, ℕ, ◌+◌, List, [], ◌++◌, length, take, Option, Some, sym, ap, ◌∙◌, arith, append_assoc, inl, inr}
use Rattle.std.proofs.lemmas.List.{append-nil, take-append-le, take_all}
use Rattle.std.proofs.Math.Seq.{take-append-add}
use Rattle.std.proofs.lemmas.Bool.{cases_lt}
use Rattle.m17_io.specs.Sink.{AppendsPrefix}
use Rattle.m17_app.specs.Status.{Streams}
use Rattle.m17_app.specs.Written.{Adds, AddsPart}

-- text that was written, and then a line, or a first part of it
pub adds_after : (a b : List ℕ) (before mid after : Streams) → ((first : List ℕ) → before.sink.written ≡ Some first → mid.sink.written ≡ Some (first ++ a))
    → ((xs : List ℕ) → mid.sink.written ≡ Some xs → after.sink.written ≡ Some (xs ++ b)) → Adds (a ++ b) before after
adds_after a b before mid after text line = λ first is. line (first ++ a) (text first is) ∙ ap Some (append_assoc first a b)

-- a first part of what stands behind a text is a first part of both
part_after : (first a b : List ℕ) (written : Option (List ℕ)) → AppendsPrefix (first ++ a) b written → AppendsPrefix first (a ++ b) written
part_after first a b written (n, is) =
    (length a + n, is ∙ ap Some (append_assoc first a (take n b)) ∙ ap (λ (xs : List ℕ). Some (first ++ xs)) (sym (take-append-add a b n)))

pub adds_part_after : (a b : List ℕ) (before mid after : Streams) → ((first : List ℕ) → before.sink.written ≡ Some first → mid.sink.written ≡ Some (first ++ a))
    → ((xs : List ℕ) → mid.sink.written ≡ Some xs → AppendsPrefix xs b after.sink.written) → AddsPart (a ++ b) before after
adds_part_after a b before mid after text part = λ first is. part_after first a b after.sink.written (part (first ++ a) (text first is))

-- nothing more was written behind a first part
pub part_longer : (first a b : List ℕ) (written : Option (List ℕ)) → AppendsPrefix first a written → AppendsPrefix first (a ++ b) written
part_longer first a b written (n, is) = elim (cases_lt n (length a)) [
  | inl short ↦ (n, is ∙ ap (λ (xs : List ℕ). Some (first ++ xs)) (sym (take-append-le n a b (omega arith))))
  | inr long ↦
      (length a, is ∙ ap (λ (xs : List ℕ). Some (first ++ xs)) (take_all n a long ∙ sym (take-append-le (length a) a b (omega arith) ∙ take_all (length a) a (omega arith))))
]

pub same_written : (mid after : Streams) → ((xs : List ℕ) → mid.sink.written ≡ Some xs → AppendsPrefix xs [] after.sink.written) → (xs : List ℕ) → mid.sink.written ≡ Some xs → after.sink.written ≡ Some xs
same_written mid after part xs is = let p = part xs is in p.1 ∙ ap (λ (ys : List ℕ). Some (xs ++ ys)) (take_all p.0 [] (omega arith)) ∙ ap Some (append-nil xs)
