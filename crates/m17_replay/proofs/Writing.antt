-- What is written, text after text, and the counts of the sink's faults.
use Rattle.std.proofs.Common.{◌≡◌, ℕ, ◌+◌, List, [], ◌++◌, length, take, Option, Some, Result, Ok, Err, refl, sym, ap, subst, ◌∙◌, arith, inl, inr, append_assoc}
use Rattle.std.proofs.lemmas.List.{append-nil, take_all, take-append-le}
use Rattle.std.proofs.lemmas.Bool.{cases_lt}
use Rattle.m17_lists.proofs.Parts.{front_goes_past}
use Rattle.m17_io.specs.Faults.{HasCause}
use Rattle.m17_io.specs.Sink.{AppendsPrefix, SinkTold}
use Rattle.m17_print.specs.Endings.{Grows}
use Rattle.m17_replay.specs.Run.{Prints, Writes}

-- a first part of a text is a first part of a longer one
pub part_of_longer : (before a b : List ℕ) (written : Option (List ℕ)) → AppendsPrefix before a written → AppendsPrefix before (a ++ b) written
part_of_longer before a b written part = elim (cases_lt part.0 (length a)) [
  | inl within ↦ (part.0, part.1 ∙ ap (λ xs. Some (before ++ xs)) (sym (take-append-le part.0 a b (omega (arith, within)))))
  | inr past ↦ (length a, part.1 ∙ ap (λ xs. Some (before ++ xs)) (take_all part.0 a (omega (arith, past)) ∙ sym (take-append-le (length a) a b (omega arith) ∙ take_all (length a) a (omega arith))))
]

-- a whole text, and a first part of the next
pub whole_and_part : (before a b : List ℕ) (written : Option (List ℕ)) → AppendsPrefix (before ++ a) b written → AppendsPrefix before (a ++ b) written
whole_and_part before a b written part = (
  length a + part.0,
  part.1 ∙ ap Some (append_assoc before a (take part.0 b)) ∙ ap (λ xs. Some (before ++ xs)) (sym (front_goes_past part.0 (length a + part.0) a b refl)),
)

-- nothing is written yet
pub writes_nothing : {T E : Type 0} (value : T) (first : Option (List ℕ)) → Writes {T = T} {E = E} (Ok value) [] first first
writes_nothing value first = record {
  all_of_it = λ before told. told ∙ ap Some (sym (append-nil before));
  part_of_it = tt;
}

-- a text was written, and then another, or a part of it
pub writes_then : {T U E F : Type 0} (value : T) (result : Result U F) (a b : List ℕ) (x y z : Option (List ℕ))
    → Writes {T = T} {E = E} (Ok value) a x y → Writes result b y z → Writes result (a ++ b) x z
writes_then value (Ok v) a b x y z first then = record {
  all_of_it = λ before told. then.all_of_it (before ++ a) (first.all_of_it before told) ∙ ap Some (append_assoc before a b);
  part_of_it = tt;
}
writes_then value (Err e) a b x y z first then = record {
  all_of_it = tt;
  part_of_it = λ before told. whole_and_part before a b z (then.part_of_it (before ++ a) (first.all_of_it before told));
}

-- a part of a text was written, which is a part of a longer one
pub writes_part : {T U E F : Type 0} (e : E) (f : F) (a b : List ℕ) (x y : Option (List ℕ)) → Writes {T = T} (Err e) a x y → Writes {T = U} (Err f) (a ++ b) x y
writes_part e f a b x y part = record {
  all_of_it = tt;
  part_of_it = λ before told. part_of_longer before a b y (part.part_of_it before told);
}

-- the same text by another name
pub writes_same : {T E : Type 0} (result : Result T E) (a b : List ℕ) (x y : Option (List ℕ)) → a ≡ b → Writes result a x y → Writes result b x y
writes_same result a b x y e writes = subst (λ (text : List ℕ). Writes result text x y) e writes

-- the counts of faults over two calls, of which the first did not fail
pub cause_then : {T U E F : Type 0} (value : T) (result : Result U F) (a b c : ℕ) → HasCause {T = T} {E = E} a b (Ok value) → HasCause b c result → HasCause a c result
cause_then value result a b c first then = subst (λ (n : ℕ). HasCause n c result) first.no_fault then

-- what is written grows
pub writes_grow : {T E : Type 0} (result : Result T E) (text : List ℕ) (x y : Option (List ℕ)) → Writes result text x y → Grows x y
writes_grow (Ok v) text x y writes = λ before told. (text, writes.all_of_it before told)
writes_grow (Err e) text x y writes = λ before told. let part = writes.part_of_it before told in (take part.0 text, part.1)

-- The same, with the counts of faults: nothing is printed yet; one text and then another; and a part.
pub prints_nothing : {T E : Type 0} (value : T) (first : SinkTold) → Prints {T = T} {E = E} (Ok value) [] first first
prints_nothing value first = record {
  cause = record { counted = omega arith; failed = tt; no_fault = refl };
  writes = writes_nothing value first.written;
}

pub prints_then : {T U E F : Type 0} (value : T) (result : Result U F) (a b : List ℕ) (x y z : SinkTold)
    → Prints {T = T} {E = E} (Ok value) a x y → Prints result b y z → Prints result (a ++ b) x z
prints_then value result a b x y z first then = record {
  cause = cause_then value result x.faults y.faults z.faults first.cause then.cause;
  writes = writes_then value result a b x.written y.written z.written first.writes then.writes;
}

pub prints_part : {T U E : Type 0} (e : E) (a b : List ℕ) (x y : SinkTold) → Prints {T = T} (Err e) a x y → Prints {T = U} (Err e) (a ++ b) x y
prints_part e a b x y part = record {
  cause = record { counted = part.cause.counted; failed = part.cause.failed; no_fault = tt };
  writes = writes_part e e a b x.written y.written part.writes;
}

pub prints_same : {T E : Type 0} (result : Result T E) (a b : List ℕ) (x y : SinkTold) → a ≡ b → Prints result a x y → Prints result b x y
prints_same result a b x y e prints = subst (λ (text : List ℕ). Prints result text x y) e prints
