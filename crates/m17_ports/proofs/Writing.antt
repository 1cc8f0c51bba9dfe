-- What a book was written of one text and then of another.
use Rattle.std.proofs.Common.{◌≡◌, ◌≤◌, ◌+◌, ℕ, zero, suc, true, false, Bool, min, List, [], ◌∷◌, ◌++◌, length, take, refl, sym, ap, ◌∙◌, arith}
use Rattle.std.proofs.lemmas.List.{take-append-le}
use Rattle.std.proofs.Math.Seq.{take-append-add}
use Rattle.m17_io.specs.Faults.{HasRisen}
use Rattle.m17_ports.specs.Told.{told_then}
use Rattle.m17_ports.specs.Book.{BookTold, HasText}
use Rattle.m17_ports.proofs.Telling.{told-in-turn, nothing-more}

pub write-nothing : {L : Type 0} (book : BookTold L) → HasText book [] false book
write-nothing book = record {
  whole = λ e. (sym (nothing-more book.written), refl);
  cut = λ e. absurd (cc e);
  counted = omega arith;
  same_device = refl;
}

pub one-went : {L : Type 0} (before after : BookTold L) (bytes : List ℕ)
    → after.written ≡ told_then before.written bytes → after.faults ≡ before.faults
    → after.device ≡ before.device → HasText before bytes false after
one-went before after bytes told stands same = record {
  whole = λ e. (told, stands);
  cut = λ e. absurd (cc e);
  counted = omega (arith, stands);
  same_device = same;
}

pub one-failed : {L : Type 0} (before after : BookTold L) (bytes : List ℕ) (n : ℕ)
    → after.written ≡ told_then before.written (take n bytes)
    → before.faults ≤ after.faults → HasRisen before.faults after.faults
    → after.device ≡ before.device → HasText before bytes true after
one-failed before after bytes n told counted risen same = record {
  whole = λ e. absurd (cc e);
  cut = λ e. (n, told, risen);
  counted = counted;
  same_device = same;
}

pub write-in-turn : {L : Type 0} (a b c : BookTold L) (first second : List ℕ) (failed : Bool)
    → HasText a first false b → HasText b second failed c → HasText a (first ++ second) failed c
write-in-turn a b c first second failed h k = let was = h.whole refl in record {
  whole = λ e. let all = k.whole e in (
    all.0 ∙ ap (λ t. told_then t second) was.0 ∙ told-in-turn a.written first second,
    all.1 ∙ was.1,
  );
  cut = λ e. let some = k.cut e in (
    length first + some.0,
    some.1 ∙ ap (λ t. told_then t (take some.0 second)) was.0
        ∙ told-in-turn a.written first (take some.0 second)
        ∙ ap (told_then a.written) (sym (take-append-add first second some.0)),
    (let risen = some.2 in omega (arith, risen, was.1)),
  );
  counted = omega (arith, h.counted, k.counted);
  same_device = k.same_device ∙ h.same_device;
}

-- a beginning of a text, as one that is no longer than it
as_short : (n m : ℕ) (xs : List ℕ) → m ≡ min n (length xs) → take m xs ≡ take n xs
as_short zero zero xs e = refl
as_short zero (suc m) xs e = absurd (omega (arith, e))
as_short (suc n) zero [] e = refl
as_short (suc n) zero (x ∷ xs) e = absurd (omega (arith, e))
as_short (suc n) (suc m) [] e = absurd (omega (arith, e))
as_short (suc n) (suc m) (x ∷ xs) e = ap (λ l. x ∷ l) (as_short n m xs (omega (arith, e)))

beginning : (n : ℕ) (xs ys : List ℕ) → take (min n (length xs)) (xs ++ ys) ≡ take n xs
beginning n xs ys = take-append-le (min n (length xs)) xs ys (omega arith) ∙ as_short n (min n (length xs)) xs refl

pub given-up : {L : Type 0} (a b : BookTold L) (first second : List ℕ)
    → HasText a first true b → HasText a (first ++ second) true b
given-up a b first second h = let was = h.cut refl in record {
  whole = λ e. absurd (cc e);
  cut = λ e. (
    min was.0 (length first),
    was.1 ∙ ap (told_then a.written) (sym (beginning was.0 first second)),
    was.2,
  );
  counted = h.counted;
  same_device = h.same_device;
}
