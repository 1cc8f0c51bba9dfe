-- What was written grows.
use Rattle.std.proofs.Common.{◌≡◌, ℕ, List, [], ◌++◌, take, Option, Some, sym, ap, ◌∙◌, append_assoc}
use Rattle.std.proofs.lemmas.List.{append-nil}
use Rattle.m17_io.specs.Sink.{AppendsPrefix}
use Rattle.m17_print.specs.Endings.{Grows}

pub grows_none : (first written : Option (List ℕ)) → written ≡ first → Grows first written
grows_none first written same before told = ([], same ∙ told ∙ ap Some (sym (append-nil before)))

pub grows_then : (a b c : Option (List ℕ)) → Grows a b → Grows b c → Grows a c
grows_then a b c first then before told =
    let x = first before told in
    let y = then (before ++ x.0) x.1 in
    (x.0 ++ y.0, y.1 ∙ ap Some (append_assoc before x.0 y.0))

pub grows_line : (a b : Option (List ℕ)) (line : List ℕ) → ((before : List ℕ) → a ≡ Some before → b ≡ Some (before ++ line)) → Grows a b
grows_line a b line writes before told = (line, writes before told)

pub grows_part : (a b : Option (List ℕ)) (line : List ℕ) → ((before : List ℕ) → a ≡ Some before → AppendsPrefix before line b) → Grows a b
grows_part a b line writes before told =
    let part = writes before told in
    (take part.0 line, part.1)
