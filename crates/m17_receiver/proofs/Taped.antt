-- One cell more of a tape.
use Rattle.std.proofs.Common.{◌≡◌, List, [], ◌∷◌, ◌++◌, length, set, slice_get, refl, sym, ap, ◌∙◌, inl, inr, arith, Option, Some, length-set}
use Rattle.std.proofs.lemmas.Bool.{cases_lt}
use Rattle.m17_lists.proofs.Lengths.{one_more_is_one_longer}
use Rattle.m17_lists.proofs.Places.{written_stands_there, other_places_stay}
use Rattle.m17_directory.specs.declared.verdict.LinkVerdict.{LinkVerdict}
use Rattle.m17_directory.specs.Entries.{Entry, Setup}
use Rattle.m17_directory.specs.Routed.{link_verdict}
use Rattle.m17_receiver.specs.Tape.{IsTaped}
use Rattle.m17_receiver.specs.SoFar.{Laws}
use Rattle.m17_receiver.proofs.Positions.{verdict_before}

pub taped_more : Laws → (setup : Setup) (entries : List Entry) (e : Entry) (before tape : List (Option LinkVerdict)) (verdict : LinkVerdict) →
    IsTaped setup entries before tape → verdict ≡ link_verdict setup (entries ++ e ∷ []) (length entries) →
    IsTaped setup (entries ++ e ∷ []) before (set tape (length entries) (Some verdict))
taped_more law setup entries e before tape verdict was is = record {
  cells = length-set tape (length entries) (Some verdict) ∙ was.cells;
  filled = λ n l within. elim (cases_lt n (length entries)) [
    | inl earlier ↦ other_places_stay tape (length entries) n (Some verdict) (λ same. omega (arith, same, earlier)) ∙ was.filled n earlier within
        ∙ ap (λ (v : LinkVerdict). Some (Some v)) (sym (verdict_before law setup entries e n earlier))
    | inr past ↦
        let at : length entries ≡ n = omega (arith, l, past, one_more_is_one_longer entries e) in
        ap (slice_get (set tape (length entries) (Some verdict))) (sym at) ∙ written_stands_there tape (length entries) (Some verdict) (omega (arith, within, at, was.cells))
        ∙ ap (λ (v : LinkVerdict). Some (Some v)) is ∙ ap (λ m. Some (Some (link_verdict setup (entries ++ e ∷ []) m))) at
  ];
  others = λ n past. other_places_stay tape (length entries) n (Some verdict) (λ same. omega (arith, same, past, one_more_is_one_longer entries e)) ∙ was.others n (omega (arith, past, one_more_is_one_longer entries e));
}

pub taped_none : (setup : Setup) (tape : List (Option LinkVerdict)) → IsTaped setup [] tape tape
taped_none setup tape = record {
  cells = refl;
  filled = λ n l. absurd (omega arith);
  others = λ n past. refl;
}
