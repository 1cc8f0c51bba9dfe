use Rattle.std.proofs.Common.{replicate, false, inl, inr, arith}
use Rattle.std.proofs.lemmas.Bool.{cases_lt}
use Rattle.std.proofs.lemmas.List.{get_or-replicate, get_or_past, length-replicate}
use Rattle.m17_house.proofs.run.no_marks.Goals as goal

pub returns : goal.returns
returns c = λ place. elim (cases_lt place 256) [
  | inl below ↦ get_or-replicate 256 place false false below
  | inr past ↦ get_or_past (replicate 256 false) place false (omega (arith, length-replicate 256 false))
]
