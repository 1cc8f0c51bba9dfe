use Rattle.std.proofs.Common.{◌≤◌, ℕ, length, ap, arith, decimal, length-append}
use Rattle.std.proofs.lemmas.Fmt.{length-decimal-le}
use Rattle.m17_print.proofs.line.Line.push_frame_number.Goals as goal

pub returns-then-last-clause-longer : goal.returns-then-last-clause-longer
returns-then-last-clause-longer c =
    let digits : length (decimal c.from.result) ≤ 5 = length-decimal-le 5 c.from.result (omega arith) (omega arith) (omega arith) in
    let number = ap length c.push_number.ensures.appended in
    omega (arith, length-append {A = ℕ})

pub returns-else-last-clause-longer : goal.returns-else-last-clause-longer
returns-else-last-clause-longer c =
    let digits : length (decimal c.from.result) ≤ 5 = length-decimal-le 5 c.from.result (omega arith) (omega arith) (omega arith) in
    let number = ap length c.push_number.ensures.appended in
    omega (arith, length-append {A = ℕ})
