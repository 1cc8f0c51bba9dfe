use Rattle.std.proofs.Common.{ap, refl, arith}
use Rattle.m17_directory.specs.Steps.{Lists}
use Rattle.m17_directory.proofs.Kept.{bounded_new, stands_new}
use Rattle.m17_directory.proofs.directory.Directory.make.Goals as goal

pub invariant_of-result : goal.invariant_of-result
invariant_of-result c =
    let known = ap (λ (l : Lists). l.known) c.in_ok-people.ensures in
    let departing = ap (λ (l : Lists). l.departing) c.in_ok-people.ensures in
    record { bounded = bounded_new _ known departing; places = c.requires.at_most; faults = λ e. omega arith }

pub returns-clause-stands : goal.returns-clause-stands
returns-clause-stands c =
    let known = ap (λ (l : Lists). l.known) c.in_ok-people.ensures in
    let asked = ap (λ (l : Lists). l.asked) c.in_ok-people.ensures in
    stands_new _ refl known asked refl

pub returns-clause-bounds : goal.returns-clause-bounds
returns-clause-bounds c =
    let known = ap (λ (l : Lists). l.known) c.in_ok-people.ensures in
    let departing = ap (λ (l : Lists). l.departing) c.in_ok-people.ensures in
    bounded_new _ known departing
