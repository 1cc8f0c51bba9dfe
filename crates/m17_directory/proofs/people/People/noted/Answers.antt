use Rattle.std.proofs.Common.{◌≡◌, false, List, length, not, ap, sym, subst, arith}
use Rattle.m17_directory.specs.declared.known.Departed.{Departed}
use Rattle.m17_directory.specs.Steps.{Lists, lists_wait}
use Rattle.m17_directory.proofs.Waits.{waits_no_more}
use Rattle.m17_directory.specs.StandsFor.{is_member}
use Rattle.m17_directory.proofs.Filters.{filter_le}
use Rattle.m17_directory.proofs.people.People.noted.Goals as goal

pub invariant_of-self : goal.invariant_of-self
invariant_of-self c = record {
  few = c.self.invariant.few;
  together = omega (arith, c.self.invariant.together, ap length c.noted.ensures, filter_le (λ d. not (is_member c.args.m d)) c.self.inside.departing);
}

pub returns-clause-waits : goal.returns-clause-waits
returns-clause-waits c = λ free.
    let still : lists_wait (record { known = c.self.inside.known; asked = c.self.inside.asked; departing = c.self.inside.departing }) ≡ false =
    subst (λ (l : Lists). lists_wait l ≡ false) (sym c.self.view_is) free in
    subst (λ (ds : List Departed). lists_wait (record { known = c.self.inside.known; asked = c.self.inside.asked; departing = ds }) ≡ false) (sym c.noted.ensures)
    (waits_no_more c.args.m c.self.inside.known c.self.inside.departing c.self.inside.asked c.self.invariant.together still)
