use Rattle.std.proofs.Common.{◌≡◌, false, not, sym, subst, arith}
use Rattle.m17_directory.specs.StandsFor.{DirectoryKept, StandsFor, IsBounded, is_member, must_wait}
use Rattle.m17_directory.specs.Sound.{kept_of}
use Rattle.m17_directory.specs.Steps.{Lists}
use Rattle.m17_directory.proofs.Filters.{filter_le}
use Rattle.m17_directory.proofs.directory.Directory.noted.Goals as goal

bounded : (c : goal.After-noted) → IsBounded (kept_of (record c.self.inside { people = c.noted.new.self }))
bounded c =
    subst (λ (p : Lists). IsBounded (kept_of (record c.self.inside { people = p }))) (sym c.noted.ensures.noted)
    (record {
      known = c.self.invariant.bounded.known;
      members = omega (arith, c.self.invariant.bounded.members, filter_le (λ d. not (is_member c.args.m d)) c.self.inside.people.departing);
      below = c.self.invariant.bounded.below;
      apart = c.self.invariant.bounded.apart;
    })

pub invariant_of-self : goal.invariant_of-self
invariant_of-self c = record { bounded = bounded c; places = c.self.invariant.places; faults = c.self.invariant.faults }

pub returns-clause-bounds : goal.returns-clause-bounds
returns-clause-bounds c = bounded c

pub returns-clause-stands : goal.returns-clause-stands
returns-clause-stands c entries stood =
    let stands = subst (λ (k : DirectoryKept). StandsFor k entries) (sym c.self.view_is) stood in
    subst (λ (p : Lists). StandsFor (kept_of (record c.self.inside { people = p })) entries) (sym c.noted.ensures.noted)
    (record { moment = stands.moment; known = stands.known; asked = stands.asked; faults = stands.faults })

pub returns-clause-waits : goal.returns-clause-waits
returns-clause-waits c = λ free. c.noted.ensures.waits (subst (λ (k : DirectoryKept). must_wait k ≡ false) (sym c.self.view_is) free)
