use Rattle.std.proofs.Common.{◌≡◌, ◌+◌, ◌<◌, List, [], ◌∷◌, ◌++◌, length, Some, IfSome, refl, ap, sym, ◌∙◌, subst, arith}
use Rattle.m17_directory.specs.declared.known.Known.{Known}
use Rattle.m17_directory.specs.Entries.{Notice, Entry}
use Rattle.m17_directory.specs.Outcome.{Here}
use Rattle.m17_directory.specs.Sound.{kept_of}
use Rattle.m17_directory.specs.StandsFor.{DirectoryKept, StandsFor, IsSettled, IsBounded, unclaimed, claimed}
use Rattle.m17_directory.specs.Steps.{IsGiven}
use Rattle.m17_directory.proofs.Bounds.{IsSeated}
use Rattle.m17_directory.proofs.Kept.{bounded_by, seated_of, free_if, claim_of, seated_after, together_after}
use Rattle.m17_directory.proofs.Settled.{settle_stands}
use Rattle.m17_directory.proofs.directory.Directory.settle.Goals as goal

pub settle-requires-clause-free : goal.settle-requires-clause-free
settle-requires-clause-free c =
    let places = c.self.inside.places in
    let below = subst (λ (k : DirectoryKept). IfSome c.args.claimed (λ m. m.place < k.setup.places)) (sym c.self.view_is) c.requires.place in
    free_if places c.self.inside.people.known c.args.claimed c.self.invariant.places (seated_of (kept_of c.self.inside) c.self.invariant.bounded) below

abbrev new_of : goal.After-settle → DirectoryKept
new_of c = kept_of (record c.self.inside { people = c.settle.new.self })

abbrev here_of : goal.After-settle → Here
here_of c = record { setup = (kept_of c.self.inside).setup; index = c.unwrap-asked.result.index; moment = c.self.inside.moment }

given : (c : goal.After-settle) → IsGiven (here_of c) c.unwrap-asked.result (claim_of c.args.after c.args.claimed) c.self.inside.people c.settle.new.self c.settle.new.post c.settle.result
given c =
    let stamp : c.stamp-stamp.result ≡ here_of c =
    c.stamp-stamp.ensures ∙ ap (λ (k : DirectoryKept). record { setup = k.setup; index = c.unwrap-asked.result.index; moment = c.self.inside.moment }) (sym c.self.view_is) in
    subst (λ (h : Here). IsGiven h c.unwrap-asked.result (claim_of c.args.after c.args.claimed) c.self.inside.people c.settle.new.self c.settle.new.post c.settle.result) stamp c.settle.ensures.given

bounded : (c : goal.After-settle) → IsBounded (new_of c)
bounded c =
    let places = c.self.inside.places in
    let below = subst (λ (k : DirectoryKept). IfSome c.args.claimed (λ m. m.place < k.setup.places)) (sym c.self.view_is) c.requires.place in
    let seated = seated_after places (here_of c) c.unwrap-asked.result c.args.after c.self.inside.people.known c.args.claimed below (seated_of (kept_of c.self.inside) c.self.invariant.bounded) in
    bounded_by (new_of c) (subst (λ (ks : List Known). IsSeated places ks) (sym (given c).known) seated) (omega (arith, c.settle.ensures.few.together))

pub invariant_of-self : goal.invariant_of-self
invariant_of-self c = record { bounded = bounded c; places = c.self.invariant.places; faults = c.self.invariant.faults }

pub returns-clause-settled : goal.returns-clause-settled
returns-clause-settled c =
    let waits : c.self.inside.people.asked ≡ Some c.unwrap-asked.result = sym c.asked.ensures ∙ c.unwrap-asked.ensures in
    subst (λ (k : DirectoryKept). (entries : List Entry) → (notice : Notice) → StandsFor k (entries ++ unclaimed notice ∷ []) → IsSettled k (new_of c) entries (claimed notice (claim_of c.args.after c.args.claimed)) (record { verdict = c.settle.result; posts = c.settle.new.post })) c.self.view_is
    (λ entries notice stood. settle_stands (kept_of c.self.inside) (new_of c) entries notice (claim_of c.args.after c.args.claimed) c.settle.new.post c.settle.result c.unwrap-asked.result stood waits refl refl refl (given c))

pub returns-clause-together : goal.returns-clause-together
returns-clause-together c =
    let more = together_after (here_of c) c.unwrap-asked.result c.args.after c.self.inside.people c.args.claimed in
    let same = ap (λ (k : DirectoryKept). length k.known + length k.departing) c.self.view_is in
    omega (arith, more, same, ap length (given c).known, ap length (given c).departing)

pub returns-clause-bounds : goal.returns-clause-bounds
returns-clause-bounds c = bounded c
