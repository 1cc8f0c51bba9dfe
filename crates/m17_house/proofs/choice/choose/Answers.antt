use Rattle.std.proofs.Common.{◌≡◌, ◌≤◌, ◌<◌, ◌||◌, ◌==◌, ℕ, Bool, true, false, List, length, get_or, set, inl, inr, ap, sym, ◌∙◌, arith, get_or-set_same, get_or-set_other}
use Rattle.std.specs.List.{list_any}
use Rattle.std.proofs.lemmas.Bool.{cases_eq, eq-eqb, ne_eqb}
use Rattle.m17_directory.specs.Outcome.{has_place}
use Rattle.m17_house.proofs.Places.{places_had}
use Rattle.m17_house.proofs.choice.choose.Goals as goal

pub returns-in_err-place : goal.returns-in_err-place
returns-in_err-place c =
    let all : c.args.places ≤ length c.args.directory.now.known = places_had c.args.places c.args.directory.now.known c.in_err-place.ensures.below in
    absurd (omega (arith, all, c.known.ensures.count))

-- one more place is marked
marked : (taken : List Bool) (at place : ℕ) (b : Bool) → at < length taken → get_or taken place false ≡ b → get_or (set taken at true) place false ≡ ((at == place) || b)
marked taken at place b below is = elim (cases_eq at place) [
  | inl here ↦ ap (λ k. get_or (set taken at true) k false) (sym here) ∙ get_or-set_same taken at true false below ∙ ap (λ t. t || b) (sym (eq-eqb at place here))
  | inr other ↦ get_or-set_other taken at place true false (λ e. other (sym e)) ∙ is ∙ ap (λ t. t || b) (sym (ne_eqb at place other))
]

pub returns-clause-taken : goal.returns-clause-taken
returns-clause-taken c = λ place. marked c.args.taken.now c.in_ok-place.place place (list_any (has_place place) c.args.directory.now.known) (omega (arith, c.in_ok-place.ensures.below.0)) (c.requires.taken place)
