use Rattle.std.proofs.Common.{◌≡◌, List, filter, not, subst, rules}
use Rattle.std.proofs.lemmas.Fn.{filter_same}
use Rattle.m17_directory.specs.declared.known.Departed.{Departed}
use Rattle.m17_directory.specs.StandsFor.{is_member}
use Rattle.m17_directory.proofs.departing.Departing.noted.Goals as goal

pub returns : goal.returns
returns c =
    subst (λ (all : List Departed). c.retain.new.self.items ≡ filter (λ d. not (is_member c.args.m d)) all) c.self.view_is
    (filter_same _ (λ d. not (is_member c.args.m d)) _ (λ x b f k. search rules) _ _ c.retain.ensures.filtered)
