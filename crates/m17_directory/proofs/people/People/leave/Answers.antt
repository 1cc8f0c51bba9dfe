use Rattle.std.proofs.Common.{◌≡◌, length, map, filter, not, ap, refl, arith, length-append}
use Rattle.std.proofs.lemmas.List.Filters.{length-filter_both}
use Rattle.std.proofs.lemmas.List.{length-map}
use Rattle.m17_directory.specs.StandsFor.{departed_of}
use Rattle.m17_directory.specs.Steps.{is_among}
use Rattle.m17_directory.proofs.Filters.{filter_le}
use Rattle.m17_directory.proofs.people.People.leave.Goals as goal

pub invariant_of-self : goal.invariant_of-self
invariant_of-self c =
    let rows = c.self.inside.known in
    let who = is_among c.args.whom.now in
    let left = filter who c.rows.result.now in
    let stay : length c.drop_all.new.self ≡ length (filter (λ k. not (who k)) rows) = ap length c.drop_all.ensures in
    let gone : length (filter who c.rows.result.now) ≡ length (filter who rows) = ap (λ ks. length (filter who ks)) c.rows.ensures.rows in
    let both = length-filter_both who (λ k. not (who k)) (λ k. refl) rows in
    record {
      few = omega (arith, stay, c.self.invariant.few, filter_le (λ k. not (who k)) rows);
      together = omega (arith, stay, gone, both, c.self.invariant.together, ap length c.say_leaves.ensures.left, length-append c.self.inside.departing (map departed_of left), length-map left departed_of);
    }
