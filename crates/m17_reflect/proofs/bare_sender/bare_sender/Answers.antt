use Rattle.std.proofs.Common.{◌≡◌, length, All, None, refl, ◌∙◌}
use Rattle.std.proofs.lemmas.List.Elements.{All-weaker}
use Rattle.m17_reflect.proofs.PlaceByPlace.{all_mapped}
use Rattle.m17_reflect.proofs.bare_sender.bare_sender.Goals as goal

pub returns-clause-new : goal.returns-clause-new
returns-clause-new c =
    let held = c.in_ok-held in let places = c.args.plan.now.places in record {
      of = record { name = refl; places = refl };
      rows = held.ensures.rows ∙ c.count.ensures;
      cells = all_mapped (λ row. length row ≡ places) (λ row. row.items) held.held.items
          (All-weaker (λ row. (length row.items ≡ places) × All (λ cell. cell ≡ None) row.items) (λ row. length row.items ≡ places) (λ row both. both.0) held.held.items held.ensures.each);
      none = all_mapped (λ row. All (λ cell. cell ≡ None) row) (λ row. row.items) held.held.items
          (All-weaker (λ row. (length row.items ≡ places) × All (λ cell. cell ≡ None) row.items) (λ row. All (λ cell. cell ≡ None) row.items) (λ row both. both.1) held.held.items held.ensures.each);
    }
