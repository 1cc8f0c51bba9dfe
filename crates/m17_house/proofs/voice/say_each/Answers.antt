use Rattle.std.proofs.Common.{◌≡◌, List, [], ◌∷◌, ◌++◌, sym, refl, ap, subst, ◌∙◌, append_assoc}
use Rattle.std.specs.Option.{option_to_list}
use Rattle.std.specs.List.{filter_map}
use Rattle.std.proofs.lemmas.List.{append-nil}
use Rattle.std.proofs.lemmas.List.Elements.{filter_map-append}
use Rattle.m17_control.specs.declared.item.Item.{Item}
use Rattle.m17_house.specs.Replay.{packet_to}
use Rattle.m17_house.specs.Tallied.{HasSaidMore}
use Rattle.m17_house.proofs.Tallies.{say_then, say_none}
use Rattle.m17_house.proofs.Carries.{single}
use Rattle.m17_house.proofs.voice.say_each.Goals as goal

pub loop-item-init : goal.loop-item-init
loop-item-init c = ([], refl, say_none (λ x. []) c.args.mouth.now (λ x. refl))

pub loop-item-preserved : goal.loop-item-preserved
loop-item-preserved c =
    let done : List Item = c.loop-item.invariant.0 in
    let item : Item = c.in-Some.item in (
      done ++ item ∷ [],
      c.loop-item.invariant.1 ∙ ap (λ xs. done ++ xs) c.in-Some.ensures.first ∙ sym (append_assoc done (item ∷ []) c.take.new.self),
      say_then (λ x. filter_map (packet_to x c.args.name) done) (λ x. option_to_list (packet_to x c.args.name item)) (λ x. filter_map (packet_to x c.args.name) (done ++ item ∷ []))
          c.args.mouth.now c.loop-item.mouth c.say_item.new.mouth
          (λ x. ap (λ xs. filter_map (packet_to x c.args.name) done ++ xs) (sym (single (packet_to x c.args.name) (packet_to x c.args.name item))) ∙ sym (filter_map-append (packet_to x c.args.name) done (item ∷ [])))
          c.loop-item.invariant.2 c.say_item.ensures,
    )

pub returns : goal.returns
returns c =
    let done : List Item = c.loop-item.invariant.0 in
    let nothing : c.loop-item.out ≡ [] = c.in_default.ensures.none.0 refl in
    let all : done ≡ c.args.out.now = sym (c.loop-item.invariant.1 ∙ ap (λ xs. done ++ xs) nothing ∙ append-nil done) in
    record {
      taken = sym c.in_default.ensures.first ∙ nothing;
      said = subst (λ (xs : List Item). HasSaidMore (λ x. filter_map (packet_to x c.args.name) xs) c.args.mouth.now c.loop-item.mouth) all c.loop-item.invariant.2;
    }
