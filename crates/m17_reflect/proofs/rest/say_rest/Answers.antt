use Rattle.std.proofs.Common.{◌≡◌, ℕ, map, length, sym, ap, subst, ◌∙◌}
use Rattle.m17_reflect.specs.Saying.{SaysRows}
use Rattle.m17_reflect.proofs.RestSaid.{rest_said}
use Rattle.m17_reflect.proofs.PartsBack.{map_count}
use Rattle.m17_reflect.proofs.rest.say_rest.Goals as goal

pub returns-clause-said : goal.returns-clause-said
returns-clause-said g c =
    let cells = map (λ row. row.items) c.args.held.now.items in let queues = map (λ row. row.items) c.args.queues.now.items in
    let count = map_count (λ row. row.items) c.args.queues.now.items in
    let same : length cells ≡ length queues =
    map_count (λ row. row.items) c.args.held.now.items ∙ sym (map_count (λ row. length row.items) c.args.held.now.items)
    ∙ ap length c.requires.cells ∙ map_count (λ row. length row.items) c.args.queues.now.items ∙ sym count in
    rest_said g.M.Mouth.told c.mouths_say_in_turn.ensures c.spelled_part_by_part.ensures c.args.name
    (record { cells = cells; queues = queues; door = c.args.door.now })
    c.args.mouths.now.items c.say_door.new.mouths.items c.say_rows.new.mouths.items same c.say_door.ensures.said
    (subst (λ (n : ℕ). SaysRows g.M.Mouth.told c.args.name n cells queues c.say_door.new.mouths.items c.say_rows.new.mouths.items)
    (sym count) c.say_rows.ensures.said)
