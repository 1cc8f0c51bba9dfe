use Rattle.std.proofs.Common.{map, length, sym, ◌∙◌}
use Rattle.m17_reflect.proofs.OrdersObeyed.{map_twice}
use Rattle.m17_reflect.proofs.EndsBack.{rows_long}
use Rattle.m17_reflect.proofs.gather.gather.Goals as goal

pub say_rest-requires : goal.say_rest-requires
say_rest-requires g c =
    let p = c.args.parted in record {
      cells = c.requires.cells
          ∙ sym (map_twice (λ row. row.items) length p.voice.queues.items)
          ∙ sym (rows_long (map (λ row. row.items) p.modules.queues.items) (map (λ row. row.items) p.voice.queues.items)
          (map (λ row. row.items) c.finish_rows.new.trails.items) c.requires.queues c.finish_rows.ensures)
          ∙ map_twice (λ row. row.items) length c.finish_rows.new.trails.items;
    }
