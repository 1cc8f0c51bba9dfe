use Rattle.std.proofs.Common.{◌≡◌, ◌+◌, ◌<◌, ℕ, length, refl, ap, subst, ◌∙◌, arith}
use Rattle.m17_reflect.specs.Left.{drained}
use Rattle.m17_reflect.specs.Saying.{SaysRow}
use Rattle.m17_reflect.proofs.RestSaid.{row_none, row_more}
use Rattle.m17_reflect.proofs.PartsBack.{upto_all, upto_found, upto_length, upto_next, read_is}
use Rattle.m17_reflect.proofs.rest.say_row.Goals as goal

pub loop-at-init : goal.loop-at-init
loop-at-init g c = record {
  said = λ m. row_none g.M.Mouth.told c.mouths_say_in_turn.ensures c.args.name m c.args.held.now.items c.args.queues.now.items c.args.mouths.now.items;
  queues = refl;
}

pub loop-at-preserved : goal.loop-at-preserved
loop-at-preserved g c =
    let now = c.loop-at in let before = now.invariant in let queues = c.args.queues.now.items in let queue = c.index_mut.result.now in
    let long = ap length before.queues ∙ upto_length drained queues now.at in
    let lt : now.at < length now.queues.items = omega (arith, long, c.len-at-end.ensures, c.args.queues.now.ok.0) in
    let there = upto_found drained queues now.queues.items now.at queue before.queues
    (read_is now.queues.items now.at queue lt c.index_mut.ensures.value) in
    let cell = read_is c.args.held.now.items now.at c.index.result.now (omega (arith, lt, long, c.requires.cells)) c.index.ensures in record {
      said = λ m. row_more g.M.Mouth.told c.mouths_say_in_turn.ensures c.spelled_part_by_part.ensures c.args.name m now.at (now.at + 1)
          c.args.held.now.items queues c.index.result.now queue c.args.mouths.now.items now.mouths.items c.say_queue.new.mouths.items
          (omega arith) cell there (before.said m) c.say_queue.ensures.said;
      queues = upto_next drained queues now.queues.items now.at (now.at + 1) queue c.say_queue.new.queue (omega arith) before.queues there c.say_queue.ensures.drained;
    }

pub returns-clause-drained : goal.returns-clause-drained
returns-clause-drained g c =
    c.loop-at.invariant.queues
    ∙ upto_all drained c.args.queues.now.items c.loop-at.at (omega (arith, c.len-at-end.ensures, c.args.queues.now.ok.0))

pub returns-clause-said : goal.returns-clause-said
returns-clause-said g c = λ m.
    let all : c.loop-at.at ≡ length c.args.queues.now.items = omega (arith, c.len-at-end.ensures, c.args.queues.now.ok.0) in
    subst (λ (n : ℕ). SaysRow g.M.Mouth.told c.args.name m n c.args.held.now.items c.args.queues.now.items c.args.mouths.now.items c.loop-at.mouths.items)
    all (c.loop-at.invariant.said m)
