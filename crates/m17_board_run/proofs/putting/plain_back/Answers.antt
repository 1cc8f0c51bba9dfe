use Rattle.std.proofs.Common.{length, ap, arith}
use Rattle.m17_board_run.specs.Putting.{plain_of}
use Rattle.m17_board_run.proofs.Lists.{none_moved, one_moved}
use Rattle.m17_board_run.proofs.putting.plain_back.Goals as goal

pub loop-one-init : goal.loop-one-init
loop-one-init g c = record {
  out = none_moved plain_of c.args.kept.items c.args.shelves.items c.requires.none;
  count = (let no = ap length c.requires.none in omega (arith, no, c.args.shelves.ok.0));
  room = c.requires.room;
}

pub loop-one-preserved : goal.loop-one-preserved
loop-one-preserved g c =
    let now = c.loop-one in let before = now.invariant in let put = c.push_reserved in record {
      out = one_moved plain_of c.args.kept.items now.kept.items c.pop.new.self.items c.in-Some.one c.shelf_of.result now.shelves.items put.new.self.items
          before.out c.in-Some.ensures.items c.shelf_of.ensures put.ensures.items;
      count = omega (arith, before.count, put.ensures.len, c.in-Some.ensures.len);
      room = omega (arith, before.room, put.ensures.capacity);
    }
