use Rattle.std.proofs.Common.{length, refl, ap, arith}
use Rattle.m17_board_run.specs.Putting.{plain}
use Rattle.m17_board_run.proofs.Lists.{none_moved, one_moved}
use Rattle.m17_board_run.proofs.putting.keep_plain.Goals as goal

pub loop-shelf-init : goal.loop-shelf-init
loop-shelf-init g c = record {
  put = none_moved plain c.args.shelves.items c.args.kept.items c.requires.none;
  count = (let no = ap length c.requires.none in omega (arith, no, c.args.kept.ok.0));
  room = c.requires.room;
}

pub loop-shelf-preserved : goal.loop-shelf-preserved
loop-shelf-preserved g c =
    let now = c.loop-shelf in let before = now.invariant in let put = c.push_reserved in record {
      put = one_moved plain c.args.shelves.items now.shelves.items c.pop.new.self.items c.in-Some.shelf _ now.kept.items put.new.self.items
          before.put c.in-Some.ensures.items refl put.ensures.items;
      count = omega (arith, before.count, put.ensures.len, c.in-Some.ensures.len);
      room = omega (arith, before.room, put.ensures.capacity);
    }
