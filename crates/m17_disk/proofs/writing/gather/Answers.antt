use Rattle.std.proofs.Common.{rules}
use Rattle.m17_disk.proofs.Texts.{gathered}
use Rattle.m17_disk.proofs.writing.gather.Goals as goal

pub loop-preserved : goal.loop-preserved
loop-preserved g c = record {
  slips = search rules;
  bytes = gathered c.args.slips.now.popped c.loop.slips.popped c.try_pop.new.self.popped c.loop.bytes.items
      c.try_extend_from_slice.new.self.items c.in-Some.slip c.loop.invariant.bytes (search rules) (search rules);
}
