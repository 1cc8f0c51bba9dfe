use Rattle.std.proofs.Common.{sym, ap, ◌∙◌}
use Rattle.m17_fields.specs.Fields.{be_16}
use Rattle.m17_decorators.proofs.Packets.{front_length, written_whole}
use Rattle.m17_decorators.proofs.filled.with_crc.Goals as goal

pub slice_bounds-front-end : goal.slice_bounds-front-end
slice_bounds-front-end c = sym (front_length c.args.bytes.now c.requires)

pub returns : goal.returns
returns c = c.of.ensures.first
    ∙ written_whole c.args.bytes.now c.put.new.bytes c.put-2.new.bytes c.to_be_bytes.result
    c.requires c.put.ensures.whole c.put-2.ensures.whole c.put.ensures.front c.put-2.ensures.front
    (c.to_be_bytes.ensures ∙ ap be_16 c.crc.ensures)
