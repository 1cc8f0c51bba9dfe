use Rattle.std.proofs.Common.{◌∙◌, inr, ap, Err}
use Rattle.m17_stream.specs.declared.packet.StreamRefusal.TheVariants.{Length, Magic, Crc}
use Rattle.m17_control.proofs.Parts.{no_stream_magic}
use Rattle.m17_control.proofs.reader.decode_first.Goals as goal

pub control-requires : goal.control-requires
control-requires c =
    let refused = (c.in-Err-Length.ensures.err (Length c.in-Err-Length.field-0-0)).0 (ap Err c.in-Err-Length.field-0-is) in
    refused.1

pub returns-in-Err-Magic : goal.returns-in-Err-Magic
returns-in-Err-Magic c =
    let refused = (c.in-Err-Magic.ensures.err (Magic c.in-Err-Magic.magic)).0 (ap Err c.in-Err-Magic.field-0-is) in
    (inr (inr (inr refused.0)), refused.1, no_stream_magic c.args.b.now refused.0 (λ e. refused.2 (refused.1 ∙ e)))

pub returns-in-Err-Crc : goal.returns-in-Err-Crc
returns-in-Err-Crc c =
    let refused = (c.in-Err-Crc.ensures.err (Crc c.in-Err-Crc.found c.in-Err-Crc.expected)).0 (ap Err c.in-Err-Crc.field-0-is) in
    (refused.0, inr (inr (inr (refused.0, refused.1))), refused.2, refused.3, refused.4, refused.5)
