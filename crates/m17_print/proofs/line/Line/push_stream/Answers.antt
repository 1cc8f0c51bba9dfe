use Rattle.m17_print.proofs.Parts.{stream_appended}
use Rattle.m17_print.proofs.line.Line.push_stream.Goals as goal

pub returns-clause-appended : goal.returns-clause-appended
returns-clause-appended c =
    stream_appended c.args.packet.now c.to_be_bytes.result c.args.self.now c.push_hex_field.new.self c.push_ends.new.self c.push_type_field.new.self
    c.push_hex_field-2.new.self c.push_frame_number.new.self c.push_hex_field-3.new.self c.to_be_bytes.ensures
    c.push_hex_field.ensures.appended c.push_ends.ensures.appended c.push_type_field.ensures.appended
    c.push_hex_field-2.ensures.appended c.push_frame_number.ensures.appended c.push_hex_field-3.ensures.appended
