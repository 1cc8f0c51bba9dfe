use Rattle.std.proofs.Common.{[], ◌∷◌, ◌++◌, refl, ap, ◌∙◌}
use Rattle.m17_stream.specs.Stream.{SpellsStream}
use Rattle.m17_book.specs.Records.{head_bytes, verdict_code, value_bytes, stream_bytes}
use Rattle.m17_book.proofs.RecordClear.{code_low}
use Rattle.m17_book.proofs.spell_record.write_record.Goals as goal

pub returns-in-Packet : goal.returns-in-Packet
returns-in-Packet c =
    let p = c.in-Packet in
    let written = c.write.ensures in
    let stream : SpellsStream p.packet (stream_bytes p.packet) = record {
      sid = written.sid;
      lsd = written.lsd;
      number = written.number;
      payload_bytes = written.payload_bytes;
      payload_length = written.payload_length;
      spelling = refl;
    } in
    let head = head_bytes 3 p.tag p.moment p.member in
    let one = c.add-in-Packet.ensures.items ∙ ap (λ xs. xs ++ c.code_of_verdict.result ∷ []) c.head-bytes-in-Packet.ensures.items
    ∙ ap (λ x. head ++ x ∷ []) c.code_of_verdict.ensures in
    let two = c.add-in-Packet-2.ensures.items ∙ ap (λ xs. xs ++ c.value_of.result) one
    ∙ ap (λ xs. head ++ (verdict_code p.verdict ∷ []) ++ xs) c.value_of.ensures.bytes in
    let three = c.add-in-Packet-3.ensures.items ∙ ap (λ xs. xs ++ c.write.result) two
    ∙ ap (λ xs. head ++ (verdict_code p.verdict ∷ []) ++ value_bytes p.verdict ++ xs) written.spelling in
    rw p.is ((c.head-bytes-in-Packet.ensures.fits, (code_low p.verdict, c.value_of.ensures.fits), stream), three)
