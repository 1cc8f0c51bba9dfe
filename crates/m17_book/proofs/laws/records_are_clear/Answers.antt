use Rattle.m17_book.proofs.OneFlaw.{one_record_flaw}
use Rattle.m17_book.proofs.RecordClear.{FieldLaws, clear}
use Rattle.m17_book.proofs.laws.records_are_clear.Goals as goal

pub returns : goal.returns
returns c =
    let law : FieldLaws = record {
      of_16 = c.fields_of_16_bits_are_exact.ensures;
      of_32 = c.fields_of_32_bits_are_exact.ensures;
      of_48 = c.fields_of_48_bits_are_exact.ensures;
      of_64 = c.fields_of_64_bits_are_exact.ensures;
      callsigns = c.each_address_has_one_callsign.ensures;
      stream = c.one_spelling.ensures;
    } in
    λ version. clear version law (one_record_flaw version)
