use Rattle.m17_book.proofs.BookExact.{books_are_exact}
use Rattle.m17_book.proofs.OneFlaw.{one_record_flaw}
use Rattle.m17_book.proofs.RecordClear.{FieldLaws, clear}
use Rattle.m17_book.proofs.RecordReads.{reads_record}
use Rattle.m17_book.proofs.laws.books_are_exact.Goals as goal

pub returns : goal.returns
returns c =
    let law : FieldLaws = record {
      of_16 = c.fields_of_16_bits_are_exact.ensures;
      of_32 = c.fields_of_32_bits_are_exact.ensures;
      of_48 = c.fields_of_48_bits_are_exact.ensures;
      of_64 = c.fields_of_64_bits_are_exact.ensures;
      callsigns = c.each_address_has_one_callsign.ensures;
      stream = c.one_spelling.ensures;
    } in
    λ version. books_are_exact version (clear version law (one_record_flaw version)) law.of_64 (reads_record version c.reading_is_exact.ensures law)
