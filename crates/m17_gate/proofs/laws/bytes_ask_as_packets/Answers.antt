use Rattle.m17_gate.proofs.AskingLemmas.{LowerLaws, spelled, refused}
use Rattle.m17_gate.proofs.laws.bytes_ask_as_packets.Goals as goal

pub returns : goal.returns
returns c =
    let laws : LowerLaws = record {
      fields = c.fields_of_16_bits_are_exact.ensures;
      remainders = c.crc_has_16_bits.ensures;
      callsigns = c.each_address_has_one_callsign.ensures;
    } in
    record { spelled = spelled laws; refused = refused laws }
