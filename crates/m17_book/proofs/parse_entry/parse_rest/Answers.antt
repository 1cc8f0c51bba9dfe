use Rattle.std.proofs.Common.{◌<◌, ◌^◌, arith}
use Rattle.std.proofs.lemmas.List.Elements.{All-from_get_or}
use Rattle.m17_book.proofs.Entry.{begins_datagram}
use Rattle.m17_book.proofs.parse_entry.parse_rest.Goals as goal

pub returns : goal.returns
returns c =
    let b = c.args.b.now in
    begins_datagram b c.address_of.result c.of-bytes.result c.args.size c.get_64-at.result c.get_16.result c.from.result c.requires.family (record {
      all = All-from_get_or (λ byte. byte < 2 ^ 8) b 0 (λ i _. omega (arith, c.type_inv.b i));
      all_ip = c.address_of.ensures.bytes;
      within = omega arith;
      kind = c.requires.kind;
      address = c.address_of.ensures.address;
      moment = c.get_64-at.ensures;
      at_fits = omega arith;
      port_fits = omega arith;
      port_is = c.get_16.ensures;
      len_is = c.from.ensures;
      low = omega arith;
      bytes_are = c.of-bytes.ensures.first;
    })
