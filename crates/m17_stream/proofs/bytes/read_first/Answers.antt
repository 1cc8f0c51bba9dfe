use Rattle.std.proofs.Common.{◌≡◌, length, take, drop, sym, ap, ◌∙◌, rules}
use Rattle.m17_fields.specs.Fields.{be_16}
use Rattle.m17_crc.specs.Crc.{crc_of}
use Rattle.m17_stream.proofs.Packets.{spells, last_two}
use Rattle.m17_stream.specs.Stream.{magic}
use Rattle.m17_stream.proofs.bytes.read_first.Goals as goal

pub returns-then-found-expected : goal.returns-then-found-expected
returns-then-found-expected c =
    let same : c.in-Some.b.now ≡ c.args.b.now = c.in-Some.ensures.cases.same in
    let long : length c.args.b.now ≡ 54 = c.in-Some.ensures.cases.long in
    let m : take 4 c.args.b.now ≡ magic = search rules in (
      long,
      m,
      c.get_16-found.type_inv,
      c.get_16-found.ensures ∙ ap (λ x. take 2 (drop 52 x)) same ∙ last_two c.args.b.now long,
      c.crc-expected.ensures ∙ ap (λ x. crc_of (take 52 x)) same,
      c.if-found-expected.true,
    )

pub returns : goal.returns
returns c =
    let same : c.in-Some.b.now ≡ c.args.b.now = c.in-Some.ensures.cases.same in
    let long : length c.in-Some.b.now ≡ 54 = ap length same ∙ c.in-Some.ensures.cases.long in
    let m : take 4 c.in-Some.b.now ≡ magic = search rules in
    let crc : be_16 (crc_of (take 52 c.in-Some.b.now)) ≡ drop 52 c.in-Some.b.now =
    ap (be_16) (sym c.crc-expected.ensures ∙ sym c.if-found-expected.false) ∙ c.get_16-found.ensures ∙ last_two c.in-Some.b.now long in
    let all = spells c.fields.result c.in-Some.b.now long c.fields.ensures m crc in
    rw same at all
