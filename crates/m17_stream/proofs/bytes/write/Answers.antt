use Rattle.std.proofs.Common.{◌≡◌, ◌<◌, ◌^◌, ◌++◌, length, take, refl, ap, ◌∙◌, rules, arith}
use Rattle.m17_fields.specs.Fields.{be_16}
use Rattle.m17_crc.specs.Crc.{crc_of}
use Rattle.m17_lsd.specs.Lsd.{lsd_bytes}
use Rattle.m17_stream.specs.Stream.{magic, front_bytes}
use Rattle.m17_stream.proofs.Places.{written}
use Rattle.m17_stream.proofs.bytes.write.Goals as goal

pub returns : goal.returns
returns c =
    let p = c.args.p.now in
    let fits = c.write.ensures.fits in
    let sid : p.sid < 2 ^ 16 = search rules in
    let long : length p.payload ≡ 16 = search rules in
    let lsd : length c.write.result ≡ 28 = ap length c.write.ensures.bytes ∙ omega (arith, fits.meta_length) in
    let parts = written magic c.to_be_bytes.result c.write.result c.to_be_bytes-2.result p.payload c.to_be_bytes-3.result
    c.put.new.bytes c.put-2.new.bytes c.put-3.new.bytes c.put-4.new.bytes c.put-5.new.bytes c.put-6.new.bytes
    refl (ap length c.to_be_bytes.ensures) lsd (ap length c.to_be_bytes-2.ensures) long (ap length c.to_be_bytes-3.ensures) (c.put-6.ensures.whole ∙ c.put-5.ensures.whole ∙ c.put-4.ensures.whole ∙ c.put-3.ensures.whole ∙ c.put-2.ensures.whole ∙ c.put.ensures.whole)
    c.put.ensures.front c.put-2.ensures.front c.put-3.ensures.front c.put-4.ensures.front c.put-5.ensures.front c.put-6.ensures.front in
    let front : take 52 c.put-5.new.bytes ≡ front_bytes p = parts.0
    ∙ ap (λ x. magic ++ x ++ c.write.result ++ c.to_be_bytes-2.result ++ p.payload) c.to_be_bytes.ensures
    ∙ ap (λ x. magic ++ be_16 p.sid ++ x ++ c.to_be_bytes-2.result ++ p.payload) c.write.ensures.bytes
    ∙ ap (λ x. magic ++ be_16 p.sid ++ lsd_bytes p.lsd ++ x ++ p.payload) (c.to_be_bytes-2.ensures ∙ ap (be_16) c.field.ensures) in
    record {
      sid = sid;
      lsd = fits;
      number = p.numbered;
      payload_bytes = c.put-5.ensures.bytes;
      payload_length = long;
      spelling = parts.1
          ∙ ap (λ x. x ++ c.to_be_bytes-3.result) front
          ∙ ap (λ x. front_bytes p ++ x) (c.to_be_bytes-3.ensures ∙ ap (be_16) (c.crc-crc.ensures ∙ ap crc_of front));
    }
