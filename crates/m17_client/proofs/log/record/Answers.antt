use Rattle.std.proofs.Common.{◌≡◌, ◌++◌, ◌∙◌, ap, length, rules}
use Rattle.m17_fields.specs.Fields.{be_16, be_64}
use Rattle.m17_client.specs.TalkDevices.{kept_record}
use Rattle.m17_client.proofs.Logged.{three_fields}
use Rattle.m17_client.proofs.log.record.Goals as goal

pub returns : goal.returns
unfolding kept_record
returns c =
    let long : length c.write.result ≡ 54 = search rules in
    let whole : length c.put-3.new.bytes ≡ 64 =
    c.put-3.ensures.whole ∙ c.put-2.ensures.whole ∙ c.put.ensures.whole in
    three_fields c.to_be_bytes.result c.to_be_bytes-2.result c.write.result
    c.put.new.bytes c.put-2.new.bytes c.put-3.new.bytes
    (ap length c.to_be_bytes.ensures) (ap length c.to_be_bytes-2.ensures) long whole
    c.put.ensures.front c.put-2.ensures.front c.put-3.ensures.front
    ∙ ap (λ x. x ++ c.to_be_bytes-2.result ++ c.write.result) c.to_be_bytes.ensures
    ∙ ap (λ x. be_64 c.args.moment ++ x ++ c.write.result) c.to_be_bytes-2.ensures
    ∙ ap (λ x. be_64 c.args.moment ++ be_16 0 ++ x) c.write.ensures.spelling
