use Rattle.std.proofs.Common.{◌≡◌, ℕ, suc, ◌+◌, true, take, Some, ap, sym, ◌∙◌, arith}
use Rattle.m17_values.specs.declared.member.Member.{Member}
use Rattle.m17_stream.specs.declared.packet.StreamPacket.{StreamPacket}
use Rattle.m17_floor.specs.declared.act.ActKind.TheVariants.{Packet}
use Rattle.m17_floor.specs.Setup.{floor_setup}
use Rattle.m17_floor.specs.Acts.{greatest_moment, kind_at, moment_at}
use Rattle.m17_floor.specs.Rule.{incoming, frame_from}
use Rattle.m17_floor.specs.Floor.{Past, opened_at, is_in_since, last_admitted}
use Rattle.m17_floor.specs.Plain.{past_answered}
use Rattle.m17_floor.proofs.Openings.{floor_at}
use Rattle.m17_floor.proofs.plain.floor.Goals as goal

pub returns-in-Packet-clause-frame : goal.returns-in-Packet-clause-frame
returns-in-Packet-clause-frame c =
    let past : Past = past_answered (floor_setup c.args.places c.args.limit) c.args.acts.now c.args.answered.now in
    let a : ℕ = c.in-Some.a in
    let k : Member = c.in-Packet.member in
    let p : StreamPacket = c.in-Packet.packet in
    let last : last_admitted past ≡ Some a = sym c.last_admitted.ensures.found ∙ c.in-Some.is in
    let is : kind_at past.acts a ≡ Packet k p = sym c.kind.ensures ∙ c.in-Packet.is in
    let since : is_in_since past k a ≡ true = sym c.is_in_since.ensures ∙ c.if-is_in_since.true in
    let next : a + 1 ≡ suc a = omega arith in
    let at : c.moment.result ≡ moment_at past.acts a = c.moment.ensures ∙ ap (λ (i : ℕ). greatest_moment (take i past.acts)) next in
    c.of.ensures.frame
    ∙ ap (λ x. Some (frame_from x (incoming k c.moment.result p))) c.opened-opened.ensures
    ∙ ap (λ x. Some (frame_from (opened_at past a) (incoming k x p))) at
    ∙ sym (floor_at past a k p last is since)
