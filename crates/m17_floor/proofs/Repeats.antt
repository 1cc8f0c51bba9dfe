-- A packet beside its sender's last admitted frame, where that has the same number or is past it, or its opening has
-- run out.
use Rattle.std.proofs.Common.{◌≡◌, ℕ, ◌+◌, ◌-◌, ◌<◌, ◌≤◌, ◌==◌, true, false, not, List, length, Option, Some, take, nat_le, inl, inr, ap, sym, ◌∙◌, arith}
use Rattle.std.proofs.lemmas.Bool.{eq-eqb, ne_eqb, lt-ltb, le-leb, and_from, not_from_false, false≢true}
use Rattle.std.specs.Option.{option_and_then}
use Rattle.m17_values.specs.declared.member.Member.{Member}
use Rattle.m17_stream.specs.declared.packet.StreamPacket.{StreamPacket}
use Rattle.m17_floor.specs.declared.act.Act.{Act}
use Rattle.m17_floor.specs.declared.act.ActKind.TheVariants.{Packet}
use Rattle.m17_floor.specs.declared.verdict.Verdict.{Verdict}
use Rattle.m17_floor.specs.Setup.{FloorSetup}
use Rattle.m17_floor.specs.Acts.{kind_at, moment_at}
use Rattle.m17_floor.specs.Rule.{stream_memory_ms, Frame, Incoming, incoming, frame_from, has_run_out, has_floor, is_compared, only_if, verdict_beside, verdict_by_frames}
use Rattle.m17_floor.specs.Floor.{Past, joined, opened_at, frame_of, frame_at, floor_frame, own_frame, admits, past_at, verdict_at}
use Rattle.m17_floor.specs.Laws.{IsLastOwn, HasPassed, PassedNumbersAreNotAdmitted, TalkedOutStreamsAreNotAdmitted}
use Rattle.m17_floor.proofs.Lines.{StandsAgainst, beside_refused, passed_number, first_refused, only_if_true}
use Rattle.m17_floor.proofs.Positions.{packet_lt, frame_front, opened_is, last_own_at, packet_verdict}

-- the member's own frame, at a position
own_at : (setup : FloorSetup) (acts : List Act) (n b : ℕ) (k : Member) (last : StreamPacket) → n ≤ length acts → IsLastOwn setup acts n b k last → own_frame (past_at setup acts n) k ≡ Some (frame_from (opened_at (past_at setup acts n) b) (incoming k (moment_at acts b) last))
unfolding own_frame
own_at setup acts n b k last h own =
    ap (option_and_then (frame_at (past_at setup acts n))) (last_own_at setup acts k last b n h own.earlier own.frame_is own.since_join own.none_later)
    ∙ frame_front setup acts n b own.earlier h
    ∙ ap (λ kind. frame_of kind (moment_at acts b) (opened_at (past_at setup acts n) b)) own.frame_is.packet_is

-- where the own frame stands against the packet, it isn't admitted
own_refused : (setup : FloorSetup) (acts : List Act) (n b : ℕ) (k : Member) (p last : StreamPacket) → kind_at acts n ≡ Packet k p → IsLastOwn setup acts n b k last → last.sid ≡ p.sid →
    StandsAgainst setup.limit (frame_from (opened_at (past_at setup acts n) b) (incoming k (moment_at acts b) last)) (incoming k (moment_at acts n) p) → admits (verdict_at setup acts n) ≡ false
own_refused setup acts n b k p last is own sid against =
    let l : n < length acts = packet_lt acts n k p is in
    let looked : Past = past_at setup acts n in
    let new : Incoming = incoming k (moment_at acts n) p in
    let frame : Frame = frame_from (opened_at looked b) (incoming k (moment_at acts b) last) in
    let age : new.at - frame.at < stream_memory_ms = omega (arith, own.recent) in
    let compared : is_compared p.sid new.at frame ≡ true = and_from _ _ (eq-eqb last.sid p.sid sid) (lt-ltb _ _ age) in
    let mine : only_if (is_compared p.sid new.at) (own_frame looked k) ≡ Some frame =
    ap (only_if (is_compared p.sid new.at)) (own_at setup acts n b k last (omega arith) own)
    ∙ only_if_true (is_compared p.sid new.at) frame compared in
    let holder : Option Frame = only_if (has_floor setup.limit new.at) (floor_frame looked) in
    let v : Verdict = verdict_by_frames setup.limit (floor_frame looked) (own_frame looked k) new in
    let refused : admits (Some v) ≡ false =
    ap (λ o. admits (Some (verdict_beside setup.limit holder o new))) mine ∙ beside_refused setup.limit holder frame new against in
    ap admits (packet_verdict setup acts n k p is)
    ∙ first_refused (take n acts) (joined looked k) v refused

-- the number has been passed
passed_against : (limit opened at now : ℕ) (k : Member) (last p : StreamPacket) → HasPassed last p.number → StandsAgainst limit (frame_from opened (incoming k at last)) (incoming k now p)
passed_against limit opened at now k last p h = elim h [
  | inl ended ↦ inl ended
  | inr past ↦ elim (passed_number p.number last.number p.numbered last.numbered past) [ inl same ↦ inr (inl same) | inr far ↦ inr (inr (inl far)) ]
]

pub passed_is_refused : PassedNumbersAreNotAdmitted
passed_is_refused =
    λ setup acts n b k p last is own sid past admitted.
    false≢true (sym (own_refused setup acts n b k p last is own sid (passed_against setup.limit (opened_at (past_at setup acts n) b) (moment_at acts b) (moment_at acts n) k last p past)) ∙ admitted)

run_out_from : (limit at opened : ℕ) → (limit ≡ 0 → ⊥) → opened + limit ≤ at → has_run_out limit at opened ≡ true
run_out_from limit at opened ne le = and_from (not (limit == 0)) (nat_le limit (at - opened)) (not_from_false (limit == 0) (ne_eqb limit 0 ne)) (le-leb limit (at - opened) (omega arith))

pub talked_out_is_refused : TalkedOutStreamsAreNotAdmitted
talked_out_is_refused =
    λ setup acts n b k p last is own sid out admitted.
    let l : n < length acts = packet_lt acts n k p is in
    let opened : ℕ = opened_at (past_at setup acts n) b in
    let begun : opened ≡ moment_at acts out.o = opened_is setup acts out.o b n (omega arith) out.earlier own.earlier out.opening in
    let le : opened + setup.limit ≤ moment_at acts n = omega (arith, begun, out.passed) in
    false≢true (sym (own_refused setup acts n b k p last is own sid (inr (inr (inr (run_out_from setup.limit (moment_at acts n) opened out.limited le))))) ∙ admitted)
