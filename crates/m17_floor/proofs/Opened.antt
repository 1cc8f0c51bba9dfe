-- The moment at which the floor was opened for a packet that is admitted.
use Rattle.std.proofs.Common.{◌≡◌, ℕ, zero, suc, ◌<◌, ◌≤◌, Bool, true, false, [], ◌∷◌, length, Option, None, Some, inl, inr, refl, ap, sym, ◌∙◌, arith}
use Rattle.std.proofs.lemmas.Bool.{cases_eq, cond-true, cond-false, false_from_ne_true}
use Rattle.std.specs.Option.{option_map_or}
use Rattle.m17_values.specs.declared.member.Member.{Member}
use Rattle.m17_stream.specs.declared.packet.StreamPacket.{StreamPacket}
use Rattle.m17_floor.specs.declared.act.Act.{Act}
use Rattle.m17_floor.specs.declared.verdict.Verdict.{Verdict}
use Rattle.m17_floor.specs.declared.verdict.Verdict.TheVariants.{Opened, Continued, Busy, Repeat, Late, AfterEnd, TimedOut, NotMember, ListenOnly}
use Rattle.m17_lookup.specs.Lookup.{last_below}
use Rattle.m17_floor.specs.Acts.{with_act, moment_at}
use Rattle.m17_floor.specs.Rule.{Frame, Incoming, incoming, has_floor, is_compared, only_if, frame_from, opened_by, frame_beside, verdict_by_frames}
use Rattle.m17_floor.specs.Floor.{Past, given, was_opened, was_admitted, opens, admits, opening_of, opened_at, last_admitted, floor_frame, own_frame}
use Rattle.m17_floor.specs.StandsFor.{packet_act}
use Rattle.m17_floor.specs.Kept.{continues}
use Rattle.m17_floor.proofs.Frames.{map_or_same}
use Rattle.m17_floor.proofs.InRule.{IsStayed, floor_from}
use Rattle.m17_floor.proofs.Lines.{IsContinued, beside_continued, beside_opened, only_if_from, admitted_is}
use Rattle.m17_floor.proofs.OneMore.{grown, IsWhole, moment_there, moment_end, given_before, given_end}
use Rattle.m17_floor.proofs.Prefix.{moment_at_same}
use Rattle.m17_lookup.proofs.LastBelow.{last_below_suc, last_below_same, last_below_lt, last_below_ge}

-- what opens the floor is admitted
opened_admits : (v : Option Verdict) → opens v ≡ true → admits v ≡ true
opened_admits None e = cc
opened_admits (Some Opened) e = refl
opened_admits (Some Continued) e = cc
opened_admits (Some (Busy m)) e = cc
opened_admits (Some Repeat) e = cc
opened_admits (Some (Late y)) e = cc
opened_admits (Some AfterEnd) e = cc
opened_admits (Some TimedOut) e = cc
opened_admits (Some NotMember) e = cc
opened_admits (Some ListenOnly) e = cc

-- a test that nothing from a on passes
below_gap : (test : ℕ → Bool) (n a : ℕ) → a < n → ((m : ℕ) → a < m → m < n → test m ≡ false) → last_below test n ≡ last_below test (suc a)
below_gap test zero a l h = absurd (omega arith)
below_gap test (suc n) a l h = elim (cases_eq a n) [
  | inl here ↦ ap (λ x. last_below test (suc x)) (sym here)
  | inr other ↦
      let under : a < n = omega arith in
      let e : test n ≡ false = h n under (omega arith) in
      last_below_suc test n ∙ cond-false (test n) (Some n) (last_below test n) e ∙ below_gap test n a under (λ m p q. h m p (omega arith))
]

-- the moment of an opening, where the new act is opened, and where it isn't
opened_here : (past : Past) (act : Act) → IsWhole past → opened_at (grown past act (Some Opened)) (length past.acts) ≡ moment_there past.acts act.at
opened_here past act len =
    let n : ℕ = length past.acts in
    let test : ℕ → Bool = was_opened (grown past act (Some Opened)) in
    let here : test n ≡ true = ap opens (given_end past act (Some Opened) len) in
    ap (λ o. option_map_or (moment_at (with_act past.acts act)) o 0) (last_below_suc test n ∙ cond-true (test n) (Some n) (last_below test n) here)
    ∙ moment_end past.acts act

opened_earlier : (past : Past) (act : Act) (a : ℕ) → IsWhole past → last_admitted past ≡ Some a → opened_at (grown past act (Some Continued)) (length past.acts) ≡ opened_at past a
opened_earlier past act a len last =
    let n : ℕ = length past.acts in
    let longer : Past = grown past act (Some Continued) in
    let test : ℕ → Bool = was_opened longer in
    let below : a < n = last_below_lt (was_admitted past) n a last in
    let here : test n ≡ false = ap opens (given_end past act (Some Continued) len) in
    let none : (m : ℕ) → a < m → m < n → was_opened past m ≡ false =
    λ m above under. false_from_ne_true (was_opened past m) (λ t. let le : m ≤ a = last_below_ge (was_admitted past) n a m last (opened_admits (given past m) t) under in absurd (omega arith)) in
    let found : opening_of longer n ≡ opening_of past a =
    last_below_suc test n
    ∙ cond-false (test n) (Some n) (last_below test n) here
    ∙ last_below_same test (was_opened past) n (λ m l. ap opens (given_before past act (Some Continued) m len l))
    ∙ below_gap (was_opened past) n a below none in
    ap (λ o. option_map_or (moment_at (with_act past.acts act)) o 0) found
    ∙ map_or_same (opening_of past a) _ _ 0 (λ o e. moment_at_same past.acts (act ∷ []) o (omega (arith, last_below_lt (was_opened past) (suc a) o e)))

-- An admitted packet is of the opening of the frame that has the floor, and opens it where none has.
pub opening_kept : (past : Past) (moment : ℕ) (k : Member) (p : StreamPacket) (v : Verdict) → IsWhole past →
    v ≡ verdict_by_frames past.setup.limit (floor_frame past) (own_frame past k) (incoming k (moment_there past.acts moment) p) → admits (Some v) ≡ true →
    opened_at (grown past (packet_act moment k p) (Some v)) (length past.acts) ≡ opened_by (only_if (has_floor past.setup.limit (moment_there past.acts moment)) (floor_frame past)) (moment_there past.acts moment)
opening_kept past moment k p v len is a =
    let act : Act = packet_act moment k p in
    let at : ℕ = moment_there past.acts moment in
    let new : Incoming = incoming k at p in
    let limit : ℕ = past.setup.limit in
    let holder : Option Frame = only_if (has_floor limit at) (floor_frame past) in
    let own : Option Frame = only_if (is_compared p.sid at) (own_frame past k) in
    elim (admitted_is v a) [
      | inl opened ↦
          let none : holder ≡ None = beside_opened limit holder own new (sym is ∙ opened) in
          ap (λ x. opened_at (grown past act (Some x)) (length past.acts)) opened
          ∙ opened_here past act len
          ∙ sym (ap (λ o. opened_by o at) none)
      | inr on ↦
          let continued : IsContinued holder own new = beside_continued limit holder own new (sym is ∙ on) in
          let f : Frame = continued.frame in
          let floor = only_if_from (has_floor limit at) (floor_frame past) f continued.holder_is in
          let from = floor_from past f floor.0 in
          let stayed : IsStayed past from.0 f = from.2 in
          ap (λ x. opened_at (grown past act (Some x)) (length past.acts)) on
          ∙ opened_earlier past act from.0 len from.1
          ∙ ap (λ (g : Frame). g.opened) stayed.frame_is
          ∙ sym (ap (λ o. opened_by o at) continued.holder_is)
    ]

-- A frame that is left out of account opens nothing.
never_opened : (floor : Option Frame) (at : ℕ) → opened_by (only_if (λ frame. false) floor) at ≡ at
never_opened None at = refl
never_opened (Some f) at = refl

-- The verdict on an admitted packet tells which opening it is of.
opening_told : (limit : ℕ) (floor own : Option Frame) (new : Incoming) (v : Verdict) →
    v ≡ verdict_by_frames limit floor own new → admits (Some v) ≡ true →
    opened_by (only_if (λ frame. continues v) floor) new.at ≡ opened_by (only_if (has_floor limit new.at) floor) new.at
opening_told limit floor own new v is a =
    let holder : Option Frame = only_if (has_floor limit new.at) floor in
    let compared : Option Frame = only_if (is_compared new.packet.sid new.at) own in
    elim (admitted_is v a) [
      | inl opened ↦
          let none : holder ≡ None = beside_opened limit holder compared new (sym is ∙ opened) in
          ap (λ x. opened_by (only_if (λ frame. continues x) floor) new.at) opened
          ∙ never_opened floor new.at
          ∙ sym (ap (λ o. opened_by o new.at) none)
      | inr on ↦
          let continued : IsContinued holder compared new = beside_continued limit holder compared new (sym is ∙ on) in
          let found = only_if_from (has_floor limit new.at) floor continued.frame continued.holder_is in
          ap (λ x. opened_by (only_if (λ frame. continues x) floor) new.at) on
          ∙ ap (λ o. opened_by (only_if (λ frame. true) o) new.at) found.0
          ∙ sym (ap (λ o. opened_by o new.at) continued.holder_is)
    ]

-- What is kept of an admitted packet, by its verdict.
pub kept_told : (limit : ℕ) (floor own : Option Frame) (new : Incoming) (v : Verdict) →
    v ≡ verdict_by_frames limit floor own new → admits (Some v) ≡ true →
    frame_from (opened_by (only_if (λ frame. continues v) floor) new.at) new ≡ frame_beside limit floor new
kept_told limit floor own new v is a = ap (λ x. frame_from x new) (opening_told limit floor own new v is a)
