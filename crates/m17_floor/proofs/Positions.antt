-- What is looked back on at a position of a list.
use Rattle.std.proofs.Common.{◌≡◌, ℕ, zero, suc, ◌<◌, ◌≤◌, ◌&&◌, Bool, true, false, List, [], ◌∷◌, ◌++◌, length, take, drop, Option, None, Some, slice_get, unwrap_or, nat_lt, inl, inr, refl, ap, sym, ◌∙◌, arith}
use Rattle.std.proofs.lemmas.Bool.{cases_eq, cases_lt, lt-ltb, and_from, and_parts, false_from_ne_true}
use Rattle.std.proofs.lemmas.List.{take-append-drop, length-take-le}
use Rattle.std.proofs.lemmas.Option.{slice_get_past}
use Rattle.std.specs.Option.{option_map_or}
use Rattle.m17_values.specs.declared.member.Member.{Member}
use Rattle.m17_stream.specs.declared.packet.StreamPacket.{StreamPacket}
use Rattle.m17_floor.specs.declared.act.Act.{Act}
use Rattle.m17_floor.specs.declared.act.ActKind.{ActKind}
use Rattle.m17_floor.specs.declared.act.ActKind.TheVariants.{Join, Leave, Packet, Other}
use Rattle.m17_floor.specs.declared.verdict.Verdict.{Verdict}
use Rattle.m17_floor.specs.declared.verdict.Verdict.TheVariants.{Opened, Continued, Busy, Repeat, Late, AfterEnd, TimedOut, NotMember, ListenOnly}
use Rattle.m17_floor.specs.Setup.{FloorSetup}
use Rattle.m17_floor.specs.Acts.{kind_or_other, kind_at, moment_at, is_packet, joined_at}
use Rattle.m17_floor.specs.Rule.{incoming}
use Rattle.m17_floor.specs.Floor.{Past, was_opened, was_admitted, joined, is_in_since, opening_of, opened_at, frame_of, frame_at, last_admitted, is_packet_of, last_own, listens, verdict_after, verdict_given, opens, admits, verdicts_before, past_at, verdict_at, IsAdmitted}
use Rattle.m17_floor.specs.Laws.{HasStayed, NoneAdmittedBetween, IsAdmittedPacket, IsOneOpening}
use Rattle.m17_floor.proofs.Frames.{own_test}
use Rattle.m17_floor.proofs.InRule.{after_stranger, after_listener, none_given, since_from}
use Rattle.m17_lookup.proofs.LastBelow.{last_below_is}
use Rattle.m17_floor.proofs.Members.{is_same_self, same_from_is_same}
use Rattle.m17_floor.proofs.OneMore.{one_before, one_end, length_verdicts}
use Rattle.m17_floor.proofs.Prefix.{kind_before, moment_at_same, joined_before, joined_lt}

-- a packet stands within the list
pub packet_lt : (acts : List Act) (n : ℕ) (k : Member) (p : StreamPacket) → kind_at acts n ≡ Packet k p → n < length acts
packet_lt acts n k p e =
    elim (cases_lt n (length acts)) [
      | inl within ↦ within
      | inr past ↦ let other : kind_at acts n ≡ Other = ap kind_or_other (slice_get_past acts n past) in absurd (cc)
    ]

-- what is looked up in the acts before a position
pub kind_front : (acts : List Act) (n a : ℕ) → a < n → n ≤ length acts → kind_at (take n acts) a ≡ kind_at acts a
kind_front acts n a l h =
    let short : a < length (take n acts) = omega (arith, length-take-le n acts h) in
    sym (kind_before (take n acts) (drop n acts) a short) ∙ ap (λ xs. kind_at xs a) (take-append-drop n acts)

pub moment_front : (acts : List Act) (n a : ℕ) → a < n → n ≤ length acts → moment_at (take n acts) a ≡ moment_at acts a
moment_front acts n a l h =
    let short : a < length (take n acts) = omega (arith, length-take-le n acts h) in
    sym (moment_at_same (take n acts) (drop n acts) a short) ∙ ap (λ xs. moment_at xs a) (take-append-drop n acts)

pub joined_front : (setup : FloorSetup) (acts : List Act) (k : Member) (n : ℕ) → n ≤ length acts → joined (past_at setup acts n) k ≡ joined_at setup.places acts k n
joined_front setup acts k n h =
    let len : length (take n acts) ≡ n = length-take-le n acts h in
    ap (joined_at setup.places (take n acts) k) len
    ∙ sym (joined_before setup.places (take n acts) (drop n acts) k n (omega arith))
    ∙ ap (λ xs. joined_at setup.places xs k n) (take-append-drop n acts)

pub frame_front : (setup : FloorSetup) (acts : List Act) (n a : ℕ) → a < n → n ≤ length acts → frame_at (past_at setup acts n) a ≡ frame_of (kind_at acts a) (moment_at acts a) (opened_at (past_at setup acts n) a)
frame_front setup acts n a l h =
    let opened : ℕ = opened_at (past_at setup acts n) a in
    ap (λ kind. frame_of kind (moment_at (take n acts) a) opened) (kind_front acts n a l h)
    ∙ ap (λ at. frame_of (kind_at acts a) at opened) (moment_front acts n a l h)

-- what was given is the verdicts
pub given_is : (setup : FloorSetup) (acts : List Act) (n a : ℕ) → a < n → unwrap_or (slice_get (verdicts_before setup acts n) a) None ≡ verdict_at setup acts a
unfolding verdicts_before verdict_at
given_is setup acts zero a h = absurd (omega arith)
given_is setup acts (suc n) a h =
    let before : List (Option Verdict) = verdicts_before setup acts n in
    let v : Option Verdict = verdict_at setup acts n in
    elim (cases_eq a n) [
      | inl here ↦ ap (λ x. unwrap_or (slice_get (before ++ v ∷ []) x) None) here ∙ one_end before v n (length_verdicts setup acts n) ∙ ap (λ x. verdict_at setup acts x) (sym here)
      | inr other ↦
          let below : a < n = omega arith in
          one_before before v a (omega (arith, length_verdicts setup acts n)) ∙ given_is setup acts n a below
    ]

-- what was admitted is a matter of the verdicts
pub bit_is : (setup : FloorSetup) (acts : List Act) (n a : ℕ) → a < n → was_admitted (past_at setup acts n) a ≡ admits (verdict_at setup acts a)
bit_is setup acts n a h = ap admits (given_is setup acts n a h)

pub refused_is : (setup : FloorSetup) (acts : List Act) (a : ℕ) → (IsAdmitted setup acts a → ⊥) → admits (verdict_at setup acts a) ≡ false
refused_is setup acts a refused = false_from_ne_true (admits (verdict_at setup acts a)) refused

-- the last admitted position below n
pub last_admitted_at : (setup : FloorSetup) (acts : List Act) (a n : ℕ) → n ≤ length acts → a < n → IsAdmitted setup acts a → NoneAdmittedBetween setup acts a n → last_admitted (past_at setup acts n) ≡ Some a
last_admitted_at setup acts a n h l admitted none =
    let test : ℕ → Bool = was_admitted (past_at setup acts n) in
    let len : length (take n acts) ≡ n = length-take-le n acts h in
    last_below_is test (length (take n acts)) a (omega arith) (bit_is setup acts n a l ∙ admitted)
    (λ m p q. let below : m < n = omega arith in bit_is setup acts n m below ∙ refused_is setup acts m (none m p below))

opens_is : (v : Option Verdict) → opens v ≡ true → v ≡ Some Opened
opens_is None e = cc
opens_is (Some Opened) e = refl
opens_is (Some Continued) e = cc
opens_is (Some (Busy m)) e = cc
opens_is (Some Repeat) e = cc
opens_is (Some (Late y)) e = cc
opens_is (Some AfterEnd) e = cc
opens_is (Some TimedOut) e = cc
opens_is (Some NotMember) e = cc
opens_is (Some ListenOnly) e = cc

-- the moment of the opening of a position below n
pub opened_is : (setup : FloorSetup) (acts : List Act) (o a n : ℕ) → n ≤ length acts → o ≤ a → a < n → IsOneOpening setup acts o a → opened_at (past_at setup acts n) a ≡ moment_at acts o
opened_is setup acts o a n h oa an one =
    let test : ℕ → Bool = was_opened (past_at setup acts n) in
    let here : test o ≡ true = ap opens (given_is setup acts n o (omega arith) ∙ one.opened) in
    let found : opening_of (past_at setup acts n) a ≡ Some o =
    last_below_is test (suc a) o (omega arith) here
    (λ m p q. let le : m ≤ a = omega arith in
    ap opens (given_is setup acts n m (omega arith)) ∙ false_from_ne_true (opens (verdict_at setup acts m)) (λ e. one.no_other m p le (opens_is (verdict_at setup acts m) e))) in
    ap (λ x. option_map_or (moment_at (take n acts)) x 0) found
    ∙ moment_front acts n o (omega arith) h

-- who has been in since before a position
pub stayed_front : (setup : FloorSetup) (acts : List Act) (k : Member) (a n : ℕ) → n ≤ length acts → HasStayed setup.places acts k a n → is_in_since (past_at setup acts n) k a ≡ true
stayed_front setup acts k a n h s =
    ap (λ o. option_map_or (λ j. nat_lt j a) o false) (joined_front setup acts k n h ∙ s.1) ∙ lt-ltb s.0 a s.2

pub stayed_back : (setup : FloorSetup) (acts : List Act) (k : Member) (a n : ℕ) → n ≤ length acts → is_in_since (past_at setup acts n) k a ≡ true → HasStayed setup.places acts k a n
stayed_back setup acts k a n h s =
    let found = since_from (joined (past_at setup acts n) k) a s in
    (found.0, sym (joined_front setup acts k n h) ∙ found.1, found.2)

-- No act without a packet has a verdict.
pub no_verdict : (setup : FloorSetup) (acts : List Act) (n : ℕ) → is_packet (kind_at acts n) ≡ false → verdict_at setup acts n ≡ None
unfolding verdict_at
no_verdict setup acts n h = none_given (past_at setup acts n) (moment_at acts n) (kind_at acts n) h

-- the verdict on a packet
pub packet_verdict : (setup : FloorSetup) (acts : List Act) (n : ℕ) (k : Member) (p : StreamPacket) → kind_at acts n ≡ Packet k p → verdict_at setup acts n ≡ Some (verdict_after (past_at setup acts n) (incoming k (moment_at acts n) p))
unfolding verdict_at verdict_given
packet_verdict setup acts n k p e = ap (verdict_given (past_at setup acts n) (moment_at acts n)) e

pub stranger_verdict : (setup : FloorSetup) (acts : List Act) (n : ℕ) (k : Member) (p : StreamPacket) → kind_at acts n ≡ Packet k p → joined_at setup.places acts k n ≡ None → verdict_at setup acts n ≡ Some NotMember
stranger_verdict setup acts n k p e out =
    let l : n < length acts = packet_lt acts n k p e in
    packet_verdict setup acts n k p e
    ∙ ap Some (after_stranger (past_at setup acts n) (incoming k (moment_at acts n) p) (joined_front setup acts k n (omega arith) ∙ out))

pub listener_verdict : (setup : FloorSetup) (acts : List Act) (n : ℕ) (k : Member) (p : StreamPacket) (j : ℕ) → kind_at acts n ≡ Packet k p → joined_at setup.places acts k n ≡ Some j → listens (kind_at acts j) ≡ true → verdict_at setup acts n ≡ Some ListenOnly
listener_verdict setup acts n k p j e is_in only =
    let l : n < length acts = packet_lt acts n k p e in
    packet_verdict setup acts n k p e
    ∙ ap Some
    (after_listener (past_at setup acts n) (incoming k (moment_at acts n) p) j (joined_front setup acts k n (omega arith) ∙ is_in)
    (ap listens (kind_front acts n j (joined_lt setup.places acts k n j is_in) (omega arith)) ∙ only))

-- an admitted packet of the member
own_packet_absurd : (setup : FloorSetup) (acts : List Act) (k : Member) (m : ℕ) (kind : ActKind) → kind_at acts m ≡ kind → IsAdmitted setup acts m → is_packet_of k (kind_at acts m) ≡ true → ((q : StreamPacket) → IsAdmittedPacket setup acts m k q → ⊥) → ⊥
own_packet_absurd setup acts k m (Packet s q) e admitted of_k none =
    let same : s ≡ k = same_from_is_same s k (ap (is_packet_of k) (sym e) ∙ of_k) in
    none q (record { packet_is = e ∙ ap (λ x. Packet x q) same; admitted = admitted })
own_packet_absurd setup acts k m (Join s only) e admitted of_k none = let no : is_packet_of k (kind_at acts m) ≡ false = ap (is_packet_of k) e in cc
own_packet_absurd setup acts k m (Leave s) e admitted of_k none = let no : is_packet_of k (kind_at acts m) ≡ false = ap (is_packet_of k) e in cc
own_packet_absurd setup acts k m Other e admitted of_k none = let no : is_packet_of k (kind_at acts m) ≡ false = ap (is_packet_of k) e in cc

-- the member's last admitted packet since its Join, below n
pub last_own_at : (setup : FloorSetup) (acts : List Act) (k : Member) (p : StreamPacket) (a n : ℕ) → n ≤ length acts → a < n → IsAdmittedPacket setup acts a k p → HasStayed setup.places acts k a n → ((m : ℕ) (q : StreamPacket) → a < m → m < n → IsAdmittedPacket setup acts m k q → ⊥) → last_own (past_at setup acts n) k ≡ Some a
last_own_at setup acts k p a n h l is stayed none =
    let past : Past = past_at setup acts n in
    let len : length (take n acts) ≡ n = length-take-le n acts h in
    let of_k : is_packet_of k (kind_at (take n acts) a) ≡ true = ap (is_packet_of k) (kind_front acts n a l h ∙ is.packet_is) ∙ is_same_self k in
    let here : own_test past k a ≡ true =
    and_from _ _ (and_from _ _ (bit_is setup acts n a l ∙ is.admitted) of_k) (stayed_front setup acts k a n h stayed) in
    last_below_is (own_test past k) (length (take n acts)) a (omega arith) here
    (λ m above q.
    let below : m < n = omega arith in
    false_from_ne_true (own_test past k m)
    (λ t.
    let parts = and_parts (was_admitted past m && is_packet_of k (kind_at (take n acts) m)) (is_in_since past k m) t in
    let both = and_parts (was_admitted past m) (is_packet_of k (kind_at (take n acts) m)) parts.0 in
    own_packet_absurd setup acts k m (kind_at acts m) refl (sym (bit_is setup acts n m below) ∙ both.0) (ap (is_packet_of k) (sym (kind_front acts n m below h)) ∙ both.1) (λ s. none m s above below)))
