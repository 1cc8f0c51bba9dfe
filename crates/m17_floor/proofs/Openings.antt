-- From an opened position up to the next one.
use Rattle.std.proofs.Common.{◌≡◌, ◌⊎◌, ℕ, zero, suc, ◌+◌, ◌-◌, ◌<◌, ◌≤◌, ◌==◌, ◌&&◌, true, false, not, cond, List, length, take, Option, None, Some, nat_lt, nat_le, inl, inr, refl, ap, sym, ◌∙◌, arith}
use Rattle.std.proofs.lemmas.Bool.{cases_Bool, cases_eq, cases_lt, cases_order, cond-true, and_from, and_parts, and_left, lt-ltb, ltb-true, ltb-false, leb-true, leb-false, le-leb, eqb-true, eqb-false, ne_eqb, not-true, not_from_false, false_from_ne_true, false≢true}
use Rattle.std.proofs.lemmas.List.{length-take-le}
use Rattle.std.specs.Option.{option_and_then}
use Rattle.m17_values.specs.declared.member.Member.{Member}
use Rattle.m17_stream.specs.declared.packet.StreamPacket.{StreamPacket}
use Rattle.m17_stream.specs.Stream.{steps_ahead, IsAhead}
use Rattle.m17_floor.specs.declared.act.Act.{Act}
use Rattle.m17_floor.specs.declared.act.ActKind.{ActKind}
use Rattle.m17_floor.specs.declared.act.ActKind.TheVariants.{Join, Leave, Packet, Other}
use Rattle.m17_floor.specs.declared.verdict.Verdict.{Verdict}
use Rattle.m17_floor.specs.declared.verdict.Verdict.TheVariants.{Opened, Continued, Busy, Repeat, Late, AfterEnd, TimedOut, NotMember, ListenOnly}
use Rattle.m17_floor.specs.Setup.{FloorSetup}
use Rattle.m17_floor.specs.Acts.{kind_at, moment_at, is_packet, is_same}
use Rattle.m17_floor.specs.Rule.{floor_timeout_ms, Frame, Incoming, incoming, frame_from, has_run_out, has_floor, is_compared, is_of_stream, only_if, verdict_by_frames}
use Rattle.m17_floor.specs.Floor.{Past, was_admitted, joined, is_in_since, opened_at, frame_of, frame_at, has_stayed, last_admitted, floor_frame, is_packet_of, last_own, own_frame, verdict_after, admits, past_at, verdict_at, IsAdmitted}
use Rattle.m17_floor.specs.Laws.{NoneAdmittedBetween, IsAdmittedPacket, IsOpened, IsOneOpening, HasTalkedOut, OpeningsAreClean, OpeningsEndInTime, FloorsAreTakenFree}
use Rattle.m17_floor.proofs.Frames.{stayed_at, own_test}
use Rattle.m17_floor.proofs.InRule.{IsStayed, floor_from}
use Rattle.m17_lookup.proofs.LastBelow.{last_below_ge, last_below_is, last_below_lt, last_below_true}
use Rattle.m17_floor.proofs.Lines.{Passes, IsContinued, beside_continued, beside_opened, first_lets, only_if_from, only_if_true, continued_is}
use Rattle.m17_floor.proofs.Members.{is_same_from, same_from_is_same}
use Rattle.m17_floor.proofs.Positions.{packet_lt, kind_front, moment_front, bit_is, last_admitted_at, opened_is, stayed_front, no_verdict, packet_verdict}

-- The last admitted frame of all is also the last one of its sender.
own_is_floor : (past : Past) (a : ℕ) (f : Frame) → last_admitted past ≡ Some a → IsStayed past a f → own_frame past f.member ≡ Some f
unfolding own_frame
own_is_floor past a f last stayed =
    let n : ℕ = length past.acts in
    let sender : stayed.sender ≡ f.member = ap (λ (g : Frame). g.member) stayed.frame_is in
    let was : was_admitted past a ≡ true = last_below_true (was_admitted past) n a last in
    let of_it : is_packet_of f.member (kind_at past.acts a) ≡ true = ap (is_packet_of f.member) stayed.kind_is ∙ is_same_from stayed.sender f.member sender in
    let since : is_in_since past f.member a ≡ true = ap (λ k. is_in_since past k a) (sym sender) ∙ stayed.since in
    let here : own_test past f.member a ≡ true = and_from _ _ (and_from _ _ was of_it) since in
    let found : last_own past f.member ≡ Some a =
    last_below_is (own_test past f.member) n a (last_below_lt (was_admitted past) n a last) here
    (λ m above below.
    let none : was_admitted past m ≡ false = false_from_ne_true (was_admitted past m) (λ t. let le : m ≤ a = last_below_ge (was_admitted past) n a m last t below in absurd (omega arith)) in
    and_left (was_admitted past m && is_packet_of f.member (kind_at past.acts m)) (is_in_since past f.member m) (and_left (was_admitted past m) (is_packet_of f.member (kind_at past.acts m)) none)) in
    ap (option_and_then (frame_at past)) found
    ∙ ap (λ kind. frame_of kind (moment_at past.acts a) (opened_at past a)) stayed.kind_is
    ∙ ap Some stayed.frame_is

-- the frame that a continued packet follows
record Follows (past : Past) (new : Incoming) : Type 0 where
  pub position : ℕ
  pub frame : Frame
  pub last : last_admitted past ≡ Some position
  pub stayed : IsStayed past position frame
  pub of_stream : is_of_stream frame new ≡ true
  pub has : has_floor past.setup.limit new.at frame ≡ true
  pub passes : Passes frame new.packet.number

follows : (past : Past) (new : Incoming) → verdict_after past new ≡ Continued → Follows past new
follows past new e =
    let limit : ℕ = past.setup.limit in
    let v : Verdict = verdict_by_frames limit (floor_frame past) (own_frame past new.sender) new in
    let on : v ≡ Continued = first_lets past.acts (joined past new.sender) v Continued refl e in
    let is : IsContinued (only_if (has_floor limit new.at) (floor_frame past)) (only_if (is_compared new.packet.sid new.at) (own_frame past new.sender)) new = beside_continued limit _ _ new on in
    let f : Frame = is.frame in
    let floor = only_if_from (has_floor limit new.at) (floor_frame past) f is.holder_is in
    let from = floor_from past f floor.0 in
    let stayed : IsStayed past from.0 f = from.2 in
    let stream = and_parts (is_same f.member new.sender) (f.sid == new.packet.sid) is.of_stream in
    let sender : f.member ≡ new.sender = same_from_is_same f.member new.sender stream.0 in
    let held = and_parts (not f.last && nat_lt (new.at - f.at) floor_timeout_ms) (not (has_run_out limit new.at f.opened)) floor.1 in
    let fresh = and_parts (not f.last) (nat_lt (new.at - f.at) floor_timeout_ms) held.0 in
    let young : new.at - f.at < floor_timeout_ms = ltb-true _ _ fresh.1 in
    let compared : is_compared new.packet.sid new.at f ≡ true = and_from _ _ stream.1 (lt-ltb _ _ (omega arith)) in
    let own : own_frame past new.sender ≡ Some f = ap (own_frame past) (sym sender) ∙ own_is_floor past from.0 f from.1 stayed in
    let mine : only_if (is_compared new.packet.sid new.at) (own_frame past new.sender) ≡ Some f =
    ap (only_if (is_compared new.packet.sid new.at)) own ∙ only_if_true (is_compared new.packet.sid new.at) f compared in
    record {
      position = from.0;
      frame = f;
      last = from.1;
      stayed = stayed;
      of_stream = is.of_stream;
      has = floor.1;
      passes = is.passes f mine;
    }

ahead_from : (x y : ℕ) → x < 32768 → y < 32768 → (x ≡ y → ⊥) → steps_ahead x y < 16384 → IsAhead x y
ahead_from x y hx hy ne near = (omega arith, omega arith)

-- the packet that the one at n follows
record Neighbour (setup : FloorSetup) (acts : List Act) (n : ℕ) (m : Member) (q : StreamPacket) : Type 0 where
  pub position : ℕ
  pub packet : StreamPacket
  pub before : position < n
  pub admitted : IsAdmittedPacket setup acts position m packet
  pub none : NoneAdmittedBetween setup acts position n
  pub same_stream : q.sid ≡ packet.sid
  pub not_ended : packet.last ≡ false
  pub ahead : IsAhead q.number packet.number

neighbour : (setup : FloorSetup) (acts : List Act) (n : ℕ) (m : Member) (q : StreamPacket) → IsAdmittedPacket setup acts n m q → (IsOpened setup acts n → ⊥) → Neighbour setup acts n m q
neighbour setup acts n m q is ne =
    let l : n < length acts = packet_lt acts n m q is.packet_is in
    let len : length (take n acts) ≡ n = length-take-le n acts (omega arith) in
    let past : Past = past_at setup acts n in
    let new : Incoming = incoming m (moment_at acts n) q in
    let verdict : verdict_at setup acts n ≡ Some (verdict_after past new) = packet_verdict setup acts n m q is.packet_is in
    let on : verdict_after past new ≡ Continued = continued_is (verdict_after past new) (ap admits (sym verdict) ∙ is.admitted) (λ o. ne (verdict ∙ ap Some o)) in
    let fol : Follows past new = follows past new on in
    let a : ℕ = fol.position in
    let f : Frame = fol.frame in
    let stayed : IsStayed past a f = fol.stayed in
    let p : StreamPacket = stayed.packet in
    let below : a < n = let x : a < length (take n acts) = last_below_lt (was_admitted past) (length (take n acts)) a fol.last in omega arith in
    let stream = and_parts (is_same f.member m) (f.sid == q.sid) fol.of_stream in
    let sender : stayed.sender ≡ m = ap (λ (g : Frame). g.member) stayed.frame_is ∙ same_from_is_same f.member m stream.0 in
    let sid : q.sid ≡ p.sid = sym (ap (λ (g : Frame). g.sid) stayed.frame_is ∙ eqb-true f.sid q.sid stream.1) in
    let number : p.number ≡ f.number = ap (λ (g : Frame). g.number) stayed.frame_is in
    let kind : kind_at acts a ≡ Packet m p = sym (kind_front acts n a below (omega arith)) ∙ stayed.kind_is ∙ ap (λ x. Packet x p) sender in
    let other : q.number ≡ p.number → ⊥ = λ e. eqb-false q.number f.number fol.passes.other (e ∙ number) in
    let near : steps_ahead q.number p.number < 16384 = rw number (leb-false _ _ fol.passes.near) in
    record {
      position = a;
      packet = p;
      before = below;
      admitted = record { packet_is = kind; admitted = sym (bit_is setup acts n a below) ∙ last_below_true (was_admitted past) (length (take n acts)) a fol.last };
      none = λ x above under adm. let le : x ≤ a = last_below_ge (was_admitted past) (length (take n acts)) a x fol.last (bit_is setup acts n x under ∙ adm) (omega arith) in omega arith;
      same_stream = sid;
      not_ended = ap (λ (g : Frame). g.last) stayed.frame_is ∙ fol.passes.open_;
      ahead = ahead_from q.number p.number q.numbered p.numbered other near;
    }

-- one packet stands at a position
one_packet : (acts : List Act) (a : ℕ) (k m : Member) (p q : StreamPacket) → kind_at acts a ≡ Packet k p → kind_at acts a ≡ Packet m q → (m ≡ k) × (q ≡ p)
one_packet acts a k m p q e f = (cc, cc)

not_opened : (setup : FloorSetup) (acts : List Act) (o a n : ℕ) → IsOneOpening setup acts o n → o ≤ a → a < n → IsOpened setup acts n → ⊥
not_opened setup acts o a n one oa an = one.no_other n (omega arith) (omega arith)

shorter : (setup : FloorSetup) (acts : List Act) (o c n : ℕ) → IsOneOpening setup acts o n → c < n → IsOneOpening setup acts o c
shorter setup acts o c n one h = record { opened = one.opened; no_other = λ m above below. one.no_other m above (omega arith) }

-- all of one opening is one stream of one member
one_stream : (fuel : ℕ) (setup : FloorSetup) (acts : List Act) (o a n : ℕ) (k m : Member) (p q : StreamPacket) → n ≤ fuel → IsOneOpening setup acts o n → o ≤ a → a < n → IsAdmittedPacket setup acts a k p → IsAdmittedPacket setup acts n m q → (m ≡ k) × (q.sid ≡ p.sid) × (p.last ≡ false)
one_stream zero setup acts o a n k m p q h one oa an ka nq = absurd (omega arith)
one_stream (suc fuel) setup acts o a n k m p q h one oa an ka nq =
    let next : Neighbour setup acts n m q = neighbour setup acts n m q nq (not_opened setup acts o a n one oa an) in
    let c : ℕ = next.position in
    let before : c < n = next.before in
    elim (cases_order a c) [
      | inl here ↦
          let same = one_packet acts c k m p next.packet (ap (kind_at acts) (sym here) ∙ ka.packet_is) next.admitted.packet_is in
          (same.0, next.same_stream ∙ ap (λ (x : StreamPacket). x.sid) same.1, ap (λ (x : StreamPacket). x.last) (sym same.1) ∙ next.not_ended)
      | inr other ↦ elim other [
        | inl earlier ↦
            let rest = one_stream fuel setup acts o a c k m p next.packet (omega arith) (shorter setup acts o c n one before) oa earlier ka next.admitted in
            (rest.0, next.same_stream ∙ rest.1, rest.2)
        | inr later ↦ absurd (next.none a later an ka.admitted)
      ]
    ]

-- the next one that is admitted goes ahead
next_ahead : (setup : FloorSetup) (acts : List Act) (o a n : ℕ) (k m : Member) (p q : StreamPacket) → IsOneOpening setup acts o n → o ≤ a → a < n → IsAdmittedPacket setup acts a k p → IsAdmittedPacket setup acts n m q → NoneAdmittedBetween setup acts a n → IsAhead q.number p.number
next_ahead setup acts o a n k m p q one oa an ka nq none =
    let next : Neighbour setup acts n m q = neighbour setup acts n m q nq (not_opened setup acts o a n one oa an) in
    let c : ℕ = next.position in
    elim (cases_order a c) [
      | inl here ↦
          let same = one_packet acts c k m p next.packet (ap (kind_at acts) (sym here) ∙ ka.packet_is) next.admitted.packet_is in
          let e : next.packet ≡ p = same.1 in
          rw (← e) next.ahead
      | inr other ↦ elim other [
        | inl earlier ↦ absurd (none c earlier next.before next.admitted.admitted)
        | inr later ↦ absurd (next.none a later an ka.admitted)
      ]
    ]

pub openings_clean : OpeningsAreClean
openings_clean =
    λ setup acts o a n k m p q one oa an ka nq.
    let all = one_stream n setup acts o a n k m p q (omega arith) one oa an ka nq in
    record {
      same_member = all.0;
      same_stream = all.1;
      not_ended = all.2;
      ahead = next_ahead setup acts o a n k m p q one oa an ka nq;
    }

cases_opened : (v : Option Verdict) → (v ≡ Some Opened) ⊎ (v ≡ Some Opened → ⊥)
cases_opened None = inr (λ e. cc)
cases_opened (Some Opened) = inl refl
cases_opened (Some Continued) = inr (λ e. cc)
cases_opened (Some (Busy m)) = inr (λ e. cc)
cases_opened (Some Repeat) = inr (λ e. cc)
cases_opened (Some (Late y)) = inr (λ e. cc)
cases_opened (Some AfterEnd) = inr (λ e. cc)
cases_opened (Some TimedOut) = inr (λ e. cc)
cases_opened (Some NotMember) = inr (λ e. cc)
cases_opened (Some ListenOnly) = inr (λ e. cc)

-- each admitted position has its opening
pub has_opening : (fuel : ℕ) (setup : FloorSetup) (acts : List Act) (a : ℕ) (k : Member) (p : StreamPacket) → a ≤ fuel → IsAdmittedPacket setup acts a k p → (o : ℕ) × (o ≤ a) × IsOneOpening setup acts o a
has_opening zero setup acts a k p h ka = elim (cases_opened (verdict_at setup acts a)) [
  | inl opened ↦ (a, omega arith, record { opened = opened; no_other = λ m above below. absurd (omega arith) })
  | inr other ↦ let next : Neighbour setup acts a k p = neighbour setup acts a k p ka other in absurd (omega (arith, next.before))
]
has_opening (suc fuel) setup acts a k p h ka = elim (cases_opened (verdict_at setup acts a)) [
  | inl opened ↦ (a, omega arith, record { opened = opened; no_other = λ m above below. absurd (omega arith) })
  | inr other ↦
      let next : Neighbour setup acts a k p = neighbour setup acts a k p ka other in
      let before : next.position < a = next.before in
      let rest = has_opening fuel setup acts next.position k next.packet (omega arith) next.admitted in
      let one : IsOneOpening setup acts rest.0 next.position = rest.2 in
      let le : rest.0 ≤ next.position = rest.1 in (
        rest.0,
        omega arith,
        record {
          opened = one.opened;
          no_other = λ m above below opened. elim (cases_order m a) [
            | inl here ↦ other (ap (verdict_at setup acts) (sym here) ∙ opened)
            | inr away ↦ elim away [
              | inl under ↦ elim (cases_lt next.position m) [
                | inl between ↦ next.none m between under (ap admits opened)
                | inr low ↦ one.no_other m above low opened
              ]
              | inr over ↦ absurd (omega arith)
            ]
          ];
        },
      )
]

in_time_from : (limit at opened : ℕ) → has_run_out limit at opened ≡ false → (limit ≡ 0 → ⊥) → at < opened + limit
in_time_from limit at opened e ne = elim (cases_lt at (opened + limit)) [
  | inl l ↦ l
  | inr g ↦ absurd (false≢true (sym e ∙ and_from (not (limit == 0)) (nat_le limit (at - opened)) (not_from_false (limit == 0) (ne_eqb limit 0 ne)) (le-leb limit (at - opened) (omega arith))))
]

out_from : (limit at opened : ℕ) → has_run_out limit at opened ≡ true → (limit ≡ 0 → ⊥) × (opened + limit ≤ at)
out_from limit at opened e =
    let parts = and_parts (not (limit == 0)) (nat_le limit (at - opened)) e in
    let ne : limit ≡ 0 → ⊥ = eqb-false limit 0 (not-true (limit == 0) parts.0) in
    let le : limit ≤ at - opened = leb-true limit (at - opened) parts.1 in
    (ne, omega (arith, ne))

-- the one that an opening goes on with comes before the limit has passed
in_time_later : (setup : FloorSetup) (acts : List Act) (o n : ℕ) (kind : ActKind) → kind_at acts n ≡ kind → (setup.limit ≡ 0 → ⊥) → IsOneOpening setup acts o n → o < n → IsAdmitted setup acts n → moment_at acts n < moment_at acts o + setup.limit
in_time_later setup acts o n (Packet m q) is limited one later admitted =
    let l : n < length acts = packet_lt acts n m q is in
    let len : length (take n acts) ≡ n = length-take-le n acts (omega arith) in
    let past : Past = past_at setup acts n in
    let new : Incoming = incoming m (moment_at acts n) q in
    let verdict : verdict_at setup acts n ≡ Some (verdict_after past new) = packet_verdict setup acts n m q is in
    let on : verdict_after past new ≡ Continued = continued_is (verdict_after past new) (ap admits (sym verdict) ∙ admitted) (λ e. one.no_other n later (omega arith) (verdict ∙ ap Some e)) in
    let fol : Follows past new = follows past new on in
    let a : ℕ = fol.position in
    let f : Frame = fol.frame in
    let below : a < n = let x : a < length (take n acts) = last_below_lt (was_admitted past) (length (take n acts)) a fol.last in omega arith in
    let first : was_admitted past o ≡ true = bit_is setup acts n o later ∙ ap admits one.opened in
    let le : o ≤ a = last_below_ge (was_admitted past) (length (take n acts)) a o fol.last first (omega arith) in
    let begun : opened_at past a ≡ moment_at acts o = opened_is setup acts o a n (omega arith) le below (shorter setup acts o a n one below) in
    let opened : opened_at past a ≡ f.opened = ap (λ (g : Frame). g.opened) fol.stayed.frame_is in
    let held = and_parts (not f.last && nat_lt (new.at - f.at) floor_timeout_ms) (not (has_run_out setup.limit new.at f.opened)) fol.has in
    let young : moment_at acts n < f.opened + setup.limit = in_time_from setup.limit (moment_at acts n) f.opened (not-true (has_run_out setup.limit new.at f.opened) held.1) limited in
    omega (arith, young, begun, opened)
in_time_later setup acts o n (Join m only) is limited one later admitted = let none = no_verdict setup acts n (ap is_packet is) in absurd (false≢true (sym (ap admits none) ∙ admitted))
in_time_later setup acts o n (Leave m) is limited one later admitted = let none = no_verdict setup acts n (ap is_packet is) in absurd (false≢true (sym (ap admits none) ∙ admitted))
in_time_later setup acts o n Other is limited one later admitted = let none = no_verdict setup acts n (ap is_packet is) in absurd (false≢true (sym (ap admits none) ∙ admitted))

-- all of one opening comes before the limit has passed since its opened position
pub in_time : OpeningsEndInTime
in_time = λ setup acts o n limited one le admitted. elim (cases_eq o n) [
  | inl here ↦ let e : moment_at acts o ≡ moment_at acts n = ap (moment_at acts) here in omega (arith, limited)
  | inr away ↦
      let later : o < n = omega arith in
      in_time_later setup acts o n (kind_at acts n) refl limited one later admitted
]

-- the floor's frame, where the last admitted position and its sender's stay are known
pub floor_at : (past : Past) (a : ℕ) (k : Member) (p : StreamPacket) → last_admitted past ≡ Some a → kind_at past.acts a ≡ Packet k p → is_in_since past k a ≡ true → floor_frame past ≡ Some (frame_from (opened_at past a) (incoming k (moment_at past.acts a) p))
unfolding floor_frame
floor_at past a k p last is since =
    let frame : Frame = frame_from (opened_at past a) (incoming k (moment_at past.acts a) p) in
    ap (option_and_then (stayed_at past)) last
    ∙ ap (λ kind. cond (has_stayed past a kind) (frame_of kind (moment_at past.acts a) (opened_at past a)) None) is
    ∙ cond-true (is_in_since past k a) (Some frame) None since

-- a packet that opens the floor finds none that has it
finds_none : (setup : FloorSetup) (acts : List Act) (n : ℕ) (kind : ActKind) → kind_at acts n ≡ kind → IsOpened setup acts n → (n < length acts) × (only_if (has_floor setup.limit (moment_at acts n)) (floor_frame (past_at setup acts n)) ≡ None)
finds_none setup acts n (Packet m q) is opened =
    let past : Past = past_at setup acts n in
    let new : Incoming = incoming m (moment_at acts n) q in
    let verdict : verdict_after past new ≡ Opened = let e : Some (verdict_after past new) ≡ Some Opened = sym (packet_verdict setup acts n m q is) ∙ opened in cc in
    let v : Verdict = verdict_by_frames setup.limit (floor_frame past) (own_frame past m) new in
    let on : v ≡ Opened = first_lets past.acts (joined past m) v Opened refl verdict in
    (packet_lt acts n m q is, beside_opened setup.limit _ _ new on)
finds_none setup acts n (Join m only) is opened = let none = no_verdict setup acts n (ap is_packet is) in absurd (cc)
finds_none setup acts n (Leave m) is opened = let none = no_verdict setup acts n (ap is_packet is) in absurd (cc)
finds_none setup acts n Other is opened = let none = no_verdict setup acts n (ap is_packet is) in absurd (cc)

-- a frame that would have the floor, and none that has it
none_holds : (limit at : ℕ) (floor : Option Frame) (f : Frame) → only_if (has_floor limit at) floor ≡ None → floor ≡ Some f → has_floor limit at f ≡ true → ⊥
none_holds limit at floor f none is holds =
    let some : only_if (has_floor limit at) floor ≡ Some f = ap (only_if (has_floor limit at)) is ∙ only_if_true (has_floor limit at) f holds in
    cc

-- the limit has run out since the opening of a frame of position a
talked_out : (setup : FloorSetup) (acts : List Act) (a n : ℕ) (k : Member) (p : StreamPacket) → n ≤ length acts → a < n → IsAdmittedPacket setup acts a k p → has_run_out setup.limit (moment_at acts n) (opened_at (past_at setup acts n) a) ≡ true → HasTalkedOut setup acts a n
talked_out setup acts a n k p h an ka out =
    let begun = has_opening a setup acts a k p (omega arith) ka in
    let is : opened_at (past_at setup acts n) a ≡ moment_at acts begun.0 = opened_is setup acts begun.0 a n h begun.1 an begun.2 in
    let passed = out_from setup.limit (moment_at acts n) (opened_at (past_at setup acts n) a) out in
    record {
      limited = passed.0;
      o = begun.0;
      earlier = begun.1;
      opening = begun.2;
      passed = omega (arith, passed.1, is);
    }

pub taken_free : FloorsAreTakenFree
taken_free =
    λ setup acts a n k p opened an ka none.
    let past : Past = past_at setup acts n in
    let found = finds_none setup acts n (kind_at acts n) refl opened in
    let l : n < length acts = found.0 in
    let at : ℕ = moment_at acts a in
    let begun : ℕ = opened_at past a in
    let last : last_admitted past ≡ Some a = last_admitted_at setup acts a n (omega arith) an ka.admitted none in
    let kind : kind_at (take n acts) a ≡ Packet k p = kind_front acts n a an (omega arith) ∙ ka.packet_is in
    elim (cases_Bool p.last) [
      | inl ended ↦ inl ended
      | inr open_ ↦ elim (cases_Bool (is_in_since past k a)) [
        | inr left ↦ inr (inl (λ stayed. false≢true (sym left ∙ stayed_front setup acts k a n (omega arith) stayed)))
        | inl stayed ↦ elim (cases_Bool (nat_lt (moment_at acts n - at) floor_timeout_ms)) [
          | inr old ↦ inr (inr (inl (let e : floor_timeout_ms ≤ moment_at acts n - at = ltb-false _ _ old in omega arith)))
          | inl young ↦ elim (cases_Bool (has_run_out setup.limit (moment_at acts n) begun)) [
            | inl out ↦ inr (inr (inr (talked_out setup acts a n k p (omega arith) an ka out)))
            | inr in_it ↦
                let f : Frame = frame_from begun (incoming k at p) in
                let frame : floor_frame past ≡ Some f = floor_at past a k p last kind stayed ∙ ap (λ x. Some (frame_from begun (incoming k x p))) (moment_front acts n a an (omega arith)) in
                let holds : has_floor setup.limit (moment_at acts n) f ≡ true = and_from _ _ (and_from _ _ (not_from_false p.last open_) young) (not_from_false _ in_it) in
                absurd (none_holds setup.limit (moment_at acts n) (floor_frame past) f found.1 frame holds)
          ]
        ]
      ]
    ]
