-- The frames that the rule looks at, where the same acts are of other members.
use Rattle.std.proofs.Common.{◌≡◌, ℕ, suc, ◌<◌, ◌&&◌, Bool, true, false, cond, length, Option, None, Some, nat_lt, refl, ap, sym, ◌∙◌, arith}
use Rattle.std.specs.Option.{option_and_then, option_map_or}
use Rattle.m17_values.specs.declared.member.Member.{Member}
use Rattle.m17_floor.specs.declared.act.ActKind.{ActKind}
use Rattle.m17_floor.specs.declared.act.ActKind.TheVariants.{Join, Leave, Packet, Other}
use Rattle.m17_floor.specs.declared.verdict.Verdict.{Verdict}
use Rattle.m17_floor.specs.declared.verdict.Verdict.TheVariants.{Opened, Continued, Busy, Repeat, Late, AfterEnd, TimedOut, NotMember, ListenOnly}
use Rattle.m17_lookup.specs.Lookup.{last_below}
use Rattle.m17_floor.specs.Acts.{kind_at, moment_at}
use Rattle.m17_floor.specs.Rule.{Frame}
use Rattle.m17_floor.specs.Floor.{Past, given, opens, admits, was_opened, was_admitted, joined, is_in_since, opening_of, opened_at, frame_of, frame_at, has_stayed, last_admitted, floor_frame, is_packet_of, last_own, own_frame}
use Rattle.m17_floor.specs.Renamed.{IsOneToOne, IsRenamedKind, unnamed_verdict}
use Rattle.m17_floor.proofs.Frames.{map_or_same, stayed_at, own_test}
use Rattle.m17_lookup.proofs.LastBelow.{last_below_same, last_below_lt}

-- what is looked back on is the same, but for the members
pub record IsLike (stands : Member → Member → Bool) (past other : Past) : Type 0 where
  pub len : length past.acts ≡ length other.acts
  pub given_same : (a : ℕ) → unnamed_verdict (given past a) ≡ unnamed_verdict (given other a)
  pub kinds : (a : ℕ) → a < length past.acts → IsRenamedKind stands (kind_at past.acts a) (kind_at other.acts a)
  pub moments : (a : ℕ) → a < length past.acts → moment_at past.acts a ≡ moment_at other.acts a
  pub members : (k k' : Member) → stands k k' ≡ true → joined past k ≡ joined other k'

-- the frame is the same, of the member that stands for the other
pub record IsLikeFrame (stands : Member → Member → Bool) (f g : Frame) : Type 0 where
  pub member : stands f.member g.member ≡ true
  pub sid : f.sid ≡ g.sid
  pub number : f.number ≡ g.number
  pub last : f.last ≡ g.last
  pub at : f.at ≡ g.at
  pub opened : f.opened ≡ g.opened

abbrev pub AreLikeFrames : (Member → Member → Bool) → Option Frame → Option Frame → Type 0
AreLikeFrames stands None None = Unit {0}
AreLikeFrames stands (Some f) (Some g) = IsLikeFrame stands f g
AreLikeFrames stands _ _ = ⊥

pub like_cond : (stands : Member → Member → Bool) (b c : Bool) (f g : Frame) → b ≡ c → IsLikeFrame stands f g → AreLikeFrames stands (cond b (Some f) None) (cond c (Some g) None)
like_cond stands true true f g e h = h
like_cond stands false false f g e h = tt
like_cond stands true false f g e h = absurd (cc)
like_cond stands false true f g e h = absurd (cc)

since_like : (stands : Member → Member → Bool) (past other : Past) (k k' : Member) (a : ℕ) → IsLike stands past other → stands k k' ≡ true → is_in_since past k a ≡ is_in_since other k' a
since_like stands past other k k' a like h = ap (λ o. option_map_or (λ j. nat_lt j a) o false) (like.members k k' h)

frame_like : (stands : Member → Member → Bool) (a b : ActKind) (at at' opened opened' : ℕ) → at ≡ at' → opened ≡ opened' → IsRenamedKind stands a b → AreLikeFrames stands (frame_of a at opened) (frame_of b at' opened')
frame_like stands (Packet k p) (Packet k' p') at at' opened opened' e d h = record { member = h.0; sid = ap (λ x. x.sid) h.1; number = ap (λ x. x.number) h.1; last = ap (λ x. x.last) h.1; at = e; opened = d }
frame_like stands (Join k l) (Join k' l') at at' opened opened' e d h = tt
frame_like stands (Leave k) (Leave k') at at' opened opened' e d h = tt
frame_like stands Other Other at at' opened opened' e d h = tt
frame_like stands _ _ at at' opened opened' e d h = absurd h

stayed_like : (stands : Member → Member → Bool) (past other : Past) (n : ℕ) (a b : ActKind) (at at' opened opened' : ℕ) → IsLike stands past other → at ≡ at' → opened ≡ opened' → IsRenamedKind stands a b → AreLikeFrames stands (cond (has_stayed past n a) (frame_of a at opened) None) (cond (has_stayed other n b) (frame_of b at' opened') None)
stayed_like stands past other n (Packet k p) (Packet k' p') at at' opened opened' like e d h =
    like_cond stands (is_in_since past k n) (is_in_since other k' n) _ _ (since_like stands past other k k' n like h.0)
    (record { member = h.0; sid = ap (λ x. x.sid) h.1; number = ap (λ x. x.number) h.1; last = ap (λ x. x.last) h.1; at = e; opened = d })
stayed_like stands past other n (Join k l) (Join k' l') at at' opened opened' like e d h = tt
stayed_like stands past other n (Leave k) (Leave k') at at' opened opened' like e d h = tt
stayed_like stands past other n Other Other at at' opened opened' like e d h = tt
stayed_like stands past other n _ _ at at' opened opened' like e d h = absurd h

-- whether a packet is admitted, or opens the floor, is free of the holder's name
pub admits_unnamed : (v : Option Verdict) → admits v ≡ admits (unnamed_verdict v)
admits_unnamed None = refl
admits_unnamed (Some Opened) = refl
admits_unnamed (Some Continued) = refl
admits_unnamed (Some (Busy k)) = refl
admits_unnamed (Some Repeat) = refl
admits_unnamed (Some (Late y)) = refl
admits_unnamed (Some AfterEnd) = refl
admits_unnamed (Some TimedOut) = refl
admits_unnamed (Some NotMember) = refl
admits_unnamed (Some ListenOnly) = refl

opens_unnamed : (v : Option Verdict) → opens v ≡ opens (unnamed_verdict v)
opens_unnamed None = refl
opens_unnamed (Some Opened) = refl
opens_unnamed (Some Continued) = refl
opens_unnamed (Some (Busy k)) = refl
opens_unnamed (Some Repeat) = refl
opens_unnamed (Some (Late y)) = refl
opens_unnamed (Some AfterEnd) = refl
opens_unnamed (Some TimedOut) = refl
opens_unnamed (Some NotMember) = refl
opens_unnamed (Some ListenOnly) = refl

was_like : (stands : Member → Member → Bool) (past other : Past) (a : ℕ) → IsLike stands past other → was_admitted past a ≡ was_admitted other a
was_like stands past other a like = admits_unnamed (given past a) ∙ ap admits (like.given_same a) ∙ sym (admits_unnamed (given other a))

opened_like : (stands : Member → Member → Bool) (past other : Past) (a : ℕ) → IsLike stands past other → a < length past.acts → opened_at past a ≡ opened_at other a
opened_like stands past other a like h =
    let found : opening_of past a ≡ opening_of other a =
    last_below_same (was_opened past) (was_opened other) (suc a) (λ m l. opens_unnamed (given past m) ∙ ap opens (like.given_same m) ∙ sym (opens_unnamed (given other m))) in
    map_or_same (opening_of past a) _ _ 0 (λ o e. like.moments o (omega (arith, last_below_lt (was_opened past) (suc a) o e)))
    ∙ ap (λ o. option_map_or (moment_at other.acts) o 0) found

-- what is made of one position in both
like_there : (stands : Member → Member → Bool) (f g : ℕ → Option Frame) (o : Option ℕ) → ((a : ℕ) → o ≡ Some a → AreLikeFrames stands (f a) (g a)) → AreLikeFrames stands (option_and_then f o) (option_and_then g o)
like_there stands f g None h = tt
like_there stands f g (Some a) h = h a refl

last_admitted_like : (stands : Member → Member → Bool) (past other : Past) → IsLike stands past other → last_admitted past ≡ last_admitted other
last_admitted_like stands past other like =
    ap (last_below (was_admitted past)) like.len
    ∙ last_below_same (was_admitted past) (was_admitted other) (length other.acts) (λ m l. was_like stands past other m like)

pub floor_like : (stands : Member → Member → Bool) (past other : Past) → IsLike stands past other → AreLikeFrames stands (floor_frame past) (floor_frame other)
unfolding floor_frame
floor_like stands past other like =
    rw (← last_admitted_like stands past other like)
    (like_there stands (stayed_at past) (stayed_at other) (last_admitted past)
    (λ a e. let l : a < length past.acts = last_below_lt (was_admitted past) (length past.acts) a e in
    stayed_like stands past other a (kind_at past.acts a) (kind_at other.acts a) (moment_at past.acts a) (moment_at other.acts a) (opened_at past a) (opened_at other a) like (like.moments a l) (opened_like stands past other a like l) (like.kinds a l)))

packet_of_like : (stands : Member → Member → Bool) (k k' : Member) (a b : ActKind) → IsOneToOne stands → stands k k' ≡ true → IsRenamedKind stands a b → is_packet_of k a ≡ is_packet_of k' b
packet_of_like stands k k' (Packet m p) (Packet m' p') one h r = one.same m k m' k' r.0 h
packet_of_like stands k k' (Join m l) (Join m' l') one h r = refl
packet_of_like stands k k' (Leave m) (Leave m') one h r = refl
packet_of_like stands k k' Other Other one h r = refl
packet_of_like stands k k' _ _ one h r = absurd r

own_test_like : (stands : Member → Member → Bool) (past other : Past) (k k' : Member) (a : ℕ) → IsOneToOne stands → IsLike stands past other → stands k k' ≡ true → a < length past.acts → own_test past k a ≡ own_test other k' a
own_test_like stands past other k k' a one like h l =
    ap (λ b. b && is_packet_of k (kind_at past.acts a) && is_in_since past k a) (was_like stands past other a like)
    ∙ ap (λ b. was_admitted other a && b && is_in_since past k a) (packet_of_like stands k k' (kind_at past.acts a) (kind_at other.acts a) one h (like.kinds a l))
    ∙ ap (λ b. was_admitted other a && is_packet_of k' (kind_at other.acts a) && b) (since_like stands past other k k' a like h)

last_own_like : (stands : Member → Member → Bool) (past other : Past) (k k' : Member) → IsOneToOne stands → IsLike stands past other → stands k k' ≡ true → last_own past k ≡ last_own other k'
last_own_like stands past other k k' one like h =
    last_below_same (own_test past k) (own_test other k') (length past.acts) (λ a l. own_test_like stands past other k k' a one like h l)
    ∙ ap (last_below (own_test other k')) like.len

pub own_like : (stands : Member → Member → Bool) (past other : Past) (k k' : Member) → IsOneToOne stands → IsLike stands past other → stands k k' ≡ true → AreLikeFrames stands (own_frame past k) (own_frame other k')
unfolding own_frame
own_like stands past other k k' one like h =
    rw (← last_own_like stands past other k k' one like h)
    (like_there stands (frame_at past) (frame_at other) (last_own past k)
    (λ a e. let l : a < length past.acts = last_below_lt (own_test past k) (length past.acts) a e in
    frame_like stands (kind_at past.acts a) (kind_at other.acts a) (moment_at past.acts a) (moment_at other.acts a) (opened_at past a) (opened_at other a) (like.moments a l) (opened_like stands past other a like l) (like.kinds a l)))
