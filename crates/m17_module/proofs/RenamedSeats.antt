-- Who is in, where the same events are of other members.
use Rattle.std.proofs.Common.{◌≡◌, ℕ, Bool, true, false, cond, List, slice_get, get_or, is_some, Option, None, Some, refl, ap, sym, ◌∙◌}
use Rattle.std.specs.List.{count_by}
use Rattle.std.specs.Option.{option_and_then}
use Rattle.std.proofs.lemmas.Option.{same_Some, option_and_then_some}
use Rattle.m17_values.specs.declared.member.Member.{Member}
use Rattle.m17_control.specs.declared.event.Body.{Body}
use Rattle.m17_control.specs.declared.event.Body.TheVariants as body
use Rattle.m17_control.specs.declared.event.Event.{Event}
use Rattle.m17_control.specs.Renamed.{IsRenamedBody}
use Rattle.m17_floor.specs.Acts.{joined_at}
use Rattle.m17_module.specs.declared.seat.Seat.{Seat}
use Rattle.m17_module.specs.Events.{acts_of}
use Rattle.m17_module.specs.Seats.{seat_joined, seat_from, is_position, if_in_by, last_join, seat_at, seats_at, members_of, seat_of}
use Rattle.m17_module.specs.Laws.{AreFreelyRenamed}
use Rattle.m17_module.proofs.RenamedEvents.{FloorRenamed, IsRenamedAt, renamed_at, acts_renamed}
use Rattle.m17_module.proofs.SeatCounts.{total_same, counted, in_by, members_by_joins}
use Rattle.m17_module.proofs.SeatsMore.{if_in_some, joined_has_seat, seats_at_is}
use Rattle.m17_module.proofs.FramesMine.{seat_of_some, is_in_exactly}

-- the seat is the same, of the member that stands for the other
pub record IsLikeSeat (stands : Member → Member → Bool) (s t : Seat) : Type 0 where
  pub member : stands s.member t.member ≡ true
  pub link : s.link ≡ t.link
  pub peer : s.peer ≡ t.peer

abbrev pub AreLikeSeats : (Member → Member → Bool) → Option Seat → Option Seat → Type 0
AreLikeSeats stands None None = Unit {0}
AreLikeSeats stands (Some s) (Some t) = IsLikeSeat stands s t
AreLikeSeats stands _ _ = ⊥

joined_like : (stands : Member → Member → Bool) (link link' : ℕ) (a b : Body) → link ≡ link' → IsRenamedBody stands a b → AreLikeSeats stands (seat_joined link a) (seat_joined link' b)
joined_like stands link link' (body.Join k x c l after) (body.Join k' x' c' l' after') e h = record { member = h.0; link = e; peer = h.1 }
joined_like stands link link' (body.Leave k why) (body.Leave k' why') e h = tt
joined_like stands link link' (body.Packet k p) (body.Packet k' p') e h = tt
joined_like stands link link' (body.Reply k c) (body.Reply k' c') e h = tt
joined_like stands link link' body.Tick body.Tick e h = tt
joined_like stands link link' body.Stop body.Stop e h = tt
joined_like stands link link' _ _ e h = absurd h

from_like : (stands : Member → Member → Bool) (a b : Option Event) → IsRenamedAt stands a b → AreLikeSeats stands (seat_from a) (seat_from b)
from_like stands None None h = tt
from_like stands (Some a) (Some b) h = joined_like stands a.tag.link b.tag.link a.body b.body (ap (λ t. t.link) h.tag) h.what
from_like stands None (Some b) h = absurd h
from_like stands (Some a) None h = absurd h

pub like_if : (stands : Member → Member → Bool) (b c : Bool) (s t : Seat) → b ≡ c → IsLikeSeat stands s t → AreLikeSeats stands (cond b (Some s) None) (cond c (Some t) None)
like_if stands true true s t e h = h
like_if stands false false s t e h = tt
like_if stands true false s t e h = absurd (cc)
like_if stands false true s t e h = absurd (cc)

if_in_like : FloorRenamed → (stands : Member → Member → Bool) (places : ℕ) (events others : List Event) (n j : ℕ) (a b : Option Seat) → AreFreelyRenamed stands places events others → AreLikeSeats stands a b → AreLikeSeats stands (if_in_by places events n j a) (if_in_by places others n j b)
if_in_like law stands places events others n j None None r h = tt
if_in_like law stands places events others n j (Some s) (Some t) r h =
    like_if stands _ _ s t (ap (is_position j) (law.members stands places (acts_of events) (acts_of others) (acts_renamed stands places events others r) s.member t.member n h.member)) h
if_in_like law stands places events others n j None (Some t) r h = absurd h
if_in_like law stands places events others n j (Some s) None r h = absurd h

-- who is in by the Join at a position
pub in_by_like : FloorRenamed → (stands : Member → Member → Bool) (places : ℕ) (events others : List Event) (n j : ℕ) → AreFreelyRenamed stands places events others → AreLikeSeats stands (in_by places events n j) (in_by places others n j)
unfolding in_by
in_by_like law stands places events others n j r =
    if_in_like law stands places events others n j (seat_from (slice_get events j)) (seat_from (slice_get others j)) r
    (from_like stands (slice_get events j) (slice_get others j) (renamed_at stands events others j r.renamed))

-- tests that say the same of such seats
abbrev pub SaySame : (Member → Member → Bool) → (Seat → Bool) → (Seat → Bool) → Type 0
SaySame stands test test' = (s t : Seat) → IsLikeSeat stands s t → test s ≡ test' t

counted_like : (stands : Member → Member → Bool) (test test' : Seat → Bool) (a b : Option Seat) → SaySame stands test test' → AreLikeSeats stands a b → counted test a ≡ counted test' b
unfolding counted
counted_like stands test test' None None same h = refl
counted_like stands test test' (Some s) (Some t) same h = ap (λ b. cond b 1 0) (same s t h)
counted_like stands test test' None (Some t) same h = absurd h
counted_like stands test test' (Some s) None same h = absurd h

-- as many are in
pub members_like : FloorRenamed → (stands : Member → Member → Bool) (places : ℕ) (events others : List Event) (n : ℕ) (test test' : Seat → Bool) → AreFreelyRenamed stands places events others → SaySame stands test test' → count_by test (members_of (seats_at places events n)) ≡ count_by test' (members_of (seats_at places others n))
members_like law stands places events others n test test' r same =
    members_by_joins test places events n
    ∙ total_same (λ j. counted test (in_by places events n j)) (λ j. counted test' (in_by places others n j)) n (λ j l. counted_like stands test test' (in_by places events n j) (in_by places others n j) same (in_by_like law stands places events others n j r))
    ∙ sym (members_by_joins test' places others n)

none_from : (o : Option Seat) → is_some o ≡ false → o ≡ None
none_from None e = refl
none_from (Some s) e = cc

-- The seat of a member that is in.
seat_joined_at : (places : ℕ) (events : List Event) (n : ℕ) (k : Member) (o : Option ℕ) → joined_at places (acts_of events) k n ≡ o → seat_of (seats_at places events n) k ≡ option_and_then (in_by places events n) o
unfolding seat_at in_by
seat_joined_at places events n k None e =
    none_from (seat_of (seats_at places events n) k) (sym (is_in_exactly places events n k) ∙ ap is_some e)
seat_joined_at places events n k (Some j) e =
    let has = joined_has_seat places events n k j e in
    seat_of_some k (get_or (seats_at places events n) k.place None) has.seat (seats_at_is places events n k.place has.below ∙ has.is) has.mine
    ∙ sym (option_and_then_some (in_by places events n) (last_join events n k.place) has.seat has.is
    (λ i found there.
    let parts = if_in_some places events n i (seat_from (slice_get events i)) has.seat there in
    let same : Some i ≡ Some j = sym parts.1 ∙ ap (λ m. joined_at places (acts_of events) m n) has.mine ∙ e in
    ap (in_by places events n) (sym (same_Some i j same)) ∙ there))

like_then : (stands : Member → Member → Bool) (f g : ℕ → Option Seat) (o : Option ℕ) → ((j : ℕ) → AreLikeSeats stands (f j) (g j)) → AreLikeSeats stands (option_and_then f o) (option_and_then g o)
like_then stands f g None h = tt
like_then stands f g (Some j) h = h j

pub seat_like : FloorRenamed → (stands : Member → Member → Bool) (places : ℕ) (events others : List Event) (n : ℕ) (k k' : Member) → AreFreelyRenamed stands places events others → stands k k' ≡ true → AreLikeSeats stands (seat_of (seats_at places events n) k) (seat_of (seats_at places others n) k')
seat_like law stands places events others n k k' r h =
    let same : joined_at places (acts_of events) k n ≡ joined_at places (acts_of others) k' n = law.members stands places (acts_of events) (acts_of others) (acts_renamed stands places events others r) k k' n h in
    rw (seat_joined_at places events n k (joined_at places (acts_of events) k n) refl, seat_joined_at places others n k' (joined_at places (acts_of events) k n) (sym same))
    (like_then stands (in_by places events n) (in_by places others n) (joined_at places (acts_of events) k n) (λ j. in_by_like law stands places events others n j r))
