-- Who is in at a place, when the list of events goes on.
use Rattle.std.proofs.Common.{◌≡◌, ℕ, suc, ◌<◌, ◌≤◌, ◌&&◌, Bool, true, false, cond, List, [], ◌∷◌, ◌++◌, length, slice_get, nat_lt, eqb, get_or, Option, None, Some, refl, ap, sym, ◌∙◌, arith}
use Rattle.std.proofs.lemmas.Bool.{cond-true, cond-false, eq-eqb, eqb-true, lt-ltb, ltb-true, and_from, and_parts}
use Rattle.std.proofs.lemmas.Option.{same_Some, cond_some, option_and_then_some}
use Rattle.std.proofs.lemmas.List.FromFn.{get_or-map-range_with_len, length-map-range_with_len, fill_by_all}
use Rattle.std.specs.Option.{option_and_then}
use Rattle.m17_values.specs.declared.member.Member.{Member}
use Rattle.m17_control.specs.declared.event.Body.{Body}
use Rattle.m17_control.specs.declared.event.Body.TheVariants.{Join, Leave, Packet, Reply, Tick, Stop}
use Rattle.m17_control.specs.declared.event.Event.{Event}
use Rattle.m17_floor.specs.declared.act.Act.{Act}
use Rattle.m17_floor.specs.declared.act.ActKind.TheVariants as act
use Rattle.m17_lookup.specs.Lookup.{last_below}
use Rattle.m17_floor.specs.Acts.{with_act, kind_at, is_same, is_join_of, settles, joined_at}
use Rattle.m17_floor.specs.Floor.{listens}
use Rattle.m17_floor.specs.Laws.{LaterActsChangeNoMembership, MembershipOfOneMore, joined_with}
use Rattle.m17_module.specs.declared.seat.Seat.{Seat}
use Rattle.m17_module.specs.Events.{kind_of, act_of, acts_of}
use Rattle.m17_module.specs.Seats.{seat_joined, seat_from, is_at, is_position, if_in_by, last_join, seat_at, seats_at}
use Rattle.m17_module.proofs.Acts.{acts_more, acts_append, length_acts, kind_from, kind_at_is}
use Rattle.m17_lookup.proofs.LastBelow.{last_below_suc, last_below_same, last_below_lt, last_below_true, and_then_same}
use Rattle.m17_module.proofs.Below.{slice_get_before, slice_get_end, length_more, last_below_stricter}

pub is_same_self : (k : Member) → is_same k k ≡ true
is_same_self k = and_from _ _ (eq-eqb k.place k.place refl) (eq-eqb k.generation k.generation refl)

pub same_from_is_same : (a b : Member) → is_same a b ≡ true → a ≡ b
same_from_is_same a b h =
    let parts = and_parts (eqb a.place b.place) (eqb a.generation b.generation) h in
    let place : a.place ≡ b.place = eqb-true _ _ parts.0 in
    let generation : a.generation ≡ b.generation = eqb-true _ _ parts.1 in
    let make : ℕ → ℕ → Member = λ x y. record { place = x; generation = y } in
    ap (λ x. make x a.generation) place ∙ ap (make b.place) generation

pub joined_at_before : LaterActsChangeNoMembership → (places : ℕ) (events more : List Event) (k : Member) (n : ℕ) → n ≤ length events → joined_at places (acts_of (events ++ more)) k n ≡ joined_at places (acts_of events) k n
joined_at_before law places events more k n h =
    ap (λ acts. joined_at places acts k n) (acts_append events more) ∙ law places (acts_of events) (acts_of more) k n (omega (arith, length_acts events))

-- who is in after one event more
pub joined_new : MembershipOfOneMore → (places : ℕ) (events : List Event) (event : Event) (k : Member) → joined_at places (acts_of (events ++ event ∷ [])) k (suc (length events)) ≡ joined_with places (acts_of events) (act_of event) k
joined_new law places events event k =
    let len : length (with_act (acts_of events) (act_of event)) ≡ suc (length events) = length_more (acts_of events) (act_of event) ∙ ap suc (length_acts events) in
    ap (λ acts. joined_at places acts k (suc (length events))) (acts_more events event)
    ∙ ap (joined_at places (with_act (acts_of events) (act_of event)) k) (sym len)
    ∙ law places (acts_of events) (act_of event) k

if_in_same : (places : ℕ) (old new : List Event) (m n j : ℕ) (o : Option Seat) → ((seat : Seat) → o ≡ Some seat → joined_at places (acts_of new) seat.member m ≡ joined_at places (acts_of old) seat.member n) → if_in_by places new m j o ≡ if_in_by places old n j o
if_in_same places old new m n j None h = refl
if_in_same places old new m n j (Some seat) h = ap (λ i. cond (is_position j i) (Some seat) None) (h seat refl)

pub position_is : (j : ℕ) (o : Option ℕ) → is_position j o ≡ true → o ≡ Some j
position_is j None e = cc
position_is j (Some i) e = ap Some (eqb-true i j e)

pub if_in_some : (places : ℕ) (events : List Event) (n j : ℕ) (o : Option Seat) (seat : Seat) → if_in_by places events n j o ≡ Some seat → (o ≡ Some seat) × (joined_at places (acts_of events) seat.member n ≡ Some j)
if_in_some places events n j None seat e = cc
if_in_some places events n j (Some s) seat e =
    let parts = cond_some (is_position j (joined_at places (acts_of events) s.member n)) s seat e in
    (ap Some parts.1, ap (λ (x : Seat). joined_at places (acts_of events) x.member n) (sym parts.1) ∙ position_is j (joined_at places (acts_of events) s.member n) parts.0)

if_in_gone : (places : ℕ) (old new : List Event) (m n j : ℕ) (o : Option Seat) (seat : Seat) → if_in_by places old n j o ≡ Some seat → joined_at places (acts_of new) seat.member m ≡ None → if_in_by places new m j o ≡ None
if_in_gone places old new m n j o seat e gone =
    let is : o ≡ Some seat = (if_in_some places old n j o seat e).0 in
    ap (if_in_by places new m j) is ∙ ap (λ i. cond (is_position j i) (Some seat) None) gone

last_join_before : (events more : List Event) (n q : ℕ) → n ≤ length events → last_join (events ++ more) n q ≡ last_join events n q
unfolding last_join
last_join_before events more n q h = last_below_same _ _ n (λ m l. ap (λ o. is_at q (seat_from o)) (slice_get_before events more m (omega arith)))

pub last_join_lt : (events : List Event) (n q j : ℕ) → last_join events n q ≡ Some j → j < n
unfolding last_join
last_join_lt events n q j e = last_below_lt _ n j e

pub last_join_at : (events : List Event) (n q j : ℕ) → last_join events n q ≡ Some j → is_at q (seat_from (slice_get events j)) ≡ true
unfolding last_join
last_join_at events n q j e = last_below_true (λ i. is_at q (seat_from (slice_get events i))) n j e

last_join_suc : (events : List Event) (n q : ℕ) → last_join events (suc n) q ≡ cond (is_at q (seat_from (slice_get events n))) (Some n) (last_join events n q)
unfolding last_join
last_join_suc events n q = last_below_suc (λ j. is_at q (seat_from (slice_get events j))) n

last_join_more : (events : List Event) (event : Event) (q : ℕ) → last_join (events ++ event ∷ []) (suc (length events)) q ≡ cond (is_at q (seat_from (Some event))) (Some (length events)) (last_join events (length events) q)
last_join_more events event q =
    last_join_suc (events ++ event ∷ []) (length events) q
    ∙ ap (λ o. cond (is_at q (seat_from o)) (Some (length events)) (last_join (events ++ event ∷ []) (length events) q)) (slice_get_end events event)
    ∙ ap (cond (is_at q (seat_from (Some event))) (Some (length events))) (last_join_before events (event ∷ []) (length events) q (omega arith))

place_is : (q : ℕ) (o : Option Seat) (seat : Seat) → o ≡ Some seat → is_at q o ≡ true → seat.member.place ≡ q
place_is q None seat e t = cc
place_is q (Some s) seat e t = ap (λ (x : Seat). x.member.place) (sym (same_Some s seat e)) ∙ eqb-true s.member.place q t

-- What is looked up before a position does not change when the list goes on.
pub seat_at_before : LaterActsChangeNoMembership → (places : ℕ) (events more : List Event) (n q : ℕ) → n ≤ length events → seat_at places (events ++ more) n q ≡ seat_at places events n q
unfolding seat_at
seat_at_before law places events more n q h =
    let later : ℕ → Option Seat = λ j. if_in_by places (events ++ more) n j (seat_from (slice_get (events ++ more) j)) in
    let there : ℕ → Option Seat = λ j. if_in_by places events n j (seat_from (slice_get events j)) in
    ap (option_and_then later) (last_join_before events more n q h)
    ∙ and_then_same (last_join events n q) later there
    (λ j e.
    let l : j < n = last_join_lt events n q j e in
    ap (λ o. if_in_by places (events ++ more) n j (seat_from o)) (slice_get_before events more j (omega arith))
    ∙ if_in_same places events (events ++ more) n n j (seat_from (slice_get events j)) (λ seat is. joined_at_before law places events more seat.member n h))

-- An event that brings nobody in at the place, and changes nobody's membership there, leaves it as it is.
pub seat_same : (places : ℕ) (events : List Event) (event : Event) (q : ℕ) → is_at q (seat_from (Some event)) ≡ false → ((seat : Seat) → seat.member.place ≡ q → joined_at places (acts_of (events ++ event ∷ [])) seat.member (suc (length events)) ≡ joined_at places (acts_of events) seat.member (length events)) → seat_at places (events ++ event ∷ []) (suc (length events)) q ≡ seat_at places events (length events) q
unfolding seat_at
seat_same places events event q nobody kept =
    let n : ℕ = length events in
    let longer : List Event = events ++ event ∷ [] in
    let later : ℕ → Option Seat = λ j. if_in_by places longer (suc n) j (seat_from (slice_get longer j)) in
    let there : ℕ → Option Seat = λ j. if_in_by places events n j (seat_from (slice_get events j)) in
    ap (option_and_then later) (last_join_more events event q ∙ cond-false (is_at q (seat_from (Some event))) (Some n) (last_join events n q) nobody)
    ∙ and_then_same (last_join events n q) later there
    (λ j e.
    ap (λ o. if_in_by places longer (suc n) j (seat_from o)) (slice_get_before events (event ∷ []) j (last_join_lt events n q j e))
    ∙ if_in_same places events longer (suc n) n j (seat_from (slice_get events j)) (λ seat is. kept seat (place_is q (seat_from (slice_get events j)) seat is (last_join_at events n q j e))))

-- the event of a seat is the Join of its member
seat_kind : (link : ℕ) (body : Body) (seat : Seat) → seat_joined link body ≡ Some seat → kind_of body ≡ act.Join seat.member seat.listens
seat_kind link (Join k peer callsign l after) seat e = ap (λ (s : Seat). act.Join s.member s.listens) (same_Some _ seat e)
seat_kind link (Leave k why) seat e = cc
seat_kind link (Packet k p) seat e = cc
seat_kind link (Reply k control) seat e = cc
seat_kind link Tick seat e = cc
seat_kind link Stop seat e = cc

pub seat_kind_from : (o : Option Event) (seat : Seat) → seat_from o ≡ Some seat → kind_from o ≡ act.Join seat.member seat.listens
seat_kind_from None seat e = cc
seat_kind_from (Some event) seat e = seat_kind event.tag.link event.body seat e

joined_by : MembershipOfOneMore → (places : ℕ) (events : List Event) (event : Event) (k : Member) (l : Bool) → kind_of event.body ≡ act.Join k l → k.place < places → joined_at places (acts_of (events ++ event ∷ [])) k (suc (length events)) ≡ Some (length events)
joined_by law places events event k l e below =
    let old : Option ℕ = joined_at places (acts_of events) k (length (acts_of events)) in
    let mine : (is_same k k && nat_lt k.place places) ≡ true = and_from _ _ (is_same_self k) (lt-ltb k.place places below) in
    joined_new law places events event k
    ∙ ap (λ kind. cond (settles k kind) (cond (is_join_of k kind && nat_lt k.place places) (Some (length (acts_of events))) None) old) e
    ∙ cond-true (eqb k.place k.place) _ old (eq-eqb k.place k.place refl)
    ∙ cond-true (is_same k k && nat_lt k.place places) (Some (length (acts_of events))) None mine
    ∙ ap Some (length_acts events)

-- A Join brings its member in at its place.
pub seat_joins : MembershipOfOneMore → (places : ℕ) (events : List Event) (event : Event) (seat : Seat) → seat_from (Some event) ≡ Some seat → seat.member.place < places → seat_at places (events ++ event ∷ []) (suc (length events)) seat.member.place ≡ Some seat
unfolding seat_at
seat_joins law places events event seat is below =
    let n : ℕ = length events in
    let q : ℕ = seat.member.place in
    let longer : List Event = events ++ event ∷ [] in
    let later : ℕ → Option Seat = λ j. if_in_by places longer (suc n) j (seat_from (slice_get longer j)) in
    let here : is_at q (seat_from (Some event)) ≡ true = ap (is_at q) is ∙ eq-eqb q q refl in
    ap (option_and_then later) (last_join_more events event q ∙ cond-true (is_at q (seat_from (Some event))) (Some n) (last_join events n q) here)
    ∙ ap (λ o. if_in_by places longer (suc n) n (seat_from o)) (slice_get_end events event)
    ∙ ap (if_in_by places longer (suc n) n) is
    ∙ ap (λ i. cond (is_position n i) (Some seat) None) (joined_by law places events event seat.member seat.listens (seat_kind_from (Some event) seat is) below)
    ∙ cond-true (eqb n n) (Some seat) None (eq-eqb n n refl)

and_then_none : {A B : Type 0} (o : Option A) (f g : A → Option B) (y : B) → option_and_then f o ≡ Some y → ((x : A) → f x ≡ Some y → g x ≡ None) → option_and_then g o ≡ None
and_then_none None f g y e h = refl
and_then_none (Some x) f g y e h = h x e

-- Nobody is in at the place of a member that has left.
pub seat_leaves : (places : ℕ) (events : List Event) (event : Event) (seat : Seat) (q : ℕ) → seat_at places events (length events) q ≡ Some seat → is_at q (seat_from (Some event)) ≡ false → joined_at places (acts_of (events ++ event ∷ [])) seat.member (suc (length events)) ≡ None → seat_at places (events ++ event ∷ []) (suc (length events)) q ≡ None
unfolding seat_at
seat_leaves places events event seat q is nobody gone =
    let n : ℕ = length events in
    let longer : List Event = events ++ event ∷ [] in
    let later : ℕ → Option Seat = λ j. if_in_by places longer (suc n) j (seat_from (slice_get longer j)) in
    let old : ℕ → Option Seat = λ j. if_in_by places longer (suc n) j (seat_from (slice_get events j)) in
    let there : ℕ → Option Seat = λ j. if_in_by places events n j (seat_from (slice_get events j)) in
    ap (option_and_then later) (last_join_more events event q ∙ cond-false (is_at q (seat_from (Some event))) (Some n) (last_join events n q) nobody)
    ∙ and_then_same (last_join events n q) later old
    (λ j e. ap (λ o. if_in_by places longer (suc n) j (seat_from o)) (slice_get_before events (event ∷ []) j (last_join_lt events n q j e)))
    ∙ and_then_none (last_join events n q) there old seat is
    (λ j e. if_in_gone places events longer (suc n) n j (seat_from (slice_get events j)) seat e gone)

-- Who is in at a place is in by its Join, at this place.
pub record IsIn (places : ℕ) (events : List Event) (n q : ℕ) (seat : Seat) : Type 0 where
  pub place : seat.member.place ≡ q
  pub position : ℕ
  pub joined : joined_at places (acts_of events) seat.member n ≡ Some position
  pub listening : listens (kind_at (acts_of events) position) ≡ seat.listens

pub seat_is_in : (places : ℕ) (events : List Event) (n q : ℕ) (seat : Seat) → seat_at places events n q ≡ Some seat → IsIn places events n q seat
unfolding seat_at
seat_is_in places events n q seat e =
    option_and_then_some (λ j. if_in_by places events n j (seat_from (slice_get events j))) (last_join events n q) seat e
    (λ j found there.
    let parts = if_in_some places events n j (seat_from (slice_get events j)) seat there in
    record {
      place = place_is q (seat_from (slice_get events j)) seat parts.0 (last_join_at events n q j found);
      position = j;
      joined = parts.1;
      listening = ap listens (kind_at_is events j ∙ seat_kind_from (slice_get events j) seat parts.0);
    })

stricter_body : (k : Member) (link : ℕ) (body : Body) → is_at k.place (seat_joined link body) ≡ true → settles k (kind_of body) ≡ true
stricter_body k link (Join m peer callsign l after) e = e
stricter_body k link (Leave m why) e = cc
stricter_body k link (Packet m p) e = cc
stricter_body k link (Reply m control) e = cc
stricter_body k link Tick e = cc
stricter_body k link Stop e = cc

stricter_test : (k : Member) (o : Option Event) → is_at k.place (seat_from o) ≡ true → settles k (kind_from o) ≡ true
stricter_test k None e = cc
stricter_test k (Some event) e = stricter_body k event.tag.link event.body e

join_body : (k : Member) (link : ℕ) (body : Body) → is_join_of k (kind_of body) ≡ true → (seat : Seat) × (seat_joined link body ≡ Some seat) × (seat.member ≡ k)
join_body k link (Join m peer callsign l after) e = (record { member = m; link = link; peer = peer; listens = l }, refl, same_from_is_same m k e)
join_body k link (Leave m why) e = cc
join_body k link (Packet m p) e = cc
join_body k link (Reply m control) e = cc
join_body k link Tick e = cc
join_body k link Stop e = cc

join_there : (k : Member) (o : Option Event) → is_join_of k (kind_from o) ≡ true → (seat : Seat) × (seat_from o ≡ Some seat) × (seat.member ≡ k)
join_there k None e = cc
join_there k (Some event) e = join_body k event.tag.link event.body e

-- A member that is in has its seat at its place.
pub record HasSeat (places : ℕ) (events : List Event) (n : ℕ) (k : Member) : Type 0 where
  pub below : k.place < places
  pub seat : Seat
  pub is : seat_at places events n k.place ≡ Some seat
  pub mine : seat.member ≡ k

pub some_from_cond : (b : Bool) (o : Option ℕ) (a : ℕ) → cond b o None ≡ Some a → (b ≡ true) × (o ≡ Some a)
some_from_cond true o a e = (refl, e)
some_from_cond false o a e = cc

has_seat : (places : ℕ) (events : List Event) (n : ℕ) (k : Member) (i : ℕ) (seat : Seat) → k.place < places → last_join events n k.place ≡ Some i → seat_from (slice_get events i) ≡ Some seat → seat.member ≡ k → joined_at places (acts_of events) k n ≡ Some i → HasSeat places events n k
unfolding seat_at
has_seat places events n k i seat below last is mine joined =
    let there : ℕ → Option Seat = λ j. if_in_by places events n j (seat_from (slice_get events j)) in
    record {
      below = below;
      seat = seat;
      is = ap (option_and_then there) last
          ∙ ap (if_in_by places events n i) is
          ∙ ap (λ o. cond (is_position i o) (Some seat) None) (ap (λ m. joined_at places (acts_of events) m n) mine ∙ joined)
          ∙ cond-true (eqb i i) (Some seat) None (eq-eqb i i refl);
      mine = mine;
    }

-- the parts of a member's Join
pub record JoinParts (places : ℕ) (events : List Event) (n : ℕ) (k : Member) (j : ℕ) : Type 0 where
  pub below : nat_lt k.place places ≡ true
  pub last : last_below (λ i. settles k (kind_at (acts_of events) i)) n ≡ Some j
  pub join : is_join_of k (kind_at (acts_of events) j) ≡ true

pub join_parts : (places : ℕ) (events : List Event) (n : ℕ) (k : Member) (j : ℕ) → joined_at places (acts_of events) k n ≡ Some j → JoinParts places events n k j
unfolding joined_at
join_parts places events n k j e =
    let acts : List Act = acts_of events in
    let there : ℕ → Option ℕ = λ i. cond (is_join_of k (kind_at acts i)) (Some i) None in
    let parts = some_from_cond (nat_lt k.place places) (option_and_then there (last_below (λ i. settles k (kind_at acts i)) n)) j e in
    option_and_then_some there (last_below (λ i. settles k (kind_at acts i)) n) j parts.1
    (λ i found is.
    let same = cond_some (is_join_of k (kind_at acts i)) i j is in
    record {
      below = parts.0;
      last = found ∙ ap Some same.1;
      join = ap (λ m. is_join_of k (kind_at acts m)) (sym same.1) ∙ same.0;
    })

last_join_is : (events : List Event) (n q j : ℕ) → last_below (λ i. is_at q (seat_from (slice_get events i))) n ≡ Some j → last_join events n q ≡ Some j
unfolding last_join
last_join_is events n q j e = e

pub joined_has_seat : (places : ℕ) (events : List Event) (n : ℕ) (k : Member) (j : ℕ) → joined_at places (acts_of events) k n ≡ Some j → HasSeat places events n k
joined_has_seat places events n k j e =
    let parts = join_parts places events n k j e in
    let settling : ℕ → Bool = λ i. settles k (kind_at (acts_of events) i) in
    let bringing : ℕ → Bool = λ i. is_at k.place (seat_from (slice_get events i)) in
    let join = join_there k (slice_get events j) (ap (is_join_of k) (sym (kind_at_is events j)) ∙ parts.join) in
    let at_place : bringing j ≡ true = ap (is_at k.place) join.1 ∙ eq-eqb join.0.member.place k.place (ap (λ (m : Member). m.place) join.2) in
    let last : last_below bringing n ≡ Some j =
    last_below_stricter settling bringing n j (λ m b. ap (settles k) (kind_at_is events m) ∙ stricter_test k (slice_get events m) b) parts.last at_place in
    has_seat places events n k j join.0 (ltb-true k.place places parts.below) (last_join_is events n k.place j last) join.1 join.2 e

-- The list of places.
pub length_seats : (places : ℕ) (events : List Event) (n : ℕ) → length (seats_at places events n) ≡ places
unfolding seats_at
length_seats places events n = length-map-range_with_len (seat_at places events n) 0 places

pub seats_at_is : (places : ℕ) (events : List Event) (n q : ℕ) → q < places → get_or (seats_at places events n) q None ≡ seat_at places events n q
unfolding seats_at
seats_at_is places events n q h = get_or-map-range_with_len (seat_at places events n) 0 places q q None h (omega arith)

pub seats_from : (places : ℕ) (events : List Event) (n : ℕ) (seats : List (Option Seat)) → length seats ≡ places → ((q : ℕ) → q < places → get_or seats q None ≡ seat_at places events n q) → seats ≡ seats_at places events n
unfolding seats_at
seats_from places events n seats len each = fill_by_all (seat_at places events n) seats places None len each

pub seats_at_before : LaterActsChangeNoMembership → (places : ℕ) (events more : List Event) (n : ℕ) → n ≤ length events → seats_at places events n ≡ seats_at places (events ++ more) n
seats_at_before law places events more n h =
    seats_from places (events ++ more) n (seats_at places events n) (length_seats places events n)
    (λ q l. seats_at_is places events n q l ∙ sym (seat_at_before law places events more n q h))

pub joined_below : (places : ℕ) (events : List Event) (n : ℕ) (k : Member) (j : ℕ) → joined_at places (acts_of events) k n ≡ Some j → j < n
joined_below places events n k j e = last_below_lt _ n j (join_parts places events n k j e).last
