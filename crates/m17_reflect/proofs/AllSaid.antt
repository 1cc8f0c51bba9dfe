-- What a peer is told by a link, from what the sender and the house behind it have said.
use Rattle.std.proofs.Common.{◌≡◌, ℕ, Bool, true, false, cond, List, [], ◌∷◌, ◌++◌, map, None, Some, sym, subst, refl, ap, ◌∙◌, arith, zero, suc, ◌+◌, ◌<◌, length, nat_lt}
use Rattle.std.specs.Prelude.{◌==◌, ◌&&◌, filter, Contains, slice_get}
use Rattle.std.specs.List.{flat_map, filter_map, cons_option, AllByRecursion}
use Rattle.std.proofs.lemmas.Bool.Decides.{nat_tests}
use Rattle.m17_values.specs.declared.peer.Peer.{Peer}
use Rattle.m17_ports.specs.Mouth.{Datagram, MouthTold, SaidOf}
use Rattle.m17_control.specs.declared.item.Direct.{Direct}
use Rattle.m17_control.specs.declared.item.Item.{Item}
use Rattle.m17_control.specs.declared.packet.Control.{Control}
use Rattle.m17_control.specs.declared.packet.Packet.{Packet}
use Rattle.m17_control.specs.declared.packet.Packet.TheVariants as packets
use Rattle.m17_directory.specs.Entries.{Entry, Setup, is_peer}
use Rattle.m17_directory.specs.Routed.{direct_replies}
use Rattle.m17_directory.specs.Laws.{DoorCarriesReplies, door_replies, told_to}
use Rattle.m17_lane.specs.Orders.{picked}
use Rattle.m17_sender.specs.Acts.{Act, answers_of, notes_of, sayings, AreSpelled, Saying, answer_of, thing_of, things_of, saying_of}
use Rattle.m17_sender.specs.Orders.{IsShuffle}
use Rattle.m17_sender.specs.Joined.{Queues, SayAll, AreInTurn, is_to_any, goes_to, replies_to, packets_to, packets_of}
use Rattle.m17_sender.specs.Joined as joined
use Rattle.m17_sender.specs.Laws.{PeersAreToldInOrder, SpelledPartByPart}
use Rattle.m17_reflect.specs.Sendings.{memberships, IsToldAs, Sends}
use Rattle.std.proofs.lemmas.Bool.{and_from, lt-ltb}
use Rattle.std.proofs.lemmas.List.{append_assoc}
use Rattle.std.proofs.lemmas.Option.{same_Some, none-some}
use Rattle.m17_ports.specs.Laws.{MouthsSayInTurn}
use Rattle.m17_sender.specs.Sent.{EachMouth, SaidByLink}
use Rattle.m17_reflect.specs.Rest.{has_link, has_link_too}

-- the number of a reply's link
abbrev pub link_of_reply : Direct → ℕ
link_of_reply d = d.link

pick_step : (i n : ℕ) (there : Bool) (d : Direct) (kept picks : List Direct) (x : Peer → Bool) → (i == n) ≡ there → filter (λ (d : Direct). x d.peer) picks ≡ kept → cond ((i == n) && x d.peer) (d ∷ kept) kept ≡ filter (λ (d : Direct). x d.peer) (cond there (d ∷ picks) picks)
pick_step i n true d kept picks x e h =
    ap (λ (b : Bool). cond (b && x d.peer) (d ∷ kept) kept) e ∙ ap (λ (l : List Direct). cond (x d.peer) (d ∷ l) l) (sym h)
pick_step i n false d kept picks x e h = ap (λ (b : Bool). cond (b && x d.peer) (d ∷ kept) kept) e ∙ sym h

same_test : (i n : ℕ) → (i == n) ≡ (n == i)
same_test i n = grind (arith, nat_tests)

-- the replies of a link to a peer are those to the peer in the link's part
part_to : (i : ℕ) (x : Peer → Bool) (directs : List Direct) → filter (λ (d : Direct). i == d.link && x d.peer) directs ≡ filter (λ (d : Direct). x d.peer) (picked link_of_reply i directs)
part_to i x [] = refl
part_to i x (d ∷ directs) =
    pick_step i d.link (d.link == i) d (filter (λ (d : Direct). i == d.link && x d.peer) directs) (picked link_of_reply i directs) x
    (same_test i d.link) (sym (part_to i x directs))

told_step : (x : Peer) (b : Bool) (d : Direct) (kept : List Direct) (told : List Control) → is_peer x d.peer ≡ b → map (λ (d : Direct). packets.Control d.control) kept ≡ map packets.Control told → map (λ (d : Direct). packets.Control d.control) (cond b (d ∷ kept) kept) ≡ map packets.Control (cons_option (cond b (Some d.control) None) told)
told_step x true d kept told e h = ap (λ (l : List Packet). packets.Control d.control ∷ l) h
told_step x false d kept told e h = h

controls_to : (x : Peer) (directs : List Direct) → map (λ (d : Direct). packets.Control d.control) (filter (λ (d : Direct). is_peer x d.peer) directs) ≡ map packets.Control (filter_map (told_to x) directs)
controls_to x [] = refl
controls_to x (d ∷ directs) =
    told_step x (is_peer x d.peer) d (filter (λ (d : Direct). is_peer x d.peer) directs) (filter_map (told_to x) directs) refl (controls_to x directs)

-- the replies to a peer are its direct replies
pub replies_are : DoorCarriesReplies → (setup : Setup) (entries : List Entry) (x : Peer) (directs : List Direct) → door_replies setup entries ≡ picked link_of_reply setup.link directs → replies_to setup.link (is_peer x) directs ≡ map packets.Control (direct_replies setup entries x)
replies_are law setup entries x directs e =
    ap (map (λ (d : Direct). packets.Control d.control)) (part_to setup.link (is_peer x) directs)
    ∙ ap (λ (l : List Direct). map (λ (d : Direct). packets.Control d.control) (filter (λ (d : Direct). is_peer x d.peer) l)) (sym e)
    ∙ controls_to x (door_replies setup entries) ∙ ap (map packets.Control) (law.to_peer setup entries x)

-- All that was said, the sender's acts and more behind them: the queues' items and the door's replies.
pub record AllSaid (acts more : List Act) (queues : Queues) (directs : List Direct) : Type 0 where
  pub say : SayAll acts more queues
  pub door : answers_of (acts ++ more) ≡ directs

-- The items to the peer by the link are those to its memberships there, which wait for one another.
pub record AreItsMemberships (acts : List Act) (queues : Queues) (setup : Setup) (entries : List Entry)
    (x : Peer) : Type 0 where
  pub in_turn : AreInTurn queues setup.link (notes_of setup.link acts) (memberships setup entries x)
  pub its_items : (m q : ℕ) (item : Item) → Contains (queues m q) item →
      goes_to setup.link (is_peer x) item ≡ is_to_any (memberships setup entries x) item

-- the laws that this rests on
pub record PeerLaws : Type 0 where
  pub order : PeersAreToldInOrder
  pub spelled : SpelledPartByPart
  pub door : DoorCarriesReplies

-- what a peer is told
pub told_as : PeerLaws → (acts more : List Act) (queues : Queues) (directs : List Direct) (setup : Setup) (entries : List Entry) (x : Peer) (attempts : List Datagram) → AllSaid acts more queues directs → door_replies setup entries ≡ picked link_of_reply setup.link directs → AreItsMemberships acts queues setup entries x → AreSpelled (sayings setup.name setup.link (acts ++ more)) attempts → IsToldAs setup entries queues x attempts
told_as laws acts more queues directs setup entries x attempts all part its spelled =
    let said = sayings setup.name setup.link (acts ++ more) in record {
      told = packets_to (is_peer x) said;
      order = subst (λ (first : List Packet). IsShuffle first (packets_of setup.name (flat_map (joined.items_of queues) (memberships setup entries x))) (packets_to (is_peer x) said))
          (ap (replies_to setup.link (is_peer x)) all.door ∙ replies_are laws.door setup entries x directs part)
          (laws.order acts more queues setup.link (memberships setup entries x) all.say its.in_turn setup.name (is_peer x) its.its_items);
      spelled = laws.spelled.to_each (is_peer x) said attempts spelled;
    }

-- what a link's mouth sends
pub sends : {L : Type 0} → PeerLaws → (acts more : List Act) (queues : Queues) (directs : List Direct) (setup : Setup) (entries : List Entry) (attempts : List Datagram) (before after : MouthTold L) → AllSaid acts more queues directs → door_replies setup entries ≡ picked link_of_reply setup.link directs → ((x : Peer) → AreItsMemberships acts queues setup entries x) → AreSpelled (sayings setup.name setup.link (acts ++ more)) attempts → SaidOf before attempts after → Sends setup entries queues before after
sends laws acts more queues directs setup entries attempts before after all part its spelled said = record {
  attempts = attempts;
  to_each = λ x. told_as laws acts more queues directs setup entries x attempts all part (its x) spelled;
  said = said;
}

-- What the sender said and what was said behind it: of each queue all that it carried, all that the door carried, and on
-- each mouth the datagrams of both, one after the other.

module _ {A B : Type 0} where
  -- what two lists of acts come to, one behind the other
  pub flat_append : (f : A → List B) (xs ys : List A) → flat_map f (xs ++ ys) ≡ flat_map f xs ++ flat_map f ys
  flat_append f [] ys = refl
  flat_append f (x ∷ xs) ys =
      ap (λ (l : List B). f x ++ l) (flat_append f xs ys) ∙ sym (append_assoc (f x) (flat_map f xs) (flat_map f ys))

module _ {T : Type 0} where
  kept_step : (b : Bool) (x : T) (kept xs : List T) → b ≡ true → kept ≡ xs → cond b (x ∷ kept) kept ≡ x ∷ xs
  kept_step true x kept xs e h = ap (λ (l : List T). x ∷ l) h
  kept_step false x kept xs e h = absurd cc

  -- where each passes, all are kept
  pub all_kept : (p : T → Bool) (xs : List T) → AllByRecursion (λ x. p x ≡ true) xs → filter p xs ≡ xs
  all_kept p [] h = refl
  all_kept p (x ∷ xs) h = kept_step (p x) x (filter p xs) xs h.0 (all_kept p xs h.1)

  pub all_front : (P : T → Type 0) (xs ys : List T) → AllByRecursion P (xs ++ ys) → AllByRecursion P xs
  all_front P [] ys h = tt
  all_front P (x ∷ xs) ys h = (h.0, all_front P xs ys h.1)

  pub all_back : (P : T → Type 0) (xs ys : List T) → AllByRecursion P (xs ++ ys) → AllByRecursion P ys
  all_back P [] ys h = h
  all_back P (x ∷ xs) ys h = all_back P xs ys h.1

  pub all_also : (P Q : T → Type 0) → ((x : T) → P x → Q x) → (xs : List T) → AllByRecursion P xs → AllByRecursion Q xs
  all_also P Q f [] h = tt
  all_also P Q f (x ∷ xs) h = (f x h.0, all_also P Q f xs h.1)

-- The item's link and its member's place are there.
abbrev pub IsThere : ℕ → ℕ → Item → Type 0
IsThere links places item = (item.link < links) × (item.member.place < places)

-- whether it is said by so many links and places
abbrev pub can_say : ℕ → ℕ → Item → Bool
can_say links places item = nat_lt item.link links && nat_lt item.member.place places

can_be_said : (links places : ℕ) (item : Item) → IsThere links places item → can_say links places item ≡ true
can_be_said links places item h =
    and_from (nat_lt item.link links) (nat_lt item.member.place places) (lt-ltb item.link links h.0) (lt-ltb item.member.place places h.1)

-- What was said of a queue, and behind it, is what it carried.
pub queue_said : (links places m q : ℕ) (acts more : List Act) (whole popped left held : List Item) → AllByRecursion (IsThere links places) whole → whole ≡ popped ++ left → filter (can_say links places) popped ≡ things_of m q acts ++ held → things_of m q more ≡ filter (has_link links) (held ++ left) → things_of m q (acts ++ more) ≡ whole
queue_said links places m q acts more whole popped left held there e said rest =
    let all : AllByRecursion (IsThere links places) (popped ++ left) = subst (AllByRecursion (IsThere links places)) e there in
    let is : popped ≡ things_of m q acts ++ held =
    sym (all_kept (can_say links places) popped (all_also (IsThere links places) (λ item. can_say links places item ≡ true) (can_be_said links places) popped (all_front (IsThere links places) popped left all))) ∙ said in
    let parts : popped ++ left ≡ things_of m q acts ++ (held ++ left) =
    ap (λ (l : List Item). l ++ left) is ∙ append_assoc (things_of m q acts) held left in
    let behind : AllByRecursion (IsThere links places) (held ++ left) = all_back (IsThere links places) (things_of m q acts) (held ++ left) (subst (AllByRecursion (IsThere links places)) parts all) in
    flat_append (thing_of m q) acts more
    ∙ ap (λ (l : List Item). things_of m q acts ++ l)
    (rest ∙ all_kept (has_link links) (held ++ left) (all_also (IsThere links places) (λ item. has_link links item ≡ true) (λ item h. lt-ltb item.link links h.0) (held ++ left) behind))
    ∙ sym parts ∙ sym e

-- What was answered past all modules, and behind it, is what the door carried.
pub door_said : (links : ℕ) (acts more : List Act) (whole popped left : List Direct) → AllByRecursion (λ (d : Direct). d.link < links) whole → whole ≡ popped ++ left → filter (has_link_too links) popped ≡ answers_of acts → answers_of more ≡ filter (has_link_too links) left → answers_of (acts ++ more) ≡ whole
door_said links acts more whole popped left there e said rest =
    let all : AllByRecursion (λ (d : Direct). has_link_too links d ≡ true) (popped ++ left) =
    subst (AllByRecursion (λ (d : Direct). has_link_too links d ≡ true)) e
    (all_also (λ (d : Direct). d.link < links) (λ d. has_link_too links d ≡ true) (λ d h. lt-ltb d.link links h) whole there) in
    flat_append answer_of acts more
    ∙ ap (λ (l : List Direct). l ++ answers_of more) (sym said ∙ all_kept (has_link_too links) popped (all_front (λ (d : Direct). has_link_too links d ≡ true) popped left all))
    ∙ ap (λ (l : List Direct). popped ++ l) (rest ∙ all_kept (has_link_too links) left (all_back (λ (d : Direct). has_link_too links d ≡ true) popped left all))
    ∙ sym e

module _ {M : Type 0} where
  -- what holds of each mouth holds of the one at a place
  pub mouth_at : (P : ℕ → M → M → Type 0) (k : ℕ) (ms ns : List M) → EachMouth P k ms ns → (i j : ℕ) (m n : M) → j ≡ k + i → slice_get ms i ≡ Some m → slice_get ns i ≡ Some n → P j m n
  mouth_at P k [] [] h i j m n is em en = absurd (none-some m em)
  mouth_at P k [] (b ∷ ns) h i j m n is em en = absurd h
  mouth_at P k (a ∷ ms) [] h i j m n is em en = absurd h
  mouth_at P k (a ∷ ms) (b ∷ ns) h zero j m n is em en =
      let at : k ≡ j = omega arith in
      subst (λ (i : ℕ). P i m n) at
      (subst (λ (x : M). P k x n) (same_Some a m em) (subst (P k a) (same_Some b n en) h.0))
  mouth_at P k (a ∷ ms) (b ∷ ns) h (suc i) j m n is em en = mouth_at P (suc k) ms ns h.1 i j m n (omega arith) em en

  pub mouths_long : (P : ℕ → M → M → Type 0) (k : ℕ) (ms ns : List M) → EachMouth P k ms ns → length ns ≡ length ms
  mouths_long P k [] [] h = refl
  mouths_long P k [] (b ∷ ns) h = absurd h
  mouths_long P k (a ∷ ms) [] h = absurd h
  mouths_long P k (a ∷ ms) (b ∷ ns) h = ap suc (mouths_long P (suc k) ms ns h.1)

module _ {L : Type 0} where
  -- What a mouth has said by two lists of acts, one behind the other.
  pub said_in_turn : SpelledPartByPart → MouthsSayInTurn L → (name : ℕ) (acts more : List Act) (i : ℕ) (a b c : MouthTold L) → SaidByLink name acts i a b → SaidByLink name more i b c → SaidByLink name (acts ++ more) i a c
  said_in_turn spelled law name acts more i a b c first second = record {
    datagrams = first.datagrams ++ second.datagrams;
    spelled = subst (λ (s : List Saying). AreSpelled s (first.datagrams ++ second.datagrams)) (sym (flat_append (saying_of name i) acts more))
        (spelled.in_turn (sayings name i acts) (sayings name i more) first.datagrams second.datagrams first.spelled second.spelled);
    said = law.in_turn a b c first.datagrams second.datagrams first.said second.said;
  }
