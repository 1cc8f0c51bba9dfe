-- What each mouth says in a run, from what the receivers and the sender did, the lanes between them, and what was said
-- behind the sender of what was left in these.
use Rattle.m17_reflect.proofs.AllSaid.{PeerLaws, IsThere, can_say, queue_said, door_said, mouth_at, mouths_long, said_in_turn, AllSaid, AreItsMemberships, sends}
use Rattle.m17_reflect.proofs.LinkNotes.{NoteLaws, AreNoted, all_in, are_its}
use Rattle.m17_reflect.proofs.LanesDrained.{DoorLaws, IsDoor, door_of, is_door, AreQueuesBack, carried_settled, popped_then_left}
use Rattle.std.proofs.Common.{◌≡◌, ℕ, List, ◌++◌, map, length, Option, Some, sym, subst, ap, ◌∙◌, arith}
use Rattle.std.specs.Prelude.{slice_get, filter}
use Rattle.std.specs.List.{AllByRecursion}
use Rattle.std.proofs.lemmas.List.{length-map}
use Rattle.std.proofs.lemmas.List.Elements.{recursion_from_All}
use Rattle.m17_values.specs.declared.member.Member.{Member}
use Rattle.m17_values.specs.declared.peer.Peer.{Peer}
use Rattle.m17_ports.specs.Book.{BookTold}
use Rattle.m17_ports.specs.Ear.{EarTold}
use Rattle.m17_ports.specs.Mouth.{MouthTold}
use Rattle.m17_ports.specs.Laws.{MouthsSayInTurn}
use Rattle.m17_control.specs.declared.item.Direct.{Direct}
use Rattle.m17_control.specs.declared.item.Item.{Item}
use Rattle.m17_crew.specs.declared.order.Order.{Order}
use Rattle.m17_directory.specs.Entries.{is_peer}
use Rattle.m17_lane.specs.Ends.{PushEnd, PopEnd, TrailEnd, new_pushers}
use Rattle.m17_lane.specs.Orders.{items_of}
use Rattle.m17_lane.specs.Rows.{IsNewRow}
use Rattle.m17_lane.specs.RowsLaws.{RowsPush}
use Rattle.m17_lane.specs.Trails.{IsTrailOf, AreTrailsOfOnes}
use Rattle.m17_receiver.specs.declared.receiver.Receiver.{Receiver}
use Rattle.m17_sender.specs.declared.sender.Sender.{Sender}
use Rattle.m17_sender.specs.Places.{cells_of, held_at, popped_at, queues_of}
use Rattle.m17_sender.specs.Sent.{EachMouth, SaidByLink, Sent}
use Rattle.m17_sender.specs.Acts.{Act, answers_of, notes_of, things_of}
use Rattle.m17_sender.specs.Joined.{SayAll, IsJoined, goes_to}
use Rattle.m17_reflect.specs.Links.{Link, At, link_setup}
use Rattle.m17_reflect.specs.Queues.{carried}
use Rattle.m17_reflect.specs.Run.{Run}
use Rattle.m17_reflect.specs.Sendings.{memberships, Sends, IsForMemberships, MouthsSay}
use Rattle.m17_reflect.specs.Jobs.{AreReceivers}
use Rattle.m17_reflect.proofs.LinksHeard.{Came, all_at}
use Rattle.m17_reflect.specs.Left.{left}
use Rattle.m17_reflect.specs.Rest.{has_link, has_link_too, left_at}
use Rattle.m17_reflect.proofs.MemberLives.{is_of_run, link_is_there}
use Rattle.m17_reflect.proofs.LinkMembers.{AreMembers, its_share, StandsAlone}
use Rattle.m17_reflect.proofs.PlaceByPlace.{at_below, below_at, AllZip3, zip3_at, zip3_length, unmapped, mapped_at}
use Rattle.m17_reflect.proofs.ClaimsDiffer.{ClaimsDiffer}

-- The laws that this rests on.
pub record MouthLaws (L : Type 0) : Type 0 where
  pub noted : NoteLaws
  pub peers : PeerLaws
  pub doors : DoorLaws
  pub notes : RowsPush Member
  pub mouths : MouthsSayInTurn L

-- What was said when the jobs had ended, on all mouths: what was left in the door, and of each queue what was held back
-- there and then what was left, but for what names no link.
pub record RestIsSaid {M L : Type 0} (tells : M → MouthTold L) (name : ℕ) (cells : List (List (Option Item)))
    (queues : List (List (TrailEnd Item))) (door : TrailEnd Direct) (before after : List M) : Type 0 where
  pub acts : List Act
  pub things : (m q : ℕ) → things_of m q acts
      ≡ filter (has_link (length before)) (held_at cells m q ++ left_at queues m q)
  pub answers : answers_of acts ≡ filter (has_link_too (length before)) (left door)
  pub mouths : EachMouth (λ i m n. SaidByLink name acts i (tells m) (tells n)) 0 before after

-- The receivers and the sender of a run, before it and when they had ended; the trails of their lanes as these came back;
-- and the mouths in the end.
pub record Ended (E B M : Type 0) : Type 0 where
  pub js : List (Receiver E B)
  pub ks : List (Receiver E B)
  pub first : Sender M
  pub last : Sender M
  pub order : PopEnd Order
  pub notes : List (TrailEnd Member)
  pub queues : List (List (TrailEnd Item))
  pub door : TrailEnd Direct
  pub mouths : List M

abbrev pub noted_by : {E B : Type 0} → Receiver E B → PopEnd Member
noted_by k = k.notes

-- The lanes to and from the sender: all new before the run, and their trails those of the ends that came back.
pub record AreLanesBack {E B M : Type 0} (links : ℕ) (e : Ended E B M) : Type 0 where
  pub door_popper : PopEnd Direct
  pub new_doors : map door_of e.js ≡ new_pushers door_popper links
  pub door : IsTrailOf (map door_of e.ks) e.last.door e.door
  pub new_notes : IsNewRow e.first.notes.items
  pub notes : AreTrailsOfOnes e.last.notes.items (map noted_by e.ks) e.notes
  pub note_count : length e.first.notes.items ≡ links
  pub queues : AreQueuesBack (queues_of e.last) e.queues

-- A run whose receivers came, whose sender sent, and behind which the rest was said.
pub record IsSentOut {E B M EL ML BL : Type 0} (hears : E → EarTold EL) (writes : B → BookTold BL) (tells : M → MouthTold ML) (run : Run EL ML BL)
    (links : List Link) (e : Ended E B M) : Type 0 where
  pub members : AreMembers run links
  pub differ : (i : ℕ) (link : Link) → At links i link → ClaimsDiffer link.entries
  pub are : AreReceivers run.plan e.js
  pub came : AllZip3 (Came hears writes) e.js e.ks links
  pub sent : Sent tells e.first e.last e.order
  pub name : e.first.name ≡ run.plan.name
  pub places : e.first.places ≡ run.plan.places
  pub mouth_count : length e.first.mouths.items ≡ length links
  pub lanes : AreLanesBack (length links) e
  pub drained : (m q : ℕ) → carried run.handed.queues m q ≡ carried e.queues m q
  pub rest : RestIsSaid tells run.plan.name (cells_of e.last) e.queues e.door e.last.mouths.items e.mouths
  pub before : run.before.mouths ≡ map tells e.first.mouths.items
  pub after : run.after.mouths ≡ map tells e.mouths

module _ {E B M EL ML BL : Type 0} where
  -- each item of a queue has a link and a place that are there
  all_there : MouthLaws ML → (hears : E → EarTold EL) (writes : B → BookTold BL) (tells : M → MouthTold ML) (run : Run EL ML BL) (links : List Link) (e : Ended E B M) → IsSentOut hears writes tells run links e → (m q : ℕ) → AllByRecursion (IsThere (length links) run.plan.places) (carried run.handed.queues m q)
  all_there laws hears writes tells run links e h m q =
      all_in (IsThere (length links) run.plan.places) (carried run.handed.queues m q) (λ i item at.
      let is = is_of_run laws.noted.members.carried run links m q item h.members.carried (i, at) in
      let place = is.place in let within = is.within in
      (link_is_there run links m q item h.members.carried is, omega arith))

  mouths_now : (hears : E → EarTold EL) (writes : B → BookTold BL) (tells : M → MouthTold ML) (run : Run EL ML BL) (links : List Link) (e : Ended E B M) → IsSentOut hears writes tells run links e → length e.last.mouths.items ≡ length links
  mouths_now hears writes tells run links e h =
      mouths_long (λ i m n. SaidByLink e.first.name h.sent.acts i (tells m) (tells n)) 0 e.first.mouths.items e.last.mouths.items h.sent.mouths
      ∙ h.mouth_count

  -- all of the queues was said
  say_all : (laws : MouthLaws ML) (hears : E → EarTold EL) (writes : B → BookTold BL) (tells : M → MouthTold ML) (run : Run EL ML BL) (links : List Link) (e : Ended E B M) → (h : IsSentOut hears writes tells run links e) → SayAll h.sent.acts h.rest.acts (carried run.handed.queues)
  say_all laws hears writes tells run links e h = record {
    turns = h.sent.turns;
    things = λ m q.
        let popped = popped_at (queues_of e.last) m q in
        let held = held_at (cells_of e.last) m q in
        let test = h.sent.lanes.queues m q in
        queue_said (length links) run.plan.places m q h.sent.acts h.rest.acts (carried run.handed.queues m q) popped (left_at e.queues m q) held
        (all_there laws hears writes tells run links e h m q)
        (h.drained m q ∙ carried_settled (queues_of e.last) e.queues h.lanes.queues m q)
        (subst (λ (n : ℕ). filter (λ item. can_say n run.plan.places item) popped ≡ things_of m q h.sent.acts ++ held) h.mouth_count
        (subst (λ (p : ℕ). filter (λ item. can_say (length e.first.mouths.items) p item) popped ≡ things_of m q h.sent.acts ++ held) h.places test))
        (subst (λ (n : ℕ). things_of m q h.rest.acts ≡ filter (has_link n) (held ++ left_at e.queues m q)) (mouths_now hears writes tells run links e h) (h.rest.things m q));
  }

  -- what the door carried
  its_door : (laws : MouthLaws ML) (hears : E → EarTold EL) (writes : B → BookTold BL) (tells : M → MouthTold ML) (run : Run EL ML BL) (links : List Link) (e : Ended E B M) → IsSentOut hears writes tells run links e → IsDoor run.plan links (items_of e.door.order)
  its_door laws hears writes tells run links e h =
      is_door laws.doors hears writes run.plan e.js e.ks links h.lanes.door_popper e.last.door e.door h.are h.came h.lanes.new_doors h.lanes.door

  all_answered : (laws : MouthLaws ML) (hears : E → EarTold EL) (writes : B → BookTold BL) (tells : M → MouthTold ML) (run : Run EL ML BL) (links : List Link) (e : Ended E B M) → (h : IsSentOut hears writes tells run links e) → answers_of (h.sent.acts ++ h.rest.acts) ≡ items_of e.door.order
  all_answered laws hears writes tells run links e h =
      let popped = e.last.door.popped in
      let (rest, whole) = h.lanes.door.whole in
      let queued : items_of e.door.order ≡ popped ++ rest = whole.queued ∙ ap (λ (l : List Direct). l ++ rest) h.lanes.door.popped in
      door_said (length links) h.sent.acts h.rest.acts (items_of e.door.order) popped (left e.door)
      (its_door laws hears writes tells run links e h).known
      (popped_then_left popped e.door rest h.lanes.door.popped queued)
      (subst (λ (n : ℕ). filter (has_link_too n) popped ≡ answers_of h.sent.acts) h.mouth_count h.sent.lanes.door)
      (subst (λ (n : ℕ). answers_of h.rest.acts ≡ filter (has_link_too n) (left e.door)) (mouths_now hears writes tells run links e h) h.rest.answers)

  -- what a receiver popped of its notes
  are_noted : (laws : MouthLaws ML) (hears : E → EarTold EL) (writes : B → BookTold BL) (tells : M → MouthTold ML) (run : Run EL ML BL) (links : List Link) (e : Ended E B M) → (h : IsSentOut hears writes tells run links e) → (i : ℕ) (link : Link) (j k : Receiver E B) → At links i link → slice_get e.js i ≡ Some j → slice_get e.ks i ≡ Some k → AreNoted link.entries h.sent.acts i k.notes.popped
  are_noted laws hears writes tells run links e h i link j k at at_j at_k =
      let pushed = h.sent.lanes.notes in
      let long : length e.last.notes.items ≡ length links = ap length pushed ∙ laws.notes.count (λ i. notes_of i h.sent.acts) 0 e.first.notes.items ∙ h.lanes.note_count in
      let inside = below_at links i link at in
      let lens = zip3_length (Came hears writes) e.js e.ks links h.came in
      let count = h.lanes.notes.count in
      let (q, at_q) = at_below e.last.notes.items i (omega arith) in
      let (t, at_t) = at_below e.notes i (omega (arith, lens.0, lens.1, length-map e.ks noted_by)) in
      let one = h.lanes.notes.each i q k.notes t at_q (mapped_at noted_by e.ks i k at_k) at_t in
      let said : q.pushed ≡ notes_of i h.sent.acts = laws.notes.from_new (λ i. notes_of i h.sent.acts) e.first.notes.items i q h.lanes.new_notes (ap (λ (l : List (PushEnd Member)). slice_get l i) (sym pushed) ∙ at_q) in
      record {
        rest = one.settled.0;
        settled = sym said ∙ one.settled.1;
        byes = h.sent.noted i;
        greeted = (zip3_at (Came hears writes) e.js e.ks links h.came i j k link at_j at_k at).greeted;
        differ = h.differ i link at;
      }

  -- what a mouth has said
  said_by : (laws : MouthLaws ML) (hears : E → EarTold EL) (writes : B → BookTold BL) (tells : M → MouthTold ML) (run : Run EL ML BL) (links : List Link) (e : Ended E B M) → (h : IsSentOut hears writes tells run links e) → (i : ℕ) (before after : MouthTold ML) → At run.before.mouths i before → At run.after.mouths i after → SaidByLink run.plan.name (h.sent.acts ++ h.rest.acts) i before after
  said_by laws hears writes tells run links e h i before after at_b at_a =
      let (m, at_m, is_m) = unmapped tells e.first.mouths.items i before (ap (λ (l : List (MouthTold ML)). slice_get l i) (sym h.before) ∙ at_b) in
      let (o, at_o, is_o) = unmapped tells e.mouths i after (ap (λ (l : List (MouthTold ML)). slice_get l i) (sym h.after) ∙ at_a) in
      let inside = below_at e.first.mouths.items i m at_m in
      let now = mouths_now hears writes tells run links e h in let count = h.mouth_count in
      let (n, at_n) = at_below e.last.mouths.items i (omega arith) in
      let first : SaidByLink run.plan.name h.sent.acts i (tells m) (tells n) =
      subst (λ (name : ℕ). SaidByLink name h.sent.acts i (tells m) (tells n)) h.name
      (mouth_at (λ i m n. SaidByLink e.first.name h.sent.acts i (tells m) (tells n)) 0 e.first.mouths.items e.last.mouths.items h.sent.mouths i i m n (omega arith) at_m at_n) in
      let second : SaidByLink run.plan.name h.rest.acts i (tells n) (tells o) =
      mouth_at (λ i m n. SaidByLink run.plan.name h.rest.acts i (tells m) (tells n)) 0 e.last.mouths.items e.mouths h.rest.mouths i i n o (omega arith) at_n at_o in
      subst (λ (b : MouthTold ML). SaidByLink run.plan.name (h.sent.acts ++ h.rest.acts) i b after) is_m
      (subst (λ (a : MouthTold ML). SaidByLink run.plan.name (h.sent.acts ++ h.rest.acts) i (tells m) a) is_o
      (said_in_turn laws.peers.spelled laws.mouths run.plan.name h.sent.acts h.rest.acts i (tells m) (tells n) (tells o) first second))

  -- a peer's memberships on a link, and what goes to it there
  its_memberships : (laws : MouthLaws ML) (hears : E → EarTold EL) (writes : B → BookTold BL) (tells : M → MouthTold ML) (run : Run EL ML BL) (links : List Link) (e : Ended E B M) → (h : IsSentOut hears writes tells run links e) → (i : ℕ) (link : Link) (x : Peer) → At links i link → AreItsMemberships h.sent.acts (carried run.handed.queues) (link_setup run.plan i) link.entries x
  its_memberships laws hears writes tells run links e h i link x at =
      let lens = zip3_length (Came hears writes) e.js e.ks links h.came in
      let inside = below_at links i link at in
      let (j, at_j) = at_below e.js i (omega (arith, lens.1)) in
      let (k, at_k) = at_below e.ks i (omega (arith, lens.0, lens.1)) in
      let came = zip3_at (Came hears writes) e.js e.ks links h.came i j k link at_j at_k at in
      are_its laws.noted run links i link h.sent.acts h.rest.acts k.notes.popped x h.members at (say_all laws hears writes tells run links e h)
      (are_noted laws hears writes tells run links e h i link j k at at_j at_k) came.is_link.says came.counted

  -- all that the queues carry for it is for its memberships
  shares : (laws : MouthLaws ML) (hears : E → EarTold EL) (writes : B → BookTold BL) (tells : M → MouthTold ML) (run : Run EL ML BL) (links : List Link) (e : Ended E B M) → IsSentOut hears writes tells run links e → (i : ℕ) (link : Link) (x : Peer) → At links i link → IsForMemberships (link_setup run.plan i) link.entries run.handed.queues x
  shares laws hears writes tells run links e h i link x at =
      let its = its_memberships laws hears writes tells run links e h i link x at in
      let joins = memberships (link_setup run.plan i) link.entries x in
      let each = recursion_from_All (IsJoined (carried run.handed.queues) i) joins its.in_turn.each in
      its_share run.handed.queues joins (goes_to i (is_peer x)) (λ a b d lt less. (its.in_turn.waits a b d lt less).0)
      (all_in (StandsAlone run.handed.queues) joins (λ n one there. (all_at (IsJoined (carried run.handed.queues) i) joins each n one there).alone))
      its.its_items

  -- what a link's mouth sends
  link_sends : (laws : MouthLaws ML) (hears : E → EarTold EL) (writes : B → BookTold BL) (tells : M → MouthTold ML) (run : Run EL ML BL) (links : List Link) (e : Ended E B M) → (h : IsSentOut hears writes tells run links e) → (i : ℕ) (link : Link) (before after : MouthTold ML) → At links i link → At run.before.mouths i before → At run.after.mouths i after → Sends (link_setup run.plan i) link.entries (carried run.handed.queues) before after
  link_sends laws hears writes tells run links e h i link before after at at_b at_a =
      let acts = h.sent.acts in let more = h.rest.acts in
      let lens = zip3_length (Came hears writes) e.js e.ks links h.came in
      let inside = below_at links i link at in
      let (j, at_j) = at_below e.js i (omega (arith, lens.1)) in
      let (k, at_k) = at_below e.ks i (omega (arith, lens.0, lens.1)) in
      let say = say_all laws hears writes tells run links e h in
      let said = said_by laws hears writes tells run links e h i before after at_b at_a in
      let came = zip3_at (Came hears writes) e.js e.ks links h.came i j k link at_j at_k at in
      sends laws.peers acts more (carried run.handed.queues) (items_of e.door.order) (link_setup run.plan i) link.entries said.datagrams before after
      (record { say = say; door = all_answered laws hears writes tells run links e h })
      ((its_door laws hears writes tells run links e h).parts i link at)
      (λ x. are_its laws.noted run links i link acts more k.notes.popped x h.members at say (are_noted laws hears writes tells run links e h i link j k at at_j at_k) came.is_link.says came.counted)
      said.spelled said.said

  -- What each mouth says.
  pub mouths_say : MouthLaws ML → (hears : E → EarTold EL) (writes : B → BookTold BL) (tells : M → MouthTold ML) (run : Run EL ML BL) (links : List Link) (e : Ended E B M) → IsSentOut hears writes tells run links e → MouthsSay run links
  mouths_say laws hears writes tells run links e h = record {
    count = ap length h.after ∙ length-map e.mouths tells
        ∙ mouths_long (λ i m n. SaidByLink run.plan.name h.rest.acts i (tells m) (tells n)) 0 e.last.mouths.items e.mouths h.rest.mouths
        ∙ mouths_now hears writes tells run links e h;
    each = link_sends laws hears writes tells run links e h;
    shares = shares laws hears writes tells run links e h;
  }
