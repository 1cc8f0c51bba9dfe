-- What goes to a peer by a link, each packet marked as a reply past all modules or as an item's.
use Rattle.std.proofs.Common.{◌≡◌, ◌==◌, ◌&&◌, ℕ, Bool, true, false, not, cond, List, [], ◌∷◌, ◌++◌, map, Option, None, Some, inl, inr, refl, ap, sym, ◌∙◌, subst, Contains}
use Rattle.std.specs.List.{flat_map, filter, cons_option}
use Rattle.std.proofs.lemmas.List.{map-append}
use Rattle.std.proofs.lemmas.List.Elements.{filter-append, filter_map-append}
use Rattle.m17_values.specs.declared.peer.Peer.{Peer}
use Rattle.m17_control.specs.declared.item.Direct.{Direct}
use Rattle.m17_control.specs.declared.item.Item.{Item}
use Rattle.m17_control.specs.declared.packet.Packet.{Packet}
use Rattle.m17_control.specs.declared.packet.Packet.TheVariants as packets
use Rattle.m17_control.specs.Spelled.{packet_said}
use Rattle.m17_sender.specs.Acts.{Act, Saying, to_peer, things_of, answer_of, answers_of, saying_of, sayings}
use Rattle.m17_sender.specs.Orders.{IsShuffle}
use Rattle.m17_sender.specs.Joined.{Queues, items_of, is_to_any, item_of, items_said, goes_to, replies_to, packets_to, packets_of}
use Rattle.m17_sender.specs.Laws.{RepliesAndItemsInterleave, PeersAreToldInOrder}
use Rattle.m17_sender.proofs.Splits.{MakesOne, Found, found_in, contains_split, contains_from, filter_agree_on}
use Rattle.m17_sender.proofs.Members.{in_its_queue}
use Rattle.m17_sender.proofs.InOrder.{in_order}

abbrev Marked : Type 0
Marked = Bool × Packet

-- what is made of lists part by part, and is the same of the parts
by_parts : {A B C X : Type 0} (F : List A → List X) (G : List B → List X) (f : C → List A) (g : C → List B) → F [] ≡ G [] → ((xs ys : List A) → F (xs ++ ys) ≡ F xs ++ F ys) → ((xs ys : List B) → G (xs ++ ys) ≡ G xs ++ G ys) → ((c : C) → F (f c) ≡ G (g c)) → (cs : List C) → F (flat_map f cs) ≡ G (flat_map g cs)
by_parts F G f g none split_f split_g each [] = none
by_parts F G f g none split_f split_g each (c ∷ cs) =
    split_f (f c) (flat_map f cs)
    ∙ ap (λ xs. xs ++ F (flat_map f cs)) (each c)
    ∙ ap (λ xs. G (g c) ++ xs) (by_parts F G f g none split_f split_g each cs)
    ∙ sym (split_g (g c) (flat_map g cs))

abbrev of_option : Option Packet → List Marked
of_option None = []
of_option (Some packet) = (false, packet) ∷ []

abbrev mark : ℕ → ℕ → (Peer → Bool) → Act → List Marked
mark name i x (Act.Says m q item) = cond (goes_to i x item) (of_option (packet_said item.body name)) []
mark name i x (Act.Answers direct) = cond (i == direct.link && x direct.peer) ((true, packets.Control direct.control) ∷ []) []
mark name i x (Act.Notes link member) = []

abbrev whole_of : List Marked → List Packet
whole_of ms = map (λ (m : Marked). m.1) ms

abbrev first_of : List Marked → List Packet
first_of ms = map (λ (m : Marked). m.1) (filter (λ (m : Marked). m.0) ms)

abbrev second_of : List Marked → List Packet
second_of ms = map (λ (m : Marked). m.1) (filter (λ (m : Marked). not m.0) ms)

filtered_parts : {A X : Type 0} (f : A → X) (t : A → Bool) (xs ys : List A) → map f (filter t (xs ++ ys)) ≡ map f (filter t xs) ++ map f (filter t ys)
filtered_parts f t xs ys = ap (map f) (filter-append t xs ys) ∙ map-append f (filter t xs) (filter t ys)

-- the whole
said_whole : (x : Peer → Bool) (peer : Peer) (o : Option Packet) (b c : Bool) → x peer ≡ c → packets_to x (cond b (to_peer peer o) []) ≡ whole_of (cond (b && c) (of_option o) [])
said_whole x peer None false c is = refl
said_whole x peer None true true is = refl
said_whole x peer None true false is = refl
said_whole x peer (Some p) false c is = refl
said_whole x peer (Some p) true true is = ap (λ b. map (λ (s : Saying). s.1) (cond b ((peer, p) ∷ []) [])) is
said_whole x peer (Some p) true false is = ap (λ b. map (λ (s : Saying). s.1) (cond b ((peer, p) ∷ []) [])) is

answer_whole : (x : Peer → Bool) (peer : Peer) (p : Packet) (b c : Bool) → x peer ≡ c → packets_to x (cond b ((peer, p) ∷ []) []) ≡ whole_of (cond (b && c) ((true, p) ∷ []) [])
answer_whole x peer p false c is = refl
answer_whole x peer p true true is = ap (λ b. map (λ (s : Saying). s.1) (cond b ((peer, p) ∷ []) [])) is
answer_whole x peer p true false is = ap (λ b. map (λ (s : Saying). s.1) (cond b ((peer, p) ∷ []) [])) is

act_whole : (name i : ℕ) (x : Peer → Bool) (act : Act) → packets_to x (saying_of name i act) ≡ whole_of (mark name i x act)
act_whole name i x (Act.Says m q item) = said_whole x item.peer (packet_said item.body name) (i == item.link) (x item.peer) refl
act_whole name i x (Act.Answers direct) = answer_whole x direct.peer (packets.Control direct.control) (i == direct.link) (x direct.peer) refl
act_whole name i x (Act.Notes link member) = refl

-- the replies
no_reply : (o : Option Packet) (b : Bool) → first_of (cond b (of_option o) []) ≡ []
no_reply None true = refl
no_reply None false = refl
no_reply (Some p) true = refl
no_reply (Some p) false = refl

answer_first : (d : Direct) (b : Bool) → map (λ (d : Direct). packets.Control d.control) (cond b (d ∷ []) []) ≡ first_of (cond b ((true, packets.Control d.control) ∷ []) [])
answer_first d true = refl
answer_first d false = refl

act_first : (name i : ℕ) (x : Peer → Bool) (act : Act) → replies_to i x (answer_of act) ≡ first_of (mark name i x act)
act_first name i x (Act.Says m q item) = sym (no_reply (packet_said item.body name) (goes_to i x item))
act_first name i x (Act.Answers direct) = answer_first direct (i == direct.link && x direct.peer)
act_first name i x (Act.Notes link member) = refl

-- the items
packets_to_one : ℕ → ℕ → (Peer → Bool) → List Item → List Packet
packets_to_one name i x items = packets_of name (filter (goes_to i x) items)

no_item : (p : Packet) (b : Bool) → [] ≡ second_of (cond b ((true, p) ∷ []) [])
no_item p true = refl
no_item p false = refl

said_second : (name : ℕ) (item : Item) (o : Option Packet) (b : Bool) → packet_said item.body name ≡ o → packets_of name (cond b (item ∷ []) []) ≡ second_of (cond b (of_option o) [])
said_second name item o false is = refl
said_second name item None true is = ap (λ (w : Option Packet). cons_option w []) is
said_second name item (Some p) true is = ap (λ (w : Option Packet). cons_option w []) is

act_second : (name i : ℕ) (x : Peer → Bool) (act : Act) → packets_of name (filter (goes_to i x) (item_of act)) ≡ second_of (mark name i x act)
act_second name i x (Act.Says m q item) = said_second name item (packet_said item.body name) (goes_to i x item) refl
act_second name i x (Act.Answers direct) = no_item (packets.Control direct.control) (i == direct.link && x direct.peer)
act_second name i x (Act.Notes link member) = refl

pub interleave : RepliesAndItemsInterleave
interleave name i x acts = record {
  marked = flat_map (mark name i x) acts;
  whole_is = by_parts (packets_to x) whole_of (saying_of name i) (mark name i x) refl
      (filtered_parts (λ (s : Saying). s.1) (λ (s : Saying). x s.0)) (map-append (λ (m : Marked). m.1)) (act_whole name i x) acts;
  first_is = by_parts (replies_to i x) first_of answer_of (mark name i x) refl
      (filtered_parts (λ (d : Direct). packets.Control d.control) (λ (d : Direct). i == d.link && x d.peer))
      (filtered_parts (λ (m : Marked). m.1) (λ (m : Marked). m.0)) (act_first name i x) acts;
  second_is = by_parts (λ items. packets_of name (filter (goes_to i x) items)) second_of item_of (mark name i x) refl
      (λ a b. ap (packets_of name) (filter-append (goes_to i x) a b) ∙ filter_map-append (λ (item : Item). packet_said item.body name) (filter (goes_to i x) a) (filter (goes_to i x) b))
      (filtered_parts (λ (m : Marked). m.1) (λ (m : Marked). not m.0)) (act_second name i x) acts;
}

-- an item that was said is in its queue
one_item : MakesOne item_of
one_item (Act.Says m q item) = inr (item, refl)
one_item (Act.Answers direct) = inl refl
one_item (Act.Notes link member) = inl refl

saying_act : (act : Act) (z : Item) → item_of act ≡ z ∷ [] → (m : ℕ) × (q : ℕ) × (act ≡ Act.Says m q z)
saying_act (Act.Says m q item) z e = let same : item ≡ z = cc in (m, q, ap (Act.Says m q) same)
saying_act (Act.Answers direct) z e = absurd (let none : [] ≡ z ∷ [] = e in cc)
saying_act (Act.Notes link member) z e = absurd (let none : [] ≡ z ∷ [] = e in cc)

queued : (acts : List Act) (queues : Queues) → ((m q : ℕ) → things_of m q acts ≡ queues m q) → (z : Item) → Contains (items_said acts) z → (m : ℕ) × (q : ℕ) × Contains (queues m q) z
queued acts queues things z here =
    let s = contains_split (items_said acts) z here in
    let f : Found item_of acts s.0 z = found_in item_of one_item acts s.0 s.1 z s.2 in
    let a = saying_act f.it z f.it_is in
    let there : Contains acts (Act.Says a.0 a.1 z) = contains_from acts f.before f.behind (Act.Says a.0 a.1 z) (f.xs_are ∙ ap (λ (w : Act). f.before ++ w ∷ f.behind) a.2) in
    (a.0, a.1, subst (λ ws. Contains ws z) (things a.0 a.1) (in_its_queue acts a.0 a.1 z there))

pub told_in_order : PeersAreToldInOrder
told_in_order acts more queues link joins all inturn name x agree =
    let same : filter (goes_to link x) (items_said (acts ++ more)) ≡ flat_map (items_of queues) joins =
    filter_agree_on (goes_to link x) (is_to_any joins) (items_said (acts ++ more))
    (λ z here. let there = queued (acts ++ more) queues all.things z here in agree there.0 there.1 z there.2)
    ∙ in_order acts more queues link joins all inturn in
    subst (λ items. IsShuffle (replies_to link x (answers_of (acts ++ more))) (packets_of name items) (packets_to x (sayings name link (acts ++ more)))) same
    (interleave name link x (acts ++ more))
