-- What a link's mouth said to a peer is a direct reply to it, or an item of one of its memberships.
use Rattle.std.proofs.Common.{◌≡◌, ◌⊎◌, ℕ, Bool, true, false, cond, List, ◌++◌, map, refl, sym, ap, ◌∙◌, subst, inl, inr, Option, None, Some, Contains}
use Rattle.std.specs.Prelude.{filter, not}
use Rattle.std.specs.List.{AllByRecursion, flat_map, items_where_true}
use Rattle.std.proofs.lemmas.List.Elements.{All-contains, All-from_recursion}
use Rattle.std.proofs.lemmas.Option.{none-some, same_Some}
use Rattle.m17_lists.proofs.Contents.{picked_was_in, mapped_is_in, is_mapped_from_one, is_given_by_one, filtered_was_in, what_passes_is_in}
use Rattle.m17_values.specs.declared.peer.Peer.{Peer}
use Rattle.m17_control.specs.Forms.{Spells}
use Rattle.m17_control.specs.Spelled.{packet_said}
use Rattle.m17_control.specs.declared.item.Direct.{Direct}
use Rattle.m17_control.specs.declared.item.Item.{Item}
use Rattle.m17_control.specs.declared.packet.Control.{Control}
use Rattle.m17_control.specs.declared.packet.Control.TheVariants.{Ackn}
use Rattle.m17_control.specs.declared.packet.Packet.{Packet}
use Rattle.m17_control.specs.declared.packet.Packet.TheVariants as packets
use Rattle.m17_ports.specs.Mouth.{Datagram, MouthTold}
use Rattle.m17_ports.specs.Told.{StartsEmpty, told_then}
use Rattle.m17_directory.specs.Entries.{Entry, Setup, is_peer}
use Rattle.m17_directory.specs.Laws.{DoorCarriesReplies, PeersAreToldApart, door_replies, is_door_reply, told_to}
use Rattle.m17_directory.specs.Routed.{direct_replies}
use Rattle.m17_sender.specs.Joined.{Joined, Queues, is_to, items_of, packets_of}
use Rattle.m17_sender.specs.Laws.{bytes_to}
use Rattle.m17_sender.specs.Orders.{IsShuffle}
use Rattle.m17_reflect.specs.Sendings.{IsToldAs, Sends, memberships}
use Rattle.m17_laws.proofs.Listed.{some_of, zip_right}

-- what a new device tells is what came
pub told_all : {A : Type 0} → (before : Option (List A)) (more all : List A) → StartsEmpty before
    → told_then before more ≡ Some all → all ≡ more
told_all None more all new e = absurd (none-some all e)
told_all (Some was) more all new e = sym (same_Some (was ++ more) all e) ∙ ap (λ l. l ++ more) (new was refl)

-- what stands in one order of two lists stands in one of them
by_mark : {T : Type 0} → (first second : List T) (marked : List (Bool × T)) (m : Bool × T) (b : Bool) → m.0 ≡ b
    → first ≡ map (λ m. m.1) (filter (λ m. m.0) marked) → second ≡ map (λ m. m.1) (filter (λ m. not m.0) marked)
    → Contains marked m → Contains first m.1 ⊎ Contains second m.1
by_mark first second marked m true e first_is second_is there =
    inl (rw first_is (mapped_is_in (λ m. m.1) (filter (λ m. m.0) marked) m (what_passes_is_in (λ m. m.0) marked m there e)))
by_mark first second marked m false e first_is second_is there =
    inr (rw second_is (mapped_is_in (λ m. m.1) (filter (λ m. not m.0) marked) m
    (what_passes_is_in (λ m. not m.0) marked m there (ap not e))))

in_either : {T : Type 0} → (first second whole : List T) (x : T) → IsShuffle first second whole
    → Contains whole x → Contains first x ⊎ Contains second x
in_either first second whole x order h =
    let (m, there, is) = is_mapped_from_one (λ m. m.1) order.marked x (subst (λ l. Contains l x) order.whole_is h) in
    subst (λ y. Contains first y ⊎ Contains second y) is
    (by_mark first second order.marked m m.0 refl order.first_is order.second_is there)

-- A packet that a peer was told: a direct reply, or what an item of a membership spells.
pub data Telling (setup : Setup) (entries : List Entry) (queues : Queues) (x : Peer) (q : Packet) : Type 0 where
  Replied : (c : Control) → q ≡ packets.Control c → Contains (direct_replies setup entries x) c
      → Telling setup entries queues x q
  Carried : (j : Joined) (item : Item) → is_to j.member item ≡ true
      → Contains (flat_map (items_of queues) (memberships setup entries x)) item
      → Contains (queues j.m j.member.place) item → packet_said item.body setup.name ≡ Some q
      → Telling setup entries queues x q

-- what a membership's queue holds for it
from_items : (setup : Setup) (entries : List Entry) (queues : Queues) (x : Peer) (q : Packet)
    → Contains (packets_of setup.name (flat_map (items_of queues) (memberships setup entries x))) q
    → Telling setup entries queues x q
from_items setup entries queues x q h =
    let (item, there, said) = some_of (λ (item : Item). packet_said item.body setup.name)
    (flat_map (items_of queues) (memberships setup entries x)) q h in
    let (j, joined, for_it) = is_given_by_one (items_of queues) (memberships setup entries x) item there in
    let (held, to_it) = filtered_was_in (is_to j.member) (queues j.m j.member.place) item for_it in
    Telling.Carried j item to_it there held said

told_to_peer : (setup : Setup) (entries : List Entry) (queues : Queues) (x : Peer) (attempts : List Datagram)
    (bytes : List ℕ) → PeersAreToldApart → IsToldAs setup entries queues x attempts → Contains attempts (x, bytes)
    → (q : Packet) × Spells q bytes × Telling setup entries queues x q
told_to_peer setup entries queues x attempts bytes apart is h =
    let to_x : Contains (bytes_to (is_peer x) attempts) bytes =
    mapped_is_in (λ d. d.1) (filter (λ d. is_peer x d.0) attempts) (x, bytes)
    (what_passes_is_in (λ d. is_peer x d.0) attempts (x, bytes) h (apart.itself x)) in
    let (q, told, spelled) = zip_right Spells is.told (bytes_to (is_peer x) attempts) bytes is.spelled to_x in (
      q,
      spelled,
      elim (in_either (map packets.Control (direct_replies setup entries x))
          (packets_of setup.name (flat_map (items_of queues) (memberships setup entries x))) is.told q is.order told) [
            | inl reply ↦
                let (c, there, same) = is_mapped_from_one packets.Control (direct_replies setup entries x) q reply in
                Telling.Replied c (sym same) there
            | inr item ↦ from_items setup entries queues x q item
          ],
    )

-- what a new mouth said to a peer
pub said_to_peer : {L : Type 0} → (setup : Setup) (entries : List Entry) (queues : Queues) (before after : MouthTold L)
    (said : List Datagram) (x : Peer) (bytes : List ℕ) → PeersAreToldApart → Sends setup entries queues before after
    → StartsEmpty before.said → after.said ≡ Some said → Contains said (x, bytes)
    → (q : Packet) × Spells q bytes × Telling setup entries queues x q
said_to_peer setup entries queues before after said x bytes apart sends new is h =
    let all : said ≡ items_where_true sends.said.went sends.attempts =
    told_all before.said (items_where_true sends.said.went sends.attempts) said new (sym sends.said.told ∙ is) in
    told_to_peer setup entries queues x sends.attempts bytes apart (sends.to_each x)
    (picked_was_in sends.said.went sends.attempts (x, bytes) (subst (λ l. Contains l (x, bytes)) all h))

-- no direct reply is an ACKN
kind_of_reply : (P : Direct → Type 0) (directs : List Direct) (d : Direct) → AllByRecursion P directs
    → Contains directs d → P d
kind_of_reply P directs d all there = All-contains P directs d (All-from_recursion P directs all) there

told_is : (x : Peer) (d : Direct) (c : Control) (b : Bool) → is_peer x d.peer ≡ b
    → cond b (Some d.control) None ≡ Some c → d.control ≡ c
told_is x d c true e h = same_Some d.control c h
told_is x d c false e h = absurd (none-some c h)

pub never_ackn : DoorCarriesReplies → (setup : Setup) (entries : List Entry) (x : Peer)
    → Contains (direct_replies setup entries x) Ackn → ⊥
never_ackn law setup entries x h =
    let (d, there, is) = some_of (told_to x) (door_replies setup entries) Ackn
    (subst (λ l. Contains l Ackn) (sym (law.to_peer setup entries x)) h) in
    let kind : is_door_reply d.control ≡ true =
    kind_of_reply (λ direct. is_door_reply direct.control ≡ true) (door_replies setup entries) d
    (law.kinds setup entries) there in
    let same : d.control ≡ Ackn = told_is x d Ackn (is_peer x d.peer) refl is in
    let wrong : false ≡ true = subst (λ (c : Control). is_door_reply c ≡ true) same kind in cc
