-- A memory stays whole.
use Rattle.std.proofs.Common.{◌≡◌, ◌≢◌, ◌⊎◌, ℕ, ◌+◌, ◌-◌, ◌%◌, ◌^◌, ◌<◌, ◌≤◌, Bool, true, false, List, length, get_or, set, inl, inr, refl, sym, ap, subst, ◌∙◌, arith, get_or-set_other, get_or-set_same}
use Rattle.std.proofs.lemmas.Bool.Decides.{eqb_tells}
use Rattle.std.proofs.lemmas.List.{length-set}
use Rattle.m17_decorators.specs.declared.memory.Memory.{Memory}
use Rattle.m17_decorators.specs.declared.memory.Slot.{Slot}
use Rattle.m17_decorators.specs.GuardMemory.{IsWhole, IsLink, AreLinked, IsKept, slot_of, blank, with_left, with_left_slot, peer_bucket, bytes_bucket, peer_bucket_of, bytes_bucket_of, peer_link, bytes_link}
use Rattle.m17_decorators.proofs.Links.{linked-more}
use Rattle.m17_decorators.proofs.Telling.{below}

-- the same buckets and links in other slots
linked-same : (old new : List Slot) (count : ℕ) (heads : List ℕ) (bucket link : Slot → ℕ)
    → ((o : ℕ) → bucket (slot_of new o) ≡ bucket (slot_of old o))
    → ((o : ℕ) → link (slot_of new o) ≡ link (slot_of old o))
    → AreLinked old count heads bucket link → AreLinked new count heads bucket link
linked-same old new count heads bucket link b l are =
    let stays : (last number to : ℕ) → IsLink old bucket count last number to
    → IsLink new bucket count last number to =
    λ last number to is. record {
      small = is.small;
      there = λ k. b to ∙ is.there k;
      others = λ o behind upto k same. is.others o behind upto k (sym (b o) ∙ same);
    } in record {
      of_head = λ number small. stays count number (get_or heads number 0) (are.of_head number small);
      of_link = λ o k.
          subst (λ (n : ℕ). IsLink new bucket count (o - 1) n (link (slot_of new o))) (sym (b o))
          (subst (λ (n : ℕ). IsLink new bucket count (o - 1) (bucket (slot_of old o)) n) (sym (l o))
          (stays (o - 1) (bucket (slot_of old o)) (link (slot_of old o)) (are.of_link o k)));
    }

-- what a slot says is not changed by a peer that leaves, but for that
pub left-same : {A : Type 0} (f : Slot → A) (slots : List Slot) (latest o : ℕ)
    → ((s : Slot) → f (with_left_slot s) ≡ f s) → length slots ≡ 16384
    → f (slot_of (with_left slots latest) o) ≡ f (slot_of slots o)
left-same f slots latest o same len = elim (eqb_tells (o % 16384) (latest % 16384)) [
  | inl e ↦ let here : get_or slots (latest % 16384) blank ≡ get_or slots (o % 16384) blank =
      ap (λ (n : ℕ). get_or slots n blank) (sym e.1) in
      ap (λ (n : ℕ). f (get_or (with_left slots latest) n blank)) e.1
      ∙ ap f (get_or-set_same slots (latest % 16384) (with_left_slot (slot_of slots latest)) blank
      (omega arith))
      ∙ same (slot_of slots latest) ∙ ap f here
  | inr e ↦ ap f (get_or-set_other slots (latest % 16384) (o % 16384)
      (with_left_slot (slot_of slots latest)) blank e.1)
]

pub left-whole : (m : Memory) (latest : ℕ) (new : Memory) → IsWhole m
    → new.keys ≡ m.keys → new.slots.items ≡ with_left m.slots.items latest
    → new.peers.items ≡ m.peers.items → new.frames.items ≡ m.frames.items
    → new.count ≡ m.count → new.ends ≡ m.ends → IsWhole new
left-whole m latest new w keys slots peers frames count ends =
    let linked : (bucket link : Slot → ℕ) (heads : List ℕ)
    → ((s : Slot) → bucket (with_left_slot s) ≡ bucket s)
    → ((s : Slot) → link (with_left_slot s) ≡ link s)
    → AreLinked m.slots.items m.count heads bucket link
    → AreLinked new.slots.items new.count heads bucket link =
    λ bucket link heads b l are.
    subst (λ (n : ℕ). AreLinked new.slots.items n heads bucket link) (sym count)
    (subst (λ (ss : List Slot). AreLinked ss m.count heads bucket link) (sym slots)
    (linked-same m.slots.items (with_left m.slots.items latest) m.count heads bucket link
    (λ o. left-same bucket m.slots.items latest o b w.slots)
    (λ o. left-same link m.slots.items latest o l w.slots) are)) in record {
      slots = ap length slots ∙ length-set m.slots.items (latest % 16384)
          (with_left_slot (slot_of m.slots.items latest)) ∙ w.slots;
      peers = ap length peers ∙ w.peers;
      frames = ap length frames ∙ w.frames;
      count = let few = w.count in omega (arith, count);
      ends = let few = w.ends in omega (arith, ends);
      by_peer =
          subst (λ k. AreLinked new.slots.items new.count new.peers.items (peer_bucket_of k) peer_link)
          (sym keys)
          (subst (λ (h : List ℕ). AreLinked new.slots.items new.count h (peer_bucket_of m.keys) peer_link)
          (sym peers)
          (linked (peer_bucket_of m.keys) peer_link m.peers.items (λ _. refl) (λ _. refl) w.by_peer));
      by_bytes =
          subst (λ k. AreLinked new.slots.items new.count new.frames.items (bytes_bucket_of k) bytes_link)
          (sym keys)
          (subst (λ (h : List ℕ). AreLinked new.slots.items new.count h (bytes_bucket_of m.keys) bytes_link)
          (sym frames)
          (linked (bytes_bucket_of m.keys) bytes_link m.frames.items (λ _. refl) (λ _. refl) w.by_bytes));
    }

pub put-linked : (slots : List Slot) (bucket link : Slot → ℕ) (slot : Slot) (count number place : ℕ)
    (heads : List ℕ) → length slots ≡ 16384 → length heads ≡ 16384
    → number ≡ bucket slot → bucket slot < 16384 → link slot ≡ get_or heads number 0
    → place ≡ (count + 1) % 16384 → AreLinked slots count heads bucket link
    → AreLinked (set slots place slot) (count + 1) (set heads number (count + 1)) bucket link
put-linked slots bucket link slot count number place heads len many is lt first at are =
    subst (λ (p : ℕ). AreLinked (set slots p slot) (count + 1) (set heads number (count + 1)) bucket link)
    (sym at)
    (subst (λ (n : ℕ). AreLinked (set slots ((count + 1) % 16384) slot) (count + 1)
    (set heads n (count + 1)) bucket link) (sym is)
    (linked-more slots bucket link slot count heads len many lt
    (first ∙ ap (λ (n : ℕ). get_or heads n 0) is) are))
