-- A memory recalls one entry more.
use Rattle.std.proofs.Common.{◌≡◌, ◌≢◌, ◌==◌, ◌&&◌, ◌⊎◌, ℕ, zero, suc, take, ◌+◌, ◌-◌, ◌%◌, ◌^◌, ◌<◌, ◌≤◌, Bool, true, false, cond, not, List, [], ◌∷◌, length, get_or, set, inl, inr, refl, sym, ap, subst, ◌∙◌, arith, get_or-set_other, get_or-set_same}
use Rattle.std.specs.Prelude.{nat_lt, nat_le, nat_eq, max, codes, ◌||◌}
use Rattle.std.specs.List.{starts_with}
use Rattle.std.specs.Str.{bytes_eq}
use Rattle.std.proofs.lemmas.Bool.{eqb-true, eq-eqb}
use Rattle.std.proofs.lemmas.Bool.Decides.{eqb_tells, leb_tells, Decides-ltb}
use Rattle.m17_values.specs.declared.heard.Heard.{Heard}
use Rattle.m17_values.specs.declared.heard.Heard.TheVariants.{Datagram, Quiet, Fault, End}
use Rattle.m17_values.specs.declared.peer.Peer.{Peer}
use Rattle.m17_decorators.specs.declared.memory.Memory.{Memory}
use Rattle.m17_decorators.specs.declared.memory.Slot.{Slot}
use Rattle.m17_decorators.specs.Echo.{is_echo, is_recent, is_disc, is_packet, is_packet_of, is_same, is_another, is_parting, up_to, older_than, packets, up_to_said, up_to_parted}
use Rattle.m17_decorators.specs.GuardMemory.{Agree, IsKept, IsRecord, IsLatest, Recalls, HasPut, HasLeft, at_order, slot_of, blank, is_of, is_kept, is_echo_at, with_left, with_left_slot}
use Rattle.m17_decorators.proofs.Back.{either, not-sub, order-le, order-older, up-is, up-here, up-past, old-here, old-past, at-here, at-more, at-older, at-low, more-packet, no-packet}
use Rattle.m17_decorators.proofs.Links.{slot-other, slot-same, kept-before}
use Rattle.m17_decorators.proofs.Telling.{and-left, and-right, and-both, and-first, and-second, clash, peer-is, peer-itself, le-is, is-le, kept-is, is-kept}
use Rattle.m17_decorators.proofs.GuardStanding.{Asked, packet_in, packet-of, same-packet, of-tells, order-of, some-first}
use Rattle.m17_decorators.specs.Frame.{is_frame, same_peer}

same-bool : (a b : Bool) → (a ≡ true → b ≡ true) → (b ≡ true → a ≡ true) → a ≡ b
same-bool true b there back = sym (there refl)
same-bool false true there back = back refl
same-bool false false there back = refl

-- what was said stands in its slot
said-in : (slots : List Slot) (count : ℕ) (past : List Heard) (peer : Peer) (bytes : List ℕ)
    → (asked : Asked slots count past)
    → (k : IsKept count (packets (up_to_said peer bytes past)))
    → up_to_said peer bytes past ≡ packet_in (slot_of slots (packets (up_to_said peer bytes past)))
    ∷ (asked.each (packets (up_to_said peer bytes past)) k).older
said-in slots count past peer bytes asked k =
    let T = is_another peer bytes in
    let S = packets (up_to_said peer bytes past) in
    let head = some-first (up_to_said peer bytes past) k.some in
    let at : at_order S past ≡ head.0 ∷ head.1 = at-older T S past head.0 head.1
    (up-is (is_same peer bytes) S (older_than T past) (same-packet peer bytes) refl k.some ∙ head.2) in
    head.2 ∙ sym at ∙ (asked.each S k).there

-- whether it is an echo
pub echo-is : (slots : List Slot) (count : ℕ) (past : List Heard) (peer : Peer) (at : ℕ)
    (bytes : List ℕ) (parted said : ℕ) → Asked slots count past → count < 2 ^ 64 - 1
    → is_frame bytes ≡ true
    → Agree count parted (packets (up_to_parted peer past))
    → Agree count said (packets (up_to_said peer bytes past))
    → is_echo_at slots count parted said at ≡ is_echo past peer at bytes
echo-is slots count past peer at bytes parted said asked few frame p s =
    let counted = asked.counted in
    let P = packets (up_to_parted peer past) in
    let S = packets (up_to_said peer bytes past) in
    let recent = is_recent at (up_to_said peer bytes past) in
    let time = nat_le (at - 10000) (slot_of slots said).at in
    let few-now = nat_lt (packets past) (2 ^ 64 - 1) in
    let last = nat_lt (packets past) (S + 16384) in
    let is-few : few-now ≡ true = (Decides-ltb (packets past) (2 ^ 64 - 1)).1 (omega arith) in
    same-bool (is_echo_at slots count parted said at) (is_echo past peer at bytes)
    (λ y. let first = (Decides-ltb parted said).0
    (and-left (nat_lt parted said) (is_kept count said && time) y) in
    let rest = and-right (nat_lt parted said) (is_kept count said && time) y in
    let k = kept-is count said (and-left (is_kept count said) time rest) in
    let late = k.late in
    let top = k.heard in
    let some = k.some in
    let so : said ≡ S = omega arith in
    let ks : IsKept count S = subst (λ (n : ℕ). IsKept count n) so k in
    let moment = le-is (at - 10000) (slot_of slots said).at (and-right (is_kept count said) time rest) in
    let is-time : nat_le at ((slot_of slots S).at + 10000) ≡ true =
    is-le at ((slot_of slots S).at + 10000)
    (let e = ap (λ (n : ℕ). (slot_of slots n).at) so in omega arith) in
    and-both (is_frame bytes) (few-now && (nat_lt P S && (last && recent))) frame
    (and-both few-now (nat_lt P S && (last && recent)) is-few
    (and-both (nat_lt P S) (last && recent) ((Decides-ltb P S).1 (omega arith))
    (and-both last recent ((Decides-ltb (packets past) (S + 16384)).1 (omega arith))
    (ap (is_recent at) (said-in slots count past peer bytes asked ks) ∙ is-time)))))
    (λ y. let one = and-right (is_frame bytes) (few-now && (nat_lt P S && (last && recent))) y in
    let two = and-right few-now (nat_lt P S && (last && recent)) one in
    let before = (Decides-ltb P S).0 (and-left (nat_lt P S) (last && recent) two) in
    let three = and-right (nat_lt P S) (last && recent) two in
    let late = (Decides-ltb (packets past) (S + 16384)).0 (and-left last recent three) in
    let low = order-le (is_same peer bytes) (older_than (is_another peer bytes) past) in
    let less = order-older (is_same peer bytes) (is_another peer bytes) past in
    let least = order-le (is_same peer bytes) past in
    let ks : IsKept count S = record {
      some = omega arith;
      heard = omega arith;
      late = omega arith;
    } in
    let so : S ≡ said = omega arith in
    let is-time : nat_le at ((slot_of slots S).at + 10000) ≡ true =
    sym (ap (is_recent at) (said-in slots count past peer bytes asked ks))
    ∙ and-right last recent three in
    let moment = le-is at ((slot_of slots S).at + 10000) is-time in
    and-both (nat_lt parted said) (is_kept count said && time)
    ((Decides-ltb parted said).1 (omega arith))
    (and-both (is_kept count said) time
    (is-kept count said (subst (λ (n : ℕ). IsKept count n) so ks))
    (is-le (at - 10000) (slot_of slots said).at
    (let e = ap (λ (n : ℕ). (slot_of slots n).at) so in omega arith))))

-- a stream packet is no DISC
pub frame-parts-not : (bytes : List ℕ) → is_frame bytes ≡ true → is_disc bytes ≡ false
frame-parts-not bytes h =
    let len = eqb-true (length bytes) 54
    (and-left (length bytes == 54) (starts_with nat_eq bytes (codes "M17 ")) h) in
    ap (λ (n : ℕ). (n == 4 || n == 10) && starts_with nat_eq bytes (codes "DISC")) len

take-all : (n : ℕ) (xs : List ℕ) → length xs ≤ n → take n xs ≡ xs
take-all zero [] h = refl
take-all zero (x ∷ xs) h = absurd (omega arith)
take-all (suc n) [] h = refl
take-all (suc n) (x ∷ xs) h = ap (λ (l : List ℕ). x ∷ l) (take-all n xs (omega arith))

pub whole-bytes : (bytes : List ℕ) → is_frame bytes ≡ true → take 64 bytes ≡ bytes
whole-bytes bytes h =
    let len = eqb-true (length bytes) 54
    (and-left (length bytes == 54) (starts_with nat_eq bytes (codes "M17 ")) h) in
    take-all 64 bytes (omega arith)

packet-parts-not : (q : Peer) (s : Slot) → is_packet (packet_in s) ≡ true
    → is_parting q (packet_in s) ≡ false
packet-parts-not q s p = and-first (is_disc s.bytes) (same_peer q s.from) (frame-parts-not s.bytes p)

-- What was so at a packet is so after an entry that is no DISC of its peer, and no packet of it.
record-stays : (count more order : ℕ) (past : List Heard) (e : Heard) (s : Slot)
    → count ≤ more → order ≤ packets past
    → (is_packet_of s.from e ≡ true → is_packet e ≡ true)
    → is_parting s.from e ≡ false
    → IsRecord count order past s → IsRecord more order (e ∷ past) s
record-stays count more order past e s le low sub parts r = record {
  older = r.older;
  there = at-more order e past (packet_in s) r.older r.there;
  parted = let a = r.parted in omega arith;
  turned = let a = r.turned in omega arith;
  said = let a = r.said in omega arith;
  left = λ is. elim (either (is_packet_of s.from e)) [
    | inl y ↦ absurd (let top = ap packets (up-here (is_packet_of s.from) e past y) in
        let one = more-packet e past (sub y) in omega arith)
    | inr n ↦ ap (λ (l : List Heard). packets (up_to (is_packet_of s.from) l))
        (old-past (is_parting s.from) e past parts)
        ∙ r.left (ap packets (sym (up-past (is_packet_of s.from) e past n)) ∙ is)
  ];
}

-- an entry that is no packet and no DISC
pub recalls-other : (m : Memory) (past : List Heard) (e : Heard) → is_packet e ≡ false
    → ((q : Peer) → is_parting q e ≡ false) → Recalls m past → Recalls m (e ∷ past)
recalls-other m past e out parts r =
    let same = no-packet e past out in record {
      count = let c = r.count in omega arith;
      each = λ few o k. record-stays m.count m.count o past e (slot_of m.slots.items o) (omega arith)
          (let c = r.count in let top = k.heard in omega arith) (packet-of _ e) (parts _)
          (r.each (omega arith) o k);
    }

pub asked-of : (m : Memory) (past : List Heard) → Recalls m past → m.count < 2 ^ 64 - 1
    → Asked m.slots.items m.count past
asked-of m past r few = record {
  counted = let c = r.count in omega arith;
  each = r.each (let c = r.count in omega arith);
}

-- the next packet
pub recalls-packet : (old new : Memory) (past : List Heard) (s : Slot)
    → Recalls old past → old.count < 2 ^ 64 - 1 → length old.slots.items ≡ 16384 → HasPut s old new
    → is_packet (packet_in s) ≡ true → s.left ≡ false
    → Agree old.count s.parted (packets (up_to_parted s.from past))
    → Agree old.count s.turned (packets (up_to (is_another s.from s.bytes) past))
    → Agree old.count s.said (packets (up_to_said s.from s.bytes past))
    → Recalls new (packet_in s ∷ past)
recalls-packet old new past s r few len put packet stays parted turned said =
    let one = more-packet (packet_in s) past packet in
    let counted : old.count ≡ packets past = let c = r.count in omega arith in
    let slots = put.slots in
    let more = put.count in record {
      count = omega arith;
      each = λ small o k.
          let kept : IsKept (old.count + 1) o = subst (λ (n : ℕ). IsKept n o) more k in
          elim (leb_tells o old.count) [
            | inl w ↦ let low : o ≤ old.count = w.1 in
                let here : slot_of new.slots.items o ≡ slot_of old.slots.items o =
                ap (λ (l : List Slot). slot_of l o) slots
                ∙ slot-other old.slots.items s old.count o low kept in
                subst (λ (t : Slot). IsRecord new.count o (packet_in s ∷ past) t) (sym here)
                (record-stays old.count new.count o past (packet_in s) (slot_of old.slots.items o)
                (omega arith) (omega arith) (packet-of (slot_of old.slots.items o).from (packet_in s))
                (packet-parts-not (slot_of old.slots.items o).from s packet)
                (r.each (omega arith) o (kept-before old.count o low kept)))
            | inr w ↦ let is-new : o ≡ old.count + 1 = let gt = w.1 in let top = kept.heard in omega arith in
                let here : slot_of new.slots.items o ≡ s = ap (λ (l : List Slot). slot_of l o) slots
                ∙ ap (slot_of (set old.slots.items ((old.count + 1) % 16384) s)) is-new
                ∙ slot-same old.slots.items s old.count len in
                subst (λ (t : Slot). IsRecord new.count o (packet_in s ∷ past) t) (sym here) (record {
                  older = past;
                  there = at-here o (packet_in s) past packet (omega arith);
                  parted = omega arith;
                  turned = omega arith;
                  said = omega arith;
                  left = λ _. ap (λ (l : List Heard). packets (up_to (is_packet_of s.from) l))
                      (old-past (is_parting s.from) (packet_in s) past (packet-parts-not s.from s packet))
                      ∙ ap (λ (b : Bool). cond b o (packets (up_to_parted s.from past))) (sym stays);
                })
          ];
    }

disc-is-out : (bytes : List ℕ) → is_disc bytes ≡ true → is_frame bytes ≡ false
disc-is-out bytes h = elim (either (is_frame bytes)) [
  | inl y ↦ absurd (clash (is_disc bytes) h (frame-parts-not bytes y))
  | inr n ↦ n
]

-- a DISC of this peer
pub recalls-left : (old new : Memory) (past : List Heard) (peer : Peer) (at : ℕ) (bytes : List ℕ)
    → Recalls old past → length old.slots.items ≡ 16384 → is_disc bytes ≡ true
    → HasLeft peer old new → Recalls new (Datagram peer at bytes ∷ past)
recalls-left old new past peer at bytes r len disc has =
    let e = Datagram peer at bytes in
    let out : is_packet e ≡ false = disc-is-out bytes disc in
    let same = no-packet e past out in
    let counts = has.count in
    let latest = has.latest in record {
      count = let c = r.count in omega arith;
      each = λ few o k-new.
          let k : IsKept old.count o = subst (λ (n : ℕ). IsKept n o) counts k-new in
          let s = slot_of old.slots.items o in
          let small : packets past < 2 ^ 64 - 1 = omega arith in
          let one = r.each small o k in
          let asked : Asked old.slots.items old.count past = record {
            counted = let c = r.count in omega arith;
            each = r.each small;
          } in
          let orders = order-of old.slots.items old.count past (is_of peer) (is_packet_of peer) latest
          asked (packet-of peer) (of-tells peer) has.is_latest in
          let low : o ≤ packets past = let c = r.count in let top = k.heard in omega arith in
          let outs : is_packet_of s.from e ≡ false = not-sub (is_packet_of s.from) is_packet e
          (packet-of s.from) out in
          let stays : slot_of new.slots.items o ≡ s → o ≢ latest
          → IsRecord new.count o (e ∷ past) (slot_of new.slots.items o) = λ here apart.
          subst (λ (t : Slot). IsRecord new.count o (e ∷ past) t) (sym here)
          (elim (either (is_parting s.from e)) [
            | inr n ↦ record-stays old.count new.count o past e s (omega arith) low
                (packet-of s.from e) n one
            | inl y ↦ let at-peer : s.from ≡ peer = peer-is s.from peer
                (and-right (is_disc bytes) (same_peer s.from peer) y) in record {
                  older = one.older;
                  there = at-more o e past (packet_in s) one.older one.there;
                  parted = let a = one.parted in omega arith;
                  turned = let a = one.turned in omega arith;
                  said = let a = one.said in omega arith;
                  left = λ is. absurd (
                      let order : packets (up_to (is_packet_of peer) past) ≡ o =
                      ap (λ (q : Peer). packets (up_to (is_packet_of q) past)) (sym at-peer)
                      ∙ ap packets (sym (up-past (is_packet_of s.from) e past outs)) ∙ is in
                      elim (eqb_tells latest 0) [
                        | inl z ↦ let none = orders.1 z.1 in let late = k.late in let some = k.some in omega arith
                        | inr z ↦ let pos : 0 < latest = let ne = z.1 in omega arith in
                            apart (sym order ∙ orders.0 pos)
                      ]);
                }
          ]) in
          elim (eqb_tells latest 0) [
            | inl z ↦ let slots : new.slots.items ≡ old.slots.items = has.slots
                ∙ ap (λ (b : Bool). cond b old.slots.items (with_left old.slots.items latest)) z.0 in
                stays (ap (λ (l : List Slot). slot_of l o) slots)
                (λ is. absurd (let some = k.some in let zero-is = z.1 in omega arith))
            | inr z ↦ let slots : new.slots.items ≡ with_left old.slots.items latest = has.slots
                ∙ ap (λ (b : Bool). cond b old.slots.items (with_left old.slots.items latest)) z.0 in
                let pos : 0 < latest = let ne = z.1 in omega arith in
                let found = has.is_latest.found pos in
                elim (eqb_tells o latest) [
                  | inr w ↦ let ne : o % 16384 ≢ latest % 16384 = λ eq. absurd (
                      let apart = w.1 in let a = k.late in let b = found.0.late in
                      let c = k.heard in let d = found.0.heard in omega arith) in
                      stays (ap (λ (l : List Slot). slot_of l o) slots
                      ∙ get_or-set_other old.slots.items (latest % 16384) (o % 16384)
                      (with_left_slot (slot_of old.slots.items latest)) blank ne) w.1
                  | inl w ↦ let here : slot_of new.slots.items o ≡ with_left_slot s =
                      ap (λ (l : List Slot). slot_of l o) slots
                      ∙ ap (slot_of (with_left old.slots.items latest)) w.1
                      ∙ get_or-set_same old.slots.items (latest % 16384)
                      (with_left_slot (slot_of old.slots.items latest)) blank (omega arith)
                      ∙ ap (λ (n : ℕ). with_left_slot (slot_of old.slots.items n)) (sym w.1) in
                      let at-peer : s.from ≡ peer =
                      ap (λ (n : ℕ). (slot_of old.slots.items n).from) w.1
                      ∙ sym (peer-is peer (slot_of old.slots.items latest).from found.1) in
                      let parts : is_parting s.from e ≡ true =
                      and-both (is_disc bytes) (same_peer s.from peer) disc
                      (ap (λ (q : Peer). same_peer q peer) at-peer ∙ peer-itself peer) in
                      subst (λ (t : Slot). IsRecord new.count o (e ∷ past) t) (sym here) (record {
                        older = one.older;
                        there = at-more o e past (packet_in s) one.older one.there;
                        parted = let a = one.parted in omega arith;
                        turned = let a = one.turned in omega arith;
                        said = let a = one.said in omega arith;
                        left = λ is. ap (λ (l : List Heard). packets (up_to (is_packet_of s.from) l))
                            (old-here (is_parting s.from) e past parts)
                            ∙ ap packets (sym (up-past (is_packet_of s.from) e past outs)) ∙ is;
                      })
                ]
          ];
    }
