-- What a memory says of a packet to come is what is so of its past.
use Rattle.std.proofs.Common.{◌≡◌, ◌≢◌, ◌==◌, ◌&&◌, ◌⊎◌, ℕ, ◌+◌, ◌-◌, ◌%◌, ◌^◌, ◌<◌, ◌≤◌, Bool, true, false, cond, not, List, [], ◌∷◌, inl, inr, refl, sym, ap, subst, ◌∙◌, arith}
use Rattle.std.specs.Prelude.{nat_lt, nat_le, max}
use Rattle.std.specs.Str.{bytes_eq}
use Rattle.std.proofs.lemmas.Bool.{eq-eqb}
use Rattle.std.proofs.lemmas.Bool.Decides.{eqb_tells, leb_tells, Decides-ltb}
use Rattle.std.proofs.lemmas.Slice.Eq.{bytes_eq-Decides}
use Rattle.m17_values.specs.declared.heard.Heard.{Heard}
use Rattle.m17_values.specs.declared.heard.Heard.TheVariants.{Datagram, Quiet, Fault, End}
use Rattle.m17_values.specs.declared.peer.Peer.{Peer}
use Rattle.m17_decorators.specs.declared.memory.Slot.{Slot}
use Rattle.m17_decorators.specs.Echo.{is_packet, is_packet_of, is_same, is_another, is_parting, up_to, older_than, packets, up_to_said, up_to_parted}
use Rattle.m17_decorators.specs.GuardMemory.{Agree, IsKept, IsRecord, IsLatest, at_order, slot_of, is_of, is_copy, parted_at, turned_at, said_at}
use Rattle.m17_decorators.proofs.Back.{either, IsSub, order-none, order-at, order-le, order-older, order-sub, up-is, up-head, up-here, up-past, up-skip, up-through, old-through, old-is, at-low, at-number, packet-at, more-packet}
use Rattle.m17_decorators.proofs.Telling.{and-left, and-right, and-both, and-first, and-second, clash, peer-is, copy-peer, copy-bytes}
use Rattle.m17_decorators.specs.Frame.{is_frame, same_peer}

-- the tests of packets
pub packet-of : (peer : Peer) → IsSub (is_packet_of peer) is_packet
packet-of peer (Datagram from at bytes) h = and-left (is_frame bytes) (same_peer peer from) h
packet-of peer (Quiet at) h = h
packet-of peer Fault h = h
packet-of peer End h = h

pub same-of : (peer : Peer) (bytes : List ℕ) → IsSub (is_same peer bytes) (is_packet_of peer)
same-of peer wanted (Datagram from at bytes) h =
    and-both (is_frame bytes) (same_peer peer from)
    (and-left (is_frame bytes) (same_peer peer from && bytes_eq bytes wanted) h)
    (and-left (same_peer peer from) (bytes_eq bytes wanted)
    (and-right (is_frame bytes) (same_peer peer from && bytes_eq bytes wanted) h))
same-of peer wanted (Quiet at) h = h
same-of peer wanted Fault h = h
same-of peer wanted End h = h

pub another-of : (peer : Peer) (wanted : List ℕ) → IsSub (is_another peer wanted) (is_packet_of peer)
another-of peer wanted (Datagram from at bytes) h =
    and-both (is_frame bytes) (same_peer peer from)
    (and-left (is_frame bytes) (same_peer peer from && not (bytes_eq bytes wanted)) h)
    (and-left (same_peer peer from) (not (bytes_eq bytes wanted))
    (and-right (is_frame bytes) (same_peer peer from && not (bytes_eq bytes wanted)) h))
another-of peer wanted (Quiet at) h = h
another-of peer wanted Fault h = h
another-of peer wanted End h = h

pub same-packet : (peer : Peer) (bytes : List ℕ) → IsSub (is_same peer bytes) is_packet
same-packet peer bytes e h = packet-of peer e (same-of peer bytes e h)

pub another-packet : (peer : Peer) (wanted : List ℕ) → IsSub (is_another peer wanted) is_packet
another-packet peer wanted e h = packet-of peer e (another-of peer wanted e h)

-- What a memory is asked over.
pub record Asked (slots : List Slot) (count : ℕ) (past : List Heard) : Type 0 where
  pub counted : count ≡ packets past
  pub each : (o : ℕ) → IsKept count o → IsRecord count o past (slot_of slots o)

-- the packet in a slot
abbrev pub packet_in : Slot → Heard
packet_in s = Datagram s.from s.at s.bytes

-- A test of slots is a test of the packets in them.
pub record Tells (test : Slot → Bool) (T : Heard → Bool) : Type 0 where
  pub yes : (s : Slot) → is_packet (packet_in s) ≡ true → test s ≡ true → T (packet_in s) ≡ true
  pub nope : (s : Slot) → test s ≡ false → T (packet_in s) ≡ false

pub of-tells : (peer : Peer) → Tells (is_of peer) (is_packet_of peer)
of-tells peer = record {
  yes = λ s p h. and-both (is_frame s.bytes) (same_peer peer s.from) p h;
  nope = λ s h. and-second (is_frame s.bytes) (same_peer peer s.from) h;
}

pub copy-tells : (peer : Peer) (bytes : List ℕ) → Tells (is_copy peer bytes) (is_same peer bytes)
copy-tells peer bytes = record {
  yes = λ s p h. and-both (is_frame s.bytes) (same_peer peer s.from && bytes_eq s.bytes bytes) p h;
  nope = λ s h. and-second (is_frame s.bytes) (same_peer peer s.from && bytes_eq s.bytes bytes) h;
}

-- what the latest remembered packet that passes the test is
pub order-of : (slots : List Slot) (count : ℕ) (past : List Heard) (test : Slot → Bool)
    (T : Heard → Bool) (r : ℕ) → Asked slots count past → IsSub T is_packet → Tells test T
    → IsLatest slots count test r
    → (0 < r → packets (up_to T past) ≡ r) × (r ≡ 0 → packets (up_to T past) ≤ count - 16384)
order-of slots count past test T r asked sub tells latest =
    let none : (n : ℕ) → r ≤ n → (count ≤ n + 16384)
    → packets (up_to T past) ≤ n =
    λ n low wide. order-none T n past sub (λ o e older behind at.
    let counted = asked.counted in
    let top = at-low o past e older at in
    let kept : IsKept count o = record {
      some = omega arith;
      heard = omega arith;
      late = omega arith;
    } in
    let there = (asked.each o kept).there in
    let both : e ∷ older ≡ packet_in (slot_of slots o) ∷ (asked.each o kept).older = sym at ∙ there in
    let is : e ≡ packet_in (slot_of slots o) = cc in
    ap T is ∙ tells.nope (slot_of slots o) (latest.passed o (omega arith) kept)) in (
      λ pos. let found = latest.found pos in
          let there = (asked.each r found.0).there in
          let up = order-at T r past _ _ there (tells.yes (slot_of slots r)
          (packet-at r past _ _ there) found.1) in
          let wide = found.0.late in
          let down = none r (omega arith) (omega arith) in omega arith,
      λ zero-is. none (count - 16384) (omega arith) (omega arith),
    )

-- one entry at least
pub some-first : (xs : List Heard) → 0 < packets xs → (e : Heard) × (older : List Heard)
    × (xs ≡ e ∷ older)
some-first [] pos = absurd (omega arith)
some-first (e ∷ older) pos = (e, older, refl)

-- the peer's last packet before its latest DISC
pub parted-is : (slots : List Slot) (count : ℕ) (past : List Heard) (peer : Peer) (latest : ℕ)
    → Asked slots count past → IsLatest slots count (is_of peer) latest
    → Agree count (parted_at slots latest) (packets (up_to_parted peer past))
parted-is slots count past peer latest asked is = elim (eqb_tells latest 0) [
  | inl z ↦ let low = (order-of slots count past (is_of peer) (is_packet_of peer) latest asked
      (packet-of peer) (of-tells peer) is).1 z.1 in
      let less = order-older (is_packet_of peer) (is_parting peer) past in
      let here : parted_at slots latest ≡ 0 = ap (λ (b : Bool). cond b 0
      (cond (slot_of slots latest).left latest (slot_of slots latest).parted)) z.0 in
      subst (λ (n : ℕ). Agree count n (packets (up_to_parted peer past))) (sym here) (omega arith)
  | inr z ↦ let pos : 0 < latest = let ne = z.1 in omega arith in
      let s = slot_of slots latest in
      let found = is.found pos in
      let r = asked.each latest found.0 in
      let at-peer : peer ≡ s.from = peer-is peer s.from found.1 in
      let order = (order-of slots count past (is_of peer) (is_packet_of peer) latest asked
      (packet-of peer) (of-tells peer) is).0 pos in
      let left = r.left (ap (λ (p : Peer). packets (up_to (is_packet_of p) past)) (sym at-peer) ∙ order) in
      let here : parted_at slots latest ≡ cond s.left latest s.parted = ap (λ (b : Bool). cond b 0
      (cond s.left latest s.parted)) z.0 in
      subst (λ (n : ℕ). Agree count n (packets (up_to_parted peer past))) (sym here)
      (subst (λ (p : Peer). Agree count (cond s.left latest s.parted) (packets (up_to_parted p past)))
      (sym at-peer)
      (subst (λ (n : ℕ). Agree count (cond s.left latest s.parted) n) (sym left)
      (elim s.left as (λ b. Agree count (cond b latest s.parted)
      (cond b latest (packets (up_to_parted s.from r.older)))) [ true ↦ refl | false ↦ r.parted ])))
]

not-true : (b : Bool) → b ≡ true → not b ≡ false
not-true b h = ap not h

not-false : (b : Bool) → b ≡ false → not b ≡ true
not-false b h = ap not h

-- the peer's latest packet with other bytes
pub turned-is : (slots : List Slot) (count : ℕ) (past : List Heard) (peer : Peer)
    (bytes : List ℕ) (latest : ℕ) → Asked slots count past → IsLatest slots count (is_of peer) latest
    → Agree count (turned_at slots latest bytes) (packets (up_to (is_another peer bytes) past))
turned-is slots count past peer bytes latest asked is = elim (eqb_tells latest 0) [
  | inl z ↦ let low = (order-of slots count past (is_of peer) (is_packet_of peer) latest asked
      (packet-of peer) (of-tells peer) is).1 z.1 in
      let less = order-sub (is_another peer bytes) (is_packet_of peer) past
      (another-of peer bytes) in
      let s = slot_of slots latest in
      let here : turned_at slots latest bytes ≡ 0 = ap (λ (b : Bool). cond b 0
      (cond (bytes_eq s.bytes bytes) s.turned latest)) z.0 in
      subst (λ (n : ℕ). Agree count n (packets (up_to (is_another peer bytes) past))) (sym here)
      (omega arith)
  | inr z ↦ let pos : 0 < latest = let ne = z.1 in omega arith in
      let s = slot_of slots latest in
      let found = is.found pos in
      let r = asked.each latest found.0 in
      let T = is_another peer bytes in
      let at-peer : peer ≡ s.from = peer-is peer s.from found.1 in
      let order = (order-of slots count past (is_of peer) (is_packet_of peer) latest asked
      (packet-of peer) (of-tells peer) is).0 pos in
      let up : up_to (is_packet_of peer) past ≡ packet_in s ∷ r.older =
      sym (up-is (is_packet_of peer) latest past (packet-of peer) order pos) ∙ r.there in
      let skip : up_to T past ≡ up_to T (packet_in s ∷ r.older) =
      up-skip T (is_packet_of peer) past (another-of peer bytes) ∙ ap (up_to T) up in
      let p = packet-at latest past _ _ r.there in
      let here : turned_at slots latest bytes ≡ cond (bytes_eq s.bytes bytes) s.turned latest =
      ap (λ (b : Bool). cond b 0 (cond (bytes_eq s.bytes bytes) s.turned latest)) z.0 in
      subst (λ (n : ℕ). Agree count n (packets (up_to T past))) (sym here)
      (subst (λ (l : List Heard). Agree count (cond (bytes_eq s.bytes bytes) s.turned latest) (packets l))
      (sym skip)
      (elim (either (bytes_eq s.bytes bytes)) [
        | inl e ↦ let same : s.bytes ≡ bytes = (bytes_eq-Decides s.bytes bytes).0 e in
            let not-other : T (packet_in s) ≡ false =
            and-second (is_frame s.bytes) (same_peer peer s.from && not (bytes_eq s.bytes bytes))
            (and-second (same_peer peer s.from) (not (bytes_eq s.bytes bytes))
            (not-true (bytes_eq s.bytes bytes) e)) in
            let turned : Agree count s.turned (packets (up_to T r.older)) =
            subst (λ (l : List ℕ). Agree count s.turned (packets (up_to (is_another peer l) r.older))) same
            (subst (λ (q : Peer). Agree count s.turned
            (packets (up_to (is_another q s.bytes) r.older))) (sym at-peer) r.turned) in
            subst (λ (b : Bool). Agree count (cond b s.turned latest) (packets (up_to T (packet_in s ∷ r.older))))
            (sym e)
            (subst (λ (l : List Heard). Agree count s.turned (packets l))
            (sym (up-past T (packet_in s) r.older not-other)) turned)
        | inr e ↦ let other : T (packet_in s) ≡ true =
            and-both (is_frame s.bytes) (same_peer peer s.from && not (bytes_eq s.bytes bytes)) p
            (and-both (same_peer peer s.from) (not (bytes_eq s.bytes bytes)) found.1
            (not-false (bytes_eq s.bytes bytes) e)) in
            let number = at-number latest past _ _ r.there in
            let so : packets (up_to T (packet_in s ∷ r.older)) ≡ latest =
            ap packets (up-here T (packet_in s) r.older other)
            ∙ more-packet (packet_in s) r.older p ∙ number in
            subst (λ (b : Bool). Agree count (cond b s.turned latest) (packets (up_to T (packet_in s ∷ r.older))))
            (sym e) (ap (λ (n : ℕ). max n (count - 16384)) (sym so))
      ]))
]

-- the latest packet of the same bytes before that
pub said-is : (slots : List Slot) (count : ℕ) (past : List Heard) (peer : Peer) (bytes : List ℕ)
    (same turned : ℕ) → Asked slots count past → IsLatest slots count (is_copy peer bytes) same
    → Agree count turned (packets (up_to (is_another peer bytes) past))
    → Agree count (said_at slots same turned) (packets (up_to_said peer bytes past))
said-is slots count past peer bytes same turned asked is agree =
    let S = is_same peer bytes in
    let T = is_another peer bytes in
    let s = slot_of slots same in
    let orders = order-of slots count past (is_copy peer bytes) S same asked
    (same-packet peer bytes) (copy-tells peer bytes) is in
    elim (leb_tells (turned + 1) same) [
      | inl lt ↦ let pos : 0 < same = let l = lt.1 in omega arith in
          let found = is.found pos in
          let late = found.0.late in
          let r = asked.each same found.0 in
          let small : packets (up_to T past) < same = let l = lt.1 in omega arith in
          let through : up_to_said peer bytes past ≡ up_to_said peer bytes r.older =
          ap (up_to S) (old-through T same past _ _ r.there small) in
          let here : said_at slots same turned ≡ s.said = ap (λ (b : Bool). cond b s.said same)
          ((Decides-ltb turned same).1 (let l = lt.1 in omega arith)) in
          subst (λ (n : ℕ). Agree count n (packets (up_to_said peer bytes past))) (sym here)
          (subst (λ (l : List Heard). Agree count s.said (packets l)) (sym through)
          (subst (λ (l : List ℕ). Agree count s.said (packets (up_to_said peer l r.older)))
          (copy-bytes peer bytes s found.1)
          (subst (λ (q : Peer). Agree count s.said (packets (up_to_said q s.bytes r.older)))
          (sym (copy-peer peer bytes s found.1)) r.said)))
      | inr ge ↦ let late-not : nat_lt turned same ≡ false = elim (either (nat_lt turned same)) [
        | inl y ↦ absurd (let l = (Decides-ltb turned same).0 y in let g = ge.1 in omega arith)
        | inr n ↦ n
      ] in
          let here : said_at slots same turned ≡ same =
          ap (λ (b : Bool). cond b s.said same) late-not in
          subst (λ (n : ℕ). Agree count n (packets (up_to_said peer bytes past))) (sym here)
          (elim (eqb_tells same 0) [
            | inl z ↦ let low = orders.1 z.1 in
                let less = order-older S T past in
                let zero-is = z.1 in omega arith
            | inr z ↦ let pos : 0 < same = let ne = z.1 in omega arith in
                let order = orders.0 pos in
                let found = is.found pos in
                let late = found.0.late in
                let r = asked.each same found.0 in
                let C = packets (up_to T past) in
                let some : 0 < C = let g = ge.1 in omega arith in
                let head = some-first (up_to T past) some in
                let at-turn : at_order C past ≡ head.0 ∷ head.1 =
                up-is T C past (another-packet peer bytes) refl some ∙ head.2 in
                let apart : same ≢ C = λ eq.
                let both : packet_in s ∷ r.older ≡ head.0 ∷ head.1 =
                sym r.there ∙ ap (λ (n : ℕ). at_order n past) eq ∙ at-turn in
                let first : packet_in s ≡ head.0 = cc in
                let other : T (packet_in s) ≡ true = ap T first ∙ up-head T past head.0 head.1 head.2 in
                let differs = and-right (same_peer peer s.from) (not (bytes_eq s.bytes bytes))
                (and-right (is_frame s.bytes)
                (same_peer peer s.from && not (bytes_eq s.bytes bytes)) other) in
                clash (not (bytes_eq s.bytes bytes)) differs
                (not-true (bytes_eq s.bytes bytes)
                (and-right (same_peer peer s.from) (bytes_eq s.bytes bytes) found.1)) in
                let lt : packets (up_to S past) < C = let g = ge.1 in omega arith in
                let so : packets (up_to_said peer bytes past) ≡ same =
                ap (λ (l : List Heard). packets (up_to S l)) (old-is T past head.0 head.1 head.2)
                ∙ ap packets (sym (up-through S C past head.0 head.1 at-turn lt)) ∙ order in
                ap (λ (n : ℕ). max n (count - 16384)) (sym so)
          ])
    ]

-- What is so of the packet to come.
pub record Facts (count : ℕ) (past : List Heard) (peer : Peer) (bytes : List ℕ)
    (p t s : ℕ) : Type 0 where
  pub parted : Agree count p (packets (up_to_parted peer past))
  pub turned : Agree count t (packets (up_to (is_another peer bytes) past))
  pub said : Agree count s (packets (up_to_said peer bytes past))

pub facts-are : (slots : List Slot) (count : ℕ) (past : List Heard) (peer : Peer) (bytes : List ℕ)
    (latest same parted turned said : ℕ) → Asked slots count past
    → IsLatest slots count (is_of peer) latest
    → IsLatest slots count (is_copy peer bytes) same → parted ≡ parted_at slots latest
    → turned ≡ turned_at slots latest bytes → said ≡ said_at slots same turned
    → Facts count past peer bytes parted turned said
facts-are slots count past peer bytes latest same parted turned said asked lat sa p t sd =
    let turn : Agree count turned (packets (up_to (is_another peer bytes) past)) =
    subst (λ (n : ℕ). Agree count n (packets (up_to (is_another peer bytes) past)))
    (sym t) (turned-is slots count past peer bytes latest asked lat) in record {
      parted = subst (λ (n : ℕ). Agree count n (packets (up_to_parted peer past))) (sym p)
          (parted-is slots count past peer latest asked lat);
      turned = turn;
      said = subst (λ (n : ℕ). Agree count n (packets (up_to_said peer bytes past))) (sym sd)
          (said-is slots count past peer bytes same turned asked sa turn);
    }
