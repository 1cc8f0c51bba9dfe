-- What the tests of a guard tell.
use Rattle.std.proofs.Common.{◌≡◌, ◌≢◌, ◌==◌, ◌&&◌, ◌⊎◌, ℕ, ◌+◌, ◌-◌, ◌%◌, ◌^◌, ◌<◌, ◌≤◌, Bool, true, false, not, List, inl, inr, refl, sym, ap, subst, ◌∙◌, arith}
use Rattle.std.specs.Prelude.{nat_lt, nat_le}
use Rattle.std.specs.Bool.{beq}
use Rattle.std.specs.Str.{bytes_eq}
use Rattle.std.specs.declared.random_state.RandomState.{RandomState}
use Rattle.std.proofs.lemmas.Bool.{eqb-true, eq-eqb}
use Rattle.std.proofs.lemmas.Bool.Decides.{eqb_tells, leb_tells, Decides-ltb}
use Rattle.std.proofs.lemmas.Slice.Eq.{bytes_eq-Decides}
use Rattle.m17_values.specs.declared.peer.Peer.{Peer}
use Rattle.m17_decorators.specs.declared.memory.Slot.{Slot}
use Rattle.m17_decorators.specs.GuardMemory.{IsKept, is_kept, is_of, is_copy, peer_bucket, bytes_bucket, peer_bucket_of, bytes_bucket_of}
use Rattle.m17_decorators.proofs.Links.{IsIn}
use Rattle.m17_decorators.specs.Frame.{same_peer}

pub and-left : (a b : Bool) → (a && b) ≡ true → a ≡ true
and-left true b h = refl
and-left false b h = h

pub and-right : (a b : Bool) → (a && b) ≡ true → b ≡ true
and-right true b h = h
and-right false b h = cc

pub and-both : (a b : Bool) → a ≡ true → b ≡ true → (a && b) ≡ true
and-both true b x y = y
and-both false b x y = x

pub and-first : (a b : Bool) → a ≡ false → (a && b) ≡ false
and-first true b x = cc
and-first false b x = refl

pub and-second : (a b : Bool) → b ≡ false → (a && b) ≡ false
and-second true b x = x
and-second false b x = refl

pub clash : (b : Bool) → b ≡ true → b ≡ false → ⊥
clash b y n = let both : true ≡ false = sym y ∙ n in cc

beq-is : (a b : Bool) → beq a b ≡ true → a ≡ b
beq-is true true h = refl
beq-is true false h = cc
beq-is false true h = cc
beq-is false false h = refl

beq-same : (a : Bool) → beq a a ≡ true
beq-same true = refl
beq-same false = refl

peer-from : (a b : Peer) → a.six ≡ b.six → a.ip ≡ b.ip → a.port ≡ b.port → a ≡ b
peer-from a b s i p =
    let f : Bool → Peer = λ x. record { six = x; ip = a.ip; port = a.port } in
    let g : List ℕ → Peer = λ x. record { six = b.six; ip = x; port = a.port } in
    let h : ℕ → Peer = λ x. record { six = b.six; ip = b.ip; port = x } in
    ap f s ∙ ap g i ∙ ap h p

pub peer-is : (a b : Peer) → same_peer a b ≡ true → a ≡ b
peer-is a b h =
    let rest = and-right (beq a.six b.six) (bytes_eq a.ip b.ip && a.port == b.port) h in
    peer-from a b
    (beq-is a.six b.six (and-left (beq a.six b.six) (bytes_eq a.ip b.ip && a.port == b.port) h))
    ((bytes_eq-Decides a.ip b.ip).0 (and-left (bytes_eq a.ip b.ip) (a.port == b.port) rest))
    (eqb-true a.port b.port (and-right (bytes_eq a.ip b.ip) (a.port == b.port) rest))

pub peer-itself : (a : Peer) → same_peer a a ≡ true
peer-itself a = and-both (beq a.six a.six) (bytes_eq a.ip a.ip && a.port == a.port)
    (beq-same a.six)
    (and-both (bytes_eq a.ip a.ip) (a.port == a.port) ((bytes_eq-Decides a.ip a.ip).1 refl)
    (eq-eqb a.port a.port refl))

pub copy-peer : (peer : Peer) (bytes : List ℕ) (slot : Slot) → is_copy peer bytes slot ≡ true
    → peer ≡ slot.from
copy-peer peer bytes slot h = peer-is peer slot.from
    (and-left (same_peer peer slot.from) (bytes_eq slot.bytes bytes) h)

pub copy-bytes : (peer : Peer) (bytes : List ℕ) (slot : Slot) → is_copy peer bytes slot ≡ true
    → slot.bytes ≡ bytes
copy-bytes peer bytes slot h = (bytes_eq-Decides slot.bytes bytes).0
    (and-right (same_peer peer slot.from) (bytes_eq slot.bytes bytes) h)

pub le-is : (a b : ℕ) → nat_le a b ≡ true → a ≤ b
le-is a b h = elim (leb_tells a b) [
  | inl w ↦ w.1
  | inr w ↦ absurd (clash (nat_le a b) h w.0)
]

pub is-le : (a b : ℕ) → a ≤ b → nat_le a b ≡ true
is-le a b h = elim (leb_tells a b) [
  | inl w ↦ w.0
  | inr w ↦ absurd (let gt = w.1 in omega arith)
]

-- the buckets
pub in-peer : (keys : RandomState) (peer : Peer)
    → IsIn (peer_bucket_of keys) (is_of peer) (peer_bucket keys peer)
in-peer keys peer slot y = ap (λ (p : Peer). peer_bucket keys p) (sym (peer-is peer slot.from y))

pub in-bytes : (keys : RandomState) (peer : Peer) (bytes : List ℕ)
    → IsIn (bytes_bucket_of keys) (is_copy peer bytes) (bytes_bucket keys peer bytes)
in-bytes keys peer bytes slot y =
    ap (λ (p : Peer). bytes_bucket keys p slot.bytes) (sym (copy-peer peer bytes slot y))
    ∙ ap (λ (l : List ℕ). bytes_bucket keys peer l) (copy-bytes peer bytes slot y)

pub below : (n : ℕ) → n % 16384 < 16384
below n = omega arith

pub peer-below : (keys : RandomState) (peer : Peer) → peer_bucket keys peer < 16384
peer-below keys peer = below _

pub bytes-below : (keys : RandomState) (peer : Peer) (bytes : List ℕ)
    → bytes_bucket keys peer bytes < 16384
bytes-below keys peer bytes = below _

-- what is kept
pub kept-is : (count order : ℕ) → is_kept count order ≡ true → IsKept count order
kept-is count order h =
    let rest = and-right (nat_lt 0 order) (nat_le order count && nat_lt count (order + 16384)) h in
    record {
      some = (Decides-ltb 0 order).0
          (and-left (nat_lt 0 order) (nat_le order count && nat_lt count (order + 16384)) h);
      heard = le-is order count
          (and-left (nat_le order count) (nat_lt count (order + 16384)) rest);
      late = (Decides-ltb count (order + 16384)).0
          (and-right (nat_le order count) (nat_lt count (order + 16384)) rest);
    }

pub is-kept : (count order : ℕ) → IsKept count order → is_kept count order ≡ true
is-kept count order k =
    and-both (nat_lt 0 order) (nat_le order count && nat_lt count (order + 16384))
    ((Decides-ltb 0 order).1 k.some)
    (and-both (nat_le order count) (nat_lt count (order + 16384))
    (is-le order count k.heard) ((Decides-ltb count (order + 16384)).1 k.late))

pub not-kept : (count order : ℕ) → is_kept count order ≡ false → IsKept count order → ⊥
not-kept count order h k = clash (is_kept count order) (is-kept count order k) h
