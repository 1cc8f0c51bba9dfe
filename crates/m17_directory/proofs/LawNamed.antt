-- The peers that are named stand in strict order, and are just the senders.
use Rattle.std.proofs.Common.{◌≡◌, ◌↔◌, ◌⊎◌, ℕ, zero, suc, ◌<◌, Bool, true, false, cond, List, [], ◌∷◌, slice_get, Some, Ordering, Less, Equal, Greater, refl, ap, sym, subst, ◌∙◌, inl, inr, arith}
use Rattle.std.specs.Ordering.{match_ordering}
use Rattle.std.proofs.lemmas.Bool.{cond-true, cases_eq, false≢true}
use Rattle.std.proofs.lemmas.Option.{same_Some}
use Rattle.m17_values.specs.declared.peer.Peer.{Peer}
use Rattle.m17_directory.specs.Entries.{Notice, Entry, notice_at, peer_cmp, is_peer, with_peer, with_sender, peers_named}
use Rattle.m17_directory.specs.Laws.{CameFrom, PeersAreNamedInOrder}
use Rattle.m17_directory.proofs.Peers.{is_peer_same, is_peer_from}
use Rattle.m17_directory.proofs.Named.{AreAfter, AreInOrder, is_named, peers_in_order, named_new, named_still}

-- by places
after_get : (x : Peer) (peers : List Peer) (j : ℕ) (y : Peer) → AreAfter x peers → slice_get peers j ≡ Some y → peer_cmp x y ≡ Less
after_get x [] j y h e = cc
after_get x (z ∷ peers) zero y h e = let s : z ≡ y = same_Some z y e in ap (peer_cmp x) (sym s) ∙ h.0
after_get x (z ∷ peers) (suc j) y h e = after_get x peers j y h.1 e

order_get : (peers : List Peer) (i j : ℕ) (x y : Peer) → AreInOrder peers → i < j → slice_get peers i ≡ Some x → slice_get peers j ≡ Some y → peer_cmp x y ≡ Less
order_get [] i j x y h l d e = cc
order_get (z ∷ peers) zero zero x y h l d e = absurd (omega arith)
order_get (z ∷ peers) zero (suc j) x y h l d e =
    let s : z ≡ x = same_Some z x d in
    ap (λ u. peer_cmp u y) (sym s) ∙ after_get z peers j y h.0 e
order_get (z ∷ peers) (suc i) zero x y h l d e = absurd (omega arith)
order_get (z ∷ peers) (suc i) (suc j) x y h l d e = order_get peers i j x y h.1 (omega arith) d e

rising : (entries : List Entry) (n i j : ℕ) (x y : Peer) → i < j → slice_get (peers_named entries n) i ≡ Some x → slice_get (peers_named entries n) j ≡ Some y → peer_cmp x y ≡ Less
rising entries n i j x y l d e = order_get (peers_named entries n) i j x y (peers_in_order entries n) l d e

-- who stands at a place is named, and who is named stands at one
named_later : (b c : Bool) → c ≡ true → cond b true c ≡ true
named_later true c h = refl
named_later false c h = h

got_named : (x : Peer) (peers : List Peer) (i : ℕ) → slice_get peers i ≡ Some x → is_named x peers ≡ true
got_named x [] i e = cc
got_named x (z ∷ peers) zero e = let s : z ≡ x = same_Some z x e in cond-true (is_peer x z) true (is_named x peers) (is_peer_from x z (sym s))
got_named x (z ∷ peers) (suc i) e = named_later (is_peer x z) (is_named x peers) (got_named x peers i e)

get_later : (x z : Peer) (peers : List Peer) → ((i : ℕ) × (slice_get peers i ≡ Some x)) → (i : ℕ) × (slice_get (z ∷ peers) i ≡ Some x)
get_later x z peers h = (suc h.0, h.1)

get_step : (x z : Peer) (peers : List Peer) (b : Bool) → b ≡ is_peer x z → (is_named x peers ≡ true → (i : ℕ) × (slice_get peers i ≡ Some x)) → cond b true (is_named x peers) ≡ true → (i : ℕ) × (slice_get (z ∷ peers) i ≡ Some x)
get_step x z peers true e m h = (0, ap Some (sym (is_peer_same x z (sym e))))
get_step x z peers false e m h = get_later x z peers (m h)

named_got : (x : Peer) (peers : List Peer) → is_named x peers ≡ true → (i : ℕ) × (slice_get peers i ≡ Some x)
named_got x [] h = absurd (false≢true h)
named_got x (z ∷ peers) h = get_step x z peers (is_peer x z) refl (named_got x peers) h

-- who is named behind an entry came from it, or was named before
came_rest : (x y : Peer) (b c d : Bool) → (d ≡ true → (x ≡ y) ⊎ (c ≡ true)) → cond b true d ≡ true → (x ≡ y) ⊎ (cond b true c ≡ true)
came_rest x y true c d m h = inr refl
came_rest x y false c d m h = m h

came_front : (x y : Peer) (b c : Bool) → b ≡ is_peer x y → cond b true c ≡ true → (x ≡ y) ⊎ (c ≡ true)
came_front x y true c e h = inl (is_peer_same x y (sym e))
came_front x y false c e h = inr h

came_step : (x y z : Peer) (peers more : List Peer) (o : Ordering) → (is_named x more ≡ true → (x ≡ y) ⊎ (is_named x peers ≡ true)) → is_named x (match_ordering o (y ∷ z ∷ peers) (z ∷ peers) (z ∷ more)) ≡ true → (x ≡ y) ⊎ (is_named x (z ∷ peers) ≡ true)
came_step x y z peers more Less m h = came_front x y (is_peer x y) (is_named x (z ∷ peers)) refl h
came_step x y z peers more Equal m h = inr h
came_step x y z peers more Greater m h = came_rest x y (is_peer x z) (is_named x peers) (is_named x more) m h

came_with : (x y : Peer) (peers : List Peer) → is_named x (with_peer y peers) ≡ true → (x ≡ y) ⊎ (is_named x peers ≡ true)
came_with x y [] h = came_front x y (is_peer x y) false refl h
came_with x y (z ∷ peers) h = came_step x y z peers (with_peer y peers) (peer_cmp y z) (came_with x y peers) h

came_by : (x : Peer) (notice : Notice) (peers : List Peer) → is_named x (with_sender notice peers) ≡ true → CameFrom x notice ⊎ (is_named x peers ≡ true)
came_by x (Notice.Sent from at p) peers h = came_with x from peers h
came_by x (Notice.Garbled from at refusal) peers h = came_with x from peers h
came_by x (Notice.Quiet at) peers h = inr h
came_by x Notice.Fault peers h = inr h
came_by x Notice.End peers h = inr h

came : (entries : List Entry) (n : ℕ) (x : Peer) → is_named x (peers_named entries n) ≡ true → (i : ℕ) × (i < n) × CameFrom x (notice_at entries i)
unfolding peers_named
came entries zero x h = absurd (false≢true h)
came entries (suc n) x h = elim (came_by x (notice_at entries n) (peers_named entries n) h) [
  | inl here ↦ (n, omega arith, here)
  | inr before ↦ let r = came entries n x before in (r.0, omega arith, r.2)
]

-- and who came from an entry is named behind it
goes_by : (x : Peer) (notice : Notice) (peers : List Peer) → CameFrom x notice → is_named x (with_sender notice peers) ≡ true
goes_by x (Notice.Sent from at p) peers e = ap (λ y. is_named x (with_peer y peers)) (sym e) ∙ named_new x peers
goes_by x (Notice.Garbled from at refusal) peers e = ap (λ y. is_named x (with_peer y peers)) (sym e) ∙ named_new x peers
goes_by x (Notice.Quiet at) peers e = absurd e
goes_by x Notice.Fault peers e = absurd e
goes_by x Notice.End peers e = absurd e

goes : (entries : List Entry) (x : Peer) (n i : ℕ) → i < n → CameFrom x (notice_at entries i) → is_named x (peers_named entries n) ≡ true
unfolding peers_named
goes entries x zero i l c = absurd (omega arith)
goes entries x (suc n) i l c = elim (cases_eq i n) [
  | inl same ↦ goes_by x (notice_at entries n) (peers_named entries n) (subst (λ j. CameFrom x (notice_at entries j)) same c)
  | inr other ↦ named_still x (notice_at entries n) (peers_named entries n) (goes entries x n i (omega arith) c)
]

senders : (entries : List Entry) (n : ℕ) (x : Peer) → ((i : ℕ) × (slice_get (peers_named entries n) i ≡ Some x)) ↔ ((i : ℕ) × (i < n) × CameFrom x (notice_at entries i))
senders entries n x = (
  (λ at. came entries n x (got_named x (peers_named entries n) at.0 at.1)),
  (λ c. named_got x (peers_named entries n) (goes entries x n c.0 c.1 c.2)),
)

pub named_in_order : PeersAreNamedInOrder
named_in_order = record { rising = rising; senders = senders }
