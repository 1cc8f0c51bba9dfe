-- All that are known stand in order of peers, and each is looked up as its row.
use Rattle.std.proofs.Common.{◌≡◌, ℕ, zero, suc, ◌<◌, Bool, true, false, cond, List, [], ◌∷◌, unwrap_or, slice_get, filter_map, Option, None, Some, Ordering, Less, Equal, Greater, refl, ap, sym, ◌∙◌, inl, inr, arith}
use Rattle.std.specs.List.{cons_option}
use Rattle.std.specs.Ordering.{match_ordering}
use Rattle.std.proofs.lemmas.Bool.{cond-true, cond-false, and_parts, cases_eq, false≢true}
use Rattle.m17_values.specs.declared.peer.Peer.{Peer}
use Rattle.m17_directory.specs.declared.known.Known.{Known}
use Rattle.m17_directory.specs.Entries.{Notice, Entry, notice_at, peer_cmp, is_peer, is_from, with_peer, with_sender, peers_named}
use Rattle.m17_directory.specs.Known.{Past, now, row_at, known_at}
use Rattle.m17_directory.specs.Routed.{row_for}
use Rattle.m17_directory.specs.Steps.{IsAllAfter, IsInOrder}
use Rattle.m17_directory.proofs.Peers.{peer_same, is_peer_same, is_peer_self, peer_flip, peer_trans, is_peer_from}
use Rattle.m17_directory.proofs.Rows.{after_none, after_same}
use Rattle.m17_directory.proofs.Later.{has_row, row_at_peer}

-- peers in strict order, and whether one is among them
abbrev pub AreAfter : Peer → List Peer → Type 0
AreAfter x [] = Unit {0}
AreAfter x (y ∷ peers) = (peer_cmp x y ≡ Less) × AreAfter x peers

abbrev pub AreInOrder : List Peer → Type 0
AreInOrder [] = Unit {0}
AreInOrder (y ∷ peers) = AreAfter y peers × AreInOrder peers

abbrev pub is_named : Peer → List Peer → Bool
is_named x [] = false
is_named x (y ∷ peers) = cond (is_peer x y) true (is_named x peers)

after_less : (x y : Peer) (peers : List Peer) → peer_cmp x y ≡ Less → AreAfter y peers → AreAfter x peers
after_less x y [] l h = tt
after_less x y (z ∷ peers) l h = (peer_trans x y z l h.0, after_less x y peers l h.1)

after_with_step : (x y z : Peer) (peers more : List Peer) (o : Ordering) → peer_cmp x y ≡ Less → peer_cmp x z ≡ Less → AreAfter x peers → AreAfter x more → AreAfter x (match_ordering o (y ∷ z ∷ peers) (z ∷ peers) (z ∷ more))
after_with_step x y z peers more Less a b h m = (a, (b, h))
after_with_step x y z peers more Equal a b h m = (b, h)
after_with_step x y z peers more Greater a b h m = (b, m)

after_with : (x y : Peer) (peers : List Peer) → peer_cmp x y ≡ Less → AreAfter x peers → AreAfter x (with_peer y peers)
after_with x y [] a h = (a, tt)
after_with x y (z ∷ peers) a h = after_with_step x y z peers (with_peer y peers) (peer_cmp y z) a h.0 h.1 (after_with x y peers a h.1)

order_with_step : (y z : Peer) (peers more : List Peer) (o : Ordering) → o ≡ peer_cmp y z → AreAfter z peers → AreInOrder peers → (peer_cmp z y ≡ Less → AreAfter z more) → AreInOrder more → AreInOrder (match_ordering o (y ∷ z ∷ peers) (z ∷ peers) (z ∷ more))
order_with_step y z peers more Less e a h m n = ((sym e, after_less y z peers (sym e) a), (a, h))
order_with_step y z peers more Equal e a h m n = (a, h)
order_with_step y z peers more Greater e a h m n = (m (peer_flip y z (sym e)), n)

order_with : (y : Peer) (peers : List Peer) → AreInOrder peers → AreInOrder (with_peer y peers)
order_with y [] h = (tt, tt)
order_with y (z ∷ peers) h = order_with_step y z peers (with_peer y peers) (peer_cmp y z) refl h.0 h.1 (λ l. after_with z y peers l h.0) (order_with y peers h.1)

order_with_sender : (notice : Notice) (peers : List Peer) → AreInOrder peers → AreInOrder (with_sender notice peers)
order_with_sender (Notice.Sent from at p) peers h = order_with from peers h
order_with_sender (Notice.Garbled from at refusal) peers h = order_with from peers h
order_with_sender (Notice.Quiet at) peers h = h
order_with_sender Notice.Fault peers h = h
order_with_sender Notice.End peers h = h

pub peers_in_order : (entries : List Entry) (n : ℕ) → AreInOrder (peers_named entries n)
unfolding peers_named
peers_in_order entries zero = tt
peers_in_order entries (suc n) = order_with_sender (notice_at entries n) (peers_named entries n) (peers_in_order entries n)

named_rest : (b c d : Bool) → (c ≡ true → d ≡ true) → cond b true c ≡ true → cond b true d ≡ true
named_rest true c d m h = refl
named_rest false c d m h = m h

-- whoever was there is there still, and the one that was put in
named_with_step : (x y z : Peer) (peers more : List Peer) (o : Ordering) → o ≡ peer_cmp y z → (is_named x peers ≡ true → is_named x more ≡ true) → is_named x (z ∷ peers) ≡ true → is_named x (match_ordering o (y ∷ z ∷ peers) (z ∷ peers) (z ∷ more)) ≡ true
named_with_step x y z peers more Less e m h = elim (is_peer x y) as (λ b. cond b true (is_named x (z ∷ peers)) ≡ true) [ true ↦ refl | false ↦ h ]
named_with_step x y z peers more Equal e m h = h
named_with_step x y z peers more Greater e m h = named_rest (is_peer x z) (is_named x peers) (is_named x more) m h

pub named_with : (x y : Peer) (peers : List Peer) → is_named x peers ≡ true → is_named x (with_peer y peers) ≡ true
named_with x y [] h = absurd (false≢true h)
named_with x y (z ∷ peers) h = named_with_step x y z peers (with_peer y peers) (peer_cmp y z) refl (named_with x y peers) h

named_new_step : (x z : Peer) (peers more : List Peer) (o : Ordering) → o ≡ peer_cmp x z → is_named x more ≡ true → is_named x (match_ordering o (x ∷ z ∷ peers) (z ∷ peers) (z ∷ more)) ≡ true
named_new_step x z peers more Less e m = cond-true (is_peer x x) true (is_named x (z ∷ peers)) (is_peer_self x)
named_new_step x z peers more Equal e m = cond-true (is_peer x z) true (is_named x peers) (is_peer_from x z (peer_same x z (sym e)))
named_new_step x z peers more Greater e m = elim (is_peer x z) as (λ b. cond b true (is_named x more) ≡ true) [ true ↦ refl | false ↦ m ]

pub named_new : (x : Peer) (peers : List Peer) → is_named x (with_peer x peers) ≡ true
named_new x [] = cond-true (is_peer x x) true false (is_peer_self x)
named_new x (z ∷ peers) = named_new_step x z peers (with_peer x peers) (peer_cmp x z) refl (named_new x peers)

named_by : (x : Peer) (notice : Notice) (peers : List Peer) → is_from x notice ≡ true → is_named x (with_sender notice peers) ≡ true
named_by x (Notice.Sent from at p) peers e = ap (λ y. is_named x (with_peer y peers)) (sym (is_peer_same x from e)) ∙ named_new x peers
named_by x (Notice.Garbled from at refusal) peers e = absurd (false≢true e)
named_by x (Notice.Quiet at) peers e = absurd (false≢true e)
named_by x Notice.Fault peers e = absurd (false≢true e)
named_by x Notice.End peers e = absurd (false≢true e)

pub named_still : (x : Peer) (notice : Notice) (peers : List Peer) → is_named x peers ≡ true → is_named x (with_sender notice peers) ≡ true
named_still x (Notice.Sent from at p) peers h = named_with x from peers h
named_still x (Notice.Garbled from at refusal) peers h = named_with x from peers h
named_still x (Notice.Quiet at) peers h = h
named_still x Notice.Fault peers h = h
named_still x Notice.End peers h = h

named_at : (entries : List Entry) (x : Peer) (n i : ℕ) → i < n → is_from x (notice_at entries i) ≡ true → is_named x (peers_named entries n) ≡ true
unfolding peers_named
named_at entries x zero i l e = absurd (omega arith)
named_at entries x (suc n) i l e = elim (cases_eq i n) [
  | inl same ↦ named_by x (notice_at entries n) (peers_named entries n) (ap (λ j. is_from x (notice_at entries j)) (sym same) ∙ e)
  | inr other ↦ named_still x (notice_at entries n) (peers_named entries n) (named_at entries x n i (omega arith) e)
]

-- the rows of the peers
module _ (f : Peer → Option Known) (own : (x : Peer) (k : Known) → f x ≡ Some k → k.peer ≡ x) where
  rows_after_step : (x y : Peer) (rows : List Known) (o : Option Known) → o ≡ f y → peer_cmp x y ≡ Less → IsAllAfter x rows → IsAllAfter x (cons_option o rows)
  rows_after_step x y rows None e l h = h
  rows_after_step x y rows (Some k) e l h = (ap (peer_cmp x) (own y k (sym e)) ∙ l, h)

  rows_after : (x : Peer) (peers : List Peer) → AreAfter x peers → IsAllAfter x (filter_map f peers)
  rows_after x [] h = tt
  rows_after x (y ∷ peers) h = rows_after_step x y (filter_map f peers) (f y) refl h.0 (rows_after x peers h.1)

  rows_order_step : (y : Peer) (rows : List Known) (o : Option Known) → o ≡ f y → IsAllAfter y rows → IsInOrder rows → IsInOrder (cons_option o rows)
  rows_order_step y rows None e a h = h
  rows_order_step y rows (Some k) e a h = (after_same k.peer y rows (own y k (sym e)) a, h)

  rows_order : (peers : List Peer) → AreInOrder peers → IsInOrder (filter_map f peers)
  rows_order [] h = tt
  rows_order (y ∷ peers) h = rows_order_step y (filter_map f peers) (f y) refl (rows_after y peers h.0) (rows_order peers h.1)

  rows_look_step : (x y : Peer) (rows : List Known) (o : Option Known) (b c : Bool) → o ≡ f y → b ≡ is_peer x y → (b ≡ true → row_for x rows ≡ None) → row_for x rows ≡ cond c (f x) None → row_for x (cons_option o rows) ≡ cond (cond b true c) (f x) None
  rows_look_step x y rows None true c e q a h = a refl ∙ e ∙ ap f (sym (is_peer_same x y (sym q)))
  rows_look_step x y rows None false c e q a h = h
  rows_look_step x y rows (Some k) true c e q a h =
      let here : is_peer x k.peer ≡ true = ap (is_peer x) (own y k (sym e)) ∙ sym q in
      cond-true (is_peer x k.peer) (Some k) (row_for x rows) here ∙ e ∙ ap f (sym (is_peer_same x y (sym q)))
  rows_look_step x y rows (Some k) false c e q a h =
      let there : is_peer x k.peer ≡ false = ap (is_peer x) (own y k (sym e)) ∙ sym q in
      cond-false (is_peer x k.peer) (Some k) (row_for x rows) there ∙ h

  rows_look : (x : Peer) (peers : List Peer) → AreInOrder peers → row_for x (filter_map f peers) ≡ cond (is_named x peers) (f x) None
  rows_look x [] h = refl
  rows_look x (y ∷ peers) h =
      rows_look_step x y (filter_map f peers) (f y) (is_peer x y) (is_named x peers) refl refl
      (λ e. after_none x (filter_map f peers) (after_same x y (filter_map f peers) (is_peer_same x y e) (rows_after y peers h.0)))
      (rows_look x peers h.1)

pub known_order : (past : Past) → IsInOrder (known_at past)
unfolding known_at
known_order past = rows_order (row_at past) (row_at_peer past) (peers_named past.entries (now past)) (peers_in_order past.entries (now past))

named_row : (past : Past) (x : Peer) (k : Known) → row_at past x ≡ Some k → is_named x (peers_named past.entries (now past)) ≡ true
named_row past x k e =
    let row = has_row past x k e in
    let from = and_parts (unwrap_or (slice_get past.asked row.position) false) (is_from x (notice_at past.entries row.position)) row.asks in
    named_at past.entries x (now past) row.position row.below from.1

row_if_named : (o : Option Known) (b : Bool) → ((k : Known) → o ≡ Some k → b ≡ true) → cond b o None ≡ o
row_if_named None true h = refl
row_if_named None false h = refl
row_if_named (Some k) b h = cond-true b (Some k) None (h k refl)

pub known_look : (past : Past) (x : Peer) → row_for x (known_at past) ≡ row_at past x
unfolding known_at
known_look past x =
    rows_look (row_at past) (row_at_peer past) x (peers_named past.entries (now past)) (peers_in_order past.entries (now past))
    ∙ row_if_named (row_at past x) (is_named x (peers_named past.entries (now past))) (named_row past x)
