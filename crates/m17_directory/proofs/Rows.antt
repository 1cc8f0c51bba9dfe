-- Rows in order of peers: what is looked up in them, and that look-ups tell them apart.
use Rattle.std.proofs.Common.{◌≡◌, Bool, true, false, cond, List, [], ◌∷◌, map, filter, Option, None, Some, Ordering, Less, Equal, Greater, option_map, refl, ap, sym, ◌∙◌, subst}
use Rattle.std.proofs.lemmas.Bool.{cond-true, cond-false}
use Rattle.std.proofs.lemmas.Option.{same_Some, none-some}
use Rattle.std.specs.Ordering.{match_ordering}
use Rattle.m17_values.specs.declared.peer.Peer.{Peer}
use Rattle.m17_directory.specs.declared.known.Known.{Known}
use Rattle.m17_directory.specs.Entries.{peer_cmp, is_peer}
use Rattle.m17_directory.specs.Routed.{row_for}
use Rattle.m17_directory.specs.Steps.{IsAllAfter, IsInOrder, with_row}
use Rattle.m17_directory.proofs.Peers.{peer_same, is_peer_same, is_peer_self, peer_flip, peer_trans, other_if_less, other_if_greater}

pub after_trans : (x y : Peer) (rows : List Known) → peer_cmp x y ≡ Less → IsAllAfter y rows → IsAllAfter x rows
after_trans x y [] l h = tt
after_trans x y (k ∷ rows) l h = (peer_trans x y k.peer l h.0, after_trans x y rows l h.1)

pub after_none : (x : Peer) (rows : List Known) → IsAllAfter x rows → row_for x rows ≡ None
after_none x [] h = refl
after_none x (k ∷ rows) h = cond-false (is_peer x k.peer) (Some k) (row_for x rows) (other_if_less x k.peer h.0) ∙ after_none x rows h.1

pub after_same : (x y : Peer) (rows : List Known) → x ≡ y → IsAllAfter y rows → IsAllAfter x rows
after_same x y rows e h = subst (λ (z : Peer). IsAllAfter z rows) (sym e) h

row_peer_step : (x : Peer) (k r : Known) (b : Bool) (o : Option Known) → b ≡ is_peer x r.peer → (o ≡ Some k → k.peer ≡ x) → cond b (Some r) o ≡ Some k → k.peer ≡ x
row_peer_step x k r true o e h f = ap (λ (z : Known). z.peer) (sym (same_Some r k f)) ∙ sym (is_peer_same x r.peer (sym e))
row_peer_step x k r false o e h f = h f

pub row_peer : (x : Peer) (rows : List Known) (k : Known) → row_for x rows ≡ Some k → k.peer ≡ x
row_peer x [] k e = cc
row_peer x (r ∷ rows) k e = row_peer_step x k r (is_peer x r.peer) (row_for x rows) refl (row_peer x rows k) e

-- the row, where it passes a test
abbrev pub if_passes : (Known → Bool) → Option Known → Option Known
if_passes p None = None
if_passes p (Some k) = cond (p k) (Some k) None

pub after_filter : (p : Known → Bool) (x : Peer) (rows : List Known) → IsAllAfter x rows → IsAllAfter x (filter p rows)
after_filter p x [] h = tt
after_filter p x (k ∷ rows) h =
    elim (p k) as (λ b. IsAllAfter x (cond b (k ∷ filter p rows) (filter p rows))) [ true ↦ (h.0, after_filter p x rows h.1) | false ↦ after_filter p x rows h.1 ]

pub order_filter : (p : Known → Bool) (rows : List Known) → IsInOrder rows → IsInOrder (filter p rows)
order_filter p [] h = tt
order_filter p (k ∷ rows) h =
    elim (p k) as (λ b. IsInOrder (cond b (k ∷ filter p rows) (filter p rows))) [ true ↦ (after_filter p k.peer rows h.0, order_filter p rows h.1) | false ↦ order_filter p rows h.1 ]

filter_step : (p : Known → Bool) (x : Peer) (k : Known) (rest kept : List Known) (here passes : Bool) → here ≡ is_peer x k.peer → (here ≡ true → row_for x kept ≡ None) → row_for x kept ≡ if_passes p (row_for x rest)
    → row_for x (cond passes (k ∷ kept) kept) ≡ cond here (cond passes (Some k) None) (if_passes p (row_for x rest))
filter_step p x k rest kept true true e none same = cond-true (is_peer x k.peer) (Some k) (row_for x kept) (sym e)
filter_step p x k rest kept true false e none same = none refl
filter_step p x k rest kept false true e none same = cond-false (is_peer x k.peer) (Some k) (row_for x kept) (sym e) ∙ same
filter_step p x k rest kept false false e none same = same

passes_cond : (p : Known → Bool) (here : Bool) (k : Known) (o : Option Known) → cond here (cond (p k) (Some k) None) (if_passes p o) ≡ if_passes p (cond here (Some k) o)
passes_cond p true k o = refl
passes_cond p false k o = refl

pub row_for-filter : (p : Known → Bool) (x : Peer) (rows : List Known) → IsInOrder rows → row_for x (filter p rows) ≡ if_passes p (row_for x rows)
row_for-filter p x [] h = refl
row_for-filter p x (k ∷ rows) h =
    filter_step p x k rows (filter p rows) (is_peer x k.peer) (p k) refl
    (λ e. after_none x (filter p rows) (after_filter p x rows (after_same x k.peer rows (is_peer_same x k.peer e) h.0)))
    (row_for-filter p x rows h.1)
    ∙ passes_cond p (is_peer x k.peer) k (row_for x rows)

-- a change that keeps each row's peer
pub after_map : (f : Known → Known) (x : Peer) (rows : List Known) → ((k : Known) → (f k).peer ≡ k.peer) → IsAllAfter x rows → IsAllAfter x (map f rows)
after_map f x [] s h = tt
after_map f x (k ∷ rows) s h = (ap (peer_cmp x) (s k) ∙ h.0, after_map f x rows s h.1)

pub order_map : (f : Known → Known) (rows : List Known) → ((k : Known) → (f k).peer ≡ k.peer) → IsInOrder rows → IsInOrder (map f rows)
order_map f [] s h = tt
order_map f (k ∷ rows) s h = (after_same (f k).peer k.peer (map f rows) (s k) (after_map f k.peer rows s h.0), order_map f rows s h.1)

map_cond : (f : Known → Known) (b : Bool) (k : Known) (o : Option Known) → cond b (Some (f k)) (option_map f o) ≡ option_map f (cond b (Some k) o)
map_cond f true k o = refl
map_cond f false k o = refl

pub row_for-map : (f : Known → Known) (x : Peer) (rows : List Known) → ((k : Known) → (f k).peer ≡ k.peer) → row_for x (map f rows) ≡ option_map f (row_for x rows)
row_for-map f x [] s = refl
row_for-map f x (k ∷ rows) s =
    ap (λ p. cond (is_peer x p) (Some (f k)) (row_for x (map f rows))) (s k)
    ∙ ap (cond (is_peer x k.peer) (Some (f k))) (row_for-map f x rows s)
    ∙ map_cond f (is_peer x k.peer) k (row_for x rows)

-- a row that is put in
after_put_step : (x : Peer) (k r : Known) (rows more : List Known) (o : Ordering) → peer_cmp x k.peer ≡ Less → peer_cmp x r.peer ≡ Less → IsAllAfter x rows → IsAllAfter x more
    → IsAllAfter x (match_ordering o (k ∷ r ∷ rows) (k ∷ rows) (r ∷ more))
after_put_step x k r rows more Less a b h m = (a, (b, h))
after_put_step x k r rows more Equal a b h m = (a, h)
after_put_step x k r rows more Greater a b h m = (b, m)

pub after_put : (x : Peer) (k : Known) (rows : List Known) → peer_cmp x k.peer ≡ Less → IsAllAfter x rows → IsAllAfter x (with_row k rows)
after_put x k [] a h = (a, tt)
after_put x k (r ∷ rows) a h = after_put_step x k r rows (with_row k rows) (peer_cmp k.peer r.peer) a h.0 h.1 (after_put x k rows a h.1)

order_put_step : (k r : Known) (rows more : List Known) (o : Ordering) → o ≡ peer_cmp k.peer r.peer → IsAllAfter r.peer rows → IsInOrder rows → (peer_cmp r.peer k.peer ≡ Less → IsAllAfter r.peer more) → IsInOrder more
    → IsInOrder (match_ordering o (k ∷ r ∷ rows) (k ∷ rows) (r ∷ more))
order_put_step k r rows more Less e a h m n = ((sym e, after_trans k.peer r.peer rows (sym e) a), (a, h))
order_put_step k r rows more Equal e a h m n = (after_same k.peer r.peer rows (peer_same k.peer r.peer (sym e)) a, h)
order_put_step k r rows more Greater e a h m n = (m (peer_flip k.peer r.peer (sym e)), n)

pub order_put : (k : Known) (rows : List Known) → IsInOrder rows → IsInOrder (with_row k rows)
order_put k [] h = (tt, tt)
order_put k (r ∷ rows) h =
    order_put_step k r rows (with_row k rows) (peer_cmp k.peer r.peer) refl h.0 h.1 (λ l. after_put r.peer k rows l h.0) (order_put k rows h.1)

-- where y is no row's peer that x is another of
put_step : (x : Peer) (k r : Known) (rows more : List Known) (o : Ordering) (b : Bool) → o ≡ peer_cmp k.peer r.peer → b ≡ is_peer x k.peer → row_for x more ≡ cond b (Some k) (row_for x rows)
    → row_for x (match_ordering o (k ∷ r ∷ rows) (k ∷ rows) (r ∷ more)) ≡ cond b (Some k) (cond (is_peer x r.peer) (Some r) (row_for x rows))
put_step x k r rows more Less b e f h = ap (λ c. cond c (Some k) (cond (is_peer x r.peer) (Some r) (row_for x rows))) (sym f)
put_step x k r rows more Equal true e f h = cond-true (is_peer x k.peer) (Some k) (row_for x rows) (sym f)
put_step x k r rows more Equal false e f h =
    let other : is_peer x r.peer ≡ false = ap (is_peer x) (sym (peer_same k.peer r.peer (sym e))) ∙ sym f in
    cond-false (is_peer x k.peer) (Some k) (row_for x rows) (sym f) ∙ sym (cond-false (is_peer x r.peer) (Some r) (row_for x rows) other)
put_step x k r rows more Greater true e f h =
    let other : is_peer x r.peer ≡ false =
    ap (λ p. is_peer p r.peer) (is_peer_same x k.peer (sym f)) ∙ other_if_greater k.peer r.peer (sym e) in
    cond-false (is_peer x r.peer) (Some r) (row_for x more) other ∙ h
put_step x k r rows more Greater false e f h = ap (cond (is_peer x r.peer) (Some r)) h

pub row_for-put : (x : Peer) (k : Known) (rows : List Known) → row_for x (with_row k rows) ≡ cond (is_peer x k.peer) (Some k) (row_for x rows)
row_for-put x k [] = refl
row_for-put x k (r ∷ rows) =
    put_step x k r rows (with_row k rows) (peer_cmp k.peer r.peer) (is_peer x k.peer) refl refl (row_for-put x k rows)

-- what is found at the head
pub row_here : (k : Known) (rows : List Known) → row_for k.peer (k ∷ rows) ≡ Some k
row_here k rows = cond-true (is_peer k.peer k.peer) (Some k) (row_for k.peer rows) (is_peer_self k.peer)

same_tail : (x : Peer) (k : Known) (us vs : List Known) (b : Bool) → b ≡ is_peer x k.peer → IsAllAfter k.peer us → IsAllAfter k.peer vs → cond b (Some k) (row_for x us) ≡ cond b (Some k) (row_for x vs) → row_for x us ≡ row_for x vs
same_tail x k us vs true e ha hb h =
    after_none x us (after_same x k.peer us (is_peer_same x k.peer (sym e)) ha)
    ∙ sym (after_none x vs (after_same x k.peer vs (is_peer_same x k.peer (sym e)) hb))
same_tail x k us vs false e ha hb h = h

same_rows_step : (a b : Known) (us vs : List Known) (o : Ordering) → o ≡ peer_cmp a.peer b.peer → IsAllAfter a.peer us × IsInOrder us → IsAllAfter b.peer vs × IsInOrder vs
    → ((x : Peer) → row_for x (a ∷ us) ≡ row_for x (b ∷ vs)) → (IsInOrder us → IsInOrder vs → ((x : Peer) → row_for x us ≡ row_for x vs) → us ≡ vs) → a ∷ us ≡ b ∷ vs
same_rows_step a b us vs Less e ha hb h ih =
    let none : row_for a.peer (b ∷ vs) ≡ None = after_none a.peer (b ∷ vs) (sym e, after_trans a.peer b.peer vs (sym e) hb.0) in
    absurd (none-some a (sym none ∙ sym (h a.peer) ∙ row_here a us))
same_rows_step a b us vs Equal e ha hb h ih =
    let peer : a.peer ≡ b.peer = peer_same a.peer b.peer (sym e) in
    let there : row_for a.peer (b ∷ vs) ≡ Some b = ap (λ p. row_for p (b ∷ vs)) peer ∙ row_here b vs in
    let same : a ≡ b = same_Some a b (sym (row_here a us) ∙ h a.peer ∙ there) in
    let hb' : IsAllAfter a.peer vs = after_same a.peer b.peer vs peer hb.0 in
    let rest : us ≡ vs = ih ha.1 hb.1 (λ x. same_tail x a us vs (is_peer x a.peer) refl ha.0 hb' (h x ∙ ap (λ (k : Known). row_for x (k ∷ vs)) (sym same))) in
    cc
same_rows_step a b us vs Greater e ha hb h ih =
    let l = peer_flip a.peer b.peer (sym e) in
    let none : row_for b.peer (a ∷ us) ≡ None = after_none b.peer (a ∷ us) (l, after_trans b.peer a.peer us l ha.0) in
    absurd (none-some b (sym none ∙ h b.peer ∙ row_here b vs))

-- Rows in order with the same look-ups are the same.
pub same_rows : (us vs : List Known) → IsInOrder us → IsInOrder vs → ((x : Peer) → row_for x us ≡ row_for x vs) → us ≡ vs
same_rows [] [] ha hb h = refl
same_rows [] (b ∷ vs) ha hb h = absurd (none-some b (h b.peer ∙ row_here b vs))
same_rows (a ∷ us) [] ha hb h = absurd (none-some a (sym (h a.peer) ∙ row_here a us))
same_rows (a ∷ us) (b ∷ vs) ha hb h = same_rows_step a b us vs (peer_cmp a.peer b.peer) refl ha hb h (same_rows us vs)
