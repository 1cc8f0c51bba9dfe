-- The rows of a table: which index a peer's row has, what each edit leaves, and when nobody is silent.
use Rattle.std.proofs.Common.{◌≡◌, ℕ, zero, suc, ◌+◌, ◌-◌, ◌<◌, ◌≤◌, false, leb, List, [], ◌∷◌, ◌++◌, length, map, filter, get_or, set, take, drop, insert, None, Some, Result, Ok, Err, MatchResult, Ordering, Less, Equal, Greater, is_lt, refl, ap, sym, ◌∙◌, subst, arith, add-one}
use Rattle.std.specs.List.{HoldsAt}
use Rattle.std.specs.Ordering.{match_ordering, ordering_index}
use Rattle.std.specs.List.Sorted.{IsSortedBy, IsNonDecreasingBy, IsPartitionPoint, IsSearchInRange, IsBinarySearchResult}
use Rattle.std.proofs.lemmas.Bool.{cond-true, cond-false, lt-leb, leb-false}
use Rattle.std.proofs.lemmas.List.{take_all, take_more}
use Rattle.std.proofs.lemmas.List.Sorted.{searchable_from_sorted}
use Rattle.m17_values.specs.declared.peer.Peer.{Peer}
use Rattle.m17_directory.specs.declared.known.Known.{Known}
use Rattle.m17_directory.specs.Entries.{peer_cmp, is_peer, silence_ms}
use Rattle.m17_directory.specs.Routed.{row_for, is_silent}
use Rattle.m17_directory.specs.Steps.{IsAllAfter, IsInOrder, IsEarliest, IsRowOf, IsRow, IsGapFor, heard_now, with_row}
use Rattle.m17_directory.proofs.Peers.{peer_order, peer_same, peer_self, is_peer_from, peer_flip, peer_flip_less, other_if_less, other_if_greater}
use Rattle.m17_directory.proofs.Rows.{after_none, after_same, row_here}
use Rattle.m17_directory.proofs.Later.{hearing}
use Rattle.m17_directory.proofs.Taken.{no_row_heard, is_peer_swap}

-- the moment before which none was last heard
pub earliest_less : (m n : ℕ) (rows : List Known) → m ≤ n → IsEarliest n rows → IsEarliest m rows
earliest_less m n [] l h = tt
earliest_less m n (k ∷ rows) l h = (omega (arith, h.0), earliest_less m n rows l h.1)

pub earliest_append : (m : ℕ) (us vs : List Known) → IsEarliest m us → IsEarliest m vs → IsEarliest m (us ++ vs)
earliest_append m [] vs a b = b
earliest_append m (k ∷ us) vs a b = (a.0, earliest_append m us vs a.1 b)

pub earliest_more : (m n : ℕ) (rows : List Known) (i : ℕ) (k : Known) → i < length rows → k ≡ get_or rows i k → n ≤ m → n ≤ k.heard_at → IsEarliest m (take i rows) → IsEarliest n (take (i + 1) rows)
earliest_more m n rows i k within read l h e =
    let last : IsEarliest n (take i rows ++ k ∷ []) = earliest_append n (take i rows) (k ∷ []) (earliest_less n m (take i rows) l e) (h, tt) in
    subst (λ (ks : List Known). IsEarliest n ks) (sym (take_more rows i k within ∙ ap (λ (x : Known). take i rows ++ x ∷ []) (sym read))) last

pub earliest_all : (m : ℕ) (rows : List Known) (i : ℕ) → length rows ≤ i → IsEarliest m (take i rows) → IsEarliest m rows
earliest_all m rows i l h = subst (λ (ks : List Known). IsEarliest m ks) (take_all i rows l) h

pub earliest_set : (m n : ℕ) (rows : List Known) (i : ℕ) (k : Known) → n ≤ m → n ≤ k.heard_at → IsEarliest m rows → IsEarliest n (set rows i k)
earliest_set m n [] i k l h e = tt
earliest_set m n (r ∷ rows) zero k l h e = (h, earliest_less n m rows l e.1)
earliest_set m n (r ∷ rows) (suc i) k l h e = (omega (arith, e.0), earliest_set m n rows i k l h e.1)

earliest_take : (m : ℕ) (i : ℕ) (rows : List Known) → IsEarliest m rows → IsEarliest m (take i rows)
earliest_take m zero rows h = tt
earliest_take m (suc i) [] h = tt
earliest_take m (suc i) (k ∷ rows) h = (h.0, earliest_take m i rows h.1)

earliest_drop : (m : ℕ) (i : ℕ) (rows : List Known) → IsEarliest m rows → IsEarliest m (drop i rows)
earliest_drop m zero rows h = h
earliest_drop m (suc i) [] h = tt
earliest_drop m (suc i) (k ∷ rows) h = earliest_drop m i rows h.1

pub earliest_insert : (m n : ℕ) (rows : List Known) (i : ℕ) (k : Known) → n ≤ m → n ≤ k.heard_at → IsEarliest m rows → IsEarliest n (insert rows i k)
earliest_insert m n rows i k l h e =
    let few = earliest_less n m rows l e in
    earliest_append n (take i rows) (k ∷ drop i rows) (earliest_take n i rows few) (h, earliest_drop n i rows few)

-- nobody is silent where the first moment is not long past
pub none_silent : (moment earliest : ℕ) (rows : List Known) → IsEarliest earliest rows → leb silence_ms (moment - earliest) ≡ false → filter (is_silent moment) rows ≡ []
none_silent moment earliest [] h e = refl
none_silent moment earliest (k ∷ rows) h e =
    let l : moment - earliest < silence_ms = leb-false silence_ms (moment - earliest) e in
    let not_silent : is_silent moment k ≡ false = lt-leb silence_ms (moment - k.heard_at) (omega (arith, h.0)) in
    cond-false (is_silent moment k) (k ∷ filter (is_silent moment) rows) (filter (is_silent moment) rows) not_silent ∙ none_silent moment earliest rows h.1 e

-- the row at an index
pub row_exists : (rows : List Known) (i : ℕ) → i < length rows → (k : Known) × ((d : Known) → get_or rows i d ≡ k)
row_exists [] i l = absurd (omega arith)
row_exists (r ∷ rows) zero l = (r, λ d. refl)
row_exists (r ∷ rows) (suc i) l = row_exists rows i (omega arith)

after_at : (x : Peer) (rows : List Known) (i : ℕ) (k : Known) → IsAllAfter x rows → i < length rows → get_or rows i k ≡ k → peer_cmp x k.peer ≡ Less
after_at x [] i k h l e = absurd (omega arith)
after_at x (r ∷ rows) zero k h l e = ap (λ (z : Known). peer_cmp x z.peer) (sym e) ∙ h.0
after_at x (r ∷ rows) (suc i) k h l e = after_at x rows i k h.1 (omega arith) e

greater_at : (r : Known) (rows : List Known) (i : ℕ) (k : Known) → IsAllAfter r.peer rows → i < length rows → get_or rows i k ≡ k → peer_cmp k.peer r.peer ≡ Greater
greater_at r rows i k h l e = peer_flip_less r.peer k.peer (after_at r.peer rows i k h l e)

row_found : (rows : List Known) (i : ℕ) (k : Known) → IsInOrder rows → i < length rows → get_or rows i k ≡ k → row_for k.peer rows ≡ Some k
row_found [] i k h l e = absurd (omega arith)
row_found (r ∷ rows) zero k h l e = ap (λ (z : Known). row_for k.peer (z ∷ rows)) e ∙ row_here k rows
row_found (r ∷ rows) (suc i) k h l e =
    cond-false (is_peer k.peer r.peer) (Some r) (row_for k.peer rows) (other_if_greater k.peer r.peer (greater_at r rows i k h.0 (omega arith) e))
    ∙ row_found rows i k h.1 (omega arith) e

pub none_alike : (x : Peer) (rows : List Known) → IsAllAfter x rows → filter (λ r. is_peer x r.peer) rows ≡ []
none_alike x [] h = refl
none_alike x (r ∷ rows) h =
    cond-false (is_peer x r.peer) (r ∷ filter (λ (z : Known). is_peer x z.peer) rows) (filter (λ (z : Known). is_peer x z.peer) rows) (other_if_less x r.peer h.0)
    ∙ none_alike x rows h.1

row_alone : (rows : List Known) (i : ℕ) (k : Known) → IsInOrder rows → i < length rows → get_or rows i k ≡ k → filter (λ r. is_peer k.peer r.peer) rows ≡ k ∷ []
row_alone [] i k h l e = absurd (omega arith)
row_alone (r ∷ rows) zero k h l e =
    let peer : k.peer ≡ r.peer = ap (λ (z : Known). z.peer) (sym e) in
    cond-true (is_peer k.peer r.peer) (r ∷ filter (λ (z : Known). is_peer k.peer z.peer) rows) (filter (λ (z : Known). is_peer k.peer z.peer) rows) (is_peer_from k.peer r.peer peer)
    ∙ ap (λ ks. r ∷ ks) (none_alike k.peer rows (after_same k.peer r.peer rows peer h.0))
    ∙ ap (λ (z : Known). z ∷ []) e
row_alone (r ∷ rows) (suc i) k h l e =
    cond-false (is_peer k.peer r.peer) (r ∷ filter (λ (z : Known). is_peer k.peer z.peer) rows) (filter (λ (z : Known). is_peer k.peer z.peer) rows) (other_if_greater k.peer r.peer (greater_at r rows i k h.0 (omega arith) e))
    ∙ row_alone rows i k h.1 (omega arith) e

row_set : (rows : List Known) (i : ℕ) (k : Known) (m : ℕ) → IsInOrder rows → i < length rows → get_or rows i k ≡ k → set rows i (record k { heard_at = m }) ≡ map (heard_now k.peer m) rows
row_set [] i k m h l e = absurd (omega arith)
row_set (r ∷ rows) zero k m h l e =
    let peer : k.peer ≡ r.peer = ap (λ (z : Known). z.peer) (sym e) in
    ap (λ (z : Known). record z { heard_at = m } ∷ rows) (sym e)
    ∙ ap (λ b. hearing b m r ∷ rows) (sym (is_peer_from k.peer r.peer peer))
    ∙ ap (λ ks. hearing (is_peer k.peer r.peer) m r ∷ ks) (sym (no_row_heard k.peer m rows (after_none k.peer rows (after_same k.peer r.peer rows peer h.0))))
row_set (r ∷ rows) (suc i) k m h l e =
    let other : is_peer k.peer r.peer ≡ false = other_if_greater k.peer r.peer (greater_at r rows i k h.0 (omega arith) e) in
    ap (λ b. hearing b m r ∷ set rows i (record k { heard_at = m })) (sym other)
    ∙ ap (λ ks. hearing (is_peer k.peer r.peer) m r ∷ ks) (row_set rows i k m h.1 (omega arith) e)

put_equal : (k r : Known) (rows : List Known) (o : Ordering) → o ≡ Equal → k ∷ rows ≡ match_ordering o (k ∷ r ∷ rows) (k ∷ rows) (r ∷ with_row k rows)
put_equal k r rows o e = ap (λ p. match_ordering p (k ∷ r ∷ rows) (k ∷ rows) (r ∷ with_row k rows)) (sym e)

put_greater : (k r : Known) (rows more : List Known) (o : Ordering) → o ≡ Greater → more ≡ with_row k rows → r ∷ more ≡ match_ordering o (k ∷ r ∷ rows) (k ∷ rows) (r ∷ with_row k rows)
put_greater k r rows more o e f = ap (λ ks. r ∷ ks) f ∙ ap (λ p. match_ordering p (k ∷ r ∷ rows) (k ∷ rows) (r ∷ with_row k rows)) (sym e)

put_less : (k r : Known) (rows : List Known) (o : Ordering) → o ≡ Less → k ∷ r ∷ rows ≡ match_ordering o (k ∷ r ∷ rows) (k ∷ rows) (r ∷ with_row k rows)
put_less k r rows o e = ap (λ p. match_ordering p (k ∷ r ∷ rows) (k ∷ rows) (r ∷ with_row k rows)) (sym e)

row_put : (rows : List Known) (i : ℕ) (k new : Known) → IsInOrder rows → i < length rows → get_or rows i k ≡ k → new.peer ≡ k.peer → set rows i new ≡ with_row new rows
row_put [] i k new h l e p = absurd (omega arith)
row_put (r ∷ rows) zero k new h l e p =
    let peer : new.peer ≡ r.peer = p ∙ ap (λ (z : Known). z.peer) (sym e) in
    put_equal new r rows (peer_cmp new.peer r.peer) (ap (λ x. peer_cmp x r.peer) peer ∙ peer_self r.peer)
row_put (r ∷ rows) (suc i) k new h l e p =
    put_greater new r rows (set rows i new) (peer_cmp new.peer r.peer) (ap (λ x. peer_cmp x r.peer) p ∙ greater_at r rows i k h.0 (omega arith) e)
    (row_put rows i k new h.1 (omega arith) e p)

pub is_row_of : (rows : List Known) (i : ℕ) (k : Known) → IsInOrder rows → i < length rows → get_or rows i k ≡ k → IsRowOf rows k i
is_row_of rows i k h l e = record {
  within = l;
  found = row_found rows i k h l e;
  alone = row_alone rows i k h l e;
  heard = λ m. row_set rows i k m h l e;
}

pub is_row : (rows : List Known) (x : Peer) (i : ℕ) → IsInOrder rows → i < length rows → HoldsAt (λ k. peer_cmp k.peer x ≡ Equal) rows i → IsRow rows x i
is_row rows x i h l equal =
    let at = row_exists rows i l in
    let k : Known = at.0 in
    let own : k.peer ≡ x = peer_same k.peer x (ap (λ (z : Known). peer_cmp z.peer x) (sym (at.1 k)) ∙ equal k) in
    record {
      known = k;
      peer = own;
      at = at.1;
      is = is_row_of rows i k h l (at.1 k);
      put = λ new p. row_put rows i k new h l (at.1 k) (p ∙ sym own);
    }

-- the gap for a peer
gap_none : (rows : List Known) (x : Peer) (i : ℕ) → ((j : ℕ) (d : Known) → j < i → peer_cmp (get_or rows j d).peer x ≡ Less) → ((j : ℕ) (d : Known) → i ≤ j → j < length rows → peer_cmp (get_or rows j d).peer x ≡ Greater) → row_for x rows ≡ None
gap_none [] x i b a = refl
gap_none (r ∷ rows) x zero b a =
    let other : is_peer x r.peer ≡ false = is_peer_swap x r.peer ∙ other_if_greater r.peer x (a zero r (omega arith) (omega arith)) in
    cond-false (is_peer x r.peer) (Some r) (row_for x rows) other
    ∙ gap_none rows x zero (λ j d l. absurd (omega arith)) (λ j d l m. a (suc j) d (omega arith) (omega arith))
gap_none (r ∷ rows) x (suc i) b a =
    let other : is_peer x r.peer ≡ false = is_peer_swap x r.peer ∙ other_if_less r.peer x (b zero r (omega arith)) in
    cond-false (is_peer x r.peer) (Some r) (row_for x rows) other
    ∙ gap_none rows x i (λ j d l. b (suc j) d (omega arith)) (λ j d l m. a (suc j) d (omega arith) (omega arith))

gap_put : (rows : List Known) (i : ℕ) (k : Known) → i ≤ length rows → ((j : ℕ) (d : Known) → j < i → peer_cmp (get_or rows j d).peer k.peer ≡ Less) → ((j : ℕ) (d : Known) → i ≤ j → j < length rows → peer_cmp (get_or rows j d).peer k.peer ≡ Greater) → insert rows i k ≡ with_row k rows
gap_put [] zero k l b a = refl
gap_put [] (suc i) k l b a = absurd (omega arith)
gap_put (r ∷ rows) zero k l b a = put_less k r rows (peer_cmp k.peer r.peer) (peer_flip r.peer k.peer (a zero r (omega arith) (omega arith)))
gap_put (r ∷ rows) (suc i) k l b a =
    put_greater k r rows (insert rows i k) (peer_cmp k.peer r.peer) (peer_flip_less r.peer k.peer (b zero r (omega arith)))
    (gap_put rows i k (omega arith) (λ j d m. b (suc j) d (omega arith)) (λ j d m n. a (suc j) d (omega arith) (omega arith)))

pub is_gap : (rows : List Known) (x : Peer) (i : ℕ) → i ≤ length rows → IsPartitionPoint (λ k. peer_cmp k.peer x ≡ Less) (λ k. peer_cmp k.peer x ≡ Greater) rows i → IsGapFor rows x i
is_gap rows x i l parts =
    let b : (j : ℕ) (d : Known) → j < i → peer_cmp (get_or rows j d).peer x ≡ Less = λ j d m. parts.0 j d (omega arith) m in
    let a : (j : ℕ) (d : Known) → i ≤ j → j < length rows → peer_cmp (get_or rows j d).peer x ≡ Greater = λ j d m n. parts.1 j d m n in
    record {
      within = l;
      none = gap_none rows x i b a;
      put = λ k p.
          gap_put rows i k l (λ j d m. ap (peer_cmp (get_or rows j d).peer) p ∙ b j d m) (λ j d m n. ap (peer_cmp (get_or rows j d).peer) p ∙ a j d m n);
    }

-- rows in order can be searched
sorted_step : (rows : List Known) (j : ℕ) (d : Known) → IsInOrder rows → suc j < length rows → peer_cmp (get_or rows (suc j) d).peer (get_or rows j d).peer ≡ Greater
sorted_step [] j d h l = absurd (omega arith)
sorted_step (r ∷ []) j d h l = absurd (omega arith)
sorted_step (r ∷ s ∷ rows) zero d h l = peer_flip_less r.peer s.peer h.0.0
sorted_step (r ∷ s ∷ rows) (suc j) d h l = sorted_step (s ∷ rows) j d h.1 (omega arith)

sorted_rows : (rows : List Known) → IsInOrder rows → IsSortedBy (λ a b. is_lt (peer_cmp a.peer b.peer)) rows
sorted_rows rows h = λ j d low high. rw (add-one) (ap is_lt (sorted_step rows j d h (omega arith)))

pub searchable : (rows : List Known) (x : Peer) → IsInOrder rows → IsNonDecreasingBy (λ k. ordering_index (peer_cmp k.peer x)) rows
searchable rows x h = searchable_from_sorted peer_order (λ (k : Known). k.peer) rows x (sorted_rows rows h)

pub found_by : (rows : List Known) (x : Peer) (r : Result ℕ ℕ) → IsInOrder rows → IsSearchInRange r (length rows) → IsBinarySearchResult (λ k. peer_cmp k.peer x) rows r → MatchResult r (IsRow rows x) (IsGapFor rows x)
found_by rows x (Ok i) h l e = is_row rows x i h l e
found_by rows x (Err i) h l e = is_gap rows x i l (e (searchable rows x h))
