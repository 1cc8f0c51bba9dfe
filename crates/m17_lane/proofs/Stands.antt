-- How a grid comes to be and stays one, and what its rows are.
use Rattle.std.proofs.Common.{◌≡◌, ℕ, zero, suc, ◌+◌, ◌<◌, List, [], ◌∷◌, ◌++◌, map, length, All, Option, Some, sym, subst, refl, ap, ◌∙◌, length-append, arith}
use Rattle.std.proofs.lemmas.Option.{same_Some, none-some}
use Rattle.std.proofs.lemmas.List.{map-append}
use Rattle.std.proofs.lemmas.List.Elements.{All-push, All-replicate, All-from_recursion, recursion_from_All}
use Rattle.std.specs.Prelude.{slice_get}
use Rattle.std.specs.List.{AllZip, AllByRecursion, cons_option, range_with_len}
use Rattle.m17_lists.proofs.Places.{each_place_has_one}
use Rattle.m17_lane.specs.Ends.{PushEnd, PopEnd, AreOf, logs_of, new_pushers, new_pusher}
use Rattle.m17_lane.specs.Rows.{pushes, push_each, as_new, as_new_popper, IsSameRow, IsSamePopRow}
use Rattle.m17_lane.specs.Columns.{each_with, row_at, push_grid, lanes_of, lanes_popped, IsGrid}
use Rattle.m17_lane.specs.GridLaws.{GridsStand, RowsStand}
use Rattle.m17_lane.proofs.Moves.{heads, tails, not_empty}
use Rattle.m17_lane.proofs.Returns.{row_more}

module _ {A : Type 0} where
  pub each_count : (cols : List (List A)) (row : List A) → length row ≡ length cols → length (each_with cols row) ≡ length cols
  each_count [] row e = refl
  each_count (c ∷ cols) [] e = absurd (omega arith)
  each_count (c ∷ cols) (x ∷ row) e = ap suc (each_count cols row (omega arith))

  at_end : (c : List A) (x : A) (m : ℕ) → length c ≡ m → slice_get (c ++ x ∷ []) m ≡ Some x
  at_end [] x zero e = refl
  at_end [] x (suc m) e = absurd (omega arith)
  at_end (y ∷ c) x zero e = absurd (omega arith)
  at_end (y ∷ c) x (suc m) e = at_end c x m (omega arith)

  inside : (c : List A) (x : A) (m : ℕ) → m < length c → slice_get (c ++ x ∷ []) m ≡ slice_get c m
  inside [] x m lt = absurd (omega arith)
  inside (y ∷ c) x zero lt = refl
  inside (y ∷ c) x (suc m) lt = inside c x m (omega arith)

  pub last_row : (cols : List (List A)) (row : List A) (m : ℕ) → AllByRecursion (λ c. length c ≡ m) cols → length row ≡ length cols → row_at m (each_with cols row) ≡ row
  last_row [] [] m h e = refl
  last_row [] (x ∷ row) m h e = absurd (omega arith)
  last_row (c ∷ cols) [] m h e = absurd (omega arith)
  last_row (c ∷ cols) (x ∷ row) m h e =
      row_more m (c ++ x ∷ []) (each_with cols row) x (at_end c x m h.0) ∙ ap (λ (l : List A). x ∷ l) (last_row cols row m h.1 (omega arith))

  pub other_rows : (cols : List (List A)) (row : List A) (m : ℕ) → AllByRecursion (λ c. m < length c) cols → length row ≡ length cols → row_at m (each_with cols row) ≡ row_at m cols
  other_rows [] row m h e = refl
  other_rows (c ∷ cols) [] m h e = absurd (omega arith)
  other_rows (c ∷ cols) (x ∷ row) m h e =
      ap (λ (o : Option A). cons_option o (row_at m (each_with cols row))) (inside c x m h.0)
      ∙ ap (λ (l : List A). cons_option (slice_get c m) l) (other_rows cols row m h.1 (omega arith))

  row_count : (cols : List (List A)) (m : ℕ) → AllByRecursion (λ c. m < length c) cols → length (row_at m cols) ≡ length cols
  row_count [] m h = refl
  row_count (c ∷ cols) m h = let (x, at) = each_place_has_one c m h.0 in ap length (row_more m c cols x at) ∙ ap suc (row_count cols m h.1)

module _ {T : Type 0} where
  lanes_dealt : (cols : List (List (PushEnd T))) (poppers : List (PopEnd T)) (row : List (PushEnd T)) (p : PopEnd T) → AllByRecursion (λ c. lanes_of c ≡ lanes_popped poppers) cols → AreOf p.lane row → length row ≡ length cols → AllByRecursion (λ c. lanes_of c ≡ lanes_popped (poppers ++ p ∷ [])) (each_with cols row)
  lanes_dealt [] poppers row p h of e = tt
  lanes_dealt (c ∷ cols) poppers [] p h of e = absurd (omega arith)
  lanes_dealt (c ∷ cols) poppers (q ∷ row) p h of e = (
    map-append (λ (x : PushEnd T). x.lane) c (q ∷ []) ∙ (λ i. h.0 i ++ of.0 i ∷ []) ∙ sym (map-append (λ (x : PopEnd T). x.lane) poppers (p ∷ [])),
    lanes_dealt cols poppers row p h.1 of.1 (omega arith),
  )

  pub dealt : (cols : List (List (PushEnd T))) (poppers : List (PopEnd T)) (row : List (PushEnd T)) (p : PopEnd T) → IsGrid cols poppers → AreOf p.lane row → length row ≡ length cols → p.producers ≡ length cols → IsGrid (each_with cols row) (poppers ++ p ∷ [])
  dealt cols poppers row p h of count made = record {
    lanes = All-from_recursion (λ c. lanes_of c ≡ lanes_popped (poppers ++ p ∷ [])) (each_with cols row)
        (lanes_dealt cols poppers row p (recursion_from_All (λ c. lanes_of c ≡ lanes_popped poppers) cols h.lanes) of count);
    producers = subst (λ (n : ℕ). All (λ (q : PopEnd T). q.producers ≡ n) (poppers ++ p ∷ [])) (sym (each_count cols row count))
        (All-push (λ (q : PopEnd T). q.producers ≡ length cols) poppers p h.producers made);
  }

  bare_lanes : (qs : List (PushEnd T)) → lanes_of (map as_new qs) ≡ lanes_of qs
  bare_lanes [] = refl
  bare_lanes (q ∷ qs) = ap (λ l. q.lane ∷ l) (bare_lanes qs)

  same_lanes : (qs rs : List (PushEnd T)) → IsSameRow qs rs → lanes_of rs ≡ lanes_of qs
  same_lanes qs rs h = sym (bare_lanes rs) ∙ ap lanes_of h ∙ bare_lanes qs

  bare_popped : (ps : List (PopEnd T)) → lanes_popped (map as_new_popper ps) ≡ lanes_popped ps
  bare_popped [] = refl
  bare_popped (p ∷ ps) = ap (λ l. p.lane ∷ l) (bare_popped ps)

  same_popped : (ps rs : List (PopEnd T)) → IsSamePopRow ps rs → lanes_popped rs ≡ lanes_popped ps
  same_popped ps rs h = sym (bare_popped rs) ∙ ap lanes_popped h ∙ bare_popped ps

  lanes_stay : (cols cols' : List (List (PushEnd T))) (ps ps' : List (PopEnd T)) → AllZip IsSameRow cols cols' → lanes_popped ps' ≡ lanes_popped ps → AllByRecursion (λ c. lanes_of c ≡ lanes_popped ps) cols → AllByRecursion (λ c. lanes_of c ≡ lanes_popped ps') cols'
  lanes_stay [] [] ps ps' z e h = tt
  lanes_stay [] (c' ∷ cols') ps ps' z e h = absurd z
  lanes_stay (c ∷ cols) [] ps ps' z e h = absurd z
  lanes_stay (c ∷ cols) (c' ∷ cols') ps ps' z e h = (same_lanes c c' z.0 ∙ h.0 ∙ sym e, lanes_stay cols cols' ps ps' z.1 e h.1)

  made_stay : (n : ℕ) (ps ps' : List (PopEnd T)) → IsSamePopRow ps ps' → AllByRecursion (λ (p : PopEnd T). p.producers ≡ n) ps → AllByRecursion (λ (p : PopEnd T). p.producers ≡ n) ps'
  made_stay n [] [] e h = tt
  made_stay n [] (p' ∷ ps') e h = absurd (not_empty (as_new_popper p') (map as_new_popper ps') e)
  made_stay n (p ∷ ps) [] e h = absurd (not_empty (as_new_popper p) (map as_new_popper ps) (sym e))
  made_stay n (p ∷ ps) (p' ∷ ps') e h = (
    ap (λ (q : PopEnd T). q.producers) (heads (as_new_popper p) (as_new_popper p') (as_new_popper p) (map as_new_popper ps') (map as_new_popper ps) e) ∙ h.0,
    made_stay n ps ps' (tails (as_new_popper p') (as_new_popper p) (map as_new_popper ps') (map as_new_popper ps) e) h.1,
  )

  zip_long : (cols cols' : List (List (PushEnd T))) → AllZip IsSameRow cols cols' → length cols' ≡ length cols
  zip_long [] [] z = refl
  zip_long [] (c' ∷ cols') z = absurd z
  zip_long (c ∷ cols) [] z = absurd z
  zip_long (c ∷ cols) (c' ∷ cols') z = ap suc (zip_long cols cols' z.1)

  stays : (cols cols' : List (List (PushEnd T))) (ps ps' : List (PopEnd T)) → AllZip IsSameRow cols cols' → IsSamePopRow ps ps' → IsGrid cols ps → IsGrid cols' ps'
  stays cols cols' ps ps' z e h = record {
    lanes = All-from_recursion (λ c. lanes_of c ≡ lanes_popped ps') cols'
        (lanes_stay cols cols' ps ps' z (same_popped ps ps' e) (recursion_from_All (λ c. lanes_of c ≡ lanes_popped ps) cols h.lanes));
    producers = subst (λ (n : ℕ). All (λ (q : PopEnd T). q.producers ≡ n) ps') (sym (zip_long cols cols' z))
        (All-from_recursion (λ (q : PopEnd T). q.producers ≡ length cols) ps'
        (made_stay (length cols) ps ps' e (recursion_from_All (λ (q : PopEnd T). q.producers ≡ length cols) ps h.producers)));
  }

  row_same : (f : ℕ → List T) (k : ℕ) (qs : List (PushEnd T)) → map as_new (push_each f k qs) ≡ map as_new qs
  row_same f k [] = refl
  row_same f k (q ∷ qs) = ap (λ (l : List (PushEnd T)). as_new q ∷ l) (row_same f (suc k) qs)

  pushed : (f : ℕ → ℕ → List T) (k : ℕ) (cols : List (List (PushEnd T))) → AllZip IsSameRow cols (push_grid f k cols)
  pushed f k [] = tt
  pushed f k (c ∷ cols) = (row_same (f k) 0 c, pushed f (suc k) cols)

  by_column : (f : ℕ → ℕ → List T) (k : ℕ) (cols cols' : List (List (PushEnd T))) → length cols' ≡ length cols → ((i j : ℕ) (c c' : List (PushEnd T)) → j ≡ k + i → slice_get cols i ≡ Some c → slice_get cols' i ≡ Some c' → c' ≡ push_each (f j) 0 c) → cols' ≡ push_grid f k cols
  by_column f k [] [] long h = refl
  by_column f k [] (c' ∷ cols') long h = absurd (omega arith)
  by_column f k (c ∷ cols) [] long h = absurd (omega arith)
  by_column f k (c ∷ cols) (c' ∷ cols') long h =
      let first = h 0 k c c' (omega arith) refl refl in
      let rest = by_column f (suc k) cols cols' (omega arith) (λ i j a b is e d. h (suc i) j a b (omega arith) e d) in λ i. first i ∷ rest i

  end_pushed : (f : ℕ → List T) (k : ℕ) (qs : List (PushEnd T)) (m n : ℕ) (q : PushEnd T) → n ≡ k + m → slice_get qs m ≡ Some q → slice_get (push_each f k qs) m ≡ Some (pushes q (f n))
  end_pushed f k [] m n q is e = absurd (none-some q e)
  end_pushed f k (r ∷ qs) zero n q is e =
      let at : k ≡ n = omega arith in let same = same_Some r q e in λ i. Some (pushes (same i) (f (at i)))
  end_pushed f k (r ∷ qs) (suc m) n q is e = end_pushed f (suc k) qs m n q (omega arith) e

  row_pushed : (f : ℕ → ℕ → List T) (k : ℕ) (cols : List (List (PushEnd T))) (m : ℕ) → AllByRecursion (λ c. m < length c) cols → row_at m (push_grid f k cols) ≡ push_each (λ i. f i m) k (row_at m cols)
  row_pushed f k [] m h = refl
  row_pushed f k (c ∷ cols) m h =
      let (q, at) = each_place_has_one c m h.0 in
      row_more m (push_each (f k) 0 c) (push_grid f (suc k) cols) (pushes q (f k m)) (end_pushed (f k) 0 c m m q (omega arith) at)
      ∙ ap (λ (l : List (PushEnd T)). pushes q (f k m) ∷ l) (row_pushed f (suc k) cols m h.1)
      ∙ sym (ap (λ (l : List (PushEnd T)). push_each (λ i. f i m) k l) (row_more m c cols q at))

  -- the logs of pushers numbered from k on, of which nothing was pushed before
  abbrev pub New : ℕ → List (PushEnd T) → Type 0
  New k [] = Unit {0}
  New k (q ∷ qs) = (q.number ≡ k) × (q.pushed ≡ []) × New (suc k) qs

  new_snoc : (k m : ℕ) (qs : List (PushEnd T)) (q : PushEnd T) → New k qs → m ≡ k + length qs → q.number ≡ m → q.pushed ≡ [] → New k (qs ++ q ∷ [])
  new_snoc k m [] q h is number none = (let a : m ≡ k = omega arith in number ∙ a, none, tt)
  new_snoc k m (r ∷ qs) q h is number none = (h.0, h.1, new_snoc (suc k) m qs q h.2 (omega arith) number none)

  pub new_count : (p : PopEnd T) (n : ℕ) → length (new_pushers p n) ≡ n
  new_count p zero = refl
  new_count p (suc n) = let e = length-append (new_pushers p n) (new_pusher p n ∷ []) in let ih = new_count p n in omega arith

  pub are_new : (p : PopEnd T) (n : ℕ) → New 0 (new_pushers p n)
  are_new p zero = tt
  are_new p (suc n) = let long = new_count p n in new_snoc 0 n (new_pushers p n) (new_pusher p n) (are_new p n) (omega arith) refl refl

  logs_from : (f : ℕ → List T) (k : ℕ) (qs : List (PushEnd T)) (n : ℕ) → New k qs → length qs ≡ n → logs_of (push_each f k qs) ≡ map (λ i. (i, f i)) (range_with_len k n)
  logs_from f k [] zero h e = refl
  logs_from f k [] (suc n) h e = absurd (omega arith)
  logs_from f k (q ∷ qs) zero h e = absurd (omega arith)
  logs_from f k (q ∷ qs) (suc n) h e =
      let next : suc k ≡ k + 1 = omega arith in
      let rest : logs_of (push_each f (suc k) qs) ≡ map (λ i. (i, f i)) (range_with_len (k + 1) n) =
      logs_from f (suc k) qs n h.2 (omega arith) ∙ ap (λ (j : ℕ). map (λ (i : ℕ). (i, f i)) (range_with_len j n)) next in
      let number = h.0 in let none = h.1 in λ i. (number i, none i ++ f k) ∷ rest i

  pub grids : GridsStand T
  grids = record {
    empty = λ n. record {
      lanes = All-replicate (λ (c : List (PushEnd T)). lanes_of c ≡ []) n [] refl;
      producers = λ k d lt. absurd (omega arith);
    };
    dealt = dealt;
    stays = stays;
    pushed = pushed;
    by_column = λ f cols cols' long h. by_column f 0 cols cols' long (λ i j c c' is e d. let at : i ≡ j = omega arith in h i c c' e d ∙ ap (λ (n : ℕ). push_each (f n) 0 c) at);
  }

  pub rows : RowsStand T
  rows = record {
    last = λ cols row m h e. last_row cols row m (recursion_from_All (λ c. length c ≡ m) cols h) e;
    others = λ cols row m h e. other_rows cols row m (recursion_from_All (λ c. m < length c) cols h) e;
    pushed = λ f cols m h. row_pushed f 0 cols m (recursion_from_All (λ c. m < length c) cols h);
    count = λ cols m h. row_count cols m (recursion_from_All (λ c. m < length c) cols h);
    logs = λ f p n. logs_from f 0 (new_pushers p n) n (are_new p n) (new_count p n);
  }
