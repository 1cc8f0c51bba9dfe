-- What a step of the loops that take lanes back does, from the last lane to the first.
use Rattle.std.proofs.Common.{◌≡◌, ℕ, zero, suc, ◌+◌, ◌<◌, List, [], ◌∷◌, ◌++◌, map, length, All, take, reverse, Option, Some, sym, subst, refl, ap, ◌∙◌, append_assoc, append-nil, length-append, arith}
use Rattle.std.proofs.lemmas.Option.{same_Some, none-some, slice_get_within, get_or_from_slice_get}
use Rattle.std.proofs.lemmas.List.Elements.{All-from_recursion, recursion_from_All}
use Rattle.std.proofs.lemmas.List.{reverse-append, length-map, map-append, same_from_push}
use Rattle.std.specs.Prelude.{slice_get}
use Rattle.std.specs.List.{AllByRecursion, cons_option}
use Rattle.m17_lists.proofs.Lengths.{same_cons}
use Rattle.m17_lane.specs.Ends.{PushEnd, PopEnd, TrailEnd, AreOf}
use Rattle.m17_lane.specs.Columns.{each_with, row_at, lanes_of, lanes_popped, IsGrid}
use Rattle.m17_lane.specs.Trails.{IsTrailOf, IsTrailOfOne, AreTrails, AreTrailsOfOnes}
use Rattle.m17_lane.proofs.Moves.{heads, tails, not_empty}

module _ {A : Type 0} where
  -- the item behind the first k, and those
  pub last_of_take : (k : ℕ) (col c : List A) (x : A) → k < length col → c ++ x ∷ [] ≡ take (suc k) col → (c ≡ take k col) × (slice_get col k ≡ Some x)
  last_of_take k [] c x lt e = absurd (omega arith)
  last_of_take zero (a ∷ rest_of) [] x lt e = (refl, ap (λ (y : A). Some y) (sym (heads x x a [] [] e)))
  last_of_take zero (a ∷ rest_of) (b ∷ bs) x lt e = absurd (
      let h : length (bs ++ x ∷ []) ≡ 0 = ap length (tails b a (bs ++ x ∷ []) [] e) in
      let g = length-append bs (x ∷ []) in omega arith)
  last_of_take (suc k) (a ∷ []) c x lt e = absurd (omega arith)
  last_of_take (suc k) (a ∷ b ∷ bs) [] x lt e = absurd (not_empty b (take k bs) (sym (tails x a [] (b ∷ take k bs) e)))
  last_of_take (suc k) (a ∷ b ∷ bs) (y ∷ c) x lt e =
      let front = heads x y a (c ++ x ∷ []) (b ∷ take k bs) e in
      let rest = last_of_take k (b ∷ bs) c x (omega arith) (tails y a (c ++ x ∷ []) (b ∷ take k bs) e) in
      (same_cons front rest.0, rest.1)

  pub row_more : (m : ℕ) (col : List A) (cols : List (List A)) (x : A) → slice_get col m ≡ Some x → row_at m (col ∷ cols) ≡ x ∷ row_at m cols
  row_more m col cols x e = ap (λ (o : Option A). cons_option o (row_at m cols)) e

  -- the columns were the first k + 1 of each; what left them is a row
  pub shrunk : (k : ℕ) (cols now : List (List A)) (row : List A) → AllByRecursion (λ col. k < length col) cols → length now ≡ length cols → length row ≡ length cols → map (take (suc k)) cols ≡ each_with now row → (now ≡ map (take k) cols) × (row ≡ row_at k cols)
  shrunk k [] [] [] long is row_is e = (refl, refl)
  shrunk k [] [] (x ∷ row) long is row_is e = absurd (omega arith)
  shrunk k [] (c ∷ now) row long is row_is e = absurd (omega arith)
  shrunk k (col ∷ cols) [] row long is row_is e = absurd (omega arith)
  shrunk k (col ∷ cols) (c ∷ now) [] long is row_is e = absurd (omega arith)
  shrunk k (col ∷ cols) (c ∷ now) (x ∷ row) long is row_is e =
      let first = last_of_take k col c x long.0 (sym (heads c (take (suc k) col) (c ++ x ∷ []) (map (take (suc k)) cols) (each_with now row) e)) in
      let rest = shrunk k cols now row long.1 (omega arith) (omega arith) (tails (take (suc k) col) (c ++ x ∷ []) (map (take (suc k)) cols) (each_with now row) e) in (
        same_cons first.0 rest.0,
        ap (λ (l : List A). x ∷ l) rest.1 ∙ sym (row_more k col cols x first.1),
      )

  pub take_whole : (cols : List (List A)) (n : ℕ) → AllByRecursion (λ col. length col ≡ n) cols → cols ≡ map (take n) cols
  take_whole [] n h = refl
  take_whole (col ∷ cols) n h = same_cons (whole col n h.0) (take_whole cols n h.1)
    where
      whole : (xs : List A) (m : ℕ) → length xs ≡ m → xs ≡ take m xs
      whole [] zero e = refl
      whole [] (suc m) e = refl
      whole (x ∷ xs) zero e = absurd (omega arith)
      whole (x ∷ xs) (suc m) e = ap (λ (l : List A). x ∷ l) (whole xs m (omega arith))

  -- columns that are cut to k + 1 items, of those that have them, are not empty
  pub some_left : (k : ℕ) (cols : List (List A)) → AllByRecursion (λ col. k < length col) cols → AllByRecursion (λ col. 0 < length col) (map (take (suc k)) cols)
  some_left k [] h = tt
  some_left k ([] ∷ cols) h = absurd (omega (arith, h.0))
  some_left k ((a ∷ rest_of) ∷ cols) h = (omega arith, some_left k cols h.1)

module _ {T : Type 0} where
  -- the end of this popper's lane
  pub lane_at : (col : List (PushEnd T)) (poppers : List (PopEnd T)) (k : ℕ) (p : PopEnd T) → lanes_of col ≡ lanes_popped poppers → slice_get poppers k ≡ Some p → (q : PushEnd T) × (slice_get col k ≡ Some q) × (q.lane ≡ p.lane)
  lane_at [] [] k p h e = absurd (none-some p e)
  lane_at [] (b ∷ ps) k p h e = absurd (not_empty b.lane (lanes_popped ps) (sym h))
  lane_at (a ∷ qs) [] k p h e = absurd (not_empty a.lane (lanes_of qs) h)
  lane_at (a ∷ qs) (b ∷ ps) zero p h e =
      (a, refl, heads a.lane a.lane b.lane (lanes_of qs) (lanes_popped ps) h ∙ ap (λ (r : PopEnd T). r.lane) (same_Some b p e))
  lane_at (a ∷ qs) (b ∷ ps) (suc k) p h e = lane_at qs ps k p (tails a.lane b.lane (lanes_of qs) (lanes_popped ps) h) e

  pub lane_of_row : (cols : List (List (PushEnd T))) (poppers : List (PopEnd T)) (k : ℕ) (p : PopEnd T) → AllByRecursion (λ col. lanes_of col ≡ lanes_popped poppers) cols → slice_get poppers k ≡ Some p → AreOf p.lane (row_at k cols) × (length (row_at k cols) ≡ length cols)
  lane_of_row [] poppers k p h e = (tt, refl)
  lane_of_row (col ∷ cols) poppers k p h e =
      let (q, at, is) = lane_at col poppers k p h.0 e in let rest = lane_of_row cols poppers k p h.1 e in
      subst (λ (row : List (PushEnd T)). AreOf p.lane row × (length row ≡ suc (length cols))) (sym (row_more k col cols q at))
      ((is, rest.0), ap suc rest.1)

  pub columns_long : (cols : List (List (PushEnd T))) (poppers : List (PopEnd T)) → AllByRecursion (λ col. lanes_of col ≡ lanes_popped poppers) cols → AllByRecursion (λ col. length col ≡ length poppers) cols
  columns_long [] poppers h = tt
  columns_long (col ∷ cols) poppers h =
      (sym (length-map col (λ (q : PushEnd T). q.lane)) ∙ ap length h.0 ∙ length-map poppers (λ (p : PopEnd T). p.lane), columns_long cols poppers h.1)

  pub longer_than : (cols : List (List (PushEnd T))) (n k : ℕ) → k < n → AllByRecursion (λ col. length col ≡ n) cols → AllByRecursion (λ col. k < length col) cols
  longer_than [] n k lt h = tt
  longer_than (col ∷ cols) n k lt h = (omega (arith, h.0), longer_than cols n k lt h.1)

  -- the last ends of a row of lanes of one producer are of one lane
  pub last_lane : (qs restq : List (PushEnd T)) (ps restp : List (PopEnd T)) (q : PushEnd T) (p : PopEnd T) → lanes_of qs ≡ lanes_popped ps → qs ≡ restq ++ q ∷ [] → ps ≡ restp ++ p ∷ [] → (lanes_of restq ≡ lanes_popped restp) × (q.lane ≡ p.lane)
  last_lane qs restq ps restp q p h isq isp = same_from_push (lanes_of restq) (lanes_popped restp) q.lane p.lane
      (sym (map-append (λ (x : PushEnd T). x.lane) restq (q ∷ [])) ∙ sym (ap lanes_of isq) ∙ h ∙ ap lanes_popped isp
      ∙ map-append (λ (x : PopEnd T). x.lane) restp (p ∷ []))

  -- the trails of the lanes from number k on
  abbrev pub TrailsFrom : List (List (PushEnd T)) → ℕ → List (PopEnd T) → List (TrailEnd T) → Type 0
  TrailsFrom cols k [] [] = Unit {0}
  TrailsFrom cols k [] (t ∷ ts) = ⊥
  TrailsFrom cols k (p ∷ ps) [] = ⊥
  TrailsFrom cols k (p ∷ ps) (t ∷ ts) = IsTrailOf (row_at k cols) p t × TrailsFrom cols (suc k) ps ts

  trails_count : (cols : List (List (PushEnd T))) (k : ℕ) (ps : List (PopEnd T)) (ts : List (TrailEnd T)) → TrailsFrom cols k ps ts → length ts ≡ length ps
  trails_count cols k [] [] h = refl
  trails_count cols k [] (t ∷ ts) h = absurd h
  trails_count cols k (p ∷ ps) [] h = absurd h
  trails_count cols k (p ∷ ps) (t ∷ ts) h = ap suc (trails_count cols (suc k) ps ts h.1)

  trails_at : (cols : List (List (PushEnd T))) (k : ℕ) (ps : List (PopEnd T)) (ts : List (TrailEnd T)) → TrailsFrom cols k ps ts → (m n : ℕ) (p : PopEnd T) (t : TrailEnd T) → n ≡ k + m → slice_get ps m ≡ Some p → slice_get ts m ≡ Some t → IsTrailOf (row_at n cols) p t
  trails_at cols k [] [] h m n p t is e d = absurd (none-some p e)
  trails_at cols k [] (u ∷ ts) h m n p t is e d = absurd h
  trails_at cols k (q ∷ ps) [] h m n p t is e d = absurd h
  trails_at cols k (q ∷ ps) (u ∷ ts) h zero n p t is e d =
      let same : k ≡ n = omega arith in let first = same_Some q p e in let second = same_Some u t d in
      subst (λ (j : ℕ). IsTrailOf (row_at j cols) p t) same
      (subst (λ (r : PopEnd T). IsTrailOf (row_at k cols) r t) first (subst (λ (v : TrailEnd T). IsTrailOf (row_at k cols) q v) second h.0))
  trails_at cols k (q ∷ ps) (u ∷ ts) h (suc m) n p t is e d = trails_at cols (suc k) ps ts h.1 m n p t (omega arith) e d

  pub trails_are : (cols : List (List (PushEnd T))) (ps : List (PopEnd T)) (ts : List (TrailEnd T)) → TrailsFrom cols 0 ps ts → AreTrails cols ps ts
  trails_are cols ps ts h = record {
    count = trails_count cols 0 ps ts h;
    each = λ m p t e d. trails_at cols 0 ps ts h m m p t (omega arith) e d;
  }

  -- so far the lanes behind the poppers that are left are taken back
  pub record Back (cols : List (List (PushEnd T))) (all left : List (PopEnd T)) (trails : List (TrailEnd T)) : Type 0 where
    pub done : List (PopEnd T)
    pub poppers : all ≡ left ++ done
    pub trail : TrailsFrom cols (length left) done (reverse trails)

  pub back_none : (cols : List (List (PushEnd T))) (all : List (PopEnd T)) (trails : List (TrailEnd T)) → trails ≡ [] → Back cols all all trails
  back_none cols all trails e = record {
    done = [];
    poppers = sym (append-nil all);
    trail = subst (λ (ts : List (TrailEnd T)). TrailsFrom cols (length all) [] (reverse ts)) (sym e) tt;
  }

  pub back_more : (cols : List (List (PushEnd T))) (all left rest : List (PopEnd T)) (p : PopEnd T) (trails more : List (TrailEnd T)) (t : TrailEnd T) → Back cols all left trails → left ≡ rest ++ p ∷ [] → more ≡ trails ++ t ∷ [] → IsTrailOf (row_at (length rest) cols) p t → Back cols all rest more
  back_more cols all left rest p trails more t h is came trail = record {
    done = p ∷ h.done;
    poppers = h.poppers ∙ ap (λ (l : List (PopEnd T)). l ++ h.done) is ∙ append_assoc rest (p ∷ []) h.done;
    trail = (
        let long : length left ≡ suc (length rest) = (let e = ap length is ∙ length-append rest (p ∷ []) in omega arith) in
        let order : t ∷ reverse trails ≡ reverse more = sym (ap reverse came ∙ reverse-append trails (t ∷ [])) in
        subst (λ (ts : List (TrailEnd T)). TrailsFrom cols (length rest) (p ∷ h.done) ts) order
        (trail, subst (λ (j : ℕ). TrailsFrom cols j h.done (reverse trails)) long h.trail)
        );
  }

  pub back_all : (cols : List (List (PushEnd T))) (all left : List (PopEnd T)) (trails : List (TrailEnd T)) → Back cols all left trails → left ≡ [] → AreTrails cols all (reverse trails)
  back_all cols all left trails h none =
      let same : h.done ≡ all = sym (h.poppers ∙ ap (λ (l : List (PopEnd T)). l ++ h.done) none) in
      trails_are cols all (reverse trails)
      (subst (λ (ps : List (PopEnd T)). TrailsFrom cols 0 ps (reverse trails)) same
      (subst (λ (l : List (PopEnd T)). TrailsFrom cols (length l) h.done (reverse trails)) none h.trail))

  -- the popper that is taken now stands in the list of all at its place
  at_end_of : (rest : List (PopEnd T)) (p : PopEnd T) (done : List (PopEnd T)) → slice_get ((rest ++ p ∷ []) ++ done) (length rest) ≡ Some p
  at_end_of [] p done = refl
  at_end_of (q ∷ rest) p done = at_end_of rest p done

  pub popper_at : (cols : List (List (PushEnd T))) (all left rest : List (PopEnd T)) (p : PopEnd T) (trails : List (TrailEnd T)) → Back cols all left trails → left ≡ rest ++ p ∷ [] → slice_get all (length rest) ≡ Some p
  popper_at cols all left rest p trails h is =
      ap (λ (l : List (PopEnd T)). slice_get l (length rest)) (h.poppers ∙ ap (λ (l : List (PopEnd T)). l ++ h.done) is)
      ∙ at_end_of rest p h.done

  -- what the row is that leaves the columns with the last popper
  pub record Taking (cols now : List (List (PushEnd T))) (rest : List (PopEnd T)) (p : PopEnd T) (row : List (PushEnd T)) : Type 0 where
    pub columns : now ≡ map (take (length rest)) cols
    pub row_is : row ≡ row_at (length rest) cols
    pub lane : AreOf p.lane row
    pub count : length row ≡ p.producers

  pub all_long : (cols : List (List (PushEnd T))) (all : List (PopEnd T)) → IsGrid cols all → AllByRecursion (λ col. length col ≡ length all) cols
  all_long cols all grid = columns_long cols all (recursion_from_All (λ col. lanes_of col ≡ lanes_popped all) cols grid.lanes)

  pub longer_rest : (cols : List (List (PushEnd T))) (all left rest : List (PopEnd T)) (p : PopEnd T) (trails : List (TrailEnd T)) → IsGrid cols all → Back cols all left trails → left ≡ rest ++ p ∷ [] → AllByRecursion (λ col. length rest < length col) cols
  longer_rest cols all left rest p trails grid h is =
      longer_than cols (length all) (length rest) (slice_get_within all (length rest) p (popper_at cols all left rest p trails h is)) (all_long cols all grid)

  one_longer : (left rest : List (PopEnd T)) (p : PopEnd T) → left ≡ rest ++ p ∷ [] → length left ≡ suc (length rest)
  one_longer left rest p is = let e = ap length is ∙ length-append rest (p ∷ []) in omega arith

  pub taking : (cols was now : List (List (PushEnd T))) (all left rest : List (PopEnd T)) (p : PopEnd T) (trails : List (TrailEnd T)) (row : List (PushEnd T)) → IsGrid cols all → Back cols all left trails → left ≡ rest ++ p ∷ [] → was ≡ map (take (length left)) cols → was ≡ each_with now row → length now ≡ length cols → length row ≡ length cols → Taking cols now rest p row
  taking cols was now all left rest p trails row grid h is before left_row long row_long =
      let at = popper_at cols all left rest p trails h is in
      let cut : map (take (suc (length rest))) cols ≡ each_with now row =
      ap (λ (n : ℕ). map (take n) cols) (sym (one_longer left rest p is)) ∙ sym before ∙ left_row in
      let parts = shrunk (length rest) cols now row (longer_rest cols all left rest p trails grid h is) long row_long cut in
      let lanes = lane_of_row cols all (length rest) p (recursion_from_All (λ col. lanes_of col ≡ lanes_popped all) cols grid.lanes) at in
      let made = grid.producers (length rest) p (slice_get_within all (length rest) p at) in
      let there = get_or_from_slice_get all (length rest) p p at in
      record {
        columns = parts.0;
        row_is = parts.1;
        lane = subst (λ (r : List (PushEnd T)). AreOf p.lane r) (sym parts.1) lanes.0;
        count = row_long ∙ sym (sym (ap (λ (r : PopEnd T). r.producers) there) ∙ made);
      }

  -- no column is empty while a popper is left
  pub some_ends : {V : Type 0} (items : V → List (PushEnd T)) (size : V → ℕ) → ((v : V) → size v ≡ length (items v)) → (vs : List V) (cols : List (List (PushEnd T))) (all left rest : List (PopEnd T)) (p : PopEnd T) (trails : List (TrailEnd T)) → IsGrid cols all → Back cols all left trails → left ≡ rest ++ p ∷ [] → map items vs ≡ map (take (length left)) cols → All (λ v. 0 < size v) vs
  some_ends {V} items size sized vs cols all left rest p trails grid h is before =
      let ends = some_left (length rest) cols (longer_rest cols all left rest p trails grid h is) in
      let cut : map (take (suc (length rest))) cols ≡ map items vs = ap (λ (n : ℕ). map (take n) cols) (sym (one_longer left rest p is)) ∙ sym before in
      All-from_recursion (λ v. 0 < size v) vs (each vs (subst (λ (cs : List (List (PushEnd T))). AllByRecursion (λ col. 0 < length col) cs) cut ends))
    where
      each : (us : List V) → AllByRecursion (λ (col : List (PushEnd T)). 0 < length col) (map items us) → AllByRecursion (λ v. 0 < size v) us
      each [] a = tt
      each (u ∷ us) a = (omega (arith, a.0, sized u), each us a.1)

  -- the same of lanes of one producer
  abbrev pub OnesFrom : List (PushEnd T) → List (PopEnd T) → List (TrailEnd T) → Type 0
  OnesFrom [] [] [] = Unit {0}
  OnesFrom (q ∷ qs) (p ∷ ps) (t ∷ ts) = IsTrailOfOne q p t × OnesFrom qs ps ts
  OnesFrom qs ps ts = ⊥

  pub record OnesBack (allq leftq : List (PushEnd T)) (allp leftp : List (PopEnd T)) (trails : List (TrailEnd T)) : Type 0 where
    pub doneq : List (PushEnd T)
    pub donep : List (PopEnd T)
    pub pushers : allq ≡ leftq ++ doneq
    pub poppers : allp ≡ leftp ++ donep
    pub trail : OnesFrom doneq donep (reverse trails)

  pub ones_none : (allq : List (PushEnd T)) (allp : List (PopEnd T)) (trails : List (TrailEnd T)) → trails ≡ [] → OnesBack allq allq allp allp trails
  ones_none allq allp trails e = record {
    doneq = [];
    donep = [];
    pushers = sym (append-nil allq);
    poppers = sym (append-nil allp);
    trail = subst (λ (ts : List (TrailEnd T)). OnesFrom [] [] (reverse ts)) (sym e) tt;
  }

  pub ones_more : (allq leftq restq : List (PushEnd T)) (allp leftp restp : List (PopEnd T)) (trails more : List (TrailEnd T)) (q : PushEnd T) (p : PopEnd T) (t : TrailEnd T) → OnesBack allq leftq allp leftp trails → leftq ≡ restq ++ q ∷ [] → leftp ≡ restp ++ p ∷ [] → more ≡ trails ++ t ∷ [] → IsTrailOfOne q p t → OnesBack allq restq allp restp more
  ones_more allq leftq restq allp leftp restp trails more q p t h isq isp came trail = record {
    doneq = q ∷ h.doneq;
    donep = p ∷ h.donep;
    pushers = h.pushers ∙ ap (λ (l : List (PushEnd T)). l ++ h.doneq) isq ∙ append_assoc restq (q ∷ []) h.doneq;
    poppers = h.poppers ∙ ap (λ (l : List (PopEnd T)). l ++ h.donep) isp ∙ append_assoc restp (p ∷ []) h.donep;
    trail = subst (λ (ts : List (TrailEnd T)). OnesFrom (q ∷ h.doneq) (p ∷ h.donep) ts)
        (sym (ap reverse came ∙ reverse-append trails (t ∷ []))) (trail, h.trail);
  }

  ones_count : (qs : List (PushEnd T)) (ps : List (PopEnd T)) (ts : List (TrailEnd T)) → OnesFrom qs ps ts → length ts ≡ length ps
  ones_count [] [] [] h = refl
  ones_count [] [] (t ∷ ts) h = absurd h
  ones_count [] (p ∷ ps) [] h = absurd h
  ones_count [] (p ∷ ps) (t ∷ ts) h = absurd h
  ones_count (q ∷ qs) [] [] h = absurd h
  ones_count (q ∷ qs) [] (t ∷ ts) h = absurd h
  ones_count (q ∷ qs) (p ∷ ps) [] h = absurd h
  ones_count (q ∷ qs) (p ∷ ps) (t ∷ ts) h = ap suc (ones_count qs ps ts h.1)

  ones_at : (qs : List (PushEnd T)) (ps : List (PopEnd T)) (ts : List (TrailEnd T)) → OnesFrom qs ps ts → (m : ℕ) (q : PushEnd T) (p : PopEnd T) (t : TrailEnd T) → slice_get qs m ≡ Some q → slice_get ps m ≡ Some p → slice_get ts m ≡ Some t → IsTrailOfOne q p t
  ones_at [] [] [] h m q p t e d f = absurd (none-some q e)
  ones_at [] [] (u ∷ ts) h m q p t e d f = absurd h
  ones_at [] (b ∷ ps) [] h m q p t e d f = absurd h
  ones_at [] (b ∷ ps) (u ∷ ts) h m q p t e d f = absurd h
  ones_at (a ∷ qs) [] [] h m q p t e d f = absurd h
  ones_at (a ∷ qs) [] (u ∷ ts) h m q p t e d f = absurd h
  ones_at (a ∷ qs) (b ∷ ps) [] h m q p t e d f = absurd h
  ones_at (a ∷ qs) (b ∷ ps) (u ∷ ts) h zero q p t e d f =
      let first = same_Some a q e in let second = same_Some b p d in let third = same_Some u t f in
      subst (λ (x : PushEnd T). IsTrailOfOne x p t) first
      (subst (λ (y : PopEnd T). IsTrailOfOne a y t) second (subst (λ (z : TrailEnd T). IsTrailOfOne a b z) third h.0))
  ones_at (a ∷ qs) (b ∷ ps) (u ∷ ts) h (suc m) q p t e d f = ones_at qs ps ts h.1 m q p t e d f

  pub ones_all : (allq leftq : List (PushEnd T)) (allp leftp : List (PopEnd T)) (trails : List (TrailEnd T)) → OnesBack allq leftq allp leftp trails → leftq ≡ [] → leftp ≡ [] → AreTrailsOfOnes allq allp (reverse trails)
  ones_all allq leftq allp leftp trails h noq nop =
      let sameq : h.doneq ≡ allq = sym (h.pushers ∙ ap (λ (l : List (PushEnd T)). l ++ h.doneq) noq) in
      let samep : h.donep ≡ allp = sym (h.poppers ∙ ap (λ (l : List (PopEnd T)). l ++ h.donep) nop) in
      let whole = subst (λ (qs : List (PushEnd T)). OnesFrom qs allp (reverse trails)) sameq
      (subst (λ (ps : List (PopEnd T)). OnesFrom h.doneq ps (reverse trails)) samep h.trail) in
      record { count = ones_count allq allp (reverse trails) whole; each = ones_at allq allp (reverse trails) whole }
