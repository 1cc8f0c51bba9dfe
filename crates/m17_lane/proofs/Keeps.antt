-- Each step of a lane keeps its rule, and what a pass learns from the rule. Stated for views in their own form, and then for
-- the view that a function has.
use Rattle.std.proofs.Common.{◌≡◌, ◌≢◌, ◌==◌, ℕ, zero, suc, ◌+◌, ◌-◌, ◌^◌, ◌<◌, ◌≤◌, inl, inr, true≢false, cond, List, [], ◌∷◌, ◌++◌, length, set, subst, sym, refl, ap, ◌∙◌, append_assoc, length-append, eq-eqb, ne_eqb, arith}
use mathlib.Core.Option.{some, some-injective, some-ne-none}
use native.Mathlib.Decide.{ℕ_discrete}
use lib.ListN.{get_elem?}
use Rattle.crossbeam_queue.specs.Fifo.{Pushes, Pops, Forks, Merges, Learns}
use Rattle.crossbeam_queue.proofs.Lists.{at_last, set_here, set_else}
use Rattle.m17_lane.specs.declared.rule.Hand.{Hand}
use Rattle.m17_lane.specs.Orders.{items_of, part, EachLog, HasLog, IsWhole}
use Rattle.m17_lane.specs.Rule.{longer, pusher, popper, idle, first_number, first_log, first_refused, IsPusher, IsPopper, put_in, got_by, refuse, declared_by, hired_by, joined_to, Fits, AllFit, IsLane}
use Rattle.m17_lane.proofs.Lists.{below, no_more, prefix_self, prefix_more, longer_begins, longer_left, longer_right, items_snoc, part_snoc_same, part_snoc_other, from_snoc, from_wider, part_above, part_only, logs_map, logs_append, has_append, apart_append, log_at, all_known}
use Rattle.m17_lane.proofs.Views.{parts_set, parts_snoc, parts_two, each_set, each_snoc, same_at, covers_set, last_set, covers_snoc, last_snoc}

-- producer m sits at one pass more
abbrev with_next : (ℕ → ℕ) → ℕ → ℕ → ℕ → ℕ
with_next seat m pass q = cond (q == m) pass (seat q)

next_here : (seat : ℕ → ℕ) (m pass q : ℕ) → q ≡ m → with_next seat m pass q ≡ pass
next_here seat m pass q is = ap (λ b. cond b pass (seat q)) (eq-eqb q m is)

next_else : (seat : ℕ → ℕ) (m pass q : ℕ) → q ≢ m → with_next seat m pass q ≡ seat q
next_else seat m pass q isnt = ap (λ b. cond b pass (seat q)) (ne_eqb q m isnt)

-- the producers of one pass sit at another
abbrev moved_to : ℕ → ℕ → (ℕ → ℕ) → ℕ → ℕ
moved_to other pass seat p = cond (seat p == other) pass (seat p)

moved_same : (other pass : ℕ) (seat : ℕ → ℕ) (p : ℕ) → seat p ≡ other → moved_to other pass seat p ≡ pass
moved_same other pass seat p is = ap (λ b. cond b pass (seat p)) (eq-eqb (seat p) other is)

moved_else : (other pass : ℕ) (seat : ℕ → ℕ) (p : ℕ) → seat p ≢ other → moved_to other pass seat p ≡ seat p
moved_else other pass seat p isnt = ap (λ b. cond b pass (seat p)) (ne_eqb (seat p) other isnt)

module _ {T : Type 0} where
  abbrev Rule : List T → List (Hand T) → Type 0
  Rule items views = IsLane items views

  -- a pass that is idle fits anywhere
  idle_fits : (order : List (ℕ × T)) (got : List T) (seat : ℕ → ℕ) (reader producers made pass : ℕ) → Fits order got seat reader producers made pass idle
  idle_fits order got seat reader producers made pass = record {
    logs = tt;
    reads = λ e. absurd (true≢false (sym e));
    knows = λ lt. absurd (omega arith);
    idles = λ _. (refl, refl);
    begins = (order, refl);
    apart = tt;
  }

  first_fits : (pass : ℕ) (v : Hand T) → get_elem? (popper (2 ^ 32) 0 0 [] [] [] [] ∷ []) pass ≡ some v → Fits [] [] (λ _. 0) 0 0 0 pass v
  first_fits zero v e = subst (λ (u : Hand T). Fits [] [] (λ _. 0) 0 0 0 0 u) (some-injective (popper (2 ^ 32) 0 0 [] [] [] []) v e)
      (record { logs = tt; reads = λ _. (refl, refl, refl); knows = λ _. refl; idles = λ _. (refl, refl); begins = ([], refl); apart = tt })
  first_fits (suc n) v e = absurd (some-ne-none v (sym e))

  pub first : IsLane {T = T} [] (popper (2 ^ 32) 0 0 [] [] [] [] ∷ [])
  first = record {
    order = [];
    got = [];
    seat = λ _. 0;
    reader = 0;
    producers = 0;
    made = 0;
    queued = refl;
    shared = omega arith;
    within = omega arith;
    from = tt;
    covered = λ p lt. absurd (omega arith);
    last = (0, popper (2 ^ 32) 0 0 [] [] [] [], refl, refl);
    fits = first_fits;
  }

  push : (n pass producers p : ℕ) (put : List T) (seen : List (ℕ × T)) (refused : List T) (x : T) → Pushes Rule n pass (pusher producers p put seen refused) x (λ w. w ≡ pusher producers p (put ++ x ∷ []) w.seen refused)
  push n pass producers p put seen refused x items views room h at =
      let order : List (ℕ × T) = h.order ++ (p, x) ∷ [] in
      let v : Hand T = pusher producers p put seen refused in
      let w : Hand T = pusher producers p (put ++ x ∷ []) order refused in
      let mine = h.fits pass v at in let log = mine.logs.0 in (
        w,
        record {
          order = order;
          got = h.got;
          seat = h.seat;
          reader = h.reader;
          producers = h.producers;
          made = h.made;
          queued = items_snoc h.order p x ∙ ap (λ l. l ++ x ∷ []) h.queued ∙ append_assoc h.got items (x ∷ []);
          shared = (let s = parts_set views pass v w at in let t = h.shared in omega arith);
          within = h.within;
          from = from_snoc h.made h.order p x h.from log.2;
          covered = covers_set h.seat h.made views pass v w at (λ q has. has) h.covered;
          last = (pass, w, set_here views pass w (below views pass v at), refl);
          fits = each_set (Fits order h.got h.seat h.reader h.producers h.made) views pass w
              (record {
                logs = ((log.0, ap (λ l. l ++ x ∷ []) log.1 ∙ sym (part_snoc_same h.order p x), log.2), tt);
                reads = λ e. absurd (true≢false (sym e));
                knows = mine.knows;
                idles = λ e. absurd (omega arith);
                begins = prefix_self order;
                apart = ((λ (x : ⊥). x), tt);
              })
              (λ j u other e. let f = h.fits j u e in record {
                logs = logs_map (λ q l. (h.seat q ≡ j) × (l ≡ part q h.order) × (q < h.made)) (λ q l. (h.seat q ≡ j) × (l ≡ part q order) × (q < h.made))
                    u.logs
                    (λ q l k. (k.0, k.1 ∙ sym (part_snoc_other h.order p q x (λ is. other (sym k.0 ∙ ap h.seat (sym is) ∙ log.0))), k.2)) f.logs;
                reads = f.reads;
                knows = f.knows;
                idles = f.idles;
                begins = prefix_more u.seen h.order ((p, x) ∷ []) f.begins;
                apart = f.apart;
              });
        },
        refl,
      )

  pop : (pass k n m : ℕ) (logs : List (ℕ × List T)) (got : List T) (seen : List (ℕ × T)) (refused : List (List T)) → Pops Rule pass (popper k n m logs got seen refused) (λ x w. w ≡ popper k n m logs (got ++ x ∷ []) seen refused)
  pop pass k n m logs got seen refused x items views h at =
      let v : Hand T = popper k n m logs got seen refused in
      let w : Hand T = popper k n m logs (got ++ x ∷ []) seen refused in
      let mine = h.fits pass v at in let read = mine.reads refl in (
        w,
        record {
          order = h.order;
          got = h.got ++ x ∷ [];
          seat = h.seat;
          reader = h.reader;
          producers = h.producers;
          made = h.made;
          queued = h.queued ∙ sym (append_assoc h.got (x ∷ []) items);
          shared = (let s = parts_set views pass v w at in let t = h.shared in omega arith);
          within = h.within;
          from = h.from;
          covered = covers_set h.seat h.made views pass v w at (λ q has. has) h.covered;
          last = last_set h.order views pass v w at (λ e. e) h.last;
          fits = each_set (Fits h.order (h.got ++ x ∷ []) h.seat h.reader h.producers h.made) views pass w
              (record {
                logs = mine.logs;
                reads = λ _. (read.0, ap (λ l. l ++ x ∷ []) read.1, read.2);
                knows = mine.knows;
                idles = mine.idles;
                begins = mine.begins;
                apart = mine.apart;
              })
              (λ j u other e. let f = h.fits j u e in record {
                logs = f.logs;
                reads = λ r. absurd (other ((f.reads r).0 ∙ sym read.0));
                knows = f.knows;
                idles = f.idles;
                begins = f.begins;
                apart = f.apart;
              });
        },
        refl,
      )

  -- a pass's own view changes, and an idle one comes: nothing that the rule speaks of
  fork_idle : (items : List T) (views : List (Hand T)) (h : Rule items views) (pass : ℕ) (v w : Hand T) → get_elem? views pass ≡ some v → w.parts ≡ v.parts → ((p : ℕ) → HasLog p v.logs → HasLog p w.logs) → (v.seen ≡ w.seen) → (producers : ℕ) → h.made ≤ producers → Fits h.order h.got h.seat h.reader producers h.made pass w → ((j : ℕ) (u : Hand T) → j ≢ pass → get_elem? views j ≡ some u → Fits h.order h.got h.seat h.reader producers h.made j u) → Rule items (set views pass w ++ idle ∷ [])
  fork_idle items views h pass v w at parts has seen producers within mine others =
      let vs : List (Hand T) = set views pass w in record {
        order = h.order;
        got = h.got;
        seat = h.seat;
        reader = h.reader;
        producers = producers;
        made = h.made;
        queued = h.queued;
        shared = (let s = parts_set views pass v w at in let t = h.shared in let r = parts_snoc vs idle in omega arith);
        within = within;
        from = h.from;
        covered = covers_snoc h.seat h.made vs idle (covers_set h.seat h.made views pass v w at has h.covered);
        last = last_snoc h.order vs idle (last_set h.order views pass v w at (λ e. sym seen ∙ e) h.last);
        fits = each_snoc (Fits h.order h.got h.seat h.reader producers h.made) vs idle (idle_fits h.order h.got h.seat h.reader producers h.made (length vs))
            (each_set (Fits h.order h.got h.seat h.reader producers h.made) views pass w mine others);
      }

  note : (pass n p : ℕ) (put : List T) (seen : List (ℕ × T)) (r more : List T) → Forks Rule pass (pusher n p put seen r) (pusher n p put seen more) idle
  note pass n p put seen r more items views h at =
      let mine = h.fits pass (pusher n p put seen r) at in
      fork_idle items views h pass (pusher n p put seen r) (pusher n p put seen more) at refl (λ q has. has) refl h.producers h.within
      (record {
        logs = mine.logs;
        reads = λ e. absurd (true≢false (sym e));
        knows = mine.knows;
        idles = mine.idles;
        begins = mine.begins;
        apart = mine.apart;
      })
      (λ j u other e. h.fits j u e)

  declare : (pass n m : ℕ) (logs : List (ℕ × List T)) (got : List T) (seen : List (ℕ × T)) (refused : List (List T)) → Forks Rule pass (popper (2 ^ 32) n m logs got seen refused) (popper (2 ^ 32) (n + 1) m logs got seen refused) idle
  declare pass n m logs got seen refused items views h at =
      let v : Hand T = popper (2 ^ 32) n m logs got seen refused in
      let w : Hand T = popper (2 ^ 32) (n + 1) m logs got seen refused in
      let mine = h.fits pass v at in let know = mine.knows (omega arith) in let within = h.within in
      fork_idle items views h pass v w at refl (λ q has. has) refl (n + 1) (omega arith)
      (record {
        logs = mine.logs;
        reads = mine.reads;
        knows = λ _. refl;
        idles = mine.idles;
        begins = mine.begins;
        apart = mine.apart;
      })
      (λ j u other e. let f = h.fits j u e in record {
        logs = f.logs;
        reads = f.reads;
        knows = λ some. absurd (let t = parts_two views j pass u v e at other in let s = h.shared in omega arith);
        idles = f.idles;
        begins = f.begins;
        apart = f.apart;
      })

  hire : (pass k n m : ℕ) (logs : List (ℕ × List T)) (got : List T) (seen : List (ℕ × T)) (refused : List (List T)) → 1 < k → m < n → Forks Rule pass (popper k n m logs got seen refused) (popper (k - 1) n (m + 1) logs got seen refused) (pusher n m [] [] [])
  hire pass k n m logs got seen refused some_part room items views h at =
      let v : Hand T = popper k n m logs got seen refused in
      let w : Hand T = popper (k - 1) n (m + 1) logs got seen refused in
      let new : Hand T = pusher n m [] [] [] in
      let vs : List (Hand T) = set views pass w in
      let seat : ℕ → ℕ = with_next h.seat m (length vs) in
      let mine = h.fits pass v at in let read = mine.reads refl in let know = mine.knows (omega arith) in
      let made : m ≡ h.made = read.2 in
      let moved : (j q : ℕ) (l : List T) → (h.seat q ≡ j) × (l ≡ part q h.order) × (q < h.made) → (seat q ≡ j) × (l ≡ part q h.order) × (q < m + 1) =
      λ j q l k. (let lt = k.2 in next_else h.seat m (length vs) q (λ is. omega arith) ∙ k.0, k.1, let lt = k.2 in omega arith) in
      let move : (j : ℕ) (ls : List (ℕ × List T)) → EachLog (λ q l. (h.seat q ≡ j) × (l ≡ part q h.order) × (q < h.made)) ls → EachLog (λ q l. (seat q ≡ j) × (l ≡ part q h.order) × (q < m + 1)) ls =
      λ j ls e. logs_map (λ q l. (h.seat q ≡ j) × (l ≡ part q h.order) × (q < h.made)) (λ q l. (seat q ≡ j) × (l ≡ part q h.order) × (q < m + 1)) ls (moved j) e in
      record {
        order = h.order;
        got = h.got;
        seat = seat;
        reader = h.reader;
        producers = h.producers;
        made = m + 1;
        queued = h.queued;
        shared = (let s = parts_set views pass v w at in let t = h.shared in let r = parts_snoc vs new in omega arith);
        within = omega arith;
        from = from_wider h.made (m + 1) h.order h.from (omega arith);
        covered = λ p lt. elim (ℕ_discrete p m) [
          | yes is ↦ (
            new,
            ap (λ i. get_elem? (vs ++ new ∷ []) i) (next_here h.seat m (length vs) p is) ∙ at_last vs new (length vs) refl,
            inl (sym is),
          )
          | no isnt ↦
              let c = covers_snoc h.seat h.made vs new (covers_set h.seat h.made views pass v w at (λ q has. has) h.covered) p (omega arith) in
              (c.0, ap (λ i. get_elem? (vs ++ new ∷ []) i) (next_else h.seat m (length vs) p isnt) ∙ c.1, c.2)
        ];
        last = last_snoc h.order vs new (last_set h.order views pass v w at (λ e. e) h.last);
        fits = each_snoc (Fits h.order h.got seat h.reader h.producers (m + 1)) vs new
            (record {
              logs = ((next_here h.seat m (length vs) m refl, sym (part_above h.made m h.order h.from (omega arith)), omega arith), tt);
              reads = λ e. absurd (true≢false (sym e));
              knows = λ _. know;
              idles = λ e. absurd (omega arith);
              begins = (h.order, refl);
              apart = ((λ (x : ⊥). x), tt);
            })
            (each_set (Fits h.order h.got seat h.reader h.producers (m + 1)) views pass w
            (record {
              logs = move pass logs mine.logs;
              reads = λ _. (read.0, read.1, refl);
              knows = λ _. know;
              idles = λ e. absurd (omega arith);
              begins = mine.begins;
              apart = mine.apart;
            })
            (λ j u other e. let f = h.fits j u e in record {
              logs = move j u.logs f.logs;
              reads = λ r. absurd (other ((f.reads r).0 ∙ sym read.0));
              knows = f.knows;
              idles = f.idles;
              begins = f.begins;
              apart = f.apart;
            }));
      }

  merge : (pass k n m : ℕ) (logs : List (ℕ × List T)) (got : List T) (seen : List (ℕ × T)) (refused : List (List T)) (other : ℕ) (u : Hand T) → 0 < k → Merges Rule pass (popper k n m logs got seen refused) other u (popper (k + u.parts) n m (u.logs ++ logs) got (longer seen u.seen) (u.refused ++ refused)) idle
  merge pass k n m logs got seen refused other u some_part items views h at two at' =
      let v : Hand T = popper k n m logs got seen refused in
      let w : Hand T = popper (k + u.parts) n m (u.logs ++ logs) got (longer seen u.seen) (u.refused ++ refused) in
      let vs : List (Hand T) = set views pass w in
      let end : List (Hand T) = set vs other idle in
      let was : get_elem? views other ≡ some u = sym (set_else views pass other w two) ∙ at' in
      let here : get_elem? end pass ≡ some w = set_else vs other pass idle (λ is. two (sym is)) ∙ set_here views pass w (below views pass v at) in
      let mine = h.fits pass v at in let theirs = h.fits other u was in let read = mine.reads refl in
      let seat : ℕ → ℕ = moved_to other pass h.seat in
      let Log : ℕ → ℕ → List T → Type 0 = λ j q l. (h.seat q ≡ j) × (l ≡ part q h.order) × (q < h.made) in
      let New : ℕ → ℕ → List T → Type 0 = λ j q l. (seat q ≡ j) × (l ≡ part q h.order) × (q < h.made) in
      let keep : (j : ℕ) → j ≢ other → (ls : List (ℕ × List T)) → EachLog (Log j) ls → EachLog (New j) ls =
      λ j far ls e. logs_map (Log j) (New j) ls (λ q l x. (moved_else other pass h.seat q (λ is. far (sym x.0 ∙ is)) ∙ x.0, x.1, x.2)) e in
      let come : EachLog (New pass) u.logs =
      logs_map (Log other) (New pass) u.logs (λ q l x. (moved_same other pass h.seat q x.0, x.1, x.2)) theirs.logs in
      let Far : ℕ → Hand T → Type 0 = λ j y. j ≢ other → Fits h.order h.got seat h.reader h.producers h.made j y in
      let far : AllFit Far vs = each_set Far views pass w
      (λ _. record {
        logs = logs_append (New pass) u.logs logs come (keep pass (λ is. two (sym is)) logs mine.logs);
        reads = λ _. read;
        knows = λ _. mine.knows some_part;
        idles = λ e. absurd (omega arith);
        begins = longer_begins seen u.seen h.order mine.begins theirs.begins;
        apart = apart_append u.logs logs theirs.apart mine.apart (λ p x y.
            let a = log_at (Log other) p u.logs theirs.logs x in let b = log_at (Log pass) p logs mine.logs y in
            two (sym a.1.0 ∙ b.1.0));
      })
      (λ j y _ e apart. let f = h.fits j y e in record {
        logs = keep j apart y.logs f.logs;
        reads = f.reads;
        knows = f.knows;
        idles = f.idles;
        begins = f.begins;
        apart = f.apart;
      }) in
      record {
        order = h.order;
        got = h.got;
        seat = seat;
        reader = h.reader;
        producers = h.producers;
        made = h.made;
        queued = h.queued;
        shared = (let s = parts_set views pass v w at in let t = h.shared in let r = parts_set vs other u idle at' in omega arith);
        within = h.within;
        from = h.from;
        covered = λ p lt. let c = h.covered p lt in elim (ℕ_discrete (h.seat p) other) [
          | yes is ↦ (
            w,
            ap (λ i. get_elem? end i) (moved_same other pass h.seat p is) ∙ here,
            has_append p u.logs logs (inl (subst (λ (y : Hand T). HasLog p y.logs) (same_at views (h.seat p) other c.0 u is c.1 was) c.2)),
          )
          | no isnt ↦ elim (ℕ_discrete (h.seat p) pass) [
            | yes is ↦ (
              w,
              ap (λ i. get_elem? end i) (moved_else other pass h.seat p isnt ∙ is) ∙ here,
              has_append p u.logs logs (inr (subst (λ (y : Hand T). HasLog p y.logs) (same_at views (h.seat p) pass c.0 v is c.1 at) c.2)),
            )
            | no far ↦ (
              c.0,
              ap (λ i. get_elem? end i) (moved_else other pass h.seat p isnt) ∙ set_else vs other (h.seat p) idle isnt ∙ set_else views pass (h.seat p) w far ∙ c.1,
              c.2,
            )
          ]
        ];
        last = (let l = h.last in elim (ℕ_discrete l.0 other) [
          | yes is ↦ (
            pass,
            w,
            here,
            longer_right seen u.seen h.order mine.begins (sym (ap (λ (y : Hand T). y.seen) (same_at views l.0 other l.1 u is l.2 was)) ∙ l.3),
          )
          | no isnt ↦ elim (ℕ_discrete l.0 pass) [
            | yes is ↦ (
              pass,
              w,
              here,
              longer_left seen u.seen h.order theirs.begins (sym (ap (λ (y : Hand T). y.seen) (same_at views l.0 pass l.1 v is l.2 at)) ∙ l.3),
            )
            | no apart ↦ (l.0, l.1, set_else vs other l.0 idle isnt ∙ set_else views pass l.0 w apart ∙ l.2, l.3)
          ]
        ]);
        fits = each_set (Fits h.order h.got seat h.reader h.producers h.made) vs other idle
            (idle_fits h.order h.got seat h.reader h.producers h.made other) (λ j y apart e. far j y e apart);
      }

  -- what the only producer learns of a full lane
  only : (pass n p : ℕ) (put : List T) (seen : List (ℕ × T)) (refused : List T) → Learns Rule pass (pusher n p put seen refused) (λ items. n ≡ 1 → length items ≤ length put)
  only pass n p put seen refused items views h at one =
      let mine = h.fits pass (pusher n p put seen refused) at in let know = mine.knows (omega arith) in
      let log = mine.logs.0 in let lt = log.2 in let within = h.within in let is : p ≡ 0 = omega arith in
      let e : put ≡ h.got ++ items = log.1 ∙ ap (λ q. part q h.order) is ∙ part_only h.order (from_wider h.made 1 h.order h.from (omega arith)) ∙ h.queued in
      let size : length put ≡ length h.got + length items = ap length e ∙ length-append h.got items in omega arith

  -- the pass that has all parts has all lists, and has seen the whole order
  whole : (pass n m : ℕ) (logs : List (ℕ × List T)) (got : List T) (seen : List (ℕ × T)) (refused : List (List T)) → Learns Rule pass (popper (2 ^ 32) n m logs got seen refused) (λ items. IsWhole logs got seen items)
  whole pass n m logs got seen refused items views h at =
      let v : Hand T = popper (2 ^ 32) n m logs got seen refused in
      let mine = h.fits pass v at in let read = mine.reads refl in
      let none : (j : ℕ) (u : Hand T) → j ≢ pass → get_elem? views j ≡ some u → u.parts ≡ 0 =
      λ j u other e. (let t = parts_two views j pass u v e at other in let s = h.shared in omega arith) in
      let all : (p : ℕ) → p < h.made → HasLog p logs = λ p lt. let c = h.covered p lt in elim (ℕ_discrete (h.seat p) pass) [
        | yes is ↦ subst (λ (y : Hand T). HasLog p y.logs) (same_at views (h.seat p) pass c.0 v is c.1 at) c.2
        | no isnt ↦ absurd (subst (λ ls. HasLog p ls) ((h.fits (h.seat p) c.0 c.1).idles (none (h.seat p) c.0 isnt c.1)).0 c.2)
      ] in
      let l = h.last in
      let saw : seen ≡ h.order = elim (ℕ_discrete l.0 pass) [
        | yes is ↦ sym (ap (λ (y : Hand T). y.seen) (same_at views l.0 pass l.1 v is l.2 at)) ∙ l.3
        | no isnt ↦
            let empty : [] ≡ h.order = sym ((h.fits l.0 l.1 l.2).idles (none l.0 l.1 isnt l.2)).1 ∙ l.3 in
            let front = mine.begins in no_more seen h.order front.0 front.1 (sym empty) ∙ empty
      ] in
      subst (λ o. IsWhole logs got o items) (sym saw) (record {
        shuffle = record {
          parts = logs_map (λ q x. (h.seat q ≡ pass) × (x ≡ part q h.order) × (q < h.made)) (λ q x. x ≡ part q h.order) logs (λ q x k. k.1) mine.logs;
          known = all_known h.made logs h.order all h.from;
          apart = mine.apart;
        };
        queued = h.queued ∙ ap (λ g. g ++ items) (sym read.1);
      })

  pub pushes : (n pass : ℕ) (v : Hand T) (x : T) → IsPusher v → Pushes Rule n pass v x (λ w. w ≡ put_in v x w.seen)
  pushes n pass v x is = subst (λ u. Pushes Rule n pass u x (λ w. w ≡ put_in u x w.seen)) (sym is)
      (push n pass v.producers (first_number v.logs) (first_log v.logs) v.seen (first_refused v.refused) x)

  pub onlys : (pass : ℕ) (v : Hand T) → IsPusher v → Learns Rule pass v (λ items. v.producers ≡ 1 → length items ≤ length (first_log v.logs))
  onlys pass v is = subst (λ (u : Hand T). Learns Rule pass u (λ items. u.producers ≡ 1 → length items ≤ length (first_log u.logs))) (sym is)
      (only pass v.producers (first_number v.logs) (first_log v.logs) v.seen (first_refused v.refused))

  pub notes : (pass : ℕ) (v : Hand T) (xs : List T) → IsPusher v → Forks Rule pass v (refuse v xs) idle
  notes pass v xs is = subst (λ u. Forks Rule pass u (refuse u xs) idle) (sym is)
      (note pass v.producers (first_number v.logs) (first_log v.logs) v.seen (first_refused v.refused) (first_refused v.refused ++ xs))

  pub pops : (pass : ℕ) (v : Hand T) → IsPopper v → Pops Rule pass v (λ x w. w ≡ got_by v x)
  pops pass v is = subst (λ u. Pops Rule pass u (λ x w. w ≡ got_by u x)) (sym is) (pop pass v.parts v.producers v.made v.logs v.got v.seen v.refused)

  pub declares : (pass : ℕ) (v : Hand T) → IsPopper v → v.parts ≡ 2 ^ 32 → Forks Rule pass v (declared_by v) idle
  declares pass v is all =
      let form : v ≡ popper (2 ^ 32) v.producers v.made v.logs v.got v.seen v.refused =
      is ∙ ap (λ k. popper k v.producers v.made v.logs v.got v.seen v.refused) all in
      subst (λ u. Forks Rule pass u (declared_by u) idle) (sym form) (declare pass v.producers v.made v.logs v.got v.seen v.refused)

  pub hires : (pass : ℕ) (v : Hand T) → IsPopper v → 1 < v.parts → v.made < v.producers → Forks Rule pass v (hired_by v) (pusher v.producers v.made [] [] [])
  hires pass v is some_part room = subst (λ (u : Hand T). 1 < u.parts → u.made < u.producers → Forks Rule pass u (hired_by u) (pusher u.producers u.made [] [] [])) (sym is)
      (λ a b. hire pass v.parts v.producers v.made v.logs v.got v.seen v.refused a b) some_part room

  pub merges : (pass : ℕ) (v : Hand T) (other : ℕ) (u : Hand T) → IsPopper v → 0 < v.parts → Merges Rule pass v other u (joined_to v u) idle
  merges pass v other u is some_part = subst (λ (w : Hand T). 0 < w.parts → Merges Rule pass w other u (joined_to w u) idle) (sym is)
      (λ a. merge pass v.parts v.producers v.made v.logs v.got v.seen v.refused other u a) some_part

  pub wholes : (pass : ℕ) (v : Hand T) → IsPopper v → v.parts ≡ 2 ^ 32 → Learns Rule pass v (λ items. IsWhole v.logs v.got v.seen items)
  wholes pass v is all =
      let form : v ≡ popper (2 ^ 32) v.producers v.made v.logs v.got v.seen v.refused =
      is ∙ ap (λ k. popper k v.producers v.made v.logs v.got v.seen v.refused) all in
      subst (λ (u : Hand T). Learns Rule pass u (λ items. IsWhole u.logs u.got u.seen items)) (sym form) (whole pass v.producers v.made v.logs v.got v.seen v.refused)

  -- with all parts, what is popped is the next item of the order
  pub leaves : (pass : ℕ) (v : Hand T) → IsPopper v → v.parts ≡ 2 ^ 32 → Pops Rule pass v (λ x w. (w ≡ got_by v x) × ((rest : List T) × (items_of v.seen ≡ v.got ++ x ∷ rest)))
  leaves pass v is all x items views h at =
      let popped = pops pass v is x items views h at in
      let known = wholes pass v is all (x ∷ items) views h at in
      (popped.0, popped.1, (popped.2, (items, known.queued)))
