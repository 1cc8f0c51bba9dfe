-- Pushers that come back to the popper's pass.
use Rattle.std.proofs.Common.{◌≡◌, ◌+◌, ◌^◌, ◌<◌, List, [], ◌∷◌, ◌++◌, length, subst, sym, refl, ap, ◌∙◌, append_assoc, length-append, arith}
use Rattle.atomic_table.specs.Seated.{TableId}
use Rattle.m17_lane.specs.declared.rule.Hand.{Hand}
use Rattle.m17_lane.specs.Ends.{PushEnd, AreOf, logs_of, refused_of}
use Rattle.m17_lane.specs.Orders.{items_of, IsWhole}
use Rattle.m17_lane.proofs.Folds.{one_producer}
use Rattle.m17_lane.specs.Rule.{longer, popper, first_number, first_log, first_refused, IsPusher, IsPopper, joined_to, with_back}

module _ {T : Type 0} where
  pub back_is : (v u w : Hand T) (p : PushEnd T) → IsPusher u → p.number ≡ first_number u.logs → p.pushed ≡ first_log u.logs → p.refused ≡ first_refused u.refused → w ≡ joined_to v u → w ≡ with_back v p w.seen
  back_is v u w p is number pushed refused e =
      let part : u.parts ≡ 1 = ap (λ (y : Hand T). y.parts) is in
      let logs : u.logs ≡ (p.number, p.pushed) ∷ [] = ap (λ (y : Hand T). y.logs) is ∙ (λ i. (sym number i, sym pushed i) ∷ []) in
      let back : u.refused ≡ p.refused ∷ [] = ap (λ (y : Hand T). y.refused) is ∙ (λ i. sym refused i ∷ []) in
      subst (λ (y : Hand T). y ≡ with_back v p y.seen) (sym e)
      (λ i. popper (v.parts + part i) v.producers v.made (logs i ++ v.logs) v.got (longer v.seen u.seen) (back i ++ v.refused))

  logs_snoc : (ps : List (PushEnd T)) (p : PushEnd T) → logs_of (ps ++ p ∷ []) ≡ logs_of ps ++ (p.number, p.pushed) ∷ []
  logs_snoc [] p = refl
  logs_snoc (q ∷ ps) p = ap (λ l. (q.number, q.pushed) ∷ l) (logs_snoc ps p)

  refused_snoc : (ps : List (PushEnd T)) (p : PushEnd T) → refused_of (ps ++ p ∷ []) ≡ refused_of ps ++ p.refused ∷ []
  refused_snoc [] p = refl
  refused_snoc (q ∷ ps) p = ap (λ l. q.refused ∷ l) (refused_snoc ps p)

  pub are_of_ends : (lane : TableId) (ps : List (PushEnd T)) (p : PushEnd T) → AreOf lane (ps ++ p ∷ []) → AreOf lane ps × (p.lane ≡ lane)
  are_of_ends lane [] p h = (tt, h.0)
  are_of_ends lane (q ∷ ps) p h = let r = are_of_ends lane ps p h.1 in ((h.0, r.0), r.1)

  -- what the popper's pass has taken back of all pushers, while the pushers of `rest` are left
  pub record Joining (v : Hand T) (popped : List T) (rest all : List (PushEnd T)) : Type 0 where
    pub is : IsPopper v
    pub got : v.got ≡ popped
    pub parts : v.parts + length rest ≡ 2 ^ 32
    pub some_part : 0 < v.parts
    pub logs : logs_of rest ++ v.logs ≡ logs_of all
    pub refused : refused_of rest ++ v.refused ≡ refused_of all

  pub joining : (v w : Hand T) (popped : List T) (before rest all : List (PushEnd T)) (p : PushEnd T) → Joining v popped before all → before ≡ rest ++ p ∷ [] → w ≡ with_back v p w.seen → Joining w popped rest all
  joining v w popped before rest all p h is back = subst (λ y. Joining y popped rest all) (sym back) (record {
    is = refl;
    got = h.got;
    parts = (
        let e = h.parts in let long : length before ≡ length rest + 1 = ap length is ∙ length-append rest (p ∷ []) in omega arith
        );
    some_part = omega arith;
    logs =
        sym (append_assoc (logs_of rest) ((p.number, p.pushed) ∷ []) v.logs)
        ∙ ap (λ l. l ++ v.logs) (sym (logs_snoc rest p) ∙ ap logs_of (sym is)) ∙ h.logs;
    refused =
        sym (append_assoc (refused_of rest) (p.refused ∷ []) v.refused)
        ∙ ap (λ l. l ++ v.refused) (sym (refused_snoc rest p) ∙ ap refused_of (sym is)) ∙ h.refused;
  })

  -- where nothing was taken back before, the pass has the lists of one pusher
  pub alone : (v w : Hand T) (p : PushEnd T) (popped items : List T) → v.logs ≡ [] → v.got ≡ popped → w ≡ with_back v p w.seen → IsWhole w.logs w.got w.seen items → (items_of w.seen ≡ p.pushed) × (p.pushed ≡ popped ++ items)
  alone v w p popped items none got back h =
      let logs : w.logs ≡ (p.number, p.pushed) ∷ [] = ap (λ (y : Hand T). y.logs) back ∙ ap (λ l. (p.number, p.pushed) ∷ l) none in
      let same : w.got ≡ popped = ap (λ (y : Hand T). y.got) back ∙ got in
      one_producer p.number p.pushed popped items w.seen
      (subst (λ l. IsWhole l popped w.seen items) logs (subst (λ l. IsWhole w.logs l w.seen items) same h))
