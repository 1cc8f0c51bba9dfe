-- The items of a membership among all that is said.
use Rattle.std.proofs.Common.{◌≡◌, ◌==◌, ◌&&◌, ℕ, zero, suc, ◌<◌, Bool, true, false, cond, eqb, List, [], ◌∷◌, inl, inr, refl, ap, sym, ◌∙◌, subst, arith, length, Contains}
use Rattle.std.specs.List.{filter, AllPairs}
use Rattle.std.proofs.lemmas.Bool.{eqb-true, eq-eqb, and_parts, and_from, or_cases, or_left, or_right, cond-true, cond-false, true≢false}
use Rattle.m17_values.specs.declared.member.Member.{Member}
use Rattle.m17_control.specs.declared.item.Item.{Item}
use Rattle.m17_floor.specs.Acts.{is_same}
use Rattle.m17_sender.specs.Acts.{Act, thing_of, things_of}
use Rattle.m17_sender.specs.Joined.{Queues, Joined, is_to, items_of, IsJoined, item_of, items_said, is_to_any}
use Rattle.m17_sender.proofs.Splits.{MakesOne, one_if, contains_split, contains_from, flat_map_at, filter_flat_map, flat_map_agree}

pub is_same_self : (k : Member) → is_same k k ≡ true
is_same_self k = and_from _ _ (eq-eqb k.place k.place refl) (eq-eqb k.generation k.generation refl)

pub same_member : (a b : Member) → is_same a b ≡ true → a ≡ b
same_member a b h =
    let parts = and_parts (eqb a.place b.place) (eqb a.generation b.generation) h in
    let place : a.place ≡ b.place = eqb-true _ _ parts.0 in
    let generation : a.generation ≡ b.generation = eqb-true _ _ parts.1 in
    let make : ℕ → ℕ → Member = λ x y. record { place = x; generation = y } in
    ap (λ x. make x a.generation) place ∙ ap (make b.place) generation

-- an act says one item, or none
pub one_to : (t : Item → Bool) → MakesOne (λ act. filter t (item_of act))
one_to t (Act.Says m q item) = one_if (t item) item
one_to t (Act.Answers direct) = inl refl
one_to t (Act.Notes link member) = inl refl

pub record SaysIt (t : Item → Bool) (act : Act) (z : Item) : Type 0 where
  pub m : ℕ
  pub q : ℕ
  pub act_is : act ≡ Act.Says m q z
  pub passes : t z ≡ true

says_cond : (t : Item → Bool) (m q : ℕ) (item z : Item) (b : Bool) → t item ≡ b → cond b (item ∷ []) [] ≡ z ∷ [] → SaysIt t (Act.Says m q item) z
says_cond t m q item z true is e =
    let same : item ≡ z = cc in
    record { m = m; q = q; act_is = ap (Act.Says m q) same; passes = ap t (sym same) ∙ is }
says_cond t m q item z false is e = absurd (let no : [] ≡ z ∷ [] = e in cc)

pub says_it : (t : Item → Bool) (act : Act) (z : Item) → filter t (item_of act) ≡ z ∷ [] → SaysIt t act z
says_it t (Act.Says m q item) z e = says_cond t m q item z (t item) refl e
says_it t (Act.Answers direct) z e = absurd (let no : [] ≡ z ∷ [] = e in cc)
says_it t (Act.Notes link member) z e = absurd (let no : [] ≡ z ∷ [] = e in cc)

-- what an act says is in its queue
thing_here : (m q : ℕ) (item : Item) → thing_of m q (Act.Says m q item) ≡ item ∷ []
thing_here m q item =
    cond-true (m == m && q == q) (item ∷ []) [] (and_from _ _ (eq-eqb m m refl) (eq-eqb q q refl))

pub in_its_queue : (acts : List Act) (m q : ℕ) (item : Item) → Contains acts (Act.Says m q item) → Contains (things_of m q acts) item
in_its_queue acts m q item h =
    let s = contains_split acts (Act.Says m q item) h in
    contains_from (things_of m q acts) (things_of m q s.0) (things_of m q s.1) item
    (flat_map_at (thing_of m q) acts s.0 s.1 (Act.Says m q item) item s.2 (thing_here m q item))

none_kept : (t : Item → Bool) (item : Item) (c : Bool) → t item ≡ false → filter t (cond c (item ∷ []) []) ≡ []
none_kept t item true not_it = cond-false (t item) (item ∷ []) [] not_it
none_kept t item false not_it = refl

own_said : (acts : List Act) (queues : Queues) (link : ℕ) (j : Joined) (m q : ℕ) (item : Item) (b : Bool) → ((m q : ℕ) → things_of m q acts ≡ queues m q) → IsJoined queues link j → Contains acts (Act.Says m q item) → is_to j.member item ≡ b → cond b (item ∷ []) [] ≡ filter (is_to j.member) (thing_of j.m j.member.place (Act.Says m q item))
own_said acts queues link j m q item true things joined here is =
    let there : Contains (queues m q) item = subst (λ xs. Contains xs item) (things m q) (in_its_queue acts m q item here) in
    let at : (m ≡ j.m) × (q ≡ j.member.place) = joined.alone m q item there (same_member item.member j.member is) in
    sym (ap (filter (is_to j.member)) (cond-true (j.m == m && j.member.place == q) (item ∷ []) [] (and_from _ _ (eq-eqb j.m m (sym at.0)) (eq-eqb j.member.place q (sym at.1))))
    ∙ cond-true (is_to j.member item) (item ∷ []) [] is)
own_said acts queues link j m q item false things joined here is =
    sym (none_kept (is_to j.member) item (j.m == m && j.member.place == q) is)

own_act : (acts : List Act) (queues : Queues) (link : ℕ) (j : Joined) → ((m q : ℕ) → things_of m q acts ≡ queues m q) → IsJoined queues link j → (act : Act) → Contains acts act → filter (is_to j.member) (item_of act) ≡ filter (is_to j.member) (thing_of j.m j.member.place act)
own_act acts queues link j things joined (Act.Says m q item) here = own_said acts queues link j m q item (is_to j.member item) things joined here refl
own_act acts queues link j things joined (Act.Answers direct) here = refl
own_act acts queues link j things joined (Act.Notes l member) here = refl

-- all that is said to a membership is what its queue holds for it
pub own_items : (acts : List Act) (queues : Queues) (link : ℕ) (j : Joined) → ((m q : ℕ) → things_of m q acts ≡ queues m q) → IsJoined queues link j → filter (is_to j.member) (items_said acts) ≡ items_of queues j
own_items acts queues link j things joined =
    filter_flat_map (is_to j.member) item_of acts
    ∙ flat_map_agree (λ act. filter (is_to j.member) (item_of act)) (λ act. filter (is_to j.member) (thing_of j.m j.member.place act)) acts (own_act acts queues link j things joined)
    ∙ sym (filter_flat_map (is_to j.member) (thing_of j.m j.member.place) acts)
    ∙ ap (filter (is_to j.member)) (things j.m j.member.place)

-- to one of some memberships
pub any_one : (js : List Joined) (x : Item) → is_to_any js x ≡ true → (k : Joined) × Contains js k × (is_to k.member x ≡ true)
any_one [] x e = absurd (true≢false (sym e))
any_one (j ∷ js) x e =
    elim (or_cases (is_to j.member x) (is_to_any js x) e) [
      | inl here ↦ (j, contains_from (j ∷ js) [] js j refl, here)
      | inr later ↦
          let found = any_one js x later in
          (found.0, (suc found.1.0, (let lt : suc found.1.0 < suc (length js) = omega (arith, found.1.1) in lt), found.1.2), found.2)
    ]

pub any_from : (js : List Joined) (k : Joined) (x : Item) → Contains js k → is_to k.member x ≡ true → is_to_any js x ≡ true
any_from [] k x (i, lt, e) is = absurd (omega arith)
any_from (j ∷ js) k x (zero, lt, e) is =
    or_left (is_to j.member x) (is_to_any js x) (ap (λ (w : Joined). is_to w.member x) e ∙ is)
any_from (j ∷ js) k x (suc i, lt, e) is =
    or_right (is_to j.member x) (is_to_any js x) (any_from js k x (i, (let below : i < length js = omega arith in below), e) is)

-- pairs of a list's elements, from its first on
pub pairs_head : {X : Type 0} (R : X → X → Type 0) (x : X) (xs : List X) → AllPairs R (x ∷ xs) → (y : X) → Contains xs y → R x y
pairs_head R x xs p y (k, lt, e) =
    let first : 0 < suc k = omega arith in
    let last : suc k < suc (length xs) = omega arith in
    subst (R x) e (p 0 (suc k) y first last)
