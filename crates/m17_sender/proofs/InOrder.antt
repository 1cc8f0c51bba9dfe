-- What is said to memberships that wait for one another stands in their order.
use Rattle.std.proofs.Common.{◌≡◌, ℕ, Bool, true, List, [], ◌∷◌, ◌++◌, refl, ap, sym, ◌∙◌, subst, Contains, take}
use Rattle.std.specs.List.{flat_map, filter, AllPairs}
use Rattle.std.proofs.lemmas.Bool.{cond-true}
use Rattle.std.proofs.lemmas.List.{append_assoc}
use Rattle.std.proofs.lemmas.List.Concat.{flat_map-append}
use Rattle.std.proofs.lemmas.List.Elements.{All-head, All-same, All-contains, filter_passes}
use Rattle.m17_lists.proofs.Lengths.{none_stands_behind}
use Rattle.m17_lists.proofs.Contents.{first_is_in, rest_is_in}
use Rattle.m17_lists.proofs.Pairs.{each_two_of_the_rest}
use Rattle.m17_values.specs.declared.member.Member.{Member}
use Rattle.m17_control.specs.declared.item.Item.{Item}
use Rattle.m17_sender.specs.Acts.{Act, things_of, notes_of}
use Rattle.m17_sender.specs.Turns.{HasBye, Turns}
use Rattle.m17_sender.specs.Joined.{Queues, Joined, is_to, items_of, IsJoined, WaitsFor, item_of, items_said, is_to_any}
use Rattle.m17_sender.specs.Laws.{TurnsKeepEachMemberInOrder}
use Rattle.m17_sender.proofs.Grown.{never}
use Rattle.m17_sender.proofs.Splits.{Found, found_in, contains_split, flat_map_at, filter_flat_map, flat_map_agree, filter_filter, filter_none_at}
use Rattle.m17_sender.proofs.Members.{is_same_self, one_to, SaysIt, says_it, own_items, any_one, any_from, pairs_head}
use Rattle.m17_sender.proofs.Waits.{hello_waits}
use Rattle.m17_sender.proofs.Rows.{none_in, Ordered, in_rows}

-- what an act says to a membership
abbrev to_one : Member → Act → List Item
to_one k act = filter (is_to k) (item_of act)

says_to : (k : Member) (m q : ℕ) (z : Item) → is_to k z ≡ true → to_one k (Act.Says m q z) ≡ z ∷ []
says_to k m q z is = cond-true (is_to k z) (z ∷ []) [] is

-- the items of a membership on both sides of one of them
own_at : (all : List Act) (queues : Queues) (link : ℕ) (k : Joined) → ((m q : ℕ) → things_of m q all ≡ queues m q) → IsJoined queues link k → (front rest : List Act) (m q : ℕ) (z : Item) → all ≡ front ++ Act.Says m q z ∷ rest → is_to k.member z ≡ true → items_of queues k ≡ flat_map (to_one k.member) front ++ z ∷ flat_map (to_one k.member) rest
own_at all queues link k things joined front rest m q z e is =
    sym (own_items all queues link k things joined)
    ∙ filter_flat_map (is_to k.member) item_of all
    ∙ flat_map_at (to_one k.member) all front rest (Act.Says m q z) z e (says_to k.member m q z is)

record Pair (queues : Queues) (link : ℕ) (notes : List Member) (j k : Joined) : Type 0 where
  earlier : IsJoined queues link j
  later : IsJoined queues link k
  waits : WaitsFor notes j k

-- the first item of the later one behind which the earlier one's Bye is
bye_before : (acts more : List Act) (queues : Queues) (link : ℕ) (j k : Joined) → Turns acts → ((m q : ℕ) → things_of m q (acts ++ more) ≡ queues m q) → Pair queues link (notes_of link acts) j k → (front rest : List Act) (n p : ℕ) (z : Item) → acts ++ more ≡ front ++ Act.Says n p z ∷ rest → flat_map (to_one k.member) front ≡ [] → is_to k.member z ≡ true → HasBye front link j.member
bye_before acts more queues link j k turns things pair front rest n p z e none is =
    let told : items_of queues k ≡ z ∷ flat_map (to_one k.member) rest =
    own_at (acts ++ more) queues link k things pair.later front rest n p z e is ∙ ap (λ ws. ws ++ z ∷ flat_map (to_one k.member) rest) none in
    let hello = pair.later.life.begins z (flat_map (to_one k.member) rest) told in
    let at : z.link ≡ link = All-head (λ (item : Item). item.link ≡ link) z (flat_map (to_one k.member) rest) (All-same (λ (item : Item). item.link ≡ link) (z ∷ flat_map (to_one k.member) rest) (items_of queues k) (sym told) pair.later.its_link) in
    let noted : Contains (take k.after (notes_of z.link acts)) j.member = subst (λ l. Contains (take k.after (notes_of l acts)) j.member) (sym at) pair.waits.1 in
    subst (λ l. HasBye front l j.member) at
    (hello_waits acts more front rest n p z k.after j.member turns e hello noted)

-- nothing is said to the earlier one behind its Bye
nothing_behind : (all : List Act) (queues : Queues) (link : ℕ) (j : Joined) → ((m q : ℕ) → things_of m q all ≡ queues m q) → IsJoined queues link j → (front rest : List Act) → all ≡ front ++ rest → HasBye front link j.member → flat_map (to_one j.member) rest ≡ []
nothing_behind all queues link j things joined front rest e bye =
    let s = contains_split front (Act.Says bye.m bye.q bye.item) bye.was_said in
    let whole : all ≡ s.0 ++ Act.Says bye.m bye.q bye.item ∷ (s.1 ++ rest) =
    e ∙ ap (λ ws. ws ++ rest) s.2 ∙ append_assoc s.0 (Act.Says bye.m bye.q bye.item ∷ s.1) rest in
    let is : is_to j.member bye.item ≡ true = subst (λ m. is_to j.member (record bye.item { member = m }) ≡ true) (sym bye.its_member) (is_same_self j.member) in
    let told : items_of queues j ≡ flat_map (to_one j.member) s.0 ++ bye.item ∷ flat_map (to_one j.member) (s.1 ++ rest) =
    own_at all queues link j things joined s.0 (s.1 ++ rest) bye.m bye.q bye.item whole is in
    let none : flat_map (to_one j.member) (s.1 ++ rest) ≡ [] = joined.life.ends (flat_map (to_one j.member) s.0) (flat_map (to_one j.member) (s.1 ++ rest)) bye.item bye.why told bye.its_body in
    none_stands_behind (flat_map (to_one j.member) s.1) (flat_map (to_one j.member) rest) (sym (flat_map-append (to_one j.member) s.1 rest) ∙ none)

-- so nothing to the later one stands before an item to the earlier one
none_at : (acts more : List Act) (queues : Queues) (link : ℕ) (j k : Joined) → Turns acts → ((m q : ℕ) → things_of m q (acts ++ more) ≡ queues m q) → Pair queues link (notes_of link acts) j k → (front rest : List Act) (m q : ℕ) (y : Item) → acts ++ more ≡ front ++ Act.Says m q y ∷ rest → is_to j.member y ≡ true → (told : List Item) → flat_map (to_one k.member) front ≡ told → told ≡ []
none_at acts more queues link j k turns things pair front rest m q y e is [] told = refl
none_at acts more queues link j k turns things pair front rest m q y e is (z ∷ zs) told =
    let f : Found (to_one k.member) front [] z = found_in (to_one k.member) (one_to (is_to k.member)) front [] zs z told in
    let s : SaysIt (is_to k.member) f.it z = says_it (is_to k.member) f.it z f.it_is in
    let front_is : front ≡ f.before ++ Act.Says s.m s.q z ∷ f.behind = f.xs_are ∙ ap (λ (w : Act). f.before ++ w ∷ f.behind) s.act_is in
    let whole : acts ++ more ≡ f.before ++ Act.Says s.m s.q z ∷ (f.behind ++ Act.Says m q y ∷ rest) =
    e ∙ ap (λ ws. ws ++ Act.Says m q y ∷ rest) front_is ∙ append_assoc f.before (Act.Says s.m s.q z ∷ f.behind) (Act.Says m q y ∷ rest) in
    let bye : HasBye f.before link j.member = bye_before acts more queues link j k turns things pair f.before (f.behind ++ Act.Says m q y ∷ rest) s.m s.q z whole f.front_is s.passes in
    let none : flat_map (to_one j.member) (Act.Says s.m s.q z ∷ (f.behind ++ Act.Says m q y ∷ rest)) ≡ [] = nothing_behind (acts ++ more) queues link j things pair.earlier f.before (Act.Says s.m s.q z ∷ (f.behind ++ Act.Says m q y ∷ rest)) whole bye in
    let there = flat_map_at (to_one j.member) (Act.Says s.m s.q z ∷ (f.behind ++ Act.Says m q y ∷ rest)) (Act.Says s.m s.q z ∷ f.behind) rest (Act.Says m q y) y refl (says_to j.member m q y is) in
    absurd (never (flat_map (to_one j.member) (Act.Says s.m s.q z ∷ f.behind)) (flat_map (to_one j.member) rest) y (sym none ∙ there))

none_before : (acts more : List Act) (queues : Queues) (link : ℕ) (j k : Joined) → Turns acts → ((m q : ℕ) → things_of m q (acts ++ more) ≡ queues m q) → Pair queues link (notes_of link acts) j k → (front rest : List Act) (m q : ℕ) (y : Item) → acts ++ more ≡ front ++ Act.Says m q y ∷ rest → is_to j.member y ≡ true → filter (is_to k.member) (items_said front) ≡ []
none_before acts more queues link j k turns things pair front rest m q y e is =
    filter_flat_map (is_to k.member) item_of front
    ∙ none_at acts more queues link j k turns things pair front rest m q y e is (flat_map (to_one k.member) front) refl

-- of all that passes a test that the memberships' items pass
front_of : (acts more : List Act) (queues : Queues) (link : ℕ) (j : Joined) (js : List Joined) (t : Item → Bool) → Turns acts → ((m q : ℕ) → things_of m q (acts ++ more) ≡ queues m q) → ((k : Joined) → Contains js k → Pair queues link (notes_of link acts) j k) → ((k : Joined) → Contains js k → (x : Item) → is_to k.member x ≡ true → t x ≡ true) → (front rest : List Item) (y : Item) → filter t (items_said (acts ++ more)) ≡ front ++ y ∷ rest → is_to j.member y ≡ true → filter (is_to_any js) front ≡ []
front_of acts more queues link j js t turns things pair passes front rest y e is =
    let test : Act → List Item = λ act. filter t (item_of act) in
    let f : Found test (acts ++ more) front y = found_in test (one_to t) (acts ++ more) front rest y (sym (filter_flat_map t item_of (acts ++ more)) ∙ e) in
    let s : SaysIt t f.it y = says_it t f.it y f.it_is in
    let whole : acts ++ more ≡ f.before ++ Act.Says s.m s.q y ∷ f.behind = f.xs_are ∙ ap (λ (w : Act). f.before ++ w ∷ f.behind) s.act_is in
    none_in (is_to_any js) front (λ a b z at any.
    let one = any_one js z any in
    let nothing : filter (is_to one.0.member) (items_said f.before) ≡ [] = none_before acts more queues link j one.0 turns things (pair one.0 one.1) f.before f.behind s.m s.q y whole is in
    let kept : front ≡ filter t (items_said f.before) = sym f.front_is ∙ sym (filter_flat_map t item_of f.before) in
    let none : filter (is_to one.0.member) front ≡ [] = ap (filter (is_to one.0.member)) kept ∙ filter_filter t (is_to one.0.member) (items_said f.before) (passes one.0 one.1) ∙ nothing in
    filter_none_at (is_to one.0.member) front a b z none at one.2)

ordered : (acts more : List Act) (queues : Queues) (link : ℕ) (js : List Joined) (t : Item → Bool) → Turns acts → ((m q : ℕ) → things_of m q (acts ++ more) ≡ queues m q) → ((k : Joined) → Contains js k → IsJoined queues link k) → AllPairs (WaitsFor (notes_of link acts)) js → ((k : Joined) → Contains js k → (x : Item) → is_to k.member x ≡ true → t x ≡ true) → Ordered (filter t (items_said (acts ++ more))) js
ordered acts more queues link [] t turns things each pairs passes = tt
ordered acts more queues link (j ∷ js) t turns things each pairs passes =
    let waits : (k : Joined) → Contains js k → WaitsFor (notes_of link acts) j k = pairs_head (WaitsFor (notes_of link acts)) j js pairs in (
      front_of acts more queues link j js t turns things
          (λ k here. record { earlier = each j (first_is_in js j); later = each k (rest_is_in j js k here); waits = waits k here })
          (λ k here. passes k (rest_is_in j js k here)),
      (λ k here. (waits k here).0),
      ordered acts more queues link js t turns things (λ k here. each k (rest_is_in j js k here)) (each_two_of_the_rest (WaitsFor (notes_of link acts)) j js pairs) (λ k here. passes k (rest_is_in j js k here)),
    )

pub in_order : TurnsKeepEachMemberInOrder
in_order acts more queues link joins all inturn =
    let turns : Turns acts = all.turns in
    let things : (m q : ℕ) → things_of m q (acts ++ more) ≡ queues m q = all.things in
    let t : Item → Bool = is_to_any joins in
    let said : List Item = items_said (acts ++ more) in
    let each : (k : Joined) → Contains joins k → IsJoined queues link k = λ k here. All-contains (IsJoined queues link) joins k inturn.each here in
    let passes : (k : Joined) → Contains joins k → (x : Item) → is_to k.member x ≡ true → t x ≡ true = λ k here x is. any_from joins k x here is in
    in_rows (filter t said) joins
    (λ x here. All-contains (λ w. t w ≡ true) (filter t said) x (filter_passes t said) here)
    (ordered acts more queues link joins t turns things each inturn.waits passes)
    ∙ flat_map_agree (λ j. filter (is_to j.member) (filter t said)) (items_of queues) joins
    (λ k here. filter_filter t (is_to k.member) said (passes k here) ∙ own_items (acts ++ more) queues link k things (each k here))
