-- What a sender has done so far, when an item is taken out of a queue, passed over or held back.
use Rattle.std.proofs.Common.{◌≡◌, inl, inr, ℕ, Bool, true, false, cond, nat_lt, ◌&&◌, List, [], ◌∷◌, ◌++◌, length, map, filter, Option, None, Some, MatchOption, refl, sym, ap, subst, ◌∙◌}
use Rattle.std.proofs.lemmas.List.{append-nil, append_assoc, length-map}
use Rattle.std.proofs.lemmas.List.Elements.{filter-append}
use Rattle.std.specs.List.{All}
use Rattle.m17_values.specs.declared.member.Member.{Member}
use Rattle.m17_lane.specs.Ends.{PopEnd, PushEnd}
use Rattle.m17_ports.specs.Mouth.{MouthTold}
use Rattle.m17_control.specs.declared.item.Item.{Item}
use Rattle.m17_control.specs.declared.item.Direct.{Direct}
use Rattle.m17_lane.specs.Grids.{IsSameGrid, only_in, pop_grid}
use Rattle.m17_lane.specs.RowsLaws.{GridsPop, RowsPop}
use Rattle.m17_sender.specs.Acts.{Act, things_of}
use Rattle.m17_sender.specs.declared.sender.Sender.{Sender}
use Rattle.m17_sender.specs.Cells.{HasPlace, HoldsMore}
use Rattle.m17_sender.specs.Places.{cells_of, held_at, is_answered, is_said, popped_at, queues_of}
use Rattle.m17_sender.specs.Ready.{IsShaped}
use Rattle.m17_sender.specs.Sent.{EachMouth, SaidByLink}
use Rattle.m17_sender.specs.SoFar.{at_rest, GoesOn, Grows, SoFar, State, with_item}
use Rattle.m17_sender.proofs.Lists.{at_or_else, here}
use Rattle.m17_sender.proofs.Grids.{grid_count, popped_more}
use Rattle.m17_sender.proofs.Shapes.{same_count, same_long}

-- all but the queues and the cells is the same
pub record SameRest {M : Type 0} (s t : Sender M) : Type 0 where
  pub name : t.name ≡ s.name
  pub places : t.places ≡ s.places
  pub mouths : t.mouths.items ≡ s.mouths.items
  pub notes : t.notes.items ≡ s.notes.items
  pub door : t.door ≡ s.door
  pub order : t.order ≡ s.order

-- of the items in hand those that are said
pub one_said : (p : Item → Bool) (m q : ℕ) (x : Item) (a b : ℕ) → p x ≡ true → filter p (only_in m q x a b) ≡ only_in m q x a b
one_said p m q x a b e = elim (at_or_else m q x a b) [
  | inl is ↦
      let one : only_in m q x a b ≡ x ∷ [] = ap (λ (n : ℕ). only_in m q x n b) is.0 ∙ ap (λ (n : ℕ). only_in m q x m n) is.1 ∙ here m q x in
      ap (filter p) one ∙ ap (λ c. cond c (x ∷ []) []) e ∙ sym one
  | inr isnt ↦ ap (filter p) isnt.1 ∙ sym isnt.1
]

pub none_said : (p : Item → Bool) (m q : ℕ) (x : Item) (a b : ℕ) → p x ≡ false → filter p (only_in m q x a b) ≡ []
none_said p m q x a b e = elim (at_or_else m q x a b) [
  | inl is ↦
      let one : only_in m q x a b ≡ x ∷ [] = ap (λ (n : ℕ). only_in m q x n b) is.0 ∙ ap (λ (n : ℕ). only_in m q x m n) is.1 ∙ here m q x in
      ap (filter p) one ∙ ap (λ c. cond c (x ∷ []) []) e
  | inr isnt ↦ ap (filter p) isnt.1
]

-- what is taken out of a cell was said there, and what is left still is
taken_is : (p : Item → Bool) (less more : List (List (Option Item))) (m q : ℕ) (x : Item) → HoldsMore less more m q x
    → filter p (held_at more m q) ≡ held_at more m q → (a b : ℕ)
    → filter p (only_in m q x a b) ≡ only_in m q x a b
taken_is p less more m q x h said a b = elim (at_or_else m q x a b) [
  | inl is ↦
      let at : only_in m q x a b ≡ only_in m q x m q = ap (λ (n : ℕ). only_in m q x n b) is.0 ∙ ap (λ (n : ℕ). only_in m q x m n) is.1 in
      let one : held_at more m q ≡ only_in m q x m q = h.each m q ∙ ap (λ (l : List Item). l ++ only_in m q x m q) h.free in
      ap (filter p) (at ∙ sym one) ∙ said ∙ one ∙ sym at
  | inr isnt ↦ ap (filter p) isnt.1 ∙ sym isnt.1
]

left_is : (p : Item → Bool) (less more : List (List (Option Item))) (m q : ℕ) (x : Item) → HoldsMore less more m q x
    → (a b : ℕ) → filter p (held_at more a b) ≡ held_at more a b
    → filter p (held_at less a b) ≡ held_at less a b
left_is p less more m q x h a b said = elim (at_or_else m q x a b) [
  | inl is ↦
      let none : held_at less a b ≡ [] = ap (λ (n : ℕ). held_at less n b) is.0 ∙ ap (λ (n : ℕ). held_at less m n) is.1 ∙ h.free in
      ap (filter p) none ∙ sym none
  | inr isnt ↦
      let same : held_at less a b ≡ held_at more a b =
      sym (append-nil (held_at less a b)) ∙ ap (λ (l : List Item). held_at less a b ++ l) (sym isnt.1) ∙ sym (h.each a b) in
      ap (filter p) same ∙ said ∙ sym same
]

module _ {M L : Type 0} (tells : M → MouthTold L) where
  -- what is said is the same for the sender at its start
  pub said_same : (j : Sender M) (acts : List Act) (s : State M) (x : Item) → SoFar tells j acts s
      → is_said s.sender x ≡ is_said j x
  said_same j acts s x h =
      ap (λ (n : ℕ). nat_lt x.link n && nat_lt x.member.place s.sender.places) h.same_links
      ∙ ap (λ (n : ℕ). nat_lt x.link (length j.mouths.items) && nat_lt x.member.place n) h.same_places

  -- the same acts, with other queues, cells and items in hand
  pub other_queues : (j s t : Sender M) (acts : List Act) (noted : List ℕ) (old new : ℕ → ℕ → List Item)
      → SameRest s t
      → IsSameGrid (queues_of j) (queues_of t)
      → ((a b : ℕ) → filter (is_said j) (popped_at (queues_of t) a b)
      ≡ things_of a b acts ++ (held_at (cells_of t) a b ++ filter (is_said j) (new a b)))
      → ((a b : ℕ) → filter (is_said j) (held_at (cells_of t) a b) ≡ held_at (cells_of t) a b)
      → map length (cells_of t) ≡ map length (cells_of j)
      → SoFar tells j acts (record { sender = s; noted = noted; taken = old; asked = [] })
      → SoFar tells j acts (record { sender = t; noted = noted; taken = new; asked = [] })
  other_queues j s t acts noted old new same grid queues held cells h = record {
    turns = h.turns;
    noted = h.noted;
    counts = h.counts;
    same_queues = grid;
    queues = queues;
    held_said = held;
    same_door = same.door ∙ h.same_door ∙ ap (λ (d : PopEnd Direct). record j.door { popped = d.popped }) (sym same.door);
    door = ap (λ (d : PopEnd Direct). filter (is_answered j) d.popped) same.door ∙ h.door;
    notes = same.notes ∙ h.notes;
    mouths = subst (λ (ms : List M). EachMouth (λ i m n. SaidByLink j.name acts i (tells m) (tells n)) 0 j.mouths.items ms)
        (sym same.mouths) h.mouths;
    same_name = same.name ∙ h.same_name;
    same_places = same.places ∙ h.same_places;
    same_cells = cells;
    same_links = ap (λ (ms : List M). length ms) same.mouths ∙ h.same_links;
  }

  -- an item is popped
  pub pops_item : RowsPop Item → GridsPop Item → (j s t : Sender M) (acts : List Act) (noted : List ℕ) (m q : ℕ) (x : Item)
      → SameRest s t → HasPlace (queues_of s) m q
      → queues_of t ≡ pop_grid (only_in m q x) 0 (queues_of s) → cells_of t ≡ cells_of s
      → SoFar tells j acts (at_rest s noted) → SoFar tells j acts (with_item t noted m q (Some x))
  pops_item row_law law j s t acts noted m q x same place queues cells h =
      other_queues j s t acts noted (at_rest s noted).taken (only_in m q x) same
      (subst (λ (rows : List (List (PopEnd Item))). IsSameGrid (queues_of j) rows) (sym queues)
      (law.kept (only_in m q x) 0 (queues_of s) ∙ h.same_queues))
      (λ a b. ap (λ (rows : List (List (PopEnd Item))). filter (is_said j) (popped_at rows a b)) queues
      ∙ ap (filter (is_said j)) (popped_more row_law law (queues_of s) m q x place a b)
      ∙ filter-append (is_said j) (popped_at (queues_of s) a b) (only_in m q x a b)
      ∙ ap (λ (l : List Item). l ++ filter (is_said j) (only_in m q x a b))
      (h.queues a b ∙ ap (λ (l : List Item). things_of a b acts ++ l) (append-nil (held_at (cells_of s) a b)))
      ∙ append_assoc (things_of a b acts) (held_at (cells_of s) a b) (filter (is_said j) (only_in m q x a b))
      ∙ ap (λ (rows : List (List (Option Item))). things_of a b acts
      ++ (held_at rows a b ++ filter (is_said j) (only_in m q x a b))) (sym cells))
      (λ a b. ap (λ (rows : List (List (Option Item))). filter (is_said j) (held_at rows a b)) cells
      ∙ h.held_said a b ∙ ap (λ (rows : List (List (Option Item))). held_at rows a b) (sym cells))
      (ap (map length) cells ∙ h.same_cells) h

  -- the item held back is taken
  pub takes_item : (j s t : Sender M) (acts : List Act) (noted : List ℕ) (m q : ℕ) (x : Item)
      → SameRest s t → queues_of t ≡ queues_of s → HoldsMore (cells_of t) (cells_of s) m q x
      → SoFar tells j acts (at_rest s noted) → SoFar tells j acts (with_item t noted m q (Some x))
  takes_item j s t acts noted m q x same queues less h =
      let p = is_said j in
      other_queues j s t acts noted (at_rest s noted).taken (only_in m q x) same
      (subst (λ (rows : List (List (PopEnd Item))). IsSameGrid (queues_of j) rows) (sym queues) h.same_queues)
      (λ a b. ap (λ (rows : List (List (PopEnd Item))). filter p (popped_at rows a b)) queues
      ∙ h.queues a b ∙ ap (λ (l : List Item). things_of a b acts ++ l)
      (append-nil (held_at (cells_of s) a b) ∙ less.each a b
      ∙ ap (λ (l : List Item). held_at (cells_of t) a b ++ l)
      (sym (taken_is p (cells_of t) (cells_of s) m q x less (h.held_said m q) a b))))
      (λ a b. left_is p (cells_of t) (cells_of s) m q x less a b (h.held_said a b))
      (sym less.shape ∙ h.same_cells) h

  -- the item in hand is held back
  pub holds_item : (j s t : Sender M) (acts : List Act) (noted : List ℕ) (m q : ℕ) (x : Item)
      → SameRest s t → queues_of t ≡ queues_of s → HoldsMore (cells_of s) (cells_of t) m q x
      → is_said s x ≡ true
      → SoFar tells j acts (with_item s noted m q (Some x)) → SoFar tells j acts (at_rest t noted)
  holds_item j s t acts noted m q x same queues more there h =
      let p = is_said j in
      let said : is_said j x ≡ true = sym (said_same j acts (with_item s noted m q (Some x)) x h) ∙ there in
      other_queues j s t acts noted (only_in m q x) (at_rest t noted).taken same
      (subst (λ (rows : List (List (PopEnd Item))). IsSameGrid (queues_of j) rows) (sym queues) h.same_queues)
      (λ a b. ap (λ (rows : List (List (PopEnd Item))). filter p (popped_at rows a b)) queues
      ∙ h.queues a b ∙ ap (λ (l : List Item). things_of a b acts ++ l)
      (ap (λ (l : List Item). held_at (cells_of s) a b ++ l) (one_said p m q x a b said)
      ∙ sym (more.each a b) ∙ sym (append-nil (held_at (cells_of t) a b))))
      (λ a b. ap (filter p) (more.each a b)
      ∙ filter-append p (held_at (cells_of s) a b) (only_in m q x a b)
      ∙ ap (λ (l : List Item). l ++ filter p (only_in m q x a b)) (h.held_said a b)
      ∙ ap (λ (l : List Item). held_at (cells_of s) a b ++ l) (one_said p m q x a b said)
      ∙ sym (more.each a b))
      (more.shape ∙ h.same_cells) h

  -- the item in hand is passed over
  pub passes_item : (j s : Sender M) (acts : List Act) (noted : List ℕ) (m q : ℕ) (x : Item)
      → is_said s x ≡ false
      → SoFar tells j acts (with_item s noted m q (Some x)) → SoFar tells j acts (at_rest s noted)
  passes_item j s acts noted m q x there h =
      let p = is_said j in
      let said : is_said j x ≡ false = sym (said_same j acts (with_item s noted m q (Some x)) x h) ∙ there in
      other_queues j s s acts noted (only_in m q x) (at_rest s noted).taken
      (record { name = refl; places = refl; mouths = refl; notes = refl; door = refl; order = refl })
      h.same_queues
      (λ a b. h.queues a b ∙ ap (λ (l : List Item). things_of a b acts ++ (held_at (cells_of s) a b ++ l))
      (none_said p m q x a b said))
      h.held_said h.same_cells h

-- what goes on with no act more, and with these
module _ {M L : Type 0} (tells : M → MouthTold L) where
  pub goes_same : (s t : State M)
      → ((j : Sender M) (acts : List Act) → SoFar tells j acts s → SoFar tells j acts t)
      → (IsShaped s.sender → IsShaped t.sender) → t.sender.places ≡ s.sender.places
      → length t.sender.queues.items ≡ length s.sender.queues.items → t.sender.order ≡ s.sender.order
      → GoesOn tells s t
  goes_same s t on shaped places modules order = record {
    grows = record {
      on = λ j acts h. ([], subst (λ (l : List Act). SoFar tells j l t) (sym (append-nil acts)) (on j acts h));
      shaped = shaped;
      same_places = places;
      same_modules = modules;
    };
    same_order = order;
  }

  pub goes_with : (s t : State M) (more : List Act)
      → ((j : Sender M) (acts : List Act) → SoFar tells j acts s → SoFar tells j (acts ++ more) t)
      → (IsShaped s.sender → IsShaped t.sender) → t.sender.places ≡ s.sender.places
      → length t.sender.queues.items ≡ length s.sender.queues.items → t.sender.order ≡ s.sender.order
      → GoesOn tells s t
  goes_with s t more on shaped places modules order = record {
    grows = record {
      on = λ j acts h. (more, on j acts h);
      shaped = shaped;
      same_places = places;
      same_modules = modules;
    };
    same_order = order;
  }

  pub grows_on : (a b c : State M) → Grows tells a b → Grows tells b c → Grows tells a c
  grows_on a b c f h = record {
    on = λ j acts so.
        let first = f.on j acts so in let next = h.on j (acts ++ first.0) first.1 in
        (first.0 ++ next.0, subst (λ (l : List Act). SoFar tells j l c) (append_assoc acts first.0 next.0) next.1);
    shaped = λ s. h.shaped (f.shaped s);
    same_places = h.same_places ∙ f.same_places;
    same_modules = h.same_modules ∙ f.same_modules;
  }

  pub goes_on : (a b c : State M) → GoesOn tells a b → GoesOn tells b c → GoesOn tells a c
  goes_on a b c f h =
      record { grows = grows_on a b c f.grows h.grows; same_order = h.same_order ∙ f.same_order }

  pub goes_nowhere : (s : State M) → GoesOn tells s s
  goes_nowhere s = goes_same s s (λ j acts h. h) (λ h. h) refl refl refl

  pub queue_count : (s t : Sender M) → map length (queues_of t) ≡ map length (queues_of s)
      → length t.queues.items ≡ length s.queues.items
  queue_count s t e =
      sym (length-map t.queues.items (λ row. row.items)) ∙ same_count (queues_of s) (queues_of t) e
      ∙ length-map s.queues.items (λ row. row.items)

  pub held_count : (s t : Sender M) → map length (cells_of t) ≡ map length (cells_of s)
      → length t.held.items ≡ length s.held.items
  held_count s t e =
      sym (length-map t.held.items (λ row. row.items)) ∙ same_count (cells_of s) (cells_of t) e
      ∙ length-map s.held.items (λ row. row.items)

  -- the queues and the cells are as many, and each row as long
  pub shape_kept : (s t : Sender M) → SameRest s t → map length (queues_of t) ≡ map length (queues_of s)
      → map length (cells_of t) ≡ map length (cells_of s) → IsShaped s → IsShaped t
  shape_kept s t same queues cells h = record {
    links = ap (λ (ns : List (PushEnd Member)). length ns) same.notes ∙ h.links ∙ sym (ap (λ (ms : List M). length ms) same.mouths);
    modules = held_count s t cells ∙ h.modules ∙ sym (queue_count s t queues);
    queues = subst (λ (n : ℕ). All (λ row. length row ≡ n) (queues_of t)) (sym same.places)
        (same_long s.places (queues_of s) (queues_of t) queues h.queues);
    cells = subst (λ (n : ℕ). All (λ row. length row ≡ n) (cells_of t)) (sym same.places)
        (same_long s.places (cells_of s) (cells_of t) cells h.cells);
  }

  -- an item of a queue comes to hand: the one held back, or the oldest in its lane
  pub goes_from_cell : (s t : Sender M) (noted : List ℕ) (m q : ℕ) (x : Item)
      → SameRest s t → queues_of t ≡ queues_of s → length t.queues.items ≡ length s.queues.items
      → HoldsMore (cells_of t) (cells_of s) m q x
      → GoesOn tells (at_rest s noted) (with_item t noted m q (Some x))
  goes_from_cell s t noted m q x same queues count less =
      goes_same (at_rest s noted) (with_item t noted m q (Some x))
      (λ j acts h. takes_item tells j s t acts noted m q x same queues less h)
      (shape_kept s t same (ap (map length) queues) (sym less.shape)) same.places count same.order

  pub goes_from_lane : RowsPop Item → GridsPop Item → (r : Option Item) (s t : Sender M) (noted : List ℕ) (m q : ℕ)
      → SameRest s t → HasPlace (queues_of s) m q
      → MatchOption r (queues_of t ≡ queues_of s) (λ x. queues_of t ≡ pop_grid (only_in m q x) 0 (queues_of s))
      → cells_of t ≡ cells_of s
      → GoesOn tells (at_rest s noted) (with_item t noted m q r)
  goes_from_lane row_law law None s t noted m q same place queues cells =
      goes_same (at_rest s noted) (at_rest t noted)
      (λ j acts h. other_queues tells j s t acts noted (at_rest s noted).taken (at_rest t noted).taken same
      (subst (λ (rows : List (List (PopEnd Item))). IsSameGrid (queues_of j) rows) (sym queues) h.same_queues)
      (λ a b. ap (λ (rows : List (List (PopEnd Item))). filter (is_said j) (popped_at rows a b)) queues ∙ h.queues a b
      ∙ ap (λ (rows : List (List (Option Item))). things_of a b acts ++ (held_at rows a b ++ [])) (sym cells))
      (λ a b. ap (λ (rows : List (List (Option Item))). filter (is_said j) (held_at rows a b)) cells
      ∙ h.held_said a b ∙ ap (λ (rows : List (List (Option Item))). held_at rows a b) (sym cells))
      (ap (map length) cells ∙ h.same_cells) h)
      (shape_kept s t same (ap (map length) queues) (ap (map length) cells)) same.places
      (queue_count s t (ap (map length) queues)) same.order
  goes_from_lane row_law law (Some x) s t noted m q same place queues cells =
      let shape : map length (queues_of t) ≡ map length (queues_of s) =
      ap (map length) queues ∙ grid_count (only_in m q x) 0 (queues_of s) in
      goes_same (at_rest s noted) (with_item t noted m q (Some x))
      (λ j acts h. pops_item tells row_law law j s t acts noted m q x same place queues cells h)
      (shape_kept s t same shape (ap (map length) cells)) same.places (queue_count s t shape) same.order

  pub goes_back : (s t : Sender M) (noted : List ℕ) (m q : ℕ) (x : Item)
      → SameRest s t → queues_of t ≡ queues_of s → length t.queues.items ≡ length s.queues.items
      → HoldsMore (cells_of s) (cells_of t) m q x → is_said s x ≡ true
      → GoesOn tells (with_item s noted m q (Some x)) (at_rest t noted)
  goes_back s t noted m q x same queues count more there =
      goes_same (with_item s noted m q (Some x)) (at_rest t noted)
      (λ j acts h. holds_item tells j s t acts noted m q x same queues more there h)
      (shape_kept s t same (ap (map length) queues) more.shape) same.places count same.order

  pub goes_past : (s : Sender M) (noted : List ℕ) (m q : ℕ) (x : Item) → is_said s x ≡ false
      → GoesOn tells (with_item s noted m q (Some x)) (at_rest s noted)
  goes_past s noted m q x there =
      goes_same (with_item s noted m q (Some x)) (at_rest s noted)
      (λ j acts h. passes_item tells j s acts noted m q x there h) (λ h. h) refl refl refl
