-- What a sender has done at its start and at its end, and the orders that it popped.
use Rattle.std.proofs.Common.{◌≡◌, ◌≢◌, ℕ, ◌<◌, List, [], ◌∷◌, ◌++◌, filter, slice_index, Option, None, Some, refl, sym, ap, subst, ◌∙◌, arith}
use Rattle.std.specs.List.{All, slice_get}
use Rattle.std.proofs.lemmas.List.{append-nil, append_assoc}
use Rattle.std.proofs.lemmas.List.Elements.{All-append}
use Rattle.std.proofs.lemmas.Option.{get_or_from_slice_get, slice_get_within}
use Rattle.m17_values.specs.declared.member.Member.{Member}
use Rattle.m17_ports.specs.Mouth.{MouthTold}
use Rattle.m17_ports.specs.Laws.{MouthsSayInTurn}
use Rattle.m17_crew.specs.declared.order.Order.{Order}
use Rattle.m17_crew.specs.declared.order.Order.TheVariants.{Stop}
use Rattle.m17_lane.specs.Ends.{PopEnd}
use Rattle.m17_control.specs.declared.item.Item.{Item}
use Rattle.m17_lane.specs.Grids.{IsNewGrid}
use Rattle.m17_lane.specs.RowsLaws.{RowsPush}
use Rattle.m17_lane.specs.Rows.{IsNewPopper, IsNewPopRow, pops}
use Rattle.m17_sender.specs.Acts.{Act, answers_of, notes_of, things_of}
use Rattle.m17_sender.specs.Laws.{TurnsGrow}
use Rattle.m17_sender.specs.declared.sender.Sender.{Sender}
use Rattle.m17_sender.specs.declared.hint.Hint.{Hint}
use Rattle.m17_sender.specs.Places.{cells_of, held_at, held_in, in_row, is_answered, is_said, popped_at, popped_by, queues_of}
use Rattle.m17_sender.specs.Ready.{IsReady}
use Rattle.m17_sender.specs.Sent.{HasStopped, Sent}
use Rattle.m17_sender.specs.SoFar.{at_rest, Grows, HasPassed, RestsAt, SoFar}
use Rattle.m17_sender.proofs.Mouths.{each_self}

-- orders in turn
pub passed_on : (a b c : PopEnd Order) → HasPassed a b → HasPassed b c → HasPassed a c
passed_on a b c f h = record {
  others = f.others ++ h.others;
  no_stop = All-append (λ order. order ≢ Stop) f.others h.others f.no_stop h.no_stop;
  orders = h.orders ∙ ap (λ (p : PopEnd Order). pops p h.others) f.orders
      ∙ ap (λ (l : List Order). record a { popped = l }) (append_assoc a.popped f.others h.others);
}

pub passed_stop : (a b c : PopEnd Order) → HasPassed a b → HasStopped b c → HasStopped a c
passed_stop a b c f h = record {
  others = f.others ++ h.others;
  no_stop = All-append (λ order. order ≢ Stop) f.others h.others f.no_stop h.no_stop;
  orders = h.orders ∙ ap (λ (p : PopEnd Order). pops p (h.others ++ Stop ∷ [])) f.orders
      ∙ ap (λ (l : List Order). record a { popped = l })
      (append_assoc a.popped f.others (h.others ++ Stop ∷ []) ∙ ap (λ (l : List Order). a.popped ++ l) (sym (append_assoc f.others h.others (Stop ∷ []))));
}

-- nothing was popped of new queues
new_in : (r : Option (PopEnd Item)) → ((p : PopEnd Item) → r ≡ Some p → p.popped ≡ []) → popped_by r ≡ []
new_in None new = refl
new_in (Some p) new = new p refl

new_row : (r : Option (List (PopEnd Item))) (q : ℕ) → ((row : List (PopEnd Item)) → r ≡ Some row → IsNewPopRow row)
    → popped_by (in_row r q) ≡ []
new_row None q new = refl
new_row (Some row) q new =
    new_in (slice_get row q) (λ p is. subst IsNewPopper (get_or_from_slice_get row q p p is)
    (new row refl q p (slice_get_within row q p is)))

new_grid : (rows : List (List (PopEnd Item))) → IsNewGrid rows → (m q : ℕ) → popped_at rows m q ≡ []
new_grid rows new m q =
    new_row (slice_get rows m) q (λ row is. subst IsNewPopRow (get_or_from_slice_get rows m row row is)
    (new m row (slice_get_within rows m row is)))

-- nothing is held in empty cells
empty_in : (c : Option (Option Item)) → ((cell : Option Item) → c ≡ Some cell → cell ≡ None) → held_in c ≡ []
empty_in None none = refl
empty_in (Some cell) none = ap (λ (x : Option Item). held_in (Some x)) (none cell refl)

empty_row : (r : Option (List (Option Item))) (q : ℕ)
    → ((row : List (Option Item)) → r ≡ Some row → All (λ cell. cell ≡ None) row) → held_in (in_row r q) ≡ []
empty_row None q none = refl
empty_row (Some row) q none =
    empty_in (slice_get row q) (λ cell is. sym (get_or_from_slice_get row q cell cell is)
    ∙ none row refl q cell (slice_get_within row q cell is))

empty_grid : (rows : List (List (Option Item))) → All (λ row. All (λ cell. cell ≡ None) row) rows
    → (m q : ℕ) → held_at rows m q ≡ []
empty_grid rows none m q =
    empty_row (slice_get rows m) q (λ row is. subst (λ (r : List (Option Item)). All (λ cell. cell ≡ None) r)
    (get_or_from_slice_get rows m row row is) (none m row (slice_get_within rows m row is)))

module _ {M L : Type 0} (tells : M → MouthTold L) where
  -- at the start
  pub nothing_yet : RowsPush Member → MouthsSayInTurn L → TurnsGrow → (j : Sender M) (noted : List ℕ) → IsReady j
      → ((i : ℕ) → i < 256 → slice_index noted i ≡ 0)
      → SoFar tells j [] (at_rest j noted)
  nothing_yet row_law law turn_law j noted ready zeros =
      let free = empty_grid (cells_of j) ready.held in record {
        turns = turn_law.none;
        noted = λ i. refl;
        counts = λ i lt. let zero_there = zeros i lt in omega (arith, zero_there);
        same_queues = refl;
        queues = λ m q. ap (filter (is_said j)) (new_grid (queues_of j) ready.queues m q) ∙ ap (λ (l : List Item). l ++ []) (sym (free m q));
        held_said = λ m q. ap (filter (is_said j)) (free m q) ∙ sym (free m q);
        same_door = refl;
        door = ap (filter (is_answered j)) ready.door;
        notes = sym (row_law.none (λ i. notes_of i []) 0 j.notes.items (λ i. refl));
        mouths = each_self _ 0 j.mouths.items (λ i m. record { datagrams = []; spelled = tt; said = law.nothing (tells m) });
        same_name = refl;
        same_places = refl;
        same_cells = refl;
        same_links = refl;
      }

  -- other orders, and another hint
  pub other_order : (s : Sender M) (order : PopEnd Order) (hint : Hint) (noted : List ℕ)
      → Grows tells (at_rest s noted) (at_rest (record s { order = order; hint = hint }) noted)
  other_order s order hint noted = record {
    on = λ j acts h. (
      [],
      subst (λ (l : List Act). SoFar tells j l (at_rest (record s { order = order; hint = hint }) noted))
          (sym (append-nil acts)) (record {
            turns = h.turns;
            noted = h.noted;
            counts = h.counts;
            same_queues = h.same_queues;
            queues = h.queues;
            held_said = h.held_said;
            same_door = h.same_door;
            door = h.door;
            notes = h.notes;
            mouths = h.mouths;
            same_name = h.same_name;
            same_places = h.same_places;
            same_cells = h.same_cells;
            same_links = h.same_links;
          }),
    );
    shaped = λ h. record { links = h.links; modules = h.modules; queues = h.queues; cells = h.cells };
    same_places = refl;
    same_modules = refl;
  }

  -- at the end
  pub has_sent : (j k : Sender M) (order : PopEnd Order) (acts : List Act) (noted : List ℕ)
      → SoFar tells j acts (at_rest k noted) → ((m q : ℕ) → RestsAt k noted m q)
      → HasStopped order k.order → Sent tells j k order
  has_sent j k order acts noted h rests stopped = record {
    acts = acts;
    turns = h.turns;
    noted = h.noted;
    lanes = record {
      same_queues = h.same_queues;
      queues = λ m q. h.queues m q ∙ ap (λ (l : List Item). things_of m q acts ++ l) (append-nil (held_at (cells_of k) m q));
      same_door = h.same_door;
      door = h.door ∙ append-nil (answers_of acts);
      notes = h.notes;
    };
    mouths = h.mouths;
    held = λ m q item e.
        let rest = rests m q item e in
        let count = h.counts item.link rest.link in record {
          after = rest.after;
          hello = rest.hello;
          waits = omega (arith, count, rest.waits, rest.fits);
        };
    stopped = stopped;
    same_name = h.same_name;
    same_places = h.same_places;
    same_cells = h.same_cells;
  }

  -- the order that was popped first is told by itself
  pub since_go : (j k : Sender M) (order after : PopEnd Order) → Sent tells (record j { order = order }) k after → Sent tells j k after
  since_go j k order after h = record {
    acts = h.acts;
    turns = h.turns;
    noted = h.noted;
    lanes = record {
      same_queues = h.lanes.same_queues;
      queues = h.lanes.queues;
      same_door = h.lanes.same_door;
      door = h.lanes.door;
      notes = h.lanes.notes;
    };
    mouths = h.mouths;
    held = h.held;
    stopped = h.stopped;
    same_name = h.same_name;
    same_places = h.same_places;
    same_cells = h.same_cells;
  }
