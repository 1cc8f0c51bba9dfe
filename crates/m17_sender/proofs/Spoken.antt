-- What a sender has done so far, when the item in hand is said, and when a reply is.
use Rattle.std.proofs.Common.{◌≡◌, ◌≢◌, inl, inr, ℕ, ◌<◌, ◌≤◌, ◌+◌, ◌-◌, ◌^◌, min, Bool, true, false, cond, ◌&&◌, ◌==◌, List, [], ◌∷◌, ◌++◌, length, map, filter, nat_lt, slice_index, Option, None, Some, refl, sym, ap, subst, ◌∙◌, eq-eqb, ne_eqb, arith}
use Rattle.std.specs.List.{All}
use Rattle.std.proofs.lemmas.List.{append-nil, append_assoc, length-append, length-set}
use Rattle.std.proofs.lemmas.List.Elements.{filter-append}
use Rattle.std.proofs.lemmas.Grind.{flat_map-append}
use Rattle.m17_lane.specs.Ends.{PopEnd, popped_from}
use Rattle.m17_values.specs.declared.member.Member.{Member}
use Rattle.m17_ports.specs.Mouth.{MouthTold}
use Rattle.m17_ports.specs.Laws.{MouthsSayInTurn}
use Rattle.m17_control.specs.declared.item.Item.{Item}
use Rattle.m17_control.specs.declared.item.Direct.{Direct}
use Rattle.m17_control.specs.declared.item.Said.TheVariants.{Hello}
use Rattle.std.specs.Option.{is_some}
use Rattle.m17_lists.proofs.Places.{each_place_has_one}
use Rattle.m17_values.specs.declared.peer.Peer.{Peer}
use Rattle.m17_control.specs.declared.packet.Packet.{Packet}
use Rattle.m17_control.specs.declared.packet.Packet.TheVariants as packets
use Rattle.m17_control.specs.Spelled.{packet_said}
use Rattle.m17_lane.specs.Grids.{IsSameGrid, only_in}
use Rattle.m17_lane.specs.Rows.{push_each}
use Rattle.m17_lane.specs.RowsLaws.{RowsPush}
use Rattle.m17_sender.specs.Acts.{Act, Saying, answer_of, answers_of, notes_of, note_of, saying_of, sayings, thing_of, things_of, to_peer, AreSpelled}
use Rattle.m17_sender.specs.Laws.{SpelledPartByPart, TurnsGrow}
use Rattle.m17_sender.specs.declared.sender.Sender.{Sender}
use Rattle.m17_sender.specs.Places.{cells_of, held_at, is_answered, is_said, popped_at, queues_of}
use Rattle.m17_sender.specs.Ready.{IsShaped}
use Rattle.m17_sender.specs.Saying.{SaysOn}
use Rattle.m17_sender.specs.Sent.{EachMouth, SaidByLink, bye_of, bye_on, byes_of}
use Rattle.m17_sender.specs.SoFar.{at_rest, IsNoted, SoFar, State, with_item, with_reply}
use Rattle.m17_sender.proofs.Lists.{at_or_else, set_same}
use Rattle.m17_sender.proofs.Mouths.{each_set}
use Rattle.m17_sender.proofs.Notes.{acts_of_item, answers_more, byes_more, notes_more, sayings_more, things_more, turns_item}
use Rattle.m17_sender.proofs.Queued.{held_count, one_said, queue_count, said_same}

-- all but the mouths, the notes and the door is the same
pub record SameQueues {M : Type 0} (s t : Sender M) : Type 0 where
  pub name : t.name ≡ s.name
  pub places : t.places ≡ s.places
  pub queues : queues_of t ≡ queues_of s
  pub cells : cells_of t ≡ cells_of s

both_tests : (c d : Bool) (l : List Item) → cond (c && d) l [] ≡ cond c (cond d l []) []
both_tests true d l = refl
both_tests false d l = refl

thing_is : (m q : ℕ) (x : Item) (a b : ℕ) → thing_of a b (Act.Says m q x) ≡ only_in m q x a b
thing_is m q x a b = both_tests (a == m) (b == q) (x ∷ [])

-- what says nothing
pub silent : (peer : Peer) (packet : Option Packet) → false ≡ is_some packet → to_peer peer packet ≡ []
silent peer None e = refl
silent peer (Some packet) e = absurd (let bad : ⊥ = cc in bad)

pub says_nothing : {M L : Type 0} (tells : M → MouthTold L) → MouthsSayInTurn L → (ms : List M) (link : ℕ) (peer : Peer)
    (packet : Option Packet) → link < length ms → false ≡ is_some packet
    → SaysOn tells link (to_peer peer packet) ms ms
says_nothing tells law ms link peer packet lt none =
    let m = each_place_has_one ms link lt in record {
      mouth = m.0;
      now = m.0;
      datagrams = [];
      was = m.1;
      is = sym (set_same ms link m.0 m.1);
      spelled = subst (λ (l : List Saying). AreSpelled l []) (sym (silent peer packet none)) tt;
      said = law.nothing (tells m.0);
    }

-- one thing more stands behind what is held, where nothing is held
behind : (cells : List (List (Option Item))) (m q : ℕ) (x : Item) (a b : ℕ) → held_at cells m q ≡ []
    → held_at cells a b ++ only_in m q x a b ≡ only_in m q x a b ++ (held_at cells a b ++ [])
behind cells m q x a b free = elim (at_or_else m q x a b) [
  | inl is ↦
      let none : held_at cells a b ≡ [] = ap (λ (n : ℕ). held_at cells n b) is.0 ∙ ap (λ (n : ℕ). held_at cells m n) is.1 ∙ free in
      ap (λ (l : List Item). l ++ only_in m q x a b) none ∙ sym (append-nil (only_in m q x a b))
      ∙ ap (λ (l : List Item). only_in m q x a b ++ (l ++ [])) (sym none)
  | inr isnt ↦ ap (λ (l : List Item). held_at cells a b ++ l) isnt.1
      ∙ ap (λ (l : List Item). l ++ (held_at cells a b ++ [])) (sym isnt.1)
]

module _ {M L : Type 0} (tells : M → MouthTold L) where
  abbrev Say : ℕ → List Act → ℕ → M → M → Type 0
  Say name acts i m n = SaidByLink name acts i (tells m) (tells n)

  mouths_more : MouthsSayInTurn L → SpelledPartByPart → (name : ℕ) (acts more : List Act) (link : ℕ) (new : List Saying)
      (js ss ts : List M) → SaysOn tells link new ss ts
      → sayings name link more ≡ sayings name link acts ++ new
      → ((i : ℕ) → i ≢ link → sayings name i more ≡ sayings name i acts)
      → EachMouth (Say name acts) 0 js ss → EachMouth (Say name more) 0 js ts
  mouths_more law spell name acts more link new js ss ts said here others h =
      subst (λ (ms : List M). EachMouth (Say name more) 0 js ms) (sym said.is)
      (each_set (Say name acts) (Say name more) 0 js ss link link said.mouth said.now (omega arith) said.was
      (λ m old. record {
        datagrams = old.datagrams ++ said.datagrams;
        spelled = subst (λ (l : List Saying). AreSpelled l (old.datagrams ++ said.datagrams)) (sym here)
            (spell.in_turn (sayings name link acts) new old.datagrams said.datagrams old.spelled said.spelled);
        said = law.in_turn (tells m) (tells said.mouth) (tells said.now) old.datagrams said.datagrams old.said said.said;
      })
      (λ i m n ne old. record {
        datagrams = old.datagrams;
        spelled = subst (λ (l : List Saying). AreSpelled l old.datagrams) (sym (others i ne)) old.spelled;
        said = old.said;
      }) h)

  pub says_item : TurnsGrow → RowsPush Member → MouthsSayInTurn L → SpelledPartByPart
      → (j s t : Sender M) (acts : List Act) (noted counted : List ℕ) (m q : ℕ) (x : Item)
      → SameQueues s t → t.door ≡ s.door
      → SaysOn tells x.link (to_peer x.peer (packet_said x.body s.name)) s.mouths.items t.mouths.items
      → t.notes.items ≡ push_each (λ i. bye_on i x) 0 s.notes.items
      → IsNoted x noted counted → x.link < 256 → is_said s x ≡ true
      → ((after : ℕ) → x.body ≡ Hello after → after ≤ slice_index noted x.link)
      → held_at (cells_of s) m q ≡ []
      → SoFar tells j acts (with_item s noted m q (Some x))
      → SoFar tells j (acts ++ acts_of_item m q x) (at_rest t counted)
  says_item turn_law row_law law spell j s t acts noted counted m q x same door said notes note link there in_turn free h =
      let more = acts ++ acts_of_item m q x in
      let p = is_said j in
      let so : is_said j x ≡ true = sym (said_same tells j acts (with_item s noted m q (Some x)) x h) ∙ there in record {
        turns = turns_item turn_law acts m q x h.turns
            (λ after is. let enough = in_turn after is in let count = h.counts x.link link in omega (arith, enough, count));
        noted = λ i. notes_more i m q x acts ∙ ap (λ (l : List Member). l ++ bye_on i x) (h.noted i) ∙ sym (byes_more i m q x acts);
        counts = λ i lt.
            let count = h.counts i lt in
            let next = note i lt (omega (arith, count)) in
            let long : length (notes_of i more) ≡ length (notes_of i acts) + length (bye_on i x) =
            ap (λ (l : List Member). length l) (notes_more i m q x acts) ∙ length-append (notes_of i acts) (bye_on i x) in
            omega (arith, count, next, long);
        same_queues = subst (λ (rows : List (List (PopEnd Item))). IsSameGrid (queues_of j) rows) (sym same.queues) h.same_queues;
        queues = λ a b. ap (λ (rows : List (List (PopEnd Item))). filter p (popped_at rows a b)) same.queues
            ∙ h.queues a b
            ∙ ap (λ (l : List Item). things_of a b acts ++ (held_at (cells_of s) a b ++ l)) (one_said p m q x a b so)
            ∙ ap (λ (l : List Item). things_of a b acts ++ l) (behind (cells_of s) m q x a b free)
            ∙ sym (append_assoc (things_of a b acts) (only_in m q x a b) (held_at (cells_of s) a b ++ []))
            ∙ ap (λ (l : List Item). (things_of a b acts ++ l) ++ (held_at (cells_of s) a b ++ [])) (sym (thing_is m q x a b))
            ∙ ap (λ (l : List Item). l ++ (held_at (cells_of s) a b ++ [])) (sym (things_more a b m q x acts))
            ∙ ap (λ (rows : List (List (Option Item))). things_of a b more ++ (held_at rows a b ++ [])) (sym same.cells);
        held_said = λ a b. ap (λ (rows : List (List (Option Item))). filter p (held_at rows a b)) same.cells
            ∙ h.held_said a b ∙ ap (λ (rows : List (List (Option Item))). held_at rows a b) (sym same.cells);
        same_door = door ∙ h.same_door ∙ ap (λ (d : PopEnd Direct). record j.door { popped = d.popped }) (sym door);
        door = ap (λ (d : PopEnd Direct). filter (is_answered j) d.popped) door ∙ h.door
            ∙ ap (λ (l : List Direct). l ++ []) (sym (answers_more m q x acts));
        notes = notes ∙ ap (push_each (λ i. bye_on i x) 0) h.notes
            ∙ row_law.twice (λ i. notes_of i acts) (λ i. bye_on i x) 0 j.notes.items
            ∙ row_law.same (λ i. notes_of i acts ++ bye_on i x) (λ i. notes_of i more) j.notes.items
            (λ i lt. sym (notes_more i m q x acts));
        mouths = mouths_more law spell j.name acts more x.link (to_peer x.peer (packet_said x.body s.name))
            j.mouths.items s.mouths.items t.mouths.items said
            (sayings_more j.name x.link m q x acts
            ∙ ap (λ b. sayings j.name x.link acts ++ cond b (to_peer x.peer (packet_said x.body j.name)) []) (eq-eqb x.link x.link refl)
            ∙ ap (λ (n : ℕ). sayings j.name x.link acts ++ to_peer x.peer (packet_said x.body n)) (sym h.same_name))
            (λ i ne. sayings_more j.name i m q x acts
            ∙ ap (λ b. sayings j.name i acts ++ cond b (to_peer x.peer (packet_said x.body j.name)) []) (ne_eqb i x.link ne)
            ∙ append-nil (sayings j.name i acts)) h.mouths;
        same_name = same.name ∙ h.same_name;
        same_places = same.places ∙ h.same_places;
        same_cells = ap (map length) same.cells ∙ h.same_cells;
        same_links = ap (λ (ms : List M). length ms) said.is ∙ length-set s.mouths.items x.link said.now ∙ h.same_links;
      }

  -- a reply is popped
  pub pops_reply : (j s t : Sender M) (acts : List Act) (noted : List ℕ) (d : Direct)
      → SameQueues s t → t.mouths.items ≡ s.mouths.items → t.notes.items ≡ s.notes.items
      → t.door ≡ popped_from s.door d
      → SoFar tells j acts (at_rest s noted) → SoFar tells j acts (with_reply t noted d)
  pops_reply j s t acts noted d same mouths notes door h =
      let p = is_said j in
      let popped : t.door.popped ≡ s.door.popped ++ d ∷ [] = ap (λ (e : PopEnd Direct). e.popped) door in record {
        turns = h.turns;
        noted = h.noted;
        counts = h.counts;
        same_queues = subst (λ (rows : List (List (PopEnd Item))). IsSameGrid (queues_of j) rows) (sym same.queues) h.same_queues;
        queues = λ a b. ap (λ (rows : List (List (PopEnd Item))). filter p (popped_at rows a b)) same.queues ∙ h.queues a b
            ∙ ap (λ (rows : List (List (Option Item))). things_of a b acts ++ (held_at rows a b ++ [])) (sym same.cells);
        held_said = λ a b. ap (λ (rows : List (List (Option Item))). filter p (held_at rows a b)) same.cells
            ∙ h.held_said a b ∙ ap (λ (rows : List (List (Option Item))). held_at rows a b) (sym same.cells);
        same_door = door ∙ ap (λ (e : PopEnd Direct). popped_from e d) h.same_door
            ∙ ap (λ (l : List Direct). record j.door { popped = l }) (sym popped);
        door = ap (filter (is_answered j)) popped
            ∙ filter-append (is_answered j) s.door.popped (d ∷ [])
            ∙ ap (λ (l : List Direct). l ++ filter (is_answered j) (d ∷ [])) (h.door ∙ append-nil (answers_of acts));
        notes = notes ∙ h.notes;
        mouths = subst (λ (ms : List M). EachMouth (Say j.name acts) 0 j.mouths.items ms) (sym mouths) h.mouths;
        same_name = same.name ∙ h.same_name;
        same_places = same.places ∙ h.same_places;
        same_cells = ap (map length) same.cells ∙ h.same_cells;
        same_links = ap (λ (ms : List M). length ms) mouths ∙ h.same_links;
      }

  answered_same : (j : Sender M) (acts : List Act) (s : State M) (d : Direct) → SoFar tells j acts s
      → is_answered s.sender d ≡ is_answered j d
  answered_same j acts s d h = ap (λ (n : ℕ). nat_lt d.link n) h.same_links

  -- the reply in hand is passed over
  pub passes_reply : (j s : Sender M) (acts : List Act) (noted : List ℕ) (d : Direct) → is_answered s d ≡ false
      → SoFar tells j acts (with_reply s noted d) → SoFar tells j acts (at_rest s noted)
  passes_reply j s acts noted d there h =
      let so : is_answered j d ≡ false = sym (answered_same j acts (with_reply s noted d) d h) ∙ there in record {
        turns = h.turns;
        noted = h.noted;
        counts = h.counts;
        same_queues = h.same_queues;
        queues = h.queues;
        held_said = h.held_said;
        same_door = h.same_door;
        door = h.door ∙ ap (λ c. answers_of acts ++ cond c (d ∷ []) []) so;
        notes = h.notes;
        mouths = h.mouths;
        same_name = h.same_name;
        same_places = h.same_places;
        same_cells = h.same_cells;
        same_links = h.same_links;
      }

  -- the reply in hand is said
  pub says_reply : TurnsGrow → RowsPush Member → MouthsSayInTurn L → SpelledPartByPart
      → (j s t : Sender M) (acts : List Act) (noted : List ℕ) (d : Direct)
      → SameQueues s t → t.door ≡ s.door → t.notes.items ≡ s.notes.items
      → SaysOn tells d.link ((d.peer, packets.Control d.control) ∷ []) s.mouths.items t.mouths.items
      → is_answered s d ≡ true
      → SoFar tells j acts (with_reply s noted d)
      → SoFar tells j (acts ++ Act.Answers d ∷ []) (at_rest t noted)
  says_reply turn_law row_law law spell j s t acts noted d same door notes said there h =
      let more = acts ++ Act.Answers d ∷ [] in
      let p = is_said j in
      let so : is_answered j d ≡ true = sym (answered_same j acts (with_reply s noted d) d h) ∙ there in
      let all_notes = λ (i : ℕ). flat_map-append (note_of i) acts (Act.Answers d ∷ []) ∙ append-nil (notes_of i acts) in record {
        turns = turn_law.one_more acts (Act.Answers d) h.turns tt;
        noted = λ i. all_notes i ∙ h.noted i
            ∙ sym (flat_map-append (bye_of i) acts (Act.Answers d ∷ []) ∙ append-nil (byes_of i acts));
        counts = λ i lt. h.counts i lt ∙ ap (λ (l : List Member). min (length l) (2 ^ 64 - 1)) (sym (all_notes i));
        same_queues = subst (λ (rows : List (List (PopEnd Item))). IsSameGrid (queues_of j) rows) (sym same.queues) h.same_queues;
        queues = λ a b. ap (λ (rows : List (List (PopEnd Item))). filter p (popped_at rows a b)) same.queues ∙ h.queues a b
            ∙ ap (λ (l : List Item). l ++ (held_at (cells_of s) a b ++ []))
            (sym (flat_map-append (thing_of a b) acts (Act.Answers d ∷ []) ∙ append-nil (things_of a b acts)))
            ∙ ap (λ (rows : List (List (Option Item))). things_of a b more ++ (held_at rows a b ++ [])) (sym same.cells);
        held_said = λ a b. ap (λ (rows : List (List (Option Item))). filter p (held_at rows a b)) same.cells
            ∙ h.held_said a b ∙ ap (λ (rows : List (List (Option Item))). held_at rows a b) (sym same.cells);
        same_door = door ∙ h.same_door ∙ ap (λ (e : PopEnd Direct). record j.door { popped = e.popped }) (sym door);
        door = ap (λ (e : PopEnd Direct). filter (is_answered j) e.popped) door ∙ h.door
            ∙ ap (λ c. answers_of acts ++ cond c (d ∷ []) []) so
            ∙ sym (flat_map-append answer_of acts (Act.Answers d ∷ []))
            ∙ sym (append-nil (answers_of more));
        notes = notes ∙ h.notes
            ∙ row_law.same (λ i. notes_of i acts) (λ i. notes_of i more) j.notes.items (λ i lt. sym (all_notes i));
        mouths = mouths_more law spell j.name acts more d.link ((d.peer, packets.Control d.control) ∷ [])
            j.mouths.items s.mouths.items t.mouths.items said
            (flat_map-append (saying_of j.name d.link) acts (Act.Answers d ∷ [])
            ∙ ap (λ c. sayings j.name d.link acts ++ (cond c ((d.peer, packets.Control d.control) ∷ []) [] ++ [])) (eq-eqb d.link d.link refl))
            (λ i ne. flat_map-append (saying_of j.name i) acts (Act.Answers d ∷ [])
            ∙ ap (λ c. sayings j.name i acts ++ (cond c ((d.peer, packets.Control d.control) ∷ []) [] ++ [])) (ne_eqb i d.link ne)
            ∙ append-nil (sayings j.name i acts)) h.mouths;
        same_name = same.name ∙ h.same_name;
        same_places = same.places ∙ h.same_places;
        same_cells = ap (map length) same.cells ∙ h.same_cells;
        same_links = ap (λ (ms : List M). length ms) said.is ∙ length-set s.mouths.items d.link said.now ∙ h.same_links;
      }

  pub said_shape : (s t : Sender M) → SameQueues s t → length t.notes.items ≡ length s.notes.items
      → length t.mouths.items ≡ length s.mouths.items → IsShaped s → IsShaped t
  said_shape s t same notes mouths h = record {
    links = notes ∙ h.links ∙ sym mouths;
    modules = held_count tells s t (ap (map length) same.cells) ∙ h.modules
        ∙ sym (queue_count tells s t (ap (map length) same.queues));
    queues = subst (λ (n : ℕ). All (λ row. length row ≡ n) (queues_of t)) (sym same.places)
        (subst (λ (rows : List (List (PopEnd Item))). All (λ row. length row ≡ s.places) rows) (sym same.queues) h.queues);
    cells = subst (λ (n : ℕ). All (λ row. length row ≡ n) (cells_of t)) (sym same.places)
        (subst (λ (rows : List (List (Option Item))). All (λ row. length row ≡ s.places) rows) (sym same.cells) h.cells);
  }
