-- What is looked up in acts that say items of one queue, or replies.
use Rattle.std.proofs.Common.{◌≡◌, ◌≢◌, ◌⊎◌, inl, inr, ℕ, suc, ◌<◌, ◌≤◌, nat_lt, true, false, cond, ◌&&◌, ◌==◌, Bool, List, [], ◌∷◌, ◌++◌, map, filter, refl, sym, ap, ◌∙◌, eq-eqb, ne_eqb, arith, zero, ◌+◌, length, set, Some, subst, drop, Option, append_assoc}
use Rattle.std.proofs.lemmas.Bool.Decides.{leb_tells, eqb_tells}
use Rattle.std.proofs.lemmas.List.{map-append, append-nil}
use Rattle.std.proofs.lemmas.List.Elements.{filter-append}
use Rattle.m17_control.specs.declared.item.Item.{Item}
use Rattle.m17_control.specs.declared.item.Direct.{Direct}
use Rattle.m17_sender.specs.Acts.{Act, answers_of, notes_of, things_of, Saying, saying_of, sayings, to_peer, AreSpelled, answer_of, note_of, thing_of}
use Rattle.m17_reflect.specs.Rest.{has_link, has_link_too, left_at, Rest, SaysRest}
use Rattle.m17_reflect.specs.Saying.{says, SaysItems, SaysReplies, rest_in, SaysRow, SaysRows}
use Rattle.std.specs.List.{slice_get}
use Rattle.std.proofs.lemmas.Grind.{flat_map-append}
use Rattle.m17_ports.specs.Mouth.{MouthTold}
use Rattle.m17_ports.specs.Laws.{MouthsSayInTurn}
use Rattle.m17_control.specs.declared.packet.Packet.TheVariants as packets
use Rattle.m17_control.specs.Spelled.{packet_said}
use Rattle.m17_sender.specs.Laws.{SpelledPartByPart}
use Rattle.m17_sender.specs.Saying.{SaysOn}
use Rattle.m17_sender.specs.Sent.{EachMouth, SaidByLink}
use Rattle.std.proofs.Math.Seq.{drop-append_seam}
use Rattle.m17_lane.specs.Ends.{TrailEnd, left_of}
use Rattle.m17_lane.specs.Orders.{items_of}
use Rattle.m17_sender.specs.Places.{held_at, held_in, in_row}
use Rattle.m17_reflect.specs.Left.{left, left_in, drained}
use Rattle.m17_reflect.proofs.PartsBack.{not_found}

pub lt_tests : (a b : ℕ) → a < b → nat_lt a b ≡ true
lt_tests a b lt = elim (leb_tells (suc a) b) [ inl is ↦ is.0 | inr isnt ↦ absurd (omega (arith, isnt.1)) ]

pub ge_tests : (a b : ℕ) → b ≤ a → nat_lt a b ≡ false
ge_tests a b ge = elim (leb_tells (suc a) b) [ inl is ↦ absurd (omega (arith, is.1)) | inr isnt ↦ isnt.0 ]

both_false : (c d : Bool) (l : List Item) → (c ≡ false) ⊎ (d ≡ false) → cond (c && d) l [] ≡ []
both_false true d l (inl e) = absurd (let bad : ⊥ = cc in bad)
both_false true d l (inr e) = ap (λ b. cond b l []) e
both_false false d l e = refl

pub things_here : (m q : ℕ) (items : List Item) → things_of m q (says m q items) ≡ items
things_here m q [] = refl
things_here m q (x ∷ xs) =
    ap (λ b. cond (b && (q == q)) (x ∷ []) [] ++ things_of m q (says m q xs)) (eq-eqb m m refl)
    ∙ ap (λ b. cond b (x ∷ []) [] ++ things_of m q (says m q xs)) (eq-eqb q q refl)
    ∙ ap (λ (l : List Item). x ∷ l) (things_here m q xs)

things_apart : (a b m q : ℕ) (items : List Item) → ((a == m) ≡ false) ⊎ ((b == q) ≡ false) → things_of a b (says m q items) ≡ []
things_apart a b m q [] e = refl
things_apart a b m q (x ∷ xs) e =
    ap (λ (l : List Item). l ++ things_of a b (says m q xs)) (both_false (a == m) (b == q) (x ∷ []) e)
    ∙ things_apart a b m q xs e

pub other_module : (a b m q : ℕ) (items : List Item) → a ≢ m → things_of a b (says m q items) ≡ []
other_module a b m q items ne = things_apart a b m q items (inl (ne_eqb a m ne))

pub other_place : (a b m q : ℕ) (items : List Item) → b ≢ q → things_of a b (says m q items) ≡ []
other_place a b m q items ne = things_apart a b m q items (inr (ne_eqb b q ne))

pub says_notes : (i m q : ℕ) (items : List Item) → notes_of i (says m q items) ≡ []
says_notes i m q [] = refl
says_notes i m q (x ∷ xs) = says_notes i m q xs

pub says_answers : (m q : ℕ) (items : List Item) → answers_of (says m q items) ≡ []
says_answers m q [] = refl
says_answers m q (x ∷ xs) = says_answers m q xs

pub answers_things : (m q : ℕ) (directs : List Direct) → things_of m q (map Act.Answers directs) ≡ []
answers_things m q [] = refl
answers_things m q (d ∷ ds) = answers_things m q ds

pub answers_notes : (i : ℕ) (directs : List Direct) → notes_of i (map Act.Answers directs) ≡ []
answers_notes i [] = refl
answers_notes i (d ∷ ds) = answers_notes i ds

pub answers_are : (directs : List Direct) → answers_of (map Act.Answers directs) ≡ directs
answers_are [] = refl
answers_are (d ∷ ds) = ap (λ (l : List Direct). d ∷ l) (answers_are ds)

-- the acts of two lists of items
pub says_both : (m q links more : ℕ) (xs ys : List Item) → more ≡ links → says m q (filter (has_link links) xs) ++ says m q (filter (has_link more) ys) ≡ says m q (filter (has_link links) (xs ++ ys))
says_both m q links more xs ys e =
    ap (λ (n : ℕ). says m q (filter (has_link links) xs) ++ says m q (filter (has_link n) ys)) e
    ∙ sym (map-append (λ (item : Item). Act.Says m q item) (filter (has_link links) xs) (filter (has_link links) ys))
    ∙ ap (says m q) (sym (filter-append (has_link links) xs ys))

pub answers_both : (links more : ℕ) (xs ys : List Direct) → more ≡ links → map Act.Answers (filter (has_link_too links) xs) ++ map Act.Answers (filter (has_link_too more) ys) ≡ map Act.Answers (filter (has_link_too links) (xs ++ ys))
answers_both links more xs ys e =
    ap (λ (n : ℕ). map Act.Answers (filter (has_link_too links) xs) ++ map Act.Answers (filter (has_link_too n) ys)) e
    ∙ sym (map-append Act.Answers (filter (has_link_too links) xs) (filter (has_link_too links) ys))
    ∙ ap (map Act.Answers) (sym (filter-append (has_link_too links) xs ys))

-- What the mouths of a row have said: nothing, one act, and one list of acts after another.

pub each_length : {M : Type 0} (P : ℕ → M → M → Type 0) (k : ℕ) (us bs : List M) → EachMouth P k us bs → length bs ≡ length us
each_length P k [] [] h = refl
each_length P k [] (b ∷ bs) h = absurd h
each_length P k (a ∷ us) [] h = absurd h
each_length P k (a ∷ us) (b ∷ bs) h = ap suc (each_length P (suc k) us bs h.1)

module _ {M L : Type 0} (tells : M → MouthTold L) where
  abbrev pub Said : ℕ → List Act → ℕ → M → M → Type 0
  Said name acts i a b = SaidByLink name acts i (tells a) (tells b)

  silent : MouthsSayInTurn L → (name : ℕ) (acts : List Act) (i : ℕ) (a : M) → sayings name i acts ≡ [] → Said name acts i a a
  silent law name acts i a none = record {
    datagrams = [];
    spelled = subst (λ (l : List Saying). AreSpelled l []) (sym none) tt;
    said = law.nothing (tells a);
  }

  all_silent : MouthsSayInTurn L → (name : ℕ) (acts : List Act) (k : ℕ) (us : List M) → ((i : ℕ) → k ≤ i → sayings name i acts ≡ []) → EachMouth (Said name acts) k us us
  all_silent law name acts k [] none = tt
  all_silent law name acts k (a ∷ us) none =
      (silent law name acts k a (none k (omega arith)), all_silent law name acts (suc k) us (λ i le. none i (omega arith)))

  pub say_nothing : MouthsSayInTurn L → (name : ℕ) (us : List M) → EachMouth (Said name []) 0 us us
  say_nothing law name us = all_silent law name [] 0 us (λ i le. refl)

  pub say_both : MouthsSayInTurn L → SpelledPartByPart → (name : ℕ) (first second : List Act) (k : ℕ) (us bs cs : List M) → EachMouth (Said name first) k us bs → EachMouth (Said name second) k bs cs → EachMouth (Said name (first ++ second)) k us cs
  say_both law spell name first second k [] [] [] x y = tt
  say_both law spell name first second k [] [] (c ∷ cs) x y = absurd y
  say_both law spell name first second k [] (b ∷ bs) cs x y = absurd x
  say_both law spell name first second k (a ∷ us) [] cs x y = absurd x
  say_both law spell name first second k (a ∷ us) (b ∷ bs) [] x y = absurd y
  say_both law spell name first second k (a ∷ us) (b ∷ bs) (c ∷ cs) x y =
      let one : Said name first k a b = x.0 in
      let other : Said name second k b c = y.0 in (
        record {
          datagrams = one.datagrams ++ other.datagrams;
          spelled = subst (λ (l : List Saying). AreSpelled l (one.datagrams ++ other.datagrams))
              (sym (flat_map-append (saying_of name k) first second))
              (spell.in_turn (sayings name k first) (sayings name k second) one.datagrams other.datagrams one.spelled other.spelled);
          said = law.in_turn (tells a) (tells b) (tells c) one.datagrams other.datagrams one.said other.said;
        },
        say_both law spell name first second (suc k) us bs cs x.1 y.1,
      )

  -- one act goes out by one link
  one_act : MouthsSayInTurn L → (name : ℕ) (acts : List Act) (new : List Saying) (k link at : ℕ) (us : List M) (old now : M) → link ≡ k + at → slice_get us at ≡ Some old → sayings name link acts ≡ new → ((i : ℕ) → i ≢ link → sayings name i acts ≡ []) → Said name acts link old now → EachMouth (Said name acts) k us (set us at now)
  one_act law name acts new k link at [] old now e is here others h = tt
  one_act law name acts new k link zero (a ∷ us) old now e is here others h =
      let first : link ≡ k = omega arith in let same : old ≡ a = cc in (
        subst (λ (i : ℕ). Said name acts i a now) first (subst (λ (x : M). Said name acts link x now) same h),
        all_silent law name acts (suc k) us (λ i le. others i (λ eq. omega arith)),
      )
  one_act law name acts new k link (suc at) (a ∷ us) old now e is here others h = (
    silent law name acts k a (others k (λ eq. omega arith)),
    one_act law name acts new (suc k) link at us old now (omega arith) is here others h,
  )

  pub says_act : MouthsSayInTurn L → (name : ℕ) (acts : List Act) (new : List Saying) (link : ℕ) (us bs : List M) → SaysOn tells link new us bs → sayings name link acts ≡ new → ((i : ℕ) → i ≢ link → sayings name i acts ≡ []) → EachMouth (Said name acts) 0 us bs
  says_act law name acts new link us bs said here others =
      subst (λ (ms : List M). EachMouth (Said name acts) 0 us ms) (sym said.is)
      (one_act law name acts new 0 link link us said.mouth said.now (omega arith) said.was here others (record {
        datagrams = said.datagrams;
        spelled = subst (λ (l : List Saying). AreSpelled l said.datagrams) (sym here) said.spelled;
        said = said.said;
      }))

  -- an item
  pub item_said : MouthsSayInTurn L → (name : ℕ) (x : Item) (us bs : List M) → SaysOn tells x.link (to_peer x.peer (packet_said x.body name)) us bs → x.link < length us → SaysItems tells name (x ∷ []) us bs
  item_said law name x us bs on lt = record {
    said = λ m q.
        subst (λ (l : List Item). EachMouth (Said name (says m q l)) 0 us bs)
        (sym (ap (λ b. cond b (x ∷ []) []) (lt_tests x.link (length us) lt)))
        (says_act law name (Act.Says m q x ∷ []) (to_peer x.peer (packet_said x.body name)) x.link us bs on
        (ap (λ b. cond b (to_peer x.peer (packet_said x.body name)) [] ++ []) (eq-eqb x.link x.link refl)
        ∙ append-nil (to_peer x.peer (packet_said x.body name)))
        (λ i ne. ap (λ b. cond b (to_peer x.peer (packet_said x.body name)) [] ++ []) (ne_eqb i x.link ne)));
  }

  pub item_passed : MouthsSayInTurn L → (name : ℕ) (x : Item) (us : List M) → length us ≤ x.link → SaysItems tells name (x ∷ []) us us
  item_passed law name x us ge = record {
    said = λ m q. subst (λ (l : List Item). EachMouth (Said name (says m q l)) 0 us us)
        (sym (ap (λ b. cond b (x ∷ []) []) (ge_tests x.link (length us) ge))) (say_nothing law name us);
  }

  pub items_none : MouthsSayInTurn L → (name : ℕ) (us : List M) → SaysItems tells name [] us us
  items_none law name us = record { said = λ m q. say_nothing law name us }

  pub items_then : MouthsSayInTurn L → SpelledPartByPart → (name : ℕ) (xs ys : List Item) (us bs cs : List M) → SaysItems tells name xs us bs → SaysItems tells name ys bs cs → SaysItems tells name (xs ++ ys) us cs
  items_then law spell name xs ys us bs cs h g = record {
    said = λ m q.
        let first = says m q (filter (has_link (length us)) xs) in
        let second = says m q (filter (has_link (length bs)) ys) in
        subst (λ (acts : List Act). EachMouth (Said name acts) 0 us cs)
        (says_both m q (length us) (length bs) xs ys (each_length (Said name first) 0 us bs (h.said m q)))
        (say_both law spell name first second 0 us bs cs (h.said m q) (g.said m q));
  }

  -- a reply
  pub reply_said : MouthsSayInTurn L → (d : Direct) (us bs : List M) → SaysOn tells d.link ((d.peer, packets.Control d.control) ∷ []) us bs → d.link < length us → SaysReplies tells (d ∷ []) us bs
  reply_said law d us bs on lt = record {
    said = λ name.
        subst (λ (l : List Direct). EachMouth (Said name (map Act.Answers l)) 0 us bs)
        (sym (ap (λ b. cond b (d ∷ []) []) (lt_tests d.link (length us) lt)))
        (says_act law name (Act.Answers d ∷ []) ((d.peer, packets.Control d.control) ∷ []) d.link us bs on
        (ap (λ b. cond b ((d.peer, packets.Control d.control) ∷ []) [] ++ []) (eq-eqb d.link d.link refl))
        (λ i ne. ap (λ b. cond b ((d.peer, packets.Control d.control) ∷ []) [] ++ []) (ne_eqb i d.link ne)));
  }

  pub reply_passed : MouthsSayInTurn L → (d : Direct) (us : List M) → length us ≤ d.link → SaysReplies tells (d ∷ []) us us
  reply_passed law d us ge = record {
    said = λ name. subst (λ (l : List Direct). EachMouth (Said name (map Act.Answers l)) 0 us us)
        (sym (ap (λ b. cond b (d ∷ []) []) (ge_tests d.link (length us) ge))) (say_nothing law name us);
  }

  pub replies_none : MouthsSayInTurn L → (us : List M) → SaysReplies tells [] us us
  replies_none law us = record { said = λ name. say_nothing law name us }

  pub replies_then : MouthsSayInTurn L → SpelledPartByPart → (xs ys : List Direct) (us bs cs : List M) → SaysReplies tells xs us bs → SaysReplies tells ys bs cs → SaysReplies tells (xs ++ ys) us cs
  replies_then law spell xs ys us bs cs h g = record {
    said = λ name.
        let first = map Act.Answers (filter (has_link_too (length us)) xs) in
        let second = map Act.Answers (filter (has_link_too (length bs)) ys) in
        subst (λ (acts : List Act). EachMouth (Said name acts) 0 us cs)
        (answers_both (length us) (length bs) xs ys (each_length (Said name first) 0 us bs (h.said name)))
        (say_both law spell name first second 0 us bs cs (h.said name) (g.said name));
  }

-- How a queue, a row of queues and all of them are said, step by step.

module _ {T : Type 0} where
  -- one item more was given out
  pub passed_more : (was is next : TrailEnd T) (xs : List T) (x : T) → is ≡ record was { popped = was.popped ++ xs } → next ≡ left_of is x → next ≡ record was { popped = was.popped ++ (xs ++ x ∷ []) }
  passed_more was is next xs x h e =
      e ∙ ap (λ (t : TrailEnd T). left_of t x) h
      ∙ ap (λ (l : List T). record was { popped = l }) (append_assoc was.popped xs (x ∷ []))

  pub passed_none : (was : TrailEnd T) → was ≡ record was { popped = was.popped ++ [] }
  passed_none was = ap (λ (l : List T). record was { popped = l }) (sym (append-nil was.popped))

  order_is : (was is : TrailEnd T) (xs : List T) → is ≡ record was { popped = was.popped ++ xs } → items_of is.order ≡ is.popped → items_of was.order ≡ was.popped ++ xs
  order_is was is xs h e = ap (λ (t : TrailEnd T). items_of t.order) (sym h) ∙ e ∙ ap (λ (t : TrailEnd T). t.popped) h

  -- all was given out
  pub passed_all : (was is : TrailEnd T) (xs : List T) → is ≡ record was { popped = was.popped ++ xs } → items_of is.order ≡ is.popped → is ≡ drained was
  passed_all was is xs h e = h ∙ ap (λ (l : List T). record was { popped = l }) (sym (order_is was is xs h e))

  pub passed_left : (was is : TrailEnd T) (xs : List T) → is ≡ record was { popped = was.popped ++ xs } → items_of is.order ≡ is.popped → xs ≡ left was
  passed_left was is xs h e =
      sym (drop-append_seam was.popped xs) ∙ ap (drop (length was.popped)) (sym (order_is was is xs h e))

  longer : (xs : List T) (x : T) → length (xs ++ x ∷ []) ≡ suc (length xs)
  longer [] x = refl
  longer (y ∷ xs) x = ap suc (longer xs x)

  below : (xs : List T) (x : T) (rest : List T) → length xs < length (xs ++ x ∷ rest)
  below [] x rest = omega arith
  below (y ∷ xs) x rest = let lt = below xs x rest in omega arith

  -- the count of what is left falls
  pub fewer_left : (is next : TrailEnd T) (x : T) (rest : List T) → next ≡ left_of is x → items_of is.order ≡ is.popped ++ x ∷ rest → (length (items_of next.order) ≡ length (items_of is.order)) × (length next.popped ≡ suc (length is.popped)) × (length is.popped < length (items_of is.order))
  fewer_left is next x rest e o = (
    ap (λ (t : TrailEnd T). length (items_of t.order)) e,
    ap (λ (t : TrailEnd T). length t.popped) e ∙ longer is.popped x,
    subst (λ (l : List T). length is.popped < length l) (sym o) (below is.popped x rest),
  )

-- what stands at a place of a row
rest_at : (cells : List (Option Item)) (queues : List (TrailEnd Item)) (q : ℕ) (cell : Option Item) (queue : TrailEnd Item) → slice_get cells q ≡ Some cell → slice_get queues q ≡ Some queue → held_in (Some cell) ++ left queue ≡ rest_in cells queues q
rest_at cells queues q cell queue ec eq =
    ap (λ o. held_in o ++ left queue) (sym ec) ∙ ap (λ o. held_in (slice_get cells q) ++ left_in o) (sym eq)

-- past the last row nothing stands
past_rows : (cells : List (List (Option Item))) (queues : List (List (TrailEnd Item))) (links m q : ℕ) → length cells ≡ length queues → length queues ≤ m → [] ≡ filter (has_link links) (held_at cells m q ++ left_at queues m q)
past_rows cells queues links m q same le =
    ap (λ o. filter (has_link links) (left_in (in_row o q))) (sym (not_found queues m le))
    ∙ ap (λ o. filter (has_link links) (held_in (in_row o q) ++ left_at queues m q)) (sym (not_found cells m (omega arith)))

module _ {M L : Type 0} (tells : M → MouthTold L) where
  -- no queue of a row yet
  pub row_none : MouthsSayInTurn L → (name m : ℕ) (cells : List (Option Item)) (queues : List (TrailEnd Item)) (us : List M) → SaysRow tells name m 0 cells queues us us
  row_none law name m cells queues us = record {
    acts = [];
    no_notes = λ i. refl;
    no_answers = refl;
    said = λ q lt. absurd (omega arith);
    not_yet = λ q le. refl;
    others = λ a q ne. refl;
    mouths = say_nothing tells law name us;
  }

  -- one queue more
  pub row_more : MouthsSayInTurn L → SpelledPartByPart → (name m k next : ℕ) (cells : List (Option Item)) (queues : List (TrailEnd Item)) (cell : Option Item) (queue : TrailEnd Item) (us bs cs : List M) → next ≡ suc k → slice_get cells k ≡ Some cell → slice_get queues k ≡ Some queue → SaysRow tells name m k cells queues us bs → SaysItems tells name (held_in (Some cell) ++ left queue) bs cs → SaysRow tells name m next cells queues us cs
  row_more law spell name m k next cells queues cell queue us bs cs one ec eq h g =
      let items = filter (has_link (length bs)) (held_in (Some cell) ++ left queue) in
      let acts = says m k items in
      let long : length bs ≡ length us = each_length (Said tells name h.acts) 0 us bs h.mouths in
      let both = λ (a b : ℕ). flat_map-append (thing_of a b) h.acts acts in record {
        acts = h.acts ++ acts;
        no_notes = λ i. flat_map-append (note_of i) h.acts acts
            ∙ ap (λ l. l ++ notes_of i acts) (h.no_notes i) ∙ says_notes i m k items;
        no_answers = flat_map-append answer_of h.acts acts
            ∙ ap (λ l. l ++ answers_of acts) h.no_answers ∙ says_answers m k items;
        said = λ q lt. elim (eqb_tells q k) [
          | inl is ↦
              subst (λ (n : ℕ). things_of m n (h.acts ++ acts) ≡ filter (has_link (length us)) (rest_in cells queues n)) (sym is.1)
              (both m k ∙ ap (λ l. l ++ things_of m k acts) (h.not_yet k (omega arith)) ∙ things_here m k items
              ∙ ap (λ (n : ℕ). filter (has_link n) (held_in (Some cell) ++ left queue)) long
              ∙ ap (filter (has_link (length us))) (rest_at cells queues k cell queue ec eq))
          | inr isnt ↦
              both m q ∙ ap (λ l. things_of m q h.acts ++ l) (other_place m q m k items isnt.1)
              ∙ append-nil (things_of m q h.acts) ∙ h.said q (let ne = isnt.1 in omega arith)
        ];
        not_yet = λ q le. both m q ∙ ap (λ l. l ++ things_of m q acts) (h.not_yet q (omega arith))
            ∙ other_place m q m k items (λ e. omega arith);
        others = λ a q ne. both a q ∙ ap (λ l. l ++ things_of a q acts) (h.others a q ne) ∙ other_module a q m k items ne;
        mouths = say_both tells law spell name h.acts acts 0 us bs cs h.mouths (g.said m k);
      }

  -- no row yet
  pub rows_none : MouthsSayInTurn L → (name : ℕ) (cells : List (List (Option Item))) (queues : List (List (TrailEnd Item))) (us : List M) → SaysRows tells name 0 cells queues us us
  rows_none law name cells queues us = record {
    acts = [];
    no_notes = λ i. refl;
    no_answers = refl;
    said = λ m q lt. absurd (omega arith);
    not_yet = λ m q le. refl;
    mouths = say_nothing tells law name us;
  }

  -- all of a row
  all_of_row : (name m : ℕ) (cells : List (Option Item)) (queues : List (TrailEnd Item)) (bs cs : List M) (q : ℕ) → length cells ≡ length queues → (h : SaysRow tells name m (length queues) cells queues bs cs) → things_of m q h.acts ≡ filter (has_link (length bs)) (rest_in cells queues q)
  all_of_row name m cells queues bs cs q same h = elim (leb_tells (suc q) (length queues)) [
    | inl is ↦ h.said q is.1
    | inr isnt ↦
        let past : length queues ≤ q = (let ne = isnt.1 in omega arith) in
        h.not_yet q past
        ∙ ap (λ o. filter (has_link (length bs)) (left_in o)) (sym (not_found queues q past))
        ∙ ap (λ o. filter (has_link (length bs)) (held_in o ++ left_in (slice_get queues q))) (sym (not_found cells q (omega arith)))
  ]

  -- one row more
  pub rows_more : MouthsSayInTurn L → SpelledPartByPart → (name k next : ℕ) (cells : List (List (Option Item))) (queues : List (List (TrailEnd Item))) (row : List (Option Item)) (trails : List (TrailEnd Item)) (us bs cs : List M) → next ≡ suc k → slice_get cells k ≡ Some row → slice_get queues k ≡ Some trails → length row ≡ length trails → SaysRows tells name k cells queues us bs → SaysRow tells name k (length trails) row trails bs cs → SaysRows tells name next cells queues us cs
  rows_more law spell name k next cells queues row trails us bs cs one er et same h g =
      let long : length bs ≡ length us = each_length (Said tells name h.acts) 0 us bs h.mouths in
      let both = λ (a b : ℕ). flat_map-append (thing_of a b) h.acts g.acts in record {
        acts = h.acts ++ g.acts;
        no_notes = λ i. flat_map-append (note_of i) h.acts g.acts
            ∙ ap (λ l. l ++ notes_of i g.acts) (h.no_notes i) ∙ g.no_notes i;
        no_answers = flat_map-append answer_of h.acts g.acts
            ∙ ap (λ l. l ++ answers_of g.acts) h.no_answers ∙ g.no_answers;
        said = λ m q lt. elim (eqb_tells m k) [
          | inl is ↦
              subst (λ (n : ℕ). things_of n q (h.acts ++ g.acts) ≡ filter (has_link (length us)) (held_at cells n q ++ left_at queues n q)) (sym is.1)
              (both k q ∙ ap (λ l. l ++ things_of k q g.acts) (h.not_yet k q (omega arith))
              ∙ all_of_row name k row trails bs cs q same g
              ∙ ap (λ (n : ℕ). filter (has_link n) (rest_in row trails q)) long
              ∙ ap (λ o. filter (has_link (length us)) (held_in (in_row o q) ++ left_in (slice_get trails q))) (sym er)
              ∙ ap (λ o. filter (has_link (length us)) (held_at cells k q ++ left_in (in_row o q))) (sym et))
          | inr isnt ↦
              both m q ∙ ap (λ l. things_of m q h.acts ++ l) (g.others m q isnt.1)
              ∙ append-nil (things_of m q h.acts) ∙ h.said m q (let ne = isnt.1 in omega arith)
        ];
        not_yet = λ m q le. both m q ∙ ap (λ l. l ++ things_of m q g.acts) (h.not_yet m q (omega arith))
            ∙ g.others m q (λ e. omega arith);
        mouths = say_both tells law spell name h.acts g.acts 0 us bs cs h.mouths g.mouths;
      }

  all_of_rows : (name : ℕ) (cells : List (List (Option Item))) (queues : List (List (TrailEnd Item))) (bs cs : List M) (m q : ℕ) → length cells ≡ length queues → (h : SaysRows tells name (length queues) cells queues bs cs) → things_of m q h.acts ≡ filter (has_link (length bs)) (held_at cells m q ++ left_at queues m q)
  all_of_rows name cells queues bs cs m q same h = elim (leb_tells (suc m) (length queues)) [
    | inl is ↦ h.said m q is.1
    | inr isnt ↦
        let past : length queues ≤ m = (let ne = isnt.1 in omega arith) in
        h.not_yet m q past ∙ past_rows cells queues (length bs) m q same past
  ]

  -- the door, and then all rows
  pub rest_said : MouthsSayInTurn L → SpelledPartByPart → (name : ℕ) (rest : Rest) (us bs cs : List M) → length rest.cells ≡ length rest.queues → SaysReplies tells (left rest.door) us bs → SaysRows tells name (length rest.queues) rest.cells rest.queues bs cs → SaysRest tells name rest us cs
  rest_said law spell name rest us bs cs same h g =
      let directs = filter (has_link_too (length us)) (left rest.door) in
      let first = map Act.Answers directs in
      let long : length bs ≡ length us = each_length (Said tells name first) 0 us bs (h.said name) in record {
        acts = first ++ g.acts;
        no_notes = λ i. flat_map-append (note_of i) first g.acts
            ∙ ap (λ l. l ++ notes_of i g.acts) (answers_notes i directs) ∙ g.no_notes i;
        things = λ m q. flat_map-append (thing_of m q) first g.acts
            ∙ ap (λ l. l ++ things_of m q g.acts) (answers_things m q directs)
            ∙ all_of_rows name rest.cells rest.queues bs cs m q same g
            ∙ ap (λ (n : ℕ). filter (has_link n) (held_at rest.cells m q ++ left_at rest.queues m q)) long;
        answers = flat_map-append answer_of first g.acts
            ∙ ap (λ l. l ++ answers_of g.acts) (answers_are directs) ∙ ap (λ l. directs ++ l) g.no_answers
            ∙ append-nil directs;
        mouths = say_both tells law spell name first g.acts 0 us bs cs (h.said name) g.mouths;
      }
