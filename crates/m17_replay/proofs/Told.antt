-- What is told to a peer in a patient run over one link is as many packets of each kind as the replay says to it.
use Rattle.std.proofs.Common.{◌≡◌, ◌==◌, ℕ, zero, suc, ◌+◌, ◌<◌, Bool, true, false, cond, not, List, [], ◌∷◌, length, map, Option, None, Some, sym, subst, refl, ap, ◌∙◌, arith}
use Rattle.std.specs.Prelude.{◌&&◌, slice_get, filter, sum_by, count_by}
use Rattle.std.specs.List.{flat_map, items_where_true}
use Rattle.std.specs.Option.{option_map_or}
use Rattle.std.proofs.lemmas.List.Filters.{sum_by-filter_both}
use Rattle.std.proofs.lemmas.List.Sums.{sum_by-cons, sum_by-append}
use Rattle.std.proofs.lemmas.Option.{get_or_from_slice_get}
use Rattle.m17_values.specs.declared.heard.Heard.{Heard}
use Rattle.m17_values.specs.declared.peer.Peer.{Peer}
use Rattle.m17_ports.specs.declared.tally.Tally.{Tally}
use Rattle.m17_ports.specs.Mouth.{Datagram, AreTallied, MouthTold}
use Rattle.m17_ports.specs.Tallies.{no_tally}
use Rattle.m17_control.specs.declared.event.Event.{Event}
use Rattle.m17_control.specs.declared.item.Item.{Item}
use Rattle.m17_control.specs.declared.packet.Packet.{Packet}
use Rattle.m17_control.specs.declared.packet.Packet.TheVariants as packets
use Rattle.m17_control.specs.Modules.{letters_of}
use Rattle.m17_control.specs.Spelled.{packet_said}
use Rattle.m17_directory.specs.Entries.{Entry, is_peer}
use Rattle.m17_directory.specs.Routed.{direct_replies, routed}
use Rattle.m17_lane.specs.Ends.{TrailEnd}
use Rattle.m17_module.specs.Items.{items_given}
use Rattle.m17_sender.specs.Orders.{IsShuffle}
use Rattle.m17_sender.specs.Joined.{goes_to, items_of, packets_of}
use Rattle.m17_plan.specs.declared.plan.Plan.{Plan}
use Rattle.m17_house.specs.Replay.{packet_to, said_by_module, said_to, tally_of}
use Rattle.m17_plan.specs.Planned.{module_setup, setup_of}
use Rattle.m17_reflect.specs.Links.{At, letter_of}
use Rattle.m17_reflect.specs.Queues.{all_carried, carried}
use Rattle.m17_reflect.specs.Run.{Run}
use Rattle.m17_reflect.specs.Sendings.{memberships, IsToldAs}
use Rattle.m17_reflect.specs.Trails.{events_of}
use Rattle.m17_replay.specs.Known.{Laws}
use Rattle.m17_replay.proofs.Alone.{IsAlone, HasRun}
use Rattle.m17_replay.proofs.QueueCounts.{all_at, of_queue, given_linked, row_weighs}
use Rattle.m17_replay.proofs.Freely.{link_at}
use Rattle.m17_replay.proofs.Lists.{at_below, below_at, count_given, hits, one_if, sum_beside, sum_flat, sum_map, sum_same}
use Rattle.m17_replay.proofs.Taped.{route_is}

-- an order of two lists counts what both count
order_counts : (kind : Packet → Bool) (first second whole : List Packet) → IsShuffle first second whole → count_by kind whole ≡ count_by kind first + count_by kind second
order_counts kind first second whole h =
    let w : Bool × Packet → ℕ = λ m. one_if kind m.1 in
    let a = ap (count_by kind) h.whole_is ∙ sum_map (one_if kind) (λ (m : Bool × Packet). m.1) h.marked in
    let b = ap (count_by kind) h.first_is ∙ sum_map (one_if kind) (λ (m : Bool × Packet). m.1) (filter (λ (m : Bool × Packet). m.0) h.marked) in
    let c = ap (count_by kind) h.second_is ∙ sum_map (one_if kind) (λ (m : Bool × Packet). m.1) (filter (λ (m : Bool × Packet). not m.0) h.marked) in
    let both = sum_by-filter_both (λ (m : Bool × Packet). m.0) (λ (m : Bool × Packet). not m.0) (λ m. refl) w h.marked in
    omega (arith, a, b, c, both)

-- whether an item says a packet of the kind, and what it then counts
abbrev says_kind : (Packet → Bool) → ℕ → Item → Bool
says_kind kind name item = option_map_or kind (packet_said item.body name) false

hits_is : (kind : Packet → Bool) (o : Option Packet) → hits kind o ≡ cond (option_map_or kind o false) 1 0
hits_is kind None = refl
hits_is kind (Some p) = refl

packets_count : (kind : Packet → Bool) (name : ℕ) (items : List Item) → count_by kind (packets_of name items) ≡ count_by (says_kind kind name) items
packets_count kind name items =
    count_given kind (λ (item : Item). packet_said item.body name) items
    ∙ sum_same (λ (item : Item). hits kind (packet_said item.body name)) (one_if (says_kind kind name)) items (λ i item at. hits_is kind (packet_said item.body name))

kept_step : {A : Type 0} (b : Bool) (test : A → Bool) (x : A) (kept : List A) → sum_by (one_if test) (cond b (x ∷ kept) kept) ≡ cond b (one_if test x) 0 + sum_by (one_if test) kept
kept_step true test x kept = sum_by-cons (one_if test) x kept
kept_step false test x kept = let z : sum_by (one_if test) kept ≡ 0 + sum_by (one_if test) kept = omega arith in z

kept_counts : {A : Type 0} (p test : A → Bool) (xs : List A) → count_by test (filter p xs) ≡ sum_by (λ x. cond (p x) (one_if test x) 0) xs
kept_counts p test [] = refl
kept_counts p test (x ∷ xs) =
    kept_step (p x) test x (filter p xs)
    ∙ ap (λ n. cond (p x) (one_if test x) 0 + n) (kept_counts p test xs)
    ∙ sym (sum_by-cons (λ x. cond (p x) (one_if test x) 0) x xs)

-- what an item by link 0 counts, that goes to the peer
by_peer : (kind : Packet → Bool) (o : Option Packet) (there its : Bool) → there ≡ true → cond (there && its) (cond (option_map_or kind o false) 1 0) 0 ≡ hits kind (cond its o None)
by_peer kind o true true e = sym (hits_is kind o)
by_peer kind o true false e = refl
by_peer kind o false its e = absurd cc

zero_is : (n : ℕ) → n < 1 → (0 == n) ≡ true
zero_is zero lt = refl
zero_is (suc n) lt = absurd (omega arith)

all_went : (went : List Bool) (xs : List Datagram) → length went ≡ length xs → count_by not went ≡ 0 → items_where_true went xs ≡ xs
all_went [] [] e none = refl
all_went [] (x ∷ xs) e none = absurd (omega arith)
all_went (b ∷ went) [] e none = absurd (omega arith)
all_went (true ∷ went) (x ∷ xs) e none =
    ap (λ (l : List Datagram). x ∷ l) (all_went went xs (omega arith) (omega (arith, none, sum_by-cons (λ (b : Bool). cond (not b) 1 0) true went)))
all_went (false ∷ went) (x ∷ xs) e none = absurd (omega (arith, none, sum_by-cons (λ (b : Bool). cond (not b) 1 0) false went))

module _ {E M B : Type 0} (laws : Laws) (run : Run E M B) (script : List Heard) (alone : IsAlone run script) (h : HasRun run script) where
  abbrev plan : Plan
  plan = run.plan

  abbrev entries : List Entry
  entries = h.link.entries

  -- the events of a module
  pub trail_is : (m : ℕ) (trail : TrailEnd Event) → At run.handed.trails m trail → events_of trail ≡ routed (setup_of plan) entries (letter_of plan m)
  trail_is m trail at = route_is plan h.carried.links h.link (letter_of plan m) trail h.links_are (h.carried.trails.each m trail at)

  pub of_link : (letter i : ℕ) (event : Event) → slice_get (routed (setup_of plan) entries letter) i ≡ Some event → event.tag.link ≡ 0
  of_link letter = all_at (λ (event : Event). event.tag.link ≡ 0) (routed (setup_of plan) entries letter) (laws.carries (setup_of plan) entries letter)

  -- what the queues of a module carry for a peer
  abbrev for_peer : (Packet → Bool) → Peer → Item → ℕ
  for_peer kind x item = cond (goes_to 0 (is_peer x) item) (one_if (says_kind kind plan.name) item) 0

  row_counts : (kind : Packet → Bool) (x : Peer) (m : ℕ) (row : List (TrailEnd Item)) (letter : ℕ) → At run.handed.queues m row → slice_get (letters_of plan.modules) m ≡ Some letter → sum_by (for_peer kind x) (flat_map of_queue row) ≡ count_by kind (said_by_module plan entries x letter)
  row_counts kind x m row letter at_row at_letter =
      let inside = below_at run.handed.queues m row at_row in
      let count = h.carried.queues.count in
      let (trail, at_trail) = at_below run.handed.trails m (omega (arith, count, h.carried.trails.count)) in
      let (missed, at_missed) = at_below run.handed.missed m (omega (arith, count, h.carried.queues.missed_count)) in
      let carry = h.carried.queues.each m trail row missed at_trail at_row at_missed in
      let same : letter_of plan m ≡ letter = get_or_from_slice_get (letters_of plan.modules) m letter 0 at_letter in
      let events : List Event = routed (setup_of plan) entries letter in
      let is : events_of trail ≡ events = trail_is m trail at_trail ∙ ap (routed (setup_of plan) entries) same in
      let items = items_given (module_setup plan letter) events in
      let linked = given_linked laws.linked (module_setup plan letter) events (of_link letter) in
      row_weighs laws.placed (for_peer kind x) (events_of trail) _ alone.patient carry
      ∙ ap (λ l. sum_by (for_peer kind x) (items_given (module_setup plan l) (events_of trail))) same
      ∙ ap (λ es. sum_by (for_peer kind x) (items_given (module_setup plan letter) es)) is
      ∙ sum_same (for_peer kind x) (λ (item : Item). hits kind (packet_to x plan.name item)) items
      (λ i item at. by_peer kind (packet_said item.body plan.name) (0 == item.link) (is_peer x item.peer) (zero_is item.link (all_at (λ (item : Item). item.link < 1) items linked i item at)))
      ∙ sym (count_given kind (packet_to x plan.name) items)

  -- what all queues carry for a peer
  queues_count : (kind : Packet → Bool) (x : Peer) → count_by (says_kind kind plan.name) (filter (goes_to 0 (is_peer x)) (all_carried run.handed.queues)) ≡ count_by kind (flat_map (said_by_module plan entries x) (letters_of plan.modules))
  queues_count kind x =
      kept_counts (goes_to 0 (is_peer x)) (says_kind kind plan.name) (all_carried run.handed.queues)
      ∙ sum_flat (for_peer kind x) (λ (row : List (TrailEnd Item)). flat_map of_queue row) run.handed.queues
      ∙ sum_beside (λ (row : List (TrailEnd Item)). sum_by (for_peer kind x) (flat_map of_queue row)) (λ letter. count_by kind (said_by_module plan entries x letter)) run.handed.queues (letters_of plan.modules)
      h.carried.queues.count (row_counts kind x)
      ∙ sym (sum_flat (one_if kind) (said_by_module plan entries x) (letters_of plan.modules))

  -- what a peer is told
  told_counts : (x : Peer) (attempts : List Datagram) (it : IsToldAs (setup_of plan) entries (carried run.handed.queues) x attempts) (kind : Packet → Bool) → count_by kind it.told ≡ count_by kind (said_to plan entries x)
  unfolding said_to
  told_counts x attempts it kind =
      let replies = map packets.Control (direct_replies (setup_of plan) entries x) in
      let its = flat_map (items_of (carried run.handed.queues)) (memberships (setup_of plan) entries x) in
      let modules = flat_map (said_by_module plan entries x) (letters_of plan.modules) in
      let order = order_counts kind replies (packets_of plan.name its) it.told it.order in
      let items = packets_count kind plan.name its in
      let share = h.carried.mouths.shares 0 h.link x (link_at run script alone h) (says_kind kind plan.name) in
      let said = sum_by-append (one_if kind) replies modules in
      omega (arith, order, items, share, queues_count kind x, said)

  -- The tallies of a mouth that loses nothing and had said nothing.
  pub tallies_are : (before after : MouthTold M) → run.before.mouths ≡ before ∷ [] → run.after.mouths ≡ after ∷ [] → before.faults ≡ 0 → after.faults ≡ 0
      → ((y : Peer) (t : Tally) → before.tallies y ≡ Some t → t ≡ no_tally) → (x : Peer) (tally : Tally) → after.tallies x ≡ Some tally → tally ≡ tally_of (said_to plan entries x)
  tallies_are before after is_before is_after sound still none x tally told =
      let sends = h.carried.mouths.each 0 h.link before after (link_at run script alone h) (ap (λ (ms : List (MouthTold M)). slice_get ms 0) is_before) (ap (λ (ms : List (MouthTold M)). slice_get ms 0) is_after) in
      let it = sends.to_each x in
      let none_lost : count_by not sends.said.went ≡ 0 = omega (arith, sends.said.lost, sound, still) in
      let whole = all_went sends.said.went sends.attempts sends.said.each none_lost in
      laws.tell.spelled before.tallies after.tallies sends.attempts x it.told tally (none x)
      (subst (λ (ds : List Datagram). AreTallied before.tallies ds after.tallies) whole sends.said.tallied)
      it.spelled told
      ∙ laws.tell.as_many it.told (said_to plan entries x) (told_counts x sends.attempts it)
