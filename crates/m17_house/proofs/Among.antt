-- The floor's verdict on the packet of an entry, looked up among a module's events.
use Rattle.std.proofs.Common.{◌≡◌, ◌==◌, ℕ, zero, suc, ◌+◌, ◌-◌, ◌<◌, ◌≤◌, Bool, true, false, cond, List, [], ◌∷◌, ◌++◌, length, slice_get, None, Some, inl, inr, refl, ap, sym, subst, ◌∙◌, arith, append_assoc}
use Rattle.std.specs.List.{filter_map, cons_option, AllByRecursion}
use Rattle.std.specs.Option.{option_and_then}
use Rattle.std.proofs.lemmas.List.{map-append, length-map, length-append}
use Rattle.std.proofs.lemmas.List.Elements.{filter_map-append}
use Rattle.std.proofs.lemmas.Bool.{cases_eq, and_from, and_left, and_right, cond-false, eq-eqb, ne_eqb}
use Rattle.m17_control.specs.declared.event.Body.{Body}
use Rattle.m17_control.specs.declared.event.Body.TheVariants as body
use Rattle.m17_control.specs.declared.event.Event.{Event}
use Rattle.m17_floor.specs.Floor.{verdict_at}
use Rattle.m17_floor.specs.Laws.{LaterActsChangeNoVerdict, OnlyPacketsHaveVerdicts}
use Rattle.m17_module.specs.Setup.{floor_setup}
use Rattle.m17_module.specs.Items as module_items
use Rattle.m17_module.specs.Events.{act_of, acts_of}
use Rattle.m17_lookup.specs.Lookup.{last_below}
use Rattle.m17_lookup.proofs.LastBelow.{last_below_same, last_below_is, last_below_lt, and_then_same}
use Rattle.m17_lists.proofs.Places.{places_behind_follow, places_before_stay, first_of_rest_stands_behind}
use Rattle.m17_lists.proofs.Lengths.{one_more_is_one_longer}
use Rattle.m17_directory.specs.declared.dispatch.Dispatch.{Dispatch}
use Rattle.m17_directory.specs.declared.dispatch.Dispatch.TheVariants.{ToModule, ToDoor}
use Rattle.m17_directory.specs.declared.verdict.LinkVerdict.{LinkVerdict}
use Rattle.m17_directory.specs.declared.verdict.LinkVerdict.TheVariants.{Routed}
use Rattle.m17_directory.specs.declared.verdict.Act.TheVariants as act
use Rattle.m17_directory.specs.Entries.{Entry}
use Rattle.m17_directory.specs.Routed.{event_for, link_verdict, posts_at, posted, routed}
use Rattle.m17_directory.specs.Laws.{LaterEntriesChangeNothing, OneEntryMore, EventsCarryTheirIndex, is_packet, packet_letter, packet_routed}
use Rattle.m17_plan.specs.declared.plan.Plan.{Plan}
use Rattle.m17_house.specs.Replay.{is_packet_body, is_packet_from, verdict_among, verdict_routed, packet_verdict}
use Rattle.m17_plan.specs.Planned.{setup_of, module_setup}
use Rattle.m17_house.specs.Carried.{events_of}
use Rattle.m17_house.specs.SoFar.{found_from}
use Rattle.m17_house.proofs.Found.{IsFound, found_none, found_one}

-- positions at the end that don't pass
last_past : (test : ℕ → Bool) (n m : ℕ) → n ≤ m → ((k : ℕ) → n ≤ k → k < m → test k ≡ false) → last_below test m ≡ last_below test n
unfolding last_below
last_past test n zero le h = ap (last_below test) (let e : zero ≡ n = omega arith in e)
last_past test n (suc m) le h =
    elim (cases_eq n (suc m)) [
      | inl here ↦ ap (last_below test) (sym here)
      | inr other ↦
          let e : test m ≡ false = h m (omega arith) (omega arith) in
          cond-false (test m) (Some m) (last_below test m) e ∙ last_past test n m (omega arith) (λ k a b. h k a (omega arith))
    ]

-- the acts of events that go on
acts_append : (a b : List Event) → acts_of (a ++ b) ≡ acts_of a ++ acts_of b
acts_append a b = map-append act_of a b

later_verdict : LaterActsChangeNoVerdict → (made : module_items.Setup) (a b : List Event) (n : ℕ) → n < length a → verdict_at (floor_setup made) (acts_of (a ++ b)) n ≡ verdict_at (floor_setup made) (acts_of a) n
later_verdict law made a b n below = ap (λ acts. verdict_at (floor_setup made) acts n) (acts_append a b) ∙ law (floor_setup made) (acts_of a) (acts_of b) n (omega (arith, length-map a act_of))

-- events without a packet, and with another index
NoPackets : List Event → Type 0
NoPackets events = AllByRecursion (λ (e : Event). is_packet_body e.body ≡ false) events

HaveIndex : ℕ → List Event → Type 0
HaveIndex n events = AllByRecursion (λ (e : Event). e.tag.index ≡ n) events

none_there : (n : ℕ) (events : List Event) (j : ℕ) → NoPackets events → is_packet_from n (slice_get events j) ≡ false
unfolding NoPackets
none_there n [] j all = refl
none_there n (e ∷ events) zero all = and_right (e.tag.index == n) (is_packet_body e.body) all.0
none_there n (e ∷ events) (suc j) all = none_there n events j all.1

other_there : (n i : ℕ) (events : List Event) (j : ℕ) → (i ≡ n → ⊥) → HaveIndex n events → is_packet_from i (slice_get events j) ≡ false
unfolding HaveIndex
other_there n i [] j apart all = refl
other_there n i (e ∷ events) zero apart all = and_left (e.tag.index == i) (is_packet_body e.body) (ne_eqb e.tag.index i (λ same. apart (sym same ∙ all.0)))
other_there n i (e ∷ events) (suc j) apart all = other_there n i events j apart all.1

-- The packet of an entry, with no other behind it.
among_is : LaterActsChangeNoVerdict → (made : module_items.Setup) (n : ℕ) (a : List Event) (event : Event) (b : List Event) → event.tag.index ≡ n → is_packet_body event.body ≡ true → NoPackets b →
    verdict_among made n (a ++ event ∷ b) ≡ verdict_at (floor_setup made) (acts_of (a ++ event ∷ [])) (length a)
among_is law made n a event b index one none =
    let events : List Event = a ++ event ∷ b in
    let test : ℕ → Bool = λ i. is_packet_from n (slice_get events i) in
    let len : length events ≡ length a + suc (length b) = length-append a (event ∷ b) in
    let here : test (length a) ≡ true = ap (is_packet_from n) (first_of_rest_stands_behind a event b) ∙ and_from (event.tag.index == n) (is_packet_body event.body) (eq-eqb event.tag.index n index) one in
    let after : (m : ℕ) → length a < m → m < length events → test m ≡ false = λ m above below.
    let at : m ≡ length a + suc (m - suc (length a)) = omega arith in
    ap (is_packet_from n) (places_behind_follow a (event ∷ b) (suc (m - suc (length a))) m at) ∙ none_there n b (m - suc (length a)) none in
    let found : last_below test (length events) ≡ Some (length a) = last_below_is test (length events) (length a) (omega (arith, len)) here after in
    let split : events ≡ (a ++ event ∷ []) ++ b = sym (append_assoc a (event ∷ []) b) in
    ap (option_and_then (verdict_at (floor_setup made) (acts_of events))) found
    ∙ ap (λ xs. verdict_at (floor_setup made) (acts_of xs) (length a)) split
    ∙ later_verdict law made (a ++ event ∷ []) b (length a) (omega (arith, one_more_is_one_longer a event))

-- Later events of another entry change nothing of it.
among_before : LaterActsChangeNoVerdict → (made : module_items.Setup) (i n : ℕ) (a b : List Event) → (i ≡ n → ⊥) → HaveIndex n b → verdict_among made i (a ++ b) ≡ verdict_among made i a
among_before law made i n a b apart all =
    let test : ℕ → Bool = λ j. is_packet_from i (slice_get (a ++ b) j) in
    let old : ℕ → Bool = λ j. is_packet_from i (slice_get a j) in
    let past : last_below test (length (a ++ b)) ≡ last_below test (length a) =
    last_past test (length a) (length (a ++ b)) (omega (arith, length-append a b)) (λ k above below.
    let at : k ≡ length a + (k - length a) = omega arith in
    ap (is_packet_from i) (places_behind_follow a b (k - length a) k at) ∙ other_there n i b (k - length a) apart all) in
    let same : last_below test (length a) ≡ last_below old (length a) =
    last_below_same test old (length a) (λ m below. ap (is_packet_from i) (places_before_stay a b m below)) in
    ap (option_and_then (verdict_at (floor_setup made) (acts_of (a ++ b)))) (past ∙ same)
    ∙ and_then_same (last_below old (length a)) (verdict_at (floor_setup made) (acts_of (a ++ b))) (verdict_at (floor_setup made) (acts_of a))
    (λ p e. later_verdict law made a b p (last_below_lt old (length a) p e))

same_packet : (what : Body) → is_packet_body what ≡ is_packet what
same_packet (body.Packet k p) = refl
same_packet _ = refl

-- what is posted without a packet
all_cons : (t : Bool) (event : Event) (rest : List Event) → is_packet_body event.body ≡ false → NoPackets rest → NoPackets (cons_option (cond t (Some event) None) rest)
unfolding NoPackets
all_cons true event rest e all = (e, all)
all_cons false event rest e all = all

not_packet : (letter : ℕ) (event : Event) (rest : List ℕ) (b : Bool) → is_packet event.body ≡ b → cons_option (packet_letter (ToModule letter event)) rest ≡ [] → (is_packet_body event.body ≡ false) × (rest ≡ [])
not_packet letter event rest true e none =
    let never : letter ∷ rest ≡ [] = ap (λ t. cons_option (cond t (Some letter) None) rest) (sym e) ∙ none in
    cc
not_packet letter event rest false e none = (same_packet event.body ∙ e, ap (λ t. cons_option (cond t (Some letter) None) rest) (sym e) ∙ none)

no_packets : (letter : ℕ) (posts : List Dispatch) → filter_map packet_letter posts ≡ [] → NoPackets (events_of letter posts)
unfolding NoPackets
no_packets letter [] none = tt
no_packets letter (ToModule to event ∷ posts) none =
    let parts = not_packet to event (filter_map packet_letter posts) (is_packet event.body) refl none in
    all_cons (to == letter) event (events_of letter posts) parts.0 (no_packets letter posts parts.1)
no_packets letter (ToDoor direct ∷ posts) none = no_packets letter posts none

index_at : (n : ℕ) (a : List Event) (event : Event) (b : List Event) → HaveIndex n (a ++ event ∷ b) → event.tag.index ≡ n
unfolding HaveIndex
index_at n [] event b all = all.0
index_at n (x ∷ a) event b all = index_at n a event b all.1

-- the events of a module among what is posted, with one between
events_between : (letter : ℕ) (front : List Dispatch) (event : Event) (rest : List Dispatch) → events_of letter (front ++ ToModule letter event ∷ rest) ≡ events_of letter front ++ event ∷ events_of letter rest
events_between letter front event rest =
    filter_map-append (event_for letter) front (ToModule letter event ∷ rest)
    ∙ ap (λ t. events_of letter front ++ cons_option (cond t (Some event) None) (events_of letter rest)) (eq-eqb letter letter refl)

found_routed : OnlyPacketsHaveVerdicts → LaterActsChangeNoVerdict → (plan : Plan) (entries : List Entry) (n : ℕ) (before posts : List Dispatch) (letter : ℕ) → posted (setup_of plan) entries ≡ before ++ posts → HaveIndex n (events_of letter posts) →
    IsFound plan before posts letter (found_from plan before None posts) → found_from plan before None posts ≡ verdict_among (module_setup plan letter) n (routed (setup_of plan) entries letter)
unfolding routed HaveIndex
found_routed only later plan entries n before posts letter is index found =
    let front : List Dispatch = found.front in
    let event : Event = found.event in
    let rest : List Dispatch = found.rest in
    let all : posted (setup_of plan) entries ≡ (before ++ front) ++ ToModule letter event ∷ rest = is ∙ ap (λ xs. before ++ xs) found.posts_are ∙ sym (append_assoc before front (ToModule letter event ∷ rest)) in
    let events : events_of letter (posted (setup_of plan) entries) ≡ events_of letter (before ++ front) ++ event ∷ events_of letter rest = ap (events_of letter) all ∙ events_between letter (before ++ front) event rest in
    let at : event.tag.index ≡ n = index_at n (events_of letter front) event (events_of letter rest)
    (subst (λ (es : List Event). HaveIndex n es) (ap (events_of letter) found.posts_are ∙ events_between letter front event rest) index) in
    found.verdict ∙ sym (among_is later (module_setup plan letter) n (events_of letter (before ++ front)) event (events_of letter rest) at (same_packet event.body ∙ found.is_one) (no_packets letter rest found.no_other))
    ∙ ap (verdict_among (module_setup plan letter) n) (sym events)

found_by : OnlyPacketsHaveVerdicts → LaterActsChangeNoVerdict → (plan : Plan) (entries : List Entry) (n : ℕ) (before posts : List Dispatch) → posted (setup_of plan) entries ≡ before ++ posts → ((letter : ℕ) → HaveIndex n (events_of letter posts)) →
    (v : LinkVerdict) → filter_map packet_letter posts ≡ packet_routed v → found_from plan before None posts ≡ verdict_routed plan entries n v
found_by only later plan entries n before posts is index (Routed letter act.Packet) one = found_routed only later plan entries n before posts letter is (index letter) (found_one only plan posts before letter one)
found_by only later plan entries n before posts is index _ none = found_none only plan posts before None none

-- The verdict that was found is the one on the entry's packet.
pub found_is : OnlyPacketsHaveVerdicts → LaterActsChangeNoVerdict → EventsCarryTheirIndex → (plan : Plan) (entries : List Entry) (n : ℕ) (before posts : List Dispatch) → posted (setup_of plan) entries ≡ before ++ posts → posts_at (setup_of plan) entries n ≡ posts →
    filter_map packet_letter posts ≡ packet_routed (link_verdict (setup_of plan) entries n) → found_from plan before None posts ≡ packet_verdict plan entries n
unfolding packet_verdict HaveIndex
found_is only later carry plan entries n before posts is here one =
    found_by only later plan entries n before posts is (λ letter. subst (λ (ds : List Dispatch). HaveIndex n (events_of letter ds)) here (carry (setup_of plan) entries n letter)) (link_verdict (setup_of plan) entries n) one

-- One entry more changes no verdict of those before.
pub link_before : LaterEntriesChangeNothing → (plan : Plan) (entries : List Entry) (e : Entry) (i : ℕ) → i < length entries → link_verdict (setup_of plan) (entries ++ e ∷ []) i ≡ link_verdict (setup_of plan) entries i
unfolding link_verdict
link_before law plan entries e i below = ap (λ o. o.verdict) (law (setup_of plan) entries (e ∷ []) i below)

routed_before : LaterActsChangeNoVerdict → OneEntryMore → EventsCarryTheirIndex → (plan : Plan) (entries : List Entry) (e : Entry) (i : ℕ) → i < length entries → (v : LinkVerdict) → verdict_routed plan (entries ++ e ∷ []) i v ≡ verdict_routed plan entries i v
unfolding HaveIndex
routed_before later more carry plan entries e i below (Routed letter act.Packet) =
    ap (verdict_among (module_setup plan letter) i) (more.routes (setup_of plan) entries e letter)
    ∙ among_before later (module_setup plan letter) i (length entries) (routed (setup_of plan) entries letter) (filter_map (event_for letter) (posts_at (setup_of plan) (entries ++ e ∷ []) (length entries))) (λ same. omega arith) (carry (setup_of plan) (entries ++ e ∷ []) (length entries) letter)
routed_before later more carry plan entries e i below _ = refl

pub packet_before : LaterActsChangeNoVerdict → LaterEntriesChangeNothing → OneEntryMore → EventsCarryTheirIndex → (plan : Plan) (entries : List Entry) (e : Entry) (i : ℕ) → i < length entries → packet_verdict plan (entries ++ e ∷ []) i ≡ packet_verdict plan entries i
unfolding packet_verdict
packet_before later nothing more carry plan entries e i below =
    ap (verdict_routed plan (entries ++ e ∷ []) i) (link_before nothing plan entries e i below)
    ∙ routed_before later more carry plan entries e i below (link_verdict (setup_of plan) entries i)
