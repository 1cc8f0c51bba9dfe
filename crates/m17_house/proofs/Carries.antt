-- What one dispatch more makes of modules and tallies.
use Rattle.std.proofs.Common.{◌≡◌, ◌≢◌, ℕ, zero, suc, ◌+◌, ◌<◌, ◌≤◌, Bool, true, false, cond, List, [], ◌∷◌, ◌++◌, length, map, filter, Option, None, Some, inl, inr, refl, ap, sym, subst, ◌∙◌, arith, count_by}
use Rattle.std.specs.List.{filter_map, flat_map, range_with_len, cons_option}
use Rattle.std.specs.Option.{option_or, option_to_list}
use Rattle.std.proofs.lemmas.List.{map-append}
use Rattle.std.proofs.lemmas.List.Elements.{filter_map-append}
use Rattle.std.proofs.lemmas.Bool.{cases_eq, false≢true, eq-eqb, ne_eqb}
use Rattle.m17_lists.proofs.Sums.{count_of_both}
use Rattle.m17_values.specs.declared.peer.Peer.{Peer}
use Rattle.m17_control.specs.declared.event.Event.{Event}
use Rattle.m17_control.specs.declared.item.Item.{Item}
use Rattle.m17_control.specs.declared.item.Direct.{Direct}
use Rattle.m17_control.specs.declared.packet.Packet.{Packet}
use Rattle.m17_control.specs.declared.packet.Packet.TheVariants as packets
use Rattle.m17_control.specs.Modules.{serves, letters_of}
use Rattle.m17_floor.specs.declared.verdict.Verdict.{Verdict}
use Rattle.m17_module.specs.Items.{items_given, items_at}
use Rattle.m17_module.specs.Laws.{OneEventMoreGives}
use Rattle.m17_module.specs.StandsFor.{ModuleKept}
use Rattle.m17_directory.specs.declared.dispatch.Dispatch.{Dispatch}
use Rattle.m17_directory.specs.declared.dispatch.Dispatch.TheVariants.{ToModule, ToDoor}
use Rattle.m17_directory.specs.Routed.{event_for, reply_for}
use Rattle.m17_port_memory.specs.Kept.{TalliesKept}
use Rattle.m17_plan.specs.declared.plan.Plan.{Plan}
use Rattle.m17_house.specs.Replay.{packet_to}
use Rattle.m17_plan.specs.Planned.{module_setup}
use Rattle.m17_house.specs.Tallied.{AreTalliesOf, HasSaidMore}
use Rattle.m17_house.specs.Carried.{events_of, said_by_events, said_past_modules, said_after, RoomStands, IsRoomStep, HasCarried, answer_to}
use Rattle.m17_house.proofs.Lists.{filter_map_nothing, filter_map_one}
use Rattle.m17_house.proofs.Tallies.{same_count_tallies}
use Rattle.m17_house.proofs.Cells.{served_letter}

-- the events for a module after one dispatch more
event_for_its : (letter : ℕ) (event : Event) → event_for letter (ToModule letter event) ≡ Some event
event_for_its letter event = ap (λ b. cond b (Some event) None) (eq-eqb letter letter refl)

event_for_other : (letter to : ℕ) (event : Event) → (letter ≡ to → ⊥) → event_for letter (ToModule to event) ≡ None
event_for_other letter to event other = ap (λ b. cond b (Some event) None) (ne_eqb to letter (λ e. other (sym e)))

pub events_its : (letter : ℕ) (event : Event) (done : List Dispatch) → events_of letter (done ++ ToModule letter event ∷ []) ≡ events_of letter done ++ event ∷ []
events_its letter event done = filter_map_one (event_for letter) done (ToModule letter event) event (event_for_its letter event)

pub events_other : (letter to : ℕ) (event : Event) (done : List Dispatch) → (letter ≡ to → ⊥) → events_of letter (done ++ ToModule to event ∷ []) ≡ events_of letter done
events_other letter to event done other = filter_map_nothing (event_for letter) done (ToModule to event) (event_for_other letter to event other)

pub events_door : (letter : ℕ) (direct : Direct) (done : List Dispatch) → events_of letter (done ++ ToDoor direct ∷ []) ≡ events_of letter done
events_door letter direct done = filter_map_nothing (event_for letter) done (ToDoor direct) refl

-- Counts over the modules, where one of them says more.
module _ (kind : Packet → Bool) (test : ℕ → Bool) (f g : ℕ → List Packet) (letter : ℕ) (more : List Packet) (others : (l : ℕ) → (l ≡ letter → ⊥) → g l ≡ f l) (its : g letter ≡ f letter ++ more) where
  counted : (ℕ → List Packet) → List ℕ → ℕ
  counted h letters = count_by kind (flat_map h letters)

  above_by : (a : ℕ) (r : List ℕ) (b : Bool) → g a ≡ f a → flat_map g r ≡ flat_map f r → flat_map g (cond b (a ∷ r) r) ≡ flat_map f (cond b (a ∷ r) r)
  above_by a r true e h = ap (λ xs. xs ++ flat_map g r) e ∙ ap (λ xs. f a ++ xs) h
  above_by a r false e h = h

  above : (a n : ℕ) → letter < a → flat_map g (filter test (range_with_len a n)) ≡ flat_map f (filter test (range_with_len a n))
  above a zero h = refl
  above a (suc n) h = above_by a (filter test (range_with_len (a + 1) n)) (test a) (others a (λ e. omega arith)) (above (a + 1) n (omega arith))

  here_by : (a : ℕ) (r : List ℕ) (b : Bool) → b ≡ true → g a ≡ f a ++ more → flat_map g r ≡ flat_map f r → counted g (cond b (a ∷ r) r) ≡ counted f (cond b (a ∷ r) r) + count_by kind more
  unfolding counted
  here_by a r true t e h =
      ap (λ xs. count_by kind (xs ++ flat_map g r)) e
      ∙ ap (λ xs. count_by kind ((f a ++ more) ++ xs)) h
      ∙ (omega (arith, count_of_both kind (f a ++ more) (flat_map f r), count_of_both kind (f a) more, count_of_both kind (f a) (flat_map f r)))
  here_by a r false t e h = absurd (false≢true t)

  beside_by : (a : ℕ) (r : List ℕ) (b : Bool) → g a ≡ f a → counted g r ≡ counted f r + count_by kind more → counted g (cond b (a ∷ r) r) ≡ counted f (cond b (a ∷ r) r) + count_by kind more
  unfolding counted
  beside_by a r true e h =
      ap (λ xs. count_by kind (xs ++ flat_map g r)) e
      ∙ (omega (arith, h, count_of_both kind (f a) (flat_map g r), count_of_both kind (f a) (flat_map f r)))
  beside_by a r false e h = h

  from : (a n : ℕ) → a ≤ letter → letter < a + n → test letter ≡ true → counted g (filter test (range_with_len a n)) ≡ counted f (filter test (range_with_len a n)) + count_by kind more
  from a zero h k t = absurd (omega arith)
  from a (suc n) h k t =
      elim (cases_eq a letter) [
        | inl e ↦ here_by a (filter test (range_with_len (a + 1) n)) (test a) (ap test e ∙ t) (ap g e ∙ its ∙ ap (λ l. f l ++ more) (sym e)) (above (a + 1) n (omega arith))
        | inr other ↦ beside_by a (filter test (range_with_len (a + 1) n)) (test a) (others a other) (from (a + 1) n (omega arith) (omega arith) t)
      ]

-- what modules say where each has the events that it had
flat_map_same : (f g : ℕ → List Packet) → ((l : ℕ) → g l ≡ f l) → (letters : List ℕ) → flat_map g letters ≡ flat_map f letters
flat_map_same f g same [] = refl
flat_map_same f g same (l ∷ letters) = ap (λ xs. xs ++ flat_map g letters) (same l) ∙ ap (λ xs. f l ++ xs) (flat_map_same f g same letters)

pub single : {X Y : Type 0} (h : X → Option Y) (o : Option Y) → cons_option o [] ≡ option_to_list o
single h None = refl
single h (Some y) = refl

-- What is said to a peer after one event more: also what its module gives then.
event_counts : OneEventMoreGives → (plan : Plan) (done : List Dispatch) (letter : ℕ) (event : Event) (x : Peer) (items : List Item) → serves plan.modules letter ≡ true →
    items ≡ items_at (module_setup plan letter) (events_of letter done ++ event ∷ []) (length (events_of letter done)) →
    (kind : Packet → Bool) → count_by kind (said_after plan done x ++ filter_map (packet_to x plan.name) items) ≡ count_by kind (said_after plan (done ++ ToModule letter event ∷ []) x)
unfolding said_after counted
event_counts law plan done letter event x items served items_are kind =
    let longer : List Dispatch = done ++ ToModule letter event ∷ [] in
    let f : ℕ → List Packet = λ l. said_by_events plan x l (events_of l done) in
    let g : ℕ → List Packet = λ l. said_by_events plan x l (events_of l longer) in
    let more : List Packet = filter_map (packet_to x plan.name) items in
    let its : g letter ≡ f letter ++ more =
    ap (said_by_events plan x letter) (events_its letter event done)
    ∙ ap (filter_map (packet_to x plan.name)) (law (module_setup plan letter) (events_of letter done) event)
    ∙ filter_map-append (packet_to x plan.name) (items_given (module_setup plan letter) (events_of letter done)) (items_at (module_setup plan letter) (events_of letter done ++ event ∷ []) (length (events_of letter done)))
    ∙ ap (λ xs. f letter ++ filter_map (packet_to x plan.name) xs) (sym items_are) in
    let in_range : (65 ≤ letter) × (letter ≤ 90) = served_letter plan.modules letter served in
    let modules : count_by kind (flat_map g (letters_of plan.modules)) ≡ count_by kind (flat_map f (letters_of plan.modules)) + count_by kind more =
    from kind (serves plan.modules) f g letter more (λ l other. ap (said_by_events plan x l) (events_other l letter event done other)) its 65 26 in_range.0 (omega (arith, in_range.1)) served in
    let past : said_past_modules x longer ≡ said_past_modules x done = ap (map packets.Control) (filter_map_nothing (reply_for x) done (ToModule letter event) refl) in
    let p : List Packet = said_past_modules x done in
    count_of_both kind (p ++ flat_map f (letters_of plan.modules)) more
    ∙ ap (λ n. n + count_by kind more) (count_of_both kind p (flat_map f (letters_of plan.modules)))
    ∙ (let e : (count_by kind p + count_by kind (flat_map f (letters_of plan.modules))) + count_by kind more ≡ count_by kind p + count_by kind (flat_map g (letters_of plan.modules)) = omega (arith, modules) in e)
    ∙ sym (count_of_both kind p (flat_map g (letters_of plan.modules)))
    ∙ ap (λ xs. count_by kind (xs ++ flat_map g (letters_of plan.modules))) (sym past)

-- The same after one reply more.
reply_counts : (plan : Plan) (done : List Dispatch) (direct : Direct) (x : Peer) →
    (kind : Packet → Bool) → count_by kind (said_after plan done x ++ map packets.Control (option_to_list (reply_for x (ToDoor direct)))) ≡ count_by kind (said_after plan (done ++ ToDoor direct ∷ []) x)
unfolding said_after
reply_counts plan done direct x kind =
    let longer : List Dispatch = done ++ ToDoor direct ∷ [] in
    let f : ℕ → List Packet = λ l. said_by_events plan x l (events_of l done) in
    let g : ℕ → List Packet = λ l. said_by_events plan x l (events_of l longer) in
    let more : List Packet = map packets.Control (option_to_list (reply_for x (ToDoor direct))) in
    let modules : flat_map g (letters_of plan.modules) ≡ flat_map f (letters_of plan.modules) = flat_map_same f g (λ l. ap (said_by_events plan x l) (events_door l direct done)) (letters_of plan.modules) in
    let past : said_past_modules x longer ≡ said_past_modules x done ++ more =
    ap (map packets.Control) (filter_map-append (reply_for x) done (ToDoor direct ∷ []) ∙ ap (λ xs. filter_map (reply_for x) done ++ xs) (single (reply_for x) (reply_for x (ToDoor direct))))
    ∙ map-append packets.Control (filter_map (reply_for x) done) (option_to_list (reply_for x (ToDoor direct))) in
    let p : List Packet = said_past_modules x done in
    let m : List Packet = flat_map f (letters_of plan.modules) in
    let counts : count_by kind ((p ++ m) ++ more) ≡ count_by kind ((p ++ more) ++ m) =
    omega (arith, count_of_both kind (p ++ m) more, count_of_both kind p m, count_of_both kind (p ++ more) m, count_of_both kind p more) in
    counts ∙ ap (λ xs. count_by kind (xs ++ m)) (sym past) ∙ ap (λ xs. count_by kind (said_past_modules x longer ++ xs)) (sym modules)

-- where each module stands after one event more
rooms_after : (plan : Plan) (done : List Dispatch) (letter : ℕ) (event : Event) (rooms new : List (Option ModuleKept)) →
    ((l : ℕ) → serves plan.modules l ≡ true → RoomStands plan l (events_of l done) rooms) →
    RoomStands plan letter (events_of letter done ++ event ∷ []) new →
    ((other : ℕ) (events : List Event) → 65 ≤ other → other ≢ letter → RoomStands plan other events rooms → RoomStands plan other events new) →
    (l : ℕ) → serves plan.modules l ≡ true → RoomStands plan l (events_of l (done ++ ToModule letter event ∷ [])) new
rooms_after plan done letter event rooms new before its others l served =
    elim (cases_eq l letter) [
      | inl e ↦ subst (λ (k : ℕ). RoomStands plan k (events_of k (done ++ ToModule letter event ∷ [])) new) (sym e)
          (subst (λ (events : List Event). RoomStands plan letter events new) (sym (events_its letter event done)) its)
      | inr other ↦ subst (λ (events : List Event). RoomStands plan l events new) (sym (events_other l letter event done other))
          (others l (events_of l done) (served_letter plan.modules l served).0 other (before l served))
    ]

-- An event was carried out.
pub carried_event : OneEventMoreGives → (plan : Plan) (done : List Dispatch) (letter : ℕ) (event : Event) (rooms new : List (Option ModuleKept)) (mouth said : TalliesKept) (items : List Item) (found answer : Option Verdict) → serves plan.modules letter ≡ true → HasCarried plan done rooms mouth →
    IsRoomStep plan letter (events_of letter done) event found (new, answer) →
    items ≡ items_at (module_setup plan letter) (events_of letter done ++ event ∷ []) (length (events_of letter done)) →
    ((other : ℕ) (events : List Event) → 65 ≤ other → other ≢ letter → RoomStands plan other events rooms → RoomStands plan other events new) →
    HasSaidMore (λ x. filter_map (packet_to x plan.name) items) mouth said →
    HasCarried plan (done ++ ToModule letter event ∷ []) new said × (answer ≡ option_or (answer_to plan done (ToModule letter event)) found)
carried_event law plan done letter event rooms new mouth said items found answer served before step items_are others told = (
  record {
    rooms_stand = rooms_after plan done letter event rooms new before.rooms_stand step.stands others;
    tallies = same_count_tallies (λ x. said_after plan done x ++ filter_map (packet_to x plan.name) items) (said_after plan (done ++ ToModule letter event ∷ [])) said
        (λ x kind. event_counts law plan done letter event x items served items_are kind) (told.tallies (said_after plan done) before.tallies);
  },
  step.verdict,
)

-- A reply was carried out.
pub carried_reply : (plan : Plan) (done : List Dispatch) (direct : Direct) (rooms : List (Option ModuleKept)) (mouth said : TalliesKept) → HasCarried plan done rooms mouth →
    HasSaidMore (λ x. map packets.Control (option_to_list (reply_for x (ToDoor direct)))) mouth said →
    HasCarried plan (done ++ ToDoor direct ∷ []) rooms said
carried_reply plan done direct rooms mouth said before told = record {
  rooms_stand = λ l served. subst (λ (events : List Event). RoomStands plan l events rooms) (sym (events_door l direct done)) (before.rooms_stand l served);
  tallies = same_count_tallies (λ x. said_after plan done x ++ map packets.Control (option_to_list (reply_for x (ToDoor direct)))) (said_after plan (done ++ ToDoor direct ∷ [])) said
      (λ x kind. reply_counts plan done direct x kind) (told.tallies (said_after plan done) before.tallies);
}

-- Nothing was carried out yet: nothing is said.
given_nothing : (plan : Plan) (letter : ℕ) → items_given (module_setup plan letter) [] ≡ []
unfolding items_given
given_nothing plan letter = refl

none_by : (plan : Plan) (x : Peer) (letters : List ℕ) → flat_map (λ letter. said_by_events plan x letter (events_of letter [])) letters ≡ []
none_by plan x [] = refl
none_by plan x (l ∷ letters) = ap (λ xs. filter_map (packet_to x plan.name) xs ++ flat_map (λ letter. said_by_events plan x letter (events_of letter [])) letters) (given_nothing plan l) ∙ none_by plan x letters

said_nothing : (plan : Plan) (x : Peer) → said_after plan [] x ≡ []
unfolding said_after
said_nothing plan x = none_by plan x (letters_of plan.modules)

pub carried_nothing : (plan : Plan) (rooms : List (Option ModuleKept)) → ((letter : ℕ) → serves plan.modules letter ≡ true → RoomStands plan letter [] rooms) → (mouth : TalliesKept) → AreTalliesOf (λ x. []) mouth → HasCarried plan [] rooms mouth
carried_nothing plan rooms new mouth none = record {
  rooms_stand = new;
  tallies = same_count_tallies (λ x. []) (said_after plan []) mouth (λ x kind. ap (count_by kind) (sym (said_nothing plan x))) none;
}
