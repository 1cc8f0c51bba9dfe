-- What is given, when the list of events goes on.
use Rattle.std.proofs.Common.{◌≡◌, ℕ, zero, suc, ◌+◌, ◌/◌, ◌<◌, cond, List, [], ◌∷◌, ◌++◌, length, map, slice_get, nat_lt, Option, None, Some, refl, ap, sym, ◌∙◌, arith}
use Rattle.std.specs.List.{filter, flat_map, range_with_len}
use Rattle.std.proofs.lemmas.List.{take-append-le, append-nil}
use Rattle.std.proofs.lemmas.List.Concat.{flat_map-append}
use Rattle.m17_control.specs.declared.event.Event.{Event}
use Rattle.m17_control.specs.declared.item.Item.{Item}
use Rattle.m17_control.specs.declared.item.Said.TheVariants as said
use Rattle.m17_floor.specs.Acts.{greatest_moment, moment_before, moment_at}
use Rattle.m17_floor.specs.Floor.{admits, verdict_at}
use Rattle.m17_floor.specs.Laws.{LaterActsChangeNoVerdict, LaterActsChangeNoMembership, LaterActsChangeNoMoment}
use Rattle.m17_module.specs.Setup.{Setup, floor_setup}
use Rattle.m17_module.specs.declared.seat.Seat.{Seat}
use Rattle.m17_module.specs.Events.{acts_of}
use Rattle.m17_module.specs.Seats.{seats_at, members_of}
use Rattle.m17_module.specs.Items.{Setting, ping_every_ms, item_to, says, pings_at, said_by, said_at, items_at, items_given, is_for, items_for}
use Rattle.m17_module.specs.Laws.{LaterEventsChangeNoItems, OneEventMoreGives, OneEventMoreIsShared}
use Rattle.m17_module.proofs.Acts.{acts_append, length_acts}
use Rattle.m17_module.proofs.Below.{slice_get_before, length_more}
use Rattle.m17_module.proofs.Places.{filter-append}
use Rattle.m17_module.proofs.SeatsMore.{seats_at_before}

pub pings_before : LaterActsChangeNoMembership → LaterActsChangeNoMoment → (places : ℕ) (events more : List Event) (n : ℕ) → n < length events → pings_at places (events ++ more) n ≡ pings_at places events n
unfolding pings_at
pings_before members moments places events more n h =
    let longer : List Event = events ++ more in
    let told : ℕ → ℕ → List (Option Seat) → List Item = λ b m xs. cond (nat_lt (b / ping_every_ms) (m / ping_every_ms)) (map (item_to said.Ping) (members_of xs)) [] in
    let before : moment_before (acts_of longer) n ≡ moment_before (acts_of events) n =
    ap (λ acts. moment_before acts n) (acts_append events more)
    ∙ ap greatest_moment (take-append-le n (acts_of events) (acts_of more) (omega (arith, length_acts events))) in
    let now : moment_at (acts_of longer) n ≡ moment_at (acts_of events) n =
    ap (λ acts. moment_at acts n) (acts_append events more) ∙ moments (acts_of events) (acts_of more) n (omega (arith, length_acts events)) in
    ap (λ b. told b (moment_at (acts_of longer) n) (seats_at places longer n)) before
    ∙ ap (λ m. told (moment_before (acts_of events) n) m (seats_at places longer n)) now
    ∙ ap (told (moment_before (acts_of events) n) (moment_at (acts_of events) n)) (sym (seats_at_before members places events more n (omega arith)))

said_by_same : (setup : Setup) (old new : List Event) (n : ℕ) (o : Option Event) → seats_at setup.places new n ≡ seats_at setup.places old n → verdict_at (floor_setup setup) (acts_of new) n ≡ verdict_at (floor_setup setup) (acts_of old) n → said_by setup new n o ≡ said_by setup old n o
said_by_same setup old new n None seats verdict = refl
said_by_same setup old new n (Some event) seats verdict =
    let make : List (Option Seat) → _ → Setting = λ xs v. record { seats = xs; position = n; link = event.tag.link; admitted = admits v } in
    ap (λ xs. says (make xs (verdict_at (floor_setup setup) (acts_of new) n)) event.body) seats
    ∙ ap (λ v. says (make (seats_at setup.places old n) v) event.body) verdict

pub said_before : LaterActsChangeNoVerdict → LaterActsChangeNoMembership → (setup : Setup) (events more : List Event) (n : ℕ) → n < length events → said_at setup (events ++ more) n ≡ said_at setup events n
unfolding said_at
said_before verdicts members setup events more n h =
    ap (said_by setup (events ++ more) n) (slice_get_before events more n h)
    ∙ said_by_same setup events (events ++ more) n (slice_get events n) (sym (seats_at_before members setup.places events more n (omega arith)))
    (ap (λ acts. verdict_at (floor_setup setup) acts n) (acts_append events more) ∙ verdicts (floor_setup setup) (acts_of events) (acts_of more) n (omega (arith, length_acts events)))

pub flat_map_same : {X : Type 0} (f g : ℕ → List X) (from n : ℕ) → ((i : ℕ) → i < from + n → f i ≡ g i) → flat_map f (range_with_len from n) ≡ flat_map g (range_with_len from n)
flat_map_same f g from zero h = refl
flat_map_same f g from (suc n) h =
    ap (λ xs. xs ++ flat_map f (range_with_len (from + 1) n)) (h from (omega arith))
    ∙ ap (λ xs. g from ++ xs) (flat_map_same f g (from + 1) n (λ i l. h i (omega arith)))

pub range_more : (from n : ℕ) → range_with_len from (suc n) ≡ range_with_len from n ++ (from + n) ∷ []
range_more from zero = let e : from ≡ from + 0 = omega arith in ap (λ m. m ∷ []) e
range_more from (suc n) =
    let e : from + 1 + n ≡ from + suc n = omega arith in
    ap (λ xs. from ∷ xs) (range_more (from + 1) n ∙ ap (λ m. range_with_len (from + 1) n ++ m ∷ []) e)

single : {X : Type 0} (f : ℕ → List X) (n : ℕ) → flat_map f (n ∷ []) ≡ f n
single f n = append-nil (f n)

pub given_more : LaterEventsChangeNoItems → OneEventMoreGives
unfolding items_given
given_more later setup events event =
    let longer : List Event = events ++ event ∷ [] in
    let n : ℕ = length events in
    let at : 0 + n ≡ n = omega arith in
    ap (λ m. flat_map (items_at setup longer) (range_with_len 0 m)) (length_more events event)
    ∙ ap (flat_map (items_at setup longer)) (range_more 0 n)
    ∙ flat_map-append (items_at setup longer) (range_with_len 0 n) ((0 + n) ∷ [])
    ∙ ap (λ m. flat_map (items_at setup longer) (range_with_len 0 n) ++ flat_map (items_at setup longer) (m ∷ [])) at
    ∙ ap (λ xs. flat_map (items_at setup longer) (range_with_len 0 n) ++ xs) (single (items_at setup longer) n)
    ∙ ap (λ xs. xs ++ items_at setup longer n) (flat_map_same (items_at setup longer) (items_at setup events) 0 n (λ i l. later setup events (event ∷ []) i (omega arith)))

pub shared_more : LaterEventsChangeNoItems → OneEventMoreIsShared
unfolding items_for
shared_more later setup events event k =
    ap (filter (is_for k)) (given_more later setup events event)
    ∙ filter-append (is_for k) (items_given setup events) (items_at setup (events ++ event ∷ []) (length events))
