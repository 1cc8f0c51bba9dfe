-- What one event more gives back, and records.
use Rattle.std.proofs.Common.{◌≡◌, ℕ, ◌<◌, not, List, [], ◌∷◌, ◌++◌, length, slice_get, Option, None, Some, refl, ap, sym, ◌∙◌, arith}
use Rattle.std.specs.List.{flat_map}
use Rattle.std.proofs.lemmas.List.{map-append, length-map}
use Rattle.std.proofs.lemmas.List.Concat.{flat_map-append}
use Rattle.m17_control.specs.declared.event.Event.{Event}
use Rattle.m17_floor.specs.declared.verdict.Verdict.{Verdict}
use Rattle.m17_floor.specs.Acts.{moment_at}
use Rattle.m17_floor.specs.Floor.{verdict_at}
use Rattle.m17_floor.specs.Laws.{LaterActsChangeNoVerdict, LaterActsChangeNoMoment}
use Rattle.m17_module.specs.Events.{acts_of, act_of}
use Rattle.m17_module.specs.Items.{Setup, floor_setup, items_at}
use Rattle.m17_module.specs.Laws.{LaterEventsChangeNoItems}
use Rattle.m17_book.specs.Versions.{book_header}
use Rattle.m17_book.specs.declared.version.Version.TheVariants.{Two}
use Rattle.m17_book.specs.Records.{record_bytes}
use Rattle.m17_book.specs.declared.head.Head.{Head}
use Rattle.m17_book.specs.declared.record.Record.{Record}
use Rattle.m17_worker.specs.Gifts.{gifts_by, is_replacing, leaves_replaced, gifts_at, gifts}
use Rattle.m17_worker.specs.Records.{Noted, noted_at, records_by, records_for, records_at, records_of, book_text}
use Rattle.m17_worker.proofs.Lists.{slice_get_before, slice_get_end, length_more, gathered_more}
use Rattle.std.proofs.lemmas.List.{append_assoc}

pub acts_append : (events more : List Event) → acts_of (events ++ more) ≡ acts_of events ++ acts_of more
acts_append events more = map-append act_of events more

pub length_acts : (events : List Event) → length (acts_of events) ≡ length events
length_acts events = length-map events act_of

-- what is given back
gifts_before : LaterEventsChangeNoItems → (setup : Setup) (events more : List Event) (n : ℕ) → n < length events
    → gifts_at setup (events ++ more) n ≡ gifts_at setup events n
unfolding gifts_at
gifts_before later setup events more n lt =
    ap (λ o. gifts_by (not (is_replacing o)) (items_at setup (events ++ more) n)) (slice_get_before events more n lt)
    ∙ ap (gifts_by (not (is_replacing (slice_get events n)))) (later setup events more n lt)

gifts_end : (setup : Setup) (events : List Event) (event : Event)
    → gifts_at setup (events ++ event ∷ []) (length events)
    ≡ gifts_by (not (leaves_replaced event.body)) (items_at setup (events ++ event ∷ []) (length events))
unfolding gifts_at
gifts_end setup events event =
    ap (λ o. gifts_by (not (is_replacing o)) (items_at setup (events ++ event ∷ []) (length events))) (slice_get_end events event)

pub gifts_more : LaterEventsChangeNoItems → (setup : Setup) (events : List Event) (event : Event)
    → gifts setup (events ++ event ∷ [])
    ≡ gifts setup events ++ gifts_by (not (leaves_replaced event.body)) (items_at setup (events ++ event ∷ []) (length events))
unfolding gifts
gifts_more later setup events event =
    gathered_more (gifts_at setup events) (gifts_at setup (events ++ event ∷ [])) (length events) (length (events ++ event ∷ []))
    (length_more events event) (λ i lt. gifts_before later setup events (event ∷ []) i lt)
    ∙ ap (λ l. gifts setup events ++ l) (gifts_end setup events event)

-- what is recorded
same_records : (setup : Setup) (old new : List Event) (n : ℕ) (o : Option Event) → items_at setup new n ≡ items_at setup old n
    → moment_at (acts_of new) n ≡ moment_at (acts_of old) n
    → verdict_at (floor_setup setup) (acts_of new) n ≡ verdict_at (floor_setup setup) (acts_of old) n
    → records_for setup new n o ≡ records_for setup old n o
same_records setup old new n None items moment verdict = refl
same_records setup old new n (Some event) items moment verdict =
    let make : ℕ → Option Verdict → Noted = λ m v. record { tag = event.tag; moment = m; verdict = v; places = setup.places } in
    ap (λ xs. records_by (make (moment_at (acts_of new) n) (verdict_at (floor_setup setup) (acts_of new) n)) xs event.body) items
    ∙ ap (λ m. records_by (make m (verdict_at (floor_setup setup) (acts_of new) n)) (items_at setup old n) event.body) moment
    ∙ ap (λ v. records_by (make (moment_at (acts_of old) n) v) (items_at setup old n) event.body) verdict

records_before : LaterEventsChangeNoItems → LaterActsChangeNoVerdict → LaterActsChangeNoMoment
    → (setup : Setup) (events more : List Event) (n : ℕ) → n < length events
    → records_at setup (events ++ more) n ≡ records_at setup events n
unfolding records_at
records_before later verdicts moments setup events more n lt =
    ap (records_for setup (events ++ more) n) (slice_get_before events more n lt)
    ∙ same_records setup events (events ++ more) n (slice_get events n) (later setup events more n lt)
    (ap (λ acts. moment_at acts n) (acts_append events more) ∙ moments (acts_of events) (acts_of more) n (omega (arith, lt, length_acts events)))
    (ap (λ acts. verdict_at (floor_setup setup) acts n) (acts_append events more) ∙ verdicts (floor_setup setup) (acts_of events) (acts_of more) n (omega (arith, lt, length_acts events)))

-- the records of the last event
abbrev pub last_records : Setup → List Event → Event → List Record
last_records setup events event =
    records_by (noted_at setup (events ++ event ∷ []) (length events) event.tag) (items_at setup (events ++ event ∷ []) (length events)) event.body

records_end : (setup : Setup) (events : List Event) (event : Event)
    → records_at setup (events ++ event ∷ []) (length events) ≡ last_records setup events event
unfolding records_at
records_end setup events event = ap (records_for setup (events ++ event ∷ []) (length events)) (slice_get_end events event)

pub records_more : LaterEventsChangeNoItems → LaterActsChangeNoVerdict → LaterActsChangeNoMoment
    → (setup : Setup) (events : List Event) (event : Event)
    → records_of setup (events ++ event ∷ []) ≡ records_of setup events ++ last_records setup events event
unfolding records_of
records_more later verdicts moments setup events event =
    gathered_more (records_at setup events) (records_at setup (events ++ event ∷ [])) (length events) (length (events ++ event ∷ []))
    (length_more events event) (λ i lt. records_before later verdicts moments setup events (event ∷ []) i lt)
    ∙ ap (λ l. records_of setup events ++ l) (records_end setup events event)

-- the bytes, record by record
pub text_goes_on : (head : Head) (records first second : List Record)
    → book_text head (records ++ (first ++ second)) ≡ (book_text head records ++ flat_map record_bytes first) ++ flat_map record_bytes second
text_goes_on head records first second =
    ap (λ l. book_header Two head ++ l) (flat_map-append record_bytes records (first ++ second)
    ∙ ap (λ l. flat_map record_bytes records ++ l) (flat_map-append record_bytes first second)
    ∙ sym (append_assoc (flat_map record_bytes records) (flat_map record_bytes first) (flat_map record_bytes second)))
    ∙ sym (append_assoc (book_header Two head) (flat_map record_bytes records ++ flat_map record_bytes first) (flat_map record_bytes second))
    ∙ ap (λ l. l ++ flat_map record_bytes second) (sym (append_assoc (book_header Two head) (flat_map record_bytes records) (flat_map record_bytes first)))
