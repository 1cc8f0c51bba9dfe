-- One event more is served.
use Rattle.std.proofs.Common.{◌≡◌, ℕ, ◌≤◌, true, not, List, [], ◌∷◌, ◌++◌, length, take, nat_lt, Option, Some, ap, sym, subst, ◌∙◌, arith}
use Rattle.std.specs.Prelude.{is_some, filter, option_and_then, slice_index_or}
use Rattle.std.specs.Option.{ForSome, option_map_or, option_to_list}
use Rattle.std.specs.List.{All, filter_map}
use Rattle.std.proofs.lemmas.Bool.{and_parts}
use Rattle.m17_values.specs.declared.member.Member.{Member}
use Rattle.m17_control.specs.declared.event.Event.{Event}
use Rattle.m17_control.specs.declared.event.Body.{Body}
use Rattle.m17_control.specs.declared.event.Body.TheVariants as body
use Rattle.m17_control.specs.declared.item.Item.{Item}
use Rattle.m17_floor.specs.declared.verdict.Verdict.{Verdict}
use Rattle.m17_floor.specs.declared.verdict.Verdict.TheVariants.{Opened, Continued, Busy, Repeat, Late, AfterEnd, TimedOut, NotMember, ListenOnly}
use Rattle.m17_floor.specs.Acts.{moment_at, greatest_moment, is_packet}
use Rattle.m17_floor.specs.Laws.{LaterActsChangeNoVerdict, LaterActsChangeNoMoment}
use Rattle.m17_module.specs.Events.{acts_of, kind_of}
use Rattle.m17_module.specs.Items.{Setup, items_at, items_given}
use Rattle.m17_module.specs.StandsFor.{ModuleKept, IsStep, stepped}
use Rattle.m17_module.specs.Laws.{LaterEventsChangeNoItems, OneEventMoreGives, VerdictsFit, FitsIn, IsNumbered}
use Rattle.m17_ports.specs.Book.{BookTold, HasText}
use Rattle.m17_book.specs.declared.head.Head.{Head}
use Rattle.m17_book.specs.Records.{IsLowVerdict}
use Rattle.m17_lane.specs.RowsLaws.{RowsGrow}
use Rattle.m17_worker.specs.declared.worker.Worker.{Worker}
use Rattle.m17_worker.specs.Taken.{is_there, place_of}
use Rattle.m17_worker.specs.Offers.{AreOffered}
use Rattle.m17_worker.specs.Gifts.{is_bye, gifts_by, leaves_replaced, gifts, GaveBack}
use Rattle.m17_worker.specs.Records.{Noted, noted_at, leave_record, own_record, records_of, book_text, IsBookText}
use Rattle.m17_worker.specs.Tape.{IsTaped}
use Rattle.m17_worker.specs.WorkerDid.{head_of, HasServed}
use Rattle.m17_worker.specs.Underway.{Note, NoteFits, noted_leave, noted_own, noted_text, filled, HasRoom}
use Rattle.m17_worker.specs.declared.offers.LaneOffers.{LaneOffers}
use Rattle.m17_roll.specs.Seat.{RollView}
use Rattle.m17_worker.proofs.Lists.{length_more}
use Rattle.m17_worker.proofs.Tries.{offered_then, queues_stay, as_many}
use Rattle.m17_worker.proofs.Giving.{gave_then, IsTheBye}
use Rattle.m17_worker.proofs.Byes.{few_byes, leaves_are}
use Rattle.m17_worker.proofs.Gathered.{gifts_more, records_more, text_goes_on}
use Rattle.m17_worker.proofs.Tapes.{taped_more}
use Rattle.m17_worker.proofs.Spelled.{spelled_more, told_before, told_after}

-- the laws of the crates below
pub record Laws : Type 0 where
  pub rows : RowsGrow Item
  pub items : LaterEventsChangeNoItems
  pub gives : OneEventMoreGives
  pub verdicts : LaterActsChangeNoVerdict
  pub moments : LaterActsChangeNoMoment

-- what was seen of one event: what the module gave and answered, and its Bye
pub record Seen : Type 0 where
  pub event : Event
  pub items : List Item
  pub verdict : Option Verdict
  pub bye : Option Item

-- what became of it, in the worker before and after
pub record IsSeen {B L : Type 0} (told : B → BookTold L) (events : List Event) (s : Seen) (k n : Worker B) : Type 0 where
  pub step : IsStep k.module.setup events s.event (stepped s.verdict n.module s.items)
  pub answer : is_some s.verdict ≡ is_packet (kind_of s.event.body)
  pub offered : AreOffered s.items k.offers n.offers
  pub gave : GaveBack k.seat (gifts_by (not (leaves_replaced s.event.body)) s.items) n.seat
  pub the_bye : IsTheBye s.bye s.items
  pub text : (start : BookTold L) (text : List ℕ) (places : ℕ)
      → option_map_or (λ place. nat_lt place places) (place_of s.event.body) true ≡ true
      → HasText start text k.book_failed (told k.book)
      → HasText start (noted_text text n.module.moment (record { event = s.event; verdict = s.verdict; bye = s.bye; places = places }))
      n.book_failed (told n.book)
  pub fits : (places : ℕ) (bytes : List ℕ)
      → option_map_or (λ place. nat_lt place places) (place_of s.event.body) true ≡ true
      → (told k.book).written ≡ Some bytes
      → NoteFits n.module.moment (record { event = s.event; verdict = s.verdict; bye = s.bye; places = places })
  pub tape : n.tape ≡ filled k.tape s.event s.verdict

-- what is noted of it, at so many places
abbrev pub note_of : Seen → ℕ → Note
note_of s places = record { event = s.event; verdict = s.verdict; bye = s.bye; places = places }

-- the records of the event are those that were written
recorded_is : (laws : Laws) (setup : Setup) (events : List Event) (s : Seen) (kept : ModuleKept)
    → IsStep setup events s.event (stepped s.verdict kept s.items) → IsTheBye s.bye s.items
    → records_of setup (events ++ s.event ∷ [])
    ≡ records_of setup events ++ (option_to_list (noted_leave kept.moment (note_of s setup.places)) ++ option_to_list (noted_own kept.moment (note_of s setup.places)))
recorded_is laws setup events s kept step the_bye =
    let longer : List Event = events ++ s.event ∷ [] in
    let now : Noted = noted_at setup longer (length events) s.event.tag in
    let moment : kept.moment ≡ moment_at (acts_of longer) (length events) =
    step.stands.moment ∙ ap (λ n. greatest_moment (take n (acts_of longer))) (length_more events s.event) in
    let few = few_byes setup longer (length events) in
    let bye : s.bye ≡ few.0 = the_bye few.0 (ap (filter is_bye) step.items ∙ few.1) in
    let leave : option_to_list (option_and_then (leave_record s.event.tag kept.moment) s.bye) ≡ filter_map (leave_record s.event.tag now.moment) (items_at setup longer (length events)) =
    ap (λ m. option_to_list (option_and_then (leave_record s.event.tag m) s.bye)) moment
    ∙ ap (λ o. option_to_list (option_and_then (leave_record s.event.tag now.moment) o)) bye
    ∙ sym (leaves_are s.event.tag now.moment (items_at setup longer (length events)) few.0 few.1) in
    let make : ℕ → Option Verdict → Noted = λ m v. record { tag = s.event.tag; moment = m; verdict = v; places = setup.places } in
    let own : option_to_list (own_record (make kept.moment s.verdict) s.event.body) ≡ option_to_list (own_record now s.event.body) =
    ap (λ m. option_to_list (own_record (make m s.verdict) s.event.body)) moment
    ∙ ap (λ v. option_to_list (own_record (make now.moment v) s.event.body)) step.verdict in
    records_more laws.items laws.verdicts laws.moments setup events s.event
    ∙ sym (ap (λ rs. records_of setup events ++ (rs ++ option_to_list (own_record (make kept.moment s.verdict) s.event.body))) leave
    ∙ ap (λ rs. records_of setup events ++ (filter_map (leave_record s.event.tag now.moment) (items_at setup longer (length events)) ++ rs)) own)

written_is : (laws : Laws) (setup : Setup) (events : List Event) (s : Seen) (kept : ModuleKept) (head : Head)
    → IsStep setup events s.event (stepped s.verdict kept s.items) → IsTheBye s.bye s.items
    → noted_text (book_text head (records_of setup events)) kept.moment (note_of s setup.places)
    ≡ book_text head (records_of setup (events ++ s.event ∷ []))
written_is laws setup events s kept head step the_bye =
    let note : Note = note_of s setup.places in
    sym (text_goes_on head (records_of setup events) (option_to_list (noted_leave kept.moment note)) (option_to_list (noted_own kept.moment note)))
    ∙ ap (book_text head) (sym (recorded_is laws setup events s kept step the_bye))

pub served_more : {B L : Type 0} (told : B → BookTold L) (laws : Laws) (events : List Event) (s : Seen) (j k n : Worker B)
    → k.module.setup ≡ j.module.setup → is_there k.links k.module.setup.places s.event ≡ true
    → IsSeen told events s k n → HasServed told events j k → HasServed told (events ++ s.event ∷ []) j n
served_more told laws events s j k n same there seen h =
    let setup : Setup = j.module.setup in
    let longer : List Event = events ++ s.event ∷ [] in
    let S : Setup → Type 0 = λ u. IsStep u events s.event (stepped s.verdict n.module s.items) in
    let step : IsStep setup events s.event (stepped s.verdict n.module s.items) = subst S same seen.step in
    let fits : option_map_or (λ place. nat_lt place setup.places) (place_of s.event.body) true ≡ true =
    ap (λ (u : Setup). option_map_or (λ place. nat_lt place u.places) (place_of s.event.body) true) (sym same)
    ∙ (and_parts (nat_lt s.event.tag.link k.links) (option_map_or (λ place. nat_lt place k.module.setup.places) (place_of s.event.body) true) there).1 in
    let O : List Item → Type 0 = λ l. AreOffered l j.offers n.offers in
    let G : List Member → Type 0 = λ l. GaveBack j.seat l n.seat in
    let C : List (Option Verdict) → Type 0 = λ l. IsTaped setup longer l in
    let T : List ℕ → Type 0 = λ l. HasText (told j.book) l n.book_failed (told n.book) in
    let booked : HasText (told j.book) (book_text (head_of j) (records_of setup longer)) n.book_failed (told n.book) =
    subst T (written_is laws setup events s n.module (head_of j) step seen.the_bye)
    (seen.text (told j.book) (book_text (head_of j) (records_of setup events)) setup.places fits h.booked) in
    record {
      stands = step.stands;
      offered = subst O
          (ap (λ l. items_given setup events ++ l) step.items ∙ sym (laws.gives setup events s.event))
          (offered_then (items_given setup events) s.items j.offers k.offers n.offers laws.rows h.offered seen.offered);
      gave_back = subst G
          (ap (λ l. gifts setup events ++ gifts_by (not (leaves_replaced s.event.body)) l) step.items ∙ sym (gifts_more laws.items setup events s.event))
          (gave_then j.seat k.seat n.seat (gifts setup events) (gifts_by (not (leaves_replaced s.event.body)) s.items) h.gave_back seen.gave);
      booked = booked;
      spelled = λ bytes is.
          let start = told_before (told j.book) (told n.book) (book_text (head_of j) (records_of setup longer)) bytes n.book_failed booked is in
          let was = told_after (told j.book) (told k.book) (book_text (head_of j) (records_of setup events)) start.0 k.book_failed h.booked start.1 in
          subst (IsBookText (head_of j)) (sym (recorded_is laws setup events s n.module step seen.the_bye))
          (spelled_more (head_of j) (records_of setup events) n.module.moment (note_of s setup.places)
          (seen.fits setup.places was.0 fits was.1) (h.spelled was.0 was.1));
      taped = subst C (sym seen.tape)
          (taped_more laws.verdicts setup events s.event s.verdict k.tape seen.answer step.verdict h.taped);
    }

-- what was seen of an event, where the last that was done wrote the book and the tape
pub seen_after : {B L : Type 0} (told : B → BookTold L) (events : List Event) (s : Seen) (k mid n : Worker B)
    → n ≡ record mid { book = n.book; book_failed = n.book_failed; tape = n.tape }
    → IsStep k.module.setup events s.event (stepped s.verdict mid.module s.items)
    → is_some s.verdict ≡ is_packet (kind_of s.event.body)
    → AreOffered s.items k.offers mid.offers
    → GaveBack k.seat (gifts_by (not (leaves_replaced s.event.body)) s.items) mid.seat
    → IsTheBye s.bye s.items
    → ((start : BookTold L) (text : List ℕ) (places : ℕ)
    → option_map_or (λ place. nat_lt place places) (place_of s.event.body) true ≡ true
    → HasText start text k.book_failed (told k.book)
    → HasText start (noted_text text mid.module.moment (record { event = s.event; verdict = s.verdict; bye = s.bye; places = places }))
    n.book_failed (told n.book))
    → ((places : ℕ) (bytes : List ℕ)
    → option_map_or (λ place. nat_lt place places) (place_of s.event.body) true ≡ true
    → (told k.book).written ≡ Some bytes
    → NoteFits mid.module.moment (record { event = s.event; verdict = s.verdict; bye = s.bye; places = places }))
    → n.tape ≡ filled k.tape s.event s.verdict
    → IsSeen told events s k n
seen_after {B} told events s k mid n rest step answer offered gave the_bye text noted tape =
    let module_is : n.module ≡ mid.module = ap (λ (w : Worker B). w.module) rest in
    let S : ModuleKept → Type 0 = λ m. IsStep k.module.setup events s.event (stepped s.verdict m s.items) in
    let O : LaneOffers → Type 0 = λ o. AreOffered s.items k.offers o in
    let G : RollView → Type 0 = λ r. GaveBack k.seat (gifts_by (not (leaves_replaced s.event.body)) s.items) r in
    record {
      step = subst S (sym module_is) step;
      answer = answer;
      offered = subst O (sym (ap (λ (w : Worker B). w.offers) rest)) offered;
      gave = subst G (sym (ap (λ (w : Worker B). w.seat) rest)) gave;
      the_bye = the_bye;
      text = λ start before places fits h.
          let T : ℕ → Type 0 = λ m. HasText start (noted_text before m (record { event = s.event; verdict = s.verdict; bye = s.bye; places = places }))
          n.book_failed (told n.book) in
          subst T (sym (ap (λ (m : ModuleKept). m.moment) module_is)) (text start before places fits h);
      fits = λ places bytes fits is.
          let N : ℕ → Type 0 = λ m. NoteFits m (record { event = s.event; verdict = s.verdict; bye = s.bye; places = places }) in
          subst N (sym (ap (λ (m : ModuleKept). m.moment) module_is)) (noted places bytes fits is);
      tape = tape;
    }

-- the value of a verdict fits a book, of at most 256 places
fits_low : (places : ℕ) (v : Verdict) → places ≤ 256 → FitsIn places v → IsLowVerdict v
fits_low places Opened few h = tt
fits_low places Continued few h = tt
fits_low places (Busy holder) few h = omega (arith, few, h)
fits_low places Repeat few h = tt
fits_low places (Late last) few h = h
fits_low places AfterEnd few h = tt
fits_low places TimedOut few h = tt
fits_low places NotMember few h = tt
fits_low places ListenOnly few h = tt

-- each packet's number is below 32,768, by its type
numbered : (what : Body) → IsNumbered what
numbered (body.Join k peer callsign listen after) = tt
numbered (body.Leave k why) = tt
numbered (body.Packet k packet) = packet.numbered
numbered (body.Reply k control) = tt
numbered body.Tick = tt
numbered body.Stop = tt

all_numbered : (events : List Event) → All (λ e. IsNumbered e.body) events
all_numbered events n d lt = numbered (slice_index_or events n d).body

pub low_verdict : VerdictsFit → (setup : Setup) (events : List Event) (event : Event) (verdict : Option Verdict) (kept : ModuleKept) (items : List Item)
    → setup.places ≤ 256 → IsStep setup events event (stepped verdict kept items)
    → ForSome verdict IsLowVerdict
low_verdict fit setup events event verdict kept items few step v is =
    fits_low setup.places v few (fit setup (events ++ event ∷ []) (length events) v (all_numbered (events ++ event ∷ [])) (sym step.verdict ∙ is))

-- room is left by what writes the book and the tape
pub room_after : {B : Type 0} (mid n : Worker B) → n ≡ record mid { book = n.book; book_failed = n.book_failed; tape = n.tape } → HasRoom mid → HasRoom n
room_after {B} mid n rest h =
    let P : Worker B → Type 0 = λ w. HasRoom w in
    subst P (sym rest) (record { links = h.links; places = h.places; queues = h.queues; basket = h.basket })

pub room_between : {B : Type 0} (k mid : Worker B) (items : List Item) → RowsGrow Item → mid.links ≡ k.links → mid.module.setup ≡ k.module.setup
    → AreOffered items k.offers mid.offers → mid.basket ≡ [] → HasRoom k → HasRoom mid
room_between k mid items law links setup offered basket h =
    let places : mid.module.setup.places ≡ k.module.setup.places = ap (λ (u : Setup). u.places) setup in
    record {
      links = omega (arith, links, h.links);
      places = omega (arith, places, h.places);
      queues = (as_many items k.offers mid.offers law offered ∙ h.queues.0 ∙ sym places, queues_stay items k.offers mid.offers law offered h.queues.1);
      basket = basket;
    }
