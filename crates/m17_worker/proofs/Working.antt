-- From the first event to the last.
use Rattle.std.proofs.Common.{◌≡◌, ℕ, ◌<◌, ◌≤◌, Bool, true, false, List, [], ◌∷◌, ◌++◌, length, slice_get, Option, None, Some, refl, ap, sym, subst, ◌∙◌, arith}
use Rattle.std.specs.List.{All, list_any}
use Rattle.std.proofs.lemmas.Bool.{false≢true}
use Rattle.std.proofs.lemmas.Option.{slice_get-get_or}
use Rattle.std.proofs.lemmas.List.{append-nil, same_from_push}
use Rattle.m17_values.specs.declared.member.Member.{Member}
use Rattle.m17_control.specs.declared.event.Event.{Event}
use Rattle.m17_control.specs.declared.item.Item.{Item}
use Rattle.m17_floor.specs.declared.verdict.Verdict.{Verdict}
use Rattle.m17_lane.specs.Ends.{PopEnd, PushEnd}
use Rattle.m17_module.specs.Items.{Setup, items_given}
use Rattle.m17_module.specs.StandsFor.{ModuleKept, StandsFor}
use Rattle.m17_ports.specs.Book.{BookTold, HasText}
use Rattle.m17_ports.specs.Laws.{BooksAreWrittenInTurn}
use Rattle.m17_book.specs.Versions.{book_header, FitsHeader}
use Rattle.m17_book.specs.declared.version.Version.TheVariants.{Two}
use Rattle.m17_lane.specs.RowsLaws.{RowsGrow}
use Rattle.m17_roll.specs.Seat.{RollView}
use Rattle.m17_worker.specs.declared.offers.LaneOffers.{LaneOffers}
use Rattle.m17_worker.specs.declared.worker.Worker.{Worker}
use Rattle.m17_worker.specs.Taken.{taken, HasStops, EndsWithStops, is_stop_of}
use Rattle.m17_worker.specs.Offers.{AreOffered, IsQueue}
use Rattle.m17_worker.specs.Gifts.{gifts, GaveBack}
use Rattle.m17_worker.specs.Records.{records_of, book_text, IsBookText}
use Rattle.m17_worker.specs.Tape.{IsTaped}
use Rattle.m17_worker.specs.Ready.{IsFit}
use Rattle.m17_worker.specs.WorkerDid.{head_of, HasServed, HasWorked}
use Rattle.m17_worker.specs.Underway.{AreFlags, IsAt}
use Rattle.m17_worker.proofs.Tries.{offered_none}
use Rattle.m17_worker.proofs.Giving.{gave_none}
use Rattle.m17_worker.proofs.Tapes.{none_taped}
use Rattle.m17_worker.proofs.Spelled.{header_alone, told_before}
use Rattle.m17_worker.proofs.Flags.{flags_none, stops_of_flags, flags_of_stops}

-- nothing comes of no events
none_given : (setup : Setup) → items_given setup [] ≡ []
unfolding items_given
none_given setup = refl

none_gifts : (setup : Setup) → gifts setup [] ≡ []
unfolding gifts
none_gifts setup = refl

none_recorded : (setup : Setup) → records_of setup [] ≡ []
unfolding records_of
none_recorded setup = refl

empty_tape : (setup : Setup) (tape : List (Option Verdict)) → All (λ cell. cell ≡ None) tape → IsTaped setup [] tape
empty_tape setup tape all index lt =
    slice_get-get_or tape index None lt ∙ ap Some (all index None lt ∙ sym (none_taped setup index))

module _ {B L : Type 0} (told : B → BookTold L) (j n : Worker B) (rest : n ≡ record j { book = n.book; book_failed = n.book_failed }) (fit : IsFit told j) where
  -- the header is written
  begins : BooksAreWrittenInTurn L
      → ((start : BookTold L) (text : List ℕ) → HasText start text j.book_failed (told j.book) → HasText start (text ++ book_header Two (head_of j)) n.book_failed (told n.book))
      → HasText (told j.book) (book_text (head_of j) (records_of j.module.setup [])) n.book_failed (told n.book)
  begins books text =
      let F : Bool → Type 0 = λ b. HasText (told j.book) [] b (told j.book) in
      let T : List ℕ → Type 0 = λ l. HasText (told j.book) l n.book_failed (told n.book) in
      let header : HasText (told j.book) (book_header Two (head_of j)) n.book_failed (told n.book) =
      text (told j.book) [] (subst F (sym fit.unused.book_failed) (books.nothing (told j.book))) in
      subst T (sym (append-nil (book_header Two (head_of j))) ∙ ap (book_text (head_of j)) (sym (none_recorded j.module.setup))) header

  nothing_served : RowsGrow Item → BooksAreWrittenInTurn L
      → ((start : BookTold L) (text : List ℕ) → HasText start text j.book_failed (told j.book) → HasText start (text ++ book_header Two (head_of j)) n.book_failed (told n.book))
      → ((bytes : List ℕ) → (told j.book).written ≡ Some bytes → FitsHeader Two (head_of j))
      → HasServed told [] j n
  nothing_served law books text header =
      let S : ModuleKept → Type 0 = λ m. StandsFor m [] in
      let O : LaneOffers → Type 0 = λ o. AreOffered [] j.offers o in
      let P : List Item → Type 0 = λ l. AreOffered l j.offers n.offers in
      let G : RollView → Type 0 = λ s. GaveBack j.seat [] s in
      let Q : List Member → Type 0 = λ l. GaveBack j.seat l n.seat in
      let T : List (Option Verdict) → Type 0 = λ l. IsTaped j.module.setup [] l in
      record {
        stands = subst S (sym (ap (λ (w : Worker B). w.module) rest)) fit.stands;
        offered = subst P (sym (none_given j.module.setup)) (subst O (sym (ap (λ (w : Worker B). w.offers) rest)) (offered_none j.offers law));
        gave_back = subst Q (sym (none_gifts j.module.setup)) (subst G (sym (ap (λ (w : Worker B). w.seat) rest)) (gave_none j.seat));
        booked = begins books text;
        spelled = λ bytes is.
            let start = told_before (told j.book) (told n.book) (book_text (head_of j) (records_of j.module.setup [])) bytes n.book_failed (begins books text) is in
            subst (IsBookText (head_of j)) (sym (none_recorded j.module.setup)) (header_alone (head_of j) (header start.0 start.1));
        taped = subst T (sym (ap (λ (w : Worker B). w.tape) rest)) (empty_tape j.module.setup j.tape fit.unused.tape);
      }

  no_events : n.inbox.popped ≡ []
  no_events = ap (λ (w : Worker B). w.inbox.popped) rest ∙ fit.unused.inbox

  pub starts_at : RowsGrow Item → BooksAreWrittenInTurn L
      → ((start : BookTold L) (text : List ℕ) → HasText start text j.book_failed (told j.book) → HasText start (text ++ book_header Two (head_of j)) n.book_failed (told n.book))
      → ((bytes : List ℕ) → (told j.book).written ≡ Some bytes → FitsHeader Two (head_of j))
      → IsAt told j 0 (false ∷ false ∷ false ∷ false ∷ []) n
  starts_at law books text header =
      let e : taken j.links j.module.setup.places n.inbox.popped ≡ [] = ap (taken j.links j.module.setup.places) no_events in
      let S : List Event → Type 0 = λ l. HasServed told l j n in
      let F : List Event → Type 0 = λ l. AreFlags (false ∷ false ∷ false ∷ false ∷ []) l in
      let inbox_is : n.inbox ≡ j.inbox = ap (λ (w : Worker B). w.inbox) rest in
      let offers_are : n.offers ≡ j.offers = ap (λ (w : Worker B). w.offers) rest in
      let setup_is : n.module.setup ≡ j.module.setup = ap (λ (w : Worker B). w.module.setup) rest in
      let places_are : n.module.setup.places ≡ j.module.setup.places = ap (λ (u : Setup). u.places) setup_is in
      let links_are : n.links ≡ j.links = ap (λ (w : Worker B). w.links) rest in
      let Q : List (PushEnd Item) → Type 0 = λ l. All IsQueue l in
      record {
        same = record {
          letter = ap (λ (w : Worker B). w.letter) rest;
          links = links_are;
          limit = ap (λ (w : Worker B). w.limit) rest;
          setup = setup_is;
          inbox = inbox_is ∙ ap (λ l. record j.inbox { popped = l }) (sym (ap (λ (q : PopEnd Event). q.popped) inbox_is));
          cells = ap (λ (w : Worker B). length w.tape) rest;
          basket = ap (λ (w : Worker B). w.basket) rest ∙ fit.unused.basket;
        };
        room = record {
          links = omega (arith, links_are, fit.links);
          places = omega (arith, places_are, fit.places);
          queues = (
            ap (λ (o : LaneOffers). length o.queues.items) offers_are ∙ fit.queues.0 ∙ sym places_are,
            subst Q (sym (ap (λ (o : LaneOffers). o.queues.items) offers_are)) fit.queues.1,
          );
          basket = ap (λ (w : Worker B). w.basket) rest ∙ fit.unused.basket;
        };
        counted = sym (ap length e);
        flagged = subst F (sym no_events) flags_none;
        all = subst S (sym e) (nothing_served law books text header);
      }

  -- no link has had its Stop yet
  pub not_yet : HasStops j.links n.inbox.popped → ⊥
  not_yet h = false≢true (ap (list_any (is_stop_of 0)) (sym no_events) ∙ h 0 fit.some_link)

-- the last event
pub ends_at : (links : ℕ) (before after : PopEnd Event) (event : Event) → after.popped ≡ before.popped ++ event ∷ []
    → (HasStops links before.popped → ⊥) → HasStops links after.popped → EndsWithStops links after.popped
ends_at links before after event is going each = record {
  each = each;
  at_the_last = λ front last at h.
      let same : before.popped ≡ front = (same_from_push before.popped front event last (sym is ∙ at)).0 in
      let P : List Event → Type 0 = λ l. HasStops links l in
      going (subst P (sym same) h);
}

pub has_worked : {B L : Type 0} (told : B → BookTold L) (j k n : Worker B) (served : ℕ) (flags : List Bool) (event : Event) → j.links ≤ 4
    → n.inbox.popped ≡ k.inbox.popped ++ event ∷ [] → (HasStops j.links k.inbox.popped → ⊥)
    → ((link : ℕ) → link < j.links → slice_get flags link ≡ Some true)
    → IsAt told j served flags n → HasWorked told j n
has_worked told j k n served flags event few is going all h = record {
  same = h.same;
  stops = ends_at j.links k.inbox n.inbox event is going (stops_of_flags j.links flags n.inbox.popped (omega (arith, few)) h.flagged all);
  served = h.all;
}

-- not all flags are set
pub goes_on : {B L : Type 0} (told : B → BookTold L) (j n : Worker B) (served : ℕ) (flags : List Bool) → j.links ≤ 4 → IsAt told j served flags n
    → (((link : ℕ) → link < n.links → slice_get flags link ≡ Some true) → ⊥) → HasStops j.links n.inbox.popped → ⊥
goes_on told j n served flags few h not_all stops =
    not_all (λ link lt. flags_of_stops j.links flags n.inbox.popped (omega (arith, few)) h.flagged stops link (omega (arith, lt, h.same.links)))
