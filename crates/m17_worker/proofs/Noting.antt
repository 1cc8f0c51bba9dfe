-- The records of one event, written.
use Rattle.std.proofs.Common.{◌≡◌, ℕ, ◌<◌, Bool, true, false, cond, List, ◌++◌, nat_lt, Option, None, Some, IfSome, refl, ap, sym, subst, ◌∙◌}
use Rattle.std.specs.Prelude.{option_and_then}
use Rattle.std.specs.Option.{ForSome, option_map, option_map_or, option_to_list}
use Rattle.std.specs.List.{flat_map}
use Rattle.std.proofs.lemmas.Bool.{lt-ltb}
use Rattle.m17_control.specs.declared.event.Tag.{Tag}
use Rattle.m17_control.specs.declared.event.Body.{Body}
use Rattle.m17_control.specs.declared.event.Body.TheVariants as body
use Rattle.m17_floor.specs.declared.verdict.Verdict.{Verdict}
use Rattle.m17_book.specs.Records.{FitsRecord, IsWritable, IsLowVerdict, record_bytes}
use Rattle.m17_book.specs.declared.record.Record.{Record}
use Rattle.m17_book.specs.declared.record.Record.TheVariants.{Join, Packet}
use Rattle.m17_book.specs.declared.version.Version.TheVariants.{Two}
use Rattle.m17_worker.specs.Taken.{place_of}
use Rattle.m17_worker.specs.Records.{leave_record, Noted, own_record}
use Rattle.m17_ports.specs.Book.{BookTold, HasText}
use Rattle.m17_ports.specs.Laws.{BooksAreWrittenInTurn}
use Rattle.m17_worker.specs.Underway.{Note, NoteFits, noted_leave, noted_own, noted_text}
use Rattle.m17_worker.proofs.Texts.{text_untold}

-- a place below so many
pub place_fits : (places : ℕ) (o : Option ℕ) → ForSome o (λ place. place < places) → option_map_or (λ place. nat_lt place places) o true ≡ true
place_fits places None h = refl
place_fits places (Some place) h = lt-ltb place places (h place refl)

packet_writable : (tag : Tag) (moment : ℕ) (what : Body) (verdict : Option Verdict) (make : Verdict → Record)
    → ((v : Verdict) → IsLowVerdict v → IsWritable (make v)) → ForSome verdict IsLowVerdict → IfSome (option_map make verdict) IsWritable
packet_writable tag moment what None make can low = tt
packet_writable tag moment what (Some v) make can low = can v (low v refl)

own_writable : (now : Noted) (what : Body) → now.tag.link < 4 → ForSome (place_of what) (λ place. place < 256) → ForSome now.verdict IsLowVerdict
    → IfSome (own_record now what) IsWritable
own_writable now (body.Join k peer callsign listen after) link place low =
    elim (nat_lt k.place now.places) as (λ b. IfSome (cond b (Some (Join now.tag now.moment k listen callsign)) None) IsWritable) [
      | true ↦ (link, place k.place refl)
      | false ↦ tt
    ]
own_writable now (body.Leave k why) link place low = tt
own_writable now (body.Packet k packet) link place low =
    packet_writable now.tag now.moment (body.Packet k packet) now.verdict (λ v. Packet now.tag now.moment k v packet)
    (λ v h. ((link, place k.place refl), h)) low
own_writable now (body.Reply k control) link place low = tt
own_writable now body.Tick link place low = tt
own_writable now body.Stop link place low = tt

pub writes_own : (now : Noted) (what : Body) (own : Option Record) → own ≡ own_record now what → now.tag.link < 4
    → ForSome (place_of what) (λ place. place < 256) → ForSome now.verdict IsLowVerdict → ForSome own IsWritable
writes_own now what own is link place low line at =
    let P : Option Record → Type 0 = λ o. IfSome o IsWritable in
    subst P (sym is ∙ at) (own_writable now what link place low)

pub noted_is : {L : Type 0} (start book : BookTold L) (text : List ℕ) (moment told : ℕ) (note : Note) (leave own : Option Record) (failed : Bool) → told ≡ moment
    → leave ≡ option_and_then (leave_record note.event.tag told) note.bye
    → own ≡ own_record (record { tag = note.event.tag; moment = told; verdict = note.verdict; places = note.places }) note.event.body
    → HasText start ((text ++ flat_map record_bytes (option_to_list leave)) ++ flat_map record_bytes (option_to_list own)) failed book
    → HasText start (noted_text text moment note) failed book
noted_is start book text moment told note leave own failed same is_leave is_own h =
    let P : List ℕ → Type 0 = λ l. HasText start l failed book in
    let e : ((text ++ flat_map record_bytes (option_to_list leave)) ++ flat_map record_bytes (option_to_list own)) ≡ noted_text text told note =
    ap (λ o. (text ++ flat_map record_bytes (option_to_list o)) ++ flat_map record_bytes (option_to_list own)) is_leave
    ∙ ap (λ o. (text ++ flat_map record_bytes (option_to_list (option_and_then (leave_record note.event.tag told) note.bye))) ++ flat_map record_bytes (option_to_list o)) is_own in
    subst P (e ∙ ap (λ m. noted_text text m note) same) h

-- a book that tells nothing tells nothing of the records
pub noted_untold : {L : Type 0} → BooksAreWrittenInTurn L → (start book : BookTold L) (text : List ℕ) (moment : ℕ) (note : Note) (failed : Bool) → book.written ≡ None
    → HasText start text failed book → HasText start (noted_text text moment note) failed book
noted_untold law start book text moment note failed none h =
    let now : Noted = record { tag = note.event.tag; moment = moment; verdict = note.verdict; places = note.places } in
    let leave : List ℕ = flat_map record_bytes (option_to_list (option_and_then (leave_record note.event.tag moment) note.bye)) in
    let own : List ℕ = flat_map record_bytes (option_to_list (own_record now note.event.body)) in
    text_untold law start (text ++ leave) own book failed none (text_untold law start text leave book failed none h)

-- each record of the event fits its fields, where the two that were written do
pub note_fits : (moment told : ℕ) (note : Note) (leave own : Option Record) → told ≡ moment → leave ≡ noted_leave told note → own ≡ noted_own told note
    → ForSome leave (FitsRecord Two) → ForSome own (FitsRecord Two) → NoteFits moment note
note_fits moment told note leave own same is_leave is_own first second =
    let F : Option Record → Type 0 = λ o. ForSome o (FitsRecord Two) in
    subst (λ (m : ℕ). NoteFits m note) same (record { leave = subst F is_leave first; own = subst F is_own second })
