-- The records of an event, beside what a module's book keeps of it.
use Rattle.std.proofs.Common.{◌≡◌, ℕ, ◌/◌, Bool, true, false, cond, List, [], ◌∷◌, ◌++◌, length, map, slice_get, nat_lt, Option, None, Some, refl, ap, sym, subst, ◌∙◌}
use Rattle.std.specs.Option.{option_map, option_to_list}
use Rattle.std.specs.List.{filter_map, flat_map, cons_option, range_with_len}
use Rattle.std.proofs.lemmas.List.{append-nil, map-append}
use Rattle.std.proofs.lemmas.List.Elements.{filter_map-append}
use Rattle.std.proofs.lemmas.Option.{slice_get-map}
use Rattle.std.proofs.lemmas.List.FromFn.{length-map-range_with_len}
use Rattle.m17_values.specs.declared.member.Member.{Member}
use Rattle.m17_stream.specs.declared.packet.StreamPacket.{StreamPacket}
use Rattle.m17_control.specs.declared.event.Tag.{Tag}
use Rattle.m17_control.specs.declared.event.Body.{Body}
use Rattle.m17_control.specs.declared.event.Body.TheVariants.{Join, Leave, Packet, Reply, Tick, Stop}
use Rattle.m17_control.specs.declared.event.Event.{Event}
use Rattle.m17_control.specs.declared.event.Why.{Why}
use Rattle.m17_control.specs.declared.event.Why.TheVariants.{Replaced}
use Rattle.m17_control.specs.declared.item.Item.{Item}
use Rattle.m17_control.specs.declared.item.Said.{Said}
use Rattle.m17_control.specs.declared.item.Said.TheVariants as said
use Rattle.m17_floor.specs.declared.verdict.Verdict.{Verdict}
use Rattle.m17_floor.specs.declared.act.Act.{Act}
use Rattle.m17_floor.specs.declared.act.ActKind.TheVariants as act
use Rattle.m17_floor.specs.Acts.{kind_or_other, kind_at, moment_before, moment_at}
use Rattle.m17_floor.specs.StandsFor.{packet_act}
use Rattle.m17_floor.specs.Floor.{verdict_given, verdict_after, past_at, verdict_at}
use Rattle.m17_floor.specs.Rule.{incoming}
use Rattle.m17_floor.specs.Legal.{KeptAct, IsLegal}
use Rattle.m17_module.specs.declared.seat.Seat.{Seat}
use Rattle.m17_module.specs.Book as keeps
use Rattle.m17_module.specs.Book.{RecordsAreLegal}
use Rattle.m17_module.specs.Events.{kind_of, act_of, acts_of}
use Rattle.m17_module.specs.Seats.{seat_at, seats_at, members_of, seat_in, seat_of, others_than}
use Rattle.m17_module.specs.Echoes.{echo_at}
use Rattle.m17_module.specs.Items.{Setup, floor_setup, Setting, item_to, to_one, says, pings_at, echo_items, echoes_at, said_by, said_at, setting_at, items_at, ping_every_ms}
use Rattle.m17_book.specs.Checks.{kept_by}
use Rattle.m17_book.specs.declared.record.Record.{Record}
use Rattle.m17_book.specs.declared.record.Record.TheVariants as records
use Rattle.m17_worker.specs.BookLaws.{RecordsKeepTheActs, BooksAreLegal}
use Rattle.m17_worker.specs.Gifts.{why_left}
use Rattle.m17_worker.specs.Records.{Noted, leave_record, own_record, records_by, noted_at, records_for, records_at, records_of}

-- the Leaves among items
abbrev leaves : Tag → ℕ → List Item → List Record
leaves tag moment items = filter_map (leave_record tag moment) items

leaves-append : (tag : Tag) (moment : ℕ) (xs ys : List Item) → leaves tag moment (xs ++ ys) ≡ leaves tag moment xs ++ leaves tag moment ys
leaves-append tag moment xs ys = filter_map-append (leave_record tag moment) xs ys

no_leave : (tag : Tag) (moment : ℕ) (what : Said) (seat : Seat) (rest : List Record) → why_left what ≡ None → cons_option (leave_record tag moment (item_to what seat)) rest ≡ rest
no_leave tag moment what seat rest none = ap (λ o. cons_option (option_map (λ (why : Why). records.Leave tag moment seat.member why) o) rest) none

no_leaves : (tag : Tag) (moment : ℕ) (what : Said) (seats : List Seat) → why_left what ≡ None → leaves tag moment (map (item_to what) seats) ≡ []
no_leaves tag moment what [] none = refl
no_leaves tag moment what (seat ∷ seats) none =
    no_leave tag moment what seat (leaves tag moment (map (item_to what) seats)) none ∙ no_leaves tag moment what seats none

no_leave_to : (tag : Tag) (moment : ℕ) (what : Said) (o : Option Seat) → why_left what ≡ None → leaves tag moment (to_one what o) ≡ []
no_leave_to tag moment what None none = refl
no_leave_to tag moment what (Some seat) none = no_leave tag moment what seat [] none

no_leaves_if : (tag : Tag) (moment : ℕ) (b : Bool) (xs : List Item) → leaves tag moment xs ≡ [] → leaves tag moment (cond b xs []) ≡ []
no_leaves_if tag moment true xs none = none
no_leaves_if tag moment false xs none = refl

no_pings : (tag : Tag) (moment places : ℕ) (events : List Event) (n : ℕ) → leaves tag moment (pings_at places events n) ≡ []
unfolding pings_at
no_pings tag moment places events n =
    no_leaves_if tag moment (nat_lt (moment_before (acts_of events) n / ping_every_ms) (moment_at (acts_of events) n / ping_every_ms))
    (map (item_to said.Ping) (members_of (seats_at places events n)))
    (no_leaves tag moment said.Ping (members_of (seats_at places events n)) refl)

no_echo_items : (tag : Tag) (moment n : ℕ) (seats : List (Option Seat)) (o : Option (Member × StreamPacket)) → leaves tag moment (echo_items n seats o) ≡ []
no_echo_items tag moment n seats None = refl
no_echo_items tag moment n seats (Some echo) = no_leave_to tag moment (said.Echo n echo.1) (seat_of seats echo.0) refl

no_echoes : (tag : Tag) (moment : ℕ) (setup : Setup) (events : List Event) (n : ℕ) → leaves tag moment (echoes_at setup events n) ≡ []
unfolding echoes_at
no_echoes tag moment setup events n =
    no_leaves_if tag moment setup.parrot (echo_items n (seats_at setup.places events n) (echo_at setup (acts_of events) n))
    (no_echo_items tag moment n (seats_at setup.places events n) (echo_at setup (acts_of events) n))

-- all Leaves are of what the event itself says
leaves_said : (tag : Tag) (moment : ℕ) (setup : Setup) (events : List Event) (n : ℕ) → leaves tag moment (items_at setup events n) ≡ leaves tag moment (said_at setup events n)
unfolding items_at
leaves_said tag moment setup events n =
    leaves-append tag moment (pings_at setup.places events n ++ echoes_at setup events n) (said_at setup events n)
    ∙ ap (λ xs. xs ++ leaves tag moment (said_at setup events n))
    (leaves-append tag moment (pings_at setup.places events n) (echoes_at setup events n)
    ∙ ap (λ xs. xs ++ leaves tag moment (echoes_at setup events n)) (no_pings tag moment setup.places events n)
    ∙ no_echoes tag moment setup events n)

leave_to : (tag : Tag) (moment : ℕ) (why : Why) (o : Option Seat) → map kept_by (leaves tag moment (to_one (said.Bye why) o)) ≡ keeps.leave_kept moment o
leave_to tag moment why None = refl
leave_to tag moment why (Some seat) = refl

-- what is kept of records in two parts
kept_parts : (xs : List Record) (o : Option Record) → map kept_by (xs ++ option_to_list o) ≡ map kept_by xs ++ map kept_by (option_to_list o)
kept_parts xs o = map-append kept_by xs (option_to_list o)

kept_join : (now : Noted) (seats : List (Option Seat)) (k : Member) (seat : Seat) (listen : Bool) (callsign after : ℕ) (b c : Bool) → b ≡ c →
    map kept_by (leaves now.tag now.moment (cond b (to_one (said.Bye Replaced) (seat_in seats k.place) ++ item_to (said.Hello after) seat ∷ []) []))
    ++ map kept_by (option_to_list (cond c (Some (records.Join now.tag now.moment k listen callsign)) None))
    ≡ cond c (keeps.leave_kept now.moment (seat_in seats k.place) ++ kept_by (records.Join now.tag now.moment k listen callsign) ∷ []) []
kept_join now seats k seat listen callsign after true c e =
    let P : Bool → Type 0 = λ d. map kept_by (leaves now.tag now.moment (to_one (said.Bye Replaced) (seat_in seats k.place) ++ item_to (said.Hello after) seat ∷ []))
    ++ map kept_by (option_to_list (cond d (Some (records.Join now.tag now.moment k listen callsign)) None))
    ≡ cond d (keeps.leave_kept now.moment (seat_in seats k.place) ++ kept_by (records.Join now.tag now.moment k listen callsign) ∷ []) [] in
    subst P e
    (ap (λ xs. map kept_by xs ++ kept_by (records.Join now.tag now.moment k listen callsign) ∷ [])
    (leaves-append now.tag now.moment (to_one (said.Bye Replaced) (seat_in seats k.place)) (item_to (said.Hello after) seat ∷ []) ∙ append-nil (leaves now.tag now.moment (to_one (said.Bye Replaced) (seat_in seats k.place))))
    ∙ ap (λ xs. xs ++ kept_by (records.Join now.tag now.moment k listen callsign) ∷ []) (leave_to now.tag now.moment Replaced (seat_in seats k.place)))
kept_join now seats k seat listen callsign after false c e =
    let P : Bool → Type 0 = λ d. map kept_by (option_to_list (cond d (Some (records.Join now.tag now.moment k listen callsign)) None))
    ≡ cond d (keeps.leave_kept now.moment (seat_in seats k.place) ++ kept_by (records.Join now.tag now.moment k listen callsign) ∷ []) [] in
    subst P e refl

-- a packet, as it is kept
abbrev kept_one : ℕ → Member → StreamPacket → Option Verdict → KeptAct
kept_one moment k p verdict = record { act = packet_act moment k p; verdict = verdict }

-- A packet's verdict is written down.
kept_packet : (now : Noted) (k : Member) (p : StreamPacket) (verdict : Verdict) → now.verdict ≡ Some verdict → map kept_by (option_to_list (own_record now (Packet k p))) ≡ kept_by (records.Packet now.tag now.moment k verdict p) ∷ []
kept_packet now k p verdict is = ap (λ o. map kept_by (option_to_list (option_map (λ v. records.Packet now.tag now.moment k v p) o))) is

some_verdict : (setup : Setup) (acts : List Act) (n : ℕ) (k : Member) (p : StreamPacket) → kind_at acts n ≡ act.Packet k p → (verdict : Verdict) × (verdict_at (floor_setup setup) acts n ≡ Some verdict)
unfolding verdict_at verdict_given
some_verdict setup acts n k p is = (verdict_after (past_at (floor_setup setup) acts n) (incoming k (moment_at acts n) p), ap (verdict_given (past_at (floor_setup setup) acts n) (moment_at acts n)) is)

length_seats : (places : ℕ) (events : List Event) (n : ℕ) → length (seats_at places events n) ≡ places
unfolding seats_at
length_seats places events n = length-map-range_with_len (seat_at places events n) 0 places

-- what is kept of the records of one event, by what it is
by_body : (setup : Setup) (events : List Event) (n : ℕ) (tag : Tag) (body : Body) → kind_at (acts_of events) n ≡ kind_of body →
    map kept_by (leaves tag (moment_at (acts_of events) n) (says (setting_at setup events n tag.link) body))
    ++ map kept_by (option_to_list (own_record (noted_at setup events n tag) body))
    ≡ keeps.kept_by (keeps.keeping_at setup events n) body
by_body setup events n tag (Join k peer callsign listen after) is =
    kept_join (noted_at setup events n tag) (seats_at setup.places events n) k (record { member = k; link = tag.link; peer = peer; listens = listen }) listen callsign after
    (nat_lt k.place (length (seats_at setup.places events n))) (nat_lt k.place setup.places) (ap (nat_lt k.place) (length_seats setup.places events n))
by_body setup events n tag (Leave k why) is =
    append-nil (map kept_by (leaves tag (moment_at (acts_of events) n) (to_one (said.Bye why) (seat_of (seats_at setup.places events n) k))))
    ∙ leave_to tag (moment_at (acts_of events) n) why (seat_of (seats_at setup.places events n) k)
by_body setup events n tag (Packet k p) is =
    let now : Noted = noted_at setup events n tag in
    let found = some_verdict setup (acts_of events) n k p is in
    let setting : Setting = setting_at setup events n tag.link in
    let none : leaves tag now.moment (says setting (Packet k p)) ≡ [] =
    no_leaves_if tag now.moment setting.admitted (map (item_to (said.Frame setting.position p)) (others_than k setting.seats)) (no_leaves tag now.moment (said.Frame setting.position p) (others_than k setting.seats) refl) in
    ap (λ xs. map kept_by xs ++ map kept_by (option_to_list (own_record now (Packet k p)))) none
    ∙ kept_packet now k p found.0 found.1
    ∙ ap (λ o. kept_one now.moment k p o ∷ []) (sym found.1)
by_body setup events n tag (Reply k control) is =
    ap (λ xs. map kept_by xs ++ []) (no_leave_to tag (moment_at (acts_of events) n) (said.Reply control) (seat_of (seats_at setup.places events n) k) refl)
by_body setup events n tag Tick is = refl
by_body setup events n tag Stop is = refl

kind_here : (events : List Event) (n : ℕ) (event : Event) → slice_get events n ≡ Some event → kind_at (acts_of events) n ≡ kind_of event.body
kind_here events n event is = ap kind_or_other (slice_get-map act_of events n ∙ ap (option_map act_of) is)

said_is : (setup : Setup) (events : List Event) (n : ℕ) (event : Event) → slice_get events n ≡ Some event → said_at setup events n ≡ says (setting_at setup events n event.tag.link) event.body
unfolding said_at
said_is setup events n event is = ap (said_by setup events n) is

kept_event : (setup : Setup) (events : List Event) (n : ℕ) (event : Event) → slice_get events n ≡ Some event → map kept_by (records_by (noted_at setup events n event.tag) (items_at setup events n) event.body) ≡ keeps.kept_by (keeps.keeping_at setup events n) event.body
kept_event setup events n event is =
    let now : ℕ = moment_at (acts_of events) n in
    let own : Option Record = own_record (noted_at setup events n event.tag) event.body in
    kept_parts (leaves event.tag now (items_at setup events n)) own
    ∙ ap (λ xs. map kept_by xs ++ map kept_by (option_to_list own)) (leaves_said event.tag now setup events n ∙ ap (leaves event.tag now) (said_is setup events n event is))
    ∙ by_body setup events n event.tag event.body (kind_here events n event is)

kept_for : (setup : Setup) (events : List Event) (n : ℕ) (o : Option Event) → slice_get events n ≡ o → map kept_by (records_for setup events n o) ≡ keeps.kept_from setup events n o
kept_for setup events n None is = refl
kept_for setup events n (Some event) is = kept_event setup events n event is

kept_position : (setup : Setup) (events : List Event) (n : ℕ) → map kept_by (records_at setup events n) ≡ keeps.kept_at setup events n
unfolding records_at keeps.kept_at
kept_position setup events n = kept_for setup events n (slice_get events n) refl

kept_all : (setup : Setup) (events : List Event) (ns : List ℕ) → map kept_by (flat_map (records_at setup events) ns) ≡ flat_map (keeps.kept_at setup events) ns
kept_all setup events [] = refl
kept_all setup events (n ∷ ns) =
    map-append kept_by (records_at setup events n) (flat_map (records_at setup events) ns)
    ∙ ap (λ xs. xs ++ map kept_by (flat_map (records_at setup events) ns)) (kept_position setup events n)
    ∙ ap (λ xs. keeps.kept_at setup events n ++ xs) (kept_all setup events ns)

pub records_keep : RecordsKeepTheActs
unfolding records_of keeps.kept_of
records_keep setup events = kept_all setup events (range_with_len 0 (length events))

pub books_legal : RecordsAreLegal → BooksAreLegal
books_legal legal setup events few = subst (IsLegal setup.limit) (sym (records_keep setup events)) (legal setup events few)
