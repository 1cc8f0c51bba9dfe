-- What is posted of an entry goes to served modules and carries its tag, and no Stop is among it unless the link ends.
use Rattle.std.proofs.Common.{◌≡◌, ℕ, zero, suc, ◌<◌, Bool, true, false, List, [], ◌∷◌, ◌++◌, length, map, slice_get, unwrap_or, Option, Some, inl, inr, refl, ap, sym, ◌∙◌, subst, arith}
use Rattle.std.specs.List.{AllByRecursion}
use Rattle.std.proofs.lemmas.Bool.{and_parts, cases_eq, false≢true}
use Rattle.std.proofs.lemmas.Option.{same_Some, none-some}
use Rattle.m17_lists.proofs.Places.{one_more_stands_at_the_end, places_before_stay}
use Rattle.m17_values.specs.declared.peer.Peer.{Peer}
use Rattle.m17_control.specs.declared.event.Why.{Why}
use Rattle.m17_control.specs.declared.packet.Packet.{Packet}
use Rattle.m17_control.specs.Modules.{serves}
use Rattle.m17_directory.specs.declared.dispatch.Dispatch.{Dispatch}
use Rattle.m17_directory.specs.declared.dispatch.Dispatch.TheVariants.{ToModule, ToDoor}
use Rattle.m17_directory.specs.declared.known.Known.{Known}
use Rattle.m17_directory.specs.declared.known.Request.{Request}
use Rattle.m17_directory.specs.Entries.{Notice, Entry, Setup, notice_at, is_from, ends_at}
use Rattle.m17_directory.specs.Known.{Past, now, request_of, request_in, row_at, known_at}
use Rattle.m17_directory.specs.Outcome.{Here, Outcome, leave, of_packet}
use Rattle.m17_directory.specs.Routed.{here_of, row_for, is_asks, asks_at, asked_before, past_at}
use Rattle.m17_directory.specs.Laws.{is_stop, is_door_reply}
use Rattle.m17_directory.specs.Steps.{still_by, ticks_by, said_by}
use Rattle.m17_directory.proofs.Same.{length_asked, heard_is}
use Rattle.m17_directory.proofs.Later.{has_row}
use Rattle.m17_directory.proofs.Lines.{asks_for}
use Rattle.m17_directory.proofs.AllPosts.{all_map, all_found, all_ticks}

-- the modules of these rows are served
abbrev pub IsServed : Here → Known → Type 0
IsServed here k = serves here.setup.modules k.letter ≡ true

abbrev pub Served : Here → List Known → Type 0
Served here rows = AllByRecursion (IsServed here) rows

-- what goes to a module goes to a served one, and carries the tag of the entry; it is a Stop only where there may be one;
-- and what goes past the modules carries the link
abbrev pub IsSent : Here → Bool → Dispatch → Type 0
IsSent here stops (ToModule letter event) =
    (event.tag.link ≡ here.setup.link) × (event.tag.index ≡ here.index) × (serves here.setup.modules letter ≡ true)
    × (is_stop event.body ≡ true → stops ≡ true)
IsSent here stops (ToDoor direct) = (direct.link ≡ here.setup.link) × (is_door_reply direct.control ≡ true)

abbrev pub AllSent : Here → Bool → List Dispatch → Type 0
AllSent here stops posts = AllByRecursion (IsSent here stops) posts

pub no_stop : (stops : Bool) → false ≡ true → stops ≡ true
no_stop stops e = absurd (false≢true e)

module _ (here : Here) (stops : Bool) where
  pub sent_leaves : (why : Why) (rows : List Known) → Served here rows → AllSent here stops (map (leave here why) rows)
  sent_leaves why rows h = all_map (IsServed here) (IsSent here stops) (leave here why) rows (λ k s. (refl, refl, s, no_stop stops)) h

  pub sent_ticks : (before : ℕ) → AllSent here stops (ticks_by here before)
  sent_ticks before = all_ticks (IsSent here stops) here before (λ letter s. (refl, refl, s, no_stop stops))

-- who asks for a place asks for a served module
asks_packet : (here : Here) (x : Peer) (o : Option Known) (p : Packet) (request : Request) → is_asks (of_packet here x o p).verdict ≡ true → request_of p ≡ Some request → serves here.setup.modules request.letter ≡ true
asks_packet here x o p request e w =
    let asked = asks_for here x o p e in
    subst (λ (r : Request). serves here.setup.modules r.letter ≡ true) (same_Some asked.0 request (sym asked.1 ∙ w)) asked.2

asks_said : (here : Here) (ends : Bool) (rows still : List Known) (notice : Notice) (request : Request) → is_asks (said_by here ends rows still notice).verdict ≡ true → request_in notice ≡ Some request → serves here.setup.modules request.letter ≡ true
asks_said here ends rows still (Notice.Sent from at p) request e w = asks_packet here from (row_for from still) p request e w
asks_said here ends rows still (Notice.Garbled from at refusal) request e w = absurd (none-some request w)
asks_said here ends rows still (Notice.Quiet at) request e w = absurd (none-some request w)
asks_said here ends rows still Notice.Fault request e w = absurd (none-some request w)
asks_said here ends rows still Notice.End request e w = absurd (none-some request w)

pub asks_served : (past : Past) (request : Request) → asks_at past ≡ true → request_in (notice_at past.entries (now past)) ≡ Some request → serves past.setup.modules request.letter ≡ true
asks_served past request e w =
    asks_said (here_of past) (ends_at past.entries (now past)) (known_at past) (still_by (here_of past) (known_at past) (notice_at past.entries (now past))) (notice_at past.entries (now past)) request
    (ap (λ (o : Outcome). is_asks o.verdict) (sym (heard_is past)) ∙ e) w

-- of each position before, whether its entry asks for a place
pub asked_get : (setup : Setup) (entries : List Entry) (n i : ℕ) → i < n → slice_get (asked_before setup entries n) i ≡ Some (asks_at (past_at setup entries i))
unfolding asked_before
asked_get setup entries zero i l = absurd (omega arith)
asked_get setup entries (suc n) i l =
    let before : List Bool = asked_before setup entries n in
    let v : Bool = asks_at (past_at setup entries n) in
    let len : length before ≡ n = length_asked setup entries n in
    elim (cases_eq i n) [
      | inl same ↦ ap (slice_get (before ++ v ∷ [])) (same ∙ sym len) ∙ one_more_stands_at_the_end before v ∙ ap (λ m. Some (asks_at (past_at setup entries m))) (sym same)
      | inr other ↦ places_before_stay before (v ∷ []) i (omega arith) ∙ asked_get setup entries n i (omega arith)
    ]

row_served : (setup : Setup) (entries : List Entry) (n : ℕ) (x : Peer) (k : Known) → row_at (past_at setup entries n) x ≡ Some k → serves setup.modules k.letter ≡ true
row_served setup entries n x k e =
    let past : Past = past_at setup entries n in
    let row = has_row past x k e in
    let len : length past.asked ≡ n = length_asked setup entries n in
    let under : row.position < length past.asked = row.below in
    let below : row.position < n = omega arith in
    let asked = and_parts (unwrap_or (slice_get past.asked row.position) false) (is_from x (notice_at entries row.position)) row.asks in
    let asks : asks_at (past_at setup entries row.position) ≡ true = sym (ap (λ o. unwrap_or o false) (asked_get setup entries n row.position below)) ∙ asked.0 in
    let there : length (asked_before setup entries row.position) ≡ row.position = length_asked setup entries row.position in
    ap (λ (r : Known). serves setup.modules r.letter) (sym row.is)
    ∙ asks_served (past_at setup entries row.position) row.request asks (ap (λ m. request_in (notice_at entries m)) there ∙ row.wants)

-- All that are known are in served modules.
pub known_served : (setup : Setup) (entries : List Entry) (n : ℕ) → Served (here_of (past_at setup entries n)) (known_at (past_at setup entries n))
unfolding known_at
known_served setup entries n = all_found (λ (k : Known). serves setup.modules k.letter ≡ true) (row_at (past_at setup entries n)) _ (λ x k e. row_served setup entries n x k e)
