-- Which packets and Joins a module is routed, entry by entry.
use Rattle.std.proofs.Common.{◌≡◌, ℕ, zero, suc, ◌+◌, Bool, true, false, cond, eqb, List, [], ◌∷◌, ◌++◌, length, map, filter, filter_map, Option, None, Some, refl, ap, sym, ◌∙◌, subst}
use Rattle.std.specs.List.{cons_option, flat_map, range_with_len}
use Rattle.std.proofs.lemmas.List.Elements.{filter_map-append}
use Rattle.m17_values.specs.declared.peer.Peer.{Peer}
use Rattle.m17_control.specs.declared.event.Body.TheVariants as body
use Rattle.m17_control.specs.declared.event.Event.{Event}
use Rattle.m17_control.specs.declared.event.Why.TheVariants as why
use Rattle.m17_control.specs.declared.packet.Packet.{Packet}
use Rattle.m17_control.specs.Modules.{letters_of}
use Rattle.m17_directory.specs.declared.dispatch.Dispatch.{Dispatch}
use Rattle.m17_directory.specs.declared.dispatch.Dispatch.TheVariants.{ToModule, ToDoor}
use Rattle.m17_directory.specs.declared.known.Known.{Known}
use Rattle.m17_directory.specs.declared.known.Request.{Request}
use Rattle.m17_directory.specs.declared.verdict.LinkVerdict.{LinkVerdict}
use Rattle.m17_directory.specs.declared.verdict.LinkVerdict.TheVariants as verdict
use Rattle.m17_directory.specs.declared.verdict.Act.TheVariants as act
use Rattle.m17_directory.specs.Entries.{Notice, Claim, Entry, Setup, notice_at, claim_at, moment_before, ends_at}
use Rattle.m17_directory.specs.Known.{Past, now, request_in, known_at}
use Rattle.m17_directory.specs.Outcome.{Here, Outcome, only, to_module, to_each_module, leave, has_place, of_packet, of_end}
use Rattle.m17_directory.specs.Routed.{here_of, row_for, unclaimed_at, others_at, settled_by, settled_at, asks_at, both, past_at, link_verdict, posts_at, posted, event_for, routed}
use Rattle.m17_directory.specs.Laws.{is_packet, packet_letter, packet_routed, packet_index, is_packet_for, PacketsAreOfEntries, is_join, join_event, joins_by, joins_at, JoinsAreTheClaims}
use Rattle.m17_directory.specs.Steps.{silent_by, still_by, said_by}
use Rattle.m17_directory.proofs.Same.{length_asked, heard_is}
use Rattle.m17_directory.proofs.Lines.{of_lines}
use Rattle.m17_directory.proofs.AllPosts.{either}
use Rattle.m17_directory.proofs.LawSent.{AllSent}
use Rattle.m17_directory.proofs.LawRouted.{posts_sent}
use Rattle.m17_directory.proofs.LawPosts.{packets_routed, none_of, no_leaves, read_heard}

-- what is read off each position's posts, one position after another
pub read_all : {X : Type 0} (read : Dispatch → Option X) (f : ℕ → List Dispatch) (g : ℕ → List X) → ((i : ℕ) → filter_map read (f i) ≡ g i) → (from n : ℕ) → filter_map read (flat_map f (range_with_len from n)) ≡ flat_map g (range_with_len from n)
read_all read f g h from zero = refl
read_all read f g h from (suc n) =
    filter_map-append read (f from) (flat_map f (range_with_len (from + 1) n))
    ∙ ap (λ xs. xs ++ filter_map read (flat_map f (range_with_len (from + 1) n))) (h from)
    ∙ ap (λ xs. g from ++ xs) (read_all read f g h (from + 1) n)

-- the index of a packet for a module
abbrev index_for : ℕ → Dispatch → Option ℕ
index_for letter (ToModule to event) = cond (eqb to letter) (packet_index event) None
index_for letter (ToDoor direct) = None

index_step : (event : Event) (b : Bool) (xs : List Event) (ys : List ℕ) → filter_map packet_index xs ≡ ys → filter_map packet_index (cons_option (cond b (Some event) None) xs) ≡ cons_option (cond b (packet_index event) None) ys
index_step event true xs ys h = ap (cons_option (packet_index event)) h
index_step event false xs ys h = h

index_of_events : (letter : ℕ) (posts : List Dispatch) → filter_map packet_index (filter_map (event_for letter) posts) ≡ filter_map (index_for letter) posts
index_of_events letter [] = refl
index_of_events letter (ToModule to event ∷ posts) = index_step event (eqb to letter) (filter_map (event_for letter) posts) (filter_map (index_for letter) posts) (index_of_events letter posts)
index_of_events letter (ToDoor direct ∷ posts) = index_of_events letter posts

-- those of one entry all have its index
same_step : (n letter to index : ℕ) (b c : Bool) (xs : List ℕ) (tos : List ℕ) → index ≡ n → xs ≡ map (λ t. n) (filter (λ t. eqb t letter) tos) → b ≡ eqb to letter
    → cons_option (cond b (cond c (Some index) None) None) xs ≡ map (λ t. n) (filter (λ t. eqb t letter) (cons_option (cond c (Some to) None) tos))
same_step n letter to index true true xs tos e h q = ap (λ i. i ∷ xs) e ∙ ap (λ ys. n ∷ ys) h ∙ ap (λ b. map (λ (t : ℕ). n) (cond b (to ∷ filter (λ t. eqb t letter) tos) (filter (λ t. eqb t letter) tos))) q
same_step n letter to index true false xs tos e h q = h
same_step n letter to index false true xs tos e h q = h ∙ ap (λ b. map (λ (t : ℕ). n) (cond b (to ∷ filter (λ t. eqb t letter) tos) (filter (λ t. eqb t letter) tos))) q
same_step n letter to index false false xs tos e h q = h

same_index : (here : Here) (stops : Bool) (n letter : ℕ) (posts : List Dispatch) → here.index ≡ n → AllSent here stops posts → filter_map (index_for letter) posts ≡ map (λ t. n) (filter (λ t. eqb t letter) (filter_map packet_letter posts))
same_index at stops n letter [] e h = refl
same_index at stops n letter (ToModule to event ∷ posts) e h =
    same_step n letter to event.tag.index (eqb to letter) (is_packet event.body) (filter_map (index_for letter) posts) (filter_map packet_letter posts) (h.0.1 ∙ e) (same_index at stops n letter posts e h.1) refl
same_index at stops n letter (ToDoor direct ∷ posts) e h = same_index at stops n letter posts e h.1

named_by : (n letter : ℕ) (v : LinkVerdict) → map (λ t. n) (filter (λ t. eqb t letter) (packet_routed v)) ≡ cond (is_packet_for letter v) (n ∷ []) []
named_by n letter (verdict.Routed to act.Packet) = elim (eqb to letter) as (λ b. map (λ (t : ℕ). n) (cond b (to ∷ []) []) ≡ cond b (n ∷ []) []) [ true ↦ refl | false ↦ refl ]
named_by n letter v = refl

packet_at : (setup : Setup) (entries : List Entry) (letter n : ℕ) → filter_map (index_for letter) (posts_at setup entries n) ≡ cond (is_packet_for letter (link_verdict setup entries n)) (n ∷ []) []
packet_at setup entries letter n =
    same_index (here_of (past_at setup entries n)) (ends_at entries n) n letter (posts_at setup entries n) (length_asked setup entries n) (posts_sent setup entries n)
    ∙ ap (λ xs. map (λ (t : ℕ). n) (filter (λ t. eqb t letter) xs)) (packets_routed setup entries n)
    ∙ named_by n letter (link_verdict setup entries n)

cond_append : {A : Type 0} (b : Bool) (x : A) (xs : List A) → cond b (x ∷ []) [] ++ xs ≡ cond b (x ∷ xs) xs
cond_append true x xs = refl
cond_append false x xs = refl

flat_filter : (p : ℕ → Bool) (from n : ℕ) → flat_map (λ i. cond (p i) (i ∷ []) []) (range_with_len from n) ≡ filter p (range_with_len from n)
flat_filter p from zero = refl
flat_filter p from (suc n) =
    cond_append (p from) from (flat_map (λ i. cond (p i) (i ∷ []) []) (range_with_len (from + 1) n))
    ∙ ap (λ xs. cond (p from) (from ∷ xs) xs) (flat_filter p (from + 1) n)

pub packets_of_entries : PacketsAreOfEntries
unfolding routed posted
packets_of_entries setup entries letter =
    let p : ℕ → Bool = λ n. is_packet_for letter (link_verdict setup entries n) in
    index_of_events letter (flat_map (posts_at setup entries) (range_with_len 0 (length entries)))
    ∙ read_all (index_for letter) (posts_at setup entries) (λ i. cond (p i) (i ∷ []) []) (packet_at setup entries letter) 0 (length entries)
    ∙ flat_filter p 0 (length entries)

-- a Join for a module
abbrev pub join_for : ℕ → Dispatch → Option Event
join_for letter (ToModule to event) = cond (is_join event.body) (cond (eqb to letter) (Some event) None) None
join_for letter (ToDoor direct) = None

joins_step : (event : Event) (b : Bool) (xs ys : List Event) → filter (λ e. is_join e.body) xs ≡ ys
    → filter (λ e. is_join e.body) (cons_option (cond b (Some event) None) xs) ≡ cons_option (cond (is_join event.body) (cond b (Some event) None) None) ys
joins_step event true xs ys h =
    ap (λ zs. cond (is_join event.body) (event ∷ zs) zs) h
    ∙ elim (is_join event.body) as (λ c. cond c (event ∷ ys) ys ≡ cons_option (cond c (Some event) None) ys) [ true ↦ refl | false ↦ refl ]
joins_step event false xs ys h =
    h ∙ elim (is_join event.body) as (λ c. ys ≡ cons_option (cond c None None) ys) [ true ↦ refl | false ↦ refl ]

pub joins_of_events : (letter : ℕ) (posts : List Dispatch) → filter (λ e. is_join e.body) (filter_map (event_for letter) posts) ≡ filter_map (join_for letter) posts
joins_of_events letter [] = refl
joins_of_events letter (ToModule to event ∷ posts) = joins_step event (eqb to letter) (filter_map (event_for letter) posts) (filter_map (join_for letter) posts) (joins_of_events letter posts)
joins_of_events letter (ToDoor direct ∷ posts) = joins_of_events letter posts

-- an entry posts no Join before its claim
abbrev pub JoinsNone : ℕ → Outcome → Type 0
JoinsNone letter o = filter_map (join_for letter) o.posts ≡ []

none_packet : (letter : ℕ) (here : Here) (x : Peer) (o : Option Known) (p : Packet) → JoinsNone letter (of_packet here x o p)
none_packet letter here x o p = of_lines (JoinsNone letter) here x o p (record {
  nothing = λ v said. refl;
  at_door = λ y v reply said is. refl;
  frame = λ k s is of. refl;
  reply = λ k what reply is said. refl;
  leaves = λ k v w is said other. refl;
})

none_end : (letter : ℕ) (here : Here) (rows : List Known) → JoinsNone letter (of_end here rows)
none_end letter at rows =
    filter_map-append (join_for letter) (map (leave at why.Stopped) rows) (to_each_module at body.Stop)
    ∙ ap (λ xs. xs ++ filter_map (join_for letter) (to_each_module at body.Stop)) (no_leaves (join_for letter) at why.Stopped rows (λ k. refl))
    ∙ none_of (join_for letter) at body.Stop (letters_of at.setup.modules) (λ l. refl)

none_said : (letter : ℕ) (here : Here) (ends : Bool) (rows still : List Known) (notice : Notice) → JoinsNone letter (said_by here ends rows still notice)
none_said letter at ends rows still (Notice.Sent from m p) = none_packet letter at from (row_for from still) p
none_said letter at ends rows still (Notice.Garbled from m refusal) = refl
none_said letter at ends rows still (Notice.Quiet m) = refl
none_said letter at ends rows still Notice.Fault = either (JoinsNone letter) ends (of_end at rows) (only verdict.Faulted) (none_end letter at rows) refl
none_said letter at ends rows still Notice.End = none_end letter at rows

pub none_heard : (letter : ℕ) (past : Past) → JoinsNone letter (unclaimed_at past)
none_heard letter past =
    let at : Here = here_of past in
    let ends : Bool = ends_at past.entries (now past) in
    let rows : List Known = known_at past in
    let notice : Notice = notice_at past.entries (now past) in
    let out : Outcome = said_by at ends rows (still_by at rows notice) notice in
    let said : JoinsNone letter out = none_said letter at ends rows (still_by at rows notice) notice in
    subst (JoinsNone letter) (sym (heard_is past))
    (read_heard (join_for letter) at (moment_before past.entries (now past)) ends rows notice (λ l. refl)
    ∙ ap (λ xs. xs ++ filter_map (join_for letter) out.posts) (no_leaves (join_for letter) at why.Silent (silent_by at rows notice) (λ k. refl))
    ∙ said)

cond_cons : (b : Bool) (event : Event) → cons_option (cond b (Some event) None) [] ≡ cond b (event ∷ []) []
cond_cons true event = refl
cond_cons false event = refl

joins_settled_by : (letter : ℕ) (past : Past) (claim : Option Claim) (notice : Notice) (request : Option Request) → filter_map (join_for letter) (settled_by past claim notice request).posts ≡ joins_by (here_of past) letter notice request claim
joins_settled_by letter past (Some claim) (Notice.Sent from m p) (Some request) =
    let at : Here = here_of past in
    let replaced : List Known = filter (has_place claim.member.place) (others_at past) in
    let join : List Dispatch = to_module at request.letter (body.Join claim.member from request.callsign request.listen claim.after) ∷ [] in
    filter_map-append (join_for letter) (map (leave at why.Replaced) replaced) join
    ∙ ap (λ xs. xs ++ filter_map (join_for letter) join) (no_leaves (join_for letter) at why.Replaced replaced (λ k. refl))
    ∙ cond_cons (eqb request.letter letter) (join_event at from request claim)
joins_settled_by letter past None (Notice.Sent from m p) (Some request) = refl
joins_settled_by letter past claim (Notice.Sent from m p) None = refl
joins_settled_by letter past claim (Notice.Garbled from m refusal) request = refl
joins_settled_by letter past claim (Notice.Quiet m) request = refl
joins_settled_by letter past claim Notice.Fault request = refl
joins_settled_by letter past claim Notice.End request = refl

joins_settled : (letter : ℕ) (past : Past) (claim : Option Claim) → filter_map (join_for letter) (settled_at past claim).posts ≡ joins_by (here_of past) letter (notice_at past.entries (now past)) (request_in (notice_at past.entries (now past))) claim
unfolding settled_at
joins_settled letter past claim = joins_settled_by letter past claim (notice_at past.entries (now past)) (request_in (notice_at past.entries (now past)))

joins_comes : (letter : ℕ) (b : Bool) (o u : Outcome) (xs : List Event) → JoinsNone letter o → filter_map (join_for letter) u.posts ≡ xs → filter_map (join_for letter) (cond b (both o u) o).posts ≡ cond b xs []
joins_comes letter true o u xs h k = filter_map-append (join_for letter) o.posts u.posts ∙ ap (λ ys. ys ++ filter_map (join_for letter) u.posts) h ∙ k
joins_comes letter false o u xs h k = h

pub joins_posted : (setup : Setup) (entries : List Entry) (letter n : ℕ) → filter_map (join_for letter) (posts_at setup entries n) ≡ joins_at setup entries letter n
unfolding posts_at joins_at
joins_posted setup entries letter n =
    let past : Past = past_at setup entries n in
    let f : ℕ → List Event = λ m. joins_by (here_of past) letter (notice_at entries m) (request_in (notice_at entries m)) (claim_at entries m) in
    joins_comes letter (asks_at past) (unclaimed_at past) (settled_at past (claim_at entries (now past))) (f (now past)) (none_heard letter past) (joins_settled letter past (claim_at entries (now past)))
    ∙ ap (λ m. cond (asks_at past) (f m) []) (length_asked setup entries n)

pub joins_claims : JoinsAreTheClaims
unfolding routed posted
joins_claims setup entries letter =
    joins_of_events letter (flat_map (posts_at setup entries) (range_with_len 0 (length entries)))
    ∙ read_all (join_for letter) (posts_at setup entries) (joins_at setup entries letter) (joins_posted setup entries letter) 0 (length entries)
