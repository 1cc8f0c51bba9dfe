-- Which packets and Leaves an entry posts: the packet that its verdict names, and the Leaves of those that leave.
use Rattle.std.proofs.Common.{◌≡◌, ℕ, suc, ◌/◌, nat_lt, Bool, true, false, cond, ◌||◌, leb, List, [], ◌∷◌, ◌++◌, map, filter, filter_map, Option, None, Some, option_map, refl, ap, sym, ◌∙◌, subst}
use Rattle.std.specs.List.{cons_option}
use Rattle.std.proofs.lemmas.List.{append-nil, map-append}
use Rattle.std.proofs.lemmas.List.Elements.{filter_map-append}
use Rattle.std.proofs.lemmas.Bool.{false≢true}
use Rattle.m17_values.specs.declared.member.Member.{Member}
use Rattle.m17_values.specs.declared.peer.Peer.{Peer}
use Rattle.m17_control.specs.declared.event.Body.{Body}
use Rattle.m17_control.specs.declared.event.Body.TheVariants as body
use Rattle.m17_control.specs.declared.event.Why.{Why}
use Rattle.m17_control.specs.declared.event.Why.TheVariants as why
use Rattle.m17_control.specs.declared.packet.Packet.{Packet}
use Rattle.m17_control.specs.Modules.{letters_of}
use Rattle.m17_directory.specs.declared.dispatch.Dispatch.{Dispatch}
use Rattle.m17_directory.specs.declared.dispatch.Dispatch.TheVariants.{ToModule, ToDoor}
use Rattle.m17_directory.specs.declared.known.Known.{Known}
use Rattle.m17_directory.specs.declared.known.Request.{Request}
use Rattle.m17_directory.specs.declared.verdict.LinkVerdict.{LinkVerdict}
use Rattle.m17_directory.specs.declared.verdict.LinkVerdict.TheVariants as verdict
use Rattle.m17_directory.specs.Entries.{Notice, Claim, Entry, notice_at, claim_at, is_fault, is_end, moment_before, ends_at}
use Rattle.m17_directory.specs.Known.{Past, now, request_in, known_at}
use Rattle.m17_directory.specs.Outcome.{Here, Outcome, only, to_module, to_each_module, leave, has_place, of_packet, of_end}
use Rattle.m17_directory.specs.Routed.{tick_ms, here_of, row_for, unclaimed_at, others_at, settled_by, settled_at, is_asks, asks_at, both, past_at, link_verdict, posts_at}
use Rattle.m17_directory.specs.Laws.{packet_letter, packet_routed, PacketsAreRouted, leaver_of, left_member, EachWhoLeavesIsPosted, is_ended, EndedWhereItEnds}
use Rattle.m17_directory.specs.StandsFor.{faults_before}
use Rattle.m17_directory.specs.Steps.{silent_by, still_by, ticks_by, said_by, heard_by}
use Rattle.m17_directory.proofs.Faults.{ends_is}
use Rattle.m17_directory.proofs.Same.{length_asked, heard_is}
use Rattle.m17_directory.proofs.AllPosts.{either}
use Rattle.m17_directory.proofs.Lines.{of_lines, goes_on}

-- What is read off what is posted, where it is read off Leaves in one way, and off Ticks and Stops not at all.
module _ {X : Type 0} (read : Dispatch → Option X) where
  pub none_of : (here : Here) (what : Body) (letters : List ℕ) → ((letter : ℕ) → read (to_module here letter what) ≡ None) → filter_map read (map (λ letter. to_module here letter what) letters) ≡ []
  none_of here what [] h = refl
  none_of here what (letter ∷ letters) h = ap (λ o. cons_option o (filter_map read (map (λ l. to_module here l what) letters))) (h letter) ∙ none_of here what letters h

  pub no_leaves : (here : Here) (w : Why) (rows : List Known) → ((k : Known) → read (leave here w k) ≡ None) → filter_map read (map (leave here w) rows) ≡ []
  no_leaves here w [] h = refl
  no_leaves here w (k ∷ rows) h = ap (λ o. cons_option o (filter_map read (map (leave here w) rows))) (h k) ∙ no_leaves here w rows h

  pub each_leaves : (f : Known → X) (here : Here) (w : Why) (rows : List Known) → ((k : Known) → read (leave here w k) ≡ Some (f k)) → filter_map read (map (leave here w) rows) ≡ map f rows
  each_leaves f here w [] h = refl
  each_leaves f here w (k ∷ rows) h = ap (λ o. cons_option o (filter_map read (map (leave here w) rows))) (h k) ∙ ap (λ xs. f k ∷ xs) (each_leaves f here w rows h)

  pub no_ticks : (here : Here) (before : ℕ) → ((letter : ℕ) → read (to_module here letter body.Tick) ≡ None) → filter_map read (ticks_by here before) ≡ []
  no_ticks here before h =
      elim (nat_lt (before / tick_ms) (here.moment / tick_ms)) as (λ b. filter_map read (cond b (to_each_module here body.Tick) []) ≡ [])
      [ true ↦ none_of here body.Tick (letters_of here.setup.modules) h | false ↦ refl ]

  -- all that is posted before what the entry says is the Leaves of the silent
  pub read_heard : (here : Here) (before : ℕ) (ends : Bool) (rows : List Known) (notice : Notice) → ((letter : ℕ) → read (to_module here letter body.Tick) ≡ None)
      → filter_map read (heard_by here before ends rows notice).posts
      ≡ filter_map read (map (leave here why.Silent) (silent_by here rows notice)) ++ filter_map read (said_by here ends rows (still_by here rows notice) notice).posts
  read_heard here before ends rows notice h =
      let leaves : List Dispatch = map (leave here why.Silent) (silent_by here rows notice) in
      let said : List Dispatch = (said_by here ends rows (still_by here rows notice) notice).posts in
      filter_map-append read (leaves ++ ticks_by here before) said
      ∙ ap (λ xs. xs ++ filter_map read said) (filter_map-append read leaves (ticks_by here before))
      ∙ ap (λ xs. (filter_map read leaves ++ xs) ++ filter_map read said) (no_ticks here before h)
      ∙ ap (λ xs. xs ++ filter_map read said) (append-nil (filter_map read leaves))

-- an outcome posts the packet that its verdict names
abbrev Packs : Outcome → Type 0
Packs o = filter_map packet_letter o.posts ≡ packet_routed o.verdict

packs_packet : (here : Here) (x : Peer) (o : Option Known) (p : Packet) → Packs (of_packet here x o p)
packs_packet here x o p = of_lines Packs here x o p (record {
  nothing = λ v said. sym said.packet;
  at_door = λ y v reply said is. sym said.packet;
  frame = λ k s is of. refl;
  reply = λ k what reply is said. sym said.packet;
  leaves = λ k v w is said other. sym said.packet;
})

packs_end : (here : Here) (rows : List Known) → Packs (of_end here rows)
packs_end here rows =
    filter_map-append packet_letter (map (leave here why.Stopped) rows) (to_each_module here body.Stop)
    ∙ ap (λ xs. xs ++ filter_map packet_letter (to_each_module here body.Stop)) (no_leaves packet_letter here why.Stopped rows (λ k. refl))
    ∙ none_of packet_letter here body.Stop (letters_of here.setup.modules) (λ letter. refl)

packs_said : (here : Here) (ends : Bool) (rows still : List Known) (notice : Notice) → Packs (said_by here ends rows still notice)
packs_said here ends rows still (Notice.Sent from at p) = packs_packet here from (row_for from still) p
packs_said here ends rows still (Notice.Garbled from at refusal) = refl
packs_said here ends rows still (Notice.Quiet at) = refl
packs_said here ends rows still Notice.Fault = either Packs ends (of_end here rows) (only verdict.Faulted) (packs_end here rows) refl
packs_said here ends rows still Notice.End = packs_end here rows

packs_heard : (past : Past) → Packs (unclaimed_at past)
packs_heard past =
    let here : Here = here_of past in
    let ends : Bool = ends_at past.entries (now past) in
    let rows : List Known = known_at past in
    let notice : Notice = notice_at past.entries (now past) in
    let said : Packs (said_by here ends rows (still_by here rows notice) notice) = packs_said here ends rows (still_by here rows notice) notice in
    subst Packs (sym (heard_is past))
    (read_heard packet_letter here (moment_before past.entries (now past)) ends rows notice (λ letter. refl)
    ∙ ap (λ xs. xs ++ filter_map packet_letter (said_by here ends rows (still_by here rows notice) notice).posts) (no_leaves packet_letter here why.Silent (silent_by here rows notice) (λ k. refl))
    ∙ said)

packs_settled_by : (past : Past) (claim : Option Claim) (notice : Notice) (request : Option Request) → Packs (settled_by past claim notice request)
packs_settled_by past None (Notice.Sent from at p) (Some request) = refl
packs_settled_by past (Some claim) (Notice.Sent from at p) (Some request) =
    let here : Here = here_of past in
    let replaced : List Known = filter (has_place claim.member.place) (others_at past) in
    let join : List Dispatch = to_module here request.letter (body.Join claim.member from request.callsign request.listen claim.after) ∷ [] in
    filter_map-append packet_letter (map (leave here why.Replaced) replaced) join
    ∙ ap (λ xs. xs ++ []) (no_leaves packet_letter here why.Replaced replaced (λ k. refl))
packs_settled_by past claim (Notice.Sent from at p) None = refl
packs_settled_by past claim (Notice.Garbled from at refusal) request = refl
packs_settled_by past claim (Notice.Quiet at) request = refl
packs_settled_by past claim Notice.Fault request = refl
packs_settled_by past claim Notice.End request = refl

packs_settled : (past : Past) (claim : Option Claim) → Packs (settled_at past claim)
unfolding settled_at
packs_settled past claim = packs_settled_by past claim (notice_at past.entries (now past)) (request_in (notice_at past.entries (now past)))

asks_no_packet : (v : LinkVerdict) → is_asks v ≡ true → packet_routed v ≡ []
asks_no_packet verdict.Asks e = refl
asks_no_packet (verdict.Routed letter what) e = absurd (false≢true e)
asks_no_packet v e = absurd (false≢true e)

packs_both : (o u : Outcome) → is_asks o.verdict ≡ true → Packs o → Packs u → Packs (both o u)
packs_both o u e h k =
    filter_map-append packet_letter o.posts u.posts
    ∙ ap (λ xs. xs ++ filter_map packet_letter u.posts) (h ∙ asks_no_packet o.verdict e)
    ∙ k

packs_step : (o u : Outcome) (b : Bool) → b ≡ is_asks o.verdict → Packs o → Packs u → Packs (cond b (both o u) o)
packs_step o u true e h k = packs_both o u (sym e) h k
packs_step o u false e h k = h

pub packets_routed : PacketsAreRouted
unfolding posts_at link_verdict
packets_routed setup entries n =
    let past : Past = past_at setup entries n in
    let settles : Outcome = settled_at past (claim_at entries (now past)) in
    packs_step (unclaimed_at past) settles (asks_at past) refl (packs_heard past) (packs_settled past (claim_at entries (now past)))

-- an outcome posts the Leaves of those that leave
abbrev pub seat_of : Known → ℕ × Member
seat_of k = (k.letter, k.member)

abbrev pub left_seat : Dispatch → Option (ℕ × Member)
left_seat (ToModule letter event) = option_map (λ (m : Member). (letter, m)) (leaver_of event.body)
left_seat (ToDoor direct) = None

abbrev pub Leaves : Outcome → Type 0
Leaves o = filter_map left_seat o.posts ≡ map seat_of o.left

leaves_packet : (here : Here) (x : Peer) (o : Option Known) (p : Packet) → Leaves (of_packet here x o p)
leaves_packet here x o p = of_lines Leaves here x o p (record {
  nothing = λ v said. refl;
  at_door = λ y v reply said is. refl;
  frame = λ k s is of. refl;
  reply = λ k what reply is said. refl;
  leaves = λ k v w is said other. refl;
})

leaves_end : (here : Here) (rows : List Known) → Leaves (of_end here rows)
leaves_end here rows =
    filter_map-append left_seat (map (leave here why.Stopped) rows) (to_each_module here body.Stop)
    ∙ ap (λ xs. filter_map left_seat (map (leave here why.Stopped) rows) ++ xs) (none_of left_seat here body.Stop (letters_of here.setup.modules) (λ letter. refl))
    ∙ append-nil (filter_map left_seat (map (leave here why.Stopped) rows))
    ∙ each_leaves left_seat seat_of here why.Stopped rows (λ k. refl)

leaves_said : (here : Here) (ends : Bool) (rows still : List Known) (notice : Notice) → Leaves (said_by here ends rows still notice)
leaves_said here ends rows still (Notice.Sent from at p) = leaves_packet here from (row_for from still) p
leaves_said here ends rows still (Notice.Garbled from at refusal) = refl
leaves_said here ends rows still (Notice.Quiet at) = refl
leaves_said here ends rows still Notice.Fault = either Leaves ends (of_end here rows) (only verdict.Faulted) (leaves_end here rows) refl
leaves_said here ends rows still Notice.End = leaves_end here rows

pub leaves_heard : (past : Past) → Leaves (unclaimed_at past)
leaves_heard past =
    let here : Here = here_of past in
    let ends : Bool = ends_at past.entries (now past) in
    let rows : List Known = known_at past in
    let notice : Notice = notice_at past.entries (now past) in
    let out : Outcome = said_by here ends rows (still_by here rows notice) notice in
    let said : Leaves out = leaves_said here ends rows (still_by here rows notice) notice in
    subst Leaves (sym (heard_is past))
    (read_heard left_seat here (moment_before past.entries (now past)) ends rows notice (λ letter. refl)
    ∙ ap (λ xs. xs ++ filter_map left_seat out.posts) (each_leaves left_seat seat_of here why.Silent (silent_by here rows notice) (λ k. refl))
    ∙ ap (λ xs. map seat_of (silent_by here rows notice) ++ xs) said
    ∙ sym (map-append seat_of (silent_by here rows notice) out.left))

leaves_settled_by : (past : Past) (claim : Option Claim) (notice : Notice) (request : Option Request) → Leaves (settled_by past claim notice request)
leaves_settled_by past None (Notice.Sent from at p) (Some request) = refl
leaves_settled_by past (Some claim) (Notice.Sent from at p) (Some request) =
    let here : Here = here_of past in
    let replaced : List Known = filter (has_place claim.member.place) (others_at past) in
    let join : List Dispatch = to_module here request.letter (body.Join claim.member from request.callsign request.listen claim.after) ∷ [] in
    filter_map-append left_seat (map (leave here why.Replaced) replaced) join
    ∙ append-nil (filter_map left_seat (map (leave here why.Replaced) replaced))
    ∙ each_leaves left_seat seat_of here why.Replaced replaced (λ k. refl)
leaves_settled_by past claim (Notice.Sent from at p) None = refl
leaves_settled_by past claim (Notice.Garbled from at refusal) request = refl
leaves_settled_by past claim (Notice.Quiet at) request = refl
leaves_settled_by past claim Notice.Fault request = refl
leaves_settled_by past claim Notice.End request = refl

pub leaves_settled : (past : Past) (claim : Option Claim) → Leaves (settled_at past claim)
unfolding settled_at
leaves_settled past claim = leaves_settled_by past claim (notice_at past.entries (now past)) (request_in (notice_at past.entries (now past)))

-- and so their members
left_step : (o : Option Member) (letter : ℕ) (xs : List Member) (ys : List (ℕ × Member)) → xs ≡ map (λ (s : ℕ × Member). s.1) ys → cons_option o xs ≡ map (λ (s : ℕ × Member). s.1) (cons_option (option_map (λ (m : Member). (letter, m)) o) ys)
left_step None letter xs ys h = h
left_step (Some m) letter xs ys h = ap (λ zs. m ∷ zs) h

left_members : (posts : List Dispatch) → filter_map left_member posts ≡ map (λ (s : ℕ × Member). s.1) (filter_map left_seat posts)
left_members [] = refl
left_members (ToModule letter event ∷ posts) = left_step (leaver_of event.body) letter (filter_map left_member posts) (filter_map left_seat posts) (left_members posts)
left_members (ToDoor direct ∷ posts) = left_members posts

seats_members : (rows : List Known) → map (λ (s : ℕ × Member). s.1) (map seat_of rows) ≡ map (λ (k : Known). k.member) rows
seats_members [] = refl
seats_members (k ∷ rows) = ap (λ xs. k.member ∷ xs) (seats_members rows)

leaves_members : (o : Outcome) → Leaves o → filter_map left_member o.posts ≡ map (λ (k : Known). k.member) o.left
leaves_members o h = left_members o.posts ∙ ap (map (λ (s : ℕ × Member). s.1)) h ∙ seats_members o.left

pub leaves_posted : EachWhoLeavesIsPosted
leaves_posted = record {
  heard = λ past. leaves_members (unclaimed_at past) (leaves_heard past);
  settled = λ past claim. leaves_members (settled_at past claim) (leaves_settled past claim);
}

-- where the link ends its verdict says so
-- whether the link ends at what is said, after so many faults
abbrev pub EndsBy : Notice → ℕ → Bool → Type 0
EndsBy notice faults ends = ends ≡ (is_end notice || leb 16 (cond (is_fault notice) faults 0))

ended_said : (here : Here) (ends : Bool) (rows still : List Known) (notice : Notice) (faults : ℕ) → EndsBy notice faults ends → is_ended (said_by here ends rows still notice).verdict ≡ ends
ended_said here ends rows still (Notice.Sent from at p) faults e = goes_on here from (row_for from still) p ∙ sym e
ended_said here ends rows still (Notice.Garbled from at refusal) faults e = sym e
ended_said here ends rows still (Notice.Quiet at) faults e = sym e
ended_said here ends rows still Notice.Fault faults e = elim ends as (λ b. is_ended (cond b (of_end here rows) (only verdict.Faulted)).verdict ≡ b) [ true ↦ refl | false ↦ refl ]
ended_said here ends rows still Notice.End faults e = sym e

pub ends_by : (entries : List Entry) (n : ℕ) → EndsBy (notice_at entries n) (suc (faults_before entries n)) (ends_at entries n)
ends_by entries n = ends_is entries n

pub ended_where : EndedWhereItEnds
ended_where setup entries n =
    let past : Past = past_at setup entries n in
    ap (λ (o : Outcome). is_ended o.verdict) (heard_is past)
    ∙ ended_said (here_of past) (ends_at entries (now past)) (known_at past) (still_by (here_of past) (known_at past) (notice_at entries (now past))) (notice_at entries (now past)) (suc (faults_before entries (now past))) (ends_by entries (now past))
    ∙ ap (ends_at entries) (length_asked setup entries n)
