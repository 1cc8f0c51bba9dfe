-- Whatever a link behind a gate posts to a module is allowed.
use Rattle.std.proofs.Common.{◌≡◌, ℕ, zero, suc, ◌+◌, ◌/◌, Bool, true, false, cond, eqb, List, [], ◌∷◌, ◌++◌, map, length, filter_map, Option, None, Some, refl, sym, subst, inl, inr, arith}
use Rattle.std.specs.Prelude.{filter, nat_lt}
use Rattle.std.specs.List.{AllByRecursion, cons_option, flat_map, range_with_len}
use Rattle.std.proofs.lemmas.Bool.{eqb-true}
use Rattle.std.proofs.lemmas.Option.{same_Some, none-some}
use Rattle.m17_values.specs.declared.heard.Heard.{Heard}
use Rattle.m17_values.specs.declared.heard.Heard.TheVariants as heard
use Rattle.m17_values.specs.declared.peer.Peer.{Peer}
use Rattle.m17_control.specs.declared.event.Body.TheVariants as body
use Rattle.m17_control.specs.declared.event.Event.{Event}
use Rattle.m17_control.specs.declared.event.Why.{Why}
use Rattle.m17_control.specs.declared.event.Why.TheVariants.{Silent, Stopped, Replaced}
use Rattle.m17_control.specs.declared.packet.Control.TheVariants as control
use Rattle.m17_control.specs.declared.packet.Packet.{Packet}
use Rattle.m17_control.specs.declared.packet.Packet.TheVariants as packets
use Rattle.m17_control.specs.Modules.{letters_of}
use Rattle.m17_gate.specs.declared.asked.Asked.TheVariants.{Connects, Listens}
use Rattle.m17_gate.specs.declared.rule.Rule.{Rule}
use Rattle.m17_gate.specs.Fits.{allows, allows_any}
use Rattle.m17_gate.specs.Gated.{gated, gated_entry}
use Rattle.m17_gate.specs.Laws.{DeniedIsNotHeard}
use Rattle.m17_directory.specs.declared.dispatch.Dispatch.{Dispatch}
use Rattle.m17_directory.specs.declared.dispatch.Dispatch.TheVariants.{ToModule, ToDoor}
use Rattle.m17_directory.specs.declared.known.Known.{Known}
use Rattle.m17_directory.specs.declared.known.Request.{Request}
use Rattle.m17_directory.specs.declared.verdict.LinkVerdict.TheVariants.{Faulted}
use Rattle.m17_directory.specs.Entries.{Claim, Entry, Notice, Says, SaysEach, Setup, claim_at, ends_at, moment_at, moment_before, notice_at}
use Rattle.m17_directory.specs.Known.{Past, known_at, now, request_in, request_of}
use Rattle.m17_directory.specs.Outcome.{Here, has_place, leave, of_end, of_packet, only, settled, to_each_module, to_module}
use Rattle.m17_directory.specs.Routed.{asks_at, both, comes_to, event_for, here_of, others_at, past_at, posted, posts_at, routed, row_for, said_at, settled_at, settled_by, silent_at, still_at, tick_ms, ticks_at, unclaimed_at}
use Rattle.m17_directory.proofs.Lines.{of_lines}
use Rattle.m17_gate.specs.Denied.{DeniedNeverReachesAModule, asked_of}

-- what an entry comes to before a claim posts: the silent leave, the ticks come, and what the entry says
unclaimed_posts : (past : Past) → (unclaimed_at past).posts ≡ map (leave (here_of past) Silent) (silent_at past) ++ ticks_at past ++ (said_at past (notice_at past.entries (now past))).posts
unfolding unclaimed_at
unclaimed_posts past = refl

module _ (rules : List Rule) where
  -- what is posted to a module is allowed there
  abbrev IsAllowed : Dispatch → Type 0
  IsAllowed (ToModule letter event) = allows_any rules (asked_of letter event.body) ≡ true
  IsAllowed (ToDoor direct) = Unit {0}

  abbrev AllAllowed : List Dispatch → Type 0
  AllAllowed posts = AllByRecursion IsAllowed posts

  both_allowed : (xs ys : List Dispatch) → AllAllowed xs → AllAllowed ys → AllAllowed (xs ++ ys)
  both_allowed [] ys h k = k
  both_allowed (x ∷ xs) ys h k = (h.0, both_allowed xs ys h.1 k)

  leaves_allowed : (here : Here) (why : Why) (rows : List Known) → AllAllowed (map (leave here why) rows)
  leaves_allowed here why [] = tt
  leaves_allowed here why (k ∷ rows) = (refl, leaves_allowed here why rows)

  ticks_all : (here : Here) (letters : List ℕ) → AllAllowed (map (λ letter. to_module here letter body.Tick) letters)
  ticks_all here [] = tt
  ticks_all here (letter ∷ letters) = (refl, ticks_all here letters)

  stops_all : (here : Here) (letters : List ℕ) → AllAllowed (map (λ letter. to_module here letter body.Stop) letters)
  stops_all here [] = tt
  stops_all here (letter ∷ letters) = (refl, stops_all here letters)

  -- the packet of an entry is allowed
  abbrev Permits : Notice → Type 0
  Permits (Notice.Sent from at p) = allows rules p ≡ true
  Permits _ = Unit {0}

  either : {A : Type 0} (P : A → Type 0) (b : Bool) (x y : A) → P x → P y → P (cond b x y)
  either P true x y a b = a
  either P false x y a b = b

  packet_allowed : (here : Here) (x : Peer) (row : Option Known) (p : Packet) → allows rules p ≡ true → AllAllowed (of_packet here x row p).posts
  packet_allowed here x row p h = of_lines (λ o. AllAllowed o.posts) here x row p (record {
    nothing = λ v said. tt;
    at_door = λ y v reply said is. (tt, tt);
    frame = λ k s is of. (subst (λ (q : Packet). allows rules q ≡ true) of h, tt);
    reply = λ k what reply is said. (refl, tt);
    leaves = λ k v why is said other. (refl, tt);
  })

  end_allowed : (here : Here) (rows : List Known) → AllAllowed (of_end here rows).posts
  end_allowed here rows = both_allowed (map (leave here Stopped) rows) (to_each_module here body.Stop) (leaves_allowed here Stopped rows) (stops_all here (letters_of here.setup.modules))

  said_allowed : (past : Past) (notice : Notice) → Permits notice → AllAllowed (said_at past notice).posts
  said_allowed past (Notice.Sent from at p) h = packet_allowed (here_of past) from (row_for from (still_at past)) p h
  said_allowed past (Notice.Garbled from at refusal) h = tt
  said_allowed past (Notice.Quiet at) h = tt
  said_allowed past Notice.Fault h =
      either (λ o. AllAllowed o.posts) (ends_at past.entries (now past)) (of_end (here_of past) (known_at past)) (only Faulted) (end_allowed (here_of past) (known_at past)) tt
  said_allowed past Notice.End h = end_allowed (here_of past) (known_at past)

  ticks_allowed : (past : Past) → AllAllowed (ticks_at past)
  ticks_allowed past =
      either AllAllowed (nat_lt (moment_before past.entries (now past) / tick_ms) (moment_at past.entries (now past) / tick_ms)) (to_each_module (here_of past) body.Tick) []
      (ticks_all (here_of past) (letters_of past.setup.modules)) tt

  unclaimed_allowed : (past : Past) → Permits (notice_at past.entries (now past)) → AllAllowed (unclaimed_at past).posts
  unclaimed_allowed past h =
      let notice = notice_at past.entries (now past) in
      subst AllAllowed (sym (unclaimed_posts past))
      (both_allowed (map (leave (here_of past) Silent) (silent_at past) ++ ticks_at past) (said_at past notice).posts
      (both_allowed (map (leave (here_of past) Silent) (silent_at past)) (ticks_at past) (leaves_allowed (here_of past) Silent (silent_at past)) (ticks_allowed past))
      (said_allowed past notice h))

  -- what a request asks of a gate is what its packet does
  abbrev MayJoin : Request → Type 0
  MayJoin request = allows_any rules (Some (cond request.listen (Listens request.callsign request.letter) (Connects request.callsign request.letter))) ≡ true

  packet_may : (p : Packet) (request : Request) → allows rules p ≡ true → request_of p ≡ Some request → MayJoin request
  packet_may (packets.Control (control.Conn from letter)) request h is =
      let same : record { letter = letter; callsign = from; listen = false } ≡ request = same_Some _ request is in subst MayJoin same h
  packet_may (packets.Control (control.Lstn from letter)) request h is =
      let same : record { letter = letter; callsign = from; listen = true } ≡ request = same_Some _ request is in subst MayJoin same h
  packet_may (packets.Stream p) request h is = absurd (none-some request is)
  packet_may (packets.Control (control.Ping from)) request h is = absurd (none-some request is)
  packet_may (packets.Control (control.Pong from)) request h is = absurd (none-some request is)
  packet_may (packets.Control (control.Disc from)) request h is = absurd (none-some request is)
  packet_may (packets.Control control.Ackn) request h is = absurd (none-some request is)
  packet_may (packets.Control control.Nack) request h is = absurd (none-some request is)

  settled_allowed : (here : Here) (others : List Known) (x : Peer) (request : Request) (claim : Option Claim) → MayJoin request → AllAllowed (settled here others x request claim).posts
  settled_allowed here others x request None h = (tt, tt)
  settled_allowed here others x request (Some claim) h =
      both_allowed (map (leave here Replaced) (filter (has_place claim.member.place) others)) _ (leaves_allowed here Replaced (filter (has_place claim.member.place) others)) (h, tt)

  settled_by_allowed : (past : Past) (claim : Option Claim) (notice : Notice) (request : Option Request) → request_in notice ≡ request → Permits notice
      → AllAllowed (settled_by past claim notice request).posts
  settled_by_allowed past claim (Notice.Sent from at p) (Some request) is h = settled_allowed (here_of past) (others_at past) from request claim (packet_may p request h is)
  settled_by_allowed past claim (Notice.Sent from at p) None is h = tt
  settled_by_allowed past claim (Notice.Garbled from at refusal) request is h = tt
  settled_by_allowed past claim (Notice.Quiet at) request is h = tt
  settled_by_allowed past claim Notice.Fault request is h = tt
  settled_by_allowed past claim Notice.End request is h = tt

  settled_at_allowed : (past : Past) (claim : Option Claim) → Permits (notice_at past.entries (now past)) → AllAllowed (settled_at past claim).posts
  unfolding settled_at
  settled_at_allowed past claim h = settled_by_allowed past claim (notice_at past.entries (now past)) (request_in (notice_at past.entries (now past))) refl h

  comes_allowed : (past : Past) → Permits (notice_at past.entries (now past)) → AllAllowed (comes_to past).posts
  comes_allowed past h =
      let claim = claim_at past.entries (now past) in
      let first = unclaimed_allowed past h in
      either (λ o. AllAllowed o.posts) (asks_at past) (both (unclaimed_at past) (settled_at past claim)) (unclaimed_at past)
      (both_allowed (unclaimed_at past).posts (settled_at past claim).posts first (settled_at_allowed past claim h)) first

  -- all that is posted
  abbrev AllPermit : List Entry → Type 0
  AllPermit entries = (n : ℕ) → Permits (notice_at entries n)

  posts_allowed : (setup : Setup) (entries : List Entry) (n : ℕ) → AllPermit entries → AllAllowed (posts_at setup entries n)
  unfolding posts_at
  posts_allowed setup entries n h = comes_allowed (past_at setup entries n) (h (now (past_at setup entries n)))

  flat_allowed : (f : ℕ → List Dispatch) (from n : ℕ) → ((i : ℕ) → AllAllowed (f i)) → AllAllowed (flat_map f (range_with_len from n))
  flat_allowed f from zero h = tt
  flat_allowed f from (suc n) h = both_allowed (f from) (flat_map f (range_with_len (from + 1) n)) (h from) (flat_allowed f (from + 1) n h)

  posted_allowed : (setup : Setup) (entries : List Entry) → AllPermit entries → AllAllowed (posted setup entries)
  unfolding posted
  posted_allowed setup entries h = flat_allowed (posts_at setup entries) 0 (length entries) (λ n. posts_allowed setup entries n h)

  -- and of that what is for a module
  abbrev AllIn : ℕ → List Event → Type 0
  AllIn letter events = AllByRecursion (λ event. allows_any rules (asked_of letter event.body) ≡ true) events

  event_in : (letter to : ℕ) (event : Event) (rest : List Event) (b : Bool) → b ≡ eqb to letter → allows_any rules (asked_of to event.body) ≡ true → AllIn letter rest
      → AllIn letter (cons_option (cond b (Some event) None) rest)
  event_in letter to event rest true is h others =
      (subst (λ (l : ℕ). allows_any rules (asked_of l event.body) ≡ true) (eqb-true to letter (sym is)) h, others)
  event_in letter to event rest false is h others = others

  events_in : (letter : ℕ) (posts : List Dispatch) → AllAllowed posts → AllIn letter (filter_map (event_for letter) posts)
  events_in letter [] h = tt
  events_in letter (ToModule to event ∷ posts) h =
      event_in letter to event (filter_map (event_for letter) posts) (eqb to letter) refl h.0 (events_in letter posts h.1)
  events_in letter (ToDoor direct ∷ posts) h = events_in letter posts h.1

  routed_allowed : (setup : Setup) (entries : List Entry) (letter : ℕ) → AllPermit entries → AllIn letter (routed setup entries letter)
  unfolding routed
  routed_allowed setup entries letter h = events_in letter (posted setup entries) (posted_allowed setup entries h)

  -- what is heard behind a gate is allowed
  says_permits : DeniedIsNotHeard → (one : Heard) (behind : Heard) → behind ≡ gated_entry rules one → (notice : Notice) → Says behind notice → Permits notice
  says_permits law one (heard.Datagram from at bytes) is notice (inl (p, spells, same)) =
      subst Permits (sym same) (law rules (one ∷ []) from at bytes p (0, omega arith, sym is) spells)
  says_permits law one (heard.Datagram from at bytes) is notice (inr (refusal, refuses, same)) = subst Permits (sym same) tt
  says_permits law one (heard.Quiet at) is notice same = subst Permits (sym same) tt
  says_permits law one heard.Fault is notice same = subst Permits (sym same) tt
  says_permits law one heard.End is notice same = subst Permits (sym same) tt

  each_permits : DeniedIsNotHeard → (heard : List Heard) (entries : List Entry) → SaysEach (gated rules heard) entries → AllPermit entries
  each_permits law [] [] says n = tt
  each_permits law [] (entry ∷ entries) says n = absurd says
  each_permits law (one ∷ rest) [] says n = absurd says
  each_permits law (one ∷ rest) (entry ∷ entries) says zero = says_permits law one (gated_entry rules one) refl entry.notice says.0
  each_permits law (one ∷ rest) (entry ∷ entries) says (suc n) = each_permits law rest entries says.1 n

pub none_routed : DeniedIsNotHeard → DeniedNeverReachesAModule
none_routed law rules heard setup entries letter says = routed_allowed rules setup entries letter (each_permits rules law heard entries says)
