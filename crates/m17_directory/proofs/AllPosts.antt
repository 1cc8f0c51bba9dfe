-- What is true of each kind of thing that an entry posts is true of all that it posts.
use Rattle.std.proofs.Common.{◌≡◌, ℕ, suc, ◌/◌, nat_lt, Bool, true, false, cond, not, ◌||◌, leb, List, [], ◌∷◌, ◌++◌, map, filter, filter_map, Option, None, Some, refl, ap, sym, ◌∙◌, subst}
use Rattle.std.specs.List.{AllByRecursion, cons_option, range_with_len}
use Rattle.m17_values.specs.declared.peer.Peer.{Peer}
use Rattle.m17_stream.specs.declared.packet.StreamPacket.{StreamPacket}
use Rattle.m17_control.specs.declared.event.Body.{Body}
use Rattle.m17_control.specs.declared.event.Body.TheVariants as body
use Rattle.m17_control.specs.declared.event.Why.{Why}
use Rattle.m17_control.specs.declared.event.Why.TheVariants.{Silent, Stopped, Replaced}
use Rattle.m17_control.specs.declared.packet.Control.{Control}
use Rattle.m17_control.specs.declared.packet.Control.TheVariants.{Nack}
use Rattle.m17_control.specs.declared.packet.Packet.{Packet}
use Rattle.m17_control.specs.Modules.{serves, letters_of}
use Rattle.m17_directory.specs.declared.dispatch.Dispatch.{Dispatch}
use Rattle.m17_directory.specs.declared.known.Known.{Known}
use Rattle.m17_directory.specs.declared.known.Request.{Request}
use Rattle.m17_directory.specs.declared.verdict.LinkVerdict.TheVariants.{Faulted}
use Rattle.m17_directory.specs.Entries.{Notice, Claim, Entry, Setup, notice_at, claim_at, passes_time, is_peer, is_end, moment_before, ends_at}
use Rattle.m17_directory.specs.Known.{Past, now, request_in, known_at}
use Rattle.m17_directory.specs.Outcome.{Here, Outcome, only, to_module, to_each_module, to_door, leave, has_place, of_packet, of_end, settled}
use Rattle.m17_directory.specs.Routed.{tick_ms, here_of, is_silent, row_for, unclaimed_at, others_than, others_at, settled_by, settled_at, asks_at, both, past_at, posts_at}
use Rattle.m17_directory.specs.Laws.{is_door_reply}
use Rattle.m17_directory.specs.StandsFor.{faults_before}
use Rattle.m17_directory.specs.Steps.{silent_by, still_by, ticks_by, said_by}
use Rattle.m17_directory.proofs.Faults.{ends_is}
use Rattle.m17_directory.proofs.Lines.{of_lines}
use Rattle.m17_directory.proofs.Same.{heard_is}
use Rattle.m17_directory.proofs.LawMore.{others_is}

pub all_append : {A : Type 0} (P : A → Type 0) (xs ys : List A) → AllByRecursion P xs → AllByRecursion P ys → AllByRecursion P (xs ++ ys)
all_append P [] ys h k = k
all_append P (x ∷ xs) ys h k = (h.0, all_append P xs ys h.1 k)

pub all_map : {A B : Type 0} (P : A → Type 0) (Q : B → Type 0) (f : A → B) (xs : List A) → ((x : A) → P x → Q (f x)) → AllByRecursion P xs → AllByRecursion Q (map f xs)
all_map P Q f [] h k = tt
all_map P Q f (x ∷ xs) h k = (h x k.0, all_map P Q f xs h k.1)

pub all_filter : {A : Type 0} (P : A → Type 0) (p : A → Bool) (xs : List A) → AllByRecursion P xs → AllByRecursion P (filter p xs)
all_filter P p [] h = tt
all_filter P p (x ∷ xs) h =
    elim (p x) as (λ b. AllByRecursion P (cond b (x ∷ filter p xs) (filter p xs))) [ true ↦ (h.0, all_filter P p xs h.1) | false ↦ all_filter P p xs h.1 ]

passed_step : {A : Type 0} (p : A → Bool) (x : A) (rest : List A) (b : Bool) → b ≡ p x → AllByRecursion (λ y. p y ≡ true) rest → AllByRecursion (λ y. p y ≡ true) (cond b (x ∷ rest) rest)
passed_step p x rest true e h = (sym e, h)
passed_step p x rest false e h = h

pub all_passed : {A : Type 0} (p : A → Bool) (xs : List A) → AllByRecursion (λ x. p x ≡ true) (filter p xs)
all_passed p [] = tt
all_passed p (x ∷ xs) = passed_step p x (filter p xs) (p x) refl (all_passed p xs)

found_step : {B : Type 0} (P : B → Type 0) (rest : List B) (o : Option B) → ((y : B) → o ≡ Some y → P y) → AllByRecursion P rest → AllByRecursion P (cons_option o rest)
found_step P rest None h k = k
found_step P rest (Some y) h k = (h y refl, k)

pub all_found : {A B : Type 0} (P : B → Type 0) (f : A → Option B) (xs : List A) → ((x : A) (y : B) → f x ≡ Some y → P y) → AllByRecursion P (filter_map f xs)
all_found P f [] h = tt
all_found P f (x ∷ xs) h = found_step P (filter_map f xs) (f x) (h x) (all_found P f xs h)

-- of a choice of outcomes
pub either : (P : Outcome → Type 0) (b : Bool) (o u : Outcome) → P o → P u → P (cond b o u)
either P true o u h k = h
either P false o u h k = k

pub all_less : {A : Type 0} (P Q : A → Type 0) (xs : List A) → ((x : A) → P x → Q x) → AllByRecursion P xs → AllByRecursion Q xs
all_less P Q [] h k = tt
all_less P Q (x ∷ xs) h k = (h x k.0, all_less P Q xs h k.1)

-- what holds of all that are known holds of the silent, of those that are still known, of the others, and of a peer's row
module _ (Q : Known → Type 0) where
  pub silent_all : (here : Here) (rows : List Known) (notice : Notice) → AllByRecursion Q rows → AllByRecursion Q (silent_by here rows notice)
  silent_all here rows notice h =
      elim (passes_time notice) as (λ b. AllByRecursion Q (cond b (filter (is_silent here.moment) rows) [])) [ true ↦ all_filter Q (is_silent here.moment) rows h | false ↦ tt ]

  pub still_all : (here : Here) (rows : List Known) (notice : Notice) → AllByRecursion Q rows → AllByRecursion Q (still_by here rows notice)
  still_all here rows notice h =
      elim (passes_time notice) as (λ b. AllByRecursion Q (cond b (filter (λ k. not (is_silent here.moment k)) rows) rows)) [ true ↦ all_filter Q (λ k. not (is_silent here.moment k)) rows h | false ↦ h ]

  than_all : (notice : Notice) (rows : List Known) → AllByRecursion Q rows → AllByRecursion Q (others_than notice rows)
  than_all (Notice.Sent from at p) rows h = all_filter Q (λ k. not (is_peer from k.peer)) rows h
  than_all (Notice.Garbled from at refusal) rows h = h
  than_all (Notice.Quiet at) rows h = h
  than_all Notice.Fault rows h = h
  than_all Notice.End rows h = h

  pub others_all : (past : Past) → AllByRecursion Q (known_at past) → AllByRecursion Q (others_at past)
  others_all past h =
      subst (AllByRecursion Q) (sym (others_is past))
      (than_all (notice_at past.entries (now past)) (still_by (here_of past) (known_at past) (notice_at past.entries (now past)))
      (still_all (here_of past) (known_at past) (notice_at past.entries (now past)) h))

  abbrev OfRow : Option Known → Type 0
  OfRow None = Unit {0}
  OfRow (Some k) = Q k

  row_all : (x : Peer) (rows : List Known) → AllByRecursion Q rows → OfRow (row_for x rows)
  row_all x [] h = tt
  row_all x (k ∷ rows) h = elim (is_peer x k.peer) as (λ b. OfRow (cond b (Some k) (row_for x rows))) [ true ↦ h.0 | false ↦ row_all x rows h.1 ]

-- of what is told to each served module, and of the ticks
module _ (P : Dispatch → Type 0) (here : Here) where
  pub all_told : (what : Body) → ((letter : ℕ) → serves here.setup.modules letter ≡ true → P (to_module here letter what)) → AllByRecursion P (to_each_module here what)
  all_told what h =
      all_map (λ letter. serves here.setup.modules letter ≡ true) P (λ letter. to_module here letter what) (letters_of here.setup.modules) h
      (all_passed (serves here.setup.modules) (range_with_len 65 26))

  pub all_ticks : (before : ℕ) → ((letter : ℕ) → serves here.setup.modules letter ≡ true → P (to_module here letter body.Tick)) → AllByRecursion P (ticks_by here before)
  all_ticks before h =
      elim (nat_lt (before / tick_ms) (here.moment / tick_ms)) as (λ b. AllByRecursion P (cond b (to_each_module here body.Tick) []))
      [ true ↦ all_told body.Tick h | false ↦ tt ]

-- Each kind of thing that an entry posts is such, where such are known.
pub record EachPost (P : Dispatch → Type 0) (Q : Known → Type 0) (past : Past) : Type 0 where
  pub known : AllByRecursion Q (known_at past)
  pub leaves : (k : Known) (w : Why) → Q k → (w ≡ Replaced → ⊥) → P (leave (here_of past) w k)
  pub tick : (letter : ℕ) → serves past.setup.modules letter ≡ true → P (to_module (here_of past) letter body.Tick)
  pub stop : (letter : ℕ) → serves past.setup.modules letter ≡ true → ends_at past.entries (now past) ≡ true → P (to_module (here_of past) letter body.Stop)
  pub door : (x : Peer) (reply : Control) → is_door_reply reply ≡ true → P (to_door (here_of past) x reply)
  pub frame : (k : Known) (s : StreamPacket) → Q k → P (to_module (here_of past) k.letter (body.Packet k.member s))
  pub reply : (k : Known) (reply : Control) → Q k → P (to_module (here_of past) k.letter (body.Reply k.member reply))
  pub replaced : (c : Claim) → claim_at past.entries (now past) ≡ Some c → AllByRecursion (λ (k : Known). P (leave (here_of past) Replaced k)) (filter (has_place c.member.place) (others_at past))
  pub join : (c : Claim) → claim_at past.entries (now past) ≡ Some c → (x : Peer) (request : Request) → asks_at past ≡ true → request_in (notice_at past.entries (now past)) ≡ Some request
      → P (to_module (here_of past) request.letter (body.Join c.member x request.callsign request.listen c.after))

-- those that are replaced were known
pub each_replaced : (P : Dispatch → Type 0) (Q : Known → Type 0) (past : Past) (c : Claim) → AllByRecursion Q (known_at past) → ((k : Known) → Q k → P (leave (here_of past) Replaced k))
    → AllByRecursion (λ (k : Known). P (leave (here_of past) Replaced k)) (filter (has_place c.member.place) (others_at past))
each_replaced P Q past c known h =
    all_less Q (λ (k : Known). P (leave (here_of past) Replaced k)) (filter (has_place c.member.place) (others_at past)) h
    (all_filter Q (has_place c.member.place) (others_at past) (others_all Q past known))

module _ (P : Dispatch → Type 0) (Q : Known → Type 0) (past : Past) (each : EachPost P Q past) where
  abbrev here : Here
  here = here_of past

  abbrev ends : Bool
  ends = ends_at past.entries (now past)

  abbrev rows : List Known
  rows = known_at past

  abbrev said_here : Notice
  said_here = notice_at past.entries (now past)

  gone : (w : Why) → (w ≡ Replaced → ⊥) → (left : List Known) → AllByRecursion Q left → AllByRecursion P (map (leave here w) left)
  gone w other left h = all_map Q P (leave here w) left (λ k q. each.leaves k w q other) h

  packet : (x : Peer) (o : Option Known) (p : Packet) → OfRow Q o → AllByRecursion P (of_packet here x o p).posts
  packet x o p q = of_lines (λ u. AllByRecursion P u.posts) here x o p (record {
    nothing = λ v said. tt;
    at_door = λ y v reply said is. (each.door y reply is, tt);
    frame = λ k s is of. (each.frame k s (subst (OfRow Q) is q), tt);
    reply = λ k what reply is said. (each.reply k reply (subst (OfRow Q) is q), tt);
    leaves = λ k v w is said other. (each.leaves k w (subst (OfRow Q) is q) other, tt);
  })

  ended : ends ≡ true → AllByRecursion P (of_end here rows).posts
  ended e =
      all_append P (map (leave here Stopped) rows) (to_each_module here body.Stop) (gone Stopped (λ w. cc) rows each.known)
      (all_told P here body.Stop (λ letter s. each.stop letter s e))

  fault : (b : Bool) → ends ≡ b → AllByRecursion P (cond b (of_end here rows) (only Faulted)).posts
  fault true e = ended e
  fault false e = tt

  said : (notice : Notice) → (is_end notice ≡ true → ends ≡ true) → AllByRecursion P (said_by here ends rows (still_by here rows notice) notice).posts
  said (Notice.Sent from at p) e =
      let still : List Known = still_by here rows (Notice.Sent from at p) in
      packet from (row_for from still) p (row_all Q from still (still_all Q here rows (Notice.Sent from at p) each.known))
  said (Notice.Garbled from at refusal) e = tt
  said (Notice.Quiet at) e = tt
  said Notice.Fault e = fault ends refl
  said Notice.End e = ended (e refl)

  heard : AllByRecursion P (unclaimed_at past).posts
  heard =
      let leaves : List Dispatch = map (leave here Silent) (silent_by here rows said_here) in
      let ticks : List Dispatch = ticks_by here (moment_before past.entries (now past)) in
      let says : List Dispatch = (said_by here ends rows (still_by here rows said_here) said_here).posts in
      let end : is_end said_here ≡ true → ends ≡ true = λ e. ends_is past.entries (now past) ∙ ap (λ b. b || leb 16 (faults_before past.entries (suc (now past)))) e in
      subst (λ (o : Outcome). AllByRecursion P o.posts) (sym (heard_is past))
      (all_append P (leaves ++ ticks) says
      (all_append P leaves ticks (gone Silent (λ w. cc) (silent_by here rows said_here) (silent_all Q here rows said_here each.known)) (all_ticks P here (moment_before past.entries (now past)) each.tick))
      (said said_here end))

  asked : (x : Peer) (request : Request) (claim : Option Claim) → claim_at past.entries (now past) ≡ claim → asks_at past ≡ true → request_in said_here ≡ Some request
      → AllByRecursion P (settled here (others_at past) x request claim).posts
  asked x request None given asks wants = (each.door x Nack refl, tt)
  asked x request (Some c) given asks wants =
      all_append P (map (leave here Replaced) (filter (has_place c.member.place) (others_at past))) _
      (all_map (λ (k : Known). P (leave here Replaced k)) P (leave here Replaced) (filter (has_place c.member.place) (others_at past)) (λ k is. is) (each.replaced c given))
      (each.join c given x request asks wants, tt)

  claimed : (notice : Notice) (o : Option Request) → ((request : Request) → o ≡ Some request → request_in said_here ≡ Some request) → asks_at past ≡ true
      → AllByRecursion P (settled_by past (claim_at past.entries (now past)) notice o).posts
  claimed (Notice.Sent from at p) (Some request) wants asks = asked from request (claim_at past.entries (now past)) refl asks (wants request refl)
  claimed (Notice.Sent from at p) None wants asks = tt
  claimed (Notice.Garbled from at refusal) o wants asks = tt
  claimed (Notice.Quiet at) o wants asks = tt
  claimed Notice.Fault o wants asks = tt
  claimed Notice.End o wants asks = tt

  settles : asks_at past ≡ true → AllByRecursion P (settled_at past (claim_at past.entries (now past))).posts
  unfolding settled_at
  settles asks = claimed said_here (request_in said_here) (λ request is. is) asks

  comes : (b : Bool) → asks_at past ≡ b → AllByRecursion P (cond b (both (unclaimed_at past) (settled_at past (claim_at past.entries (now past)))) (unclaimed_at past)).posts
  comes true e = all_append P (unclaimed_at past).posts (settled_at past (claim_at past.entries (now past))).posts heard (settles e)
  comes false e = heard

pub all_posts : (P : Dispatch → Type 0) (Q : Known → Type 0) (setup : Setup) (entries : List Entry) (n : ℕ) → EachPost P Q (past_at setup entries n) → AllByRecursion P (posts_at setup entries n)
unfolding posts_at
all_posts P Q setup entries n each = comes P Q (past_at setup entries n) each (asks_at (past_at setup entries n)) refl
