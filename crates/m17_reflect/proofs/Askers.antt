-- The module with a served letter has a number, and that module has the letter.
use Rattle.std.proofs.Common.{◌≡◌, ℕ, zero, suc, ◌+◌, ◌-◌, ◌<◌, ◌≤◌, Bool, true, false, cond, not, List, [], ◌∷◌, length, nat_le, Option, None, Some, sym, subst, refl, ap, ◌∙◌, arith}
use Rattle.std.specs.Prelude.{◌==◌, ◌&&◌, slice_get, slice_index_or, unwrap_or}
use Rattle.std.specs.Int.{bit_at}
use Rattle.std.specs.List.{position, position_or_len, range_with_len, flat_map}
use Rattle.std.proofs.lemmas.Bool.{eqb-true, eq-eqb, leb-true, and_parts, lt-ltb}
use Rattle.std.proofs.lemmas.List.Sums.{passes_at_first}
use Rattle.std.proofs.lemmas.Option.{same_Some, none-some, slice_get-get_or}
use Rattle.m17_control.specs.declared.modules.Modules.{Modules}
use Rattle.m17_control.specs.Modules.{serves, letters_of}
use Rattle.m17_plan.specs.declared.plan.Plan.{Plan}
use Rattle.m17_reflect.specs.Links.{letter_of}
use Rattle.m17_reflect.specs.Run.{module_count}
use Rattle.m17_reflect.specs.Sendings.{number_of, joined_by, joined_at, memberships}
use Rattle.m17_reflect.proofs.ListPlaces.{IsIn, in_filter, from_filter, in_flat, from_flat, in_range, from_range}
use Rattle.m17_reflect.proofs.ModuleTrails.{letter_at_place}
use Rattle.m17_values.specs.declared.member.Member.{Member}
use Rattle.m17_values.specs.declared.peer.Peer.{Peer}
use Rattle.m17_control.specs.declared.event.Body.TheVariants.{Join}
use Rattle.m17_control.specs.declared.event.Event.{Event}
use Rattle.m17_control.specs.declared.packet.Packet.{Packet}
use Rattle.m17_directory.specs.declared.known.Request.{Request}
use Rattle.m17_directory.specs.Entries.{Notice, Claim, Entry, Setup, notice_at, claim_at, is_peer}
use Rattle.m17_directory.specs.Known.{request_in}
use Rattle.m17_directory.specs.Outcome.{Here}
use Rattle.m17_directory.specs.Routed.{here_of, past_at, asks_at, routed}
use Rattle.m17_directory.specs.Laws.{JoinsAreTheClaims, join_event, joins_by, joins_at, is_join}
use Rattle.m17_sender.specs.Joined.{Joined}

first_step : (p : ℕ → Bool) (x : ℕ) (xs : List ℕ) (i : ℕ) (b : Bool) → p x ≡ b → position_or_len p xs ≤ i → position_or_len p (x ∷ xs) ≤ suc i
first_step p x xs i true e le =
    let at : position_or_len p (x ∷ xs) ≡ 0 = ap (λ (b : Bool). cond (not b) (1 + position_or_len p xs) 0) e in omega arith
first_step p x xs i false e le =
    let at : position_or_len p (x ∷ xs) ≡ 1 + position_or_len p xs = ap (λ (b : Bool). cond (not b) (1 + position_or_len p xs) 0) e in omega arith

-- the first that passes stands no later than one that does
first_before : (p : ℕ → Bool) (xs : List ℕ) (i x : ℕ) → slice_get xs i ≡ Some x → p x ≡ true → position_or_len p xs ≤ i
first_before p [] i x e h = absurd (none-some x e)
first_before p (y ∷ xs) zero x e h =
    let at : position_or_len p (y ∷ xs) ≡ 0 = ap (λ (b : Bool). cond (not b) (1 + position_or_len p xs) 0) (ap p (same_Some y x e) ∙ h) in omega arith
first_before p (y ∷ xs) (suc i) x e h = first_step p y xs i (p y) refl (first_before p xs i x e h)

below_length : (xs : List ℕ) (i x : ℕ) → slice_get xs i ≡ Some x → i < length xs
below_length [] i x e = absurd (none-some x e)
below_length (y ∷ xs) zero x e = omega arith
below_length (y ∷ xs) (suc i) x e = let r = below_length xs i x e in omega arith

first_is : (xs : List ℕ) (x n : ℕ) → n < length xs → position_or_len (λ other. other == x) xs ≡ n → slice_get xs n ≡ Some x
first_is xs x n lt e =
    slice_get-get_or xs n x lt
    ∙ ap Some (eqb-true (slice_index_or xs n x) x
    (subst (λ (k : ℕ). (slice_index_or xs k x == x) ≡ true) e
    (passes_at_first (λ other. other == x) xs x (omega arith))))

-- The place of a number that stands in a list.
pub position_there : (xs : List ℕ) (x : ℕ) → IsIn xs x → slice_get xs (unwrap_or (position (λ other. other == x) xs) 0) ≡ Some x
position_there xs x h =
    let n = position_or_len (λ other. other == x) xs in
    let le = first_before (λ other. other == x) xs h.0 x h.1 (eq-eqb x x refl) in
    let inside = below_length xs h.0 x h.1 in
    let lt : n < length xs = omega arith in
    let at : position (λ other. other == x) xs ≡ Some n = ap (λ (b : Bool). cond b (Some n) None) (lt-ltb n (length xs) lt) in
    subst (λ (o : Option ℕ). slice_get xs (unwrap_or o 0) ≡ Some x) (sym at) (first_is xs x n lt refl)

letter_there : (k n i letter : ℕ) → k + i ≡ letter → i < n → slice_get (range_with_len k n) i ≡ Some letter
letter_there k zero i letter e lt = absurd (omega arith)
letter_there k (suc n) zero letter e lt = let at : k ≡ letter = omega arith in ap Some at
letter_there k (suc n) (suc i) letter e lt = letter_there (k + 1) n i letter (omega arith) (omega arith)

within_letters : (modules : Modules) (letter : ℕ) → serves modules letter ≡ true → (65 ≤ letter) × (letter ≤ 90)
unfolding serves
within_letters modules letter e =
    let (both, bit) = and_parts (nat_le 65 letter && nat_le letter 90) (bit_at modules.0 (letter - 65) == 1) e in
    let (low, high) = and_parts (nat_le 65 letter) (nat_le letter 90) both in
    (leb-true 65 letter low, leb-true letter 90 high)

served_is_in : (modules : Modules) (letter : ℕ) → serves modules letter ≡ true → IsIn (letters_of modules) letter
served_is_in modules letter e =
    let (low, high) = within_letters modules letter e in
    in_filter (serves modules) (range_with_len 65 26) letter
    (letter - 65, letter_there 65 26 (letter - 65) letter (omega arith) (omega arith)) e

-- A served letter has a number, below the number of modules, and the module there has the letter.
pub number_there : (plan : Plan) (letter : ℕ) → serves plan.modules letter ≡ true → (number_of plan.modules letter < module_count plan) × (letter_of plan (number_of plan.modules letter) ≡ letter)
number_there plan letter e =
    let letters = letters_of plan.modules in
    let at = position_there letters letter (served_is_in plan.modules letter e) in (
      below_length letters (number_of plan.modules letter) letter at,
      letter_at_place letters (number_of plan.modules letter) letter at,
    )

-- Entries that asked for a module and were given a place: their Joins are the Joins of what the link routes there, and
-- they begin the memberships of their peers.

-- The entry at position n asks for the module with this letter, as a packet from the peer, and has this claim.
pub record IsAsker (setup : Setup) (entries : List Entry) (letter n : ℕ) (from : Peer) (claim : Claim)
    : Type 0 where
  pub at : ℕ
  pub packet : Packet
  pub request : Request
  pub within : n < length entries
  pub asks : asks_at (past_at setup entries n) ≡ true
  pub notice : notice_at entries n ≡ Notice.Sent from at packet
  pub requests : request_in (notice_at entries n) ≡ Some request
  pub same_letter : request.letter ≡ letter
  pub is_claim : claim_at entries n ≡ Some claim

-- the Join that it comes to
abbrev pub its_event : Setup → List Entry → ℕ → Peer → Request → Claim → Event
its_event setup entries n from request claim =
    join_event (here_of (past_at setup entries n)) from request claim

joins_are : (here : Here) (letter : ℕ) (asks : Bool) (notice : Notice) (o : Option Request) (c : Option Claim) (from : Peer) (at : ℕ) (p : Packet) (request : Request) (claim : Claim) → asks ≡ true → notice ≡ Notice.Sent from at p → o ≡ Some request → request.letter ≡ letter → c ≡ Some claim → cond asks (joins_by here letter notice o c) [] ≡ join_event here from request claim ∷ []
joins_are here letter asks notice o c from at p request claim ea en eo el ec =
    ap (λ (b : Bool). cond b (joins_by here letter notice o c) []) ea
    ∙ ap (λ (n : Notice). joins_by here letter n o c) en
    ∙ ap (λ (r : Option Request). joins_by here letter (Notice.Sent from at p) r c) eo
    ∙ ap (λ (k : Option Claim). joins_by here letter (Notice.Sent from at p) (Some request) k) ec
    ∙ ap (λ (b : Bool). cond b (join_event here from request claim ∷ []) []) (eq-eqb request.letter letter el)

asker_joins : (setup : Setup) (entries : List Entry) (letter n : ℕ) (from : Peer) (claim : Claim) → (a : IsAsker setup entries letter n from claim) → joins_at setup entries letter n ≡ its_event setup entries n from a.request claim ∷ []
unfolding joins_at
asker_joins setup entries letter n from claim a =
    joins_are (here_of (past_at setup entries n)) letter (asks_at (past_at setup entries n)) (notice_at entries n) (request_in (notice_at entries n)) (claim_at entries n)
    from a.at a.packet a.request claim a.asks a.notice a.requests a.same_letter a.is_claim

-- Its Join is routed to the module.
pub asker_is_routed : JoinsAreTheClaims → (setup : Setup) (entries : List Entry) (letter n : ℕ) (from : Peer) (claim : Claim) → (a : IsAsker setup entries letter n from claim) → IsIn (routed setup entries letter) (its_event setup entries n from a.request claim)
asker_is_routed law setup entries letter n from claim a =
    let event = its_event setup entries n from a.request claim in
    let there : IsIn (joins_at setup entries letter n) event = subst (λ (l : List Event). IsIn l event) (sym (asker_joins setup entries letter n from claim a)) (0, refl) in
    let joins : IsIn (flat_map (joins_at setup entries letter) (range_with_len 0 (length entries))) event = in_flat (joins_at setup entries letter) (range_with_len 0 (length entries)) n n event (in_range (length entries) n a.within) there in
    (from_filter (λ (event : Event). is_join event.body) (routed setup entries letter) event
    (subst (λ (l : List Event). IsIn l event) (sym (law setup entries letter)) joins)).0

-- What made a Join.
record Makes (here : Here) (letter : ℕ) (asks : Bool) (notice : Notice) (o : Option Request) (c : Option Claim)
    (event : Event) : Type 0 where
  pub from : Peer
  pub at : ℕ
  pub packet : Packet
  pub request : Request
  pub claim : Claim
  pub asks_is : asks ≡ true
  pub notice_is : notice ≡ Notice.Sent from at packet
  pub request_is : o ≡ Some request
  pub letter_is : request.letter ≡ letter
  pub claim_is : c ≡ Some claim
  pub event_is : join_event here from request claim ≡ event

one_of_one : {T : Type 0} (x y : T) (i : ℕ) → slice_get (x ∷ []) i ≡ Some y → x ≡ y
one_of_one x y zero e = same_Some x y e
one_of_one x y (suc i) e = absurd (none-some y e)

one_if : {T : Type 0} (b : Bool) (x y : T) (i : ℕ) → slice_get (cond b (x ∷ []) []) i ≡ Some y → (b ≡ true) × (x ≡ y)
one_if true x y i e = (refl, one_of_one x y i e)
one_if false x y i e = absurd (none-some y e)

made_by : (here : Here) (letter : ℕ) (notice : Notice) (o : Option Request) (c : Option Claim) (event : Event) (i : ℕ) → slice_get (joins_by here letter notice o c) i ≡ Some event → Makes here letter true notice o c event
made_by here letter (Notice.Sent from at p) (Some request) (Some claim) event i e =
    let r = one_if (request.letter == letter) (join_event here from request claim) event i e in record {
      from = from;
      at = at;
      packet = p;
      request = request;
      claim = claim;
      asks_is = refl;
      notice_is = refl;
      request_is = refl;
      letter_is = eqb-true request.letter letter r.0;
      claim_is = refl;
      event_is = r.1;
    }
made_by here letter (Notice.Sent from at p) (Some request) None event i e = absurd (none-some event e)
made_by here letter (Notice.Sent from at p) None c event i e = absurd (none-some event e)
made_by here letter (Notice.Garbled from at refusal) o c event i e = absurd (none-some event e)
made_by here letter (Notice.Quiet at) o c event i e = absurd (none-some event e)
made_by here letter Notice.Fault o c event i e = absurd (none-some event e)
made_by here letter Notice.End o c event i e = absurd (none-some event e)

made_if : (here : Here) (letter : ℕ) (asks : Bool) (notice : Notice) (o : Option Request) (c : Option Claim) (event : Event) (i : ℕ) → slice_get (cond asks (joins_by here letter notice o c) []) i ≡ Some event → Makes here letter asks notice o c event
made_if here letter true notice o c event i e = made_by here letter notice o c event i e
made_if here letter false notice o c event i e = absurd (none-some event e)

-- The asker whose Join this is.
pub record HasAsker (setup : Setup) (entries : List Entry) (letter : ℕ) (k : Member) (peer : Peer) (after : ℕ)
    : Type 0 where
  pub position : ℕ
  pub claim : Claim
  pub asker : IsAsker setup entries letter position peer claim
  pub member : claim.member ≡ k
  pub waits : claim.after ≡ after

asker_of : (setup : Setup) (entries : List Entry) (letter n : ℕ) (event : Event) (k : Member) (peer : Peer) (callsign : ℕ) (listens : Bool) (after : ℕ) → n < length entries → event.body ≡ Join k peer callsign listens after → IsIn (joins_at setup entries letter n) event → HasAsker setup entries letter k peer after
unfolding joins_at
asker_of setup entries letter n event k peer callsign listens after lt body h =
    let m = made_if (here_of (past_at setup entries n)) letter (asks_at (past_at setup entries n)) (notice_at entries n) (request_in (notice_at entries n)) (claim_at entries n) event h.0 h.1 in
    let bodies : Join m.claim.member m.from m.request.callsign m.request.listen m.claim.after ≡ Join k peer callsign listens after = ap (λ (v : Event). v.body) m.event_is ∙ body in
    let members : m.claim.member ≡ k = cc in
    let peers : m.from ≡ peer = cc in
    let waits : m.claim.after ≡ after = cc in
    record {
      position = n;
      claim = m.claim;
      asker = record {
        at = m.at;
        packet = m.packet;
        request = m.request;
        within = lt;
        asks = m.asks_is;
        notice = m.notice_is ∙ ap (λ (p : Peer). Notice.Sent p m.at m.packet) peers;
        requests = m.request_is;
        same_letter = m.letter_is;
        is_claim = m.claim_is;
      };
      member = members;
      waits = waits;
    }

-- Each Join that is routed to the module has its asker.
pub routed_has_asker : JoinsAreTheClaims → (setup : Setup) (entries : List Entry) (letter : ℕ) (event : Event) (k : Member) (peer : Peer) (callsign : ℕ) (listens : Bool) (after : ℕ) → IsIn (routed setup entries letter) event → event.body ≡ Join k peer callsign listens after → HasAsker setup entries letter k peer after
routed_has_asker law setup entries letter event k peer callsign listens after h body =
    let joins : IsIn (flat_map (joins_at setup entries letter) (range_with_len 0 (length entries))) event =
    subst (λ (l : List Event). IsIn l event) (law setup entries letter)
    (in_filter (λ (event : Event). is_join event.body) (routed setup entries letter) event h (ap is_join body)) in
    let one = from_flat (joins_at setup entries letter) (range_with_len 0 (length entries)) event joins in
    asker_of setup entries letter one.item event k peer callsign listens after (from_range (length entries) one.item one.there) body one.its

-- The memberships of a peer on a link are those of its askers.

-- the membership that a claim begins, in the module with this letter
abbrev pub begun : Modules → ℕ → Claim → Joined
begun modules letter claim =
    record { m = number_of modules letter; member = claim.member; after = claim.after }

-- The asker at position n that began a membership of the peer.
pub record IsBegun (setup : Setup) (entries : List Entry) (x : Peer) (n : ℕ) (one : Joined) : Type 0 where
  pub from : Peer
  pub claim : Claim
  pub letter : ℕ
  pub asker : IsAsker setup entries letter n from claim
  pub joined : begun setup.modules letter claim ≡ one
  pub is : is_peer x from ≡ true

begun_by : (modules : Modules) (x : Peer) (asks : Bool) (notice : Notice) (o : Option Request) (c : Option Claim) (from : Peer) (at : ℕ) (p : Packet) (request : Request) (claim : Claim) (letter : ℕ) → asks ≡ true → notice ≡ Notice.Sent from at p → o ≡ Some request → c ≡ Some claim → is_peer x from ≡ true → request.letter ≡ letter → cond asks (joined_by modules x notice o c) [] ≡ begun modules letter claim ∷ []
begun_by modules x asks notice o c from at p request claim letter ea en eo ec ex el =
    ap (λ (b : Bool). cond b (joined_by modules x notice o c) []) ea
    ∙ ap (λ (n : Notice). joined_by modules x n o c) en
    ∙ ap (λ (r : Option Request). joined_by modules x (Notice.Sent from at p) r c) eo
    ∙ ap (λ (k : Option Claim). joined_by modules x (Notice.Sent from at p) (Some request) k) ec
    ∙ ap (λ (b : Bool). cond b (begun modules request.letter claim ∷ []) []) ex
    ∙ ap (λ (l : ℕ). begun modules l claim ∷ []) el

-- An asker begins a membership of its peer.
pub asker_begins : (setup : Setup) (entries : List Entry) (letter n : ℕ) (from : Peer) (claim : Claim) (x : Peer) → IsAsker setup entries letter n from claim → is_peer x from ≡ true → IsIn (memberships setup entries x) (begun setup.modules letter claim)
unfolding memberships
asker_begins setup entries letter n from claim x a is =
    let here : joined_at setup entries x n ≡ begun setup.modules letter claim ∷ [] =
    begun_by setup.modules x (asks_at (past_at setup entries n)) (notice_at entries n) (request_in (notice_at entries n)) (claim_at entries n) from a.at a.packet a.request claim letter a.asks a.notice a.requests a.is_claim is a.same_letter in
    in_flat (joined_at setup entries x) (range_with_len 0 (length entries)) n n (begun setup.modules letter claim) (in_range (length entries) n a.within)
    (subst (λ (l : List Joined). IsIn l (begun setup.modules letter claim)) (sym here) (0, refl))

-- What made a membership.
record Begins (modules : Modules) (x : Peer) (asks : Bool) (notice : Notice) (o : Option Request) (c : Option Claim)
    (one : Joined) : Type 0 where
  pub from : Peer
  pub at : ℕ
  pub packet : Packet
  pub request : Request
  pub claim : Claim
  pub asks_is : asks ≡ true
  pub notice_is : notice ≡ Notice.Sent from at packet
  pub request_is : o ≡ Some request
  pub claim_is : c ≡ Some claim
  pub peer_is : is_peer x from ≡ true
  pub joined_is : begun modules request.letter claim ≡ one

from_joined_by : (modules : Modules) (x : Peer) (notice : Notice) (o : Option Request) (c : Option Claim) (one : Joined) (i : ℕ) → slice_get (joined_by modules x notice o c) i ≡ Some one → Begins modules x true notice o c one
from_joined_by modules x (Notice.Sent from at p) (Some request) (Some claim) one i e =
    let r = one_if (is_peer x from) (begun modules request.letter claim) one i e in record {
      from = from;
      at = at;
      packet = p;
      request = request;
      claim = claim;
      asks_is = refl;
      notice_is = refl;
      request_is = refl;
      claim_is = refl;
      peer_is = r.0;
      joined_is = r.1;
    }
from_joined_by modules x (Notice.Sent from at p) (Some request) None one i e = absurd (none-some one e)
from_joined_by modules x (Notice.Sent from at p) None c one i e = absurd (none-some one e)
from_joined_by modules x (Notice.Garbled from at refusal) o c one i e = absurd (none-some one e)
from_joined_by modules x (Notice.Quiet at) o c one i e = absurd (none-some one e)
from_joined_by modules x Notice.Fault o c one i e = absurd (none-some one e)
from_joined_by modules x Notice.End o c one i e = absurd (none-some one e)

from_joined_if : (modules : Modules) (x : Peer) (asks : Bool) (notice : Notice) (o : Option Request) (c : Option Claim) (one : Joined) (i : ℕ) → slice_get (cond asks (joined_by modules x notice o c) []) i ≡ Some one → Begins modules x asks notice o c one
from_joined_if modules x true notice o c one i e = from_joined_by modules x notice o c one i e
from_joined_if modules x false notice o c one i e = absurd (none-some one e)

begun_at : (setup : Setup) (entries : List Entry) (x : Peer) (n : ℕ) (one : Joined) → IsIn (range_with_len 0 (length entries)) n → IsIn (joined_at setup entries x n) one → IsBegun setup entries x n one
begun_at setup entries x n one there h =
    let b = from_joined_if setup.modules x (asks_at (past_at setup entries n)) (notice_at entries n) (request_in (notice_at entries n)) (claim_at entries n) one h.0 h.1 in
    record {
      from = b.from;
      claim = b.claim;
      letter = b.request.letter;
      asker = record {
        at = b.at;
        packet = b.packet;
        request = b.request;
        within = from_range (length entries) n there;
        asks = b.asks_is;
        notice = b.notice_is;
        requests = b.request_is;
        same_letter = refl;
        is_claim = b.claim_is;
      };
      joined = b.joined_is;
      is = b.peer_is;
    }

-- Each membership was begun by an asker.
pub has_begun : (setup : Setup) (entries : List Entry) (x : Peer) (one : Joined) → IsIn (memberships setup entries x) one → (n : ℕ) × IsBegun setup entries x n one
unfolding memberships
has_begun setup entries x one h =
    let at = from_flat (joined_at setup entries x) (range_with_len 0 (length entries)) one h in
    (at.item, begun_at setup entries x at.item one at.there at.its)
