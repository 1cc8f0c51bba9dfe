-- Who is known one entry later: each peer's row, by what the entry says and by its claim.
use Rattle.std.proofs.Common.{◌≡◌, ℕ, zero, suc, ◌-◌, ◌<◌, Bool, true, false, cond, not, ◌&&◌, ◌||◌, leb, eqb, List, [], ◌∷◌, ◌++◌, length, slice_get, unwrap_or, Option, None, Some, option_map, option_and_then, refl, ap, sym, ◌∙◌, inl, inr, arith}
use Rattle.std.specs.Option.{option_map_or}
use Rattle.std.proofs.lemmas.Bool.{cond-true, cond-false, eq-eqb, ne_eqb, and_parts, cases_eq, false≢true}
use Rattle.std.proofs.lemmas.Option.{none-some, option_and_then_some}
use Rattle.m17_lists.proofs.Tests.{mapped_option_is_of_one}
use Rattle.m17_lists.proofs.Places.{one_more_stands_at_the_end, places_before_stay}
use Rattle.m17_lists.proofs.Lengths.{one_more_is_one_longer}
use Rattle.m17_values.specs.declared.peer.Peer.{Peer}
use Rattle.m17_directory.specs.declared.known.Known.{Known}
use Rattle.m17_directory.specs.declared.known.Request.{Request}
use Rattle.m17_directory.specs.Entries.{Claim, Entry, Setup, notice_at, claim_at, moment_at, passes_time, is_from, says_disc, last_heard, silence_ms, is_silent_at, ends_at}
use Rattle.m17_directory.specs.Known.{Past, now, asks_for, turns, is_of_place, last_given, is_position, request_in, row_of, row_by, row_at}
use Rattle.m17_directory.specs.Routed.{is_silent}
use Rattle.m17_directory.proofs.Rows.{if_passes}
use Rattle.m17_directory.proofs.Same.{past_of, turns_same}
use Rattle.m17_lookup.specs.Lookup.{last_below}
use Rattle.m17_lookup.proofs.LastBelow.{last_below_same, last_below_suc, last_below_lt}

-- the row of a peer that was heard at this moment, if the entry is from it; and the row that keeps its place
abbrev pub hearing : Bool → ℕ → Known → Known
hearing from moment k = cond from (record k { heard_at = moment }) k

abbrev pub keeps : Option Claim → Known → Bool
keeps claim k = not (is_of_place k.member.place claim)

-- the parts of a row
pub record HasRow (past : Past) (x : Peer) (k : Known) : Type 0 where
  pub position : ℕ
  pub claim : Claim
  pub request : Request
  pub turned : last_below (turns past x) (now past) ≡ Some position
  pub below : position < now past
  pub asks : asks_for past x position ≡ true
  pub given : claim_at past.entries position ≡ Some claim
  pub still : is_position position (last_given past claim.member.place) ≡ true
  pub wants : request_in (notice_at past.entries position) ≡ Some request
  pub is : row_of past x claim request ≡ k

if_some : {A : Type 0} (b : Bool) (o : Option A) (y : A) → cond b o None ≡ Some y → (b ≡ true) × (o ≡ Some y)
if_some true o y e = (refl, e)
if_some false o y e = absurd (none-some y e)

row_by_parts : (past : Past) (x : Peer) (k : Known) (i : ℕ) (o : Option Claim) → last_below (turns past x) (now past) ≡ Some i → asks_for past x i ≡ true → claim_at past.entries i ≡ o → row_by past x i o ≡ Some k → HasRow past x k
row_by_parts past x k i None turned asks given e = absurd (none-some k e)
row_by_parts past x k i (Some claim) turned asks given e =
    let parts = if_some (is_position i (last_given past claim.member.place)) (option_map (row_of past x claim) (request_in (notice_at past.entries i))) k e in
    let row = mapped_option_is_of_one (row_of past x claim) (request_in (notice_at past.entries i)) k parts.1 in
    record {
      position = i;
      claim = claim;
      request = row.0;
      turned = turned;
      below = last_below_lt (turns past x) (now past) i turned;
      asks = asks;
      given = given;
      still = parts.0;
      wants = row.1;
      is = row.2;
    }

pub has_row : (past : Past) (x : Peer) (k : Known) → row_at past x ≡ Some k → HasRow past x k
unfolding row_at
has_row past x k e =
    option_and_then_some (λ i. cond (asks_for past x i) (row_by past x i (claim_at past.entries i)) None) (last_below (turns past x) (now past)) k e
    (λ i turned there.
    let parts = if_some (asks_for past x i) (row_by past x i (claim_at past.entries i)) k there in
    row_by_parts past x k i (claim_at past.entries i) turned parts.0 refl parts.1)

-- a row is the peer's own
pub row_at_peer : (past : Past) (x : Peer) (k : Known) → row_at past x ≡ Some k → k.peer ≡ x
row_at_peer past x k e = ap (λ (r : Known). r.peer) (sym (has_row past x k e).is)

found_step : (test : ℕ → Bool) (n i : ℕ) (b : Bool) → b ≡ test n → i < suc n → test i ≡ true → (i < n → (j : ℕ) × (last_below test n ≡ Some j)) → (j : ℕ) × (cond b (Some n) (last_below test n) ≡ Some j)
found_step test n i true e l t more = (n, refl)
found_step test n i false e l t more = elim (cases_eq i n) [
  | inl same ↦ absurd (false≢true (e ∙ ap test (sym same) ∙ t))
  | inr other ↦ more (omega arith)
]

-- where a position passes, one is found
pub found : (test : ℕ → Bool) (n i : ℕ) → i < n → test i ≡ true → (j : ℕ) × (last_below test n ≡ Some j)
unfolding last_below
found test zero i l t = absurd (omega arith)
found test (suc n) i l t = found_step test n i (test n) refl l t (λ k. found test n i k t)

-- a known peer was last heard when its row says
heard_some : (entries : List Entry) (x : Peer) (n i : ℕ) → i < n → is_from x (notice_at entries i) ≡ true → (m : ℕ) × (last_heard entries x n ≡ Some m)
unfolding last_heard
heard_some entries x n i l t =
    let at = found (λ j. is_from x (notice_at entries j)) n i l t in
    (moment_at entries at.0, ap (option_map (moment_at entries)) at.1)

is_unwrapped : (o : Option ℕ) (m : ℕ) → o ≡ Some m → o ≡ Some (unwrap_or o 0)
is_unwrapped None m e = absurd (none-some m e)
is_unwrapped (Some k) m e = refl

pub row_heard : (past : Past) (x : Peer) (k : Known) → row_at past x ≡ Some k → last_heard past.entries x (now past) ≡ Some k.heard_at
row_heard past x k e =
    let row = has_row past x k e in
    let from = and_parts (unwrap_or (slice_get past.asked row.position) false) (is_from x (notice_at past.entries row.position)) row.asks in
    let there = heard_some past.entries x (now past) row.position row.below from.1 in
    is_unwrapped (last_heard past.entries x (now past)) there.0 there.1 ∙ ap (λ (r : Known). Some r.heard_at) row.is

-- and is silent when its row says
pub row_silent : (past : Past) (x : Peer) (k : Known) → row_at past x ≡ Some k → is_silent_at past.entries x (now past) ≡ (passes_time (notice_at past.entries (now past)) && is_silent (moment_at past.entries (now past)) k)
unfolding is_silent_at
row_silent past x k e =
    ap (λ o. passes_time (notice_at past.entries (now past)) && option_map_or (λ at. leb silence_ms (moment_at past.entries (now past) - at)) o false) (row_heard past x k e)

map_if : {A B : Type 0} (f : A → B) (b : Bool) (x : A) (o : Option A) → option_map f (cond b (Some x) o) ≡ cond b (Some (f x)) (option_map f o)
map_if f true x o = refl
map_if f false x o = refl

map_after : (p : Known → Bool) (late : Known → Known) (f g : Request → Known) → ((r : Request) → f r ≡ late (g r)) → ((r : Request) → p (late (g r)) ≡ true) → (o : Option Request) → option_map f o ≡ if_passes p (option_map late (option_map g o))
map_after p late f g e h None = refl
map_after p late f g e h (Some r) = ap Some (e r) ∙ sym (cond-true (p (late (g r))) (Some (late (g r))) None (h r))

map_gone : (p : Known → Bool) (late : Known → Known) (g : Request → Known) → ((r : Request) → p (late (g r)) ≡ false) → (o : Option Request) → None ≡ if_passes p (option_map late (option_map g o))
map_gone p late g h None = refl
map_gone p late g h (Some r) = sym (cond-false (p (late (g r))) (Some (late (g r))) None (h r))

row_kept_step : (p : Known → Bool) (late : Known → Known) (f g : Request → Known) → ((r : Request) → f r ≡ late (g r)) → (given is : Bool) (o : Option Request) → ((r : Request) → p (late (g r)) ≡ not given)
    → cond (cond given false is) (option_map f o) None ≡ if_passes p (option_map late (cond is (option_map g o) None))
row_kept_step p late f g e true true o h = map_gone p late g h o
row_kept_step p late f g e true false o h = refl
row_kept_step p late f g e false true o h = map_after p late f g e h o
row_kept_step p late f g e false false o h = refl

position_if : (i n : ℕ) (b : Bool) (o : Option ℕ) → eqb n i ≡ false → is_position i (cond b (Some n) o) ≡ cond b false (is_position i o)
position_if i n true o e = e
position_if i n false o e = refl

row_kept : (p : Known → Bool) (late : Known → Known) (f g : Request → Known) → ((r : Request) → f r ≡ late (g r)) → (i n : ℕ) (o : Option ℕ) (given : Bool) (wants : Option Request) → eqb n i ≡ false → ((r : Request) → p (late (g r)) ≡ not given)
    → cond (is_position i (cond given (Some n) o)) (option_map f wants) None ≡ if_passes p (option_map late (cond (is_position i o) (option_map g wants) None))
row_kept p late f g e i n o given wants other h =
    ap (λ b. cond b (option_map f wants) None) (position_if i n given o other)
    ∙ row_kept_step p late f g e given (is_position i o) wants h

place_kept : (claim : Option Claim) (from : Bool) (moment : ℕ) (k : Known) → keeps claim (hearing from moment k) ≡ not (is_of_place k.member.place claim)
place_kept claim true moment k = refl
place_kept claim false moment k = refl

then_change : (f g : ℕ → Option Known) (change : Option Known → Option Known) (o : Option ℕ) → change None ≡ None → ((i : ℕ) → o ≡ Some i → f i ≡ change (g i)) → option_and_then f o ≡ change (option_and_then g o)
then_change f g change None none h = sym none
then_change f g change (Some i) none h = h i refl

cond_change : (change : Option Known → Option Known) (b : Bool) (o : Option Known) → change None ≡ None → cond b (change o) None ≡ change (cond b o None)
cond_change change true o none = refl
cond_change change false o none = sym none

turns_if_asks : (a b c d : Bool) → a ≡ true → (((a || b) || c) || d) ≡ true
turns_if_asks true b c d e = refl
turns_if_asks false b c d e = absurd (false≢true e)

-- One entry more, of which it is known whether it asks.
module _ (setup : Setup) (entries : List Entry) (l : List Bool) (v : Bool) where
  abbrev pub before : Past
  before = past_of setup entries l

  abbrev pub after : Past
  after = past_of setup entries (l ++ v ∷ [])

  abbrev n : ℕ
  n = length l

  pub now_after : now after ≡ suc n
  now_after = one_more_is_one_longer l v

  asks_before : (x : Peer) (i : ℕ) → i < n → asks_for after x i ≡ asks_for before x i
  asks_before x i k = ap (λ o. unwrap_or o false && is_from x (notice_at entries i)) (places_before_stay l (v ∷ []) i k)

  pub asks_now : (x : Peer) → asks_for after x n ≡ (v && is_from x (notice_at entries n))
  asks_now x = ap (λ o. unwrap_or o false && is_from x (notice_at entries n)) (one_more_stands_at_the_end l v)

  turned_before : (x : Peer) → last_below (turns after x) n ≡ last_below (turns before x) n
  turned_before x = last_below_same (turns after x) (turns before x) n (λ i k. turns_same setup entries entries (l ++ v ∷ []) l x i (λ j m. refl) (places_before_stay l (v ∷ []) i k))

  given_after : (place : ℕ) → last_given after place ≡ cond (is_of_place place (claim_at entries n)) (Some n) (last_given before place)
  given_after place =
      ap (last_below (λ i. is_of_place place (claim_at entries i))) now_after
      ∙ last_below_suc (λ i. is_of_place place (claim_at entries i)) n

  heard_after : (x : Peer) → last_heard entries x (now after) ≡ cond (is_from x (notice_at entries n)) (Some (moment_at entries n)) (last_heard entries x n)
  unfolding last_heard
  heard_after x =
      ap (λ m. option_map (moment_at entries) (last_below (λ i. is_from x (notice_at entries i)) m)) now_after
      ∙ ap (option_map (moment_at entries)) (last_below_suc (λ i. is_from x (notice_at entries i)) n)
      ∙ map_if (moment_at entries) (is_from x (notice_at entries n)) n (last_below (λ i. is_from x (notice_at entries i)) n)

  row_of_after : (x : Peer) (claim : Claim) (request : Request) → row_of after x claim request ≡ hearing (is_from x (notice_at entries n)) (moment_at entries n) (row_of before x claim request)
  row_of_after x claim request =
      let f : Option ℕ → Known = λ o. record {
        peer = x;
        member = claim.member;
        letter = request.letter;
        callsign = request.callsign;
        listen = request.listen;
        heard_at = unwrap_or o 0;
      } in
      ap f (heard_after x)
      ∙ elim (is_from x (notice_at entries n)) as (λ b. f (cond b (Some (moment_at entries n)) (last_heard entries x n)) ≡ hearing b (moment_at entries n) (f (last_heard entries x n))) [ true ↦ refl | false ↦ refl ]

  -- a row that was given before, and is given doesnt more where the claim has its place
  row_by_after : (x : Peer) (i : ℕ) (o : Option Claim) → i < n
      → row_by after x i o ≡ if_passes (keeps (claim_at entries n)) (option_map (hearing (is_from x (notice_at entries n)) (moment_at entries n)) (row_by before x i o))
  row_by_after x i None k = refl
  row_by_after x i (Some claim) k =
      let place : ℕ = claim.member.place in
      let late : Known → Known = hearing (is_from x (notice_at entries n)) (moment_at entries n) in
      ap (λ g. cond (is_position i g) (option_map (row_of after x claim) (request_in (notice_at entries i))) None) (given_after place)
      ∙ row_kept (keeps (claim_at entries n)) late (row_of after x claim) (row_of before x claim) (row_of_after x claim) i n (last_given before place) (is_of_place place (claim_at entries n)) (request_in (notice_at entries i)) (ne_eqb n i (λ e. absurd (omega arith)))
      (λ request. place_kept (claim_at entries n) (is_from x (notice_at entries n)) (moment_at entries n) (row_of before x claim request))

  pub stays : (x : Peer) → turns after x n ≡ false → row_at after x ≡ if_passes (keeps (claim_at entries n)) (option_map (hearing (is_from x (notice_at entries n)) (moment_at entries n)) (row_at before x))
  unfolding row_at
  stays x doesnt =
      let late : Known → Known = hearing (is_from x (notice_at entries n)) (moment_at entries n) in
      let f : ℕ → Option Known = λ i. cond (asks_for after x i) (row_by after x i (claim_at entries i)) None in
      let g : ℕ → Option Known = λ i. cond (asks_for before x i) (row_by before x i (claim_at entries i)) None in
      let change : Option Known → Option Known = λ o. if_passes (keeps (claim_at entries n)) (option_map late o) in
      ap (λ m. option_and_then f (last_below (turns after x) m)) now_after
      ∙ ap (option_and_then f) (last_below_suc (turns after x) n ∙ cond-false (turns after x n) (Some n) (last_below (turns after x) n) doesnt ∙ turned_before x)
      ∙ then_change f g change (last_below (turns before x) n) refl
      (λ i e.
      let k : i < n = last_below_lt (turns before x) n i e in
      ap (λ b. cond b (row_by after x i (claim_at entries i)) None) (asks_before x i k)
      ∙ ap (λ o. cond (asks_for before x i) o None) (row_by_after x i (claim_at entries i) k)
      ∙ cond_change change (asks_for before x i) (row_by before x i (claim_at entries i)) refl)

  -- the entry is where the peer turned last
  turns_here : (x : Peer) → turns after x n ≡ true → row_at after x ≡ cond (asks_for after x n) (row_by after x n (claim_at entries n)) None
  unfolding row_at
  turns_here x does =
      let f : ℕ → Option Known = λ i. cond (asks_for after x i) (row_by after x i (claim_at entries i)) None in
      ap (λ m. option_and_then f (last_below (turns after x) m)) now_after
      ∙ ap (option_and_then f) (last_below_suc (turns after x) n ∙ cond-true (turns after x n) (Some n) (last_below (turns after x) n) does)

  pub goes : (x : Peer) → turns after x n ≡ true → asks_for after x n ≡ false → row_at after x ≡ None
  goes x does doesnt = turns_here x does ∙ cond-false (asks_for after x n) (row_by after x n (claim_at entries n)) None doesnt

  pub goes_unclaimed : (x : Peer) → turns after x n ≡ true → claim_at entries n ≡ None → row_at after x ≡ None
  goes_unclaimed x does none =
      turns_here x does
      ∙ ap (λ o. cond (asks_for after x n) (row_by after x n o) None) none
      ∙ elim (asks_for after x n) as (λ b. ◌≡◌ {A = Option Known} (cond b None None) None) [ true ↦ refl | false ↦ refl ]

  -- it asks there and was given a place
  pub comes : (x : Peer) (claim : Claim) (request : Request) → v ≡ true → is_from x (notice_at entries n) ≡ true → claim_at entries n ≡ Some claim → request_in (notice_at entries n) ≡ Some request
      → row_at after x ≡ Some (record {
        peer = x;
        member = claim.member;
        letter = request.letter;
        callsign = request.callsign;
        listen = request.listen;
        heard_at = moment_at entries n;
      })
  comes x claim request asks from given wants =
      let does : asks_for after x n ≡ true = asks_now x ∙ ap (λ b. b && is_from x (notice_at entries n)) asks ∙ from in
      let place : ℕ = claim.member.place in
      let last : last_given after place ≡ Some n =
      given_after place ∙ ap (λ o. cond (is_of_place place o) (Some n) (last_given before place)) given ∙ cond-true (eqb place place) (Some n) (last_given before place) (eq-eqb place place refl) in
      let heard : last_heard entries x (now after) ≡ Some (moment_at entries n) =
      heard_after x ∙ cond-true (is_from x (notice_at entries n)) (Some (moment_at entries n)) (last_heard entries x n) from in
      turns_here x (turns_if_asks (asks_for after x n) (says_disc x (notice_at entries n)) (is_silent_at entries x n) (ends_at entries n) does)
      ∙ cond-true (asks_for after x n) (row_by after x n (claim_at entries n)) None does
      ∙ ap (row_by after x n) given
      ∙ ap (λ o. cond (is_position n o) (option_map (row_of after x claim) (request_in (notice_at entries n))) None) last
      ∙ cond-true (eqb n n) (option_map (row_of after x claim) (request_in (notice_at entries n))) None (eq-eqb n n refl)
      ∙ ap (option_map (row_of after x claim)) wants
      ∙ ap (λ o. Some (record {
        peer = x;
        member = claim.member;
        letter = request.letter;
        callsign = request.callsign;
        listen = request.listen;
        heard_at = unwrap_or o 0;
      })) heard
