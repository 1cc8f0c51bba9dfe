-- Who has joined a module has left it or is known in it.
use Rattle.std.proofs.Common.{◌≡◌, ℕ, suc, ◌+◌, ◌<◌, Bool, true, false, cond, not, List, [], ◌∷◌, ◌++◌, length, take, filter, slice_get, option_and_then, None, Some, refl, ap, sym, ◌∙◌, subst, arith}
use Rattle.std.proofs.lemmas.Bool.{false≢true}
use Rattle.std.proofs.lemmas.List.{length-take-le}
use Rattle.m17_lists.proofs.Places.{one_more_stands_at_the_end, places_before_stay, taken_keeps_places}
use Rattle.m17_values.specs.declared.peer.Peer.{Peer}
use Rattle.m17_control.specs.declared.packet.Packet as packet
use Rattle.m17_directory.specs.declared.known.Known.{Known}
use Rattle.m17_directory.specs.declared.known.Request.{Request}
use Rattle.m17_directory.specs.Entries.{Notice, Claim, Entry, Setup, notice_of, notice_at, claim_at, moment_at, ends_at}
use Rattle.m17_directory.specs.Known.{Past, now, request_of, known_at}
use Rattle.m17_directory.specs.Outcome.{Here, Outcome, has_place}
use Rattle.m17_directory.specs.Routed.{here_of, row_for, unclaimed_at, others_than, others_at, is_asks, asks_at, asked_before, past_at}
use Rattle.m17_directory.specs.StandsFor.{unclaimed}
use Rattle.m17_directory.specs.Steps.{heard_now, is_other, with_row, silent_by, still_by, said_by, known_by}
use Rattle.m17_directory.proofs.Same.{Says, Claims, past_of, says_less, claims_less, length_asked, asked_same, heard_is, heard_at_same}
use Rattle.m17_directory.proofs.Named.{known_order}
use Rattle.m17_directory.proofs.Heard.{known_last, others_by}
use Rattle.m17_directory.proofs.Settled.{known_claimed}
use Rattle.m17_directory.proofs.Lines.{asks_for}
use Rattle.m17_directory.proofs.LawMore.{says_alike, others_is, others_at_same}
use Rattle.m17_directory.proofs.AllPosts.{all_filter, all_passed}
use Rattle.m17_directory.proofs.LawCounts.{count, count_append, count_parts, known_count, NoneOf, put_count}

-- an entry that asks is a packet that requests something
pub record AsksFor (notice : Notice) : Type 0 where
  pub from : Peer
  pub at : ℕ
  pub packet : packet.Packet
  pub request : Request
  pub says : notice ≡ Notice.Sent from at packet
  pub wants : request_of packet ≡ Some request

asks_for_one : (here : Here) (ends : Bool) (rows still : List Known) (notice : Notice) → is_asks (said_by here ends rows still notice).verdict ≡ true → AsksFor notice
asks_for_one here ends rows still (Notice.Sent from at p) e =
    let one = asks_for here from (row_for from still) p e in
    record { from = from; at = at; packet = p; request = one.0; says = refl; wants = one.1 }
asks_for_one here ends rows still (Notice.Garbled from at refusal) e = absurd (false≢true e)
asks_for_one here ends rows still (Notice.Quiet at) e = absurd (false≢true e)
asks_for_one here true rows still Notice.Fault e = absurd (false≢true e)
asks_for_one here false rows still Notice.Fault e = absurd (false≢true e)
asks_for_one here ends rows still Notice.End e = absurd (false≢true e)

-- what is known and who leaves, before the claim
module _ (past : Past) where
  abbrev pub here : Here
  here = here_of past

  abbrev pub rows : List Known
  rows = known_at past

  abbrev pub notice : Notice
  notice = notice_at past.entries (now past)

  abbrev pub ends : Bool
  ends = ends_at past.entries (now past)

  abbrev pub still : List Known
  still = still_by here rows notice

  asks_said : asks_at past ≡ true → is_asks (said_by here ends rows still notice).verdict ≡ true
  asks_said e = ap (λ (o : Outcome). is_asks o.verdict) (sym (heard_is past)) ∙ e

  pub asks_one : asks_at past ≡ true → AsksFor notice
  asks_one e = asks_for_one here ends rows still notice (asks_said e)

  pub heard_count : (such : Known → Bool) → ((x : Peer) (m : ℕ) (k : Known) → such (heard_now x m k) ≡ such k) → count such (known_by here ends rows still notice) + count such (unclaimed_at past).left ≡ count such rows
  heard_count such keeps =
      let left : List Known = (said_by here ends rows still notice).left in
      ap (λ (o : Outcome). count such (known_by here ends rows still notice) + count such o.left) (heard_is past)
      ∙ ap (λ n. count such (known_by here ends rows still notice) + n) (count_append such (silent_by here rows notice) left)
      ∙ known_count such keeps here ends rows notice (known_order past)

  pub others_are : asks_at past ≡ true → known_by here ends rows still notice ≡ others_at past
  others_are e = others_by here ends rows still notice (asks_said e) ∙ sym (others_is past)

-- who is known behind an entry without a claim
pub known_next : (setup : Setup) (entries : List Entry) (n : ℕ) → claim_at entries n ≡ None → known_at (past_at setup entries (suc n)) ≡ known_by (here (past_at setup entries n)) (ends (past_at setup entries n)) (rows (past_at setup entries n)) (still (past_at setup entries n)) (notice (past_at setup entries n))
known_next setup entries n none =
    let past : Past = past_at setup entries n in
    let at : Here = here_of past in
    let f : ℕ → List Known = λ m. known_by at (ends_at entries m) (known_at past) (still_by at (known_at past) (notice_at entries m)) (notice_at entries m) in
    known_last setup entries n (notice_at entries n) refl none ∙ ap f (sym (length_asked setup entries n))

pub others_none : (x : Peer) (rows : List Known) → NoneOf x (filter (is_other x) rows)
others_none x rows = all_passed (is_other x) rows

-- an entry of the list, and the list up to it in which it has no claim
module _ (setup : Setup) (entries : List Entry) (n : ℕ) (within : n < length entries) where
  abbrev pub past : Past
  past = past_at setup entries n

  abbrev plain : List Entry
  plain = take n entries ++ unclaimed (notice_at entries n) ∷ []

  taken : length (take n entries) ≡ n
  taken = length-take-le n entries (omega arith)

  plain_get : (i : ℕ) → i < n → slice_get entries i ≡ slice_get plain i
  plain_get i l = sym (places_before_stay (take n entries) (unclaimed (notice_at entries n) ∷ []) i (omega (arith, taken)) ∙ taken_keeps_places entries n i l)

  plain_end : slice_get plain n ≡ Some (unclaimed (notice_at entries n))
  plain_end = ap (slice_get plain) (sym taken) ∙ one_more_stands_at_the_end (take n entries) (unclaimed (notice_at entries n))

  plain_says : Says entries plain (suc n)
  plain_says = says_alike entries plain n (λ i l. ap notice_of (plain_get i l)) (sym (ap notice_of plain_end))

  plain_claims : Claims entries plain n
  plain_claims = λ i l. ap (option_and_then (λ (entry : Entry). entry.claim)) (plain_get i l)

  plain_none : claim_at plain n ≡ None
  plain_none = ap (option_and_then (λ (entry : Entry). entry.claim)) plain_end

  abbrev l : List Bool
  l = asked_before setup entries n

  len : length l ≡ n
  len = length_asked setup entries n

  plain_asks : asks_at past ≡ asks_at (past_at setup plain n)
  plain_asks = ap (λ (o : Outcome). is_asks o.verdict) (heard_at_same setup entries plain n plain_says plain_claims)

  plain_known : asks_at past ≡ true → known_at (past_of setup plain (l ++ asks_at past ∷ [])) ≡ others_at past
  unfolding asked_before
  plain_known asks =
      ap (λ m. known_at (past_of setup plain (m ++ asks_at past ∷ []))) (asked_same setup entries plain n (says_less entries plain (suc n) n (omega arith) plain_says) plain_claims)
      ∙ ap (λ b. known_at (past_of setup plain (asked_before setup plain n ++ b ∷ []))) plain_asks
      ∙ known_next setup plain n plain_none
      ∙ others_are (past_at setup plain n) (sym plain_asks ∙ asks)
      ∙ sym (others_at_same setup entries plain n plain_says plain_claims)

  -- who is known behind an entry that asks and has a claim
  module _ (asks : asks_at past ≡ true) (claim : Claim) (given : claim_at entries n ≡ Some claim) where
    abbrev pub one : AsksFor (notice past)
    one = asks_one past asks

    abbrev pub row : Known
    row = record {
      peer = one.from;
      member = claim.member;
      letter = one.request.letter;
      callsign = one.request.callsign;
      listen = one.request.listen;
      heard_at = moment_at entries (length l);
    }

    abbrev pub staying : List Known
    staying = filter (λ k. not (has_place claim.member.place k)) (others_at past)

    pub known_claim : known_at (past_at setup entries (suc n)) ≡ with_row row staying
    unfolding asked_before
    known_claim =
        known_claimed setup entries plain l (asks_at past) (says_less entries plain (suc n) (suc (length l)) (omega (arith, len)) plain_says) (claims_less entries plain n (length l) (omega (arith, len)) plain_claims)
        (ap (claim_at plain) len ∙ plain_none) one.from one.at one.packet claim one.request asks one.says (ap (claim_at entries) len ∙ given) one.wants
        ∙ ap (λ ks. with_row row (filter (λ k. not (has_place claim.member.place k)) ks)) (plain_known asks)

    staying_none : NoneOf one.from staying
    staying_none =
        let others : others_at past ≡ filter (is_other one.from) (still past) = others_is past ∙ ap (λ y. others_than y (still past)) one.says in
        all_filter (λ (k : Known). is_other one.from k ≡ true) (λ k. not (has_place claim.member.place k)) (others_at past)
        (subst (NoneOf one.from) (sym others) (others_none one.from (still past)))

    pub claim_count : (such : Known → Bool) → ((x : Peer) (m : ℕ) (k : Known) → such (heard_now x m k) ≡ such k) → count such (known_at (past_at setup entries (suc n))) + (count such (unclaimed_at past).left + count such (filter (has_place claim.member.place) (others_at past)))
        ≡ count such (known_at past) + cond (such row) 1 0
    claim_count such keeps =
        let put : count such (known_at (past_at setup entries (suc n))) ≡ cond (such row) 1 0 + count such staying = ap (count such) known_claim ∙ put_count such row staying staying_none in
        let parts : count such (filter (has_place claim.member.place) (others_at past)) + count such staying ≡ count such (others_at past) = count_parts such (has_place claim.member.place) (others_at past) in
        let heard : count such (others_at past) + count such (unclaimed_at past).left ≡ count such (known_at past) = ap (λ ks. count such ks + count such (unclaimed_at past).left) (sym (others_are past asks)) ∙ heard_count past such keeps in
        omega (arith, put, parts, heard)
