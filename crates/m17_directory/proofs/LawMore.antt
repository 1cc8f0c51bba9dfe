-- What an entry comes to depends on the entries before it and on itself, and one entry more posts behind the others.
use Rattle.std.proofs.Common.{◌≡◌, ◌⊎◌, inl, inr, ℕ, suc, ◌+◌, ◌<◌, Bool, cond, List, [], ◌∷◌, ◌++◌, length, take, option_and_then, filter_map, Option, None, Some, refl, ap, sym, ◌∙◌, arith}
use Rattle.std.specs.List.{flat_map, range_with_len}
use Rattle.std.proofs.lemmas.Bool.{cases_eq}
use Rattle.std.proofs.lemmas.List.{append-nil}
use Rattle.std.proofs.lemmas.List.Elements.{filter_map-append}
use Rattle.std.proofs.lemmas.Grind.{flat_map-append}
use Rattle.m17_lists.proofs.Ranges.{range_ends_in_its_last, same_at_each_number}
use Rattle.m17_lists.proofs.Places.{places_before_stay, same_fronts_same_places}
use Rattle.m17_lists.proofs.Lengths.{one_more_is_one_longer}
use Rattle.m17_values.specs.declared.peer.Peer.{Peer}
use Rattle.m17_directory.specs.declared.dispatch.Dispatch.{Dispatch}
use Rattle.m17_directory.specs.declared.known.Known.{Known}
use Rattle.m17_directory.specs.declared.known.Request.{Request}
use Rattle.m17_directory.specs.Entries.{Notice, Claim, Entry, Setup, notice_of, notice_at, claim_at}
use Rattle.m17_directory.specs.Known.{Past, now, request_in, known_at}
use Rattle.m17_directory.specs.Outcome.{Here, Outcome, settled}
use Rattle.m17_directory.specs.Routed.{here_of, unclaimed_at, others_than, others_at, settled_by, settled_at, is_asks, both, comes_to, asked_before, past_at, outcome_at, posts_at, posted, event_for, reply_for, routed, direct_replies}
use Rattle.m17_directory.specs.Laws.{LaterEntriesChangeNothing, OneEntryMore, EntriesBeforeDecide}
use Rattle.m17_directory.specs.Steps.{still_by}
use Rattle.m17_directory.proofs.Same.{Says, Claims, past_of, says_less, claims_less, moment_same, known_same, heard_same, heard_at_same, length_asked, asked_same}

-- the same setup, index and moment
here_same : (setup : Setup) (a b : List Entry) (l : List Bool) → Says a b (suc (length l)) → here_of (past_of setup a l) ≡ here_of (past_of setup b l)
here_same setup a b l says =
    let f : ℕ → Here = λ m. record { setup = setup; index = length l; moment = m } in
    ap f (moment_same a b (suc (length l)) says)

pub others_is : (past : Past) → others_at past ≡ others_than (notice_at past.entries (now past)) (still_by (here_of past) (known_at past) (notice_at past.entries (now past)))
unfolding others_at
others_is past = refl

-- who the others are depends on what came before, and on what the entry says
others_same : (setup : Setup) (a b : List Entry) (l : List Bool) → Says a b (suc (length l)) → Claims a b (length l) → others_at (past_of setup a l) ≡ others_at (past_of setup b l)
others_same setup a b l says claims =
    let n : ℕ = length l in
    let p : Past = past_of setup a l in
    let q : Past = past_of setup b l in
    let f : Here → List Known → Notice → List Known = λ here rows notice. others_than notice (still_by here rows notice) in
    others_is p
    ∙ ap (λ here. f here (known_at p) (notice_at a n)) (here_same setup a b l says)
    ∙ ap (λ rows. f (here_of q) rows (notice_at a n)) (known_same setup a b l (says_less a b (suc n) n (omega arith) says) claims)
    ∙ ap (f (here_of q) (known_at q)) (says n (omega arith))
    ∙ sym (others_is q)

settled_by_same : (p q : Past) (claim : Option Claim) (notice : Notice) (request : Option Request) → here_of p ≡ here_of q → others_at p ≡ others_at q → settled_by p claim notice request ≡ settled_by q claim notice request
settled_by_same p q claim (Notice.Sent from at packet) (Some request) h o =
    ap (λ here. settled here (others_at p) from request claim) h ∙ ap (λ others. settled (here_of q) others from request claim) o
settled_by_same p q claim (Notice.Sent from at packet) None h o = refl
settled_by_same p q claim (Notice.Garbled from at refusal) request h o = refl
settled_by_same p q claim (Notice.Quiet at) request h o = refl
settled_by_same p q claim Notice.Fault request h o = refl
settled_by_same p q claim Notice.End request h o = refl

settled_same : (setup : Setup) (a b : List Entry) (l : List Bool) (claim : Option Claim) → Says a b (suc (length l)) → Claims a b (length l) → settled_at (past_of setup a l) claim ≡ settled_at (past_of setup b l) claim
unfolding settled_at
settled_same setup a b l claim says claims =
    let n : ℕ = length l in
    let p : Past = past_of setup a l in
    let q : Past = past_of setup b l in
    settled_by_same p q claim (notice_at a n) (request_in (notice_at a n)) (here_same setup a b l says) (others_same setup a b l says claims)
    ∙ ap (λ notice. settled_by q claim notice (request_in notice)) (says n (omega arith))

-- what an entry comes to depends on the entries up to it
comes_same : (setup : Setup) (a b : List Entry) (l : List Bool) → Says a b (suc (length l)) → Claims a b (suc (length l)) → comes_to (past_of setup a l) ≡ comes_to (past_of setup b l)
comes_same setup a b l says claims =
    let n : ℕ = length l in
    let p : Past = past_of setup a l in
    let q : Past = past_of setup b l in
    let before : Claims a b n = claims_less a b (suc n) n (omega arith) claims in
    let f : Outcome → Outcome → Outcome = λ o s. cond (is_asks o.verdict) (both o s) o in
    ap (λ o. f o (settled_at p (claim_at a n))) (heard_same setup a b l says before)
    ∙ ap (f (unclaimed_at q)) (settled_same setup a b l (claim_at a n) says before)
    ∙ ap (λ claim. f (unclaimed_at q) (settled_at q claim)) (claims n (omega arith))

pub outcome_same : (setup : Setup) (a b : List Entry) (n : ℕ) → Says a b (suc n) → Claims a b (suc n) → outcome_at setup a n ≡ outcome_at setup b n
outcome_same setup a b n says claims =
    let l : List Bool = asked_before setup a n in
    let len : length l ≡ n = length_asked setup a n in
    comes_same setup a b l (says_less a b (suc n) (suc (length l)) (omega arith) says) (claims_less a b (suc n) (suc (length l)) (omega arith) claims)
    ∙ ap (λ m. comes_to (past_of setup b m)) (asked_same setup a b n (says_less a b (suc n) n (omega arith) says) (claims_less a b (suc n) n (omega arith) claims))

pub later_nothing : LaterEntriesChangeNothing
later_nothing setup entries more n l =
    outcome_same setup (entries ++ more) entries n
    (λ i k. ap notice_of (places_before_stay entries more i (omega arith)))
    (λ i k. ap (option_and_then (λ (entry : Entry). entry.claim)) (places_before_stay entries more i (omega arith)))

posts_later : (setup : Setup) (entries more : List Entry) (n : ℕ) → n < length entries → posts_at setup (entries ++ more) n ≡ posts_at setup entries n
unfolding posts_at
posts_later setup entries more n l = ap (λ (o : Outcome). o.posts) (later_nothing setup entries more n l)

pub posted_upto : (setup : Setup) (entries : List Entry) (n : ℕ) → flat_map (posts_at setup entries) (range_with_len 0 (suc n)) ≡ flat_map (posts_at setup entries) (range_with_len 0 n) ++ posts_at setup entries n
posted_upto setup entries n =
    let f : ℕ → List Dispatch = posts_at setup entries in
    let at : 0 + n ≡ n = omega arith in
    ap (flat_map f) (range_ends_in_its_last 0 n)
    ∙ flat_map-append f (range_with_len 0 n) ((0 + n) ∷ [])
    ∙ ap (λ m. flat_map f (range_with_len 0 n) ++ flat_map f (m ∷ [])) at
    ∙ ap (λ xs. flat_map f (range_with_len 0 n) ++ xs) (append-nil (f n))

pub posted_more : (setup : Setup) (entries : List Entry) (entry : Entry) → posted setup (entries ++ entry ∷ []) ≡ posted setup entries ++ posts_at setup (entries ++ entry ∷ []) (length entries)
unfolding posted
posted_more setup entries entry =
    let longer : List Entry = entries ++ entry ∷ [] in
    let n : ℕ = length entries in
    ap (λ m. flat_map (posts_at setup longer) (range_with_len 0 m)) (one_more_is_one_longer entries entry)
    ∙ posted_upto setup longer n
    ∙ ap (λ xs. xs ++ posts_at setup longer n) (same_at_each_number (posts_at setup longer) (posts_at setup entries) 0 n (λ i l. posts_later setup entries (entry ∷ []) i (omega arith)))

routed_more : (setup : Setup) (entries : List Entry) (entry : Entry) (letter : ℕ) → routed setup (entries ++ entry ∷ []) letter ≡ routed setup entries letter ++ filter_map (event_for letter) (posts_at setup (entries ++ entry ∷ []) (length entries))
unfolding routed
routed_more setup entries entry letter =
    ap (filter_map (event_for letter)) (posted_more setup entries entry)
    ∙ filter_map-append (event_for letter) (posted setup entries) (posts_at setup (entries ++ entry ∷ []) (length entries))

replies_more : (setup : Setup) (entries : List Entry) (entry : Entry) (x : Peer) → direct_replies setup (entries ++ entry ∷ []) x ≡ direct_replies setup entries x ++ filter_map (reply_for x) (posts_at setup (entries ++ entry ∷ []) (length entries))
unfolding direct_replies
replies_more setup entries entry x =
    ap (filter_map (reply_for x)) (posted_more setup entries entry)
    ∙ filter_map-append (reply_for x) (posted setup entries) (posts_at setup (entries ++ entry ∷ []) (length entries))

pub one_more : OneEntryMore
one_more = record { posts = posted_more; routes = routed_more; answers = replies_more }

-- lists that begin alike
says_alike_step : (a b : List Entry) (n i : ℕ) → Says a b n → notice_at a n ≡ notice_at b n → i < suc n → (i ≡ n) ⊎ (i < n) → notice_at a i ≡ notice_at b i
says_alike_step a b n i h e l (inl same) = ap (notice_at a) same ∙ e ∙ ap (notice_at b) (sym same)
says_alike_step a b n i h e l (inr less) = h i less

pub says_alike : (a b : List Entry) (n : ℕ) → Says a b n → notice_at a n ≡ notice_at b n → Says a b (suc n)
says_alike a b n h e = λ i l. says_alike_step a b n i h e l (elim (cases_eq i n) [
  | inl same ↦ inl same
  | inr other ↦ inr (omega arith)
])

pub others_at_same : (setup : Setup) (a b : List Entry) (n : ℕ) → Says a b (suc n) → Claims a b n → others_at (past_at setup a n) ≡ others_at (past_at setup b n)
others_at_same setup a b n says claims =
    let l : List Bool = asked_before setup a n in
    let len : length l ≡ n = length_asked setup a n in
    others_same setup a b l (says_less a b (suc n) (suc (length l)) (omega arith) says) (claims_less a b n (length l) (omega arith) claims)
    ∙ ap (λ m. others_at (past_of setup b m)) (asked_same setup a b n (says_less a b (suc n) n (omega arith) says) claims)

before_says : (a b : List Entry) (n : ℕ) → take n a ≡ take n b → notice_at a n ≡ notice_at b n → Says a b (suc n)
before_says a b n e h = says_alike a b n (λ i l. ap notice_of (same_fronts_same_places a b n e i l)) h

before_claims : (a b : List Entry) (n : ℕ) → take n a ≡ take n b → Claims a b n
before_claims a b n e = λ i l. ap (option_and_then (λ (entry : Entry). entry.claim)) (same_fronts_same_places a b n e i l)

pub before_decide : EntriesBeforeDecide
before_decide = record {
  heard = λ setup a b n e h. heard_at_same setup a b n (before_says a b n e h) (before_claims a b n e);
  others = λ setup a b n e h. others_at_same setup a b n (before_says a b n e h) (before_claims a b n e);
}
