-- What is looked up before a position depends on what came before it alone.
use Rattle.std.proofs.Common.{◌≡◌, ℕ, zero, suc, ◌-◌, ◌<◌, ◌≤◌, Bool, false, cond, ◌&&◌, ◌||◌, leb, max, fold, map, take, List, [], ◌∷◌, ◌++◌, length, slice_get, unwrap_or, filter_map, Option, None, Some, option_map, option_and_then, refl, ap, sym, ◌∙◌, arith}
use Rattle.std.specs.List.{cons_option}
use Rattle.std.specs.Option.{option_map_or}
use Rattle.m17_lists.proofs.Lengths.{one_more_is_one_longer}
use Rattle.m17_values.specs.declared.peer.Peer.{Peer}
use Rattle.m17_directory.specs.declared.known.Known.{Known}
use Rattle.m17_directory.specs.Entries.{Claim, Entry, Setup, notice_at, claim_at, moment_of, moment_before, moment_at, passes_time, is_from, is_fault, is_end, says_disc, last_heard, silence_ms, is_silent_at, ends_at, with_sender, peers_named}
use Rattle.m17_directory.specs.Known.{Past, now, asks_for, turns, is_of_place, last_given, is_position, request_in, row_of, row_by, row_at, known_at}
use Rattle.m17_directory.specs.Outcome.{Here}
use Rattle.m17_directory.specs.Routed.{here_of, unclaimed_at, is_asks, asks_at, asked_before, past_at}
use Rattle.m17_directory.specs.StandsFor.{faults_before}
use Rattle.m17_directory.specs.Steps.{heard_by}
use Rattle.m17_directory.proofs.Faults.{ends_is}
use Rattle.m17_lookup.specs.Lookup.{last_below}
use Rattle.m17_lookup.proofs.LastBelow.{last_below_same, last_below_lt, and_then_same}

-- they say the same below n, and have the same claims
abbrev pub Says : List Entry → List Entry → ℕ → Type 0
Says a b n = (i : ℕ) → i < n → notice_at a i ≡ notice_at b i

abbrev pub Claims : List Entry → List Entry → ℕ → Type 0
Claims a b n = (i : ℕ) → i < n → claim_at a i ≡ claim_at b i

pub says_less : (a b : List Entry) (n m : ℕ) → m ≤ n → Says a b n → Says a b m
says_less a b n m l h = λ i k. h i (omega arith)

pub claims_less : (a b : List Entry) (n m : ℕ) → m ≤ n → Claims a b n → Claims a b m
claims_less a b n m l h = λ i k. h i (omega arith)

no_more : (m : ℕ) → m ≡ max m 0
no_more m = omega arith

moment_step : (before : ℕ) (entries : List Entry) (n : ℕ) → fold max before (map (λ (entry : Entry). moment_of entry.notice) (take (suc n) entries))
    ≡ max (fold max before (map (λ (entry : Entry). moment_of entry.notice) (take n entries))) (moment_of (notice_at entries n))
moment_step before [] zero = no_more before
moment_step before [] (suc n) = no_more before
moment_step before (e ∷ entries) zero = refl
moment_step before (e ∷ entries) (suc n) = moment_step (max before (moment_of e.notice)) entries n

pub moment_more : (entries : List Entry) (n : ℕ) → moment_before entries (suc n) ≡ max (moment_before entries n) (moment_of (notice_at entries n))
moment_more entries n = moment_step 0 entries n

pub moment_same : (a b : List Entry) (n : ℕ) → Says a b n → moment_before a n ≡ moment_before b n
moment_same a b zero h = refl
moment_same a b (suc n) h =
    moment_more a n
    ∙ ap (λ m. max m (moment_of (notice_at a n))) (moment_same a b n (says_less a b (suc n) n (omega arith) h))
    ∙ ap (λ x. max (moment_before b n) (moment_of x)) (h n (omega arith))
    ∙ sym (moment_more b n)

map_same : {A B : Type 0} (o : Option A) (f g : A → B) → ((x : A) → o ≡ Some x → f x ≡ g x) → option_map f o ≡ option_map g o
map_same None f g h = refl
map_same (Some x) f g h = ap Some (h x refl)

pub last_heard_same : (a b : List Entry) (x : Peer) (n : ℕ) → Says a b n → last_heard a x n ≡ last_heard b x n
unfolding last_heard
last_heard_same a b x n h =
    ap (option_map (moment_at a)) (last_below_same (λ i. is_from x (notice_at a i)) (λ i. is_from x (notice_at b i)) n (λ i l. ap (is_from x) (h i l)))
    ∙ map_same (last_below (λ i. is_from x (notice_at b i)) n) (moment_at a) (moment_at b)
    (λ i e. moment_same a b (suc i) (says_less a b n (suc i) (last_below_lt (λ i. is_from x (notice_at b i)) n i e) h))

pub silent_same : (a b : List Entry) (x : Peer) (n : ℕ) → Says a b (suc n) → is_silent_at a x n ≡ is_silent_at b x n
unfolding is_silent_at
silent_same a b x n h =
    let m : moment_at a n ≡ moment_at b n = moment_same a b (suc n) h in
    let l : last_heard a x n ≡ last_heard b x n = last_heard_same a b x n (says_less a b (suc n) n (omega arith) h) in
    ap (λ y. passes_time y && option_map_or (λ at. leb silence_ms (moment_at a n - at)) (last_heard a x n) false) (h n (omega arith))
    ∙ ap (λ y. passes_time (notice_at b n) && option_map_or (λ at. leb silence_ms (y - at)) (last_heard a x n) false) m
    ∙ ap (λ y. passes_time (notice_at b n) && option_map_or (λ at. leb silence_ms (moment_at b n - at)) y false) l

pub faults_same : (a b : List Entry) (n : ℕ) → Says a b n → faults_before a n ≡ faults_before b n
faults_same a b zero h = refl
faults_same a b (suc n) h =
    ap (λ y. cond (is_fault y) (suc (faults_before a n)) 0) (h n (omega arith))
    ∙ ap (λ y. cond (is_fault (notice_at b n)) (suc y) 0) (faults_same a b n (says_less a b (suc n) n (omega arith) h))

pub ends_same : (a b : List Entry) (n : ℕ) → Says a b (suc n) → ends_at a n ≡ ends_at b n
ends_same a b n h =
    ends_is a n
    ∙ ap (λ y. is_end y || leb 16 (faults_before a (suc n))) (h n (omega arith))
    ∙ ap (λ y. is_end (notice_at b n) || leb 16 y) (faults_same a b (suc n) h)
    ∙ sym (ends_is b n)

pub peers_same : (a b : List Entry) (n : ℕ) → Says a b n → peers_named a n ≡ peers_named b n
unfolding peers_named
peers_same a b zero h = refl
peers_same a b (suc n) h =
    ap (λ y. with_sender y (peers_named a n)) (h n (omega arith))
    ∙ ap (with_sender (notice_at b n)) (peers_same a b n (says_less a b (suc n) n (omega arith) h))

-- with the same of each position before it whether it asked
abbrev pub past_of : Setup → List Entry → List Bool → Past
past_of setup entries asked = record { setup = setup; entries = entries; asked = asked }

-- what turned whether a peer is known, at a position of which both know alike whether it asked
pub turns_same : (setup : Setup) (a b : List Entry) (l m : List Bool) (x : Peer) (i : ℕ) → Says a b (suc i) → slice_get l i ≡ slice_get m i → turns (past_of setup a l) x i ≡ turns (past_of setup b m) x i
turns_same setup a b l m x i h e =
    let n : notice_at a i ≡ notice_at b i = h i (omega arith) in
    ap (λ y. (((unwrap_or y false && is_from x (notice_at a i)) || says_disc x (notice_at a i)) || is_silent_at a x i) || ends_at a i) e
    ∙ ap (λ y. (((unwrap_or (slice_get m i) false && is_from x y) || says_disc x y) || is_silent_at a x i) || ends_at a i) n
    ∙ ap (λ y. (((unwrap_or (slice_get m i) false && is_from x (notice_at b i)) || says_disc x (notice_at b i)) || y) || ends_at a i) (silent_same a b x i h)
    ∙ ap (λ y. (((unwrap_or (slice_get m i) false && is_from x (notice_at b i)) || says_disc x (notice_at b i)) || is_silent_at b x i) || y) (ends_same a b i h)

module _ (setup : Setup) (a b : List Entry) (l : List Bool) (says : Says a b (length l)) (claims : Claims a b (length l)) where
  given_same : (place : ℕ) → last_given (past_of setup a l) place ≡ last_given (past_of setup b l) place
  given_same place = last_below_same _ _ (length l) (λ i k. ap (is_of_place place) (claims i k))

  row_by_same : (x : Peer) (i : ℕ) (claim : Option Claim) → i < length l → row_by (past_of setup a l) x i claim ≡ row_by (past_of setup b l) x i claim
  row_by_same x i None k = refl
  row_by_same x i (Some claim) k =
      ap (λ y. cond (is_position i y) (option_map (row_of (past_of setup a l) x claim) (request_in (notice_at a i))) None) (given_same claim.member.place)
      ∙ ap (λ y. cond (is_position i (last_given (past_of setup b l) claim.member.place)) (option_map (row_of (past_of setup a l) x claim) (request_in y)) None) (says i k)
      ∙ ap (λ y. cond (is_position i (last_given (past_of setup b l) claim.member.place)) (option_map (λ request. record {
        peer = x;
        member = claim.member;
        letter = request.letter;
        callsign = request.callsign;
        listen = request.listen;
        heard_at = unwrap_or y 0;
      }) (request_in (notice_at b i))) None) (last_heard_same a b x (length l) says)

  row_if_same : (x : Peer) (i : ℕ) → i < length l
      → cond (asks_for (past_of setup a l) x i) (row_by (past_of setup a l) x i (claim_at a i)) None
      ≡ cond (asks_for (past_of setup b l) x i) (row_by (past_of setup b l) x i (claim_at b i)) None
  row_if_same x i k =
      ap (λ y. cond (unwrap_or (slice_get l i) false && is_from x y) (row_by (past_of setup a l) x i (claim_at a i)) None) (says i k)
      ∙ ap (λ y. cond (asks_for (past_of setup b l) x i) y None) (row_by_same x i (claim_at a i) k ∙ ap (row_by (past_of setup b l) x i) (claims i k))

  pub row_same : (x : Peer) → row_at (past_of setup a l) x ≡ row_at (past_of setup b l) x
  unfolding row_at
  row_same x =
      let f : ℕ → Option Known = λ i. cond (asks_for (past_of setup a l) x i) (row_by (past_of setup a l) x i (claim_at a i)) None in
      let g : ℕ → Option Known = λ i. cond (asks_for (past_of setup b l) x i) (row_by (past_of setup b l) x i (claim_at b i)) None in
      ap (option_and_then f) (last_below_same (turns (past_of setup a l) x) (turns (past_of setup b l) x) (length l)
      (λ i k. turns_same setup a b l l x i (says_less a b (length l) (suc i) k says) refl))
      ∙ and_then_same (last_below (turns (past_of setup b l) x) (length l)) f g
      (λ i e. row_if_same x i (last_below_lt (turns (past_of setup b l) x) (length l) i e))

filter_map_same : {A B : Type 0} (f g : A → Option B) (xs : List A) → ((x : A) → f x ≡ g x) → filter_map f xs ≡ filter_map g xs
filter_map_same f g [] h = refl
filter_map_same f g (x ∷ xs) h = ap (λ o. cons_option o (filter_map f xs)) (h x) ∙ ap (cons_option (g x)) (filter_map_same f g xs h)

pub known_same : (setup : Setup) (a b : List Entry) (l : List Bool) → Says a b (length l) → Claims a b (length l) → known_at (past_of setup a l) ≡ known_at (past_of setup b l)
unfolding known_at
known_same setup a b l says claims =
    filter_map_same (row_at (past_of setup a l)) (row_at (past_of setup b l)) (peers_named a (length l)) (row_same setup a b l says claims)
    ∙ ap (filter_map (row_at (past_of setup b l))) (peers_same a b (length l) says)

-- what an entry comes to, by what is kept before it
pub heard_is : (past : Past) → unclaimed_at past ≡ heard_by (here_of past) (moment_before past.entries (now past)) (ends_at past.entries (now past)) (known_at past) (notice_at past.entries (now past))
unfolding unclaimed_at
heard_is past = refl

pub heard_same : (setup : Setup) (a b : List Entry) (l : List Bool) → Says a b (suc (length l)) → Claims a b (length l) → unclaimed_at (past_of setup a l) ≡ unclaimed_at (past_of setup b l)
heard_same setup a b l says claims =
    let n : ℕ = length l in
    let less : Says a b n = says_less a b (suc n) n (omega arith) says in
    let here : ℕ → Here = λ m. record { setup = setup; index = n; moment = m } in
    heard_is (past_of setup a l)
    ∙ ap (λ m. heard_by (here m) (moment_before a n) (ends_at a n) (known_at (past_of setup a l)) (notice_at a n)) (moment_same a b (suc n) says)
    ∙ ap (λ m. heard_by (here (moment_at b n)) m (ends_at a n) (known_at (past_of setup a l)) (notice_at a n)) (moment_same a b n less)
    ∙ ap (λ e. heard_by (here (moment_at b n)) (moment_before b n) e (known_at (past_of setup a l)) (notice_at a n)) (ends_same a b n says)
    ∙ ap (λ k. heard_by (here (moment_at b n)) (moment_before b n) (ends_at b n) k (notice_at a n)) (known_same setup a b l less claims)
    ∙ ap (heard_by (here (moment_at b n)) (moment_before b n) (ends_at b n) (known_at (past_of setup b l))) (says n (omega arith))
    ∙ sym (heard_is (past_of setup b l))

pub length_asked : (setup : Setup) (entries : List Entry) (n : ℕ) → length (asked_before setup entries n) ≡ n
unfolding asked_before
length_asked setup entries zero = refl
length_asked setup entries (suc n) = one_more_is_one_longer (asked_before setup entries n) _ ∙ ap suc (length_asked setup entries n)

pub asked_same : (setup : Setup) (a b : List Entry) (n : ℕ) → Says a b n → Claims a b n → asked_before setup a n ≡ asked_before setup b n
unfolding asked_before
asked_same setup a b zero says claims = refl
asked_same setup a b (suc n) says claims =
    let l : List Bool = asked_before setup a n in
    let len : length l ≡ n = length_asked setup a n in
    let s : Says a b (suc (length l)) = says_less a b (suc n) (suc (length l)) (omega arith) says in
    let c : Claims a b (length l) = claims_less a b (suc n) (length l) (omega arith) claims in
    ap (λ o. l ++ is_asks o.verdict ∷ []) (heard_same setup a b l s c)
    ∙ ap (λ m. m ++ asks_at (past_of setup b m) ∷ []) (asked_same setup a b n (says_less a b (suc n) n (omega arith) says) (claims_less a b (suc n) n (omega arith) claims))

-- the same at a position of both lists
pub known_at_same : (setup : Setup) (a b : List Entry) (n : ℕ) → Says a b n → Claims a b n → known_at (past_at setup a n) ≡ known_at (past_at setup b n)
known_at_same setup a b n says claims =
    let l : List Bool = asked_before setup a n in
    let len : length l ≡ n = length_asked setup a n in
    known_same setup a b l (says_less a b n (length l) (omega arith) says) (claims_less a b n (length l) (omega arith) claims)
    ∙ ap (λ m. known_at (past_of setup b m)) (asked_same setup a b n says claims)

pub heard_at_same : (setup : Setup) (a b : List Entry) (n : ℕ) → Says a b (suc n) → Claims a b n → unclaimed_at (past_at setup a n) ≡ unclaimed_at (past_at setup b n)
heard_at_same setup a b n says claims =
    let l : List Bool = asked_before setup a n in
    let len : length l ≡ n = length_asked setup a n in
    heard_same setup a b l (says_less a b (suc n) (suc (length l)) (omega arith) says) (claims_less a b n (length l) (omega arith) claims)
    ∙ ap (λ m. unclaimed_at (past_of setup b m)) (asked_same setup a b n (says_less a b (suc n) n (omega arith) says) claims)
