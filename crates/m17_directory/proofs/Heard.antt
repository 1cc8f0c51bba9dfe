-- Where an entry is taken in as the code does, the directory stands for the list with it.
use Rattle.std.proofs.Common.{◌≡◌, ℕ, suc, ◌+◌, Bool, true, false, cond, ◌||◌, leb, List, [], ◌∷◌, ◌++◌, length, filter, max, Option, None, Some, refl, ap, sym, ◌∙◌, arith, append-nil}
use Rattle.std.specs.Option.{option_and_then}
use Rattle.std.proofs.lemmas.Bool.{false≢true, lt-leb}
use Rattle.std.proofs.lemmas.Option.{same_Some, none-some}
use Rattle.m17_lists.proofs.Places.{one_more_stands_at_the_end, places_before_stay}
use Rattle.m17_lists.proofs.Lengths.{one_more_is_one_longer}
use Rattle.m17_values.specs.declared.peer.Peer.{Peer}
use Rattle.m17_control.specs.declared.packet.Packet.{Packet}
use Rattle.m17_directory.specs.declared.asked.Asked.{Asked}
use Rattle.m17_directory.specs.declared.dispatch.Dispatch.{Dispatch}
use Rattle.m17_directory.specs.declared.known.Known.{Known}
use Rattle.m17_directory.specs.declared.known.Request.{Request}
use Rattle.m17_directory.specs.declared.verdict.LinkVerdict.{LinkVerdict}
use Rattle.m17_directory.specs.Entries.{Notice, Entry, Setup, notice_of, notice_at, claim_at, moment_of, moment_at, moment_before, is_disc, is_fault, is_end, ends_at}
use Rattle.m17_directory.specs.Known.{Past, now, request_of, known_at}
use Rattle.m17_directory.specs.Outcome.{Here, Outcome, of_other, of_packet}
use Rattle.m17_directory.specs.Routed.{here_of, row_for, unclaimed_at, is_asks, asks_at, asked_before, past_at, others_than, others_at}
use Rattle.m17_directory.specs.StandsFor.{DirectoryKept, StandsFor, IsAsked, IsHeard, faults_before, unclaimed, with_left}
use Rattle.m17_directory.specs.Steps.{Lists, IsComeTo, IsTaken, is_other, rows_by, still_by, said_by, heard_by, known_by, asked_as, asked_by, asks_by}
use Rattle.m17_directory.proofs.Lines.{is_left, known_left, other_left}
use Rattle.m17_directory.proofs.Faults.{ends_is}
use Rattle.m17_directory.proofs.Same.{past_of, moment_more, moment_same, faults_same, known_at_same, heard_is, length_asked}
use Rattle.m17_directory.proofs.Same as same
use Rattle.m17_directory.proofs.Taken.{known_quiet, known_fault, known_packet, no_row_heard, no_row_other}

pub says_before : (entries more : List Entry) → same.Says (entries ++ more) entries (length entries)
says_before entries more = λ i l. ap notice_of (places_before_stay entries more i l)

pub claims_before : (entries more : List Entry) → same.Claims (entries ++ more) entries (length entries)
claims_before entries more = λ i l. ap (option_and_then (λ (entry : Entry). entry.claim)) (places_before_stay entries more i l)

pub notice_end : (entries : List Entry) (entry : Entry) → notice_at (entries ++ entry ∷ []) (length entries) ≡ entry.notice
notice_end entries entry = ap notice_of (one_more_stands_at_the_end entries entry)

pub claim_end : (entries : List Entry) (entry : Entry) → claim_at (entries ++ entry ∷ []) (length entries) ≡ entry.claim
claim_end entries entry = ap (option_and_then (λ (e : Entry). e.claim)) (one_more_stands_at_the_end entries entry)

-- the lists of what is kept
abbrev pub lists_of : DirectoryKept → Lists
lists_of kept = record { known = kept.known; asked = kept.asked; departing = kept.departing }

-- who is known one entry later, as the code has it
known_later : (setup : Setup) (entries : List Entry) (l : List Bool) (notice : Notice) → notice_at entries (length l) ≡ notice → claim_at entries (length l) ≡ None
    → known_at (past_of setup entries (l ++ asks_at (past_of setup entries l) ∷ []))
    ≡ known_by (here_of (past_of setup entries l)) (ends_at entries (length l)) (known_at (past_of setup entries l)) (still_by (here_of (past_of setup entries l)) (known_at (past_of setup entries l)) notice) notice
known_later setup entries l (Notice.Sent from at p) e c = known_packet setup entries l c from at p e
known_later setup entries l (Notice.Garbled from at refusal) e c =
    known_quiet setup entries l c (Notice.Garbled from at refusal) e refl (λ x. refl) (λ x. refl)
    (ends_is entries (length l) ∙ ap (λ y. is_end y || leb 16 (cond (is_fault y) (suc (faults_before entries (length l))) 0)) e ∙ lt-leb 16 0 (omega arith))
known_later setup entries l (Notice.Quiet at) e c =
    known_quiet setup entries l c (Notice.Quiet at) e refl (λ x. refl) (λ x. refl)
    (ends_is entries (length l) ∙ ap (λ y. is_end y || leb 16 (cond (is_fault y) (suc (faults_before entries (length l))) 0)) e ∙ lt-leb 16 0 (omega arith))
known_later setup entries l Notice.Fault e c = known_fault setup entries l c Notice.Fault e refl (λ x. refl) (λ x. refl)
known_later setup entries l Notice.End e c =
    known_fault setup entries l c Notice.End e refl (λ x. refl) (λ x. refl)
    ∙ ap (λ b. cond b [] (known_at (past_of setup entries l)))
    (ends_is entries (length l) ∙ ap (λ y. is_end y || leb 16 (cond (is_fault y) (suc (faults_before entries (length l))) 0)) e)

-- the same at the last position of a list
pub known_last : (setup : Setup) (entries : List Entry) (n : ℕ) (notice : Notice) → notice_at entries n ≡ notice → claim_at entries n ≡ None
    → known_at (past_at setup entries (suc n))
    ≡ known_by (here_of (past_at setup entries n)) (ends_at entries n) (known_at (past_at setup entries n)) (still_by (here_of (past_at setup entries n)) (known_at (past_at setup entries n)) notice) notice
unfolding asked_before
known_last setup entries n notice e c =
    let l : List Bool = asked_before setup entries n in
    let len : length l ≡ n = length_asked setup entries n in
    known_later setup entries l notice (ap (notice_at entries) len ∙ e) (ap (claim_at entries) len ∙ c)
    ∙ ap (λ i. known_by (here_of (past_at setup entries n)) (ends_at entries i) (known_at (past_at setup entries n)) (still_by (here_of (past_at setup entries n)) (known_at (past_at setup entries n)) notice) notice) len

-- what was asked by an entry
record AskedBy (here : Here) (notice : Notice) (asks : Bool) (asked : Asked) : Type 0 where
  does : asks ≡ true
  index : asked.index ≡ here.index
  at : ℕ
  packet : Packet
  says : notice ≡ Notice.Sent asked.peer at packet
  request : request_of packet ≡ Some asked.request

asked_parts : (here : Here) (from : Peer) (at : ℕ) (p : Packet) (o : Option Request) (asks : Bool) (asked : Asked) → request_of p ≡ o → asked_by here from o asks None ≡ Some asked → AskedBy here (Notice.Sent from at p) asks asked
asked_parts here from at p o false asked r e = absurd (none-some asked e)
asked_parts here from at p None true asked r e = absurd (none-some asked e)
asked_parts here from at p (Some request) true asked r e =
    let same : asked_as here from request ≡ asked = same_Some (asked_as here from request) asked e in
    record {
      does = refl;
      index = ap (λ (a : Asked). a.index) (sym same);
      at = at;
      packet = p;
      says = ap (λ (a : Asked). Notice.Sent a.peer at p) same;
      request = r ∙ ap (λ (a : Asked). Some a.request) same;
    }

asked_from : (here : Here) (notice : Notice) (asks : Bool) (asked : Asked) → asks_by here notice asks ≡ Some asked → AskedBy here notice asks asked
asked_from here (Notice.Sent from at p) asks asked e = asked_parts here from at p (request_of p) asks asked refl e
asked_from here (Notice.Garbled from at refusal) asks asked e = absurd (none-some asked e)
asked_from here (Notice.Quiet at) asks asked e = absurd (none-some asked e)
asked_from here Notice.Fault asks asked e = absurd (none-some asked e)
asked_from here Notice.End asks asked e = absurd (none-some asked e)

-- who is known where the entry asks: the others
rows_if_left : (here : Here) (x : Peer) (left rows : List Known) → is_left left ≡ true → rows_by here x left rows ≡ filter (is_other x) rows
rows_if_left here x [] rows e = absurd (false≢true e)
rows_if_left here x (k ∷ left) rows e = refl

-- a packet of another peer changes nobody's row
pub come_to_other : (here : Here) (x : Peer) (p : Packet) (old new : Lists) (before after : List Dispatch) (answer : LinkVerdict)
    → new.known ≡ old.known → new.departing ≡ old.departing → new.asked ≡ asked_by here x (request_of p) (is_asks (of_other here x p).verdict) old.asked
    → after ≡ before ++ (of_other here x p).posts → answer ≡ (of_other here x p).verdict
    → (o : Option Known) → row_for x old.known ≡ None → o ≡ None → IsComeTo here x (request_of p) old new (of_packet here x o p) before after answer
come_to_other here x p old new before after answer known departing asked posts verdict None none e = record {
  verdict = verdict;
  posts = posts;
  known = known ∙ sym (ap (λ left. rows_by here x left old.known) (other_left here x p) ∙ no_row_heard x here.moment old.known none);
  asked = asked;
  departing = departing ∙ sym (ap (with_left old.departing) (other_left here x p) ∙ append-nil old.departing);
}
come_to_other here x p old new before after answer known departing asked posts verdict (Some k) none e = absurd (none-some k (sym e))

none_left : (here : Here) (x : Peer) (p : Packet) → (of_packet here x None p).left ≡ []
none_left here x p = other_left here x p

others_packet : (here : Here) (from : Peer) (p : Packet) (rows : List Known) (o : Option Known) → row_for from rows ≡ o → is_asks (of_packet here from o p).verdict ≡ true → rows_by here from (of_packet here from o p).left rows ≡ filter (is_other from) rows
others_packet here from p rows None e asks =
    ap (λ left. rows_by here from left rows) (none_left here from p)
    ∙ no_row_heard from here.moment rows e
    ∙ sym (no_row_other from rows e)
others_packet here from p rows (Some k) e asks =
    rows_if_left here from (of_packet here from (Some k) p).left rows (known_left here k p ∙ ap (λ b. b || is_disc p) asks)

pub others_by : (here : Here) (ends : Bool) (rows still : List Known) (notice : Notice) → is_asks (said_by here ends rows still notice).verdict ≡ true → known_by here ends rows still notice ≡ others_than notice still
others_by here ends rows still (Notice.Sent from at p) e = others_packet here from p still (row_for from still) refl e
others_by here ends rows still (Notice.Garbled from at refusal) e = absurd (false≢true e)
others_by here ends rows still (Notice.Quiet at) e = absurd (false≢true e)
others_by here true rows still Notice.Fault e = absurd (false≢true e)
others_by here false rows still Notice.Fault e = absurd (false≢true e)
others_by here ends rows still Notice.End e = absurd (false≢true e)

module _ (old new : DirectoryKept) (entries : List Entry) (notice : Notice) (stood : StandsFor old entries)
    (moment : new.moment ≡ max old.moment (moment_of notice)) (faults : new.faults ≡ cond (is_fault notice) (old.faults + 1) 0) where
  abbrev longer : List Entry
  longer = entries ++ unclaimed notice ∷ []

  abbrev n : ℕ
  n = length entries

  abbrev past : Past
  past = past_at old.setup longer n

  abbrev here : Here
  here = record { setup = old.setup; index = n; moment = new.moment }

  abbrev ends : Bool
  ends = is_end notice || leb 16 new.faults

  now_is : now past ≡ n
  now_is = length_asked old.setup longer n

  says_here : notice_at longer n ≡ notice
  says_here = notice_end entries (unclaimed notice)

  before_is : moment_before longer n ≡ old.moment
  before_is = moment_same longer entries n (says_before entries (unclaimed notice ∷ [])) ∙ sym stood.moment

  moment_is : moment_before longer (suc n) ≡ new.moment
  moment_is =
      moment_more longer n
      ∙ ap (λ m. max m (moment_of (notice_at longer n))) before_is
      ∙ ap (λ y. max old.moment (moment_of y)) says_here
      ∙ sym moment

  faults_is : faults_before longer (suc n) ≡ new.faults
  faults_is =
      let one : suc old.faults ≡ old.faults + 1 = omega arith in
      ap (λ y. cond (is_fault y) (suc (faults_before longer n)) 0) says_here
      ∙ ap (λ f. cond (is_fault notice) (suc f) 0) (faults_same longer entries n (says_before entries (unclaimed notice ∷ [])) ∙ sym stood.faults)
      ∙ ap (λ f. cond (is_fault notice) f 0) one
      ∙ sym faults

  ends_now : ends_at longer n ≡ ends
  ends_now = ends_is longer n ∙ ap (λ y. is_end y || leb 16 (faults_before longer (suc n))) says_here ∙ ap (λ f. is_end notice || leb 16 f) faults_is

  known_was : known_at past ≡ old.known
  known_was = known_at_same old.setup longer entries n (says_before entries (unclaimed notice ∷ [])) (claims_before entries (unclaimed notice ∷ [])) ∙ sym stood.known

  here_is : here_of past ≡ here
  here_is =
      ap (λ i. record { setup = old.setup; index = i; moment = moment_at longer i }) now_is
      ∙ ap (λ m. record { setup = old.setup; index = n; moment = m }) moment_is

  heard_now_is : unclaimed_at past ≡ heard_by here old.moment ends old.known notice
  heard_now_is =
      heard_is past
      ∙ ap (λ i. heard_by (here_of past) (moment_before longer i) (ends_at longer i) (known_at past) (notice_at longer i)) now_is
      ∙ ap (λ h. heard_by h (moment_before longer n) (ends_at longer n) (known_at past) (notice_at longer n)) here_is
      ∙ ap (λ m. heard_by here m (ends_at longer n) (known_at past) (notice_at longer n)) before_is
      ∙ ap (λ e. heard_by here old.moment e (known_at past) (notice_at longer n)) ends_now
      ∙ ap (λ k. heard_by here old.moment ends k (notice_at longer n)) known_was
      ∙ ap (heard_by here old.moment ends old.known) says_here

  known_now_is : known_at (past_at old.setup longer (suc n)) ≡ known_by here ends old.known (still_by here old.known notice) notice
  known_now_is =
      known_last old.setup longer n notice says_here (claim_end entries (unclaimed notice))
      ∙ ap (λ h. known_by h (ends_at longer n) (known_at past) (still_by h (known_at past) notice) notice) here_is
      ∙ ap (λ e. known_by here e (known_at past) (still_by here (known_at past) notice) notice) ends_now
      ∙ ap (λ k. known_by here ends k (still_by here k notice) notice) known_was

  others_is : others_at past ≡ others_than notice (still_by here old.known notice)
  unfolding others_at
  others_is =
      ap (λ i. others_than (notice_at longer i) (still_by (here_of past) (known_at past) (notice_at longer i))) now_is
      ∙ ap (λ h. others_than (notice_at longer n) (still_by h (known_at past) (notice_at longer n))) here_is
      ∙ ap (λ k. others_than (notice_at longer n) (still_by here k (notice_at longer n))) known_was
      ∙ ap (λ y. others_than y (still_by here old.known y)) says_here

  module _ (setup : new.setup ≡ old.setup) (posts : List Dispatch) (verdict : LinkVerdict)
      (taken : IsTaken here old.moment ends (lists_of old) (lists_of new) notice posts verdict) where
    asks_now_is : asks_at past ≡ is_asks (heard_by here old.moment ends old.known notice).verdict
    asks_now_is = ap (λ (o : Outcome). is_asks o.verdict) heard_now_is

    asked_now : (asked : Asked) → new.asked ≡ Some asked → IsAsked new.setup longer asked
    asked_now asked e =
        let by = asked_from here notice (is_asks (heard_by here old.moment ends old.known notice).verdict) asked (sym taken.asked ∙ e) in
        record {
          last = ap suc by.index ∙ sym (one_more_is_one_longer entries (unclaimed notice));
          asks = ap (λ i. asks_at (past_at new.setup longer i)) by.index ∙ ap (λ s. asks_at (past_at s longer n)) setup ∙ asks_now_is ∙ by.does;
          no_claim = ap (claim_at longer) by.index ∙ claim_end entries (unclaimed notice);
          at = by.at;
          packet = by.packet;
          says = ap (notice_at longer) by.index ∙ says_here ∙ by.says;
          request = by.request;
        }

    pub hear_stands : IsHeard old new entries notice (record { verdict = verdict; posts = posts })
    hear_stands = record {
      stands = record {
        moment = sym moment_is ∙ ap (moment_before longer) (sym (one_more_is_one_longer entries (unclaimed notice)));
        known = taken.known ∙ sym known_now_is
            ∙ ap (λ s. known_at (past_at s longer (suc n))) (sym setup)
            ∙ ap (λ i. known_at (past_at new.setup longer i)) (sym (one_more_is_one_longer entries (unclaimed notice)));
        asked = asked_now;
        faults = sym faults_is ∙ ap (faults_before longer) (sym (one_more_is_one_longer entries (unclaimed notice)));
      };
      outcome = record {
        verdict = taken.verdict ∙ ap (λ (o : Outcome). o.verdict) (sym heard_now_is);
        posts = taken.posts ∙ ap (λ (o : Outcome). o.posts) (sym heard_now_is);
        departing = taken.departing ∙ ap (λ (o : Outcome). with_left old.departing o.left) (sym heard_now_is);
      };
      others = λ e.
          taken.known
          ∙ others_by here ends old.known (still_by here old.known notice) notice (ap is_asks (sym taken.verdict ∙ e))
          ∙ sym others_is;
    }
