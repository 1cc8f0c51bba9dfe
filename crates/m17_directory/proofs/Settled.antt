-- Where a request is settled as the code does, the directory stands for the list in which its entry has the claim.
use Rattle.std.proofs.Common.{◌≡◌, ℕ, suc, Bool, true, false, cond, not, ◌&&◌, eqb, List, [], ◌∷◌, ◌++◌, length, filter, Option, None, Some, option_map, refl, ap, sym, ◌∙◌, inl, inr, arith}
use Rattle.std.proofs.lemmas.Bool.{cases_eq, eq-eqb, ne_eqb, and_right}
use Rattle.std.proofs.lemmas.Option.{none-some}
use Rattle.m17_lists.proofs.Lengths.{one_more_is_one_longer}
use Rattle.m17_values.specs.declared.peer.Peer.{Peer}
use Rattle.m17_control.specs.declared.packet.Packet.{Packet}
use Rattle.m17_directory.specs.declared.asked.Asked.{Asked}
use Rattle.m17_directory.specs.declared.dispatch.Dispatch.{Dispatch}
use Rattle.m17_directory.specs.declared.known.Known.{Known}
use Rattle.m17_directory.specs.declared.known.Request.{Request}
use Rattle.m17_directory.specs.declared.verdict.LinkVerdict.{LinkVerdict}
use Rattle.m17_directory.specs.Entries.{Notice, Claim, Entry, Setup, notice_at, claim_at, moment_at, moment_before, is_peer, is_from, ends_at}
use Rattle.m17_directory.specs.Known.{Past, asks_for, turns, request_of, request_in, row_at, known_at}
use Rattle.m17_directory.specs.Outcome.{Here, Outcome, has_place, settled}
use Rattle.m17_directory.specs.Routed.{here_of, is_asks, asks_at, asked_before, past_at, others_than, others_at, settled_by, settled_at}
use Rattle.m17_directory.specs.StandsFor.{DirectoryKept, StandsFor, IsAsked, IsSettled, faults_before, unclaimed, claimed, with_left}
use Rattle.m17_directory.specs.Steps.{IsInOrder, IsGiven, row_given, known_after, with_row, still_by, said_by, known_by}
use Rattle.m17_directory.proofs.Peers.{is_peer_same}
use Rattle.m17_directory.proofs.Rows.{if_passes, order_filter, order_put, row_for-filter, row_for-put, same_rows}
use Rattle.m17_directory.proofs.Same.{past_of, moment_same, faults_same, turns_same, row_same, known_at_same, heard_at_same, heard_is, length_asked, asked_same, says_less}
use Rattle.m17_directory.proofs.Same as same
use Rattle.m17_directory.proofs.Later.{hearing, keeps, after, asks_now, stays, goes, comes}
use Rattle.m17_directory.proofs.Named.{known_order, known_look}
use Rattle.m17_directory.proofs.Heard.{says_before, claims_before, notice_end, claim_end, lists_of, known_last, others_by}

-- a row that keeps its place twice, first where no place is given
passes_twice : (p : Known → Bool) (o : Option Known) → if_passes p o ≡ if_passes p (if_passes (λ k. true) o)
passes_twice p None = refl
passes_twice p (Some k) = refl

passes_as : (p q : Known → Bool) (o : Option Known) → ((k : Known) → p k ≡ q k) → if_passes p o ≡ if_passes q o
passes_as p q None h = refl
passes_as p q (Some k) h = ap (λ b. cond b (Some k) None) (h k)

pub eqb_swap : (a b : ℕ) → eqb a b ≡ eqb b a
eqb_swap a b = elim (cases_eq a b) [
  | inl e ↦ eq-eqb a b e ∙ sym (eq-eqb b a (sym e))
  | inr e ↦ ne_eqb a b e ∙ sym (ne_eqb b a (λ f. e (sym f)))
]

-- Two lists that differ in the claim of their last entry.
module _ (setup : Setup) (a b : List Entry) (l : List Bool) (v : Bool) (says : same.Says a b (suc (length l))) (claims : same.Claims a b (length l)) (none : claim_at b (length l) ≡ None) where
  abbrev n : ℕ
  n = length l

  was_same : (x : Peer) → row_at (past_of setup a l) x ≡ row_at (past_of setup b l) x
  was_same x = row_same setup a b l (says_less a b (suc n) n (omega arith) says) claims x

  kept_row : (x : Peer) (turned : Bool) → turned ≡ turns (after setup a l v) x n → asks_for (after setup a l v) x n ≡ false → asks_for (after setup b l v) x n ≡ false
      → row_at (after setup a l v) x ≡ if_passes (keeps (claim_at a n)) (row_at (after setup b l v) x)
  kept_row x true t p q =
      let tb : turns (after setup b l v) x n ≡ true = sym (turns_same setup a b (l ++ v ∷ []) (l ++ v ∷ []) x n says refl) ∙ sym t in
      goes setup a l v x (sym t) p ∙ ap (if_passes (keeps (claim_at a n))) (sym (goes setup b l v x tb q))
  kept_row x false t p q =
      let tb : turns (after setup b l v) x n ≡ false = sym (turns_same setup a b (l ++ v ∷ []) (l ++ v ∷ []) x n says refl) ∙ sym t in
      let late : List Entry → Option Known → Option Known = λ e o. option_map (hearing (is_from x (notice_at e n)) (moment_at e n)) o in
      stays setup a l v x (sym t)
      ∙ ap (λ o. if_passes (keeps (claim_at a n)) (late a o)) (was_same x)
      ∙ ap (λ y. if_passes (keeps (claim_at a n)) (option_map (hearing (is_from x y) (moment_at a n)) (row_at (past_of setup b l) x))) (says n (omega arith))
      ∙ ap (λ m. if_passes (keeps (claim_at a n)) (option_map (hearing (is_from x (notice_at b n)) m) (row_at (past_of setup b l) x))) (moment_same a b (suc n) says)
      ∙ passes_twice (keeps (claim_at a n)) (late b (row_at (past_of setup b l) x))
      ∙ ap (λ c. if_passes (keeps (claim_at a n)) (if_passes (keeps c) (late b (row_at (past_of setup b l) x)))) (sym none)
      ∙ ap (if_passes (keeps (claim_at a n))) (sym (stays setup b l v x tb))

  -- who is known with the claim, by who is known without it
  module _ (from : Peer) (at : ℕ) (p : Packet) (claim : Claim) (request : Request) (does : v ≡ true) (said : notice_at a n ≡ Notice.Sent from at p) (given : claim_at a n ≡ Some claim) (wants : request_of p ≡ Some request) where
    abbrev row : Known
    row = record {
      peer = from;
      member = claim.member;
      letter = request.letter;
      callsign = request.callsign;
      listen = request.listen;
      heard_at = moment_at a n;
    }

    abbrev others : List Known
    others = filter (λ k. not (has_place claim.member.place k)) (known_at (after setup b l v))

    others_order : IsInOrder others
    others_order = order_filter (λ k. not (has_place claim.member.place k)) (known_at (after setup b l v)) (known_order (after setup b l v))

    wanted : (x : Peer) (here : Bool) → here ≡ is_peer x from → row_at (after setup a l v) x ≡ cond here (Some row) (if_passes (λ k. not (has_place claim.member.place k)) (row_at (after setup b l v) x))
    wanted x true e =
        let mine : is_from x (notice_at a n) ≡ true = ap (is_from x) said ∙ sym e in
        comes setup a l v x claim request does mine given (ap request_in said ∙ wants)
        ∙ ap (λ y. Some (record row { peer = y })) (is_peer_same x from (sym e))
    wanted x false e =
        let fa : asks_for (after setup a l v) x n ≡ false = asks_now setup a l v x ∙ ap (λ y. v && is_from x y) said ∙ ap (λ q. v && q) (sym e) ∙ and_right v false refl in
        let fb : asks_for (after setup b l v) x n ≡ false = asks_now setup b l v x ∙ ap (λ y. v && is_from x y) (sym (says n (omega arith)) ∙ said) ∙ ap (λ q. v && q) (sym e) ∙ and_right v false refl in
        kept_row x (turns (after setup a l v) x n) refl fa fb
        ∙ ap (λ c. if_passes (keeps c) (row_at (after setup b l v) x)) given
        ∙ passes_as (keeps (Some claim)) (λ k. not (has_place claim.member.place k)) (row_at (after setup b l v) x) (λ k. ap not (eqb_swap claim.member.place k.member.place))

    pub known_claimed : known_at (after setup a l v) ≡ with_row row others
    known_claimed =
        same_rows (known_at (after setup a l v)) (with_row row others) (known_order (after setup a l v)) (order_put row others others_order)
        (λ x. known_look (after setup a l v) x
        ∙ wanted x (is_peer x from) refl
        ∙ ap (λ o. cond (is_peer x from) (Some row) (if_passes (λ k. not (has_place claim.member.place k)) o)) (sym (known_look (after setup b l v) x))
        ∙ ap (cond (is_peer x from) (Some row)) (sym (row_for-filter (λ k. not (has_place claim.member.place k)) x (known_at (after setup b l v)) (known_order (after setup b l v))))
        ∙ sym (row_for-put x row others))

module _ (old : DirectoryKept) (entries : List Entry) (notice : Notice) (claim : Option Claim) (stood : StandsFor old (entries ++ unclaimed notice ∷ [])) (asked : Asked) (waits : old.asked ≡ Some asked) where
  abbrev plain : List Entry
  plain = entries ++ unclaimed notice ∷ []

  abbrev longer : List Entry
  longer = entries ++ claimed notice claim ∷ []

  abbrev at_end : ℕ
  at_end = length entries

  abbrev here : Here
  here = record { setup = old.setup; index = asked.index; moment = old.moment }

  abbrev past : Past
  past = past_at old.setup longer at_end

  abbrev past' : Past
  past' = past_at old.setup plain at_end

  abbrev parts : IsAsked old.setup plain asked
  parts = stood.asked asked waits

  index_is : asked.index ≡ at_end
  index_is = omega (arith, parts.last, one_more_is_one_longer entries (unclaimed notice))

  notice_is : notice ≡ Notice.Sent asked.peer parts.at parts.packet
  notice_is = sym (notice_end entries (unclaimed notice)) ∙ ap (notice_at plain) (sym index_is) ∙ parts.says

  says_plain : same.Says longer plain (suc at_end)
  says_plain = λ i k. elim (cases_eq i at_end) [
    | inl e ↦ ap (notice_at longer) e ∙ notice_end entries (claimed notice claim) ∙ sym (notice_end entries (unclaimed notice)) ∙ ap (notice_at plain) (sym e)
    | inr e ↦ says_before entries (claimed notice claim ∷ []) i (omega arith) ∙ sym (says_before entries (unclaimed notice ∷ []) i (omega arith))
  ]

  claims_plain : same.Claims longer plain at_end
  claims_plain = λ i k. claims_before entries (claimed notice claim ∷ []) i k ∙ sym (claims_before entries (unclaimed notice ∷ []) i k)

  moment_plain : moment_before plain (suc at_end) ≡ old.moment
  moment_plain = ap (moment_before plain) (sym (one_more_is_one_longer entries (unclaimed notice))) ∙ sym stood.moment

  moment_longer : moment_before longer (suc at_end) ≡ old.moment
  moment_longer = moment_same longer plain (suc at_end) says_plain ∙ moment_plain

  faults_longer : faults_before longer (length longer) ≡ old.faults
  faults_longer =
      ap (faults_before longer) (one_more_is_one_longer entries (claimed notice claim))
      ∙ faults_same longer plain (suc at_end) says_plain
      ∙ ap (faults_before plain) (sym (one_more_is_one_longer entries (unclaimed notice)))
      ∙ sym stood.faults

  known_plain : known_at (past_at old.setup plain (suc at_end)) ≡ old.known
  known_plain = ap (λ i. known_at (past_at old.setup plain i)) (sym (one_more_is_one_longer entries (unclaimed notice))) ∙ sym stood.known

  asks_plain : asks_at past' ≡ true
  asks_plain = ap (λ i. asks_at (past_at old.setup plain i)) (sym index_is) ∙ parts.asks

  asks_longer : asks_at past ≡ true
  asks_longer = ap (λ (o : Outcome). is_asks o.verdict) (heard_at_same old.setup longer plain at_end says_plain claims_plain) ∙ asks_plain

  here_by : (list : List Entry) → moment_before list (suc at_end) ≡ old.moment → here_of (past_at old.setup list at_end) ≡ here
  here_by list e =
      ap (λ i. record { setup = old.setup; index = i; moment = moment_at list i }) (length_asked old.setup list at_end)
      ∙ ap (λ m. record { setup = old.setup; index = at_end; moment = m }) e
      ∙ ap (λ i. record { setup = old.setup; index = i; moment = old.moment }) (sym index_is)

  -- the others, by the list without the claim
  said_asks : is_asks (said_by here (ends_at plain at_end) (known_at past') (still_by here (known_at past') notice) notice).verdict ≡ true
  said_asks =
      ap (λ h. is_asks (said_by h (ends_at plain at_end) (known_at past') (still_by h (known_at past') notice) notice).verdict) (sym (here_by plain moment_plain))
      ∙ ap (λ y. is_asks (said_by (here_of past') (ends_at plain at_end) (known_at past') (still_by (here_of past') (known_at past') y) y).verdict) (sym (notice_end entries (unclaimed notice)))
      ∙ ap (λ i. is_asks (said_by (here_of past') (ends_at plain i) (known_at past') (still_by (here_of past') (known_at past') (notice_at plain i)) (notice_at plain i)).verdict) (sym (length_asked old.setup plain at_end))
      ∙ ap (λ (o : Outcome). is_asks o.verdict) (sym (heard_is past'))
      ∙ asks_plain

  others_plain : old.known ≡ others_than notice (still_by here (known_at past') notice)
  others_plain =
      sym known_plain
      ∙ known_last old.setup plain at_end notice (notice_end entries (unclaimed notice)) (claim_end entries (unclaimed notice))
      ∙ ap (λ h. known_by h (ends_at plain at_end) (known_at past') (still_by h (known_at past') notice) notice) (here_by plain moment_plain)
      ∙ others_by here (ends_at plain at_end) (known_at past') (still_by here (known_at past') notice) notice said_asks

  others_now : others_at past ≡ old.known
  unfolding others_at
  others_now =
      ap (λ i. others_than (notice_at longer i) (still_by (here_of past) (known_at past) (notice_at longer i))) (length_asked old.setup longer at_end)
      ∙ ap (λ y. others_than y (still_by (here_of past) (known_at past) y)) (notice_end entries (claimed notice claim))
      ∙ ap (λ h. others_than notice (still_by h (known_at past) notice)) (here_by longer moment_longer)
      ∙ ap (λ k. others_than notice (still_by here k notice)) (known_at_same old.setup longer plain at_end (says_less longer plain (suc at_end) at_end (omega arith) says_plain) claims_plain)
      ∙ sym others_plain

  settled_now : settled_at past claim ≡ settled here old.known asked.peer asked.request claim
  unfolding settled_at
  settled_now =
      ap (λ i. settled_by past claim (notice_at longer i) (request_in (notice_at longer i))) (length_asked old.setup longer at_end)
      ∙ ap (λ y. settled_by past claim y (request_in y)) (notice_end entries (claimed notice claim) ∙ notice_is)
      ∙ ap (settled_by past claim (Notice.Sent asked.peer parts.at parts.packet)) parts.request
      ∙ ap (λ h. settled h (others_at past) asked.peer asked.request claim) (here_by longer moment_longer)
      ∙ ap (λ k. settled here k asked.peer asked.request claim) others_now

  -- who is known with a claim
  known_with : (c : Claim) → claim ≡ Some c → known_at (past_at old.setup longer (suc at_end)) ≡ known_after here asked (Some c) old.known
  unfolding asked_before
  known_with c e =
      let l : List Bool = asked_before old.setup longer at_end in
      let len : length l ≡ at_end = length_asked old.setup longer at_end in
      let v : Bool = asks_at past in
      let less : same.Says longer plain at_end = says_less longer plain (suc at_end) at_end (omega arith) says_plain in
      let alike : same.Says longer plain (suc (length l)) = says_less longer plain (suc at_end) (suc (length l)) (omega arith) says_plain in
      let claims : same.Claims longer plain (length l) = λ i k. claims_plain i (omega arith) in
      let none : claim_at plain (length l) ≡ None = ap (claim_at plain) len ∙ claim_end entries (unclaimed notice) in
      let said : notice_at longer (length l) ≡ Notice.Sent asked.peer parts.at parts.packet = ap (notice_at longer) len ∙ notice_end entries (claimed notice claim) ∙ notice_is in
      let given : claim_at longer (length l) ≡ Some c = ap (claim_at longer) len ∙ claim_end entries (claimed notice claim) ∙ e in
      let moment : moment_at longer (length l) ≡ old.moment = ap (moment_at longer) len ∙ moment_longer in
      let plain_after : known_at (after old.setup plain l v) ≡ old.known =
      ap (λ m. known_at (after old.setup plain m v)) (asked_same old.setup longer plain at_end less claims_plain)
      ∙ ap (λ w. known_at (after old.setup plain (asked_before old.setup plain at_end) w)) (asks_longer ∙ sym asks_plain)
      ∙ known_plain in
      known_claimed old.setup longer plain l v alike claims none asked.peer parts.at parts.packet c asked.request asks_longer said given parts.request
      ∙ ap (λ m. with_row (record {
        peer = asked.peer;
        member = c.member;
        letter = asked.request.letter;
        callsign = asked.request.callsign;
        listen = asked.request.listen;
        heard_at = m;
      }) (filter (λ k. not (has_place c.member.place k)) (known_at (after old.setup plain l v)))) moment
      ∙ ap (λ ks. with_row (row_given here asked c) (filter (λ k. not (has_place c.member.place k)) ks)) plain_after

pub known_settled : (old : DirectoryKept) (entries : List Entry) (notice : Notice) (claim : Option Claim) (stood : StandsFor old (entries ++ unclaimed notice ∷ [])) (asked : Asked) → old.asked ≡ Some asked
    → known_at (past_at old.setup (entries ++ claimed notice claim ∷ []) (suc (length entries))) ≡ known_after (record { setup = old.setup; index = asked.index; moment = old.moment }) asked claim old.known
known_settled old entries notice None stood asked waits = known_plain old entries notice None stood asked waits
known_settled old entries notice (Some c) stood asked waits = known_with old entries notice (Some c) stood asked waits c refl

-- the directory stands for the list with the claim
pub settle_stands : (old new : DirectoryKept) (entries : List Entry) (notice : Notice) (claim : Option Claim) (posts : List Dispatch) (verdict : LinkVerdict) (asked : Asked)
    → StandsFor old (entries ++ unclaimed notice ∷ []) → old.asked ≡ Some asked
    → new.setup ≡ old.setup → new.moment ≡ old.moment → new.faults ≡ old.faults
    → IsGiven (record { setup = old.setup; index = asked.index; moment = old.moment }) asked claim (lists_of old) (lists_of new) posts verdict
    → IsSettled old new entries (claimed notice claim) (record { verdict = verdict; posts = posts })
settle_stands old new entries notice claim posts verdict asked stood waits setup moment faults given =
    let longer : List Entry = entries ++ claimed notice claim ∷ [] in
    let len : length longer ≡ suc (length entries) = one_more_is_one_longer entries (claimed notice claim) in
    let out : settled_at (past_at old.setup longer (length entries)) claim ≡ settled (record { setup = old.setup; index = asked.index; moment = old.moment }) old.known asked.peer asked.request claim =
    settled_now old entries notice claim stood asked waits in
    record {
      stands = record {
        moment = moment ∙ sym (moment_longer old entries notice claim stood asked waits) ∙ ap (moment_before longer) (sym len);
        known = given.known
            ∙ sym (known_settled old entries notice claim stood asked waits)
            ∙ ap (λ s. known_at (past_at s longer (suc (length entries)))) (sym setup)
            ∙ ap (λ i. known_at (past_at new.setup longer i)) (sym len);
        asked = λ other e. absurd (none-some other (sym given.asked ∙ e));
        faults = faults ∙ sym (faults_longer old entries notice claim stood asked waits);
      };
      outcome = record {
        verdict = given.verdict ∙ ap (λ (o : Outcome). o.verdict) (sym out);
        posts = given.posts ∙ ap (λ (o : Outcome). o.posts) (sym out);
        departing = given.departing ∙ ap (λ (o : Outcome). with_left old.departing o.left) (sym out);
      };
    }
