-- Two lists that say the same, each with claims given freely: position by position the same, but for the members.
use Rattle.std.proofs.Common.{◌≡◌, ◌⊎◌, ℕ, zero, suc, ◌+◌, ◌<◌, ◌≤◌, ◌==◌, ◌&&◌, Bool, true, false, not, cond, List, [], ◌∷◌, length, slice_get, nat_lt, eqb, option_map, MatchBool, Option, None, Some, inl, inr, refl, ap, sym, subst, ◌∙◌, arith}
use Rattle.std.specs.List.{AllZip, filter, list_any, flat_map, range_with_len}
use Rattle.std.proofs.lemmas.Bool.{cases_eq, and_from, eq-eqb, cond-true, cond-false, or_left, or_parts, or_right}
use Rattle.std.proofs.lemmas.List.{length-map}
use Rattle.std.proofs.lemmas.Option.{slice_get-map}
use Rattle.m17_values.specs.declared.member.Member.{Member}
use Rattle.m17_values.specs.declared.peer.Peer.{Peer}
use Rattle.m17_control.specs.declared.event.Event.{Event}
use Rattle.m17_control.specs.declared.packet.Control.{Control}
use Rattle.m17_control.specs.declared.packet.Packet.{Packet}
use Rattle.m17_control.specs.Renamed.{IsRenamedEvent, AreRenamedEvents}
use Rattle.m17_directory.specs.declared.dispatch.Dispatch.{Dispatch}
use Rattle.m17_directory.specs.declared.dispatch.Dispatch.TheVariants.{ToModule, ToDoor}
use Rattle.m17_directory.specs.declared.known.Known.{Known}
use Rattle.m17_directory.specs.declared.known.Request.{Request}
use Rattle.m17_directory.specs.Entries.{Notice, Claim, Entry, Setup, notice_of, notice_at, claim_at, moment_before, moment_at, is_peer, ends_at, peers_named}
use Rattle.m17_directory.specs.Known.{Past, now, request_of, request_in, known_at}
use Rattle.m17_directory.specs.Given.{IsOfFreePlace, SayTheSame, gives, stands_for}
use Rattle.m17_directory.specs.Outcome.{Here, Outcome, has_place, settled}
use Rattle.m17_directory.specs.Routed.{here_of, unclaimed_at, others_than, others_at, settled_by, settled_at, is_asks, asks_at, both, asked_before, past_at, outcome_at, link_verdict, posts_at, posted, event_for, reply_for, routed, direct_replies}
use Rattle.m17_directory.specs.Laws.{AreGivenOtherwise, PlacesChangeNoVerdict}
use Rattle.m17_directory.specs.Steps.{still_by, heard_by, known_by}
use Rattle.m17_directory.proofs.Same.{moment_same, ends_same, heard_is, length_asked}
use Rattle.m17_directory.proofs.LawMore.{others_is}
use Rattle.m17_directory.proofs.LawWho.{AsksFor, asks_one, known_next, row, staying, known_claim}
use Rattle.m17_directory.proofs.Zips.{zip_length, zip_flat, zip_filter_map, zip_equal, BothOr}
use Rattle.m17_directory.proofs.Renamed.{Row, Rows, Post, Same, heard_same, still_same, others_same, known_same, put_same, none_settled, some_settled, both_same}

-- they say the same at each position
notice_get : (o : Option Entry) (u : Option Entry) → option_map (λ (entry : Entry). entry.notice) o ≡ option_map (λ (entry : Entry). entry.notice) u → notice_of o ≡ notice_of u
notice_get None None e = refl
notice_get (Some a) (Some b) e = cc
notice_get None (Some b) e = absurd (cc)
notice_get (Some a) None e = absurd (cc)

pub say_at : (entries others : List Entry) → SayTheSame entries others → (i : ℕ) → notice_at entries i ≡ notice_at others i
say_at entries others same i =
    notice_get (slice_get entries i) (slice_get others i)
    (sym (slice_get-map (λ (entry : Entry). entry.notice) entries i) ∙ ap (λ (xs : List Notice). slice_get xs i) same ∙ slice_get-map (λ (entry : Entry). entry.notice) others i)

pub as_many : (entries others : List Entry) → SayTheSame entries others → length entries ≡ length others
as_many entries others same =
    sym (length-map entries (λ (entry : Entry). entry.notice)) ∙ ap length same ∙ length-map others (λ (entry : Entry). entry.notice)

-- nobody has the place
pub none_has : (p : Known → Bool) (rows : List Known) → list_any p rows ≡ false → filter p rows ≡ []
none_has p [] e = refl
none_has p (k ∷ rows) e =
    let parts = or_parts (p k) (list_any p rows) e in
    cond-false (p k) _ _ parts.0 ∙ none_has p rows parts.1

all_stay : (p : Known → Bool) (rows : List Known) → list_any p rows ≡ false → filter (λ k. not (p k)) rows ≡ rows
all_stay p [] e = refl
all_stay p (k ∷ rows) e =
    let parts = or_parts (p k) (list_any p rows) e in
    cond-true (not (p k)) _ _ (ap not parts.0) ∙ ap (λ xs. k ∷ xs) (all_stay p rows parts.1)

-- a test that some number below passes
any_from : (p : ℕ → Bool) (from n i : ℕ) → from ≤ i → i < from + n → p i ≡ true → list_any p (range_with_len from n) ≡ true
any_from p from zero i a b h = absurd (omega arith)
any_from p from (suc n) i a b h = elim (cases_eq from i) [
  | inl here ↦ or_left (p from) (list_any p (range_with_len (from + 1) n)) (ap p here ∙ h)
  | inr other ↦ or_right (p from) (list_any p (range_with_len (from + 1) n)) (any_from p (from + 1) n i (omega arith) (omega arith) h)
]

gives_it : (k : Member) (o : Option Claim) (c : Claim) → o ≡ Some c → k ≡ c.member → gives k o ≡ true
gives_it k o c e same =
    ap (gives k) e ∙ and_from (c.member.place == k.place) (c.member.generation == k.generation)
    (eq-eqb c.member.place k.place (ap (λ (m : Member). m.place) (sym same)))
    (eq-eqb c.member.generation k.generation (ap (λ (m : Member). m.generation) (sym same)))

pub given_stands : (entries others : List Entry) (n : ℕ) (c d : Claim) → n < length entries → claim_at entries n ≡ Some c → claim_at others n ≡ Some d → stands_for entries others c.member d.member ≡ true
unfolding stands_for
given_stands entries others n c d l e f =
    any_from (λ i. gives c.member (claim_at entries i) && gives d.member (claim_at others i)) 0 (length entries) n (omega arith) (omega arith)
    (and_from (gives c.member (claim_at entries n)) (gives d.member (claim_at others n)) (gives_it c.member (claim_at entries n) c e refl) (gives_it d.member (claim_at others n) d f refl))

-- what a position is seen as
heard_view : (h h' : Here) (b b' : ℕ) (e e' : Bool) (rows : List Known) (y y' : Notice) → h ≡ h' → b ≡ b' → e ≡ e' → y ≡ y' → heard_by h b e rows y ≡ heard_by h' b' e' rows y'
heard_view h h' b b' e e' rows y y' p q r s =
    ap (λ x. heard_by x b e rows y) p ∙ ap (λ x. heard_by h' x e rows y) q ∙ ap (λ x. heard_by h' b' x rows y) r ∙ ap (heard_by h' b' e' rows) s

known_view : (h h' : Here) (e e' : Bool) (rows : List Known) (y y' : Notice) → h ≡ h' → e ≡ e' → y ≡ y' → known_by h e rows (still_by h rows y) y ≡ known_by h' e' rows (still_by h' rows y') y'
known_view h h' e e' rows y y' p r s =
    ap (λ x. known_by x e rows (still_by x rows y) y) p ∙ ap (λ x. known_by h' x rows (still_by h' rows y) y) r ∙ ap (λ x. known_by h' e' rows (still_by h' rows x) x) s

others_view : (h h' : Here) (rows : List Known) (y y' : Notice) → h ≡ h' → y ≡ y' → others_than y (still_by h rows y) ≡ others_than y' (still_by h' rows y')
others_view h h' rows y y' p s = ap (λ x. others_than y (still_by x rows y)) p ∙ ap (λ x. others_than x (still_by h' rows x)) s

pub settled_view : (past : Past) (claim : Option Claim) (from : Peer) (at : ℕ) (p : Packet) (request : Request) → notice_at past.entries (now past) ≡ Notice.Sent from at p → request_of p ≡ Some request → settled_at past claim ≡ settled (here_of past) (others_at past) from request claim
unfolding settled_at
settled_view past claim from at p request says wants =
    ap (λ y. settled_by past claim y (request_in y)) says ∙ ap (settled_by past claim (Notice.Sent from at p)) wants

rows_from : (stands : Member → Member → Bool) (ks us rs vs : List Known) → ks ≡ us → rs ≡ vs → Rows stands us vs → Rows stands ks rs
rows_from stands ks us rs vs e f h = rw (e, f) h

same_from : (stands : Member → Member → Bool) (o o' u u' : Outcome) → o ≡ o' → u ≡ u' → Same stands o' u' → Same stands o u
same_from stands o o' u u' e f h = rw (e, f) h

event_if : (R : Event → Event → Type 0) (b c : Bool) (event other : Event) → b ≡ c → R event other → BothOr R (cond b (Some event) None) (cond c (Some other) None)
event_if R true true event other e h = h
event_if R false false event other e h = tt
event_if R true false event other e h = absurd (cc)
event_if R false true event other e h = absurd (cc)

reply_itself : (b : Bool) (reply : Control) → BothOr (λ (c : Control) (k : Control). c ≡ k) (cond b (Some reply) None) (cond b (Some reply) None)
reply_itself true reply = refl
reply_itself false reply = tt

module _ (setup : Setup) (a b : List Entry) (given : AreGivenOtherwise setup a b) where
  abbrev stands : Member → Member → Bool
  stands = stands_for a b

  says : (i : ℕ) → notice_at a i ≡ notice_at b i
  says = say_at a b given.same

  len : length a ≡ length b
  len = as_many a b given.same

  abbrev pa : ℕ → Past
  pa n = past_at setup a n

  abbrev pb : ℕ → Past
  pb n = past_at setup b n

  now_a : (n : ℕ) → now (pa n) ≡ n
  now_a n = length_asked setup a n

  now_b : (n : ℕ) → now (pb n) ≡ n
  now_b n = length_asked setup b n

  now_same : (n : ℕ) → now (pa n) ≡ now (pb n)
  now_same n = now_a n ∙ sym (now_b n)

  notice_same : (n : ℕ) → notice_at a (now (pa n)) ≡ notice_at b (now (pb n))
  notice_same n = ap (notice_at a) (now_same n) ∙ says (now (pb n))

  moment_before_same : (n : ℕ) → moment_before a (now (pa n)) ≡ moment_before b (now (pb n))
  moment_before_same n = ap (moment_before a) (now_same n) ∙ moment_same a b (now (pb n)) (λ i l. says i)

  ends_at_same : (n : ℕ) → ends_at a (now (pa n)) ≡ ends_at b (now (pb n))
  ends_at_same n = ap (ends_at a) (now_same n) ∙ ends_same a b (now (pb n)) (λ i l. says i)

  here_same : (n : ℕ) → here_of (pa n) ≡ here_of (pb n)
  here_same n =
      ap (λ m. record { setup = setup; index = m; moment = moment_at a m }) (now_same n)
      ∙ ap (λ m. record { setup = setup; index = now (pb n); moment = m }) (moment_same a b (suc (now (pb n))) (λ i l. says i))

  -- where the same are known before a position
  module _ (n : ℕ) (known : Rows stands (known_at (pa n)) (known_at (pb n))) where
    heard : Same stands (unclaimed_at (pa n)) (unclaimed_at (pb n))
    heard =
        let there = heard_view (here_of (pa n)) (here_of (pb n)) (moment_before a (now (pa n))) (moment_before b (now (pb n))) (ends_at a (now (pa n))) (ends_at b (now (pb n))) (known_at (pb n)) (notice_at a (now (pa n))) (notice_at b (now (pb n)))
        (here_same n) (moment_before_same n) (ends_at_same n) (notice_same n) ∙ sym (heard_is (pb n)) in
        subst (λ (o : Outcome). Same stands (unclaimed_at (pa n)) o) there
        (subst (λ (o : Outcome). Same stands o (heard_by (here_of (pa n)) (moment_before a (now (pa n))) (ends_at a (now (pa n))) (known_at (pb n)) (notice_at a (now (pa n))))) (sym (heard_is (pa n)))
        (heard_same stands (here_of (pa n)) (moment_before a (now (pa n))) (ends_at a (now (pa n))) (known_at (pa n)) (known_at (pb n)) (notice_at a (now (pa n))) known))

    asks_same : asks_at (pa n) ≡ asks_at (pb n)
    asks_same = ap is_asks heard.verdict

    others : Rows stands (others_at (pa n)) (others_at (pb n))
    others =
        let there = others_view (here_of (pa n)) (here_of (pb n)) (known_at (pb n)) (notice_at a (now (pa n))) (notice_at b (now (pb n))) (here_same n) (notice_same n) ∙ sym (others_is (pb n)) in
        subst (λ (ks : List Known). Rows stands (others_at (pa n)) ks) there
        (subst (λ (ks : List Known). Rows stands ks (others_than (notice_at a (now (pa n))) (still_by (here_of (pa n)) (known_at (pb n)) (notice_at a (now (pa n)))))) (sym (others_is (pa n)))
        (others_same stands (notice_at a (now (pa n))) _ _ (still_same stands (here_of (pa n)) (known_at (pa n)) (known_at (pb n)) (notice_at a (now (pa n))) known)))

    -- both have a claim
    record Pair : Type 0 where
      one : Claim
      other : Claim
      is_one : claim_at a n ≡ Some one
      is_other : claim_at b n ≡ Some other
      free_one : list_any (has_place one.member.place) (others_at (pa n)) ≡ false
      free_other : list_any (has_place other.member.place) (others_at (pb n)) ≡ false
      asks : asks_at (pa n) ≡ true
      stand : stands one.member other.member ≡ true

    and_first : (x y : Bool) → (x && y) ≡ true → x ≡ true
    and_first true y e = refl
    and_first false y e = e

    pair_by : (u : Bool) → u ≡ (asks_at (pa n) && nat_lt (length (others_at (pa n))) setup.places) → n < length a
        → MatchBool u (IsOfFreePlace setup.places (others_at (pa n)) (claim_at a n)) (claim_at a n ≡ None)
        → MatchBool u (IsOfFreePlace setup.places (others_at (pb n)) (claim_at b n)) (claim_at b n ≡ None)
        → ((claim_at a n ≡ None) × (claim_at b n ≡ None)) ⊎ Pair
    pair_by true is l f g = inr (record {
      one = f.it;
      other = g.it;
      is_one = f.is_it;
      is_other = g.is_it;
      free_one = f.free;
      free_other = g.free;
      asks = and_first (asks_at (pa n)) (nat_lt (length (others_at (pa n))) setup.places) (sym is);
      stand = given_stands a b n f.it g.it l f.is_it g.is_it;
    })
    pair_by false is l f g = inl (f, g)

    pair : n < length a → ((claim_at a n ≡ None) × (claim_at b n ≡ None)) ⊎ Pair
    pair l =
        let count : length (others_at (pa n)) ≡ length (others_at (pb n)) = zip_length (Row stands) (others_at (pa n)) (others_at (pb n)) others in
        let test : (asks_at (pb n) && nat_lt (length (others_at (pb n))) setup.places) ≡ (asks_at (pa n) && nat_lt (length (others_at (pa n))) setup.places) =
        ap (λ x. x && nat_lt (length (others_at (pb n))) setup.places) (sym asks_same) ∙ ap (λ m. asks_at (pa n) && nat_lt m setup.places) (sym count) in
        pair_by (asks_at (pa n) && nat_lt (length (others_at (pa n))) setup.places) refl l (given.first.each n l)
        (subst (λ (u : Bool). MatchBool u (IsOfFreePlace setup.places (others_at (pb n)) (claim_at b n)) (claim_at b n ≡ None)) test (given.second.each n (omega (arith, len))))

    -- who is known behind it
    known_none : claim_at a n ≡ None → claim_at b n ≡ None → Rows stands (known_at (pa (suc n))) (known_at (pb (suc n)))
    known_none e f =
        let there = known_view (here_of (pa n)) (here_of (pb n)) (ends_at a (now (pa n))) (ends_at b (now (pb n))) (known_at (pb n)) (notice_at a (now (pa n))) (notice_at b (now (pb n))) (here_same n) (ends_at_same n) (notice_same n) ∙ sym (known_next setup b n f) in
        subst (λ (ks : List Known). Rows stands (known_at (pa (suc n))) ks) there
        (subst (λ (ks : List Known). Rows stands ks (known_by (here_of (pa n)) (ends_at a (now (pa n))) (known_at (pb n)) (still_by (here_of (pa n)) (known_at (pb n)) (notice_at a (now (pa n)))) (notice_at a (now (pa n))))) (sym (known_next setup a n e))
        (known_same stands (here_of (pa n)) (ends_at a (now (pa n))) (known_at (pa n)) (known_at (pb n)) _ _ (notice_at a (now (pa n))) known
        (still_same stands (here_of (pa n)) (known_at (pa n)) (known_at (pb n)) (notice_at a (now (pa n))) known)))

    known_pair : n < length a → Pair → Rows stands (known_at (pa (suc n))) (known_at (pb (suc n)))
    known_pair l pair =
        let l' : n < length b = omega (arith, len) in
        let asks_b : asks_at (pb n) ≡ true = sym asks_same ∙ pair.asks in
        let one_a : AsksFor (notice_at a (now (pa n))) = asks_one (pa n) pair.asks in
        let one_b : AsksFor (notice_at b (now (pb n))) = asks_one (pb n) asks_b in
        let said : Notice.Sent one_a.from one_a.at one_a.packet ≡ Notice.Sent one_b.from one_b.at one_b.packet = sym one_a.says ∙ notice_same n ∙ one_b.says in
        let from : one_a.from ≡ one_b.from = cc in
        let packet : one_a.packet ≡ one_b.packet = cc in
        let wants : Some one_a.request ≡ Some one_b.request = sym one_a.wants ∙ ap request_of packet ∙ one_b.wants in
        let request : one_a.request ≡ one_b.request = cc in
        let moment : moment_at a (now (pa n)) ≡ moment_at b (now (pb n)) = ap (moment_at a) (now_same n) ∙ moment_same a b (suc (now (pb n))) (λ i k. says i) in
        let make : Peer → Request → ℕ → Known = λ x r m. record {
          peer = x;
          member = pair.other.member;
          letter = r.letter;
          callsign = r.callsign;
          listen = r.listen;
          heard_at = m;
        } in
        let rows : Row stands (row setup a n l pair.asks pair.one pair.is_one) (row setup b n l' asks_b pair.other pair.is_other) = record {
          member = pair.stand;
          rest =
              ap (λ x. make x one_a.request (moment_at a (now (pa n)))) from
              ∙ ap (λ r. make one_b.from r (moment_at a (now (pa n)))) request
              ∙ ap (make one_b.from one_b.request) moment;
        } in
        let stay_a : staying setup a n l pair.asks pair.one pair.is_one ≡ others_at (pa n) = all_stay (has_place pair.one.member.place) (others_at (pa n)) pair.free_one in
        let stay_b : staying setup b n l' asks_b pair.other pair.is_other ≡ others_at (pb n) = all_stay (has_place pair.other.member.place) (others_at (pb n)) pair.free_other in
        rows_from stands _ _ _ _ (known_claim setup a n l pair.asks pair.one pair.is_one) (known_claim setup b n l' asks_b pair.other pair.is_other)
        (put_same stands _ _ _ _ rows (rows_from stands _ _ _ _ stay_a stay_b others))

    -- what it comes to
    settled_pair : Pair → Same stands (settled_at (pa n) (claim_at a n)) (settled_at (pb n) (claim_at b n))
    settled_pair pair =
        let one : AsksFor (notice_at a (now (pa n))) = asks_one (pa n) pair.asks in
        let view_a = ap (settled_at (pa n)) pair.is_one ∙ settled_view (pa n) (Some pair.one) one.from one.at one.packet one.request one.says one.wants in
        let view_b = ap (settled_at (pb n)) pair.is_other ∙ settled_view (pb n) (Some pair.other) one.from one.at one.packet one.request (sym (notice_same n) ∙ one.says) one.wants
        ∙ ap (λ h. settled h (others_at (pb n)) one.from one.request (Some pair.other)) (sym (here_same n)) in
        same_from stands _ _ _ _ view_a view_b
        (some_settled stands (here_of (pa n)) (others_at (pa n)) (others_at (pb n)) one.from one.request pair.one pair.other (none_has (has_place pair.one.member.place) (others_at (pa n)) pair.free_one) (none_has (has_place pair.other.member.place) (others_at (pb n)) pair.free_other) pair.stand)

    settled_none : asks_at (pa n) ≡ true → claim_at a n ≡ None → claim_at b n ≡ None → Same stands (settled_at (pa n) (claim_at a n)) (settled_at (pb n) (claim_at b n))
    settled_none asks e f =
        let one : AsksFor (notice_at a (now (pa n))) = asks_one (pa n) asks in
        let view_a = ap (settled_at (pa n)) e ∙ settled_view (pa n) None one.from one.at one.packet one.request one.says one.wants in
        let view_b = ap (settled_at (pb n)) f ∙ settled_view (pb n) None one.from one.at one.packet one.request (sym (notice_same n) ∙ one.says) one.wants
        ∙ ap (λ h. settled h (others_at (pb n)) one.from one.request None) (sym (here_same n)) in
        same_from stands _ _ _ _ view_a view_b (none_settled stands (here_of (pa n)) (others_at (pa n)) (others_at (pb n)) one.from one.request)

    settled_same : n < length a → asks_at (pa n) ≡ true → Same stands (settled_at (pa n) (claim_at a n)) (settled_at (pb n) (claim_at b n))
    settled_same l asks = elim (pair l) [
      | inl none ↦ settled_none asks none.0 none.1
      | inr two ↦ settled_pair two
    ]

    outcome_by : (u : Bool) → asks_at (pa n) ≡ u → n < length a → Same stands (cond u (both (unclaimed_at (pa n)) (settled_at (pa n) (claim_at a n))) (unclaimed_at (pa n))) (cond u (both (unclaimed_at (pb n)) (settled_at (pb n) (claim_at b n))) (unclaimed_at (pb n)))
    outcome_by true e l = both_same stands (unclaimed_at (pa n)) (unclaimed_at (pb n)) (settled_at (pa n) (claim_at a n)) (settled_at (pb n) (claim_at b n)) heard (settled_same l e)
    outcome_by false e l = heard

    outcome : n < length a → Same stands (outcome_at setup a n) (outcome_at setup b n)
    outcome l =
        let view_a : outcome_at setup a n ≡ cond (asks_at (pa n)) (both (unclaimed_at (pa n)) (settled_at (pa n) (claim_at a n))) (unclaimed_at (pa n)) =
        ap (λ m. cond (asks_at (pa n)) (both (unclaimed_at (pa n)) (settled_at (pa n) (claim_at a m))) (unclaimed_at (pa n))) (now_a n) in
        let view_b : outcome_at setup b n ≡ cond (asks_at (pa n)) (both (unclaimed_at (pb n)) (settled_at (pb n) (claim_at b n))) (unclaimed_at (pb n)) =
        ap (λ m. cond (asks_at (pb n)) (both (unclaimed_at (pb n)) (settled_at (pb n) (claim_at b m))) (unclaimed_at (pb n))) (now_b n)
        ∙ ap (λ u. cond u (both (unclaimed_at (pb n)) (settled_at (pb n) (claim_at b n))) (unclaimed_at (pb n))) (sym asks_same) in
        same_from stands _ _ _ _ view_a view_b (outcome_by (asks_at (pa n)) refl l)

    next : n < length a → Rows stands (known_at (pa (suc n))) (known_at (pb (suc n)))
    next l = elim (pair l) [
      | inl none ↦ known_none none.0 none.1
      | inr two ↦ known_pair l two
    ]

  nobody_first : (entries : List Entry) → known_at (past_at setup entries zero) ≡ []
  unfolding known_at asked_before peers_named
  nobody_first entries = refl

  pub known_alike : (n : ℕ) → n ≤ length a → Rows stands (known_at (pa n)) (known_at (pb n))
  known_alike zero h = rows_from stands _ _ _ _ (nobody_first a) (nobody_first b) tt
  known_alike (suc n) h = next n (known_alike n (omega arith)) (omega arith)

  pub outcome_alike : (n : ℕ) → n < length a → Same stands (outcome_at setup a n) (outcome_at setup b n)
  outcome_alike n l = outcome n (known_alike n (omega arith)) l

  verdict_alike : (n : ℕ) → n < length a → link_verdict setup a n ≡ link_verdict setup b n
  unfolding link_verdict
  verdict_alike n l = (outcome_alike n l).verdict

  posted_alike : AllZip (Post stands) (posted setup a) (posted setup b)
  unfolding posted posts_at
  posted_alike =
      subst (λ (m : ℕ). AllZip (Post stands) (flat_map (λ n. (outcome_at setup a n).posts) (range_with_len 0 (length a))) (flat_map (λ n. (outcome_at setup b n).posts) (range_with_len 0 m))) len
      (zip_flat (Post stands) (λ n. (outcome_at setup a n).posts) (λ n. (outcome_at setup b n).posts) 0 (length a) (λ i l. (outcome_alike i (omega arith)).posts))

  event_both : (letter : ℕ) (d e : Dispatch) → Post stands d e → BothOr (IsRenamedEvent stands) (event_for letter d) (event_for letter e)
  event_both letter (ToModule to event) (ToModule to' event') h = event_if (IsRenamedEvent stands) (eqb to letter) (eqb to' letter) event event' (ap (λ x. eqb x letter) h.0) h.1
  event_both letter (ToDoor direct) (ToDoor direct') h = tt
  event_both letter (ToModule to event) (ToDoor direct) h = absurd h
  event_both letter (ToDoor direct) (ToModule to event) h = absurd h

  reply_both : (x : Peer) (d e : Dispatch) → Post stands d e → BothOr (λ (c : Control) (k : Control). c ≡ k) (reply_for x d) (reply_for x e)
  reply_both x (ToModule to event) (ToModule to' event') h = tt
  reply_both x (ToDoor direct) (ToDoor direct') h = rw (← h) (reply_itself (is_peer x direct.peer) direct.control)
  reply_both x (ToModule to event) (ToDoor direct) h = absurd h
  reply_both x (ToDoor direct) (ToModule to event) h = absurd h

  routed_alike : (letter : ℕ) → AreRenamedEvents stands (routed setup a letter) (routed setup b letter)
  unfolding routed
  routed_alike letter = zip_filter_map (Post stands) (IsRenamedEvent stands) (event_for letter) (event_for letter) (posted setup a) (posted setup b) (event_both letter) posted_alike

  answers_alike : (x : Peer) → direct_replies setup a x ≡ direct_replies setup b x
  unfolding direct_replies
  answers_alike x = zip_equal _ _ (zip_filter_map (Post stands) (λ (c : Control) (k : Control). c ≡ k) (reply_for x) (reply_for x) (posted setup a) (posted setup b) (reply_both x) posted_alike)

-- Which free places are given changes nothing, but for the members.
pub places_change_nothing : PlacesChangeNoVerdict
places_change_nothing = record {
  verdicts = verdict_alike;
  known = known_alike;
  answers = answers_alike;
  routes = routed_alike;
}
