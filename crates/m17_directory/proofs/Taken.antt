-- Who is known after an entry, by who was known before it: the rows that the code keeps are those that are looked up.
use Rattle.std.proofs.Common.{◌≡◌, ℕ, suc, Bool, true, false, cond, not, ◌&&◌, ◌||◌, leb, List, [], ◌∷◌, length, map, filter, Option, None, Some, option_map, refl, ap, sym, ◌∙◌, subst, arith}
use Rattle.std.proofs.lemmas.Bool.{false≢true, true≢false, lt-leb}
use Rattle.std.proofs.lemmas.Option.{none-some}
use Rattle.m17_values.specs.declared.peer.Peer.{Peer}
use Rattle.m17_control.specs.declared.packet.Packet.{Packet}
use Rattle.m17_directory.specs.declared.known.Known.{Known}
use Rattle.m17_directory.specs.Entries.{Notice, Entry, Setup, notice_at, claim_at, moment_at, passes_time, is_peer, is_from, is_disc, says_disc, is_fault, is_end, is_silent_at, ends_at}
use Rattle.m17_directory.specs.Known.{Past, turns, row_at, known_at}
use Rattle.m17_directory.specs.Outcome.{Here, Outcome, of_packet}
use Rattle.m17_directory.specs.Routed.{here_of, is_silent, row_for, is_asks, asks_at}
use Rattle.m17_directory.specs.StandsFor.{faults_before}
use Rattle.m17_directory.specs.Steps.{IsInOrder, heard_now, is_other, rows_by, still_by, said_by}
use Rattle.m17_directory.proofs.Faults.{ends_is}
use Rattle.m17_directory.proofs.Lines.{is_left, known_left}
use Rattle.std.proofs.lemmas.Cmp.{eq_by_cmp_equiv}
use Rattle.m17_directory.proofs.Peers.{peer_order, is_peer_same}
use Rattle.m17_directory.proofs.Rows.{if_passes, order_filter, order_map, row_for-filter, row_for-map, same_rows}
use Rattle.m17_directory.proofs.Same.{past_of, heard_is}
use Rattle.m17_directory.proofs.Later.{hearing, keeps, after, asks_now, stays, goes_unclaimed, row_silent, row_at_peer}
use Rattle.m17_directory.proofs.Named.{known_order, known_look}

heard_now_peer : (x : Peer) (m : ℕ) (k : Known) → (heard_now x m k).peer ≡ k.peer
heard_now_peer x m k = elim (is_peer x k.peer) as (λ b. (hearing b m k).peer ≡ k.peer) [ true ↦ refl | false ↦ refl ]

pub order_heard : (x : Peer) (m : ℕ) (rows : List Known) → IsInOrder rows → IsInOrder (map (heard_now x m) rows)
order_heard x m rows h = order_map (heard_now x m) rows (heard_now_peer x m) h

order_by : (here : Here) (x : Peer) (left rows : List Known) → IsInOrder rows → IsInOrder (rows_by here x left rows)
order_by here x [] rows h = order_heard x here.moment rows h
order_by here x (k ∷ left) rows h = order_filter (is_other x) rows h

look_by : (here : Here) (x y : Peer) (left rows : List Known) → IsInOrder rows → row_for y (rows_by here x left rows) ≡ cond (is_left left) (if_passes (is_other x) (row_for y rows)) (option_map (heard_now x here.moment) (row_for y rows))
look_by here x y [] rows h = row_for-map (heard_now x here.moment) y rows (heard_now_peer x here.moment)
look_by here x y (k ∷ left) rows h = row_for-filter (is_other x) y rows h

-- where a peer has no row
no_row_parts : (b : Bool) (k : Known) (o : Option Known) → cond b (Some k) o ≡ None → (b ≡ false) × (o ≡ None)
no_row_parts true k o e = absurd (none-some k (sym e))
no_row_parts false k o e = (refl, e)

pub no_row_heard : (x : Peer) (m : ℕ) (rows : List Known) → row_for x rows ≡ None → map (heard_now x m) rows ≡ rows
no_row_heard x m [] e = refl
no_row_heard x m (k ∷ rows) e =
    let parts = no_row_parts (is_peer x k.peer) k (row_for x rows) e in
    ap (λ b. hearing b m k ∷ map (heard_now x m) rows) parts.0
    ∙ ap (λ ks. k ∷ ks) (no_row_heard x m rows parts.1)

pub no_row_other : (x : Peer) (rows : List Known) → row_for x rows ≡ None → filter (is_other x) rows ≡ rows
no_row_other x [] e = refl
no_row_other x (k ∷ rows) e =
    let parts = no_row_parts (is_peer x k.peer) k (row_for x rows) e in
    ap (λ b. cond (not b) (k ∷ filter (is_other x) rows) (filter (is_other x) rows)) parts.0
    ∙ ap (λ ks. k ∷ ks) (no_row_other x rows parts.1)

-- what becomes of one row
gone_or_heard : (k : Known) (m : ℕ) (same leaves asks disc : Bool) → (same ≡ true → leaves ≡ (asks || disc))
    → cond ((((asks && same) || (same && disc)) || false) || false) None (Some (hearing same m k)) ≡ cond leaves (cond (not same) (Some k) None) (Some (hearing same m k))
gone_or_heard k m true true true disc h = refl
gone_or_heard k m true true false true h = refl
gone_or_heard k m true true false false h = absurd (true≢false (h refl))
gone_or_heard k m true false true disc h = absurd (false≢true (h refl))
gone_or_heard k m true false false true h = absurd (false≢true (h refl))
gone_or_heard k m true false false false h = refl
gone_or_heard k m false true true disc h = refl
gone_or_heard k m false true false disc h = refl
gone_or_heard k m false false true disc h = refl
gone_or_heard k m false false false disc h = refl

silent_gone : (b : Bool) (o : Option Known) → cond ((b || true) || false) None o ≡ None
silent_gone true o = refl
silent_gone false o = refl

passes_all : (o : Option Known) → if_passes (λ k. true) o ≡ o
passes_all None = refl
passes_all (Some k) = refl

quiet_cond : (v s : Bool) (k : Known) → cond ((((v && false) || false) || (true && s)) || false) None (Some k) ≡ cond (not s) (Some k) None
quiet_cond true true k = refl
quiet_cond true false k = refl
quiet_cond false true k = refl
quiet_cond false false k = refl

fault_cond : (v s e : Bool) (k : Known) → cond ((((v && false) || false) || (false && s)) || e) None (Some k) ≡ cond e None (Some k)
fault_cond true s e k = refl
fault_cond false s e k = refl

pub is_peer_swap : (a b : Peer) → is_peer a b ≡ is_peer b a
is_peer_swap a b = (eq_by_cmp_equiv peer_order).symm a b

module _ (setup : Setup) (entries : List Entry) (l : List Bool) (unclaimed : claim_at entries (length l) ≡ None) where
  abbrev n : ℕ
  n = length l

  abbrev was : Past
  was = past_of setup entries l

  abbrev v : Bool
  v = asks_at was

  abbrev is : Past
  is = after setup entries l v

  abbrev m : ℕ
  m = moment_at entries n

  -- a row one entry later
  later : (x : Peer) (turned : Bool) → turned ≡ turns is x n → row_at is x ≡ cond turned None (option_map (hearing (is_from x (notice_at entries n)) m) (row_at was x))
  later x true e = goes_unclaimed setup entries l v x (sym e) unclaimed
  later x false e =
      stays setup entries l v x (sym e)
      ∙ ap (λ c. if_passes (keeps c) (option_map (hearing (is_from x (notice_at entries n)) m) (row_at was x))) unclaimed
      ∙ passes_all (option_map (hearing (is_from x (notice_at entries n)) m) (row_at was x))

  turned_is : (x : Peer) (k : Known) (notice : Notice) → notice_at entries n ≡ notice → row_at was x ≡ Some k
      → turns is x n ≡ ((((v && is_from x notice) || says_disc x notice) || (passes_time notice && is_silent m k)) || ends_at entries n)
  turned_is x k notice e row =
      ap (λ b. ((b || says_disc x (notice_at entries n)) || is_silent_at entries x n) || ends_at entries n) (asks_now setup entries l v x)
      ∙ ap (λ b. (((v && is_from x (notice_at entries n)) || says_disc x (notice_at entries n)) || b) || ends_at entries n) (row_silent was x k row)
      ∙ ap (λ y. (((v && is_from x y) || says_disc x y) || (passes_time y && is_silent m k)) || ends_at entries n) e

  -- the row of a peer that was known, and of one that was not
  later_some : (x : Peer) (k : Known) (notice : Notice) → notice_at entries n ≡ notice → row_at was x ≡ Some k
      → row_at is x ≡ cond ((((v && is_from x notice) || says_disc x notice) || (passes_time notice && is_silent m k)) || ends_at entries n) None (Some (hearing (is_from x notice) m k))
  later_some x k notice e row =
      later x (turns is x n) refl
      ∙ ap (λ o. cond (turns is x n) None (option_map (hearing (is_from x (notice_at entries n)) m) o)) row
      ∙ ap (λ y. cond (turns is x n) None (Some (hearing (is_from x y) m k))) e
      ∙ ap (λ b. cond b None (Some (hearing (is_from x notice) m k))) (turned_is x k notice e row)

  later_none : (x : Peer) → row_at was x ≡ None → row_at is x ≡ None
  later_none x row =
      later x (turns is x n) refl
      ∙ ap (λ o. cond (turns is x n) None (option_map (hearing (is_from x (notice_at entries n)) m) o)) row
      ∙ elim (turns is x n) as (λ b. ◌≡◌ {A = Option Known} (cond b None None) None) [ true ↦ refl | false ↦ refl ]

  abbrev rows : List Known
  rows = known_at was

  abbrev still : List Known
  still = filter (λ k. not (is_silent m k)) rows

  look_still : (x : Peer) → row_for x still ≡ if_passes (λ k. not (is_silent m k)) (row_at was x)
  look_still x =
      row_for-filter (λ k. not (is_silent m k)) x rows (known_order was)
      ∙ ap (if_passes (λ k. not (is_silent m k))) (known_look was x)

  -- after quiet, and after bytes that are refused
  quiet_row : (x : Peer) (notice : Notice) (o : Option Known) → notice_at entries n ≡ notice → passes_time notice ≡ true → is_from x notice ≡ false → says_disc x notice ≡ false → ends_at entries n ≡ false → row_at was x ≡ o
      → row_at is x ≡ if_passes (λ k. not (is_silent m k)) o
  quiet_row x notice None e t f d s row = later_none x row
  quiet_row x notice (Some k) e t f d s row =
      later_some x k notice e row
      ∙ ap (λ b. cond ((((v && b) || says_disc x notice) || (passes_time notice && is_silent m k)) || ends_at entries n) None (Some (hearing b m k))) f
      ∙ ap (λ b. cond ((((v && false) || b) || (passes_time notice && is_silent m k)) || ends_at entries n) None (Some k)) d
      ∙ ap (λ b. cond ((((v && false) || false) || (b && is_silent m k)) || ends_at entries n) None (Some k)) t
      ∙ ap (λ b. cond ((((v && false) || false) || (true && is_silent m k)) || b) None (Some k)) s
      ∙ quiet_cond v (is_silent m k) k

  pub known_quiet : (notice : Notice) → notice_at entries n ≡ notice → passes_time notice ≡ true → ((x : Peer) → is_from x notice ≡ false) → ((x : Peer) → says_disc x notice ≡ false) → ends_at entries n ≡ false → known_at is ≡ still
  known_quiet notice e t f d s =
      same_rows (known_at is) still (known_order is) (order_filter (λ k. not (is_silent m k)) rows (known_order was))
      (λ x. known_look is x ∙ quiet_row x notice (row_at was x) e t (f x) (d x) s refl ∙ sym (look_still x))

  -- after a fault, and at the end
  fault_row : (x : Peer) (notice : Notice) (o : Option Known) → notice_at entries n ≡ notice → passes_time notice ≡ false → is_from x notice ≡ false → says_disc x notice ≡ false → row_at was x ≡ o
      → row_at is x ≡ cond (ends_at entries n) None o
  fault_row x notice None e t f d row =
      later_none x row ∙ elim (ends_at entries n) as (λ b. ◌≡◌ {A = Option Known} None (cond b None None)) [ true ↦ refl | false ↦ refl ]
  fault_row x notice (Some k) e t f d row =
      later_some x k notice e row
      ∙ ap (λ b. cond ((((v && b) || says_disc x notice) || (passes_time notice && is_silent m k)) || ends_at entries n) None (Some (hearing b m k))) f
      ∙ ap (λ b. cond ((((v && false) || b) || (passes_time notice && is_silent m k)) || ends_at entries n) None (Some k)) d
      ∙ ap (λ b. cond ((((v && false) || false) || (b && is_silent m k)) || ends_at entries n) None (Some k)) t
      ∙ fault_cond v (is_silent m k) (ends_at entries n) k

  look_fault : (x : Peer) (b : Bool) → row_for x (cond b [] rows) ≡ cond b None (row_at was x)
  look_fault x true = refl
  look_fault x false = known_look was x

  order_fault : (b : Bool) → IsInOrder (cond b [] rows)
  order_fault true = tt
  order_fault false = known_order was

  pub known_fault : (notice : Notice) → notice_at entries n ≡ notice → passes_time notice ≡ false → ((x : Peer) → is_from x notice ≡ false) → ((x : Peer) → says_disc x notice ≡ false) → known_at is ≡ cond (ends_at entries n) [] rows
  known_fault notice e t f d =
      same_rows (known_at is) (cond (ends_at entries n) [] rows) (known_order is) (order_fault (ends_at entries n))
      (λ x. known_look is x ∙ fault_row x notice (row_at was x) e t (f x) (d x) refl ∙ sym (look_fault x (ends_at entries n)))

  -- after a packet
  module _ (from : Peer) (at : ℕ) (p : Packet) (said : notice_at entries n ≡ Notice.Sent from at p) where
    abbrev out : Outcome
    out = of_packet (here_of was) from (row_for from still) p

    goes_on : ends_at entries n ≡ false
    goes_on =
        ends_is entries n
        ∙ ap (λ y. is_end y || leb 16 (cond (is_fault y) (suc (faults_before entries n)) 0)) said
        ∙ lt-leb 16 0 (omega arith)

    asks_is : v ≡ is_asks out.verdict
    asks_is =
        ap (λ (o : Outcome). is_asks o.verdict) (heard_is was)
        ∙ ap (λ y. is_asks (said_by (here_of was) (ends_at entries n) rows (still_by (here_of was) rows y) y).verdict) said

    left_is : (k : Known) (o : Option Known) → o ≡ Some k → is_left (of_packet (here_of was) from o p).left ≡ (is_asks (of_packet (here_of was) from o p).verdict || is_disc p)
    left_is k None e = absurd (none-some k e)
    left_is k (Some r) e = known_left (here_of was) r p

    -- what is wanted of a row that is still known
    abbrev Wanted : Peer → Option Known → Type 0
    Wanted x o = row_at is x ≡ cond (is_left out.left) (if_passes (is_other from) o) (option_map (heard_now from m) o)

    wanted_none : (x : Peer) → row_at is x ≡ None → Wanted x None
    wanted_none x e = e ∙ elim (is_left out.left) as (λ b. ◌≡◌ {A = Option Known} None (cond b None None)) [ true ↦ refl | false ↦ refl ]

    turn_is : (x : Peer) (k : Known) → row_at was x ≡ Some k → row_at is x ≡ cond ((((v && is_peer x from) || (is_peer x from && is_disc p)) || is_silent m k) || false) None (Some (hearing (is_peer x from) m k))
    turn_is x k row =
        later_some x k (Notice.Sent from at p) said row
        ∙ ap (λ b. cond ((((v && is_peer x from) || (is_peer x from && is_disc p)) || is_silent m k) || b) None (Some (hearing (is_peer x from) m k))) goes_on

    leaves_is : (x : Peer) (k : Known) → row_for x still ≡ Some k → is_peer x from ≡ true → is_left out.left ≡ (v || is_disc p)
    leaves_is x k look same =
        left_is k (row_for from still) (ap (λ y. row_for y still) (sym (is_peer_same x from same)) ∙ look)
        ∙ ap (λ b. b || is_disc p) (sym asks_is)

    packet_some : (x : Peer) (k : Known) (s : Bool) → s ≡ is_silent m k → row_at was x ≡ Some k → row_for x still ≡ cond (not s) (Some k) None → Wanted x (row_for x still)
    packet_some x k true e row look =
        subst (λ (o : Option Known). Wanted x o) (sym look)
        (wanted_none x (turn_is x k row
        ∙ ap (λ b. cond ((((v && is_peer x from) || (is_peer x from && is_disc p)) || b) || false) None (Some (hearing (is_peer x from) m k))) (sym e)
        ∙ silent_gone ((v && is_peer x from) || (is_peer x from && is_disc p)) (Some (hearing (is_peer x from) m k))))
    packet_some x k false e row look =
        let swap : is_peer x from ≡ is_peer from k.peer = is_peer_swap x from ∙ ap (is_peer from) (sym (row_at_peer was x k row)) in
        subst (λ (o : Option Known). Wanted x o) (sym look)
        (turn_is x k row
        ∙ ap (λ b. cond ((((v && is_peer x from) || (is_peer x from && is_disc p)) || b) || false) None (Some (hearing (is_peer x from) m k))) (sym e)
        ∙ gone_or_heard k m (is_peer x from) (is_left out.left) v (is_disc p) (leaves_is x k look)
        ∙ ap (λ b. cond (is_left out.left) (cond (not b) (Some k) None) (Some (hearing b m k))) swap)

    packet_row : (x : Peer) (o : Option Known) → row_at was x ≡ o → Wanted x (row_for x still)
    packet_row x None row =
        subst (λ (o : Option Known). Wanted x o) (sym (look_still x ∙ ap (if_passes (λ k. not (is_silent m k))) row)) (wanted_none x (later_none x row))
    packet_row x (Some k) row =
        packet_some x k (is_silent m k) refl row (look_still x ∙ ap (if_passes (λ r. not (is_silent m r))) row)

    pub known_packet : known_at is ≡ rows_by (here_of was) from out.left still
    known_packet =
        let order : IsInOrder still = order_filter (λ k. not (is_silent m k)) rows (known_order was) in
        same_rows (known_at is) (rows_by (here_of was) from out.left still) (known_order is) (order_by (here_of was) from out.left still order)
        (λ x. known_look is x ∙ packet_row x (row_at was x) refl ∙ sym (look_by (here_of was) from x out.left still order))
