-- What an entry comes to, where the same are known by other members.
use Rattle.std.proofs.Common.{◌≡◌, ℕ, Bool, true, false, not, cond, List, [], ◌∷◌, ◌++◌, map, Option, None, Some, refl, ap, sym, subst, ◌∙◌}
use Rattle.std.specs.List.{AllZip, filter}
use Rattle.std.specs.declared.cmp.Ordering.{Ordering}
use Rattle.std.specs.declared.cmp.Ordering.TheVariants.{Less, Equal, Greater}
use Rattle.std.specs.Ordering.{match_ordering}
use Rattle.std.proofs.lemmas.Option.{none-some}
use Rattle.m17_lists.proofs.Pairs.{pairs_behind_pairs}
use Rattle.m17_values.specs.declared.member.Member.{Member}
use Rattle.m17_values.specs.declared.peer.Peer.{Peer}
use Rattle.m17_control.specs.declared.event.Body.TheVariants as body
use Rattle.m17_control.specs.declared.event.Why.{Why}
use Rattle.m17_control.specs.declared.event.Why.TheVariants.{Silent, Asked, Moved, Stopped}
use Rattle.m17_control.specs.declared.packet.Control.{Control}
use Rattle.m17_control.specs.declared.packet.Control.TheVariants as control
use Rattle.m17_control.specs.declared.packet.Packet.{Packet}
use Rattle.m17_control.specs.declared.packet.Packet.TheVariants as packets
use Rattle.m17_control.specs.Modules.{serves, letters_of}
use Rattle.m17_control.specs.Renamed.{IsRenamedEvent}
use Rattle.m17_directory.specs.declared.dispatch.Dispatch.{Dispatch}
use Rattle.m17_directory.specs.declared.dispatch.Dispatch.TheVariants.{ToModule, ToDoor}
use Rattle.m17_directory.specs.declared.known.Known.{Known}
use Rattle.m17_directory.specs.declared.known.Request.{Request}
use Rattle.m17_directory.specs.declared.verdict.Act.{Act}
use Rattle.m17_directory.specs.declared.verdict.Act.TheVariants as act
use Rattle.m17_directory.specs.declared.verdict.LinkVerdict.{LinkVerdict}
use Rattle.m17_directory.specs.declared.verdict.LinkVerdict.TheVariants as link
use Rattle.m17_directory.specs.Entries.{Notice, Claim, peer_cmp, is_peer, passes_time}
use Rattle.m17_directory.specs.Given.{IsRenamedRow}
use Rattle.m17_directory.specs.Outcome.{Here, Outcome, Line, only, to_module, to_each_module, to_door, leave, posting, leaving, is_what, line_known_asks, outcome_of, of_known, of_other, of_packet, of_end, has_place, settled}
use Rattle.m17_directory.specs.Routed.{is_silent, row_for, others_than, both}
use Rattle.m17_directory.specs.Steps.{heard_now, is_other, with_row, ticks_by, silent_by, still_by, said_by, heard_by, rows_by, known_by}
use Rattle.m17_directory.proofs.Lines.{of_lines}
use Rattle.m17_directory.proofs.Zips.{zip_map, zip_filter, BothOr}

module _ (stands : Member → Member → Bool) where
  abbrev pub Row : Known → Known → Type 0
  Row k r = IsRenamedRow stands k r

  abbrev pub Rows : List Known → List Known → Type 0
  Rows ks rs = AllZip Row ks rs

  -- the same goes to the same module, or past all
  abbrev pub Post : Dispatch → Dispatch → Type 0
  Post (ToModule letter event) (ToModule letter' event') = (letter ≡ letter') × IsRenamedEvent stands event event'
  Post (ToDoor direct) (ToDoor direct') = direct ≡ direct'
  Post _ _ = ⊥

  pub record Same (o u : Outcome) : Type 0 where
    pub verdict : o.verdict ≡ u.verdict
    pub posts : AllZip Post o.posts u.posts
    pub left : Rows o.left u.left

  -- what of a row doesn't name its member
  pub row_test : (p : Known → Bool) (k r : Known) → ((x : Known) (m : Member) → p (record x { member = m }) ≡ p x) → Row k r → p k ≡ p r
  row_test p k r free h = sym (free k r.member) ∙ ap p h.rest

  pub row_letter : (k r : Known) → Row k r → k.letter ≡ r.letter
  row_letter k r h = ap (λ (x : Known). x.letter) h.rest

  found : (x : Peer) (k r : Known) (o u : Option Known) (b c : Bool) → b ≡ c → Row k r → BothOr Row o u → BothOr Row (cond b (Some k) o) (cond c (Some r) u)
  found x k r o u true true e h g = h
  found x k r o u false false e h g = g
  found x k r o u true false e h g = absurd (cc)
  found x k r o u false true e h g = absurd (cc)

  pub row_for_row : (x : Peer) (ks rs : List Known) → Rows ks rs → BothOr Row (row_for x ks) (row_for x rs)
  row_for_row x [] [] h = tt
  row_for_row x (k ∷ ks) (r ∷ rs) h = found x k r (row_for x ks) (row_for x rs) (is_peer x k.peer) (is_peer x r.peer) (ap (λ (y : Known). is_peer x y.peer) h.0.rest) h.0 (row_for_row x ks rs h.1)
  row_for_row x [] (r ∷ rs) h = absurd h
  row_for_row x (k ∷ ks) [] h = absurd h

  -- posts
  pub leave_same : (here : Here) (why : Why) (k r : Known) → Row k r → Post (leave here why k) (leave here why r)
  leave_same here why k r h = (row_letter k r h, record { tag = refl; at = refl; what = (h.member, refl) })

  pub leaves_same : (here : Here) (why : Why) (ks rs : List Known) → Rows ks rs → AllZip Post (map (leave here why) ks) (map (leave here why) rs)
  leaves_same here why ks rs h = zip_map Row Post (leave here why) (leave here why) ks rs (leave_same here why) h

  ticks_one : (here : Here) (letters : List ℕ) → AllZip Post (map (λ letter. to_module here letter body.Tick) letters) (map (λ letter. to_module here letter body.Tick) letters)
  ticks_one here [] = tt
  ticks_one here (letter ∷ letters) = ((refl, record { tag = refl; at = refl; what = tt }), ticks_one here letters)

  stops_one : (here : Here) (letters : List ℕ) → AllZip Post (map (λ letter. to_module here letter body.Stop) letters) (map (λ letter. to_module here letter body.Stop) letters)
  stops_one here [] = tt
  stops_one here (letter ∷ letters) = ((refl, record { tag = refl; at = refl; what = tt }), stops_one here letters)

  ticks_if : (b : Bool) (here : Here) → AllZip Post (cond b (to_each_module here body.Tick) []) (cond b (to_each_module here body.Tick) [])
  ticks_if true here = ticks_one here (letters_of here.setup.modules)
  ticks_if false here = tt

  -- outcomes
  pub only_same : (v : LinkVerdict) → Same (only v) (only v)
  only_same v = record { verdict = refl; posts = tt; left = tt }

  door_same : (v : LinkVerdict) (here : Here) (x : Peer) (reply : Control) → Same (posting v (to_door here x reply)) (posting v (to_door here x reply))
  door_same v here x reply = record { verdict = refl; posts = (refl, tt); left = tt }

  pub choice : (b : Bool) (o u o' u' : Outcome) → Same o u → Same o' u' → Same (cond b o o') (cond b u u')
  choice true o u o' u' h g = h
  choice false o u o' u' h g = g

  leaving_same : (here : Here) (v : LinkVerdict) (why : Why) (k : Known) (m : Member) → stands k.member m ≡ true → Same (leaving here v why k) (leaving here v why (record k { member = m }))
  leaving_same here v why k m h = record { verdict = refl; posts = ((refl, record { tag = refl; at = refl; what = (h, refl) }), tt); left = (record { member = h; rest = refl }, tt) }

  choice_line : (here : Here) (x : Peer) (b : Bool) (l m l' m' : Line) → Same (outcome_of here x l) (outcome_of here x m) → Same (outcome_of here x l') (outcome_of here x m') → Same (outcome_of here x (cond b l l')) (outcome_of here x (cond b m m'))
  choice_line here x true l m l' m' h g = h
  choice_line here x false l m l' m' h g = g

  reply_same : (here : Here) (k : Known) (m : Member) (what : Act) (reply : Control) → stands k.member m ≡ true → Same (outcome_of here k.peer (Line.Reply k what reply)) (outcome_of here k.peer (Line.Reply (record k { member = m }) what reply))
  reply_same here k m what reply h = record { verdict = refl; posts = ((refl, record { tag = refl; at = refl; what = (h, refl) }), tt); left = tt }

  asks_same : (here : Here) (k : Known) (m : Member) (request : Request) → stands k.member m ≡ true → Same (outcome_of here k.peer (line_known_asks here k request)) (outcome_of here k.peer (line_known_asks here (record k { member = m }) request))
  asks_same here k m request h =
      choice_line here k.peer (not (serves here.setup.modules request.letter)) _ _ _ _ (door_same (link.NotServed request.letter) here k.peer control.Nack)
      (choice_line here k.peer (is_what request k) _ _ _ _ (reply_same here k m act.Again control.Ackn h) (leaving_same here link.Asks Moved k m h))

  -- of one that is known, by whichever member
  known_packet : (here : Here) (k : Known) (m : Member) (p : Packet) → stands k.member m ≡ true → Same (of_known here k p) (of_known here (record k { member = m }) p)
  known_packet here k m (packets.Control (control.Conn from letter)) h = asks_same here k m (record { letter = letter; callsign = from; listen = false }) h
  known_packet here k m (packets.Control (control.Lstn from letter)) h = asks_same here k m (record { letter = letter; callsign = from; listen = true }) h
  known_packet here k m (packets.Stream p) h = record { verdict = refl; posts = ((refl, record { tag = refl; at = refl; what = (h, refl) }), tt); left = tt }
  known_packet here k m (packets.Control (control.Ping from)) h = reply_same here k m act.Pong _ h
  known_packet here k m (packets.Control (control.Pong from)) h = only_same _
  known_packet here k m (packets.Control (control.Disc from)) h = leaving_same here _ Asked k m h
  known_packet here k m (packets.Control control.Ackn) h = only_same _
  known_packet here k m (packets.Control control.Nack) h = only_same _

  other_packet : (here : Here) (x : Peer) (p : Packet) → Same (of_other here x p) (of_other here x p)
  other_packet here x p = of_lines (λ o. Same o o) here x None p (record {
    nothing = λ v said. only_same v;
    at_door = λ y v reply said is. door_same v here y reply;
    frame = λ k s is of. absurd (none-some k is);
    reply = λ k what reply is said. absurd (none-some k is);
    leaves = λ k v why is said other. absurd (none-some k is);
  })

  packet_same : (here : Here) (x : Peer) (o u : Option Known) (p : Packet) → BothOr Row o u → Same (of_packet here x o p) (of_packet here x u p)
  packet_same here x None None p h = other_packet here x p
  packet_same here x (Some k) (Some r) p h = subst (λ (y : Known). Same (of_known here k p) (of_known here y p)) h.rest (known_packet here k r.member p h.member)
  packet_same here x None (Some r) p h = absurd h
  packet_same here x (Some k) None p h = absurd h

  end_same : (here : Here) (ks rs : List Known) → Rows ks rs → Same (of_end here ks) (of_end here rs)
  end_same here ks rs h = record {
    verdict = refl;
    posts = pairs_behind_pairs Post (map (leave here Stopped) ks) (map (leave here Stopped) rs) (to_each_module here body.Stop) (to_each_module here body.Stop) (leaves_same here Stopped ks rs h) (stops_one here (letters_of here.setup.modules));
    left = h;
  }

  -- who is silent, and who is not
  rows_if : (b : Bool) (ks rs us vs : List Known) → Rows ks rs → Rows us vs → Rows (cond b ks us) (cond b rs vs)
  rows_if true ks rs us vs h g = h
  rows_if false ks rs us vs h g = g

  silent_same : (here : Here) (ks rs : List Known) (notice : Notice) → Rows ks rs → Rows (silent_by here ks notice) (silent_by here rs notice)
  silent_same here ks rs notice h =
      rows_if (passes_time notice) _ _ [] [] (zip_filter Row (is_silent here.moment) (is_silent here.moment) ks rs (λ k r g. row_test (is_silent here.moment) k r (λ x m. refl) g) h) tt

  pub still_same : (here : Here) (ks rs : List Known) (notice : Notice) → Rows ks rs → Rows (still_by here ks notice) (still_by here rs notice)
  still_same here ks rs notice h =
      rows_if (passes_time notice) _ _ ks rs (zip_filter Row (λ k. not (is_silent here.moment k)) (λ k. not (is_silent here.moment k)) ks rs (λ k r g. row_test (λ y. not (is_silent here.moment y)) k r (λ x m. refl) g) h) h

  pub others_same : (notice : Notice) (ks rs : List Known) → Rows ks rs → Rows (others_than notice ks) (others_than notice rs)
  others_same (Notice.Sent from at p) ks rs h = zip_filter Row (is_other from) (is_other from) ks rs (λ k r g. row_test (is_other from) k r (λ x m. refl) g) h
  others_same (Notice.Garbled from at refusal) ks rs h = h
  others_same (Notice.Quiet at) ks rs h = h
  others_same Notice.Fault ks rs h = h
  others_same Notice.End ks rs h = h

  said_same : (here : Here) (ends : Bool) (ks rs us vs : List Known) (notice : Notice) → Rows ks rs → Rows us vs → Same (said_by here ends ks us notice) (said_by here ends rs vs notice)
  said_same here ends ks rs us vs (Notice.Sent from at p) h g = packet_same here from (row_for from us) (row_for from vs) p (row_for_row from us vs g)
  said_same here ends ks rs us vs (Notice.Garbled from at refusal) h g = only_same _
  said_same here ends ks rs us vs (Notice.Quiet at) h g = only_same _
  said_same here ends ks rs us vs Notice.Fault h g = choice ends _ _ _ _ (end_same here ks rs h) (only_same _)
  said_same here ends ks rs us vs Notice.End h g = end_same here ks rs h

  -- what an entry comes to before its claim
  pub heard_same : (here : Here) (before : ℕ) (ends : Bool) (ks rs : List Known) (notice : Notice) → Rows ks rs → Same (heard_by here before ends ks notice) (heard_by here before ends rs notice)
  heard_same here before ends ks rs notice h =
      let said : Same (said_by here ends ks (still_by here ks notice) notice) (said_by here ends rs (still_by here rs notice) notice) =
      said_same here ends ks rs (still_by here ks notice) (still_by here rs notice) notice h (still_same here ks rs notice h) in
      let silent : Rows (silent_by here ks notice) (silent_by here rs notice) = silent_same here ks rs notice h in
      record {
        verdict = said.verdict;
        posts = pairs_behind_pairs Post (map (leave here Silent) (silent_by here ks notice) ++ ticks_by here before) (map (leave here Silent) (silent_by here rs notice) ++ ticks_by here before) _ _
            (pairs_behind_pairs Post (map (leave here Silent) (silent_by here ks notice)) (map (leave here Silent) (silent_by here rs notice)) (ticks_by here before) (ticks_by here before) (leaves_same here Silent _ _ silent) (ticks_if _ here))
            said.posts;
        left = pairs_behind_pairs Row (silent_by here ks notice) (silent_by here rs notice) _ _ silent said.left;
      }

  -- who is known after it
  heard_row_if : (b : Bool) (moment : ℕ) (k : Known) (m : Member) → stands k.member m ≡ true → Row (cond b (record k { heard_at = moment }) k) (cond b (record k { member = m; heard_at = moment }) (record k { member = m }))
  heard_row_if true moment k m h = record { member = h; rest = refl }
  heard_row_if false moment k m h = record { member = h; rest = refl }

  heard_row : (x : Peer) (moment : ℕ) (k : Known) (m : Member) → stands k.member m ≡ true → Row (heard_now x moment k) (heard_now x moment (record k { member = m }))
  heard_row x moment k m h = heard_row_if (is_peer x k.peer) moment k m h

  rows_by_same : (here : Here) (x : Peer) (left right ks rs : List Known) → Rows left right → Rows ks rs → Rows (rows_by here x left ks) (rows_by here x right rs)
  rows_by_same here x [] [] ks rs l h =
      zip_map Row Row (heard_now x here.moment) (heard_now x here.moment) ks rs
      (λ k r g. subst (λ (y : Known). Row (heard_now x here.moment k) (heard_now x here.moment y)) g.rest (heard_row x here.moment k r.member g.member)) h
  rows_by_same here x (a ∷ left) (b ∷ right) ks rs l h = zip_filter Row (is_other x) (is_other x) ks rs (λ k r g. row_test (is_other x) k r (λ y m. refl) g) h
  rows_by_same here x [] (b ∷ right) ks rs l h = absurd l
  rows_by_same here x (a ∷ left) [] ks rs l h = absurd l

  pub known_same : (here : Here) (ends : Bool) (ks rs us vs : List Known) (notice : Notice) → Rows ks rs → Rows us vs → Rows (known_by here ends ks us notice) (known_by here ends rs vs notice)
  known_same here ends ks rs us vs (Notice.Sent from at p) h g = rows_by_same here from _ _ us vs (packet_same here from (row_for from us) (row_for from vs) p (row_for_row from us vs g)).left g
  known_same here ends ks rs us vs (Notice.Garbled from at refusal) h g = g
  known_same here ends ks rs us vs (Notice.Quiet at) h g = g
  known_same here ends ks rs us vs Notice.Fault h g = rows_if ends [] [] ks rs tt h
  known_same here ends ks rs us vs Notice.End h g = tt

  -- a row that is put in
  put_step : (a b k r : Known) (ks rs us vs : List Known) (o u : Ordering) → o ≡ u → Row a b → Row k r → Rows ks rs → Rows us vs → Rows (match_ordering o (a ∷ k ∷ ks) (a ∷ ks) (k ∷ us)) (match_ordering u (b ∷ r ∷ rs) (b ∷ rs) (r ∷ vs))
  put_step a b k r ks rs us vs Less Less e n h t m = (n, (h, t))
  put_step a b k r ks rs us vs Equal Equal e n h t m = (n, t)
  put_step a b k r ks rs us vs Greater Greater e n h t m = (h, m)
  put_step a b k r ks rs us vs _ _ e n h t m = absurd (cc)

  pub put_same : (a b : Known) (ks rs : List Known) → Row a b → Rows ks rs → Rows (with_row a ks) (with_row b rs)
  put_same a b [] [] n h = (n, tt)
  put_same a b (k ∷ ks) (r ∷ rs) n h =
      put_step a b k r ks rs (with_row a ks) (with_row b rs) (peer_cmp a.peer k.peer) (peer_cmp b.peer r.peer)
      (ap (λ (x : Known). peer_cmp x.peer k.peer) n.rest ∙ ap (λ (x : Known). peer_cmp b.peer x.peer) h.0.rest) n h.0 h.1 (put_same a b ks rs n h.1)
  put_same a b [] (r ∷ rs) n h = absurd h
  put_same a b (k ∷ ks) [] n h = absurd h

  -- what a request comes to by a claim
  abbrev pub Claims : Option Claim → Option Claim → Type 0
  Claims None None = Unit {0}
  Claims (Some c) (Some d) = stands c.member d.member ≡ true
  Claims _ _ = ⊥

  pub none_settled : (here : Here) (us vs : List Known) (x : Peer) (request : Request) → Same (settled here us x request None) (settled here vs x request None)
  none_settled here us vs x request = door_same link.Full here x control.Nack

  pub some_settled : (here : Here) (us vs : List Known) (x : Peer) (request : Request) (c d : Claim) → filter (has_place c.member.place) us ≡ [] → filter (has_place d.member.place) vs ≡ [] → stands c.member d.member ≡ true → Same (settled here us x request (Some c)) (settled here vs x request (Some d))
  some_settled here us vs x request c d e f h = record {
    verdict = refl;
    posts = rw (e, f) ((refl, record { tag = refl; at = refl; what = (h, refl, refl, refl) }), tt);
    left = rw (e, f) tt;
  }

  pub both_same : (o u o' u' : Outcome) → Same o u → Same o' u' → Same (both o o') (both u u')
  both_same o u o' u' h g = record {
    verdict = g.verdict;
    posts = pairs_behind_pairs Post o.posts u.posts o'.posts u'.posts h.posts g.posts;
    left = pairs_behind_pairs Row o.left u.left o'.left u'.left h.left g.left;
  }
