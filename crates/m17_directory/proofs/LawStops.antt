-- What a link that ends once routes to a served module ends in its one Stop.
use Rattle.std.proofs.Common.{◌≡◌, ℕ, zero, suc, ◌+◌, ◌<◌, ◌≤◌, Bool, true, false, cond, eqb, List, [], ◌∷◌, ◌++◌, length, map, filter, filter_map, None, Some, inl, inr, refl, ap, sym, ◌∙◌, arith}
use Rattle.std.specs.List.{AllByRecursion, cons_option, flat_map, range_with_len}
use Rattle.std.proofs.lemmas.Bool.{cases_eq, cond-true, cond-false, eq-eqb, ne_eqb, false≢true}
use Rattle.std.proofs.lemmas.List.{append_assoc}
use Rattle.std.proofs.lemmas.List.Elements.{filter_map-append}
use Rattle.m17_control.specs.declared.event.Body.TheVariants as body
use Rattle.m17_control.specs.declared.event.Event.{Event}
use Rattle.m17_control.specs.declared.event.Why.TheVariants as why
use Rattle.m17_control.specs.Modules.{serves}
use Rattle.m17_control.proofs.ModuleSets.{serves_within}
use Rattle.m17_directory.specs.declared.dispatch.Dispatch.{Dispatch}
use Rattle.m17_directory.specs.declared.dispatch.Dispatch.TheVariants.{ToModule, ToDoor}
use Rattle.m17_directory.specs.declared.known.Known.{Known}
use Rattle.m17_directory.specs.declared.verdict.LinkVerdict.TheVariants as verdict
use Rattle.m17_directory.specs.Entries.{Notice, Entry, Setup, notice_at, claim_at, moment_before, ends_at}
use Rattle.m17_directory.specs.Known.{Past, now, known_at}
use Rattle.m17_directory.specs.Outcome.{Here, Outcome, only, to_each_module, leave, of_end}
use Rattle.m17_directory.specs.Routed.{here_of, unclaimed_at, settled_at, is_asks, asks_at, both, comes_to, past_at, posts_at, posted, event_for, routed}
use Rattle.m17_directory.specs.Laws.{is_stop, RouteEndsInOneStop}
use Rattle.m17_directory.specs.StandsFor.{faults_before}
use Rattle.m17_directory.specs.Steps.{silent_by, still_by, ticks_by, said_by}
use Rattle.m17_directory.proofs.Same.{length_asked, heard_is}
use Rattle.m17_directory.proofs.LawMore.{posted_upto}
use Rattle.m17_directory.proofs.LawSent.{IsServed, Served, IsSent, AllSent, sent_leaves, sent_ticks, known_served}
use Rattle.m17_directory.proofs.AllPosts.{all_append, silent_all}
use Rattle.m17_directory.proofs.LawRouted.{posts_sent, all_events, all_flat}
use Rattle.m17_directory.proofs.LawPosts.{EndsBy, ends_by}

-- of an event for each of some letters, the one for a letter among them
module _ (letter : ℕ) (p : ℕ → Bool) (event : Event) where
  abbrev for_each : List ℕ → List Event
  for_each letters = filter_map (event_for letter) (map (λ to. ToModule to event) letters)

  skipped : (to : ℕ) (xs ys : List Event) → eqb to letter ≡ false → xs ≡ ys → cons_option (cond (eqb to letter) (Some event) None) xs ≡ ys
  skipped to xs ys e h = ap (λ b. cons_option (cond b (Some event) None) xs) e ∙ h

  skipped_if : (b : Bool) (to : ℕ) (rest : List ℕ) (ys : List Event) → eqb to letter ≡ false → for_each rest ≡ ys → for_each (cond b (to ∷ rest) rest) ≡ ys
  skipped_if true to rest ys e h = skipped to (for_each rest) ys e h
  skipped_if false to rest ys e h = h

  none_above : (from n : ℕ) → letter < from → for_each (filter p (range_with_len from n)) ≡ []
  none_above from zero l = refl
  none_above from (suc n) l =
      skipped_if (p from) from (filter p (range_with_len (from + 1) n)) [] (ne_eqb from letter (λ e. absurd (omega arith))) (none_above (from + 1) n (omega arith))

  only_one : (from n : ℕ) → p letter ≡ true → from ≤ letter → letter < from + n → for_each (filter p (range_with_len from n)) ≡ event ∷ []
  only_one from zero passes l k = absurd (omega arith)
  only_one from (suc n) passes l k =
      let rest : List ℕ = filter p (range_with_len (from + 1) n) in
      elim (cases_eq from letter) [
        | inl same ↦
            ap for_each (cond-true (p from) (from ∷ rest) rest (ap p same ∙ passes))
            ∙ ap (λ b. cons_option (cond b (Some event) None) (for_each rest)) (eq-eqb from letter same)
            ∙ ap (λ xs. event ∷ xs) (none_above (from + 1) n (omega arith))
        | inr other ↦ skipped_if (p from) from rest (event ∷ []) (ne_eqb from letter other) (only_one (from + 1) n passes (omega arith) (omega arith))
      ]

-- the Stop of an entry
abbrev stop_at : Here → Event
stop_at here = record { tag = record { link = here.setup.link; index = here.index }; at = here.moment; body = body.Stop }

one_stop : (here : Here) (letter : ℕ) → serves here.setup.modules letter ≡ true → filter_map (event_for letter) (to_each_module here body.Stop) ≡ stop_at here ∷ []
one_stop here letter s =
    let within = serves_within here.setup.modules letter s in
    only_one letter (serves here.setup.modules) (stop_at here) 65 26 s within.0 (omega (arith, within.1))

abbrev IsNoStop : Event → Type 0
IsNoStop event = is_stop event.body ≡ false

abbrev PostsNoStop : Dispatch → Type 0
PostsNoStop (ToModule to event) = IsNoStop event
PostsNoStop (ToDoor direct) = Unit {0}

is_not : (b c : Bool) → (b ≡ true → c ≡ true) → c ≡ false → b ≡ false
is_not true c h e = sym (h refl) ∙ e
is_not false c h e = refl

no_stops : (at : Here) (stops : Bool) (posts : List Dispatch) → stops ≡ false → AllSent at stops posts → AllByRecursion PostsNoStop posts
no_stops at stops [] e h = tt
no_stops at stops (ToModule to event ∷ posts) e h = (is_not (is_stop event.body) stops h.0.3 e, no_stops at stops posts e h.1)
no_stops at stops (ToDoor direct ∷ posts) e h = (tt, no_stops at stops posts e h.1)

ended_said_is : (at : Here) (ends : Bool) (rows still : List Known) (notice : Notice) (faults : ℕ) → EndsBy notice faults ends → ends ≡ true → said_by at ends rows still notice ≡ of_end at rows
ended_said_is at ends rows still (Notice.Sent from m p) faults e t = absurd (false≢true (sym e ∙ t))
ended_said_is at ends rows still (Notice.Garbled from m refusal) faults e t = absurd (false≢true (sym e ∙ t))
ended_said_is at ends rows still (Notice.Quiet m) faults e t = absurd (false≢true (sym e ∙ t))
ended_said_is at ends rows still Notice.Fault faults e t = cond-true ends (of_end at rows) (only verdict.Faulted) t
ended_said_is at ends rows still Notice.End faults e t = refl

-- what the last entry comes to: all leave, and each module is sent its Stop
module _ (past : Past) (served : Served (here_of past) (known_at past)) (ended : ends_at past.entries (now past) ≡ true) where
  abbrev at : Here
  at = here_of past

  abbrev rows : List Known
  rows = known_at past

  abbrev notice : Notice
  notice = notice_at past.entries (now past)

  abbrev front : List Dispatch
  front = map (leave at why.Silent) (silent_by at rows notice) ++ ticks_by at (moment_before past.entries (now past))

  abbrev leaves : List Dispatch
  leaves = map (leave at why.Stopped) rows

  heard_ended : unclaimed_at past ≡ record { verdict = verdict.Ended; posts = front ++ (leaves ++ to_each_module at body.Stop); left = silent_by at rows notice ++ rows }
  heard_ended =
      let f : Outcome → Outcome = λ said. record { verdict = said.verdict; posts = front ++ said.posts; left = silent_by at rows notice ++ said.left } in
      heard_is past
      ∙ ap f (ended_said_is at (ends_at past.entries (now past)) rows (still_by at rows notice) notice (suc (faults_before past.entries (now past))) (ends_by past.entries (now past)) ended)

  comes_ended : (comes_to past).posts ≡ front ++ (leaves ++ to_each_module at body.Stop)
  comes_ended =
      ap (λ (o : Outcome). o.posts) (cond-false (asks_at past) (both (unclaimed_at past) (settled_at past (claim_at past.entries (now past)))) (unclaimed_at past) (ap (λ (o : Outcome). is_asks o.verdict) heard_ended))
      ∙ ap (λ (o : Outcome). o.posts) heard_ended

  module _ (letter : ℕ) (is_served : serves past.setup.modules letter ≡ true) where
    abbrev before_stop : List Event
    before_stop = filter_map (event_for letter) front ++ filter_map (event_for letter) leaves

    last_events : filter_map (event_for letter) (comes_to past).posts ≡ before_stop ++ stop_at at ∷ []
    last_events =
        ap (filter_map (event_for letter)) comes_ended
        ∙ filter_map-append (event_for letter) front (leaves ++ to_each_module at body.Stop)
        ∙ ap (λ xs. filter_map (event_for letter) front ++ xs) (filter_map-append (event_for letter) leaves (to_each_module at body.Stop))
        ∙ ap (λ xs. filter_map (event_for letter) front ++ (filter_map (event_for letter) leaves ++ xs)) (one_stop at letter is_served)
        ∙ sym (append_assoc (filter_map (event_for letter) front) (filter_map (event_for letter) leaves) (stop_at at ∷ []))

    events_no_stop : (posts : List Dispatch) → AllSent at false posts → AllByRecursion IsNoStop (filter_map (event_for letter) posts)
    events_no_stop posts h = all_events (IsSent at false) IsNoStop letter posts (λ to event s. is_not (is_stop event.body) false s.3 refl) h

    before_no_stop : AllByRecursion IsNoStop before_stop
    before_no_stop =
        all_append IsNoStop (filter_map (event_for letter) front) (filter_map (event_for letter) leaves)
        (events_no_stop front
        (all_append (IsSent at false) (map (leave at why.Silent) (silent_by at rows notice)) (ticks_by at (moment_before past.entries (now past)))
        (sent_leaves at false why.Silent (silent_by at rows notice) (silent_all (IsServed at) at rows notice served))
        (sent_ticks at false (moment_before past.entries (now past)))))
        (events_no_stop leaves (sent_leaves at false why.Stopped rows served))

earlier_no_stop : (setup : Setup) (entries : List Entry) (letter last : ℕ) → ((n : ℕ) → n < last → ends_at entries n ≡ false) → AllByRecursion IsNoStop (filter_map (event_for letter) (flat_map (posts_at setup entries) (range_with_len 0 last)))
earlier_no_stop setup entries letter last h =
    all_events PostsNoStop IsNoStop letter (flat_map (posts_at setup entries) (range_with_len 0 last)) (λ to event s. s)
    (all_flat PostsNoStop (posts_at setup entries) 0 last
    (λ i l. no_stops (here_of (past_at setup entries i)) (ends_at entries i) (posts_at setup entries i) (h i (omega arith)) (posts_sent setup entries i)))

routed_ended : (setup : Setup) (entries : List Entry) (letter last : ℕ) (xs : List Event) (stop : Event) → suc last ≡ length entries → filter_map (event_for letter) (posts_at setup entries last) ≡ xs ++ stop ∷ []
    → routed setup entries letter ≡ (filter_map (event_for letter) (flat_map (posts_at setup entries) (range_with_len 0 last)) ++ xs) ++ stop ∷ []
unfolding routed posted
routed_ended setup entries letter last xs stop e h =
    let f : ℕ → List Dispatch = posts_at setup entries in
    let earlier : List Dispatch = flat_map f (range_with_len 0 last) in
    ap (λ m. filter_map (event_for letter) (flat_map f (range_with_len 0 m))) (sym e)
    ∙ ap (filter_map (event_for letter)) (posted_upto setup entries last)
    ∙ filter_map-append (event_for letter) earlier (f last)
    ∙ ap (λ ys. filter_map (event_for letter) earlier ++ ys) h
    ∙ sym (append_assoc (filter_map (event_for letter) earlier) xs (stop ∷ []))

last_posts : (setup : Setup) (entries : List Entry) (letter last : ℕ) → ends_at entries last ≡ true → serves setup.modules letter ≡ true
    → (xs : List Event) × (filter_map (event_for letter) (posts_at setup entries last) ≡ xs ++ stop_at (here_of (past_at setup entries last)) ∷ []) × AllByRecursion IsNoStop xs
unfolding posts_at
last_posts setup entries letter last ends s =
    let past : Past = past_at setup entries last in
    let there : ends_at entries (now past) ≡ true = ap (ends_at entries) (length_asked setup entries last) ∙ ends in
    let served : Served (here_of past) (known_at past) = known_served setup entries last in
    (before_stop past served there letter s, last_events past served there letter s, before_no_stop past served there letter s)

pub ends_in_stop : RouteEndsInOneStop
ends_in_stop setup entries letter once s =
    let last = last_posts setup entries letter once.last once.ends s in
    let stop : Event = stop_at (here_of (past_at setup entries once.last)) in
    let earlier : List Event = filter_map (event_for letter) (flat_map (posts_at setup entries) (range_with_len 0 once.last)) in (
      earlier ++ last.0,
      stop,
      routed_ended setup entries letter once.last last.0 stop once.is_last last.1,
      refl,
      all_append IsNoStop earlier last.0 (earlier_no_stop setup entries letter once.last once.not_before) last.2,
    )
