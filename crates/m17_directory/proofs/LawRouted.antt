-- What a link routes carries its tag, goes to served modules alone, and ends in one Stop.
use Rattle.std.proofs.Common.{◌≡◌, ℕ, zero, suc, ◌+◌, ◌<◌, Bool, true, false, cond, eqb, List, [], ◌∷◌, length, filter_map, None, Some, refl, ap, sym, ◌∙◌, subst, arith}
use Rattle.std.specs.List.{AllByRecursion, cons_option, flat_map, range_with_len}
use Rattle.std.proofs.lemmas.Bool.{eqb-true, false≢true}
use Rattle.m17_control.specs.declared.event.Event.{Event}
use Rattle.m17_control.specs.Modules.{serves}
use Rattle.m17_directory.specs.declared.dispatch.Dispatch.{Dispatch}
use Rattle.m17_directory.specs.declared.dispatch.Dispatch.TheVariants.{ToModule, ToDoor}
use Rattle.m17_directory.specs.Entries.{Entry, Setup, ends_at}
use Rattle.m17_directory.specs.Known.{Past, now}
use Rattle.m17_directory.specs.Outcome.{Here}
use Rattle.m17_directory.specs.Routed.{here_of, past_at, posts_at, posted, event_for, routed}
use Rattle.m17_directory.specs.Laws.{EventsCarryTheirIndex, RouteCarriesLink, OnlyServedAreRouted, is_door_reply}
use Rattle.m17_directory.proofs.Same.{length_asked}
use Rattle.m17_directory.proofs.AllPosts.{all_append, each_replaced, all_posts}
use Rattle.m17_directory.proofs.LawSent.{IsServed, IsSent, AllSent, no_stop, asks_served, known_served}

-- Whatever a position posts to a module.
pub posts_sent : (setup : Setup) (entries : List Entry) (n : ℕ) → AllSent (here_of (past_at setup entries n)) (ends_at entries n) (posts_at setup entries n)
posts_sent setup entries n =
    let past : Past = past_at setup entries n in
    let here : Here = here_of past in
    let ends : Bool = ends_at entries (now past) in
    subst (λ (m : ℕ). AllSent here (ends_at entries m) (posts_at setup entries n)) (length_asked setup entries n)
    (all_posts (IsSent here ends) (IsServed here) setup entries n (record {
      known = known_served setup entries n;
      leaves = λ k w s other. (refl, refl, s, no_stop ends);
      tick = λ letter s. (refl, refl, s, no_stop ends);
      stop = λ letter s e. (refl, refl, s, λ t. e);
      door = λ x reply is. (refl, is);
      frame = λ k p s. (refl, refl, s, no_stop ends);
      reply = λ k reply s. (refl, refl, s, no_stop ends);
      replaced = λ c given. each_replaced (IsSent here ends) (IsServed here) past c (known_served setup entries n) (λ k s. (refl, refl, s, no_stop ends));
      join = λ c given x request asks wants. (refl, refl, asks_served past request asks wants, no_stop ends);
    }))

-- of the events for a module
pub all_events : (P : Dispatch → Type 0) (Q : Event → Type 0) (letter : ℕ) (posts : List Dispatch) → ((to : ℕ) (event : Event) → P (ToModule to event) → Q event) → AllByRecursion P posts → AllByRecursion Q (filter_map (event_for letter) posts)
all_events P Q letter [] h k = tt
all_events P Q letter (ToModule to event ∷ posts) h k =
    elim (eqb to letter) as (λ b. AllByRecursion Q (cons_option (cond b (Some event) None) (filter_map (event_for letter) posts)))
    [ true ↦ (h to event k.0, all_events P Q letter posts h k.1) | false ↦ all_events P Q letter posts h k.1 ]
all_events P Q letter (ToDoor direct ∷ posts) h k = all_events P Q letter posts h k.1

pub carry_index : EventsCarryTheirIndex
carry_index setup entries n letter =
    all_events (IsSent (here_of (past_at setup entries n)) (ends_at entries n)) (λ event. event.tag.index ≡ n) letter (posts_at setup entries n)
    (λ to event s. s.1 ∙ length_asked setup entries n) (posts_sent setup entries n)

-- all that is posted, over all positions
abbrev pub Goes : Setup → Dispatch → Type 0
Goes setup (ToModule letter event) = (event.tag.link ≡ setup.link) × (serves setup.modules letter ≡ true)
Goes setup (ToDoor direct) = (direct.link ≡ setup.link) × (is_door_reply direct.control ≡ true)

goes : (here : Here) (stops : Bool) (posts : List Dispatch) → AllSent here stops posts → AllByRecursion (Goes here.setup) posts
goes at stops [] h = tt
goes at stops (ToModule letter event ∷ posts) h = ((h.0.0, h.0.2), goes at stops posts h.1)
goes at stops (ToDoor direct ∷ posts) h = (h.0, goes at stops posts h.1)

pub all_flat : {A : Type 0} (P : A → Type 0) (f : ℕ → List A) (from n : ℕ) → ((i : ℕ) → i < from + n → AllByRecursion P (f i)) → AllByRecursion P (flat_map f (range_with_len from n))
all_flat P f from zero h = tt
all_flat P f from (suc n) h = all_append P (f from) (flat_map f (range_with_len (from + 1) n)) (h from (omega arith)) (all_flat P f (from + 1) n (λ i l. h i (omega arith)))

pub all_go : (setup : Setup) (entries : List Entry) → AllByRecursion (Goes setup) (posted setup entries)
unfolding posted
all_go setup entries =
    all_flat (Goes setup) (posts_at setup entries) 0 (length entries)
    (λ i l. goes (here_of (past_at setup entries i)) (ends_at entries i) (posts_at setup entries i) (posts_sent setup entries i))

pub carries_link : RouteCarriesLink
unfolding routed
carries_link setup entries letter = all_events (Goes setup) (λ event. event.tag.link ≡ setup.link) letter (posted setup entries) (λ to event s. s.0) (all_go setup entries)

none_goes_step : (setup : Setup) (letter to : ℕ) (event : Event) (rest : List Event) (b : Bool) → b ≡ eqb to letter → serves setup.modules letter ≡ false → serves setup.modules to ≡ true → rest ≡ [] → cons_option (cond b (Some event) None) rest ≡ []
none_goes_step setup letter to event rest true e not_in is_in h = absurd (false≢true (sym not_in ∙ ap (serves setup.modules) (sym (eqb-true to letter (sym e))) ∙ is_in))
none_goes_step setup letter to event rest false e not_in is_in h = h

none_goes : (setup : Setup) (letter : ℕ) (posts : List Dispatch) → serves setup.modules letter ≡ false → AllByRecursion (Goes setup) posts → filter_map (event_for letter) posts ≡ []
none_goes setup letter [] not_in h = refl
none_goes setup letter (ToModule to event ∷ posts) not_in h = none_goes_step setup letter to event (filter_map (event_for letter) posts) (eqb to letter) refl not_in h.0.1 (none_goes setup letter posts not_in h.1)
none_goes setup letter (ToDoor direct ∷ posts) not_in h = none_goes setup letter posts not_in h.1

pub only_served : OnlyServedAreRouted
unfolding routed
only_served setup entries letter not_in = none_goes setup letter (posted setup entries) not_in (all_go setup entries)
