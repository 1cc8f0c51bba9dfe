-- Whom the events of a route are of: those that were given a place by a claim.
use Rattle.std.proofs.Common.{◌≡◌, ℕ, Bool, true, false, cond, eqb, List, [], ◌∷◌, length, filter_map, Option, None, Some, ap, sym, ◌∙◌}
use Rattle.std.specs.List.{AllByRecursion, cons_option}
use Rattle.m17_values.specs.declared.member.Member.{Member}
use Rattle.m17_control.specs.declared.event.Event.{Event}
use Rattle.m17_directory.specs.declared.dispatch.Dispatch.{Dispatch}
use Rattle.m17_directory.specs.declared.dispatch.Dispatch.TheVariants.{ToModule, ToDoor}
use Rattle.m17_directory.specs.declared.known.Known.{Known}
use Rattle.m17_directory.specs.Entries.{Claim, Entry, Setup, claim_at}
use Rattle.m17_directory.specs.Known.{now, row_at, known_at}
use Rattle.m17_directory.specs.Routed.{past_at, posts_at, posted, event_for, routed}
use Rattle.m17_directory.specs.Laws.{member_of, RouteIsOfClaimed}
use Rattle.m17_directory.proofs.Later.{has_row}
use Rattle.m17_directory.proofs.AllPosts.{all_found, each_replaced, all_posts}
use Rattle.m17_directory.proofs.LawRouted.{all_flat}

module _ (test : Member → Bool) where
  -- such rows, and what is posted of such
  abbrev Such : List Known → Type 0
  Such rows = AllByRecursion (λ (k : Known). test k.member ≡ true) rows

  abbrev OfSuch : Option Member → Type 0
  OfSuch None = Unit {0}
  OfSuch (Some k) = test k ≡ true

  abbrev IsOfSuch : Dispatch → Type 0
  IsOfSuch (ToModule letter event) = OfSuch (member_of event.body)
  IsOfSuch (ToDoor direct) = Unit {0}

  abbrev AllOfSuch : List Dispatch → Type 0
  AllOfSuch posts = AllByRecursion IsOfSuch posts

  module _ (setup : Setup) (entries : List Entry) (claims : (n : ℕ) (claim : Claim) → claim_at entries n ≡ Some claim → test claim.member ≡ true) where
    such_known : (n : ℕ) → Such (known_at (past_at setup entries n))
    unfolding known_at
    such_known n =
        all_found (λ (k : Known). test k.member ≡ true) (row_at (past_at setup entries n)) _
        (λ x k e. let row = has_row (past_at setup entries n) x k e in ap (λ (r : Known). test r.member) (sym row.is) ∙ claims row.position row.claim row.given)

    such_posts : (n : ℕ) → AllOfSuch (posts_at setup entries n)
    such_posts n = all_posts IsOfSuch (λ (k : Known). test k.member ≡ true) setup entries n (record {
      known = such_known n;
      leaves = λ k w s other. s;
      tick = λ letter s. tt;
      stop = λ letter s e. tt;
      door = λ x reply is. tt;
      frame = λ k p s. s;
      reply = λ k reply s. s;
      replaced = λ c given. each_replaced IsOfSuch (λ (k : Known). test k.member ≡ true) (past_at setup entries n) c (such_known n) (λ k s. s);
      join = λ c given x request asks wants. claims (now (past_at setup entries n)) c given;
    })

    such_posted : AllOfSuch (posted setup entries)
    unfolding posted
    such_posted = all_flat IsOfSuch (posts_at setup entries) 0 (length entries) (λ i l. such_posts i)

  named_step : (o : Option Member) (rest : List Member) → OfSuch o → AllByRecursion (λ k. test k ≡ true) rest → AllByRecursion (λ k. test k ≡ true) (cons_option o rest)
  named_step None rest h k = k
  named_step (Some m) rest h k = (h, k)

  named : (letter : ℕ) (posts : List Dispatch) → AllOfSuch posts → AllByRecursion (λ k. test k ≡ true) (filter_map (λ (event : Event). member_of event.body) (filter_map (event_for letter) posts))
  named letter [] h = tt
  named letter (ToModule to event ∷ posts) h =
      elim (eqb to letter) as (λ b. AllByRecursion (λ k. test k ≡ true) (filter_map (λ (e : Event). member_of e.body) (cons_option (cond b (Some event) None) (filter_map (event_for letter) posts))))
      [ true ↦ named_step (member_of event.body) _ h.0 (named letter posts h.1) | false ↦ named letter posts h.1 ]
  named letter (ToDoor direct ∷ posts) h = named letter posts h.1

pub of_claimed : RouteIsOfClaimed
unfolding routed
of_claimed setup entries letter test claims = named test letter (posted setup entries) (such_posted test setup entries claims)
