-- What the maker keeps, entry by entry, is what the rule has, and so is what it makes.
use Rattle.std.proofs.Common.{◌≡◌, ℕ, zero, suc, ◌+◌, ◌-◌, ◌%◌, ◌<◌, ◌≤◌, ◌≢◌, false, nat_eq, nat_lt, [], ◌∷◌, length, refl, sym, ap, subst, ◌∙◌, arith, add-one, slice_index_or, slice_set}
use Rattle.std.proofs.lemmas.Bool.{eqb-true, eq-eqb}
use Rattle.std.proofs.lemmas.Bool.Decides.{nat_tests}
use Rattle.std.proofs.lemmas.List.{get_or-set_same, get_or-set_other}
use Rattle.m17_text_commands.specs.declared.made.Made.{Made}
use Rattle.m17_text_commands.specs.declared.made.Made.TheVariants.{Conn, Pong}
use Rattle.m17_text_commands.specs.declared.talk.Talk.{Talk}
use Rattle.m17_text_commands.specs.Draws.{number_after}
use Rattle.m17_text_commands.specs.Streams.{Stand, Turn, turn}
use Rattle.m17_text_commands.specs.Moments.{hotspots, entry_moment}
use Rattle.m17_text_commands.specs.Made.{heard_as, IsSound}
use Rattle.m17_text_commands.specs.Make.{Found, is_pong, comes_at, found_after, found_at, entry_made, entry_heard}
use Rattle.m17_text_commands.specs.Talk.{silent, taken}
use Rattle.m17_text_commands.specs.Maker.{Evening, taken_at, made_at, after_turn, after, kept_before, IsDrawnFrom}
use Rattle.m17_text_commands.proofs.Choices.{by_test, by_test_3}
use Rattle.m17_text_commands.proofs.Turns.{Has, turn_is}
use Rattle.m17_text_commands.proofs.Evenings.{calm_before, made_fits}

-- the maker has what the entry finds by the rule
pub record Keeps (seed : ℕ) (found : Found) (e : Evening) : Type 0 where
  pub drawn_is : e.x ≡ number_after seed found.drawn
  pub has : (m : ℕ) → m < 3 → Has m (found.stands m) (slice_index_or e.talks m silent)

-- the maker makes what comes by the rule, and has then what the next entry finds
pub record IsEntry (seed m : ℕ) (found : Found) (turn : Turn) (made : Made) (after_it : Evening) : Type 0 where
  pub made_is : made ≡ turn.made
  pub keeps : Keeps seed (found_after m turn found) after_it

-- an entry that is no turn changes nothing
stays : (seed m : ℕ) (found : Found) (made : Made) (e : Evening) → Keeps seed found e
    → Keeps seed (found_after m (record { made = made; draws = 0; stand = found.stands m }) found) (record e { entry = e.entry + 1 })
stays seed m found made e keeps = record {
  drawn_is = keeps.drawn_is ∙ ap (number_after seed) (omega arith);
  has = λ k h.
      by_test (λ (stand : Stand). Has k stand (slice_index_or e.talks k silent)) (nat_eq k m) (found.stands m) (found.stands k)
      (λ same. subst (λ (i : ℕ). Has k (found.stands i) (slice_index_or e.talks k silent)) (eqb-true k m same) (keeps.has k h))
      (λ other. keeps.has k h);
}

differs : (k m : ℕ) → nat_eq k m ≡ false → k ≢ m
differs k m other = λ same. cc (eq-eqb k m same, other)

-- a turn of module m changes what it has
turned : (seed m : ℕ) (found : Found) (e : Evening) → m < 3 → length e.talks ≡ 3 → Keeps seed found e
    → IsEntry seed m found (turn seed m found.drawn (found.stands m)) (taken m e.x (slice_index_or e.talks m silent)).made (after_turn m (taken m e.x (slice_index_or e.talks m silent)) e)
turned seed m found e below three keeps =
    let talk : Talk = (taken m e.x (slice_index_or e.talks m silent)).talk in
    let stand : Stand = (turn seed m found.drawn (found.stands m)).stand in
    let it = turn_is seed m found.drawn e.x (found.stands m) (slice_index_or e.talks m silent) below keeps.drawn_is (keeps.has m below) in
    let here : slice_index_or (slice_set e.talks m talk) m silent ≡ talk = get_or-set_same e.talks m talk silent (omega arith) in
    record {
      made_is = it.made_is;
      keeps = record {
        drawn_is = it.drawn_is;
        has = λ k h.
            by_test (λ (stand : Stand). Has k stand (slice_index_or (slice_set e.talks m talk) k silent)) (nat_eq k m) stand (found.stands k)
            (λ same. subst (λ (i : ℕ). Has i stand (slice_index_or (slice_set e.talks m talk) i silent)) (sym (eqb-true k m same))
            (subst (λ (u : Talk). Has m stand u) (sym here) it.has))
            (λ other. subst (λ (u : Talk). Has k (found.stands k) u) (sym (get_or-set_other e.talks m k talk silent (differs k m other))) (keeps.has k h));
      };
    }

same_module : (j : ℕ) → nat_lt j hotspots ≡ false → (j - hotspots) % 3 ≡ j % 3
same_module j late =
    let past : 12 ≤ j = grind (arith, nat_tests) in
    omega arith

entry_is : (seed : ℕ) (found : Found) (e : Evening) → length e.talks ≡ 3 → Keeps seed found e → IsEntry seed (e.entry % 3) found (comes_at seed e.entry found) (made_at e) (after e)
unfolding comes_at made_at after
entry_is seed found e three keeps =
    by_test_3 (IsEntry seed (e.entry % 3) found) (nat_lt e.entry hotspots) _ _ _ _ _ _
    (λ early. record { made_is = refl; keeps = stays seed (e.entry % 3) found (Conn e.entry) e keeps })
    (λ late. by_test_3 (IsEntry seed (e.entry % 3) found) (is_pong (e.entry - hotspots)) _ _ _ _ _ _
    (λ pong. record { made_is = refl; keeps = stays seed (e.entry % 3) found (Pong ((e.entry - hotspots) % 300)) e keeps })
    (λ other.
    let u : ℕ = e.entry - hotspots in
    subst (λ (m : ℕ). IsEntry seed m found (turn seed m found.drawn (found.stands m)) (taken_at u e).made (after_turn (u % 3) (taken_at u e) e))
    (same_module e.entry late) (turned seed (u % 3) found e (omega arith) three keeps)))

-- entry j, where the maker has what it finds
is_entry : (seed j : ℕ) → Keeps seed (found_at seed j) (kept_before seed j)
    → IsEntry seed (j % 3) (found_at seed j) (comes_at seed j (found_at seed j)) (made_at (kept_before seed j)) (after (kept_before seed j))
is_entry seed j keeps =
    subst (λ (n : ℕ). IsEntry seed (n % 3) (found_at seed j) (comes_at seed n (found_at seed j)) (made_at (kept_before seed j)) (after (kept_before seed j)))
    (calm_before seed j).entry_is (entry_is seed (found_at seed j) (kept_before seed j) (calm_before seed j).three keeps)

silent_has : (m : ℕ) → Has m (Stand.Rests 0) (slice_index_or (silent ∷ silent ∷ silent ∷ []) m silent)
silent_has zero = (refl, refl, refl)
silent_has (suc zero) = (refl, refl, refl)
silent_has (suc (suc zero)) = (refl, refl, refl)
silent_has (suc (suc (suc m))) = (refl, refl, refl)

keeps_before : (seed j : ℕ) → Keeps seed (found_at seed j) (kept_before seed j)
unfolding found_at kept_before number_after
keeps_before seed zero = record { drawn_is = refl; has = λ m h. silent_has m }
keeps_before seed (suc j) = (is_entry seed j (keeps_before seed j)).keeps

-- what the maker makes is the entry of the rule, and it fits
pub made_same : (seed j : ℕ) → made_at (kept_before seed j) ≡ entry_made seed j
made_same seed j = (is_entry seed j (keeps_before seed j)).made_is

pub entry_fits : (seed j : ℕ) → IsSound (entry_made seed j)
entry_fits seed j = subst IsSound (made_same seed j) (made_fits j (kept_before seed j) (calm_before seed j))

-- ---- a maker that draws from a seed

pub entry_after : (e : Evening) → (after e).entry ≡ e.entry + 1
unfolding after
entry_after e = by_test (λ (e' : Evening). e'.entry ≡ e.entry + 1) (nat_lt e.entry hotspots) _ _
    (λ early. refl)
    (λ late. by_test (λ (e' : Evening). e'.entry ≡ e.entry + 1) (is_pong (e.entry - hotspots)) _ _ (λ pong. refl) (λ other. refl))

pub drawn_on : (seed : ℕ) (e e' : Evening) → e' ≡ after e → IsDrawnFrom seed e → IsDrawnFrom seed e'
unfolding kept_before
drawn_on seed e e' is drawn =
    let next : e'.entry ≡ suc e.entry = ap (λ (e : Evening). e.entry) is ∙ entry_after e ∙ add-one e.entry in
    is ∙ ap after drawn ∙ ap (kept_before seed) (sym next)

pub heard_is : (seed : ℕ) (e : Evening) → IsDrawnFrom seed e → heard_as (entry_moment e.entry) (made_at e) ≡ entry_heard seed e.entry
heard_is seed e drawn =
    ap (λ (e' : Evening). heard_as (entry_moment e.entry) (made_at e')) drawn ∙ ap (heard_as (entry_moment e.entry)) (made_same seed e.entry)
