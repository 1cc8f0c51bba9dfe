-- Whoever is known has a place of its own, given by a claim: where as many are known as there are places, each was claimed.
use Rattle.std.proofs.Common.{◌≡◌, ◌⊎◌, ℕ, zero, suc, ◌<◌, ◌≤◌, Bool, true, false, cond, not, List, [], ◌∷◌, length, filter, Option, None, Some, inl, inr, refl, ap, sym, ◌∙◌, subst, arith}
use Rattle.std.specs.List.{AllByRecursion}
use Rattle.std.proofs.lemmas.Bool.{eqb-true}
use Rattle.m17_directory.specs.declared.known.Known.{Known}
use Rattle.m17_directory.specs.Entries.{Claim, Entry, Setup, claim_at, peers_named}
use Rattle.m17_directory.specs.Known.{Past, row_at, known_at}
use Rattle.m17_directory.specs.Outcome.{has_place}
use Rattle.m17_directory.specs.Routed.{others_at, asks_at, asked_before, past_at}
use Rattle.m17_directory.specs.Fits.{OthersFitThePlaces}
use Rattle.m17_directory.specs.Laws.{ClaimsAreAsked, ClaimsArePlaced, AllPlacesAreClaimed}
use Rattle.m17_directory.proofs.Bounds.{IsSeated, seated_none, seated_known, seated_filter, seated_put, seated_length, freed, fewer_than_places}
use Rattle.m17_directory.proofs.Later.{has_row}
use Rattle.m17_directory.proofs.AllPosts.{all_found, others_all}
use Rattle.m17_directory.proofs.LawWho.{here, ends, rows, notice, others_are, known_next, row, known_claim}
use Rattle.m17_directory.proofs.Same.{length_asked}

nobody_first : (setup : Setup) (entries : List Entry) → known_at (past_at setup entries zero) ≡ []
unfolding known_at asked_before peers_named
nobody_first setup entries = refl

-- A claim of an earlier entry is of its member.
abbrev IsClaimedBefore : List Entry → ℕ → Known → Type 0
IsClaimedBefore entries n k = (i : ℕ) × (claim : Claim) × (i < n) × (claim_at entries i ≡ Some claim) × (claim.member ≡ k.member)

known_claimed_before : (setup : Setup) (entries : List Entry) (n : ℕ) → AllByRecursion (IsClaimedBefore entries n) (known_at (past_at setup entries n))
unfolding known_at
known_claimed_before setup entries n =
    let past : Past = past_at setup entries n in
    all_found (IsClaimedBefore entries n) (row_at past) _
    (λ x k e. let it = has_row past x k e in
    let below : it.position < length past.asked = it.below in
    let many : length past.asked ≡ n = length_asked setup entries n in
    (it.position, it.claim, omega arith, it.given, ap (λ (r : Known). r.member) it.is))

-- somebody is at a place, or nobody
record IsAt (P : Known → Type 0) (q : ℕ) : Type 0 where
  known : Known
  such : P known
  place : known.member.place ≡ q

there_step : (P : Known → Type 0) (q : ℕ) (k : Known) (ks : List Known) (b : Bool) → has_place q k ≡ b → P k → (IsAt P q) ⊎ (filter (λ r. not (has_place q r)) ks ≡ ks) → (IsAt P q) ⊎ (cond (not b) (k ∷ filter (λ r. not (has_place q r)) ks) (filter (λ r. not (has_place q r)) ks) ≡ k ∷ ks)
there_step P q k ks true e h rest = inl (record { known = k; such = h; place = eqb-true k.member.place q e })
there_step P q k ks false e h (inl found) = inl found
there_step P q k ks false e h (inr none) = inr (ap (λ (l : List Known). k ∷ l) none)

there : (P : Known → Type 0) (q : ℕ) (ks : List Known) → AllByRecursion P ks → (IsAt P q) ⊎ (filter (λ r. not (has_place q r)) ks ≡ ks)
there P q [] h = inr refl
there P q (k ∷ ks) h = there_step P q k ks (has_place q k) refl h.0 (there P q ks h.1)

module _ (setup : Setup) (entries : List Entry) (asked : ClaimsAreAsked setup entries) (placed : ClaimsArePlaced setup entries) where
  abbrev Seated : ℕ → Type 0
  Seated n = IsSeated setup.places (known_at (past_at setup entries n))

  next_plain : (n : ℕ) → claim_at entries n ≡ None → Seated n → Seated (suc n)
  next_plain n none h =
      let past : Past = past_at setup entries n in
      subst (IsSeated setup.places) (sym (known_next setup entries n none)) (seated_known setup.places (here past) (ends past) (rows past) (notice past) h)

  others_seated : (n : ℕ) → asks_at (past_at setup entries n) ≡ true → Seated n → IsSeated setup.places (others_at (past_at setup entries n))
  others_seated n asks h =
      let past : Past = past_at setup entries n in
      subst (IsSeated setup.places) (others_are past asks) (seated_known setup.places (here past) (ends past) (rows past) (notice past) h)

  next_claim : (n : ℕ) (within : n < length entries) (asks : asks_at (past_at setup entries n) ≡ true) (claim : Claim) → claim_at entries n ≡ Some claim → Seated n → Seated (suc n)
  next_claim n within asks claim given h =
      let others : List Known = others_at (past_at setup entries n) in
      let place : ℕ = claim.member.place in
      subst (IsSeated setup.places) (sym (known_claim setup entries n within asks claim given))
      (seated_put setup.places (row setup entries n within asks claim given) (filter (λ k. not (has_place place k)) others) (placed n claim given) (freed place others)
      (seated_filter setup.places (λ k. not (has_place place k)) others (others_seated n asks h)))

  next : (n : ℕ) (b : Bool) (o : Option Claim) → n < length entries → asks_at (past_at setup entries n) ≡ b → claim_at entries n ≡ o → Seated n → Seated (suc n)
  next n true (Some claim) within asks given h = next_claim n within asks claim given h
  next n true None within asks given h = next_plain n given h
  next n false o within asks given h = next_plain n (asked n within asks) h

  seated_upto : (n : ℕ) → n ≤ length entries → Seated n
  seated_upto zero h = subst (IsSeated setup.places) (sym (nobody_first setup entries)) (seated_none setup.places)
  seated_upto (suc n) h = next n (asks_at (past_at setup entries n)) (claim_at entries n) (omega arith) refl refl (seated_upto n (omega arith))

pub all_claimed : AllPlacesAreClaimed
all_claimed setup entries n q asked placed within asks many inside =
    let others : List Known = others_at (past_at setup entries n) in
    let seated = others_seated setup entries asked placed n asks (seated_upto setup entries asked placed n (omega arith)) in
    elim (there (IsClaimedBefore entries n) q others (others_all (IsClaimedBefore entries n) (past_at setup entries n) (known_claimed_before setup entries n))) [
      | inl it ↦ (it.such.0, it.such.1, it.such.2, it.such.3, ap (λ m. m.place) it.such.4 ∙ it.place)
      | inr none ↦ absurd (let few = fewer_than_places setup.places q others inside seated in let same = ap length none in omega arith)
    ]

pub others_fit : OthersFitThePlaces
others_fit setup entries n asked placed within asks =
    seated_length setup.places (others_at (past_at setup entries n))
    (others_seated setup entries asked placed n asks (seated_upto setup entries asked placed n (omega arith)))
