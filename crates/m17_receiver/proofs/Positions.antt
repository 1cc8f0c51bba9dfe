-- What stands at the positions of a list of entries with one more behind.
use Rattle.std.proofs.Common.{◌≡◌, ℕ, suc, ◌<◌, ◌≤◌, true, false, List, [], ◌∷◌, ◌++◌, length, take, slice_get, refl, ap, sym, ◌∙◌, arith, Option, None, Some}
use Rattle.std.specs.Option.{option_and_then}
use Rattle.std.proofs.lemmas.List.{take-append-le}
use Rattle.std.proofs.lemmas.Option.{none-some, slice_get_within}
use Rattle.m17_lists.proofs.Places.{places_before_stay, one_more_stands_at_the_end}
use Rattle.m17_lists.proofs.Lengths.{one_more_is_one_longer}
use Rattle.m17_directory.specs.Entries.{Claim, Entry, Setup, notice_of, notice_at, claim_at}
use Rattle.m17_directory.specs.Outcome.{Outcome}
use Rattle.m17_directory.specs.Routed.{past_at, asks_at, is_asks, unclaimed_at, others_at, settled_at, both, outcome_at, link_verdict}
use Rattle.m17_receiver.specs.SoFar.{Laws, past_with}

pub notice_before : (entries : List Entry) (e : Entry) (n : ℕ) → n < length entries → notice_at (entries ++ e ∷ []) n ≡ notice_at entries n
notice_before entries e n l = ap notice_of (places_before_stay entries (e ∷ []) n l)

pub claim_before : (entries : List Entry) (e : Entry) (n : ℕ) → n < length entries → claim_at (entries ++ e ∷ []) n ≡ claim_at entries n
claim_before entries e n l = ap (option_and_then (λ (entry : Entry). entry.claim)) (places_before_stay entries (e ∷ []) n l)

pub notice_end : (entries : List Entry) (e : Entry) → notice_at (entries ++ e ∷ []) (length entries) ≡ e.notice
notice_end entries e = ap notice_of (one_more_stands_at_the_end entries e)

pub claim_end : (entries : List Entry) (e : Entry) → claim_at (entries ++ e ∷ []) (length entries) ≡ e.claim
claim_end entries e = ap (option_and_then (λ (entry : Entry). entry.claim)) (one_more_stands_at_the_end entries e)

-- a position with a claim is one of the list
claim_within : (entries : List Entry) (n : ℕ) (claim : Claim) (o : Option Entry) → slice_get entries n ≡ o → option_and_then (λ (entry : Entry). entry.claim) o ≡ Some claim → n < length entries
claim_within entries n claim None is has = absurd (none-some claim has)
claim_within entries n claim (Some e) is has = slice_get_within entries n e is

pub claim_within_more : (entries : List Entry) (e : Entry) (n : ℕ) (claim : Claim) → claim_at (entries ++ e ∷ []) n ≡ Some claim → n < suc (length entries)
claim_within_more entries e n claim has =
    let l : n < length (entries ++ e ∷ []) = claim_within (entries ++ e ∷ []) n claim (slice_get (entries ++ e ∷ []) n) refl has in
    omega (arith, l, one_more_is_one_longer entries e)

take_before : (entries : List Entry) (e : Entry) (n : ℕ) → n ≤ length entries → take n (entries ++ e ∷ []) ≡ take n entries
take_before entries e n l = take-append-le n entries (e ∷ []) l

pub heard_before : Laws → (setup : Setup) (entries : List Entry) (e : Entry) (n : ℕ) → n < length entries → unclaimed_at (past_at setup (entries ++ e ∷ []) n) ≡ unclaimed_at (past_at setup entries n)
heard_before law setup entries e n l = law.before.heard setup (entries ++ e ∷ []) entries n (take_before entries e n (omega arith)) (notice_before entries e n l)

pub asks_before : Laws → (setup : Setup) (entries : List Entry) (e : Entry) (n : ℕ) → n < length entries → asks_at (past_at setup (entries ++ e ∷ []) n) ≡ asks_at (past_at setup entries n)
asks_before law setup entries e n l =
    ap (λ (o : Outcome). is_asks o.verdict) (law.before.heard setup (entries ++ e ∷ []) entries n (take_before entries e n (omega arith)) (notice_before entries e n l))

pub others_before : Laws → (setup : Setup) (entries : List Entry) (e : Entry) (n : ℕ) → n < length entries → others_at (past_at setup (entries ++ e ∷ []) n) ≡ others_at (past_at setup entries n)
others_before law setup entries e n l =
    law.before.others setup (entries ++ e ∷ []) entries n (take_before entries e n (omega arith)) (notice_before entries e n l)

pub verdict_before : Laws → (setup : Setup) (entries : List Entry) (e : Entry) (n : ℕ) → n < length entries → link_verdict setup (entries ++ e ∷ []) n ≡ link_verdict setup entries n
unfolding link_verdict
verdict_before law setup entries e n l = ap (λ (o : Outcome). o.verdict) (law.later setup entries (e ∷ []) n l)

-- the last entry before its claim, whatever the claim
pub heard_same : Laws → (setup : Setup) (entries : List Entry) (a b : Entry) → a.notice ≡ b.notice → unclaimed_at (past_with setup entries a) ≡ unclaimed_at (past_with setup entries b)
heard_same law setup entries a b same =
    let n : ℕ = length entries in
    law.before.heard setup (entries ++ a ∷ []) (entries ++ b ∷ []) n (take_before entries a n (omega arith) ∙ sym (take_before entries b n (omega arith)))
    (notice_end entries a ∙ same ∙ sym (notice_end entries b))

pub others_same : Laws → (setup : Setup) (entries : List Entry) (a b : Entry) → a.notice ≡ b.notice → others_at (past_with setup entries a) ≡ others_at (past_with setup entries b)
others_same law setup entries a b same =
    let n : ℕ = length entries in
    law.before.others setup (entries ++ a ∷ []) (entries ++ b ∷ []) n (take_before entries a n (omega arith) ∙ sym (take_before entries b n (omega arith)))
    (notice_end entries a ∙ same ∙ sym (notice_end entries b))

-- what an entry comes to that does not ask, and that asks
pub unasked_is : Laws → (setup : Setup) (entries : List Entry) (e : Entry) → asks_at (past_with setup entries e) ≡ false →
    outcome_at setup (entries ++ e ∷ []) (length entries) ≡ unclaimed_at (past_with setup entries e)
unasked_is law setup entries e silent = law.complete.other setup (entries ++ e ∷ []) (length entries) silent

pub asked_is : Laws → (setup : Setup) (entries : List Entry) (e : Entry) → asks_at (past_with setup entries e) ≡ true →
    outcome_at setup (entries ++ e ∷ []) (length entries) ≡ both (unclaimed_at (past_with setup entries e)) (settled_at (past_with setup entries e) e.claim)
asked_is law setup entries e asks =
    law.complete.asking setup (entries ++ e ∷ []) (length entries) asks
    ∙ ap (λ c. both (unclaimed_at (past_with setup entries e)) (settled_at (past_with setup entries e) c)) (claim_end entries e)
