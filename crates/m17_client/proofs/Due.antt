-- The records of a script that are due: those from the next one on whose moment has come.
use Rattle.std.proofs.Common.{◌≡◌, ℕ, Bool, true, false, cond, suc, zero, ◌+◌, ◌<◌, ◌≤◌, List, [], ◌∷◌, length, filter, drop, nat_le, refl, sym, ap, ◌∙◌, inl, inr, arith, Option, Some}
use Rattle.std.specs.List.{slice_get}
use Rattle.std.proofs.lemmas.Bool.{le-leb, lt-leb}
use Rattle.std.proofs.lemmas.Bool.Decides.{leb_tells}
use Rattle.std.proofs.lemmas.List.{drop_all, drop-drop}
use Rattle.std.proofs.lemmas.List.Sums.{length-filter, count_by-le-length}
use Rattle.m17_stream.specs.declared.packet.StreamPacket.{StreamPacket}
use Rattle.m17_client.specs.declared.progress.Progress.{Progress}
use Rattle.m17_client.specs.Standing.{Standing}
use Rattle.m17_client.specs.Steps.{ClientStep, connected_at, is_connected, ms_since, sends_of}
use Rattle.m17_client.specs.Talk.{IsInOrder, TalkPlan, due_records}
use Rattle.m17_client.specs.TalkSoFar.{IsAfter, due_now}

abbrev Record : Type 0
Record = ℕ × StreamPacket

-- the records whose moment has come
abbrev come : ℕ → List Record → List Record
come limit script = filter (λ due. nat_le due.0 limit) script

tail_in_order : (x : Record) (xs : List Record) → IsInOrder (x ∷ xs) → IsInOrder xs
tail_in_order x xs h = λ n a b at next.
    h (suc n) a b at (let e : suc n + 1 ≡ suc (n + 1) = omega arith in rw e next)

-- no moment is below the first
first_least : (x : Record) (xs : List Record) → IsInOrder (x ∷ xs) → (k : ℕ) (r : Record)
    → slice_get xs k ≡ Some r → x.0 ≤ r.0
first_least x [] h k r at = absurd (cc)
first_least x (y ∷ ys) h zero r at = h 0 x r refl at
first_least x (y ∷ ys) h (suc k) r at =
    let one : x.0 ≤ y.0 = h 0 x y refl refl in
    let rest : y.0 ≤ r.0 = first_least y ys (tail_in_order x (y ∷ ys) h) k r at in omega arith

none_come : (limit : ℕ) (xs : List Record) → ((k : ℕ) (r : Record) → slice_get xs k ≡ Some r → limit < r.0)
    → come limit xs ≡ []
none_come limit [] later = refl
none_come limit (x ∷ xs) later =
    ap (λ b. cond b (x ∷ come limit xs) (come limit xs)) (lt-leb x.0 limit (later 0 x refl))
    ∙ none_come limit xs (λ k r at. later (suc k) r at)

all_later : (limit : ℕ) (x : Record) (xs : List Record) → IsInOrder (x ∷ xs) → limit < x.0 → (k : ℕ) (r : Record)
    → slice_get (x ∷ xs) k ≡ Some r → limit < r.0
all_later limit x xs o later zero r at = let same : x ≡ r = cc in rw (← same) later
all_later limit x xs o later (suc k) r at = let least = first_least x xs o k r at in omega (arith, least)

-- the record at this place has come, and so have all before it
come_here : (limit : ℕ) (xs : List Record) → IsInOrder xs → (n : ℕ) (r : Record) → slice_get xs n ≡ Some r
    → r.0 ≤ limit → (rest : List Record) × (drop n (come limit xs) ≡ r ∷ rest)
come_here limit [] o n r at early = absurd (cc)
come_here limit (x ∷ xs) o zero r at early =
    let same : x ≡ r = cc in
    let here : x.0 ≤ limit = rw same early in (
      come limit xs,
      ap (λ b. cond b (x ∷ come limit xs) (come limit xs)) (le-leb x.0 limit here)
          ∙ ap (λ y. y ∷ come limit xs) same,
    )
come_here limit (x ∷ xs) o (suc k) r at early =
    let least : x.0 ≤ r.0 = first_least x xs o k r at in
    let here : x.0 ≤ limit = omega arith in
    let rest = come_here limit xs (tail_in_order x xs o) k r at early in
    (rest.0, ap (λ b. drop (suc k) (cond b (x ∷ come limit xs) (come limit xs))) (le-leb x.0 limit here) ∙ rest.1)

-- the record at this place has not come, and none behind it has
come_later : (limit : ℕ) (xs : List Record) → IsInOrder xs → (n : ℕ) (r : Record) → slice_get xs n ≡ Some r
    → limit < r.0 → drop n (come limit xs) ≡ []
come_later limit [] o n r at later = absurd (cc)
come_later limit (x ∷ xs) o zero r at later =
    let same : x ≡ r = cc in
    none_come limit (x ∷ xs) (all_later limit x xs o (rw same later))
come_later limit (x ∷ xs) o (suc k) r at later = elim (leb_tells x.0 limit) [
  | inl early ↦ ap (λ b. drop (suc k) (cond b (x ∷ come limit xs) (come limit xs))) early.0
      ∙ come_later limit xs (tail_in_order x xs o) k r at later
  | inr late ↦ ap (λ b. drop (suc k) (cond b (x ∷ come limit xs) (come limit xs))) late.0
      ∙ ap (drop (suc k)) (none_come limit xs (λ j q here.
      let least : x.0 ≤ q.0 = first_least x xs o j q here in omega (arith, late.1)))
]

-- what is due of a client that stands so
abbrev due_of : Standing → ℕ → Option ℕ → List Record → List Record
due_of c sent at script = cond (is_connected c.state) (drop sent (come (ms_since at c) script)) []

-- nothing is due while the client isn't connected, or where all is sent
pub none_due : (p : Progress) (script : List Record) → is_connected p.client.state ≡ false → due_now p script ≡ []
none_due p script off =
    ap (λ b. cond b (drop p.sent (come (ms_since p.connected_at p.client) script)) []) off

either_way : {A : Type 0} (b : Bool) (xs : List A) → xs ≡ [] → cond b xs [] ≡ []
either_way true xs e = e
either_way false xs e = refl

pub all_sent : (p : Progress) (script : List Record) → length script ≤ p.sent → due_now p script ≡ []
all_sent p script long =
    let limit = ms_since p.connected_at p.client in
    let few : length (come limit script) ≤ p.sent = omega (
      arith,
      long,
      length-filter (λ (r : Record). nat_le r.0 limit) script,
      count_by-le-length (λ (r : Record). nat_le r.0 limit) script,
    ) in
    either_way (is_connected p.client.state) (drop p.sent (come limit script))
    (drop_all p.sent (come limit script) few)

-- the next record is due, or it isn't
pub next_is_due : (p : Progress) (script : List Record) (r : Record) → is_connected p.client.state ≡ true
    → IsInOrder script → slice_get script p.sent ≡ Some r → r.0 ≤ ms_since p.connected_at p.client
    → (moment : ℕ) × (rest : List Record) × (due_now p script ≡ (moment, r.1) ∷ rest)
next_is_due p script r on o at early =
    let here = come_here (ms_since p.connected_at p.client) script o p.sent r at early in
    (r.0, here.0, ap (λ b. cond b (drop p.sent (come (ms_since p.connected_at p.client) script)) []) on ∙ here.1)

pub next_is_later : (p : Progress) (script : List Record) (r : Record) → IsInOrder script
    → slice_get script p.sent ≡ Some r → ms_since p.connected_at p.client < r.0 → due_now p script ≡ []
next_is_later p script r o at later =
    let limit = ms_since p.connected_at p.client in
    either_way (is_connected p.client.state) (drop p.sent (come limit script))
    (come_later limit script o p.sent r at later)

-- one record less is due when one is sent
pub due_less : (old new : Progress) (script : List Record) → new.client ≡ old.client
    → new.connected_at ≡ old.connected_at → new.sent ≡ old.sent + 1 → is_connected old.client.state ≡ true
    → due_now new script ≡ drop 1 (due_now old script)
due_less old new script client at sent on =
    ap (λ c. due_of c new.sent new.connected_at script) client
    ∙ ap (λ o. due_of old.client new.sent o script) at
    ∙ ap (λ n. due_of old.client n old.connected_at script) sent
    ∙ ap (λ b. cond b (drop (old.sent + 1) (come (ms_since old.connected_at old.client) script)) []) on
    ∙ sym (drop-drop 1 old.sent (come (ms_since old.connected_at old.client) script))
    ∙ sym (ap (λ b. drop 1 (cond b (drop old.sent (come (ms_since old.connected_at old.client) script)) [])) on)

-- what is due behind the steps is what is due of the client that took them
pub due_is : (plan : TalkPlan) (steps : List ClientStep) (p : Progress) → IsAfter plan.client steps p
    → due_records plan steps ≡ due_now p plan.script
due_is plan steps p h =
    ap (λ c. due_of c (length (sends_of steps)) (connected_at steps) plan.script) (sym h.client)
    ∙ ap (λ n. due_of p.client n (connected_at steps) plan.script) (sym h.sent)
    ∙ ap (λ o. due_of p.client p.sent o plan.script) (sym h.connected)
