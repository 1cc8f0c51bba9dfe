-- The rule of a lane, for proofs alone: what the queue holds, and what each pass knows.
use Rattle.std.specs.Prelude.{◌≡◌, ℕ, ◌+◌, ◌^◌, ◌-◌, ◌<◌, ◌≤◌, true, false, cond, nat_le, List, [], ◌∷◌, ◌++◌, length}
use mathlib.Core.Option.{some}
use lib.ListN.{get_elem?}
use Rattle.m17_lane.specs.declared.rule.Hand.{Hand}
use Rattle.m17_lane.specs.Ends.{PushEnd}
use Rattle.m17_lane.specs.Orders.{items_of, part, EachLog, HasLog, Apart}

module _ {A : Type 0} where
  abbrev pub IsPrefix : List A → List A → Type 0
  IsPrefix xs ys = (rest : List A) × (ys ≡ xs ++ rest)

  abbrev pub longer : List A → List A → List A
  longer a b = cond (nat_le (length a) (length b)) b a

module _ {T : Type 0} where
  -- the view of the pass of producer p, in a lane of n producers
  abbrev pub pusher : ℕ → ℕ → List T → List (ℕ × T) → List T → Hand T
  pusher n p put seen refused = record {
    parts = 1;
    pops = false;
    producers = n;
    made = 0;
    logs = (p, put) ∷ [];
    got = [];
    seen = seen;
    refused = refused ∷ [];
  }

  -- the view of the consumer's pass with k parts, in a lane of n producers of which m were made
  abbrev pub popper : ℕ → ℕ → ℕ → List (ℕ × List T) → List T → List (ℕ × T) → List (List T) → Hand T
  popper k n m logs got seen refused = record {
    parts = k;
    pops = true;
    producers = n;
    made = m;
    logs = logs;
    got = got;
    seen = seen;
    refused = refused;
  }

  -- the view of a pass that does nothing any more
  abbrev pub idle : Hand T
  idle = record {
    parts = 0;
    pops = false;
    producers = 0;
    made = 0;
    logs = [];
    got = [];
    seen = [];
    refused = [];
  }

  abbrev pub first_number : List (ℕ × List T) → ℕ
  first_number [] = 0
  first_number (l ∷ ls) = l.0

  abbrev pub first_log : List (ℕ × List T) → List T
  first_log [] = []
  first_log (l ∷ ls) = l.1

  abbrev pub first_refused : List (List T) → List T
  first_refused [] = []
  first_refused (l ∷ ls) = l

  abbrev pub IsPusher : Hand T → Type 0
  IsPusher v = v
      ≡ pusher v.producers (first_number v.logs) (first_log v.logs) v.seen (first_refused v.refused)

  abbrev pub IsPopper : Hand T → Type 0
  IsPopper v = v ≡ popper v.parts v.producers v.made v.logs v.got v.seen v.refused

  -- after a push of x the view has it in its list, and knows the whole order
  abbrev pub put_in : Hand T → T → List (ℕ × T) → Hand T
  put_in v x seen =
      pusher v.producers (first_number v.logs) (first_log v.logs ++ x ∷ []) seen
      (first_refused v.refused)

  abbrev pub got_by : Hand T → T → Hand T
  got_by v x = popper v.parts v.producers v.made v.logs (v.got ++ x ∷ []) v.seen v.refused

  abbrev pub refuse : Hand T → List T → Hand T
  refuse v xs =
      pusher v.producers (first_number v.logs) (first_log v.logs) v.seen
      (first_refused v.refused ++ xs)

  abbrev pub declared_by : Hand T → Hand T
  declared_by v = popper v.parts (v.producers + 1) v.made v.logs v.got v.seen v.refused

  abbrev pub hired_by : Hand T → Hand T
  hired_by v = popper (v.parts - 1) v.producers (v.made + 1) v.logs v.got v.seen v.refused

  abbrev pub joined_to : Hand T → Hand T → Hand T
  joined_to v u =
      popper (v.parts + u.parts) v.producers v.made (u.logs ++ v.logs) v.got
      (longer v.seen u.seen) (u.refused ++ v.refused)

  -- a pusher's lists and its part have come back to the popper's view
  abbrev pub with_back : Hand T → PushEnd T → List (ℕ × T) → Hand T
  with_back v p seen =
      popper (v.parts + 1) v.producers v.made ((p.number, p.pushed) ∷ v.logs) v.got seen
      (p.refused ∷ v.refused)

  abbrev pub parts_of : List (Hand T) → ℕ
  parts_of [] = 0
  parts_of (v ∷ vs) = v.parts + parts_of vs

  -- each producer's number in the order is below n
  abbrev pub EachFrom : ℕ → List (ℕ × T) → Type 0
  EachFrom n [] = Unit {0}
  EachFrom n (e ∷ es) = (e.0 < n) × EachFrom n es

  -- what the view v of a pass has to do with the order, what was popped, and the pass that holds each producer's list
  pub record Fits (order : List (ℕ × T)) (got : List T) (seat : ℕ → ℕ)
      (reader producers made pass : ℕ) (v : Hand T) : Type 0 where
    pub logs : EachLog (λ p l. (seat p ≡ pass) × (l ≡ part p order) × (p < made)) v.logs
    pub reads : v.pops ≡ true → (pass ≡ reader) × (v.got ≡ got) × (v.made ≡ made)
    pub knows : 0 < v.parts → v.producers ≡ producers
    pub idles : v.parts ≡ 0 → (v.logs ≡ []) × (v.seen ≡ [])
    pub begins : IsPrefix v.seen order
    pub apart : Apart v.logs

  abbrev pub Covers : (ℕ → ℕ) → ℕ → List (Hand T) → Type 0
  Covers seat made views =
      (p : ℕ) → p < made → (v : Hand T) × (get_elem? views (seat p) ≡ some v) × HasLog p v.logs

  abbrev pub Last : List (ℕ × T) → List (Hand T) → Type 0
  Last order views = (pass : ℕ) × (v : Hand T) × (get_elem? views pass ≡ some v) × (v.seen ≡ order)

  abbrev pub AllFit : (ℕ → Hand T → Type 0) → List (Hand T) → Type 0
  AllFit F views = (pass : ℕ) (v : Hand T) → get_elem? views pass ≡ some v → F pass v

  -- at every step: each producer's list is its part of the order, what was popped begins it, and the queue holds the rest
  pub record IsLane (items : List T) (views : List (Hand T)) : Type 0 where
    pub order : List (ℕ × T)
    pub got : List T
    pub seat : ℕ → ℕ
    pub reader : ℕ
    pub producers : ℕ
    pub made : ℕ
    pub queued : items_of order ≡ got ++ items
    pub shared : parts_of views ≡ 2 ^ 32
    pub within : made ≤ producers
    pub from : EachFrom made order
    pub covered : Covers seat made views
    pub last : Last order views
    pub fits : AllFit (Fits order got seat reader producers made) views
