-- Jobs of one kind, with the ends of their orders, before they are started and after they are joined.
use Rattle.std.specs.Prelude.{◌≡◌, ◌+◌, ◌≤◌, ℕ, List, [], ◌∷◌, ◌++◌, length, reverse, All}
use Rattle.std.specs.List.{AllZip}
use Rattle.m17_lane.specs.Ends.{PushEnd}
use Rattle.m17_crew.specs.declared.order.Order.{Order}
use Rattle.m17_lane.specs.Rows.{push_each}

-- The jobs of a group, and the ends of their orders.
pub record Staff (A : Type 0) : Type 0 where
  pub jobs : List A
  pub orders : List (PushEnd Order)

module _ {A : Type 0} where
  abbrev pub staff : List A → List (PushEnd Order) → Staff A
  staff jobs orders = record { jobs = jobs; orders = orders }

  -- The jobs can be started: each is ready, none runs, and there is room for all of them to.
  pub record CanStart (ready : A → Type 0) (jobs running : List A) (room : ℕ) : Type 0 where
    pub each : All ready jobs
    pub none : running ≡ []
    pub enough : length jobs ≤ room

  -- Each job came back in its place and was told these orders, and is to what it was as `does` says.
  pub record WereTold (does : A → A → Type 0) (told : List Order) (before after : Staff A)
      : Type 0 where
    pub jobs : AllZip does before.jobs after.jobs
    pub orders : after.orders ≡ push_each (λ _. told) 0 before.orders

  -- For proofs: of these jobs some are left and the others, behind them, run, the last first; and there
  -- is room for them to come back.
  pub record IsUnderway (jobs left running : List A) (room : ℕ) : Type 0 where
    pub in_order : jobs ≡ left ++ reverse running
    pub enough : length left + length running ≤ room

-- For proofs: an order was told to each of these ends, as the last one.
abbrev pub AreTold : List (PushEnd Order) → Type 0
AreTold ends = (order : Order) × (before : List (PushEnd Order))
    × (ends ≡ push_each (λ _. order ∷ []) 0 before)
