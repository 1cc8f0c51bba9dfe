-- What jobs of one type come to that `start_all` started and `join_all` joined.
use Rattle.std.specs.Prelude.{◌≡◌, ◌⊎◌, List, [], ◌++◌, reverse}
use Rattle.std.specs.List.{AllZip}

module _ {A : Type 0} where
  -- The job is as it was, or it was done.
  abbrev pub Ran : (A → A → Type 0) → A → A → Type 0
  Ran does j k = (k ≡ j) ⊎ does j k

  -- What the two calls say where nothing ran before: of the jobs some are left, those behind them
  -- ran, in order, and what these came to stands behind the ones that are left.
  pub record AreBack (does : A → A → Type 0) (jobs before left started back : List A) : Type 0
    where
      pub none_before : before ≡ []
      pub started_in_order : jobs ++ reverse before ≡ left ++ reverse started
      pub joined : (ended : List A) × (back ≡ left ++ ended) × AllZip does (reverse started) ended

-- The jobs come back in their order, each as it was or done.
abbrev pub JobsComeBackInOrder : {A : Type 0} → (A → A → Type 0) → Type 0
JobsComeBackInOrder {A} does = (jobs before left started back : List A)
    → AreBack does jobs before left started back → AllZip (Ran does) jobs back

-- Where none is left, the jobs come back done, in their order.
abbrev pub AllJobsComeBackDone : {A : Type 0} → (A → A → Type 0) → Type 0
AllJobsComeBackDone {A} does = (jobs before left started back : List A)
    → AreBack does jobs before left started back → left ≡ [] → AllZip does jobs back
