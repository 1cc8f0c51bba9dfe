-- What is told of new devices.
use Rattle.std.proofs.Common.{◌≡◌, ℕ, List, map, length, All, sym, ◌∙◌}
use Rattle.std.proofs.lemmas.List.{length-map}
use Rattle.m17_ports.specs.declared.shelf.Shelf.{Shelf}
use Rattle.m17_ports.specs.Book.{BookTold, IsNewBook}
use Rattle.m17_ports.specs.Ear.{EarTold, IsNewEar}
use Rattle.m17_ports.specs.Told.{StartsEmpty}
use Rattle.m17_serve.specs.Devices.{AreNewOnes, told_of_shelf}
use Rattle.m17_serve.proofs.Lists.{all_images, all_of}

module _ {A T : Type 0} where
  -- so many were handed out
  pub ones_count : (f : A → T) (IsNew : ℕ → T → Type 0) (first count : ℕ) (xs : List A) → AreNewOnes IsNew first count (map f xs) → length xs ≡ count
  ones_count f IsNew first count xs ones = sym (length-map xs f) ∙ ones.count_is

module _ {E X : Type 0} where
  -- nothing was heard yet
  pub new_ears : (ear : E → EarTold X) (first count : ℕ) (es : List E) → AreNewOnes IsNewEar first count (map ear es) → All (λ e. StartsEmpty (ear e).heard) es
  new_ears ear first count es ones =
      all_images ear (λ told. StartsEmpty told.heard) es (all_of (λ told. StartsEmpty told.heard) (map ear es) (λ i told at. (ones.each i told at).heard))

module _ {B Z : Type 0} where
  -- nothing was written yet
  pub new_shelves : (book : B → BookTold Z) (first count : ℕ) (ss : List (Shelf B)) → AreNewOnes IsNewBook first count (map (told_of_shelf book) ss)
      → All (λ s. StartsEmpty (told_of_shelf book s).written) ss
  new_shelves book first count ss ones =
      all_images (told_of_shelf book) (λ told. StartsEmpty told.written) ss
      (all_of (λ told. StartsEmpty told.written) (map (told_of_shelf book) ss) (λ i told at. (ones.each i told at).written))
