-- New devices, one after another.
use Rattle.std.proofs.Common.{◌≡◌, ℕ, zero, suc, ◌+◌, List, [], ◌∷◌, ◌++◌, map, length, All, Option, None, Some, refl, sym, ap, subst, ◌∙◌, arith, rules}
use Rattle.std.specs.Prelude.{◌↔◌, IsSome, slice_get}
use Rattle.std.specs.Option.{option_map}
use Rattle.std.proofs.lemmas.List.{length-append, length-map}
use Rattle.std.proofs.lemmas.List.Elements.{All-head, All-map, All-push, All-weaker}
use Rattle.std.proofs.lemmas.Option.{none-some, same_Some}
use Rattle.m17_ports.specs.declared.shelf.Shelf.{Shelf}
use Rattle.m17_ports.specs.Book.{BookTold, IsNewBook, shelf_told}
use Rattle.m17_serve.specs.Asked.{call_after}
use Rattle.m17_serve.specs.Devices.{AreNewOnes, AreThere, told_of_shelf}
use Rattle.m17_serve.proofs.Lists.{each_push, map_push}

module _ {T : Type 0} where
  pub new_none : (IsNew : ℕ → T → Type 0) (first : ℕ) → AreNewOnes IsNew first 0 []
  new_none IsNew first = record { count_is = refl; each = λ i one e. absurd (none-some one e) }

  new_more : (IsNew : ℕ → T → Type 0) (first n : ℕ) (xs : List T) (x : T) → AreNewOnes IsNew first n xs → IsNew (call_after first n) x
      → AreNewOnes IsNew first (n + 1) (xs ++ x ∷ [])
  new_more IsNew first n xs x old new = record {
    count_is = length-append xs (x ∷ []) ∙ ap (λ (k : ℕ). k + 1) old.count_is;
    each = each_push (λ i one. IsNew (call_after first i) one) xs x old.each (subst (λ (k : ℕ). IsNew (call_after first k) x) (sym old.count_is) new);
  }

module _ {A T : Type 0} where
  -- one more was pushed
  pub new_pushed : (f : A → T) (IsNew : ℕ → T → Type 0) (first n : ℕ) (was is : List A) (x : A) → is ≡ was ++ x ∷ []
      → AreNewOnes IsNew first n (map f was) → IsNew (call_after first n) (f x) → AreNewOnes IsNew first (n + 1) (map f is)
  new_pushed f IsNew first n was is x e old new =
      subst (AreNewOnes IsNew first (n + 1)) (sym (ap (map f) e ∙ map_push f was x)) (new_more IsNew first n (map f was) (f x) old new)

module _ {T : Type 0} where
  each_of : (P : T → Type 0) (xs : List T) → All P xs → (i : ℕ) (x : T) → slice_get xs i ≡ Some x → P x
  each_of P [] h i x e = absurd (none-some x e)
  each_of P (y ∷ xs) h zero x e = subst P (same_Some y x e) (All-head P y xs h)
  each_of P (y ∷ xs) h (suc i) x e = each_of P xs (λ k d lt. h (suc k) d (omega arith)) i x e

module _ {B Z : Type 0} where
  -- a shelf without a book is new, by any call
  no_book : (book : B → BookTold Z) (s : Shelf B) → s.inner ≡ None → (call : ℕ) → IsNewBook call (told_of_shelf book s)
  no_book book s e call = subst (λ (o : Option B). IsNewBook call (shelf_told (option_map book o))) (sym e)
      (record { written = λ all told. absurd (none-some all told); faults = refl; numbered = λ n told. absurd (none-some n told) })

  -- a new book stands on a shelf as a new one
  pub on_shelf : (book : B → BookTold Z) (b : B) (call : ℕ) → IsNewBook call (book b) → IsNewBook call (told_of_shelf book (record { inner = Some b }))
  on_shelf book b call new = record { written = new.written; faults = new.faults; numbered = new.numbered }

  pub empty_new : (book : B → BookTold Z) (first count : ℕ) (ss : List (Shelf B)) → length ss ≡ count → All (λ s. s.inner ≡ None) ss
      → AreNewOnes IsNewBook first count (map (told_of_shelf book) ss)
  empty_new book first count ss long none = record {
    count_is = length-map ss (told_of_shelf book) ∙ long;
    each = λ i one e. each_of (λ (told : BookTold (Option Z)). (call : ℕ) → IsNewBook call told) (map (told_of_shelf book) ss)
        (All-map (λ (told : BookTold (Option Z)). (call : ℕ) → IsNewBook call told) (told_of_shelf book) ss
        (All-weaker (λ s. s.inner ≡ None) (λ s. (call : ℕ) → IsNewBook call (told_of_shelf book s)) (λ s e. no_book book s e) ss none)) i one e (call_after first i);
  }

  both_mapped : {X : Type 0} (book : B → BookTold Z) (g : X → List ℕ) (o : Option B) (folder : Option X) → IsSome o ↔ IsSome folder
      → IsSome (shelf_told (option_map book o)).device.label ↔ IsSome (option_map g folder)
  both_mapped book g None None h = h
  both_mapped book g None (Some x) h = h
  both_mapped book g (Some b) None h = h
  both_mapped book g (Some b) (Some x) h = h

  -- there is a book on a shelf as told
  pub there_told : {X : Type 0} (book : B → BookTold Z) (g : X → List ℕ) (folder : Option X) (ss : List (Shelf B)) → All (λ s. IsSome s.inner ↔ IsSome folder) ss
      → AreThere (option_map g folder) (map (told_of_shelf book) ss)
  there_told book g folder ss there =
      All-map (λ (told : BookTold (Option Z)). IsSome told.device.label ↔ IsSome (option_map g folder)) (told_of_shelf book) ss
      (All-weaker (λ s. IsSome s.inner ↔ IsSome folder) (λ s. IsSome (told_of_shelf book s).device.label ↔ IsSome (option_map g folder)) (λ s h. both_mapped book g s.inner folder h) ss there)

module _ {B : Type 0} where
  -- one more shelf with a book
  pub there_pushed : (was is : List (Shelf B)) (b : B) → is ≡ was ++ record { inner = Some b } ∷ [] → All (λ s. IsSome s.inner) was → All (λ s. IsSome s.inner) is
  there_pushed was is b e h =
      let some : IsSome (Some b) = search rules in
      subst (All (λ (s : Shelf B). IsSome s.inner)) (sym e) (All-push (λ (s : Shelf B). IsSome s.inner) was (record { inner = Some b }) h some)
