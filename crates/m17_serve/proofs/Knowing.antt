-- What is known of devices is known of the same devices when they come back.
use Rattle.std.proofs.Common.{◌≡◌, ℕ, ◌+◌, List, [], ◌∷◌, ◌++◌, map, length, Option, None, Some, refl, sym, ap, subst, ◌∙◌, arith}
use Rattle.std.specs.Prelude.{IfSome}
use Rattle.std.proofs.lemmas.List.{length-map, map-append}
use Rattle.std.proofs.lemmas.Option.{none-some}
use Rattle.m17_ports.specs.Book.{BookTold}
use Rattle.m17_ports.specs.Ear.{EarTold}
use Rattle.m17_ports.specs.Marks.{Device, EarMark, MouthMark}
use Rattle.m17_ports.specs.Mouth.{MouthTold}
use Rattle.m17_ports.specs.declared.shelf.Shelf.{Shelf}
use Rattle.m17_reflect.specs.Laws.{AreSameDevices}
use Rattle.m17_reflect.specs.Run.{Devices}
use Rattle.m17_reflect.specs.Views.{Kinds, kinds_back, kinds_refused}
use Rattle.m17_reflect.specs.declared.returned.Refused.{Refused}
use Rattle.m17_reflect.specs.declared.returned.Returned.{Returned}
use Rattle.m17_serve.specs.Devices.{AreOf, Known, ear_labels, house_back, house_told, mouth_labels, refused_back}
use Rattle.m17_serve.proofs.Lists.{each_push}

module _ {L : Type 0} where
  ears_by : (ears : List (EarTold L)) → ear_labels ears ≡ map (λ (d : Device EarMark L). d.label) (map (λ (ear : EarTold L). ear.device) ears)
  ears_by [] = refl
  ears_by (ear ∷ ears) = ap (λ (l : List L). ear.device.label ∷ l) (ears_by ears)

  mouths_by : (mouths : List (MouthTold L)) → mouth_labels mouths ≡ map (λ (d : Device MouthMark L). d.label) (map (λ (mouth : MouthTold L). mouth.device) mouths)
  mouths_by [] = refl
  mouths_by (mouth ∷ mouths) = ap (λ (l : List L). mouth.device.label ∷ l) (mouths_by mouths)

  pub known_none : (known : ℕ → L → Type 0) → Known known []
  known_none known i label at = absurd (none-some label at)

-- one more place on
pub one_on : {L : Type 0} (known : ℕ → L → Type 0) (n i : ℕ) (label : L) → known (n + (i + 1)) label → known ((n + 1) + i) label
one_on known n i label h = let on : n + (i + 1) ≡ (n + 1) + i = omega arith in subst (λ (k : ℕ). known k label) on h

module _ {A L T : Type 0} where
  -- one more is known
  known_pushed : (known : ℕ → L → Type 0) (told : A → T) (label : T → L) (was is : List A) (x : A) (n : ℕ) → is ≡ was ++ x ∷ [] → length (map told was) ≡ n
      → Known known (map label (map told was)) → known (n + 0) (label (told x)) → Known known (map label (map told is))
  known_pushed known told label was is x n e long old one =
      let at : n + 0 ≡ length (map label (map told was)) = omega (arith, long, length-map (map told was) label) in
      subst (Known known) (sym (ap (λ (l : List A). map label (map told l)) e ∙ ap (map label) (map-append told was (x ∷ [])) ∙ map-append label (map told was) (told x ∷ [])))
      (each_push known (map label (map told was)) (label (told x)) old (subst (λ (k : ℕ). known k (label (told x))) at one))

module _ {A L : Type 0} where
  pub ear_known : (told : A → EarTold L) (known : ℕ → L → Type 0) (was is : List A) (x : A) (n : ℕ) → is ≡ was ++ x ∷ [] → length (map told was) ≡ n
      → Known known (ear_labels (map told was)) → known (n + 0) (told x).device.label → Known known (ear_labels (map told is))
  ear_known told known was is x n e long old one = known_pushed known told (λ (ear : EarTold L). ear.device.label) was is x n e long old one

  pub mouth_known : (told : A → MouthTold L) (known : ℕ → L → Type 0) (was is : List A) (x : A) (n : ℕ) → is ≡ was ++ x ∷ [] → length (map told was) ≡ n
      → Known known (mouth_labels (map told was)) → known (n + 0) (told x).device.label → Known known (mouth_labels (map told is))
  mouth_known told known was is x n e long old one = known_pushed known told (λ (mouth : MouthTold L). mouth.device.label) was is x n e long old one

module _ {X Y Z : Type 0} where
  of_same : (ears : ℕ → X → Type 0) (mouths : ℕ → Y → Type 0) (before after : Devices X Y Z) → AreSameDevices before after → AreOf ears mouths before → AreOf ears mouths after
  of_same ears mouths before after same known = record {
    ears_are = subst (Known ears) (ears_by before.ears ∙ sym (ap (map (λ (d : Device EarMark X). d.label)) same.ears) ∙ sym (ears_by after.ears)) known.ears_are;
    mouths_are = subst (Known mouths) (mouths_by before.mouths ∙ sym (ap (map (λ (d : Device MouthMark Y). d.label)) same.mouths) ∙ sym (mouths_by after.mouths)) known.mouths_are;
  }

module _ {E M B X Y Z : Type 0} (ear : E → EarTold X) (mouth : M → MouthTold Y) (book : B → BookTold Z) where
  pub known_house : (ears : ℕ → X → Type 0) (mouths : ℕ → Y → Type 0) (new : Devices X Y (Option Z)) → AreOf ears mouths new → (house : Option (Returned E M (Shelf B)))
      → IfSome house (λ h. AreSameDevices new (house_told ear mouth book (kinds_back h))) → IfSome (house_back ear mouth book house) (λ back. AreOf ears mouths back.0)
  known_house ears mouths new known None same = tt
  known_house ears mouths new known (Some h) same = of_same ears mouths new (house_told ear mouth book (kinds_back h)) same known

  pub known_refused : (ears : ℕ → X → Type 0) (mouths : ℕ → Y → Type 0) (opened : Kinds E M (Shelf B)) → AreOf ears mouths (house_told ear mouth book opened)
      → (refused : Option (Refused E M (Shelf B))) → IfSome refused (λ r. kinds_refused r ≡ opened) → IfSome (refused_back ear mouth book refused) (λ back. AreOf ears mouths back.0)
  known_refused ears mouths opened known None same = tt
  known_refused ears mouths opened known (Some r) same =
      subst (λ (k : Kinds E M (Shelf B)). AreOf ears mouths (house_told ear mouth book k)) (sym same) known
