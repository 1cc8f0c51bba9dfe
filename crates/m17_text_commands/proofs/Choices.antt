-- Facts of values that are chosen by a test.
use Rattle.std.proofs.Common.{◌≡◌, Bool, true, false, refl, if◌then◌else◌}

pub by_test : {X : Type 0} (P : X → Type 0) (b : Bool) (x y : X) → (b ≡ true → P x) → (b ≡ false → P y) → P (if b then x else y)
by_test P true x y t f = t refl
by_test P false x y t f = f refl

-- of two and of three values that one test chooses
pub by_test_2 : {X Y : Type 0} (P : X → Y → Type 0) (b : Bool) (x y : X) (u v : Y) → (b ≡ true → P x u) → (b ≡ false → P y v) → P (if b then x else y) (if b then u else v)
by_test_2 P true x y u v t f = t refl
by_test_2 P false x y u v t f = f refl

pub by_test_3 : {X Y Z : Type 0} (P : X → Y → Z → Type 0) (b : Bool) (x y : X) (u v : Y) (w z : Z) → (b ≡ true → P x u w) → (b ≡ false → P y v z)
    → P (if b then x else y) (if b then u else v) (if b then w else z)
by_test_3 P true x y u v w z t f = t refl
by_test_3 P false x y u v w z t f = f refl

-- where the test is known
pub by_true : {X : Type 0} (P : X → Type 0) (b : Bool) (x y : X) → b ≡ true → P x → P (if b then x else y)
by_true P true x y e p = p
by_true P false x y e p = absurd (cc e)

pub by_false : {X : Type 0} (P : X → Type 0) (b : Bool) (x y : X) → b ≡ false → P y → P (if b then x else y)
by_false P true x y e p = absurd (cc e)
by_false P false x y e p = p
