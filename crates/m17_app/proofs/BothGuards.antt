-- The guards before the ears of a bridge.
use Rattle.std.proofs.Common.{◌≡◌, ◌+◌, ◌-◌, ℕ, Bool, true, false, Option, None, Some, refl, sym, ap, subst, ◌∙◌, arith}
use Rattle.std.specs.Prelude.{IfSome, nat_lt, option_map}
use Rattle.std.proofs.lemmas.Bool.{le-ltb, lt-ltb, ltb-false, ltb-true}
use Rattle.m17_decorators.specs.declared.guarded.GuardLabel.{GuardLabel}
use Rattle.m17_client.specs.declared.side.Side.{Side}
use Rattle.m17_client.specs.declared.side.Side.TheVariants.{Near, Far}
use Rattle.m17_client.specs.Sides.{of}
use Rattle.m17_client.specs.CrossDevices.{DevicesTold}
use Rattle.m17_client_commands.specs.Bridged.{IsKnown}

-- one guard fewer is left for the places one later
compared : (i n : ℕ) (b : Bool) → nat_lt i (n - 1) ≡ b → nat_lt (i + 1) n ≡ b
compared i n true e = lt-ltb (i + 1) n (omega (arith, ltb-true i (n - 1) e))
compared i n false e = le-ltb (i + 1) n (omega (arith, ltb-false i (n - 1) e))

pub one_later : (i n : ℕ) → nat_lt i (n - 1) ≡ nat_lt (i + 1) n
one_later i n = sym (compared i n (nat_lt i (n - 1)) refl)

module _ {E M : Type 0} where
  some_is : (a b : DevicesTold (GuardLabel E) M) → Some a ≡ Some b → a ≡ b
  some_is a b e = cc

  none_is : (b : DevicesTold (GuardLabel E) M) → None ≡ Some b → ⊥
  none_is b e = cc

  -- both guards are on where there were two
  both_on : (guards : ℕ) (d : DevicesTold (GuardLabel E) M) → guards ≡ 2
      → IsKnown (λ (i : ℕ) (label : GuardLabel E). label.is_on ≡ nat_lt i guards) (λ (i : ℕ) (label : M). Unit {0}) d
      → (side : Side) → (of side d.ears).device.label.is_on ≡ true
  both_on guards d two known Near = known.near_ear ∙ ap (λ (n : ℕ). nat_lt 0 n) two
  both_on guards d two known Far = known.far_ear ∙ ap (λ (n : ℕ). nat_lt 1 n) two

  pub guarded_back : {D : Type 0} (told : D → DevicesTold (GuardLabel E) M) (devices : Option D) (guards : ℕ) → guards ≡ 2
      → IfSome devices (λ d. IsKnown (λ (i : ℕ) (label : GuardLabel E). label.is_on ≡ nat_lt i guards) (λ (i : ℕ) (label : M). Unit {0}) (told d))
      → (back : DevicesTold (GuardLabel E) M) → option_map told devices ≡ Some back → (side : Side) → (of side back.ears).device.label.is_on ≡ true
  guarded_back told None guards two known back is = absurd (none_is back is)
  guarded_back told (Some d) guards two known back is =
      subst (λ (x : DevicesTold (GuardLabel E) M). (side : Side) → (of side x.ears).device.label.is_on ≡ true) (some_is (told d) back is) (both_on guards (told d) two known)

  pub none_guarded : (devices : Option (DevicesTold (GuardLabel E) M)) → devices ≡ None
      → (back : DevicesTold (GuardLabel E) M) → devices ≡ Some back → (side : Side) → (of side back.ears).device.label.is_on ≡ true
  none_guarded devices none back is = absurd (none_is back (sym none ∙ is))
