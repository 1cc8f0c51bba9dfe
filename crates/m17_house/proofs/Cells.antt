-- The row of modules.
use Rattle.std.proofs.Common.{◌≡◌, ◌&&◌, ℕ, ◌+◌, ◌-◌, ◌<◌, ◌≤◌, true, List, [], ◌∷◌, ◌++◌, length, slice_get, get_or, nat_le, Option, None, Some, inl, inr, ap, sym, subst, ◌∙◌, arith}
use Rattle.std.specs.Int.{bit_at}
use Rattle.std.specs.Prelude.{◌==◌}
use Rattle.std.proofs.lemmas.Option.{same_Some, slice_get_within, slice_get-get_or}
use Rattle.std.proofs.lemmas.Bool.{cases_lt, and_parts, leb-true, false≢true}
use Rattle.m17_lists.proofs.Places.{places_before_stay, first_of_rest_stands_behind}
use Rattle.m17_lists.proofs.Lengths.{one_more_is_one_longer}
use Rattle.m17_control.specs.declared.modules.Modules.{Modules}
use Rattle.m17_control.specs.Modules.{serves}
use Rattle.m17_module.specs.StandsFor.{ModuleKept}
use Rattle.m17_plan.specs.declared.plan.Plan.{Plan}
use Rattle.m17_house.specs.Carried.{IsNewRoom, RoomStands}

-- the letters that are served are A to Z
pub served_letter : (m : Modules) (letter : ℕ) → serves m letter ≡ true → (65 ≤ letter) × (letter ≤ 90)
unfolding serves
served_letter m letter e =
    let both : (nat_le 65 letter && nat_le letter 90) ≡ true = (and_parts (nat_le 65 letter && nat_le letter 90) (bit_at m.0 (letter - 65) == 1) e).0 in
    let each : (nat_le 65 letter ≡ true) × (nat_le letter 90 ≡ true) = and_parts (nat_le 65 letter) (nat_le letter 90) both in
    (leb-true 65 letter each.0, leb-true letter 90 each.1)

-- one cell more
pub new_more : (plan : Plan) (cells : List (Option ModuleKept)) (room : Option ModuleKept) (letter : ℕ) → length cells + 65 ≡ letter → ((k : ℕ) (cell : Option ModuleKept) → slice_get cells k ≡ Some cell → IsNewRoom plan (k + 65) cell) → IsNewRoom plan letter room →
    (k : ℕ) (cell : Option ModuleKept) → slice_get (cells ++ room ∷ []) k ≡ Some cell → IsNewRoom plan (k + 65) cell
new_more plan cells room letter at each new k cell is =
    elim (cases_lt k (length cells)) [
      | inl below ↦ each k cell (sym (places_before_stay cells (room ∷ []) k below) ∙ is)
      | inr above ↦
          let within : k < length (cells ++ room ∷ []) = slice_get_within (cells ++ room ∷ []) k cell is in
          let here : k ≡ length cells = omega (arith, within, one_more_is_one_longer cells room) in
          let it : room ≡ cell = same_Some room cell (sym (first_of_rest_stands_behind cells room []) ∙ ap (slice_get (cells ++ room ∷ [])) (sym here) ∙ is) in
          subst (λ (n : ℕ). IsNewRoom plan n cell) (sym at ∙ ap (λ n. n + 65) (sym here))
          (subst (λ (r : Option ModuleKept). IsNewRoom plan letter r) it new)
    ]

-- the module in a cell that is new
room_in : (plan : Plan) (cells : List (Option ModuleKept)) (letter : ℕ) (cell : Option ModuleKept) → slice_get cells (letter - 65) ≡ Some cell → IsNewRoom plan letter cell → serves plan.modules letter ≡ true → RoomStands plan letter [] cells
room_in plan cells letter None is new served = absurd (false≢true (sym new ∙ served))
room_in plan cells letter (Some kept) is new served = record { kept = kept; is_there = is; setup = new.0; stands = new.1 }

pub room_of : (plan : Plan) (cells : List (Option ModuleKept)) → length cells ≡ 26 → ((k : ℕ) (cell : Option ModuleKept) → slice_get cells k ≡ Some cell → IsNewRoom plan (k + 65) cell) →
    (letter : ℕ) → serves plan.modules letter ≡ true → RoomStands plan letter [] cells
room_of plan cells len each letter served =
    let in_range : (65 ≤ letter) × (letter ≤ 90) = served_letter plan.modules letter served in
    let cell : Option ModuleKept = get_or cells (letter - 65) None in
    let is : slice_get cells (letter - 65) ≡ Some cell = slice_get-get_or cells (letter - 65) None (omega (arith, in_range.0, in_range.1)) in
    let back : (letter - 65) + 65 ≡ letter = omega (arith, in_range.0) in
    room_in plan cells letter cell is (subst (λ (n : ℕ). IsNewRoom plan n cell) back (each (letter - 65) cell is)) served
