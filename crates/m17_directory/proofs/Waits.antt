-- A request that needs to wait no more goes on so while leavings are reported.
use Rattle.std.proofs.Common.{◌≡◌, ◌==◌, ◌||◌, ℕ, ◌+◌, ◌≤◌, Bool, true, false, cond, not, List, [], ◌∷◌, length, filter, Option, None, Some, refl, sym, arith}
use Rattle.std.specs.List.{list_any}
use Rattle.std.proofs.lemmas.Bool.{false≢true, eqb-false, ne_eqb, or_from}
use Rattle.m17_values.specs.declared.member.Member.{Member}
use Rattle.m17_directory.specs.declared.asked.Asked.{Asked}
use Rattle.m17_directory.specs.declared.known.Departed.{Departed}
use Rattle.m17_directory.specs.declared.known.Known.{Known}
use Rattle.m17_directory.specs.Entries.{is_peer}
use Rattle.m17_directory.specs.StandsFor.{has_departing, is_member, without_member, most_members}
use Rattle.m17_directory.specs.Steps.{lists_wait}
use Rattle.m17_directory.proofs.Filters.{filter_le}

left_of : (a b : Bool) → (a || b) ≡ false → a ≡ false
left_of true b e = e
left_of false b e = refl

right_of : (a b : Bool) → (a || b) ≡ false → b ≡ false
right_of true b e = absurd (false≢true (sym e))
right_of false b e = e

-- none of a list, none of what a filter keeps of it
none_kept : {X : Type 0} (p q : X → Bool) (xs : List X) → list_any p xs ≡ false → list_any p (filter q xs) ≡ false
none_kept p q [] e = refl
none_kept p q (x ∷ xs) e =
    let first : p x ≡ false = left_of (p x) (list_any p xs) e in
    let rest : list_any p (filter q xs) ≡ false = none_kept p q xs (right_of (p x) (list_any p xs) e) in
    elim (q x) as (λ b. list_any p (cond b (x ∷ filter q xs) (filter q xs)) ≡ false) [
      | true ↦ or_from (p x) (list_any p (filter q xs)) first rest
      | false ↦ rest
    ]

fewer : (known most before after : ℕ) → known + before ≤ most → after ≤ before → ((known + before) == most) ≡ false → ((known + after) == most) ≡ false
fewer known most before after few less e =
    let apart : known + before ≡ most → ⊥ = eqb-false (known + before) most e in
    let still : known + after ≡ most → ⊥ = λ same. apart (omega (arith, same, few, less)) in
    ne_eqb (known + after) most still

pub waits_no_more : (m : Member) (known : List Known) (departing : List Departed) (asked : Option Asked) →
    length known + length departing ≤ most_members →
    lists_wait (record { known = known; asked = asked; departing = departing }) ≡ false →
    lists_wait (record { known = known; asked = asked; departing = without_member m departing }) ≡ false
waits_no_more m known departing None few e = refl
waits_no_more m known departing (Some asked) few e =
    let here : has_departing asked.peer departing ≡ false = left_of (has_departing asked.peer departing) ((length known + length departing) == most_members) e in
    let count : ((length known + length departing) == most_members) ≡ false = right_of (has_departing asked.peer departing) ((length known + length departing) == most_members) e in
    or_from (has_departing asked.peer (without_member m departing)) ((length known + length (without_member m departing)) == most_members)
    (none_kept (λ d. is_peer asked.peer d.peer) (λ d. not (is_member m d)) departing here)
    (fewer (length known) most_members (length departing) (length (without_member m departing)) few (filter_le (λ d. not (is_member m d)) departing) count)
