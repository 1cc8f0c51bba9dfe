-- What is for one member, out of what is said to all.
use Rattle.std.proofs.Common.{◌≡◌, ◌≢◌, ℕ, zero, suc, ◌+◌, ◌<◌, Bool, true, false, not, cond, List, [], ◌∷◌, map, get_or, eqb, Option, None, Some, refl, ap, sym, ◌∙◌, arith}
use Rattle.std.specs.List.{filter}
use Rattle.std.proofs.lemmas.Bool.{cond-false, ne_eqb, and_left}
use Rattle.m17_values.specs.declared.member.Member.{Member}
use Rattle.m17_control.specs.declared.item.Item.{Item}
use Rattle.m17_control.specs.declared.item.Said.{Said}
use Rattle.m17_floor.specs.Acts.{is_same}
use Rattle.m17_module.specs.declared.seat.Seat.{Seat}
use Rattle.m17_module.specs.Seats.{members_of, if_of}
use Rattle.m17_module.specs.Items.{item_to, to_one, is_for}
use Rattle.m17_module.proofs.SeatsMore.{same_from_is_same}

-- each seat stands at its place
abbrev pub ArePlaced : ℕ → List (Option Seat) → Type 0
ArePlaced from seats = (i : ℕ) (seat : Seat) → get_or seats i None ≡ Some seat → seat.member.place ≡ from + i

placed_rest : (from : ℕ) (o : Option Seat) (seats : List (Option Seat)) → ArePlaced from (o ∷ seats) → ArePlaced (from + 1) seats
placed_rest from o seats placed i seat e = let at : seat.member.place ≡ from + suc i = placed (suc i) seat e in omega arith

pub other_place : (a b : Member) → a.place ≢ b.place → is_same a b ≡ false
other_place a b ne = and_left (eqb a.place b.place) (eqb a.generation b.generation) (ne_eqb a.place b.place ne)

-- nothing is said to who has a place before all of them
mine_above : (what : Said) (k : Member) (from : ℕ) (seats : List (Option Seat)) → k.place < from → ArePlaced from seats → filter (is_for k) (map (item_to what) (members_of seats)) ≡ []
mine_above what k from [] h placed = refl
mine_above what k from (None ∷ seats) h placed = mine_above what k (from + 1) seats (omega arith) (placed_rest from None seats placed)
mine_above what k from (Some seat ∷ seats) h placed =
    let here : seat.member.place ≡ from + 0 = placed zero seat refl in
    let other : is_same seat.member k ≡ false = other_place seat.member k (λ e. absurd (omega arith)) in
    cond-false (is_same seat.member k) _ _ other ∙ mine_above what k (from + 1) seats (omega arith) (placed_rest from (Some seat) seats placed)

mine_here : (what : Said) (k : Member) (seat : Seat) (b : Bool) (rest : List Item) → b ≡ is_same seat.member k → rest ≡ [] → cond b (item_to what seat ∷ rest) rest ≡ to_one what (cond b (Some seat) None)
mine_here what k seat true rest e none = ap (λ xs. item_to what seat ∷ xs) none
mine_here what k seat false rest e none = none

-- what is said to all is said to the member once, if it is in
pub mine_at : (what : Said) (k : Member) (from : ℕ) (seats : List (Option Seat)) (i : ℕ) → k.place ≡ from + i → ArePlaced from seats → filter (is_for k) (map (item_to what) (members_of seats)) ≡ to_one what (if_of k (get_or seats i None))
mine_at what k from [] i at placed = refl
mine_at what k from (None ∷ seats) zero at placed = mine_above what k (from + 1) seats (omega arith) (placed_rest from None seats placed)
mine_at what k from (None ∷ seats) (suc i) at placed = mine_at what k (from + 1) seats i (omega arith) (placed_rest from None seats placed)
mine_at what k from (Some seat ∷ seats) zero at placed =
    mine_here what k seat (is_same seat.member k) (filter (is_for k) (map (item_to what) (members_of seats))) refl
    (mine_above what k (from + 1) seats (omega arith) (placed_rest from (Some seat) seats placed))
mine_at what k from (Some seat ∷ seats) (suc i) at placed =
    let here : seat.member.place ≡ from + 0 = placed zero seat refl in
    let other : is_same seat.member k ≡ false = other_place seat.member k (λ e. absurd (omega arith)) in
    cond-false (is_same seat.member k) _ _ other ∙ mine_at what k (from + 1) seats i (omega arith) (placed_rest from (Some seat) seats placed)

none_head : (what : Said) (k : Member) (seat : Seat) (b : Bool) (rest : List Seat) → is_same seat.member k ≡ b → filter (is_for k) (map (item_to what) rest) ≡ [] → filter (is_for k) (map (item_to what) (cond (not b) (seat ∷ rest) rest)) ≡ []
none_head what k seat true rest e ih = ih
none_head what k seat false rest e ih = cond-false (is_same seat.member k) _ _ e ∙ ih

-- the sender itself is told nothing
pub mine_none : (what : Said) (k : Member) (ys : List Seat) → filter (is_for k) (map (item_to what) (filter (λ seat. not (is_same seat.member k)) ys)) ≡ []
mine_none what k [] = refl
mine_none what k (seat ∷ ys) = none_head what k seat (is_same seat.member k) (filter (λ s. not (is_same s.member k)) ys) refl (mine_none what k ys)

-- another's packet leaves out nothing that is for the member
all_head : (what : Said) (k m : Member) (seat : Seat) (b : Bool) (rest full : List Seat) → is_same seat.member m ≡ b → is_same m k ≡ false → filter (is_for k) (map (item_to what) rest) ≡ filter (is_for k) (map (item_to what) full) → filter (is_for k) (map (item_to what) (cond (not b) (seat ∷ rest) rest)) ≡ filter (is_for k) (map (item_to what) (seat ∷ full))
all_head what k m seat true rest full e ne ih =
    let mine : is_same seat.member k ≡ false = ap (λ x. is_same x k) (same_from_is_same seat.member m e) ∙ ne in
    ih ∙ sym (cond-false (is_same seat.member k) _ _ mine)
all_head what k m seat false rest full e ne ih = ap (λ xs. cond (is_same seat.member k) (item_to what seat ∷ xs) xs) ih

pub mine_all : (what : Said) (k m : Member) (ys : List Seat) → is_same m k ≡ false → filter (is_for k) (map (item_to what) (filter (λ seat. not (is_same seat.member m)) ys)) ≡ filter (is_for k) (map (item_to what) ys)
mine_all what k m [] ne = refl
mine_all what k m (seat ∷ ys) ne = all_head what k m seat (is_same seat.member m) (filter (λ s. not (is_same s.member m)) ys) ys refl ne (mine_all what k m ys ne)
