-- Marks among the writes of a lane: they have no bytes.
use Rattle.std.proofs.Common.{◌≡◌, ◌⊎◌, ℕ, zero, suc, List, [], ◌∷◌, ◌++◌, refl, ap, sym, subst, ap₂, ◌∙◌, inl, inr, arith}
use Rattle.std.specs.Prelude.{All}
use Rattle.std.proofs.lemmas.List.Concat.{flat_map-append}
use Rattle.std.proofs.lemmas.List.Elements.{All-head, All-tail}
use Rattle.m17_lane.specs.Orders.{items_of, part, EachKnown, IsWhole}
use Rattle.m17_lane.specs.Ends.{PushEnd, logs_of}
use Rattle.m17_disk.specs.Queue.{joined}

-- what a lane was handed has the bytes that the book handed over, where the other end sent marks alone
joined_part : (marks writes : List (List ℕ)) (order : List (ℕ × List ℕ))
    → EachKnown ((1, marks) ∷ (0, writes) ∷ []) order → All (λ bytes. bytes ≡ []) (part 1 order)
    → joined (items_of order) ≡ joined (part 0 order)
joined_part marks writes [] known all = refl
joined_part marks writes ((zero, bytes) ∷ order) known all =
    ap (λ l. bytes ++ l) (joined_part marks writes order known.1 all)
joined_part marks writes ((suc zero, bytes) ∷ order) known all =
    ap (λ b. b ++ joined (items_of order)) (All-head (λ bytes. bytes ≡ []) bytes (part 1 order) all)
    ∙ joined_part marks writes order known.1 (All-tail (λ bytes. bytes ≡ []) bytes (part 1 order) all)
joined_part marks writes ((suc (suc n), bytes) ∷ order) known all = elim known.0 [
  | inl one ↦ absurd (omega (arith, one))
  | inr more ↦ elim more [
    | inl none ↦ absurd (omega (arith, none))
    | inr never ↦ absurd never
  ]
]

-- both ends are back: what the book handed over has the bytes of all that was pushed
pub from_book : (ends : List (PushEnd (List ℕ))) (marker book : PushEnd (List ℕ)) (logs : List (ℕ × List (List ℕ)))
    (popped rest : List (List ℕ)) (order : List (ℕ × List ℕ)) → logs ≡ logs_of ends → ends ≡ marker ∷ book ∷ []
    → marker.number ≡ 1 → book.number ≡ 0 → All (λ bytes. bytes ≡ []) marker.pushed → IsWhole logs popped order rest
    → joined book.pushed ≡ joined (items_of order)
from_book ends marker book logs popped rest order is are first second marks whole =
    let two : logs ≡ (1, marker.pushed) ∷ (0, book.pushed) ∷ [] =
    is ∙ ap logs_of are ∙ ap₂ (λ m b. (m, marker.pushed) ∷ (b, book.pushed) ∷ []) first second in
    let w = subst (λ (logs : List (ℕ × List (List ℕ))). IsWhole logs popped order rest) two whole in
    ap joined w.shuffle.parts.1.0
    ∙ sym (joined_part marker.pushed book.pushed order w.shuffle.known (subst (All (λ bytes. bytes ≡ [])) w.shuffle.parts.0 marks))

-- and what was popped is the first part of that
pub first_of : (pushed popped rest : List (List ℕ)) (order : List (ℕ × List ℕ)) → joined pushed ≡ joined (items_of order)
    → items_of order ≡ popped ++ rest → joined pushed ≡ joined popped ++ joined rest
first_of pushed popped rest order same queued = same ∙ ap joined queued ∙ flat_map-append (λ b. b) popped rest

-- the ends that were handed in: that of the mark, and then that of the book
pub two_ends : (none one two : List (PushEnd (List ℕ))) (marker first book second : PushEnd (List ℕ)) → none ≡ []
    → one ≡ none ++ first ∷ [] → two ≡ one ++ second ∷ [] → first ≡ marker → second ≡ book → two ≡ marker ∷ book ∷ []
two_ends none one two marker first book second is more all m b =
    rw (all, more, is) (ap₂ (λ (m b : PushEnd (List ℕ)). m ∷ b ∷ []) m b)
