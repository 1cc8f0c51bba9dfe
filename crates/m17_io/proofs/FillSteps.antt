-- One more read into a buffer that is being filled.
use Rattle.std.proofs.Common.{◌≡◌, ℕ, ◌+◌, ◌-◌, ◌<◌, ◌≤◌, List, [], ◌++◌, length, take, drop, Option, Some, refl, sym, ap, subst, ◌∙◌, arith, append_assoc, add-zero}
use Rattle.std.proofs.lemmas.List.{drop-drop, drop_all, drop_at, take_at, append-nil, length-take-le, length-drop, take_rest}
use Rattle.std.proofs.Math.Seq.{take-add}
use Rattle.m17_io.specs.Source.{Takes}
use Rattle.m17_io.specs.Fill.{IsFilled}
use borrow.Rule.Slice.PartMut.{put_mid}

-- what is written over the rest of a buffer stands after its front
put_rest : (at : ℕ) (buffer filled : List ℕ) → at ≤ length buffer → put_mid at (length buffer - at) buffer filled ≡ take at buffer ++ filled
put_rest at buffer filled h =
    let past : drop (length buffer - at) (drop at buffer) ≡ [] = drop_all _ (drop at buffer) (omega (arith, length-drop at buffer)) in
    ap (λ ys. take at buffer ++ (filled ++ ys)) past ∙ ap (λ ys. take at buffer ++ ys) (append-nil filled)

-- a buffer whose front was taken from the bytes
pub record IsBegun (bytes buffer first : List ℕ) (at : ℕ) : Type 0 where
  pub within : at ≤ length bytes
  pub fits : at ≤ length buffer
  pub front : buffer ≡ take at bytes ++ drop at first

-- the next read goes on where the last one stopped
pub filled_more : (bytes buffer first filled : List ℕ) (at n : ℕ) (rest : Option (List ℕ)) → IsBegun bytes buffer first at
    → Takes (drop at bytes) n (take (length buffer - at) (drop at buffer)) filled rest
    → (at + n ≤ length bytes) × (put_mid at (length buffer - at) buffer filled ≡ take (at + n) bytes ++ drop (at + n) first) × (rest ≡ Some (drop (at + n) bytes))
filled_more bytes buffer first filled at n rest begun takes =
    let size : length (take at bytes) ≡ at = length-take-le at bytes begun.within in
    let back : drop at buffer ≡ drop at first = ap (drop at) begun.front ∙ drop_at (take at bytes) (drop at first) at size in
    let front : take at buffer ≡ take at bytes = ap (take at) begun.front ∙ take_at (take at bytes) (drop at first) at size in
    let more : filled ≡ take n (drop at bytes) ++ drop (at + n) first = takes.filled_front ∙ ap (λ xs. take n (drop at bytes) ++ drop n xs) (take_rest buffer at) ∙ ap (λ xs. take n (drop at bytes) ++ drop n xs) back ∙ ap (λ xs. take n (drop at bytes) ++ xs) (drop-drop n at first) in
    let left : n ≤ length bytes - at = rw (← length-drop at bytes) takes.no_more in (
      omega arith,
      put_rest at buffer filled begun.fits ∙ ap (λ xs. xs ++ filled) front ∙ ap (λ xs. take at bytes ++ xs) more
          ∙ sym (append_assoc (take at bytes) (take n (drop at bytes)) (drop (at + n) first)) ∙ ap (λ xs. xs ++ drop (at + n) first) (sym (take-add at n bytes)),
      takes.rest_left ∙ ap Some (drop-drop n at bytes),
    )

-- a read that takes nothing into a buffer with room has come to the end
pub filled_at_end : (bytes buffer first filled : List ℕ) (at n : ℕ) (rest : Option (List ℕ)) → IsBegun bytes buffer first at → at < length buffer → n ≡ 0
    → Takes (drop at bytes) n (take (length buffer - at) (drop at buffer)) filled rest
    → IsFilled bytes at first (put_mid at (length buffer - at) buffer filled) rest
filled_at_end bytes buffer first filled at n rest begun room none_taken some =
    let takes = subst (λ (m : ℕ). Takes (drop at bytes) m (take (length buffer - at) (drop at buffer)) filled rest) none_taken some in
    let more = filled_more bytes buffer first filled at 0 rest begun takes in
    let has_room : 0 < length (take (length buffer - at) (drop at buffer)) = rw (take_rest buffer at, length-drop at buffer) (omega arith) in
    let none : drop at bytes ≡ [] = takes.at_end refl has_room in
    let over : length bytes - at ≡ 0 = sym (length-drop at bytes) ∙ ap length none in
    record {
      no_more = begun.within;
      front = rw add-zero at more.1;
      rest_left = rw add-zero at more.2;
      at_end = λ _. omega (arith, begun.within);
    }
