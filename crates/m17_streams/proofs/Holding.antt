-- What is held and what is below, put together.
use Rattle.std.proofs.Common.{◌≡◌, ℕ, ◌+◌, ◌-◌, ◌<◌, ◌≤◌, List, [], ◌++◌, length, take, drop, Option, None, Some, refl, sym, ap, ◌∙◌, arith, append_assoc}
use Rattle.std.proofs.lemmas.List.{take-append-drop, take-append-le, drop-take, drop-drop, take-take, take_at, length-take, length-take-le}
use Rattle.std.proofs.lemmas.Grind.{common_steps}
use Rattle.std.specs.List.{slice_range}
use Rattle.m17_streams.specs.Buffered.{held_then}
use Rattle.std.proofs.Math.Seq.{take-add}
use Rattle.m17_io.specs.Outlet.{followed_by}
use Rattle.m17_io.specs.Source.{Takes}

-- a few bytes and then the next few
pub followed-more : (sent : Option (List ℕ)) (bytes : List ℕ) (a n : ℕ)
    → followed_by (followed_by sent (take a bytes)) (take n (drop a bytes)) ≡ followed_by sent (take (a + n) bytes)
followed-more None bytes a n = refl
followed-more (Some before) bytes a n =
    ap Some (append_assoc before (take a bytes) (take n (drop a bytes)) ∙ ap (λ ys. before ++ ys) (sym (take-add a n bytes)))

-- a few bytes and then all the others
pub followed-rest : (sent : Option (List ℕ)) (bytes : List ℕ) (a : ℕ)
    → followed_by (followed_by sent (take a bytes)) (drop a bytes) ≡ followed_by sent bytes
followed-rest None bytes a = refl
followed-rest (Some before) bytes a =
    ap Some (append_assoc before (take a bytes) (drop a bytes) ∙ ap (λ ys. before ++ ys) (take-append-drop a bytes))

-- the next few bytes have left too
pub followed-step : (old now next : Option (List ℕ)) (bytes : List ℕ) (a n : ℕ) → now ≡ followed_by old (take a bytes)
    → next ≡ followed_by now (take n (drop a bytes)) → next ≡ followed_by old (take (a + n) bytes)
followed-step old now next bytes a n here there =
    there ∙ ap (λ o. followed_by o (take n (drop a bytes))) here ∙ followed-more old bytes a n

-- the first bytes of what was held have left, and the rest is held
pub flushed : (old new : Option (List ℕ)) (held rest : List ℕ) (n : ℕ) → new ≡ followed_by old (take n held)
    → rest ≡ drop n held → followed_by new rest ≡ followed_by old held
flushed old new held rest n sent kept =
    ap (λ o. followed_by o rest) sent ∙ ap (λ ys. followed_by (followed_by old (take n held)) ys) kept ∙ followed-rest old held n

-- what is left of a part, where some is taken from its front
pub slice_range-later : (xs : List ℕ) (a b n : ℕ) → n ≤ length (slice_range xs a b)
    → slice_range xs (a + n) b ≡ drop n (slice_range xs a b)
slice_range-later xs a b n within =
    let size : n ≤ b - a = omega (arith, length-take (b - a) (drop a xs)) in
    let sum : b - a ≡ n + (b - (a + n)) = omega arith in
    ap (take (b - (a + n))) (sym (drop-drop n a xs)) ∙ sym (drop-take n (b - (a + n)) (drop a xs))
    ∙ sym (ap (λ m. drop n (take m (drop a xs))) sum)

-- what a read put at the front of the buffer is held, and the rest is left below
pub refilled : (bytes old into more : List ℕ) (size n : ℕ) (rest : Option (List ℕ)) → n ≤ size → n ≤ length into
    → 0 < length old → Takes bytes n old into rest
    → (held_then (slice_range (take size (into ++ more)) 0 n) rest ≡ Some bytes)
    × (slice_range (take size (into ++ more)) 0 n ≡ [] → bytes ≡ [])
refilled bytes old into more size n rest fits short room takes =
    let whole : slice_range (take size (into ++ more)) 0 n ≡ take n (take size (into ++ more)) = grind (arith, common_steps) in
    let front : take n (take size (into ++ more)) ≡ take n into = take-take n size (into ++ more) fits ∙ take-append-le n into more short in
    let same : take n into ≡ take n bytes = ap (take n) takes.filled_front ∙ take_at (take n bytes) (drop n old) n (length-take-le n bytes takes.no_more) in
    let held = whole ∙ front ∙ same in (
      ap (λ ys. held_then ys rest) held ∙ ap (λ o. held_then (take n bytes) o) takes.rest_left ∙ ap Some (take-append-drop n bytes),
      λ none. let count : n ≡ 0 = sym (length-take-le n bytes takes.no_more) ∙ ap length (sym held ∙ none) in takes.at_end count room,
    )
