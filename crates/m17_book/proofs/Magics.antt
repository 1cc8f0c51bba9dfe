-- The first bytes of an input against a magic.
use Rattle.std.proofs.Common.{◌≡◌, ℕ, ◌<◌, ◌≤◌, List, length, take, get_or, sym, ◌∙◌, arith}
use Rattle.std.proofs.lemmas.List.{ext_get_or, get_or-take, length-take-le}

-- bytes that are one by one those of a magic begin with it
pub begins_so : (b magic : List ℕ) → length magic ≡ 8 → 8 ≤ length b → ((k : ℕ) → k < 8 → get_or b k 0 ≡ get_or magic k 0) → take 8 b ≡ magic
begins_so b magic size long same =
    let len = length-take-le 8 b long in
    ext_get_or 0 (take 8 b) magic (len ∙ sym size) (λ i h. let low : i < 8 = omega (arith, len) in get_or-take 8 b i 0 low ∙ same i low)
