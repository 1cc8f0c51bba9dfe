-- The bytes of a control packet from their parts.
use Rattle.std.proofs.Common.{◌≡◌, ◌≢◌, inl, inr, ℕ, List, [], ◌∷◌, ◌++◌, length, take, drop, get_or, arith}
use Rattle.std.proofs.lemmas.List.{take-append-drop, take_all, drop_more, drop_all}
use Rattle.std.proofs.Math.Seq.{take-add}
use Rattle.m17_stream.specs.Stream as stream
use Rattle.m17_control.specs.Forms.{HasMagic}

pub of_from : (m f b : List ℕ) → length b ≡ 10 → take 4 b ≡ m → f ≡ take 6 (drop 4 b) → b ≡ m ++ f
of_from m f b long em ef =
    let whole : take 10 b ≡ b = take_all 10 b (omega arith) in
    let parts = take-add 4 6 b in
    cc

pub of_module : (m f b : List ℕ) (l : ℕ) → length b ≡ 11 → take 4 b ≡ m → f ≡ take 6 (drop 4 b) → l ≡ get_or b 10 0 → b ≡ m ++ f ++ l ∷ []
of_module m f b l long em ef el =
    let front = take-add 4 6 b in
    let whole = take-append-drop 10 b in
    let more : drop 10 b ≡ get_or b 10 0 ∷ drop 11 b = drop_more b 10 0 (omega arith) in
    let none : drop 11 b ≡ [] = drop_all 11 b (omega arith) in
    cc

-- no magic but that of stream packets fits 54 bytes
pub no_stream_magic : (b : List ℕ) → length b ≡ 54 → take 4 b ≢ stream.magic → HasMagic b → ⊥
no_stream_magic b long ne (inl h) = omega (arith, h.0)
no_stream_magic b long ne (inr (inl h)) = omega (arith, h.0)
no_stream_magic b long ne (inr (inr (inl h))) = omega (arith, h.0)
no_stream_magic b long ne (inr (inr (inr h))) = ne h.1
