-- Each 28 bytes are link setup data, and no two of them have the same bytes.
use Rattle.std.proofs.Common.{◌≡◌, ℕ, ◌+◌, ◌≤◌, ◌<◌, ◌^◌, List, ◌++◌, length, take, drop, refl, arith}
use Rattle.std.proofs.lemmas.List.{length-take, length-drop, take_all}
use Rattle.std.proofs.lemmas.List.Elements.{All-take, All-drop}
use Rattle.std.proofs.Math.Seq.{take-add}
use Rattle.m17_fields.specs.Fields.{be_16, be_48, field_at, IsBytes, Fields16AreExact, Fields48AreExact}
use Rattle.m17_lsd.specs.Laws.{Each28BytesAreLinkSetupData}

bytes-part : (n k : ℕ) (b : List ℕ) → IsBytes b → IsBytes (field_at n k b)
bytes-part n k b h = All-take (λ byte. byte < 2 ^ 8) k (drop n b) (All-drop (λ byte. byte < 2 ^ 8) n b h)

length-part : (n k : ℕ) (b : List ℕ) → n + k ≤ length b → length (field_at n k b) ≡ k
length-part n k b h = simp (length-take, length-drop) (omega arith)

four_parts : (d s k m b : List ℕ) → length b ≡ 28 → d ≡ field_at 0 6 b → s ≡ field_at 6 6 b → k ≡ field_at 12 2 b → m ≡ field_at 14 14 b
    → d ++ s ++ k ++ m ≡ b
four_parts d s k m b long ed es ek em =
    let e₁ = take-add 6 6 b in
    let e₂ = take-add 12 2 b in
    let e₃ = take-add 14 14 b in
    let whole : take 28 b ≡ b = take_all 28 b (omega arith) in
    cc

pub each_28_bytes : Fields16AreExact → Fields48AreExact → Each28BytesAreLinkSetupData
each_28_bytes two six b long h =
    let dst = six.each_bytes (field_at 0 6 b) (length-part 0 6 b (omega arith)) (bytes-part 0 6 b h) in
    let src = six.each_bytes (field_at 6 6 b) (length-part 6 6 b (omega arith)) (bytes-part 6 6 b h) in
    let kind = two.each_bytes (field_at 12 2 b) (length-part 12 2 b (omega arith)) (bytes-part 12 2 b h) in
    let meta = field_at 14 14 b in (
      record { dst = dst.0; src = src.0; kind = kind.0; meta = meta },
      record {
        dst = dst.1;
        src = src.1;
        kind = kind.1;
        meta_bytes = bytes-part 14 14 b h;
        meta_length = length-part 14 14 b (omega arith);
      },
      four_parts (be_48 dst.0) (be_48 src.0) (be_16 kind.0) meta b long dst.2 src.2 kind.2 refl,
    )
