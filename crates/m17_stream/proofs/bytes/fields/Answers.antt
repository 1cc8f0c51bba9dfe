use Rattle.std.proofs.Common.{◌≡◌, ◌^◌, ◌<◌, List, ℕ, take, drop, Option, MatchOption, Some, ap, ◌∙◌, rules}
use Rattle.m17_fields.specs.Fields.{be_16}
use Rattle.std.specs.Array.{IsWholeChunk}
use Rattle.std.specs.Borrow.{Bor}
use Rattle.std.proofs.lemmas.List.Elements.{All-same, All-take, All-drop, All-from_get_or}
use Rattle.m17_stream.proofs.Packets.{field_of_parts}
use Rattle.m17_stream.proofs.bytes.fields.Goals as goal

-- the chunk that was unwrapped
chunk : (r : Option (Bor (List ℕ))) (x : Bor (List ℕ)) (xs : List ℕ) (n : ℕ) (P : Type 0)
    → r ≡ Some x → MatchOption r P (λ y. IsWholeChunk xs y.now n) → x.now ≡ xs
chunk r x xs n P e h = let k = rw e at h in k.same

pub returns : goal.returns
returns c =
    let b = c.args.b.now in
    let payload : c.unwrap-2.result.now ≡ take 16 (drop 36 b) = chunk c.as_array-2.result c.unwrap-2.result _ 16 _ c.unwrap-2.ensures c.as_array-2.ensures.cases in
    let lsd : c.unwrap.result.now ≡ take 28 (drop 6 b) = chunk c.as_array.result c.unwrap.result _ 28 _ c.unwrap.ensures c.as_array.ensures.cases in
    record {
      sid_fits = c.get_16.type_inv;
      lsd_fits = c.read.ensures.fits;
      number_fits = search rules;
      payload_fits = All-same (λ byte. byte < 2 ^ 8) _ _ payload
          (All-take (λ byte. byte < 2 ^ 8) 16 (drop 36 b) (All-drop (λ byte. byte < 2 ^ 8) 36 b (All-from_get_or (λ byte. byte < 2 ^ 8) b 0 (λ i _. c.fits-b i))));
      sid = c.get_16.ensures;
      lsd = c.read.ensures.bytes ∙ lsd;
      field = ap (be_16) (field_of_parts c.get_16-field.result c.get_16-field.type_inv) ∙ c.get_16-field.ensures;
      payload = payload;
    }
