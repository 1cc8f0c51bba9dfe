-- A number that is no address has no callsign, and is printed as hex digits.
use Rattle.std.proofs.Common.{ℕ, ◌≡◌, ◌≤◌, ◌-◌, ◌^◌, List, Option, None, Some, ap, ◌∙◌, refl, arith, codes, if◌then◌else◌}
use Rattle.std.specs.Prelude.{IsSome, ◌==◌, unwrap_or}
use Rattle.m17_callsign.specs.Laws.{EachAddressHasOneCallsign}
use Rattle.m17_callsign.specs.AddressBytes.{address_bytes}
use Rattle.m17_callsign.specs.Letters.{callsign_of}
use Rattle.m17_print.specs.Line.{hex_of}
use Rattle.m17_print.specs.Packets.{address_text}

none_if : (found : Option (List ℕ)) → (IsSome found → ⊥) → found ≡ None
none_if None out = refl
none_if (Some text) out = absurd (out refl)

no_callsign : EachAddressHasOneCallsign → (n : ℕ) → 2 ^ 48 ≤ n → callsign_of n ≡ None
no_callsign law n high = none_if (callsign_of n) (λ some. let fits = law.within n ((law.in_range n).0 some) in omega arith)

unless_broadcast : (n : ℕ) → 2 ^ 48 ≤ n → (if n == 2 ^ 48 - 1 then codes "broadcast" else hex_of (address_bytes n)) ≡ hex_of (address_bytes n)
unless_broadcast n high = grind arith

pub as_hex : EachAddressHasOneCallsign → (n : ℕ) → 2 ^ 48 ≤ n → address_text n ≡ hex_of (address_bytes n)
as_hex law n high =
    ap (λ (found : Option (List ℕ)). unwrap_or found (if n == 2 ^ 48 - 1 then codes "broadcast" else hex_of (address_bytes n))) (no_callsign law n high)
    ∙ unless_broadcast n high
