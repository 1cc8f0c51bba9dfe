-- Which addresses have a callsign. M17 Protocol Specification, address encoding; the form of
-- groups is this project's own.
use Rattle.std.specs.Prelude.{◌≡◌, ◌↔◌, ◌<◌, ◌^◌, ℕ, List, Some, IsSome}
use Rattle.m17_callsign.specs.Callsign.{IsCallsignOf, HasCallsign}
use Rattle.m17_callsign.specs.Letters.{callsign_of}

-- Each address from 1 on and below the end of groups but 40^9 has exactly one callsign, and no other address has one.
-- No callsign is that of two addresses, and all of these addresses have 48 bits.
pub record EachAddressHasOneCallsign : Type 0 where
  pub one : (text : List ℕ) (address : ℕ)
      → (callsign_of address ≡ Some text) ↔ IsCallsignOf text address
  pub one_address : (text : List ℕ) (address other : ℕ) → IsCallsignOf text address
      → IsCallsignOf text other → address ≡ other
  pub in_range : (address : ℕ) → IsSome (callsign_of address) ↔ HasCallsign address
  pub within : (address : ℕ) → HasCallsign address → address < 2 ^ 48
