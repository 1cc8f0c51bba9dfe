-- The callsign of an address, letter by letter. M17 Protocol Specification, address encoding; the form of
-- groups is this project's own.
use Rattle.std.specs.Prelude.{ℕ, zero, suc, ◌-◌, ◌/◌, ◌%◌, ◌==◌, nat_lt, ◌&&◌, List, [], ◌∷◌, Option, Some, None, slice_index, if◌then◌else◌}
use Rattle.m17_callsign.specs.Callsign.{alphabet, group_sign, end_of_callsigns, end_of_groups}

-- the letters of a sum, as far as there is room: the sum in the base of 40, the first letter least, up to its last digit that
-- isn't 0
unfoldable pub letters_of : ℕ → ℕ → List ℕ
letters_of zero sum = []
letters_of (suc room) sum =
    if sum == 0 then [] else slice_index alphabet (sum % 40) ∷ letters_of room (sum / 40)

-- The callsign of an address: its letters; above 40^9 a `#` and the letters of what is above it; none for 0, for 40^9
-- itself, and from the end of groups on.
unfoldable pub callsign_of : ℕ → Option (List ℕ)
callsign_of address =
    if nat_lt 0 address && nat_lt address end_of_callsigns then Some (letters_of 9 address) else
    (if nat_lt end_of_callsigns address && nat_lt address end_of_groups
    then Some (group_sign ∷ letters_of 8 (address - end_of_callsigns)) else None)
