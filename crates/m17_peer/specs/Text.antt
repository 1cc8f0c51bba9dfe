-- The texts of peers.
use Rattle.std.specs.Prelude.{◌≡◌, ℕ, ◌+◌, ◌/◌, ◌%◌, ◌<◌, ◌^◌, false, List, [], ◌∷◌, ◌++◌, decimal, drop, length, replicate, slice_index, nat_lt, All, if◌then◌else◌}
use Rattle.m17_values.specs.declared.peer.Peer.{Peer}

-- a lower-case hex digit
abbrev pub hex_digit : ℕ → ℕ
hex_digit d = if nat_lt d 10 then 48 + d else 87 + d

-- the byte at a place, as two hex digits
abbrev pub hex_at : List ℕ → ℕ → List ℕ
hex_at ip k = hex_digit (slice_index ip k / 16) ∷ hex_digit (slice_index ip k % 16) ∷ []

-- a group of an IPv6 address: two bytes
abbrev pub group_at : List ℕ → ℕ → List ℕ
group_at ip k = hex_at ip k ++ hex_at ip (k + 1)

-- two groups, with a colon between them
abbrev pub pair_at : List ℕ → ℕ → List ℕ
pair_at ip k = group_at ip k ++ (58 ∷ group_at ip (k + 2))

-- four groups
abbrev pub half_at : List ℕ → ℕ → List ℕ
half_at ip k = pair_at ip k ++ (58 ∷ pair_at ip (k + 4))

-- an IPv6 address: eight groups, with a colon between two
abbrev pub six_text : List ℕ → List ℕ
six_text ip = half_at ip 0 ++ (58 ∷ half_at ip 8)

-- an IPv4 address: its four bytes as numbers, with a dot between two
abbrev pub four_text : List ℕ → List ℕ
four_text ip =
    decimal (slice_index ip 0) ++ (46 ∷ (decimal (slice_index ip 1)
    ++ (46 ∷ (decimal (slice_index ip 2) ++ (46 ∷ decimal (slice_index ip 3))))))

-- the address of a peer, in brackets where it is one of IPv6
abbrev pub address_of : Peer → List ℕ
address_of p = if p.six then 91 ∷ (six_text p.ip ++ (93 ∷ [])) else four_text p.ip

-- The text of a peer: its address, a colon, and its port as a number.
abbrev pub text_of : Peer → List ℕ
text_of p = address_of p ++ (58 ∷ decimal p.port)

-- a peer as the program makes them: the bytes behind an IPv4 address are 0
pub record IsPeer (p : Peer) : Type 0 where
  pub bytes : length p.ip ≡ 16
  pub fits : All (λ byte. byte < 2 ^ 8) p.ip
  pub port_fits : p.port < 2 ^ 16
  pub zeros : p.six ≡ false → drop 4 p.ip ≡ replicate 12 0

-- the text is that of this peer
pub record IsTextOf (p : Peer) (text : List ℕ) : Type 0 where
  pub is_peer : IsPeer p
  pub text_is : text ≡ text_of p
