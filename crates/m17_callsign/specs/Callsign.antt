-- Callsigns and the addresses that stand for them. M17 Protocol Specification, address encoding; the form of
-- groups is this project's own.
use Rattle.std.specs.Prelude.{◌≡◌, ◌≢◌, ◌⊎◌, ◌==◌, ℕ, ◌+◌, ◌-◌, ◌*◌, ◌^◌, ◌<◌, ◌≤◌, List, [], ◌∷◌, length, codes, slice_index, position, unwrap_or, All, Contains}
use Rattle.std.specs.List.{sum_by, range_with_len}
use Rattle.m17_callsign.specs.declared.refusal.CallRefusal.{CallRefusal}
use Rattle.m17_callsign.specs.declared.refusal.CallRefusal.TheVariants.{Empty, Long, Letter, Bare, TrailingSpace}

-- The 40 letters in the order of their indexes: the space, A to Z, 0 to 9, and three signs.
unfoldable pub alphabet : List ℕ
alphabet = codes " ABCDEFGHIJKLMNOPQRSTUVWXYZ0123456789-/."

-- The `#` before the letters of a group. It is no letter of the alphabet.
abbrev pub group_sign : ℕ
group_sign = 35

-- The first address above those of nine letters or fewer.
abbrev pub end_of_callsigns : ℕ
end_of_callsigns = 40 ^ 9

-- The first address above those of groups, which have eight letters or fewer.
abbrev pub end_of_groups : ℕ
end_of_groups = end_of_callsigns + 40 ^ 8

-- the address has a text: that of a callsign, 1 to 40^9 - 1, or that of a group, 40^9 + 1 to 40^9 + 40^8 - 1
abbrev pub HasCallsign : ℕ → Type 0
HasCallsign address = ((0 < address) × (address < end_of_callsigns))
    ⊎ ((end_of_callsigns < address) × (address < end_of_groups))

unfoldable pub IsLetter : ℕ → Type 0
IsLetter letter = Contains alphabet letter

-- the place of a letter in the alphabet
unfoldable pub index_of : ℕ → ℕ
index_of letter = unwrap_or (position (λ x. x == letter) alphabet) 0

-- what the letter at a place adds to the sum: the first letter counts least
abbrev pub share_of : List ℕ → ℕ → ℕ
share_of text place = index_of (slice_index text place) * 40 ^ place

-- the sum over all places
abbrev pub sum_of : List ℕ → ℕ
sum_of text = sum_by (share_of text) (range_with_len 0 (length text))

-- the letter at the end
abbrev pub last_letter : List ℕ → ℕ
last_letter text = slice_index text (length text - 1)

-- The text is letters of the alphabet, at least one and at most `most`, and the last is no space.
pub record AreLetters (most : ℕ) (text : List ℕ) : Type 0 where
  pub not_empty : 0 < length text
  pub not_long : length text ≤ most
  pub letters : All IsLetter text
  pub no_space_at_the_end : last_letter text ≢ 32

-- The text is one to nine letters, and the address is their sum.
pub record IsPlainCallsignOf (text : List ℕ) (address : ℕ) : Type 0 where
  pub spelled : AreLetters 9 text
  pub sum : address ≡ sum_of text

-- The text is `#` and one to eight letters, and the address is 40^9 and the sum of these letters.
pub record IsGroupOf (text : List ℕ) (address : ℕ) : Type 0 where
  pub letters : List ℕ
  pub sign : text ≡ group_sign ∷ letters
  pub spelled : AreLetters 8 letters
  pub sum : address ≡ end_of_callsigns + sum_of letters

-- The text is the callsign of the address: of a station, or of a group.
abbrev pub IsCallsignOf : List ℕ → ℕ → Type 0
IsCallsignOf text address = IsPlainCallsignOf text address ⊎ IsGroupOf text address

-- the byte at this place is a letter of the alphabet, or the `#` of a group, which stands at place 0 alone
abbrev pub MayStand : List ℕ → ℕ → Type 0
MayStand text place =
    IsLetter (slice_index text place) ⊎ ((place ≡ 0) × (slice_index text place ≡ group_sign))

-- The text is no callsign, and this is the first reason that fits, in the order of the cases.
abbrev pub IsRefused : List ℕ → CallRefusal → Type 0
IsRefused text Empty = length text ≡ 0
IsRefused text (Long len) = (9 < length text) × (len ≡ length text)
IsRefused text (Letter place) = (length text ≤ 9) × (place < length text)
    × (MayStand text place → ⊥)
    × ((k : ℕ) → k < place → MayStand text k)
IsRefused text Bare = text ≡ group_sign ∷ []
IsRefused text TrailingSpace = (0 < length text) × (length text ≤ 9)
    × ((k : ℕ) → k < length text → MayStand text k)
    × (last_letter text ≡ 32)
