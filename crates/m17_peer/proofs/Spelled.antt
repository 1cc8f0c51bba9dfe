-- The peer of a text, from its bytes.
use Rattle.std.proofs.Common.{◌≡◌, ℕ, ◌+◌, ◌*◌, ◌/◌, ◌%◌, ◌^◌, ◌<◌, Bool, if◌then◌else◌, true, false, ◌≤◌, List, [], ◌∷◌, ◌++◌, length, drop, decimal, get_or, replicate, slice_index, arith, refl, sym, ap, ◌∙◌, append_assoc}
use Rattle.std.specs.Char.{IsAsciiDigit}
use Rattle.std.specs.Str.Parse.{IsNumeral, digits_value}
use Rattle.std.proofs.lemmas.Bool.{false_from_ne_true, true_from_ne_false}
use Rattle.std.proofs.lemmas.Fmt.{decimal_is_IsNumeral, decimal_nonempty}
use Rattle.std.proofs.lemmas.Str.Parse.{digit_at}
use Rattle.std.proofs.lemmas.List.{append-nil, get_or_append_left}
use Rattle.std.proofs.lemmas.List.Elements.{All-get_or}
use Rattle.std.proofs.lemmas.Bool.Decides.{nat_tests}
use Rattle.m17_lists.proofs.Lengths.{same_cons}
use Rattle.m17_values.specs.declared.peer.Peer.{Peer}
use Rattle.m17_peer.specs.Reading.{EndsNumber, nibble_value, pair_value}
use Rattle.m17_peer.specs.Text.{hex_digit, four_text, six_text, text_of, IsPeer, IsTextOf}

nibble_back : (d : ℕ) → d < 16 → nibble_value (hex_digit d) ≡ d
nibble_back d h = grind (arith, nat_tests)

pub pair_back : (x : ℕ) → x < 2 ^ 8 → 16 * nibble_value (hex_digit (x / 16)) + nibble_value (hex_digit (x % 16)) ≡ x
pair_back x h =
    let high : nibble_value (hex_digit (x / 16)) ≡ x / 16 = nibble_back (x / 16) (omega arith) in
    let low : nibble_value (hex_digit (x % 16)) ≡ x % 16 = nibble_back (x % 16) (omega arith) in
    omega arith

pub front_four : (ip : List ℕ) → length ip ≡ 16 → ip ≡ slice_index ip 0 ∷ slice_index ip 1 ∷ slice_index ip 2 ∷ slice_index ip 3 ∷ drop 4 ip
front_four (a ∷ b ∷ c ∷ d ∷ rest) e = refl
front_four _ e = absurd (omega arith)

pub same_peer : (p q : Peer) → p.six ≡ q.six → p.ip ≡ q.ip → p.port ≡ q.port → p ≡ q
same_peer p q six ip port =
    let a : p ≡ record { six = q.six; ip = p.ip; port = p.port } = ap (λ (x : Bool). let r : Peer = record { six = x; ip = p.ip; port = p.port } in r) six in
    let b : record { six = q.six; ip = p.ip; port = p.port } ≡ record { six = q.six; ip = q.ip; port = p.port } = ap (λ (x : List ℕ). let r : Peer = record { six = q.six; ip = x; port = p.port } in r) ip in
    let d : record { six = q.six; ip = q.ip; port = p.port } ≡ q = ap (λ (x : ℕ). let r : Peer = record { six = q.six; ip = q.ip; port = x } in r) port in
    a ∙ b ∙ d

-- three pieces that are appended in turn
pub three : (t a b d t1 t2 t3 : List ℕ) → t1 ≡ t ++ a → t2 ≡ t1 ++ b → t3 ≡ t2 ++ d → t3 ≡ t ++ (a ++ (b ++ d))
three t a b d t1 t2 t3 e1 e2 e3 =
    e3 ∙ ap (λ x. x ++ d) e2 ∙ ap (λ x. (x ++ b) ++ d) e1 ∙ append_assoc (t ++ a) b d ∙ append_assoc t a (b ++ d)

-- the text of an IPv4 peer, number by number
pub four_spelled : (p : Peer) → p.six ≡ false → text_of p ≡ decimal (slice_index p.ip 0) ++ (46 ∷ (decimal (slice_index p.ip 1)
    ++ (46 ∷ (decimal (slice_index p.ip 2) ++ (46 ∷ (decimal (slice_index p.ip 3) ++ (58 ∷ (decimal p.port ++ []))))))))
four_spelled p e =
    let a : List ℕ = decimal (slice_index p.ip 0) in
    let b : List ℕ = decimal (slice_index p.ip 1) in
    let d : List ℕ = decimal (slice_index p.ip 2) in
    let f : List ℕ = decimal (slice_index p.ip 3) in
    let g : List ℕ = decimal p.port in
    ap (λ (x : Bool). (if x then 91 ∷ (six_text p.ip ++ (93 ∷ [])) else four_text p.ip) ++ (58 ∷ decimal p.port)) e
    ∙ append_assoc a (46 ∷ (b ++ (46 ∷ (d ++ (46 ∷ f))))) (58 ∷ g)
    ∙ ap (λ (x : List ℕ). a ++ (46 ∷ x)) (append_assoc b (46 ∷ (d ++ (46 ∷ f))) (58 ∷ g))
    ∙ ap (λ (x : List ℕ). a ++ (46 ∷ (b ++ (46 ∷ x)))) (append_assoc d (46 ∷ f) (58 ∷ g))
    ∙ ap (λ (x : List ℕ). a ++ (46 ∷ (b ++ (46 ∷ (d ++ (46 ∷ (f ++ (58 ∷ x)))))))) (sym (append-nil g))

-- the text of an IPv6 peer
pub six_spelled : (p : Peer) → p.six ≡ true → text_of p ≡ 91 ∷ ((six_text p.ip ++ (93 ∷ [])) ++ (58 ∷ decimal p.port))
six_spelled p e = ap (λ (x : Bool). (if x then 91 ∷ (six_text p.ip ++ (93 ∷ [])) else four_text p.ip) ++ (58 ∷ decimal p.port)) e

pub byte_fits : (p : Peer) (k : ℕ) → IsPeer p → k < 16 → slice_index p.ip k < 2 ^ 8
byte_fits p k h less = All-get_or (λ b. b < 2 ^ 8) p.ip k 0 (omega (arith, h.bytes)) h.fits

pub whole : (ip : List ℕ) → length ip ≡ 16 →
    ip ≡ slice_index ip 0 ∷ slice_index ip 1 ∷ slice_index ip 2 ∷ slice_index ip 3 ∷ slice_index ip 4 ∷ slice_index ip 5 ∷ slice_index ip 6 ∷ slice_index ip 7
    ∷ slice_index ip 8 ∷ slice_index ip 9 ∷ slice_index ip 10 ∷ slice_index ip 11 ∷ slice_index ip 12 ∷ slice_index ip 13 ∷ slice_index ip 14 ∷ slice_index ip 15 ∷ []
whole (a ∷ b ∷ d ∷ e ∷ f ∷ g ∷ h ∷ i ∷ j ∷ k ∷ l ∷ m ∷ n ∷ o ∷ p ∷ q ∷ []) len = refl
whole _ len = absurd (omega arith)

pub dot_ends : (rest : List ℕ) → EndsNumber (46 ∷ rest)
dot_ends rest digit = omega arith

pub colon_ends : (rest : List ℕ) → EndsNumber (58 ∷ rest)
colon_ends rest digit = omega arith

pub end_ends : EndsNumber []
end_ends digit = omega arith

pub low : (r n x : ℕ) → r ≡ n % 2 ^ 8 → n ≡ x → x < 2 ^ 8 → r ≡ x
low r n x e f h = omega arith

pub four_ip : (p : Peer) (a b d e : ℕ) → IsPeer p → p.six ≡ false → a ≡ slice_index p.ip 0 → b ≡ slice_index p.ip 1 → d ≡ slice_index p.ip 2 → e ≡ slice_index p.ip 3 →
    a ∷ b ∷ d ∷ e ∷ replicate 12 0 ≡ p.ip
four_ip p a b d e h six ea eb ed ee =
    same_cons ea (same_cons eb (same_cons ed (same_cons ee (sym (h.zeros six))))) ∙ sym (front_four p.ip h.bytes)

-- the text of an IPv6 peer, piece by piece
abbrev pub six_pieces : Peer → List ℕ
six_pieces p = 91 ∷ ((six_text p.ip ++ (93 ∷ [])) ++ (58 ∷ decimal p.port))

pub sixteen : (p : Peer) → IsPeer p →
    pair_value (six_pieces p) 1 ∷ pair_value (six_pieces p) 3 ∷ pair_value (six_pieces p) 6 ∷ pair_value (six_pieces p) 8
    ∷ pair_value (six_pieces p) 11 ∷ pair_value (six_pieces p) 13 ∷ pair_value (six_pieces p) 16 ∷ pair_value (six_pieces p) 18
    ∷ pair_value (six_pieces p) 21 ∷ pair_value (six_pieces p) 23 ∷ pair_value (six_pieces p) 26 ∷ pair_value (six_pieces p) 28
    ∷ pair_value (six_pieces p) 31 ∷ pair_value (six_pieces p) 33 ∷ pair_value (six_pieces p) 36 ∷ pair_value (six_pieces p) 38 ∷ [] ≡ p.ip
sixteen p h =
    let b : (k : ℕ) → k < 16 → 16 * nibble_value (hex_digit (slice_index p.ip k / 16)) + nibble_value (hex_digit (slice_index p.ip k % 16)) ≡ slice_index p.ip k =
    λ k less. pair_back (slice_index p.ip k) (byte_fits p k h less) in
    same_cons (b 0 (omega arith)) (same_cons (b 1 (omega arith)) (same_cons (b 2 (omega arith)) (same_cons (b 3 (omega arith))
    (same_cons (b 4 (omega arith)) (same_cons (b 5 (omega arith)) (same_cons (b 6 (omega arith)) (same_cons (b 7 (omega arith))
    (same_cons (b 8 (omega arith)) (same_cons (b 9 (omega arith)) (same_cons (b 10 (omega arith)) (same_cons (b 11 (omega arith))
    (same_cons (b 12 (omega arith)) (same_cons (b 13 (omega arith)) (same_cons (b 14 (omega arith)) (same_cons (b 15 (omega arith)) refl)))))))))))))))
    ∙ sym (whole p.ip h.bytes)

pub at_of : (r : List ℕ) (a b d e : ℕ) → r ≡ a ∷ b ∷ d ∷ e ∷ [] → (get_or r 0 0 ≡ a) × (get_or r 1 0 ≡ b) × (get_or r 2 0 ≡ d) × (get_or r 3 0 ≡ e)
at_of r a b d e h = (ap (λ x. get_or x 0 0) h, ap (λ x. get_or x 1 0) h, ap (λ x. get_or x 2 0) h, ap (λ x. get_or x 3 0) h)

pub joined : (t r1 r2 r3 r4 : List ℕ) →
    r1 ≡ pair_value t 1 ∷ pair_value t 3 ∷ pair_value t 6 ∷ pair_value t 8 ∷ [] →
    r2 ≡ pair_value t 11 ∷ pair_value t 13 ∷ pair_value t 16 ∷ pair_value t 18 ∷ [] →
    r3 ≡ pair_value t 21 ∷ pair_value t 23 ∷ pair_value t 26 ∷ pair_value t 28 ∷ [] →
    r4 ≡ pair_value t 31 ∷ pair_value t 33 ∷ pair_value t 36 ∷ pair_value t 38 ∷ [] →
    get_or r1 0 0 ∷ get_or r1 1 0 ∷ get_or r1 2 0 ∷ get_or r1 3 0 ∷ get_or r2 0 0 ∷ get_or r2 1 0 ∷ get_or r2 2 0 ∷ get_or r2 3 0
    ∷ get_or r3 0 0 ∷ get_or r3 1 0 ∷ get_or r3 2 0 ∷ get_or r3 3 0 ∷ get_or r4 0 0 ∷ get_or r4 1 0 ∷ get_or r4 2 0 ∷ get_or r4 3 0 ∷ []
    ≡ pair_value t 1 ∷ pair_value t 3 ∷ pair_value t 6 ∷ pair_value t 8 ∷ pair_value t 11 ∷ pair_value t 13 ∷ pair_value t 16 ∷ pair_value t 18
    ∷ pair_value t 21 ∷ pair_value t 23 ∷ pair_value t 26 ∷ pair_value t 28 ∷ pair_value t 31 ∷ pair_value t 33 ∷ pair_value t 36 ∷ pair_value t 38 ∷ []
joined t r1 r2 r3 r4 e1 e2 e3 e4 =
    ap (λ r. get_or r 0 0 ∷ get_or r 1 0 ∷ get_or r 2 0 ∷ get_or r 3 0 ∷ get_or r2 0 0 ∷ get_or r2 1 0 ∷ get_or r2 2 0 ∷ get_or r2 3 0
    ∷ get_or r3 0 0 ∷ get_or r3 1 0 ∷ get_or r3 2 0 ∷ get_or r3 3 0 ∷ get_or r4 0 0 ∷ get_or r4 1 0 ∷ get_or r4 2 0 ∷ get_or r4 3 0 ∷ []) e1
    ∙ ap (λ r. pair_value t 1 ∷ pair_value t 3 ∷ pair_value t 6 ∷ pair_value t 8 ∷ get_or r 0 0 ∷ get_or r 1 0 ∷ get_or r 2 0 ∷ get_or r 3 0
    ∷ get_or r3 0 0 ∷ get_or r3 1 0 ∷ get_or r3 2 0 ∷ get_or r3 3 0 ∷ get_or r4 0 0 ∷ get_or r4 1 0 ∷ get_or r4 2 0 ∷ get_or r4 3 0 ∷ []) e2
    ∙ ap (λ r. pair_value t 1 ∷ pair_value t 3 ∷ pair_value t 6 ∷ pair_value t 8 ∷ pair_value t 11 ∷ pair_value t 13 ∷ pair_value t 16 ∷ pair_value t 18
    ∷ get_or r 0 0 ∷ get_or r 1 0 ∷ get_or r 2 0 ∷ get_or r 3 0 ∷ get_or r4 0 0 ∷ get_or r4 1 0 ∷ get_or r4 2 0 ∷ get_or r4 3 0 ∷ []) e3
    ∙ ap (λ r. pair_value t 1 ∷ pair_value t 3 ∷ pair_value t 6 ∷ pair_value t 8 ∷ pair_value t 11 ∷ pair_value t 13 ∷ pair_value t 16 ∷ pair_value t 18
    ∷ pair_value t 21 ∷ pair_value t 23 ∷ pair_value t 26 ∷ pair_value t 28 ∷ get_or r 0 0 ∷ get_or r 1 0 ∷ get_or r 2 0 ∷ get_or r 3 0 ∷ []) e4

pub six_ip : (p : Peer) (t r1 r2 r3 r4 : List ℕ) → IsPeer p → t ≡ six_pieces p →
    r1 ≡ pair_value t 1 ∷ pair_value t 3 ∷ pair_value t 6 ∷ pair_value t 8 ∷ [] →
    r2 ≡ pair_value t 11 ∷ pair_value t 13 ∷ pair_value t 16 ∷ pair_value t 18 ∷ [] →
    r3 ≡ pair_value t 21 ∷ pair_value t 23 ∷ pair_value t 26 ∷ pair_value t 28 ∷ [] →
    r4 ≡ pair_value t 31 ∷ pair_value t 33 ∷ pair_value t 36 ∷ pair_value t 38 ∷ [] →
    get_or r1 0 0 ∷ get_or r1 1 0 ∷ get_or r1 2 0 ∷ get_or r1 3 0 ∷ get_or r2 0 0 ∷ get_or r2 1 0 ∷ get_or r2 2 0 ∷ get_or r2 3 0
    ∷ get_or r3 0 0 ∷ get_or r3 1 0 ∷ get_or r3 2 0 ∷ get_or r3 3 0 ∷ get_or r4 0 0 ∷ get_or r4 1 0 ∷ get_or r4 2 0 ∷ get_or r4 3 0 ∷ [] ≡ p.ip
six_ip p t r1 r2 r3 r4 h e e1 e2 e3 e4 =
    joined t r1 r2 r3 r4 e1 e2 e3 e4
    ∙ ap (λ x. pair_value x 1 ∷ pair_value x 3 ∷ pair_value x 6 ∷ pair_value x 8 ∷ pair_value x 11 ∷ pair_value x 13 ∷ pair_value x 16 ∷ pair_value x 18
    ∷ pair_value x 21 ∷ pair_value x 23 ∷ pair_value x 26 ∷ pair_value x 28 ∷ pair_value x 31 ∷ pair_value x 33 ∷ pair_value x 36 ∷ pair_value x 38 ∷ []) e
    ∙ sixteen p h

-- what is left of it behind the address
pub six_port : (p : Peer) (t r : List ℕ) → t ≡ six_pieces p → r ≡ drop 42 t → r ≡ decimal p.port ++ []
six_port p t r e f = f ∙ ap (drop 42) e ∙ sym (append-nil (decimal p.port))

-- the first byte tells the two kinds apart
four_first : (p : Peer) → IsPeer p → p.six ≡ false → slice_index (text_of p) 0 ≤ 57
four_first p h six =
    let fits : slice_index p.ip 0 < 2 ^ 8 = byte_fits p 0 h (omega arith) in
    let some : 0 < length (decimal (slice_index p.ip 0)) = decimal_nonempty (slice_index p.ip 0) (omega arith) in
    let digits : IsNumeral 10 (decimal (slice_index p.ip 0)) × (digits_value 10 (decimal (slice_index p.ip 0)) ≡ slice_index p.ip 0) = decimal_is_IsNumeral (slice_index p.ip 0) (omega arith) in
    let digit : IsAsciiDigit (get_or (decimal (slice_index p.ip 0)) 0 0) = digit_at (decimal (slice_index p.ip 0)) 0 digits.0.1 some in
    let rest : List ℕ = 46 ∷ (decimal (slice_index p.ip 1) ++ (46 ∷ (decimal (slice_index p.ip 2) ++ (46 ∷ (decimal (slice_index p.ip 3) ++ (58 ∷ (decimal p.port ++ []))))))) in
    let first : get_or (text_of p) 0 0 ≡ get_or (decimal (slice_index p.ip 0)) 0 0 =
    ap (λ x. get_or x 0 0) (four_spelled p six) ∙ get_or_append_left (decimal (slice_index p.ip 0)) rest 0 0 some in
    omega arith

pub is_six : (p : Peer) (t : List ℕ) → IsTextOf p t → slice_index t 0 ≡ 91 → p.six ≡ true
is_six p t h e = true_from_ne_false p.six (λ six.
    let low : slice_index (text_of p) 0 ≤ 57 = four_first p h.is_peer six in
    let same : slice_index t 0 ≡ slice_index (text_of p) 0 = ap (λ x. slice_index x 0) h.text_is in
    omega arith)

pub is_four : (p : Peer) (t : List ℕ) → IsTextOf p t → (slice_index t 0 ≡ 91 → ⊥) → p.six ≡ false
is_four p t h ne = false_from_ne_true p.six (λ six. ne (ap (λ x. slice_index x 0) (h.text_is ∙ six_spelled p six)))
