-- A text is that of one peer.
use Rattle.std.proofs.Common.{◌≡◌, ℕ, ◌+◌, ◌^◌, ◌<◌, Bool, true, false, List, [], ◌∷◌, ◌++◌, length, take, drop, decimal, get_or, slice_index, arith, inr, refl, sym, ap, ◌∙◌, subst, length-append}
use Rattle.std.specs.Char.{IsAsciiDigit}
use Rattle.std.specs.Str.Parse.{AllDigits, IsNumeral, digits_value}
use Rattle.std.proofs.lemmas.Bool.{false≢true}
use Rattle.std.proofs.lemmas.Fmt.{decimal_is_IsNumeral}
use Rattle.std.proofs.lemmas.List.{get_or-append-add}
use Rattle.std.proofs.Math.Seq.{drop-append_seam, take-append_seam}
use Rattle.m17_values.specs.declared.peer.Peer.{Peer}
use Rattle.m17_peer.specs.Laws.{EachTextIsOfOnePeer}
use Rattle.m17_peer.specs.Reading.{EndsNumber, pair_value}
use Rattle.m17_peer.specs.Text.{IsPeer, IsTextOf, text_of}
use Rattle.m17_peer.proofs.Numbers.{IsRead, Stops, len_decimal, number_read}
use Rattle.m17_peer.proofs.Spelled.{byte_fits, colon_ends, dot_ends, end_ends, four_ip, four_spelled, is_four, is_six, same_peer, six_pieces, six_port, six_spelled, sixteen}

-- a number with no digit behind it, at the front of two texts that are the same
one_number : (m n : ℕ) (xs ys : List ℕ) → m < 2 ^ 16 → n < 2 ^ 16 → EndsNumber xs → EndsNumber ys → decimal m ++ xs ≡ decimal n ++ ys → (m ≡ n) × (xs ≡ ys)
one_number m n xs ys fits fits' ends ends' e =
    let bytes : List ℕ = decimal m ++ xs in
    let numeral : IsNumeral 10 (decimal m) × (digits_value 10 (decimal m) ≡ m) = decimal_is_IsNumeral m (omega arith) in
    let front : take (length (decimal m)) bytes ≡ decimal m = take-append_seam (decimal m) xs in
    let whole : length bytes ≡ length (decimal m) + length xs = length-append (decimal m) xs in
    let read : IsRead bytes (length (decimal m)) m = record {
      few = len_decimal m fits;
      digits = subst (AllDigits 10) (sym front) numeral.0.1;
      value_is = sym (ap (digits_value 10) front ∙ numeral.1);
    } in
    let behind : get_or bytes (length (decimal m)) 0 ≡ get_or xs 0 0 = ap (λ x. get_or bytes x 0) (omega arith) ∙ get_or-append-add (decimal m) xs 0 0 in
    let stops : Stops bytes (length (decimal m)) = inr (inr (λ digit. ends (subst IsAsciiDigit behind digit))) in
    let is = number_read bytes (length (decimal m)) m n ys (omega arith) read stops fits' ends' e in
    (omega (arith, is.0), sym (drop-append_seam (decimal m) xs) ∙ ap (drop (length (decimal m))) e ∙ ap (λ k. drop k (decimal n ++ ys)) is.1 ∙ drop-append_seam (decimal n) ys)

one_byte : (p q : Peer) (k : ℕ) (xs ys : List ℕ) → k < 16 → IsPeer p → IsPeer q → EndsNumber xs → EndsNumber ys → decimal (slice_index p.ip k) ++ xs ≡ decimal (slice_index q.ip k) ++ ys → (slice_index p.ip k ≡ slice_index q.ip k) × (xs ≡ ys)
one_byte p q k xs ys less h h' ends ends' e =
    let fits : slice_index p.ip k < 2 ^ 8 = byte_fits p k h less in
    let fits' : slice_index q.ip k < 2 ^ 8 = byte_fits q k h' less in
    one_number (slice_index p.ip k) (slice_index q.ip k) xs ys (omega arith) (omega arith) ends ends' e

-- the text of an IPv4 peer from its port on, and from each byte but the first on
abbrev port_on : Peer → List ℕ
port_on p = decimal p.port ++ []

abbrev from_fourth : Peer → List ℕ
from_fourth p = decimal (slice_index p.ip 3) ++ (58 ∷ port_on p)

abbrev from_third : Peer → List ℕ
from_third p = decimal (slice_index p.ip 2) ++ (46 ∷ from_fourth p)

abbrev from_second : Peer → List ℕ
from_second p = decimal (slice_index p.ip 1) ++ (46 ∷ from_third p)

one_four : (p q : Peer) → IsPeer p → IsPeer q → p.six ≡ false → q.six ≡ false → text_of p ≡ text_of q → p ≡ q
one_four p q h h' six six' e =
    let a = one_byte p q 0 (46 ∷ from_second p) (46 ∷ from_second q) (omega arith) h h' (dot_ends (from_second p)) (dot_ends (from_second q)) (sym (four_spelled p six) ∙ e ∙ four_spelled q six') in
    let b = one_byte p q 1 (46 ∷ from_third p) (46 ∷ from_third q) (omega arith) h h' (dot_ends (from_third p)) (dot_ends (from_third q)) (ap (drop 1) a.1) in
    let d = one_byte p q 2 (46 ∷ from_fourth p) (46 ∷ from_fourth q) (omega arith) h h' (dot_ends (from_fourth p)) (dot_ends (from_fourth q)) (ap (drop 1) b.1) in
    let f = one_byte p q 3 (58 ∷ port_on p) (58 ∷ port_on q) (omega arith) h h' (colon_ends (port_on p)) (colon_ends (port_on q)) (ap (drop 1) d.1) in
    let port = one_number p.port q.port [] [] h.port_fits h'.port_fits end_ends end_ends (ap (drop 1) f.1) in
    same_peer p q (six ∙ sym six')
    (sym (four_ip p _ _ _ _ h six (sym a.0) (sym b.0) (sym d.0) (sym f.0)) ∙ four_ip q _ _ _ _ h' six' refl refl refl refl)
    port.0

-- the bytes that stand at the places of an IPv6 address
abbrev bytes_at : List ℕ → List ℕ
bytes_at t =
    pair_value t 1 ∷ pair_value t 3 ∷ pair_value t 6 ∷ pair_value t 8 ∷ pair_value t 11 ∷ pair_value t 13 ∷ pair_value t 16 ∷ pair_value t 18
    ∷ pair_value t 21 ∷ pair_value t 23 ∷ pair_value t 26 ∷ pair_value t 28 ∷ pair_value t 31 ∷ pair_value t 33 ∷ pair_value t 36 ∷ pair_value t 38 ∷ []

one_six : (p q : Peer) → IsPeer p → IsPeer q → p.six ≡ true → q.six ≡ true → text_of p ≡ text_of q → p ≡ q
one_six p q h h' six six' e =
    let f : six_pieces p ≡ six_pieces q = sym (six_spelled p six) ∙ e ∙ six_spelled q six' in
    let rest : decimal p.port ++ [] ≡ decimal q.port ++ [] =
    sym (six_port p (six_pieces p) _ refl refl) ∙ ap (drop 42) f ∙ six_port q (six_pieces q) _ refl refl in
    same_peer p q (six ∙ sym six')
    (sym (sixteen p h) ∙ ap bytes_at f ∙ sixteen q h')
    (one_number p.port q.port [] [] h.port_fits h'.port_fits end_ends end_ends rest).0

one_kind : (p q : Peer) (text : List ℕ) (six : Bool) → p.six ≡ six → IsTextOf p text → IsTextOf q text → p ≡ q
one_kind p q text true six h h' =
    let six' : q.six ≡ true = is_six q text h' (ap (λ x. slice_index x 0) (h.text_is ∙ six_spelled p six)) in
    one_six p q h.is_peer h'.is_peer six six' (sym h.text_is ∙ h'.text_is)
one_kind p q text false six h h' =
    let six' : q.six ≡ false = is_four q text h' (λ e. false≢true (sym six ∙ is_six p text h e)) in
    one_four p q h.is_peer h'.is_peer six six' (sym h.text_is ∙ h'.text_is)

pub one_text : EachTextIsOfOnePeer
one_text p q text h h' = one_kind p q text p.six refl h h'
