-- An input of `show` has one text.
use Rattle.std.proofs.Common.{◌≡◌, ℕ, ◌<◌, ◌≤◌, ◌^◌, List, [], ◌∷◌, ◌++◌, slice_get, Option, Some, IsErr, unwrap_or, refl, sym, ap, subst, ◌∙◌, arith, inl, inr}
use Rattle.std.proofs.lemmas.Option.{slice_get_within}
use Rattle.std.proofs.lemmas.List.Elements.{All-from_get_or}
use Rattle.std.proofs.lemmas.Bool.{cases_lt}
use Rattle.hex.specs.Hex.{decode_of}
use Rattle.hex.proofs.HexLemmas.{decode_of-ok, decode_of-same}
use Rattle.m17_fields.specs.Fields.{IsBytes}
use Rattle.m17_fields.specs.Reading.{IsOnlyValue, IsOnlyRefusal, HasOneReading}
use Rattle.m17_control.specs.declared.packet.Packet.{Packet}
use Rattle.m17_control.specs.declared.packet.Refusal.{Refusal}
use Rattle.m17_control.specs.Forms.{Spells, Refuses}
use Rattle.m17_print.specs.Endings.{input_refused_line}
use Rattle.m17_print.specs.Packets.{packet_text, refusal_text}
use Rattle.m17_print.proofs.TextsOfLines.{one_text}
use Rattle.m17_text_commands.specs.declared.show_reason.ShowReason.{ShowReason}
use Rattle.m17_text_commands.specs.declared.show_reason.ShowReason.TheVariants.{Large, Long, Odd, Digit}
use Rattle.m17_text_commands.specs.ShowReasons.{show_reason_words}
use Rattle.m17_text_commands.specs.Lines.{most_lines, lines_of, content_of, AreLineCount, IsTooLong, IsOdd, HasNoHex, RefusesLine}
use Rattle.m17_text_commands.specs.Show.{SaysOfBytes, IsPrintedFor, HasPrintedLine, IsTextOfFirst}
use Rattle.m17_text_commands.specs.ShowLaws.{OneShowText}

-- bytes as a packet: the only one, or refused for the only reason
abbrev IsOnlyPacket : List ℕ → Packet → Type 0
IsOnlyPacket bytes p = IsOnlyValue Spells Refuses bytes p

abbrev IsOnlyReason : List ℕ → Refusal → Type 0
IsOnlyReason bytes r = IsOnlyRefusal Spells Refuses bytes r

-- each list of bytes has one reading
abbrev pub EachHasOneReading : Type 0
EachHasOneReading = (bytes : List ℕ) → IsBytes bytes → HasOneReading Spells Refuses bytes

-- what is said of bytes that spell a packet, and of bytes that are refused
said_of_packet : (bytes text : List ℕ) (p : Packet) → IsOnlyPacket bytes p → SaysOfBytes bytes text → text ≡ packet_text p
said_of_packet bytes text p only (inl (q, spells, is)) = is ∙ ap packet_text (only.no_other q spells)
said_of_packet bytes text p only (inr (r, refuses, is)) = absurd (only.no_refusal r refuses)

said_of_refusal : (bytes text : List ℕ) (r : Refusal) → IsOnlyReason bytes r → SaysOfBytes bytes text → text ≡ refusal_text r
said_of_refusal bytes text r only (inl (q, spells, is)) = absurd (only.no_value q spells)
said_of_refusal bytes text r only (inr (other, refuses, is)) = is ∙ ap refusal_text (only.no_other other refuses)

one_said : (bytes a b : List ℕ) → HasOneReading Spells Refuses bytes → SaysOfBytes bytes a → SaysOfBytes bytes b → a ≡ b
one_said bytes a b (inl (p, only)) in_a in_b = said_of_packet bytes a p only in_a ∙ sym (said_of_packet bytes b p only in_b)
one_said bytes a b (inr (r, only)) in_a in_b = said_of_refusal bytes a r only in_a ∙ sym (said_of_refusal bytes b r only in_b)

-- one thing stands at a place
same_at : (input : List ℕ) (n : ℕ) (a b : List ℕ) → slice_get (lines_of input) n ≡ Some a → slice_get (lines_of input) n ≡ Some b → a ≡ b
same_at input n a b at_a at_b = ap (λ (o : Option (List ℕ)). unwrap_or o a) (sym at_a ∙ at_b)

-- a line has one printed line
one_printed : EachHasOneReading → (line a b : List ℕ) → IsPrintedFor line a → IsPrintedFor line b → a ≡ b
one_printed reading line a b in_a in_b =
    let same : in_a.bytes ≡ in_b.bytes = decode_of-same (content_of line) in_a.bytes in_b.bytes in_a.digits in_b.digits in
    let small = (decode_of-ok (content_of line) in_b.bytes in_b.digits).3 in
    let are_bytes : IsBytes in_b.bytes = All-from_get_or (λ (byte : ℕ). byte < 2 ^ 8) in_b.bytes 0 (λ i _. small i) in
    let text : in_a.text ≡ in_b.text = one_said in_b.bytes in_a.text in_b.text (reading in_b.bytes are_bytes)
    (subst (λ (bytes : List ℕ). SaysOfBytes bytes in_a.text) same in_a.said) in_b.said in
    in_a.printed_is ∙ ap (λ xs. xs ++ 10 ∷ []) text ∙ sym in_b.printed_is

one_line : EachHasOneReading → (input : List ℕ) (n : ℕ) (a b : List ℕ) → HasPrintedLine input n a → HasPrintedLine input n b → a ≡ b
one_line reading input n a b in_a in_b =
    let same : in_a.0 ≡ in_b.0 = same_at input n in_a.0 in_b.0 in_a.1 in_b.1 in
    one_printed reading in_b.0 a b (subst (λ (line : List ℕ). IsPrintedFor line a) same in_a.2) in_b.2

one_first : EachHasOneReading → (input : List ℕ) (count : ℕ) (a b : List ℕ) → IsTextOfFirst input count a → IsTextOfFirst input count b → a ≡ b
one_first reading input count a b in_a in_b =
    one_text (HasPrintedLine input) count a b (λ n one other _ in_one in_other. one_line reading input n one other in_one in_other) in_a in_b

-- what is printed was no error
no_error : (line printed : List ℕ) → IsPrintedFor line printed → IsErr (decode_of (content_of line)) → ⊥
no_error line printed is err = let none = rw is.digits at err in cc

-- a line that is refused is not printed
not_printed : (input : List ℕ) (n : ℕ) (reason : ShowReason) (printed : List ℕ) → n < most_lines → RefusesLine input n reason → HasPrintedLine input n printed → ⊥
not_printed input n Large printed few refuses has = omega arith
not_printed input n Long printed few (_, line, there, long) has =
    let fits : IsPrintedFor line printed = subst (λ (l : List ℕ). IsPrintedFor l printed) (same_at input n has.0 line has.1 there) has.2 in
    omega (arith, fits.not_long)
not_printed input n Odd printed few (_, line, there, odd) has =
    let fits : IsPrintedFor line printed = subst (λ (l : List ℕ). IsPrintedFor l printed) (same_at input n has.0 line has.1 there) has.2 in
    let even = (decode_of-ok (content_of line) fits.bytes fits.digits).0 in
    omega (arith, odd.1)
not_printed input n Digit printed few (_, line, there, none) has =
    let fits : IsPrintedFor line printed = subst (λ (l : List ℕ). IsPrintedFor l printed) (same_at input n has.0 line has.1 there) has.2 in
    no_error line printed fits none.2

-- where a line is refused
refused_within : (input : List ℕ) (n : ℕ) (reason : ShowReason) → RefusesLine input n reason → n ≤ most_lines
refused_within input n Large refuses = omega (arith, refuses.0)
refused_within input n Long refuses = omega (arith, refuses.0)
refused_within input n Odd refuses = omega (arith, refuses.0)
refused_within input n Digit refuses = omega (arith, refuses.0)

-- no text of lines goes past a line that is refused
not_past : (input : List ℕ) (n count : ℕ) (reason : ShowReason) (text : List ℕ) → n < count → count ≤ most_lines → RefusesLine input n reason → IsTextOfFirst input count text → ⊥
not_past input n count reason text past few refuses is =
    let one = is.each n past in
    not_printed input n reason one.0 (omega arith) refuses one.2

-- the input isn't refused where all of its lines are printed
not_both : (input : List ℕ) (count n : ℕ) (reason : ShowReason) (text : List ℕ) → AreLineCount input count → IsTextOfFirst input count text → RefusesLine input n reason → ⊥
not_both input count n Large text are is refuses = omega (arith, refuses.0, refuses.1, are.whole, are.not_large)
not_both input count n Long text are is (few, line, there, long) =
    let inside = slice_get_within (lines_of input) n line there in
    not_past input n count Long text (omega (arith, are.whole)) are.not_large (few, line, there, long) is
not_both input count n Odd text are is (few, line, there, odd) =
    let inside = slice_get_within (lines_of input) n line there in
    not_past input n count Odd text (omega (arith, are.whole)) are.not_large (few, line, there, odd) is
not_both input count n Digit text are is (few, line, there, none) =
    let inside = slice_get_within (lines_of input) n line there in
    not_past input n count Digit text (omega (arith, are.whole)) are.not_large (few, line, there, none) is

-- a line is refused for one reason
on_line : (P : List ℕ → Type 0) (input : List ℕ) (n : ℕ) (a b : List ℕ) → slice_get (lines_of input) n ≡ Some a → slice_get (lines_of input) n ≡ Some b → P (content_of a) → P (content_of b)
on_line P input n a b at_a at_b p = subst (λ (l : List ℕ). P (content_of l)) (same_at input n a b at_a at_b) p

one_reason : (input : List ℕ) (n : ℕ) (a b : ShowReason) → RefusesLine input n a → RefusesLine input n b → a ≡ b
one_reason input n Large Large x y = refl
one_reason input n Large Long x y = absurd (omega (arith, x.0, y.0))
one_reason input n Large Odd x y = absurd (omega (arith, x.0, y.0))
one_reason input n Large Digit x y = absurd (omega (arith, x.0, y.0))
one_reason input n Long Large x y = absurd (omega (arith, x.0, y.0))
one_reason input n Long Long x y = refl
one_reason input n Long Odd (_, a, at_a, x) (_, b, at_b, y) = let z = on_line IsTooLong input n a b at_a at_b x in absurd (omega (arith, z, y.0))
one_reason input n Long Digit (_, a, at_a, x) (_, b, at_b, y) = let z = on_line IsTooLong input n a b at_a at_b x in absurd (omega (arith, z, y.0))
one_reason input n Odd Large x y = absurd (omega (arith, x.0, y.0))
one_reason input n Odd Long (_, a, at_a, x) (_, b, at_b, y) = let z = on_line IsOdd input n a b at_a at_b x in absurd (omega (arith, z.0, y))
one_reason input n Odd Odd x y = refl
one_reason input n Odd Digit (_, a, at_a, x) (_, b, at_b, y) = let z = on_line IsOdd input n a b at_a at_b x in absurd (omega (arith, z.1, y.1))
one_reason input n Digit Large x y = absurd (omega (arith, x.0, y.0))
one_reason input n Digit Long (_, a, at_a, x) (_, b, at_b, y) = let z = on_line HasNoHex input n a b at_a at_b x in absurd (omega (arith, z.0, y))
one_reason input n Digit Odd (_, a, at_a, x) (_, b, at_b, y) = let z = on_line HasNoHex input n a b at_a at_b x in absurd (omega (arith, z.1, y.1))
one_reason input n Digit Digit x y = refl

-- it is refused at one place
one_place : (input : List ℕ) (m n : ℕ) (a b : ShowReason) (before_a before_b : List ℕ) → RefusesLine input m a → RefusesLine input n b
    → IsTextOfFirst input m before_a → IsTextOfFirst input n before_b → m ≡ n
one_place input m n a b before_a before_b refuses_a refuses_b is_a is_b =
    elim (cases_lt m n) [
      | inl less ↦ absurd (not_past input m n a before_b less (refused_within input n b refuses_b) refuses_a is_b)
      | inr other ↦ elim (cases_lt n m) [
        | inl more ↦ absurd (not_past input n m b before_a more (refused_within input m a refuses_a) refuses_b is_a)
        | inr same ↦ omega arith
      ]
    ]

-- the refusals of one input are one
one_refusal : EachHasOneReading → (input a b : List ℕ) (m n : ℕ) (why_a why_b : ShowReason) (before_a before_b : List ℕ) → RefusesLine input m why_a → RefusesLine input n why_b
    → IsTextOfFirst input m before_a → IsTextOfFirst input n before_b → a ≡ before_a ++ input_refused_line m (show_reason_words why_a)
    → b ≡ before_b ++ input_refused_line n (show_reason_words why_b) → a ≡ b
one_refusal reading input a b m n why_a why_b before_a before_b refuses_a refuses_b is_a is_b text_a text_b =
    let place : m ≡ n = one_place input m n why_a why_b before_a before_b refuses_a refuses_b is_a is_b in
    let reason : why_a ≡ why_b = one_reason input n why_a why_b (subst (λ (k : ℕ). RefusesLine input k why_a) place refuses_a) refuses_b in
    let before : before_a ≡ before_b = one_first reading input n before_a before_b (subst (λ (k : ℕ). IsTextOfFirst input k before_a) place is_a) is_b in
    text_a ∙ ap (λ xs. xs ++ input_refused_line m (show_reason_words why_a)) before
    ∙ ap (λ (k : ℕ). before_b ++ input_refused_line k (show_reason_words why_a)) place
    ∙ ap (λ (why : ShowReason). before_b ++ input_refused_line n (show_reason_words why)) reason ∙ sym text_b

pub one_show_text : EachHasOneReading → OneShowText
one_show_text reading input a b (inl (m, are_a, is_a)) (inl (n, are_b, is_b)) =
    one_first reading input n a b (subst (λ (k : ℕ). IsTextOfFirst input k a) (sym are_a.whole ∙ are_b.whole) is_a) is_b
one_show_text reading input a b (inl (m, are_a, is_a)) (inr (n, why, before, refuses, is_b, text)) = absurd (not_both input m n why a are_a is_a refuses)
one_show_text reading input a b (inr (m, why, before, refuses, is_a, text)) (inl (n, are_b, is_b)) = absurd (not_both input n m why b are_b is_b refuses)
one_show_text reading input a b (inr (m, why_a, before_a, refuses_a, is_a, text_a)) (inr (n, why_b, before_b, refuses_b, is_b, text_b)) =
    one_refusal reading input a b m n why_a why_b before_a before_b refuses_a refuses_b is_a is_b text_a text_b
