-- What filling in makes of bytes: a stream packet of those that lack a CRC, and nothing else of a stream packet.
use Rattle.std.proofs.Common.{◌≡◌, ◌&&◌, ◌==◌, ℕ, zero, suc, Bool, true, cond, ◌+◌, ◌-◌, ◌^◌, ◌<◌, List, [], ◌∷◌, ◌++◌, length, take, drop, sym, ap, subst, ◌∙◌, inl, inr, arith, eqb-true, length-append}
use Rattle.std.proofs.lemmas.Bool.{cases_Bool}
use Rattle.std.proofs.lemmas.Slice.Eq.{bytes_eq-Decides}
use Rattle.std.proofs.lemmas.List.{drop_at, length-drop, length-take-le, take_all, take_at, take-append-drop, take-append-le, take-take}
use Rattle.std.proofs.lemmas.List.Elements.{All-append, All-take}
use Rattle.std.specs.Str.{bytes_eq}
use Rattle.m17_lists.proofs.Tests.{both_are_true}
use Rattle.m17_fields.specs.Fields.{be_16, IsBytes, Fields16AreExact}
use Rattle.m17_crc.specs.Crc.{crc_of}
use Rattle.m17_stream.specs.declared.packet.StreamPacket.{StreamPacket}
use Rattle.m17_stream.specs.declared.packet.StreamRefusal.{StreamRefusal}
use Rattle.m17_stream.specs.declared.packet.StreamRefusal.TheVariants.{Length, Magic, Crc}
use Rattle.m17_stream.specs.Laws.{ReadingIsExact}
use Rattle.m17_stream.specs.Stream.{RefusesStream, SpellsStream, magic}
use Rattle.m17_stream.proofs.Packets.{CrcFits, parts}
use Rattle.m17_decorators.specs.Filled.{filled, lacks_crc, with_crc}
use Rattle.m17_decorators.specs.Laws.{FilledArePackets, PacketsStay}

-- what bytes have that lack a CRC
record IsLacking (bytes : List ℕ) : Type 0 where
  long : length bytes ≡ 54
  begins : take 4 bytes ≡ magic
  zeros : drop 52 bytes ≡ 0 ∷ 0 ∷ []

lacking : (bytes : List ℕ) → lacks_crc bytes ≡ true → IsLacking bytes
lacking bytes h =
    let all = both_are_true (length bytes == 54 && bytes_eq (take 4 bytes) magic)
    (bytes_eq (drop 52 bytes) (0 ∷ 0 ∷ [])) h in
    let first = both_are_true (length bytes == 54) (bytes_eq (take 4 bytes) magic) all.0 in
    record {
      long = eqb-true _ _ first.0;
      begins = (bytes_eq-Decides (take 4 bytes) magic).0 first.1;
      zeros = (bytes_eq-Decides (drop 52 bytes) (0 ∷ 0 ∷ [])).0 all.1;
    }

pub front_length : (bytes : List ℕ) → length bytes ≡ 54 → length (take 52 bytes) ≡ 52
front_length bytes long = length-take-le 52 bytes (omega (arith, long))

pub tail_is : (bytes : List ℕ) → take (length bytes - 52) (drop 52 bytes) ≡ drop 52 bytes
tail_is bytes = take_all (length bytes - 52) (drop 52 bytes) (simp length-drop (omega arith))

-- what is written front to back: the first 52 bytes, and their CRC
pub written_whole : (bytes first second field : List ℕ) → length bytes ≡ 54
    → length first ≡ 54 → length second ≡ length first
    → take (0 + length (take 52 bytes)) first ≡ take 52 bytes
    → take (52 + length field) second ≡ take 52 first ++ field
    → field ≡ be_16 (crc_of (take 52 bytes)) → take 64 second ≡ with_crc bytes
written_whole bytes first second field long whole as_long front behind is =
    let fifty_two = front_length bytes long in
    let two : length field ≡ 2 = ap length is in
    let begins : take 52 first ≡ take 52 bytes =
    ap (λ (n : ℕ). take n first) (let e : 52 ≡ 0 + length (take 52 bytes) = omega (arith, fifty_two) in e) ∙ front in
    let is_second : take (52 + length field) second ≡ second =
    take_all (52 + length field) second (omega (arith, two, whole, as_long)) in
    take_all 64 second (omega (arith, whole, as_long)) ∙ sym is_second ∙ behind
    ∙ ap (λ (front : List ℕ). front ++ field) begins
    ∙ ap (λ (field : List ℕ). take 52 bytes ++ field) is

-- the two bytes of a number
two_bytes : (number : ℕ) → IsBytes (be_16 number)
two_bytes number zero d lt = omega arith
two_bytes number (suc zero) d lt = omega arith
two_bytes number (suc (suc k)) d lt = absurd (omega (arith, lt))

-- the parts of bytes with their CRC
record HasItsCrc (bytes whole : List ℕ) : Type 0 where
  long : length whole ≡ 54
  begins : take 4 whole ≡ magic
  front : take 52 whole ≡ take 52 bytes
  crc : drop 52 whole ≡ be_16 (crc_of (take 52 bytes))
  bytes_stay : IsBytes bytes → IsBytes whole

its_crc : (bytes : List ℕ) → IsLacking bytes → HasItsCrc bytes (with_crc bytes)
its_crc bytes lacks =
    let fifty_two = front_length bytes lacks.long in
    record {
      long = length-append (take 52 bytes) (be_16 (crc_of (take 52 bytes)))
          ∙ ap (λ n. n + 2) fifty_two;
      begins = take-append-le 4 (take 52 bytes) (be_16 (crc_of (take 52 bytes))) (omega (arith, fifty_two))
          ∙ take-take 4 52 bytes (omega arith) ∙ lacks.begins;
      front = take_at (take 52 bytes) (be_16 (crc_of (take 52 bytes))) 52 fifty_two;
      crc = drop_at (take 52 bytes) (be_16 (crc_of (take 52 bytes))) 52 fifty_two;
      bytes_stay = λ h. All-append (λ byte. byte < 2 ^ 8) (take 52 bytes) (be_16 (crc_of (take 52 bytes)))
          (All-take (λ byte. byte < 2 ^ 8) 52 bytes h) (two_bytes (crc_of (take 52 bytes)));
    }

-- no reason is left to refuse them
not_refused : Fields16AreExact → CrcFits → (bytes whole : List ℕ) → HasItsCrc bytes whole
    → (refusal : StreamRefusal) → RefusesStream whole refusal → ⊥
not_refused two fits bytes whole h (Length n) r = r.1 h.long
not_refused two fits bytes whole h (Magic m) r = r.2 (r.1 ∙ h.begins)
not_refused two fits bytes whole h (Crc found expected) r =
    let same : found ≡ crc_of (take 52 bytes) = two.one_number found (crc_of (take 52 bytes)) r.2
    (fits (take 52 bytes)) (r.3 ∙ h.crc) in
    r.5 (same ∙ sym (r.4 ∙ ap crc_of h.front))

spelled : Fields16AreExact → CrcFits → ReadingIsExact → (bytes whole : List ℕ) → IsBytes bytes
    → HasItsCrc bytes whole → (packet : StreamPacket) × SpellsStream packet whole
spelled two fits exact bytes whole h its = elim (exact whole (its.bytes_stay h)) [
  | inl found ↦ (found.0, found.1.spelled)
  | inr found ↦ absurd (not_refused two fits bytes whole its found.0 found.1.refused)
]

is_filled : (bytes : List ℕ) → lacks_crc bytes ≡ true → filled bytes ≡ with_crc bytes
is_filled bytes h = ap (λ (b : Bool). cond b (with_crc bytes) bytes) h

pub filled_are_packets : Fields16AreExact → CrcFits → ReadingIsExact → FilledArePackets
filled_are_packets two fits exact bytes h lacks =
    let its = its_crc bytes (lacking bytes lacks) in
    subst (λ (whole : List ℕ). (take 52 whole ≡ take 52 bytes)
    × ((packet : StreamPacket) × SpellsStream packet whole)) (sym (is_filled bytes lacks))
    (its.front, spelled two fits exact bytes (with_crc bytes) h its)

-- a stream packet has its CRC already
pub packets_stay : PacketsStay
packets_stay packet bytes h =
    let at = parts packet bytes h in
    let same : with_crc bytes ≡ bytes =
    ap (λ (c : List ℕ). take 52 bytes ++ c) (ap (λ (f : List ℕ). be_16 (crc_of f)) at.front ∙ sym at.crc)
    ∙ take-append-drop 52 bytes in
    elim (cases_Bool (lacks_crc bytes)) [
      | inl lacks ↦ is_filled bytes lacks ∙ same
      | inr other ↦ ap (λ (b : Bool). cond b (with_crc bytes) bytes) other
    ]
