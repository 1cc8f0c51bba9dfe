-- Each byte list is one packet, or is refused for one reason.
use Rattle.std.proofs.Common.{◌≡◌, ◌⊎◌, ℕ, ◌+◌, ◌%◌, ◌<◌, ◌≤◌, ◌^◌, leb, List, length, take, drop, inl, inr, refl, sym, ap, ◌∙◌, arith}
use Rattle.std.proofs.lemmas.Bool.{cases_eq, cases_Bool, false≢true}
use Rattle.std.proofs.lemmas.List.{length-drop}
use Rattle.std.proofs.lemmas.List.Elements.{All-take, All-drop}
use Rattle.std.proofs.lemmas.Nat.{mod_below}
use Rattle.std.proofs.lemmas.Slice.Eq.{bytes_eq-Decides}
use Rattle.m17_fields.specs.Fields.{be_16, field_at, IsBytes, Fields16AreExact}
use Rattle.std.specs.Str.{bytes_eq}
use Rattle.m17_lists.proofs.Parts.{part_is_as_long}
use Rattle.m17_crc.specs.Crc.{crc_of}
use Rattle.m17_lsd.specs.declared.lsd.Lsd.{Lsd}
use Rattle.m17_lsd.specs.Lsd.{FitsFields, lsd_bytes}
use Rattle.m17_stream.specs.declared.packet.StreamPacket.{StreamPacket}
use Rattle.m17_stream.specs.declared.packet.StreamRefusal.{StreamRefusal}
use Rattle.m17_stream.specs.declared.packet.StreamRefusal.TheVariants.{Length, Magic, Crc}
use Rattle.m17_lsd.specs.Laws.{FieldsAreExact, Each28BytesAreLinkSetupData}
use Rattle.m17_stream.specs.Laws.{ReadingIsExact}
use Rattle.m17_stream.specs.Fields.{HasFields}
use Rattle.m17_stream.specs.Stream.{SpellsStream, RefusesStream, magic}
use Rattle.m17_stream.proofs.Packets.{CrcFits, one_spelling, not_both, one_refusal, spells, field_of_parts}

IsBytes-part : (n k : ℕ) (b : List ℕ) → IsBytes b → IsBytes (take k (drop n b))
IsBytes-part n k b h = All-take (λ byte. byte < 2 ^ 8) k (drop n b) (All-drop (λ byte. byte < 2 ^ 8) n b h)

-- the packet in 54 bytes with this link setup data, this stream id and this field of the frame
packet_in : Lsd → ℕ → ℕ → List ℕ → StreamPacket
packet_in l sid field b = record {
  sid = sid;
  lsd = l;
  number = field % 32768;
  last = leb 32768 field;
  payload = field_at 36 16 b;
  numbered = mod_below field 32768 (omega arith);
}

-- a number of 16 bits whose bytes stand in the field at this place
abbrev NumberAt : ℕ → List ℕ → Type 0
NumberAt place b = (number : ℕ) × (number < 2 ^ 16) × (be_16 number ≡ field_at place 2 b)

number_at : Fields16AreExact → (place : ℕ) (b : List ℕ) → place + 2 ≤ length b → IsBytes b → NumberAt place b
number_at two place b long h = two.each_bytes (field_at place 2 b) (part_is_as_long place 2 b long) (IsBytes-part place 2 b h)

packet_in_fields : (l : Lsd) (b : List ℕ) (sid : NumberAt 4 b) (field : NumberAt 34 b) → IsBytes b → FitsFields l → lsd_bytes l ≡ field_at 6 28 b
    → HasFields (packet_in l sid.0 field.0 b) b
unfolding packet_in
packet_in_fields l b sid field h fits bytes = record {
  sid_fits = sid.1;
  lsd_fits = fits;
  number_fits = mod_below field.0 32768 (omega arith);
  payload_fits = IsBytes-part 36 16 b h;
  sid = sid.2;
  lsd = bytes;
  field = ap be_16 (field_of_parts field.0 field.1) ∙ field.2;
  payload = refl;
}

abbrev Reads : List ℕ → Type 0
Reads b = ((p : StreamPacket) × SpellsStream p b) ⊎ ((refusal : StreamRefusal) × RefusesStream b refusal)

-- after the length and the magic: the CRC decides
read_crc : Fields16AreExact → Each28BytesAreLinkSetupData → (b : List ℕ) → length b ≡ 54 → IsBytes b → take 4 b ≡ magic → Reads b
read_crc two each b long h m =
    let lsd = each (field_at 6 28 b) (part_is_as_long 6 28 b (omega arith)) (IsBytes-part 6 28 b h) in
    let sid = number_at two 4 b (omega arith) h in
    let field = number_at two 34 b (omega arith) h in
    let crc = two.each_bytes (drop 52 b) (simp length-drop (omega arith)) (All-drop (λ byte. byte < 2 ^ 8) 52 b h) in
    elim (cases_eq crc.0 (crc_of (take 52 b))) [
      | inl e ↦ inl (packet_in lsd.0 sid.0 field.0 b, spells (packet_in lsd.0 sid.0 field.0 b) b long (packet_in_fields lsd.0 b sid field h lsd.1 lsd.2) m (ap be_16 (sym e) ∙ crc.2))
      | inr ne ↦ inr (Crc crc.0 (crc_of (take 52 b)), (long, m, crc.1, crc.2, refl, ne))
    ]

read_magic : Fields16AreExact → Each28BytesAreLinkSetupData → (b : List ℕ) → length b ≡ 54 → IsBytes b → Reads b
read_magic two each b long h =
    let decides = bytes_eq-Decides (take 4 b) magic in
    elim (cases_Bool (bytes_eq (take 4 b) magic)) [
      | inl same ↦ read_crc two each b long h (decides.0 same)
      | inr other ↦ inr (Magic (take 4 b), (long, refl, λ e. false≢true (sym other ∙ decides.1 e)))
    ]

reads : Fields16AreExact → Each28BytesAreLinkSetupData → (b : List ℕ) → IsBytes b → Reads b
reads two each b h = elim (cases_eq (length b) 54) [ inl long ↦ read_magic two each b long h | inr ne ↦ inr (Length (length b), (refl, ne)) ]

pub one_reading : Fields16AreExact → FieldsAreExact → Each28BytesAreLinkSetupData → CrcFits → ReadingIsExact
one_reading two law each fits b h = elim (reads two each b h) [
  | inl found ↦ inl (
    found.0,
    record {
      spelled = found.1;
      no_other = λ q s. one_spelling law two q found.0 b s found.1;
      no_refusal = λ r k. not_both two fits b found.0 r found.1 k;
    },
  )
  | inr found ↦ inr (
    found.0,
    record {
      refused = found.1;
      no_other = λ r k. one_refusal two b r found.0 k found.1;
      no_value = λ p s. not_both two fits b p found.0 s found.1;
    },
  )
]
