-- Packets against bytes: one packet, or one refusal.
use Rattle.std.proofs.Common.{◌≡◌, ◌↔◌, ℕ, ◌%◌, ◌<◌, ◌^◌, Bool, true, false, List, ◌++◌, length, take, drop, Result, Ok, Err, MatchResult, leb, inl, inr, refl, sym, ap, ◌∙◌, subst, arith}
use Rattle.std.proofs.lemmas.List.{take-append-drop, take_all, length-take, length-drop}
use Rattle.std.proofs.lemmas.Bool.Decides.{leb_tells}
use Rattle.std.proofs.Math.Bridge.{le_prop}
use Rattle.m17_fields.specs.Fields.{be_16, Fields16AreExact}
use Rattle.m17_lsd.specs.declared.lsd.Lsd.{Lsd}
use Rattle.m17_lsd.specs.Lsd.{FitsFields, lsd_bytes}
use Rattle.m17_lsd.specs.Laws.{FieldsAreExact}
use Rattle.m17_stream.specs.Laws.{OneSpelling}
use Rattle.m17_crc.specs.Crc.{crc_of}
use Rattle.m17_stream.specs.declared.packet.StreamPacket.{StreamPacket}
use Rattle.m17_stream.specs.declared.packet.StreamRefusal.{StreamRefusal}
use Rattle.m17_stream.specs.declared.packet.StreamRefusal.TheVariants.{Length, Magic, Crc}
use Rattle.m17_stream.specs.Fields.{HasFields}
use Rattle.m17_stream.specs.Stream.{SpellsStream, RefusesStream, magic, frame_field, front_bytes}
use Rattle.m17_stream.proofs.Places.{front_from_parts, Parts, parts_of}

packet : ℕ → Lsd → (n : ℕ) → Bool → List ℕ → n < 32768 → StreamPacket
packet s l n e y h = record { sid = s; lsd = l; number = n; last = e; payload = y; numbered = h }

same_number : (s : ℕ) (l : Lsd) (e : Bool) (y : List ℕ) (n m : ℕ) → n ≡ m → (h : n < 32768) (k : m < 32768)
    → packet s l n e y h ≡ packet s l m e y k
same_number s l e y n m eq h =
    subst (λ (v : ℕ). (k : v < 32768) → packet s l n e y h ≡ packet s l v e y k) eq (λ k. ap (packet s l n e y) (le_prop h k))

-- packets with the same fields are one
pub same_packet : (p q : StreamPacket) → p.sid ≡ q.sid → p.lsd ≡ q.lsd → p.number ≡ q.number → p.last ≡ q.last → p.payload ≡ q.payload → p ≡ q
unfolding packet
same_packet p q s l n e y =
    ap (λ v. packet v p.lsd p.number p.last p.payload p.numbered) s
    ∙ ap (λ v. packet q.sid v p.number p.last p.payload p.numbered) l
    ∙ ap (λ v. packet q.sid q.lsd p.number v p.payload p.numbered) e
    ∙ ap (λ v. packet q.sid q.lsd p.number q.last v p.numbered) y
    ∙ same_number q.sid q.lsd q.last q.payload p.number q.number n p.numbered q.numbered

field_below : (e : Bool) (n : ℕ) → n < 32768 → frame_field e n < 2 ^ 16
field_below true n h = omega arith
field_below false n h = omega arith

one_field : (a b : Bool) (m n : ℕ) → m < 32768 → n < 32768 → frame_field a m ≡ frame_field b n → (a ≡ b) × (m ≡ n)
one_field true true m n h k e = (refl, omega arith)
one_field false false m n h k e = (refl, omega arith)
one_field true false m n h k e = absurd (omega arith)
one_field false true m n h k e = absurd (omega arith)

-- packets whose fields stand in the same bytes are one
pub same_fields : FieldsAreExact → Fields16AreExact → (p q : StreamPacket) (b : List ℕ) → HasFields p b → HasFields q b → p ≡ q
same_fields law two p q b hp hq =
    let field = one_field p.last q.last p.number q.number hp.number_fits hq.number_fits
    (two.one_number _ _ (field_below p.last p.number hp.number_fits) (field_below q.last q.number hq.number_fits) (hp.field ∙ sym hq.field)) in
    same_packet p q
    (two.one_number p.sid q.sid hp.sid_fits hq.sid_fits (hp.sid ∙ sym hq.sid))
    (law p.lsd q.lsd hp.lsd_fits hq.lsd_fits (hp.lsd ∙ sym hq.lsd))
    field.1 field.0 (hp.payload ∙ sym hq.payload)

-- a packet whose fields stand in 54 bytes with the magic and the right CRC spells them
pub spells : (p : StreamPacket) (b : List ℕ) → length b ≡ 54 → HasFields p b → take 4 b ≡ magic
    → be_16 (crc_of (take 52 b)) ≡ drop 52 b → SpellsStream p b
spells p b long h m crc =
    let front : front_bytes p ≡ take 52 b = front_from_parts magic (be_16 p.sid) (lsd_bytes p.lsd)
    (be_16 (frame_field p.last p.number)) p.payload b m h.sid h.lsd h.field h.payload in
    let last : be_16 (crc_of (front_bytes p)) ≡ drop 52 b = ap (λ x. be_16 (crc_of x)) front ∙ crc in
    record {
      sid = h.sid_fits;
      lsd = h.lsd_fits;
      number = h.number_fits;
      payload_bytes = h.payload_fits;
      payload_length = ap length h.payload ∙ simp (length-take, length-drop) (omega arith);
      spelling = sym (take-append-drop 52 b) ∙ ap (λ x. x ++ drop 52 b) (sym front) ∙ ap (λ x. front_bytes p ++ x) (sym last);
    }

lsd_length : (l : Lsd) → FitsFields l → length (lsd_bytes l) ≡ 28
lsd_length l h = omega (arith, h.meta_length)

-- what a packet spells has its parts
pub parts : (p : StreamPacket) (b : List ℕ) → SpellsStream p b
    → Parts magic (be_16 p.sid) (lsd_bytes p.lsd) (be_16 (frame_field p.last p.number)) p.payload
    (be_16 (crc_of (front_bytes p))) b
parts p b h =
    parts_of magic (be_16 p.sid) (lsd_bytes p.lsd) (be_16 (frame_field p.last p.number)) p.payload
    (be_16 (crc_of (front_bytes p))) b refl refl (lsd_length p.lsd h.lsd) refl h.payload_length h.spelling

pub fields_of : (p : StreamPacket) (b : List ℕ) → SpellsStream p b → HasFields p b
fields_of p b h =
    let at = parts p b h in
    record {
      sid_fits = h.sid;
      lsd_fits = h.lsd;
      number_fits = h.number;
      payload_fits = h.payload_bytes;
      sid = sym at.sid;
      lsd = sym at.lsd;
      field = sym at.field;
      payload = sym at.payload;
    }

pub one_spelling : FieldsAreExact → Fields16AreExact → OneSpelling
one_spelling law two p q b hp hq = same_fields law two p q b (fields_of p b hp) (fields_of q b hq)

-- what the law on the CRC says
abbrev pub CrcFits : Type 0
CrcFits = (bytes : List ℕ) → crc_of bytes < 2 ^ 16

pub not_both : Fields16AreExact → CrcFits → (b : List ℕ) (p : StreamPacket) (r : StreamRefusal) → SpellsStream p b → RefusesStream b r → ⊥
not_both two fits b p (Length n) h r = r.1 (parts p b h).whole
not_both two fits b p (Magic m) h r = r.2 (r.1 ∙ (parts p b h).magic)
not_both two fits b p (Crc found expected) h r =
    let at = parts p b h in
    let same : found ≡ crc_of (front_bytes p) = two.one_number found (crc_of (front_bytes p)) r.2 (fits (front_bytes p)) (r.3 ∙ at.crc) in
    r.5 (same ∙ sym (r.4 ∙ ap crc_of at.front))

pub one_refusal : Fields16AreExact → (b : List ℕ) (r s : StreamRefusal) → RefusesStream b r → RefusesStream b s → r ≡ s
one_refusal two b (Length n) (Length m) r s = ap Length (r.0 ∙ sym s.0)
one_refusal two b (Length n) (Magic m) r s = absurd (r.1 s.0)
one_refusal two b (Length n) (Crc found expected) r s = absurd (r.1 s.0)
one_refusal two b (Magic n) (Length m) r s = absurd (s.1 r.0)
one_refusal two b (Magic n) (Magic m) r s = ap Magic (r.1 ∙ sym s.1)
one_refusal two b (Magic n) (Crc found expected) r s = absurd (r.2 (r.1 ∙ s.1))
one_refusal two b (Crc f e) (Length m) r s = absurd (s.1 r.0)
one_refusal two b (Crc f e) (Magic m) r s = absurd (s.2 (s.1 ∙ r.1))
one_refusal two b (Crc f e) (Crc g d) r s =
    let found = two.one_number f g r.2 s.2 (r.3 ∙ sym s.3) in
    let expected = r.4 ∙ sym s.4 in
    ap (λ x. Crc x e) found ∙ ap (Crc g) expected

-- a result that is right is the only one
abbrev pub IsRight : List ℕ → Result StreamPacket StreamRefusal → Type 0
IsRight b r = MatchResult r (λ p. SpellsStream p b) (RefusesStream b)

pub exact_ok : OneSpelling → Fields16AreExact → CrcFits → (b : List ℕ) (r : Result StreamPacket StreamRefusal) → IsRight b r → (p : StreamPacket) → (r ≡ Ok p) ↔ SpellsStream p b
exact_ok one two fits b (Ok q) h p = (λ e. let same : q ≡ p = cc in subst (λ (x : StreamPacket). SpellsStream x b) same h, λ s. ap Ok (one q p b h s))
exact_ok one two fits b (Err r) h p = (λ e. cc, λ s. absurd (not_both two fits b p r s h))

pub exact_err : Fields16AreExact → CrcFits → (b : List ℕ) (r : Result StreamPacket StreamRefusal) → IsRight b r → (s : StreamRefusal) → (r ≡ Err s) ↔ RefusesStream b s
exact_err two fits b (Ok q) h s = (λ e. cc, λ k. absurd (not_both two fits b q s h k))
exact_err two fits b (Err r) h s = (λ e. let same : r ≡ s = cc in subst (λ (x : StreamRefusal). RefusesStream b x) same h, λ k. ap Err (one_refusal two b r s h k))

-- the field gives back its number and its end bit
pub field_of_parts : (f : ℕ) → f < 65536 → frame_field (leb 32768 f) (f % 32768) ≡ f
field_of_parts f h =
    elim (leb_tells 32768 f) [ inl k ↦ rw k.0 (omega (arith, k.1)) | inr k ↦ rw k.0 (omega (arith, k.1)) ]

-- the last two of 54 bytes
pub last_two : (b : List ℕ) → length b ≡ 54 → take 2 (drop 52 b) ≡ drop 52 b
last_two b long = take_all 2 (drop 52 b) (simp length-drop (omega arith))
