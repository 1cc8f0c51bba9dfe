-- What bytes ask is what the packet asks that they spell.
use Rattle.std.proofs.Common.{◌≡◌, ◌≢◌, ◌⊎◌, ◌==◌, ◌&&◌, ℕ, true, false, ◌+◌, ◌/◌, ◌%◌, ◌^◌, ◌<◌, List, [], ◌∷◌, ◌++◌, length, take, drop, codes, None, Some, refl, sym, ap, subst, ◌∙◌, inl, inr, arith, eqb-true, length-append}
use Rattle.std.proofs.lemmas.Bool.{cases_Bool, leb-true, le-leb, false_from_ne_true}
use Rattle.std.proofs.lemmas.Nat.{from_be_bytes-to_be_bytes_8}
use Rattle.std.proofs.lemmas.Slice.Eq.{bytes_eq-Decides}
use Rattle.std.proofs.lemmas.List.{take_at, drop_at}
use Rattle.std.specs.Prelude.{is_some, nat_le, slice_index}
use Rattle.std.specs.Int.{w64, to_be_bytes, from_be_bytes}
use Rattle.std.specs.Str.{bytes_eq}
use Rattle.m17_lists.proofs.Tests.{both_are_true, true_where_both_are}
use Rattle.m17_fields.specs.Fields.{be_16, be_48, field_at, Fields16AreExact}
use Rattle.m17_crc.specs.Crc.{crc_of}
use Rattle.m17_callsign.specs.Letters.{callsign_of}
use Rattle.m17_callsign.specs.Laws.{EachAddressHasOneCallsign}
use Rattle.m17_lsd.specs.Lsd.{FitsFields, lsd_bytes}
use Rattle.m17_stream.specs.declared.packet.StreamPacket.{StreamPacket}
use Rattle.m17_stream.specs.Stream.{SpellsStream, front_bytes, frame_field}
use Rattle.m17_control.specs.declared.packet.Control.{Control}
use Rattle.m17_control.specs.declared.packet.Control.TheVariants.{Conn, Lstn, Ackn, Nack, Ping, Pong, Disc}
use Rattle.m17_control.specs.declared.packet.Packet.{Packet}
use Rattle.m17_control.specs.declared.packet.Packet.TheVariants as packets
use Rattle.m17_control.specs.declared.packet.Refusal.{Refusal}
use Rattle.m17_control.specs.declared.packet.Refusal.TheVariants.{Length, Magic, Address, Module, Crc}
use Rattle.m17_control.specs.Forms.{Spells, SpellsControl, Refuses, IsFrom, IsModule, IsModuleMagic}
use Rattle.m17_gate.specs.declared.asked.Asked.TheVariants.{Connects, Listens, Talks}
use Rattle.m17_gate.specs.Asking.{asked_by, asked_in, address_at, is_joining, is_talking}

-- what the laws of the crates below say
pub record LowerLaws : Type 0 where
  pub fields : Fields16AreExact
  pub remainders : (bytes : List ℕ) → crc_of bytes < 2 ^ 16
  pub callsigns : EachAddressHasOneCallsign

-- the number of the six bytes of an address
pub number_of_48 : (a : ℕ) → a < 2 ^ 48 → from_be_bytes w64 (0 ∷ 0 ∷ be_48 a) ≡ a
number_of_48 a small =
    let first : a / 72057594037927936 % 256 ≡ 0 = omega arith in
    let second : a / 281474976710656 % 256 ≡ 0 = omega arith in
    let zeros : to_be_bytes w64 a ≡ 0 ∷ 0 ∷ be_48 a =
    ap (λ x. x ∷ a / 281474976710656 % 256 ∷ be_48 a) first ∙ ap (λ x. 0 ∷ x ∷ be_48 a) second in
    ap (from_be_bytes w64) (sym zeros) ∙ from_be_bytes-to_be_bytes_8 a (omega arith)

pub address_is : (place a : ℕ) (bytes : List ℕ) → a < 2 ^ 48 → be_48 a ≡ field_at place 6 bytes
    → address_at place bytes ≡ a
address_is place a bytes small field =
    ap (λ (f : List ℕ). from_be_bytes w64 (0 ∷ 0 ∷ f)) (sym field) ∙ number_of_48 a small

-- the parts of a CONN and a LSTN
record IsJoining (magic bytes : List ℕ) : Type 0 where
  long : length bytes ≡ 11
  begins : take 4 bytes ≡ magic
  from : is_some (callsign_of (address_at 4 bytes)) ≡ true
  letter : IsModule (slice_index bytes 10)

joining : (magic bytes : List ℕ) → is_joining magic bytes ≡ true → IsJoining magic bytes
joining magic bytes h =
    let all = both_are_true (length bytes == 11 && bytes_eq (take 4 bytes) magic && is_some
    (callsign_of (address_at 4 bytes)))
    (nat_le 65 (slice_index bytes 10) && nat_le (slice_index bytes 10) 90) h in
    let front = both_are_true (length bytes == 11 && bytes_eq (take 4 bytes) magic)
    (is_some (callsign_of (address_at 4 bytes))) all.0 in
    let first = both_are_true (length bytes == 11) (bytes_eq (take 4 bytes) magic) front.0 in
    let bounds = both_are_true (nat_le 65 (slice_index bytes 10)) (nat_le (slice_index bytes 10) 90) all.1 in
    record {
      long = eqb-true _ _ first.0;
      begins = (bytes_eq-Decides (take 4 bytes) magic).0 first.1;
      from = front.1;
      letter = (leb-true 65 (slice_index bytes 10) bounds.0, leb-true (slice_index bytes 10) 90 bounds.1);
    }

is_join : (magic bytes : List ℕ) → IsJoining magic bytes → is_joining magic bytes ≡ true
is_join magic bytes h =
    true_where_both_are _ _ (true_where_both_are _ _
    (true_where_both_are _ _ (rw h.long refl) ((bytes_eq-Decides (take 4 bytes) magic).1 h.begins)) h.from)
    (true_where_both_are _ _ (le-leb 65 (slice_index bytes 10) h.letter.0)
    (le-leb (slice_index bytes 10) 90 h.letter.1))

-- the parts of a stream packet
record IsTalking (bytes : List ℕ) : Type 0 where
  long : length bytes ≡ 54
  begins : take 4 bytes ≡ codes "M17 "
  crc : drop 52 bytes ≡ be_16 (crc_of (take 52 bytes))

talking : (bytes : List ℕ) → is_talking bytes ≡ true → IsTalking bytes
talking bytes h =
    let all = both_are_true (length bytes == 54 && bytes_eq (take 4 bytes) (codes "M17 "))
    (bytes_eq (drop 52 bytes) (be_16 (crc_of (take 52 bytes)))) h in
    let first = both_are_true (length bytes == 54) (bytes_eq (take 4 bytes) (codes "M17 ")) all.0 in
    record {
      long = eqb-true _ _ first.0;
      begins = (bytes_eq-Decides (take 4 bytes) (codes "M17 ")).0 first.1;
      crc = (bytes_eq-Decides (drop 52 bytes) (be_16 (crc_of (take 52 bytes)))).0 all.1;
    }

is_talk : (bytes : List ℕ) → IsTalking bytes → is_talking bytes ≡ true
is_talk bytes h =
    true_where_both_are _ _ (true_where_both_are _ _ (rw h.long refl)
    ((bytes_eq-Decides (take 4 bytes) (codes "M17 ")).1 h.begins))
    ((bytes_eq-Decides (drop 52 bytes) (be_16 (crc_of (take 52 bytes)))).1 h.crc)

-- what is asked, by the three tests
asked_conn : (bytes : List ℕ) → is_joining (codes "CONN") bytes ≡ true
    → asked_in bytes ≡ Some (Connects (address_at 4 bytes) (slice_index bytes 10))
unfolding asked_in
asked_conn bytes holds = rw holds refl

asked_lstn : (bytes : List ℕ) → is_joining (codes "CONN") bytes ≡ false
    → is_joining (codes "LSTN") bytes ≡ true
    → asked_in bytes ≡ Some (Listens (address_at 4 bytes) (slice_index bytes 10))
unfolding asked_in
asked_lstn bytes fails holds = rw (fails, holds) refl

asked_talk : (bytes : List ℕ) → is_joining (codes "CONN") bytes ≡ false
    → is_joining (codes "LSTN") bytes ≡ false
    → is_talking bytes ≡ true → asked_in bytes ≡ Some (Talks (address_at 12 bytes))
unfolding asked_in
asked_talk bytes fails neither holds = rw (fails, neither, holds) refl

asked_none : (bytes : List ℕ) → is_joining (codes "CONN") bytes ≡ false
    → is_joining (codes "LSTN") bytes ≡ false
    → is_talking bytes ≡ false → asked_in bytes ≡ None
unfolding asked_in
asked_none bytes fails neither nor = rw (fails, neither, nor) refl

-- bytes of another length are no CONN and no LSTN, and no stream packet
no_join : (magic bytes : List ℕ) (n : ℕ) → length bytes ≡ n → n ≢ 11
    → is_joining magic bytes ≡ false
no_join magic bytes n long other = false_from_ne_true (is_joining magic bytes) (λ holds. other (sym long
    ∙ (joining magic bytes holds).long))

no_talk : (bytes : List ℕ) (n : ℕ) → length bytes ≡ n → n ≢ 54 → is_talking bytes ≡ false
no_talk bytes n long other = false_from_ne_true (is_talking bytes) (λ holds. other (sym long
    ∙ (talking bytes holds).long))

nothing : (bytes : List ℕ) (n : ℕ) → length bytes ≡ n → n ≢ 11 → n ≢ 54 → asked_in bytes ≡ None
nothing bytes n long one other =
    asked_none bytes (no_join (codes "CONN") bytes n long one)
    (no_join (codes "LSTN") bytes n long one) (no_talk bytes n long other)

-- a CONN and a LSTN, as they are spelled
spelled_joins : LowerLaws → (magic : List ℕ) (from letter : ℕ) (bytes : List ℕ) → length magic ≡ 4
    → take 4 bytes ≡ magic → length bytes ≡ 11 → be_48 from ≡ field_at 4 6 bytes
    → slice_index bytes 10 ≡ letter
    → IsFrom from → IsModule letter → IsJoining magic bytes × (address_at 4 bytes ≡ from)
spelled_joins laws magic from letter bytes four begins long field stands is_from is_module =
    let address = address_is 4 from bytes (laws.callsigns.within from is_from) field in (
      record {
        long = long;
        begins = begins;
        from = rw address ((laws.callsigns.in_range from).1 is_from);
        letter = subst IsModule (sym stands) is_module;
      },
      address,
    )

spelled_conn : LowerLaws → (from letter : ℕ) → IsFrom from → IsModule letter
    → asked_in (codes "CONN" ++ be_48 from ++ letter ∷ []) ≡ Some (Connects from letter)
spelled_conn laws from letter is_from is_module =
    let bytes = codes "CONN" ++ be_48 from ++ letter ∷ [] in
    let join = spelled_joins laws (codes "CONN") from letter bytes refl refl refl refl refl is_from
    is_module in
    asked_conn bytes (is_join (codes "CONN") bytes join.0)
    ∙ ap (λ (a : ℕ). Some (Connects a letter)) join.1

spelled_lstn : LowerLaws → (from letter : ℕ) → IsFrom from → IsModule letter
    → asked_in (codes "LSTN" ++ be_48 from ++ letter ∷ []) ≡ Some (Listens from letter)
spelled_lstn laws from letter is_from is_module =
    let bytes = codes "LSTN" ++ be_48 from ++ letter ∷ [] in
    let join = spelled_joins laws (codes "LSTN") from letter bytes refl refl refl refl refl is_from
    is_module in
    asked_lstn bytes refl (is_join (codes "LSTN") bytes join.0)
    ∙ ap (λ (a : ℕ). Some (Listens a letter)) join.1

spelled_control : LowerLaws → (control : Control) (bytes : List ℕ) → SpellsControl control bytes
    → asked_in bytes ≡ asked_by (packets.Control control)
spelled_control laws (Conn from letter) bytes h = ap asked_in h.2
    ∙ spelled_conn laws from letter h.0 h.1
spelled_control laws (Lstn from letter) bytes h = ap asked_in h.2
    ∙ spelled_lstn laws from letter h.0 h.1
spelled_control laws Ackn bytes h = nothing bytes 4 (ap length h) (λ e. cc) (λ e. cc)
spelled_control laws Nack bytes h = nothing bytes 4 (ap length h) (λ e. cc) (λ e. cc)
spelled_control laws (Ping from) bytes h = nothing bytes 10 (ap length h.1) (λ e. cc) (λ e. cc)
spelled_control laws (Pong from) bytes h = nothing bytes 10 (ap length h.1) (λ e. cc) (λ e. cc)
spelled_control laws (Disc None) bytes h = nothing bytes 4 (ap length h) (λ e. cc) (λ e. cc)
spelled_control laws (Disc (Some from)) bytes h = nothing bytes 10 (ap length h.1) (λ e. cc)
    (λ e. cc)

-- a stream packet, as it is spelled
lsd_length : (p : StreamPacket) → FitsFields p.lsd → length (lsd_bytes p.lsd) ≡ 28
lsd_length p fits =
    let meta = fits.meta_length in
    omega (arith, length-append (be_48 p.lsd.dst ++ be_48 p.lsd.src ++ be_16 p.lsd.kind) p.lsd.meta)

front_length : (p : StreamPacket) → FitsFields p.lsd → length p.payload ≡ 16
    → length (front_bytes p) ≡ 52
front_length p fits payload =
    let front = codes "M17 " ++ be_16 p.sid in
    let field = be_16 (frame_field p.last p.number) in
    omega (
      arith,
      lsd_length p fits,
      length-append front (lsd_bytes p.lsd),
      length-append (front ++ lsd_bytes p.lsd) field,
      length-append (front ++ lsd_bytes p.lsd ++ field) p.payload,
    )

spelled_stream : LowerLaws → (p : StreamPacket) (bytes : List ℕ) → SpellsStream p bytes
    → asked_in bytes ≡ Some (Talks p.lsd.src)
spelled_stream laws p bytes h =
    let front = front_bytes p in
    let crc = be_16 (crc_of front) in
    let at_52 : length front ≡ 52 = front_length p h.lsd h.payload_length in
    let long : length bytes ≡ 54 = ap length h.spelling ∙ length-append front crc
    ∙ ap (λ n. n + 2) at_52 in
    let first : take 52 bytes ≡ front = ap (take 52) h.spelling ∙ take_at front crc 52 at_52 in
    let last : drop 52 bytes ≡ crc = ap (drop 52) h.spelling ∙ drop_at front crc 52 at_52 in
    let talks : IsTalking bytes = record {
      long = long;
      begins = ap (take 4) h.spelling;
      crc = last ∙ ap (λ (f : List ℕ). be_16 (crc_of f)) (sym first);
    } in
    let field : be_48 p.lsd.src ≡ field_at 12 6 bytes = ap (field_at 12 6) (sym h.spelling) in
    asked_talk bytes (no_join (codes "CONN") bytes 54 long (λ e. cc))
    (no_join (codes "LSTN") bytes 54 long (λ e. cc)) (is_talk bytes talks)
    ∙ ap (λ (a : ℕ). Some (Talks a)) (address_is 12 p.lsd.src bytes h.lsd.src field)

pub spelled : LowerLaws → (packet : Packet) (bytes : List ℕ) → Spells packet bytes
    → asked_in bytes ≡ asked_by packet
spelled laws (packets.Stream p) bytes h = spelled_stream laws p bytes h
spelled laws (packets.Control control) bytes h = spelled_control laws control bytes h

-- refused bytes are none of the three
not_refused_join : LowerLaws → (magic bytes : List ℕ) → IsModuleMagic magic → IsJoining magic bytes
    → (refusal : Refusal) → Refuses bytes refusal → ⊥
not_refused_join laws magic bytes is h (Length n) r = r.0 (inr (inr (inl h.long)))
not_refused_join laws magic bytes is h (Magic m) r =
    r.2 (inr (inr (inl (h.long, subst IsModuleMagic (sym h.begins) is))))
not_refused_join laws magic bytes is h (Address a) r =
    let address = address_is 4 a bytes r.0.fits r.0.field in
    r.1 (subst IsFrom address ((laws.callsigns.in_range (address_at 4 bytes)).0 h.from))
not_refused_join laws magic bytes is h (Module l) r = r.2 (subst IsModule (sym r.1) h.letter)
not_refused_join laws magic bytes is h (Crc found expected) r = let a = r.0 in
    let b = h.long in omega arith

no_from_at_54 : (bytes : List ℕ) → length bytes ≡ 54 → (length bytes ≡ 10) ⊎ (length bytes ≡ 11) → ⊥
no_from_at_54 bytes long (inl e) = omega arith
no_from_at_54 bytes long (inr e) = omega arith

not_refused_talk : LowerLaws → (bytes : List ℕ) → IsTalking bytes → (refusal : Refusal)
    → Refuses bytes refusal → ⊥
not_refused_talk laws bytes h (Length n) r = r.0 (inr (inr (inr h.long)))
not_refused_talk laws bytes h (Magic m) r = r.2 (inr (inr (inr (h.long, h.begins))))
not_refused_talk laws bytes h (Address a) r = no_from_at_54 bytes h.long r.0.length_with_from
not_refused_talk laws bytes h (Module l) r = let a = r.0 in let b = h.long in omega arith
not_refused_talk laws bytes h (Crc found expected) r =
    let same = laws.fields.one_number found (crc_of (take 52 bytes)) r.2
    (laws.remainders (take 52 bytes)) (r.3 ∙ h.crc) in
    r.5 (same ∙ sym r.4)

pub refused : LowerLaws → (refusal : Refusal) (bytes : List ℕ) → Refuses bytes refusal
    → asked_in bytes ≡ None
refused laws refusal bytes r =
    asked_none bytes
    (false_from_ne_true (is_joining (codes "CONN") bytes) (λ holds. not_refused_join laws (codes "CONN") bytes
    (inl refl) (joining (codes "CONN") bytes holds) refusal r))
    (false_from_ne_true (is_joining (codes "LSTN") bytes) (λ holds. not_refused_join laws (codes "LSTN") bytes
    (inr refl) (joining (codes "LSTN") bytes holds) refusal r))
    (false_from_ne_true (is_talking bytes) (λ holds. not_refused_talk laws bytes (talking bytes holds) refusal
    r))

-- 54 bytes that ask anything ask to speak
pub asked_of_54 : (bytes : List ℕ) → length bytes ≡ 54
    → (asked_in bytes ≡ None) ⊎ (asked_in bytes ≡ Some (Talks (address_at 12 bytes)))
asked_of_54 bytes long =
    let fails = no_join (codes "CONN") bytes 54 long (λ e. cc) in
    let neither = no_join (codes "LSTN") bytes 54 long (λ e. cc) in
    elim (cases_Bool (is_talking bytes)) [
      | inl holds ↦ inr (asked_talk bytes fails neither holds)
      | inr nor ↦ inl (asked_none bytes fails neither nor)
    ]
