-- How many bytes headers and records have, and where lists are cut.
use Rattle.std.proofs.Common.{◌≡◌, ◌≢◌, ◌⊎◌, ℕ, ◌≤◌, List, [], ◌∷◌, ◌++◌, length, refl, sym, ap, subst, inl, inr, arith, length-append}
use Rattle.m17_fields.specs.Fields.{be_16, be_48}
use Rattle.m17_crc.specs.Crc.{crc_of}
use Rattle.m17_lsd.specs.Lsd.{lsd_bytes, FitsFields}
use Rattle.m17_lsd.specs.declared.lsd.Lsd.{Lsd}
use Rattle.m17_stream.specs.Stream.{SpellsStream, front_bytes, magic, frame_field}
use Rattle.m17_stream.specs.declared.packet.StreamPacket.{StreamPacket}
use Rattle.m17_values.specs.declared.member.Member.{Member}
use Rattle.m17_control.specs.declared.event.Tag.{Tag}
use Rattle.m17_floor.specs.declared.verdict.Verdict.{Verdict}
use Rattle.m17_floor.specs.declared.verdict.Verdict.TheVariants.{Opened, Continued, Busy, Repeat, Late, AfterEnd, TimedOut, NotMember, ListenOnly}
use Rattle.m17_book.specs.Versions.{book_header}
use Rattle.m17_book.specs.Records.{SpellsRecord, FitsRecord, record_bytes, head_bytes, value_bytes, stream_bytes, verdict_code}
use Rattle.m17_book.specs.declared.head.Head.{Head}
use Rattle.m17_book.specs.declared.record.Record.{Record}
use Rattle.m17_book.specs.declared.record.Record.TheVariants as records
use Rattle.m17_book.specs.declared.version.Version.TheVariants.{Two}

pub header_size : (head : Head) → length (book_header Two head) ≡ 17
header_size head = refl

long_lsd : (l : Lsd) → FitsFields l → length (lsd_bytes l) ≡ 28
long_lsd l f = omega (arith, length-append (be_48 l.dst ++ be_48 l.src ++ be_16 l.kind) l.meta, f.meta_length)

long_stream : (p : StreamPacket) → SpellsStream p (stream_bytes p) → length (stream_bytes p) ≡ 54
long_stream p s =
    let number = be_16 (frame_field p.last p.number) in
    omega (
      arith,
      length-append (front_bytes p) (be_16 (crc_of (front_bytes p))),
      length-append (magic ++ be_16 p.sid ++ lsd_bytes p.lsd ++ number) p.payload,
      length-append (magic ++ be_16 p.sid ++ lsd_bytes p.lsd) number,
      length-append (magic ++ be_16 p.sid) (lsd_bytes p.lsd),
      long_lsd p.lsd s.lsd,
      s.payload_length,
    )

long_value : (v : Verdict) → length (value_bytes v) ≡ 12
long_value Opened = refl
long_value Continued = refl
long_value (Busy _) = refl
long_value Repeat = refl
long_value (Late _) = refl
long_value AfterEnd = refl
long_value TimedOut = refl
long_value NotMember = refl
long_value ListenOnly = refl

-- the sizes of records
pub IsSize : ℕ → Type 0
IsSize n = (n ≡ 31) ⊎ (n ≡ 37) ⊎ (n ≡ 97)

pub long_packet : (tag : Tag) (moment : ℕ) (member : Member) (v : Verdict) (p : StreamPacket) → SpellsStream p (stream_bytes p) → length (record_bytes (records.Packet tag moment member v p)) ≡ 97
long_packet tag moment member v p s =
    let front = head_bytes 3 tag moment member ++ (verdict_code v ∷ []) in
    let a = length-append (front ++ value_bytes v) (stream_bytes p) in
    let b = length-append front (value_bytes v) in
    let head : length front ≡ 31 = refl in
    omega (arith, a, b, head, long_value v, long_stream p s)

size_of : (one : Record) → FitsRecord Two one → IsSize (length (record_bytes one))
unfolding IsSize
size_of (records.Join tag moment member listen callsign) f = inr (inl refl)
size_of (records.Leave tag moment member why) f = inl refl
size_of (records.Packet tag moment member v p) f = inr (inr (long_packet tag moment member v p f.2))

pub record_size : (one : Record) (bytes : List ℕ) → SpellsRecord Two one bytes → IsSize (length bytes)
record_size one bytes s = subst IsSize (sym (ap length s.1)) (size_of one s.0)

pub not_empty : (n : ℕ) → IsSize n → n ≡ 0 → ⊥
unfolding IsSize
not_empty n s e = omega arith

pub at_most : (n m : ℕ) → IsSize n → m ≡ 97 → n ≤ m
unfolding IsSize
at_most n m s e = omega arith

pub other_size : (n : ℕ) → IsSize n → n ≢ 31 → n ≢ 37 → n ≢ 97 → ⊥
unfolding IsSize
other_size n s a b c = omega arith

-- a list that begins two lists that are one, the shorter of the two beginnings, begins the other
pub cut_in : {A : Type 0} (a b x y : List A) → a ++ x ≡ b ++ y → length a ≤ length b → (c : List A) × (b ≡ a ++ c)
cut_in [] b x y e le = (b, refl)
cut_in (p ∷ a) [] x y e le = absurd (omega arith)
cut_in (p ∷ a) (q ∷ b) x y e le =
    let t = cut_in a b x y (tails p q (a ++ x) (b ++ y) e) (omega arith) in
    (t.0, (λ i. heads p q (a ++ x) (b ++ y) (sym e) i ∷ t.1 i))
  where
    tails : {A : Type 0} (p q : A) (s t : List A) → p ∷ s ≡ q ∷ t → s ≡ t
    tails p q s t e = cc

    heads : {A : Type 0} (p q : A) (s t : List A) → q ∷ t ≡ p ∷ s → q ≡ p
    heads p q s t e = cc

-- beginnings of one length are one
pub same_front : {A : Type 0} (a b x y : List A) → a ++ x ≡ b ++ y → length a ≡ length b → a ≡ b
same_front [] [] x y e le = refl
same_front [] (q ∷ b) x y e le = absurd (omega arith)
same_front (p ∷ a) [] x y e le = absurd (omega arith)
same_front (p ∷ a) (q ∷ b) x y e le = (λ i. heads p q (a ++ x) (b ++ y) e i ∷ same_front a b x y (tails p q (a ++ x) (b ++ y) e) (omega arith) i)
  where
    tails : {A : Type 0} (p q : A) (s t : List A) → p ∷ s ≡ q ∷ t → s ≡ t
    tails p q s t e = cc

    heads : {A : Type 0} (p q : A) (s t : List A) → p ∷ s ≡ q ∷ t → p ≡ q
    heads p q s t e = cc
