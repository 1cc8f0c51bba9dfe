-- Records of a book: no spelling begins another, and what begins with one has no flaw.
use Rattle.std.proofs.Common.{◌≡◌, ℕ, ◌+◌, ◌<◌, ◌≤◌, ◌^◌, Bool, true, false, if◌then◌else◌, nat_eq, List, [], ◌∷◌, ◌++◌, length, take, drop, refl, sym, ap, subst, ◌∙◌, arith, append_assoc, length-append}
use Rattle.std.proofs.lemmas.List.{take_at, drop_at}
use Rattle.m17_fields.specs.Fields.{be_16, be_32, be_48, be_64, Fields16AreExact, Fields32AreExact, Fields48AreExact, Fields64AreExact}
use Rattle.m17_callsign.specs.AddressBytes.{address_bytes}
use Rattle.m17_callsign.specs.Callsign.{HasCallsign}
use Rattle.m17_callsign.specs.Laws.{EachAddressHasOneCallsign}
use Rattle.m17_control.specs.declared.event.Tag.{Tag}
use Rattle.m17_control.specs.declared.event.Why.{Why}
use Rattle.m17_control.specs.declared.event.Why.TheVariants.{Asked, Moved, Silent, Stopped, Replaced}
use Rattle.m17_floor.specs.declared.verdict.Verdict.{Verdict}
use Rattle.m17_floor.specs.declared.verdict.Verdict.TheVariants.{Opened, Continued, Busy, Repeat, Late, AfterEnd, TimedOut, NotMember, ListenOnly}
use Rattle.m17_lsd.specs.Lsd.{lsd_bytes, FitsFields}
use Rattle.m17_lsd.specs.declared.lsd.Lsd.{Lsd}
use Rattle.m17_stream.specs.Laws.{OneSpelling}
use Rattle.m17_stream.specs.Stream.{SpellsStream, front_bytes, magic, frame_field}
use Rattle.m17_crc.specs.Crc.{crc_of}
use Rattle.m17_stream.specs.declared.packet.StreamPacket.{StreamPacket}
use Rattle.m17_values.specs.declared.member.Member.{Member}
use Rattle.m17_book.specs.Limits.{IsKind}
use Rattle.m17_book.specs.Records.{SpellsRecord, FitsRecord, FitsHead, FitsVerdict, IsLowVerdict, IsWritable, record_bytes, head_bytes, value_bytes, stream_bytes, verdict_code, why_code, zeros_10}
use Rattle.m17_book.specs.Flaws.{kind_of, RecordFlaw, RecordField, Link, Place, Listen, Callsign, Reason, Verdict_, Value, Packet, IsInRecord, IsAllowedInRecord, IsShortRecord}
use Rattle.m17_book.specs.declared.record.Record.{Record}
use Rattle.m17_book.specs.declared.record.Record.TheVariants as records
use Rattle.m17_book.specs.declared.refusal.Flaw.{Flaw}
use Rattle.m17_book.specs.declared.refusal.Flaw.TheVariants as flaws
use Rattle.m17_book.proofs.Pieces.{parts, cons_parts}
use Rattle.m17_book.specs.Laws.{IsClear}
use Rattle.m17_book.specs.Versions.{highest_verdict, MayJoin}
use Rattle.m17_book.specs.declared.version.Version.TheVariants.{One, Two}
use Rattle.m17_book.specs.declared.version.Version.{Version}

-- the laws of the fields, of callsigns and of stream packets
pub record FieldLaws : Type 0 where
  pub of_16 : Fields16AreExact
  pub of_32 : Fields32AreExact
  pub of_48 : Fields48AreExact
  pub of_64 : Fields64AreExact
  pub callsigns : EachAddressHasOneCallsign
  pub stream : OneSpelling

-- who may join has an address of 48 bits
pub call_within : (version : Version) → ((address : ℕ) → HasCallsign address → address < 2 ^ 48) → (address : ℕ) → MayJoin version address → address < 2 ^ 48
call_within One within address h = omega (arith, h.1)
call_within Two within address h = within address h

pub joins_within : (version : Version) → FieldLaws → (address : ℕ) → MayJoin version address → address < 2 ^ 48
joins_within version law address h = call_within version law.callsigns.within address h

-- the bytes of a record after its first 30
tail_bytes : Record → List ℕ
tail_bytes (records.Join tag moment member listen call) = ((if listen then 1 else 0) ∷ []) ++ address_bytes call
tail_bytes (records.Leave tag moment member why) = why_code why ∷ []
tail_bytes (records.Packet tag moment member verdict packet) = (verdict_code verdict ∷ []) ++ (value_bytes verdict ++ stream_bytes packet)

-- the fields that all records have
record Head : Type 0 where
  kind : ℕ
  tag : Tag
  moment : ℕ
  member : Member

head_of : Record → Head
head_of (records.Join tag moment member listen call) = record { kind = 1; tag = tag; moment = moment; member = member }
head_of (records.Leave tag moment member why) = record { kind = 2; tag = tag; moment = moment; member = member }
head_of (records.Packet tag moment member verdict packet) = record { kind = 3; tag = tag; moment = moment; member = member }

bytes_of : Head → List ℕ
bytes_of h = head_bytes h.kind h.tag h.moment h.member

in_two : (v : Record) (x : List ℕ) → record_bytes v ++ x ≡ bytes_of (head_of v) ++ (tail_bytes v ++ x)
unfolding head_of bytes_of tail_bytes
in_two (records.Join tag moment member listen call) x = refl
in_two (records.Leave tag moment member why) x = refl
in_two (records.Packet tag moment member verdict packet) x =
    let head = head_bytes 3 tag moment member ++ (verdict_code verdict ∷ []) in
    ap (λ xs. xs ++ x) (append_assoc head (value_bytes verdict) (stream_bytes packet)) ∙ append_assoc head (value_bytes verdict ++ stream_bytes packet) x

FitsHeadOf : Head → Type 0
FitsHeadOf h = FitsHead h.tag h.moment h.member

fits_head : (version : Version) (v : Record) → FitsRecord version v → FitsHeadOf (head_of v)
unfolding head_of FitsHeadOf
fits_head version (records.Join tag moment member listen call) f = f.0
fits_head version (records.Leave tag moment member why) f = f
fits_head version (records.Packet tag moment member verdict packet) f = f.0

tag_eq : (a b : Tag) → a.link ≡ b.link → a.index ≡ b.index → a ≡ b
tag_eq a b l i = ap (λ (x : ℕ). record a { link = x }) l ∙ ap (λ (x : ℕ). record b { index = x }) i

member_eq : (a b : Member) → a.place ≡ b.place → a.generation ≡ b.generation → a ≡ b
member_eq a b p g = ap (λ (x : ℕ). record a { place = x }) p ∙ ap (λ (x : ℕ). record b { generation = x }) g

record SameHead (h k : Head) : Type 0 where
  kind : h.kind ≡ k.kind
  tag : h.tag ≡ k.tag
  moment : h.moment ≡ k.moment
  member : h.member ≡ k.member

same_head : FieldLaws → (h k : Head) → FitsHeadOf h → FitsHeadOf k → bytes_of h ≡ bytes_of k → SameHead h k
unfolding bytes_of FitsHeadOf
same_head law h k f g e =
    let first = cons_parts h.kind k.kind _ _ e in
    let second = cons_parts h.tag.link k.tag.link _ _ first.1 in
    let index = parts (be_64 h.tag.index) (be_64 k.tag.index) (be_64 h.moment ++ (be_32 h.member.place ++ be_64 h.member.generation))
    (be_64 k.moment ++ (be_32 k.member.place ++ be_64 k.member.generation)) refl second.1 in
    let moment = parts (be_64 h.moment) (be_64 k.moment) (be_32 h.member.place ++ be_64 h.member.generation) (be_32 k.member.place ++ be_64 k.member.generation) refl index.1 in
    let place = parts (be_32 h.member.place) (be_32 k.member.place) (be_64 h.member.generation) (be_64 k.member.generation) refl moment.1 in
    record {
      kind = first.0;
      tag = tag_eq h.tag k.tag second.0 (law.of_64.one_number h.tag.index k.tag.index f.index g.index index.0);
      moment = law.of_64.one_number h.moment k.moment f.moment_fits g.moment_fits moment.0;
      member = member_eq h.member k.member (law.of_32.one_number h.member.place k.member.place (omega (arith, f.place)) (omega (arith, g.place)) place.0)
          (law.of_64.one_number h.member.generation k.member.generation f.generation g.generation place.1);
    }

-- what comes after the head
pub why_at : ℕ → Why
why_at k = if nat_eq k 1 then Asked else (if nat_eq k 2 then Moved else (if nat_eq k 3 then Silent else (if nat_eq k 4 then Stopped else Replaced)))

pub why_back : (w : Why) → why_at (why_code w) ≡ w
unfolding why_at
why_back Asked = refl
why_back Moved = refl
why_back Silent = refl
why_back Stopped = refl
why_back Replaced = refl

why_eq : (a b : Why) → why_code a ≡ why_code b → a ≡ b
why_eq a b e = sym (why_back a) ∙ ap why_at e ∙ why_back b

listen_eq : (a b : Bool) → ◌≡◌ {A = ℕ} (if a then 1 else 0) (if b then 1 else 0) → a ≡ b
listen_eq true true e = refl
listen_eq false false e = refl
listen_eq true false e = absurd (omega arith)
listen_eq false true e = absurd (omega arith)

-- verdicts by their bytes
pub holder_of : Verdict → Member
holder_of (Busy holder) = holder
holder_of _ = record { place = 0; generation = 0 }

pub last_of : Verdict → ℕ
last_of (Late last) = last
last_of _ = 0

unfoldable pub verdict_at : ℕ → Member → ℕ → Verdict
verdict_at k holder last = if nat_eq k 1 then Opened else (if nat_eq k 2 then Continued else (if nat_eq k 3 then Busy holder else (if nat_eq k 4 then Repeat else
    (if nat_eq k 5 then Late last else (if nat_eq k 6 then AfterEnd else (if nat_eq k 7 then NotMember else
    (if nat_eq k 8 then ListenOnly else TimedOut)))))))

pub verdict_back : (v : Verdict) → verdict_at (verdict_code v) (holder_of v) (last_of v) ≡ v
unfolding verdict_at holder_of last_of
verdict_back Opened = refl
verdict_back Continued = refl
verdict_back (Busy holder) = refl
verdict_back Repeat = refl
verdict_back (Late last) = refl
verdict_back AfterEnd = refl
verdict_back TimedOut = refl
verdict_back NotMember = refl
verdict_back ListenOnly = refl

-- the verdict with another's code
pub with_code : (v : Verdict) (k : ℕ) → k ≡ verdict_code v → verdict_at k (holder_of v) (last_of v) ≡ v
with_code v k e = ap (λ n. verdict_at n (holder_of v) (last_of v)) e ∙ verdict_back v

same_holder : FieldLaws → (a b : Member) → (a.place < 256) × (a.generation < 2 ^ 64) → (b.place < 256) × (b.generation < 2 ^ 64)
    → be_32 a.place ++ be_64 a.generation ≡ be_32 b.place ++ be_64 b.generation → a ≡ b
same_holder law a b f g e =
    let place = parts (be_32 a.place) (be_32 b.place) (be_64 a.generation) (be_64 b.generation) refl e in
    member_eq a b (law.of_32.one_number a.place b.place (omega (arith, f.0)) (omega (arith, g.0)) place.0)
    (law.of_64.one_number a.generation b.generation f.1 g.1 place.1)

same_busy : FieldLaws → (holder : Member) (b : Verdict) → Busy (holder_of b) ≡ b → FitsVerdict (Busy holder) → FitsVerdict b
    → value_bytes (Busy holder) ≡ value_bytes b → Busy holder ≡ b
same_busy law holder b is f g e =
    let fits = subst FitsVerdict (sym is) g in
    ap Busy (same_holder law holder (holder_of b) f fits (e ∙ ap value_bytes (sym is))) ∙ is

same_late : FieldLaws → (last : ℕ) (b : Verdict) → Late (last_of b) ≡ b → FitsVerdict (Late last) → FitsVerdict b
    → value_bytes (Late last) ≡ value_bytes b → Late last ≡ b
same_late law last b is f g e =
    let fits : last_of b < 32768 = subst FitsVerdict (sym is) g in
    let number = parts zeros_10 zeros_10 (be_16 last) (be_16 (last_of b)) refl (e ∙ ap value_bytes (sym is)) in
    ap Late (law.of_16.one_number last (last_of b) (omega (arith, f)) (omega (arith, fits)) number.1) ∙ is

verdict_eq : FieldLaws → (a b : Verdict) → FitsVerdict a → FitsVerdict b → verdict_code a ≡ verdict_code b → value_bytes a ≡ value_bytes b → a ≡ b
unfolding verdict_at
verdict_eq law Opened b f g k e = with_code b 1 k
verdict_eq law Continued b f g k e = with_code b 2 k
verdict_eq law (Busy holder) b f g k e = same_busy law holder b (with_code b 3 k) f g e
verdict_eq law Repeat b f g k e = with_code b 4 k
verdict_eq law (Late last) b f g k e = same_late law last b (with_code b 5 k) f g e
verdict_eq law AfterEnd b f g k e = with_code b 6 k
verdict_eq law TimedOut b f g k e = with_code b 9 k
verdict_eq law NotMember b f g k e = with_code b 7 k
verdict_eq law ListenOnly b f g k e = with_code b 8 k

pub long_value : (v : Verdict) → length (value_bytes v) ≡ 12
long_value Opened = refl
long_value Continued = refl
long_value (Busy holder) = refl
long_value Repeat = refl
long_value (Late last) = refl
long_value AfterEnd = refl
long_value TimedOut = refl
long_value NotMember = refl
long_value ListenOnly = refl

some_code : (v : Verdict) → 1 ≤ verdict_code v
some_code Opened = omega arith
some_code Continued = omega arith
some_code (Busy holder) = omega arith
some_code Repeat = omega arith
some_code (Late last) = omega arith
some_code AfterEnd = omega arith
some_code TimedOut = omega arith
some_code NotMember = omega arith
some_code ListenOnly = omega arith

-- version 2 knows each verdict
pub code_low : (v : Verdict) → verdict_code v ≤ highest_verdict Two
code_low Opened = omega arith
code_low Continued = omega arith
code_low (Busy holder) = omega arith
code_low Repeat = omega arith
code_low (Late last) = omega arith
code_low AfterEnd = omega arith
code_low TimedOut = omega arith
code_low NotMember = omega arith
code_low ListenOnly = omega arith

low_verdict : (v : Verdict) → FitsVerdict v → IsLowVerdict v
low_verdict Opened f = tt
low_verdict Continued f = tt
low_verdict (Busy holder) f = f.0
low_verdict Repeat f = tt
low_verdict (Late last) f = f
low_verdict AfterEnd f = tt
low_verdict TimedOut f = tt
low_verdict NotMember f = tt
low_verdict ListenOnly f = tt

-- what was read can be written
pub writable : (version : Version) (v : Record) → FitsRecord version v → IsWritable v
writable version (records.Join tag moment member listen call) f = (f.0.link, f.0.place)
writable version (records.Leave tag moment member why) f = (f.link, f.place)
writable version (records.Packet tag moment member verdict packet) f = ((f.0.link, f.0.place), low_verdict verdict f.1.1)

why_range : (w : Why) → (1 ≤ why_code w) × (why_code w ≤ 5)
why_range Asked = (omega arith, omega arith)
why_range Moved = (omega arith, omega arith)
why_range Silent = (omega arith, omega arith)
why_range Stopped = (omega arith, omega arith)
why_range Replaced = (omega arith, omega arith)

long_lsd : (l : Lsd) → FitsFields l → length (lsd_bytes l) ≡ 28
long_lsd l f = omega (arith, length-append (be_48 l.dst ++ be_48 l.src ++ be_16 l.kind) l.meta, f.meta_length)

long_stream : (p : StreamPacket) → SpellsStream p (stream_bytes p) → length (stream_bytes p) ≡ 54
long_stream p s =
    let number = be_16 (frame_field p.last p.number) in
    omega (
      arith,
      length-append (front_bytes p) (be_16 (crc_of (front_bytes p))),
      length-append (magic ++ be_16 p.sid ++ lsd_bytes p.lsd ++ number) p.payload,
      length-append (magic ++ be_16 p.sid ++ lsd_bytes p.lsd) number,
      length-append (magic ++ be_16 p.sid) (lsd_bytes p.lsd),
      long_lsd p.lsd s.lsd,
      s.payload_length,
    )

same_join : (version : Version) → FieldLaws → (tag tag' : Tag) (moment moment' : ℕ) (member member' : Member) (listen listen' : Bool) (call call' : ℕ) (x y : List ℕ)
    → MayJoin version call → MayJoin version call' → tag ≡ tag' → moment ≡ moment' → member ≡ member'
    → tail_bytes (records.Join tag moment member listen call) ++ x ≡ tail_bytes (records.Join tag' moment' member' listen' call') ++ y
    → records.Join tag moment member listen call ≡ records.Join tag' moment' member' listen' call'
unfolding tail_bytes
same_join version law tag tag' moment moment' member member' listen listen' call call' x y f g t m e eq =
    let first = cons_parts (if listen then 1 else 0) (if listen' then 1 else 0) _ _ eq in
    let address = parts (address_bytes call) (address_bytes call') x y refl first.1 in
    let same_listen = listen_eq listen listen' first.0 in
    let same_call : call ≡ call' = law.of_48.one_number call call' (joins_within version law call f) (joins_within version law call' g) address.0 in
    cc

same_leave : (tag tag' : Tag) (moment moment' : ℕ) (member member' : Member) (why why' : Why) (x y : List ℕ) → tag ≡ tag' → moment ≡ moment' → member ≡ member'
    → tail_bytes (records.Leave tag moment member why) ++ x ≡ tail_bytes (records.Leave tag' moment' member' why') ++ y
    → records.Leave tag moment member why ≡ records.Leave tag' moment' member' why'
unfolding tail_bytes
same_leave tag tag' moment moment' member member' why why' x y t m e eq =
    let same_why = why_eq why why' (cons_parts (why_code why) (why_code why') x y eq).0 in cc

same_packet : FieldLaws → (tag tag' : Tag) (moment moment' : ℕ) (member member' : Member) (v v' : Verdict) (p p' : StreamPacket) (x y : List ℕ)
    → FitsVerdict v → FitsVerdict v' → SpellsStream p (stream_bytes p) → SpellsStream p' (stream_bytes p') → tag ≡ tag' → moment ≡ moment' → member ≡ member'
    → tail_bytes (records.Packet tag moment member v p) ++ x ≡ tail_bytes (records.Packet tag' moment' member' v' p') ++ y
    → records.Packet tag moment member v p ≡ records.Packet tag' moment' member' v' p'
unfolding tail_bytes
same_packet law tag tag' moment moment' member member' v v' p p' x y f g s s' t m e eq =
    let first = cons_parts (verdict_code v) (verdict_code v') ((value_bytes v ++ stream_bytes p) ++ x) ((value_bytes v' ++ stream_bytes p') ++ y) eq in
    let value = parts (value_bytes v) (value_bytes v') (stream_bytes p ++ x) (stream_bytes p' ++ y) (long_value v ∙ sym (long_value v'))
    (sym (append_assoc (value_bytes v) (stream_bytes p) x) ∙ first.1 ∙ append_assoc (value_bytes v') (stream_bytes p') y) in
    let stream = parts (stream_bytes p) (stream_bytes p') x y (long_stream p s ∙ sym (long_stream p' s')) value.1 in
    let same_verdict = verdict_eq law v v' f g first.0 value.0 in
    let same_stream = law.stream p p' (stream_bytes p') (subst (λ (b : List ℕ). SpellsStream p b) stream.0 s) s' in
    cc

listen_low : (listen : Bool) → (if listen then 1 else 0) < 2
listen_low true = omega arith
listen_low false = omega arith

-- where a verdict's value and a packet stand
behind_code : (v : Verdict) (p : StreamPacket) (x : List ℕ) → List ℕ
behind_code v p x = (value_bytes v ++ stream_bytes p) ++ x

behind_head : (tag : Tag) (moment : ℕ) (member : Member) (v : Verdict) (p : StreamPacket) (x : List ℕ)
    → record_bytes (records.Packet tag moment member v p) ++ x ≡ (head_bytes 3 tag moment member ++ (verdict_code v ∷ [])) ++ behind_code v p x
unfolding behind_code
behind_head tag moment member v p x =
    let head = head_bytes 3 tag moment member ++ (verdict_code v ∷ []) in
    ap (λ xs. xs ++ x) (append_assoc head (value_bytes v) (stream_bytes p)) ∙ append_assoc head (value_bytes v ++ stream_bytes p) x

long_behind : (v : Verdict) (p : StreamPacket) (x : List ℕ) → SpellsStream p (stream_bytes p) → length (behind_code v p x) ≡ 66 + length x
unfolding behind_code
long_behind v p x s =
    omega (arith, length-append (value_bytes v ++ stream_bytes p) x, length-append (value_bytes v) (stream_bytes p), long_value v, long_stream p s)

value_at : (v : Verdict) (p : StreamPacket) (x : List ℕ) → take 12 (behind_code v p x) ≡ value_bytes v
unfolding behind_code
value_at v p x = ap (take 12) (append_assoc (value_bytes v) (stream_bytes p) x) ∙ take_at (value_bytes v) (stream_bytes p ++ x) 12 (long_value v)

stream_at : (v : Verdict) (p : StreamPacket) (x : List ℕ) → SpellsStream p (stream_bytes p) → take 54 (drop 12 (behind_code v p x)) ≡ stream_bytes p
unfolding behind_code
stream_at v p x s =
    ap (λ xs. take 54 (drop 12 xs)) (append_assoc (value_bytes v) (stream_bytes p) x) ∙ ap (take 54) (drop_at (value_bytes v) (stream_bytes p ++ x) 12 (long_value v))
    ∙ take_at (stream_bytes p) x 54 (long_stream p s)

some_bytes : (v : Record) → 0 < length (record_bytes v)
some_bytes (records.Join tag moment member listen call) = omega arith
some_bytes (records.Leave tag moment member why) = omega arith
some_bytes (records.Packet tag moment member v p) = omega arith

module _ (version : Version) where
  same_tail : FieldLaws → (v w : Record) (x y : List ℕ) → FitsRecord version v → FitsRecord version w → SameHead (head_of v) (head_of w) → tail_bytes v ++ x ≡ tail_bytes w ++ y → v ≡ w
  unfolding head_of
  same_tail law (records.Join t m e l c) (records.Join t' m' e' l' c') x y f g h eq =
      same_join version law t t' m m' e e' l l' c c' x y f.1 g.1 h.tag h.moment h.member eq
  same_tail law (records.Join t m e l c) (records.Leave t' m' e' w) x y f g h eq = absurd (omega (arith, h.kind))
  same_tail law (records.Join t m e l c) (records.Packet t' m' e' v p) x y f g h eq = absurd (omega (arith, h.kind))
  same_tail law (records.Leave t m e w) (records.Join t' m' e' l c) x y f g h eq = absurd (omega (arith, h.kind))
  same_tail law (records.Leave t m e w) (records.Leave t' m' e' w') x y f g h eq = same_leave t t' m m' e e' w w' x y h.tag h.moment h.member eq
  same_tail law (records.Leave t m e w) (records.Packet t' m' e' v p) x y f g h eq = absurd (omega (arith, h.kind))
  same_tail law (records.Packet t m e v p) (records.Join t' m' e' l c) x y f g h eq = absurd (omega (arith, h.kind))
  same_tail law (records.Packet t m e v p) (records.Leave t' m' e' w) x y f g h eq = absurd (omega (arith, h.kind))
  same_tail law (records.Packet t m e v p) (records.Packet t' m' e' v' p') x y f g h eq =
      same_packet law t t' m m' e e' v v' p p' x y f.1.1 g.1.1 f.2 g.2 h.tag h.moment h.member eq

  long_head : (h k : Head) → length (bytes_of h) ≡ length (bytes_of k)
  unfolding bytes_of
  long_head h k = refl

  one : FieldLaws → (v w : Record) (a b x y : List ℕ) → SpellsRecord version v a → SpellsRecord version w b → a ++ x ≡ b ++ y → (v ≡ w) × (a ≡ b)
  one law v w a b x y h k e =
      let same = sym (in_two v x) ∙ ap (λ xs. xs ++ x) (sym h.1) ∙ e ∙ ap (λ xs. xs ++ y) k.1 ∙ in_two w y in
      let two = parts (bytes_of (head_of v)) (bytes_of (head_of w)) (tail_bytes v ++ x) (tail_bytes w ++ y) (long_head (head_of v) (head_of w)) same in
      let head = same_head law (head_of v) (head_of w) (fits_head version v h.0) (fits_head version w k.0) two.0 in
      let value = same_tail law v w x y h.0 k.0 head two.1 in
      (value, h.1 ∙ ap record_bytes value ∙ sym k.1)

  -- bytes that begin with a whole record: each field is allowed, and none is missing
  pub record IsWhole (b : List ℕ) : Type 0 where
    pub kind : IsKind (kind_of b)
    pub allowed : (field : RecordField) → IsInRecord field b → IsAllowedInRecord version field b
    pub not_short : IsShortRecord b → ⊥

  in_join : (tag : Tag) (moment : ℕ) (member : Member) (listen : Bool) (call : ℕ) (x : List ℕ) → FitsRecord version (records.Join tag moment member listen call)
      → (field : RecordField) → IsInRecord field (record_bytes (records.Join tag moment member listen call) ++ x)
      → IsAllowedInRecord version field (record_bytes (records.Join tag moment member listen call) ++ x)
  in_join tag moment member listen call x f Link i = f.0.link
  in_join tag moment member listen call x f Place i = (member.place, f.0.place, refl)
  in_join tag moment member listen call x f Listen i = listen_low listen
  in_join tag moment member listen call x f Callsign i = (call, f.1, refl)
  in_join tag moment member listen call x f Reason i = absurd (omega (arith, i))
  in_join tag moment member listen call x f Verdict_ i = absurd (omega (arith, i))
  in_join tag moment member listen call x f Value i = absurd (omega (arith, i))
  in_join tag moment member listen call x f Packet i = absurd (omega (arith, i))

  in_leave : (tag : Tag) (moment : ℕ) (member : Member) (why : Why) (x : List ℕ) → FitsRecord version (records.Leave tag moment member why)
      → (field : RecordField) → IsInRecord field (record_bytes (records.Leave tag moment member why) ++ x)
      → IsAllowedInRecord version field (record_bytes (records.Leave tag moment member why) ++ x)
  in_leave tag moment member why x f Link i = f.link
  in_leave tag moment member why x f Place i = (member.place, f.place, refl)
  in_leave tag moment member why x f Listen i = absurd (omega (arith, i))
  in_leave tag moment member why x f Callsign i = absurd (omega (arith, i))
  in_leave tag moment member why x f Reason i = why_range why
  in_leave tag moment member why x f Verdict_ i = absurd (omega (arith, i))
  in_leave tag moment member why x f Value i = absurd (omega (arith, i))
  in_leave tag moment member why x f Packet i = absurd (omega (arith, i))

  -- a packet's record, and whatever comes after it
  in_packet : (tag : Tag) (moment : ℕ) (member : Member) (v : Verdict) (p : StreamPacket) (x : List ℕ) → FitsRecord version (records.Packet tag moment member v p)
      → (field : RecordField) → IsInRecord field ((head_bytes 3 tag moment member ++ (verdict_code v ∷ [])) ++ behind_code v p x)
      → IsAllowedInRecord version field ((head_bytes 3 tag moment member ++ (verdict_code v ∷ [])) ++ behind_code v p x)
  in_packet tag moment member v p x f Link i = f.0.link
  in_packet tag moment member v p x f Place i = (member.place, f.0.place, refl)
  in_packet tag moment member v p x f Listen i = absurd (omega (arith, i))
  in_packet tag moment member v p x f Callsign i = absurd (omega (arith, i))
  in_packet tag moment member v p x f Reason i = absurd (omega (arith, i))
  in_packet tag moment member v p x f Verdict_ i = (some_code v, f.1.0)
  in_packet tag moment member v p x f Value i = (v, f.1.1, refl, sym (value_at v p x))
  in_packet tag moment member v p x f Packet i = (p, subst (λ (b : List ℕ). SpellsStream p b) (sym (stream_at v p x f.2)) f.2)

  whole_packet : (tag : Tag) (moment : ℕ) (member : Member) (v : Verdict) (p : StreamPacket) (x : List ℕ) → FitsRecord version (records.Packet tag moment member v p)
      → IsWhole ((head_bytes 3 tag moment member ++ (verdict_code v ∷ [])) ++ behind_code v p x)
  whole_packet tag moment member v p x f =
      record {
        kind = (omega arith, omega arith);
        allowed = in_packet tag moment member v p x f;
        not_short = λ s. omega (arith, s.packet refl, long_behind v p x f.2);
      }

  whole : (v : Record) (x : List ℕ) → FitsRecord version v → IsWhole (record_bytes v ++ x)
  whole (records.Join tag moment member listen call) x f =
      record { kind = (omega arith, omega arith); allowed = in_join tag moment member listen call x f; not_short = λ s. omega (arith, s.join refl) }
  whole (records.Leave tag moment member why) x f =
      record { kind = (omega arith, omega arith); allowed = in_leave tag moment member why x f; not_short = λ s. omega (arith, s.leave refl) }
  whole (records.Packet tag moment member v p) x f =
      subst IsWhole (sym (behind_head tag moment member v p x)) (whole_packet tag moment member v p x f)

  whole_no_flaw : (b : List ℕ) (flaw : Flaw) → IsWhole b → RecordFlaw version b flaw → ⊥
  whole_no_flaw b flaws.Cut w h = w.not_short h.2
  whole_no_flaw b (flaws.Kind byte) w h = h.2 (subst IsKind (sym h.1) w.kind)
  whole_no_flaw b (flaws.Field k) w h = h.2.bad (w.allowed h.1 h.2.is_in)

  not_both : (v : Record) (a x : List ℕ) (flaw : Flaw) → SpellsRecord version v a → RecordFlaw version (a ++ x) flaw → ⊥
  not_both v a x flaw h bad = whole_no_flaw (record_bytes v ++ x) flaw (whole v x h.0) (subst (λ (b : List ℕ). RecordFlaw version (b ++ x) flaw) h.1 bad)

  no_flaw : (f : Flaw) → RecordFlaw version [] f → ⊥
  no_flaw flaws.Cut h = omega (arith, h.0)
  no_flaw (flaws.Kind byte) h = omega (arith, h.0)
  no_flaw (flaws.Field k) h = omega (arith, h.2.whole)

  pub clear : FieldLaws → ((b : List ℕ) (f g : Flaw) → RecordFlaw version b f → RecordFlaw version b g → f ≡ g) → IsClear (SpellsRecord version) (RecordFlaw version)
  clear law one_flaw =
      record {
        one = one law;
        some = λ v a h. subst (λ (xs : List ℕ). 0 < length xs) (sym h.1) (some_bytes v);
        not_both = not_both;
        one_flaw = one_flaw;
        no_flaw = no_flaw;
      }
