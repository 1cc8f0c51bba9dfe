-- How far a book's bytes are read, byte by byte.
use Rattle.std.proofs.Common.{◌≡◌, ◌⊎◌, ⊎_elim, ℕ, zero, suc, ◌+◌, Bool, true, false, true≢false, cond, ◌↔◌, IsTrue, ◌<◌, ◌≤◌, List, [], ◌∷◌, ◌++◌, length, refl, sym, ap, ◌∙◌, subst, inl, inr, arith, append_assoc, append-nil, length-append}
use Rattle.m17_book.specs.Limits.{SpellsEach}
use Rattle.m17_book.specs.Book.{HasBookForm}
use Rattle.m17_book.specs.Versions.{book_header}
use Rattle.m17_book.specs.Records.{SpellsRecord}
use Rattle.m17_book.specs.declared.head.Head.{Head}
use Rattle.m17_book.specs.declared.record.Record.{Record}
use Rattle.m17_book.specs.declared.version.Version.TheVariants.{Two}
use Rattle.m17_board.specs.declared.feed.Stage.{Stage}
use Rattle.m17_board.specs.declared.feed.Stage.TheVariants.{Header, Records, Refused}
use Rattle.m17_board.specs.Whole.{IsHeader, LacksHeader, LacksRecord, StandWhole, FeedKept, HasRead, HasReadAt}
use Rattle.m17_board.proofs.Sizes.{header_size, record_size, not_empty, at_most, cut_in, same_front}

-- no header in fewer bytes than one has
short_of_header : (bytes : List ℕ) → length bytes < 17 → LacksHeader bytes
short_of_header bytes short front rest is e =
    let long = ap length is.2 ∙ header_size is.0 in
    let all = ap length e ∙ length-append front rest in
    absurd (omega arith)

-- 17 bytes that are no header begin none
no_header : (held more : List ℕ) → length held ≡ 17 → (IsHeader held → ⊥) → LacksHeader (held ++ more)
no_header held more long not front rest is e =
    let size = ap length is.2 ∙ header_size is.0 in
    not (subst IsHeader (sym (same_front held front more rest e (long ∙ sym size))) is)

-- nothing begins with a record
pub nothing_there : LacksRecord []
nothing_there one front rest s e =
    let size = record_size one front s in
    let all = ap length e ∙ length-append front rest in
    not_empty (length front) size (omega arith)

by_size : (n m : ℕ) → n ≤ m + 1 → (n ≤ m) ⊎ (n ≡ m + 1)
by_size zero m le = inl (omega arith)
by_size (suc n) zero le = inr (omega arith)
by_size (suc n) (suc m) le = ⊎_elim (λ (a : n ≤ m). inl (omega arith)) (λ (b : n ≡ m + 1). inr (omega arith)) (by_size n m (omega arith))

-- with one byte more, where no record is whole by it
pub not_by_one : (held : List ℕ) (byte : ℕ) → LacksRecord held → ((one : Record) → SpellsRecord Two one (held ++ byte ∷ []) → ⊥) → LacksRecord (held ++ byte ∷ [])
not_by_one held byte none whole one front rest s e =
    let all : length front + length rest ≡ length held + 1 = omega (arith, length-append front rest, length-append held (byte ∷ []), ap length e) in
    ⊎_elim
    (λ (le : length front ≤ length held). let t = cut_in front held rest (byte ∷ []) (sym e) le in none one front t.0 s t.1)
    (λ (full : length front ≡ length held + 1).
    let long : length front ≡ length (held ++ byte ∷ []) = omega (arith, length-append held (byte ∷ [])) in
    let same = same_front front (held ++ byte ∷ []) rest [] (sym e ∙ sym (append-nil (held ++ byte ∷ []))) long in
    whole one (subst (SpellsRecord Two one) same s))
    (by_size (length front) (length held) (omega arith))

-- 97 bytes that begin with no record begin with none whatever comes
pub never_whole : (held more : List ℕ) → length held ≡ 97 → LacksRecord held → LacksRecord (held ++ more)
never_whole held more long none one front rest s e =
    let t = cut_in front held rest more (sym e) (at_most (length front) (length held) (record_size one front s) long) in none one front t.0 s t.1

-- one record more
each_more : (records : List Record) (one : Record) (body bytes : List ℕ) → SpellsEach (SpellsRecord Two) records body → SpellsRecord Two one bytes → SpellsEach (SpellsRecord Two) (records ++ one ∷ []) (body ++ bytes)
each_more [] one body bytes e s = (bytes, [], s, refl, ap (λ (l : List ℕ). l ++ bytes) e ∙ sym (append-nil bytes))
each_more (r ∷ rs) one body bytes e s =
    (e.0, e.1 ++ bytes, e.2, each_more rs one e.1 bytes e.3 s, ap (λ (l : List ℕ). l ++ bytes) e.4 ∙ append_assoc e.0 e.1 bytes)

form_more : (head : Head) (records : List Record) (one : Record) (front bytes : List ℕ) → HasBookForm Two front head records → SpellsRecord Two one bytes → HasBookForm Two (front ++ bytes) head (records ++ one ∷ [])
form_more head records one front bytes h s =
    (h.0, h.1 ++ bytes, each_more records one h.1 bytes h.2 s, ap (λ (l : List ℕ). l ++ bytes) h.3 ∙ append_assoc (book_header Two head) h.1 bytes)

-- what is read is what stands whole
pub reads_whole : (stage : Stage) (held taken : List ℕ) (posted : List Record) → HasReadAt stage held taken posted → StandWhole taken posted
reads_whole Header held taken posted h = inl (short_of_header taken (subst (λ (l : List ℕ). length l < 17) (sym h.0) h.1), h.2)
reads_whole Records held taken posted h = inr (h.0, h.1, held, h.2, h.3, h.4)
reads_whole Refused held taken posted h = subst (λ (l : List ℕ). StandWhole l posted) (append-nil taken) (h [])

pub reads_none : HasReadAt Header [] [] []
reads_none = (refl, omega arith, refl)

-- a byte of the header
pub header_on : (held taken : List ℕ) (byte : ℕ) (posted : List Record) → HasReadAt Header held taken posted → length (held ++ byte ∷ []) < 17 → HasReadAt Header (held ++ byte ∷ []) (taken ++ byte ∷ []) posted
header_on held taken byte posted h short = (ap (λ (l : List ℕ). l ++ byte ∷ []) h.0, short, h.2)

long_header : (held : List ℕ) (byte : ℕ) → length held < 17 → 17 ≤ length (held ++ byte ∷ []) → length (held ++ byte ∷ []) ≡ 17
long_header held byte short long = omega (arith, length-append held (byte ∷ []))

pub header_whole : (held taken : List ℕ) (byte : ℕ) (posted : List Record) → HasReadAt Header held taken posted → IsHeader (held ++ byte ∷ []) → HasReadAt Records [] (taken ++ byte ∷ []) posted
header_whole held taken byte posted h is =
    let all : taken ++ byte ∷ [] ≡ (held ++ byte ∷ []) ++ [] = ap (λ (l : List ℕ). l ++ byte ∷ []) h.0 ∙ sym (append-nil (held ++ byte ∷ [])) in
    let form : HasBookForm Two (held ++ byte ∷ []) is.0 [] = (is.1, [], refl, is.2 ∙ sym (append-nil (book_header Two is.0))) in
    (is.0, held ++ byte ∷ [], all, subst (HasBookForm Two (held ++ byte ∷ []) is.0) (sym h.2) form, nothing_there)

pub header_refused : (held taken : List ℕ) (byte : ℕ) (posted : List Record) → HasReadAt Header held taken posted → 17 ≤ length (held ++ byte ∷ []) → (IsHeader (held ++ byte ∷ []) → ⊥)
    → HasReadAt Refused [] (taken ++ byte ∷ []) posted
header_refused held taken byte posted h long not more =
    let lacks = no_header (held ++ byte ∷ []) more (long_header held byte h.1 long) not in
    inl (subst (λ (l : List ℕ). LacksHeader (l ++ more)) (ap (λ (l : List ℕ). l ++ byte ∷ []) (sym h.0)) lacks, h.2)

-- the stage behind 17 bytes that are a header, or are none
pub header_done : (held taken : List ℕ) (byte : ℕ) (posted : List Record) (header : Bool) → HasReadAt Header held taken posted → 17 ≤ length (held ++ byte ∷ []) → IsTrue header ↔ IsHeader (held ++ byte ∷ [])
    → HasReadAt (cond header Records Refused) [] (taken ++ byte ∷ []) posted
header_done held taken byte posted true h long is = header_whole held taken byte posted h (is.0 refl)
header_done held taken byte posted false h long is = header_refused held taken byte posted h long (λ whole. true≢false (sym (is.1 whole)))

-- a byte of a record
behind : (held taken front : List ℕ) (byte : ℕ) → taken ≡ front ++ held → taken ++ byte ∷ [] ≡ front ++ (held ++ byte ∷ [])
behind held taken front byte e = ap (λ (l : List ℕ). l ++ byte ∷ []) e ∙ append_assoc front held (byte ∷ [])

pub record_on : (held taken : List ℕ) (byte : ℕ) (posted : List Record) → HasReadAt Records held taken posted → ((one : Record) → SpellsRecord Two one (held ++ byte ∷ []) → ⊥)
    → HasReadAt Records (held ++ byte ∷ []) (taken ++ byte ∷ []) posted
record_on held taken byte posted h whole = (h.0, h.1, behind held taken h.1 byte h.2, h.3, not_by_one held byte h.4 whole)

pub record_whole : (held taken : List ℕ) (byte : ℕ) (posted : List Record) (one : Record) → HasReadAt Records held taken posted → SpellsRecord Two one (held ++ byte ∷ [])
    → HasReadAt Records [] (taken ++ byte ∷ []) (posted ++ one ∷ [])
record_whole held taken byte posted one h s = (
  h.0,
  h.1 ++ (held ++ byte ∷ []),
  behind held taken h.1 byte h.2 ∙ sym (append-nil (h.1 ++ (held ++ byte ∷ []))),
  form_more h.0 posted one h.1 (held ++ byte ∷ []) h.3 s,
  nothing_there,
)

pub record_refused : (held taken : List ℕ) (posted : List Record) → HasReadAt Records held taken posted → length held ≡ 97 → HasReadAt Refused [] taken posted
record_refused held taken posted h long more =
    inr (h.0, h.1, held ++ more, ap (λ (l : List ℕ). l ++ more) h.2 ∙ append_assoc h.1 held more, h.3, never_whole held more long h.4)

pub refused_on : (held held' taken : List ℕ) (byte : ℕ) (posted : List Record) → HasReadAt Refused held taken posted → HasReadAt Refused held' (taken ++ byte ∷ []) posted
refused_on held held' taken byte posted h more = subst (λ (l : List ℕ). StandWhole l posted) (sym (append_assoc taken (byte ∷ []) more)) (h (byte ∷ more))

-- the same of what is kept, as the code turns it
to_stage : (was : FeedKept) (stage : Stage) (taken : List ℕ) (posted : List Record) → was.stage ≡ stage → HasRead was taken posted → HasReadAt stage was.held taken posted
to_stage was stage taken posted e h = subst (λ (s : Stage). HasReadAt s was.held taken posted) e h

of_stage : (stage was : Stage) (held left taken : List ℕ) (posted : List Record) → stage ≡ was → left ≡ held → HasReadAt was held taken posted → HasReadAt stage left taken posted
of_stage stage was held left taken posted e l h =
    subst (λ (s : Stage). HasReadAt s left taken posted) (sym e) (subst (λ (b : List ℕ). HasReadAt was b taken posted) (sym l) h)

pub header_turn : (was : FeedKept) (held slice taken : List ℕ) (byte : ℕ) (posted : List Record) (header : Bool) (stage : Stage) (left : List ℕ)
    → was.stage ≡ Header → held ≡ was.held ++ byte ∷ [] → slice ≡ held → 17 ≤ length held → IsTrue header ↔ IsHeader slice → stage ≡ cond header Records Refused → left ≡ []
    → HasRead was taken posted → HasReadAt stage left (taken ++ byte ∷ []) posted
header_turn was held slice taken byte posted header stage left at here same long is next none h =
    of_stage stage (cond header Records Refused) [] left (taken ++ byte ∷ []) posted next none
    (header_done was.held taken byte posted header (to_stage was Header taken posted at h) (subst (λ (l : List ℕ). 17 ≤ length l) here long)
    (subst (λ (l : List ℕ). IsTrue header ↔ IsHeader l) (same ∙ here) is))

pub record_turn : (was : FeedKept) (held slice taken : List ℕ) (byte : ℕ) (posted : List Record) (one : Record) (stage : Stage) (left : List ℕ)
    → was.stage ≡ Records → held ≡ was.held ++ byte ∷ [] → slice ≡ held → SpellsRecord Two one slice → stage ≡ was.stage → left ≡ []
    → HasRead was taken posted → HasReadAt stage left (taken ++ byte ∷ []) (posted ++ one ∷ [])
record_turn was held slice taken byte posted one stage left at here same spelled next none h =
    of_stage stage Records [] left (taken ++ byte ∷ []) (posted ++ one ∷ []) (next ∙ at) none
    (record_whole was.held taken byte posted one (to_stage was Records taken posted at h) (subst (SpellsRecord Two one) (same ∙ here) spelled))

pub record_short : (was : FeedKept) (held slice taken : List ℕ) (byte : ℕ) (posted : List Record) (stage : Stage)
    → was.stage ≡ Records → held ≡ was.held ++ byte ∷ [] → slice ≡ held → ((one : Record) → SpellsRecord Two one slice → ⊥) → stage ≡ was.stage
    → HasRead was taken posted → HasReadAt stage held (taken ++ byte ∷ []) (posted ++ [])
record_short was held slice taken byte posted stage at here same not next h =
    subst (HasReadAt stage held (taken ++ byte ∷ [])) (sym (append-nil posted))
    (of_stage stage Records (was.held ++ byte ∷ []) held (taken ++ byte ∷ []) posted (next ∙ at) here
    (record_on was.held taken byte posted (to_stage was Records taken posted at h) (λ one s. not one (subst (SpellsRecord Two one) (sym (same ∙ here)) s))))

pub record_long : (was : FeedKept) (held slice taken : List ℕ) (byte : ℕ) (posted : List Record) (left : List ℕ)
    → was.stage ≡ Records → held ≡ was.held ++ byte ∷ [] → slice ≡ held → ((one : Record) → SpellsRecord Two one slice → ⊥) → length held ≡ 97
    → HasRead was taken posted → HasReadAt Refused left (taken ++ byte ∷ []) (posted ++ [])
record_long was held slice taken byte posted left at here same not long h =
    let on = record_on was.held taken byte posted (to_stage was Records taken posted at h) (λ one s. not one (subst (SpellsRecord Two one) (sym (same ∙ here)) s)) in
    subst (HasReadAt Refused left (taken ++ byte ∷ [])) (sym (append-nil posted)) (record_refused (was.held ++ byte ∷ []) (taken ++ byte ∷ []) posted on (sym (ap length here) ∙ long))

pub refused_turn : (was : FeedKept) (taken : List ℕ) (byte : ℕ) (posted : List Record) → was.stage ≡ Refused → HasRead was taken posted → HasRead was (taken ++ byte ∷ []) (posted ++ [])
refused_turn was taken byte posted at h =
    of_stage was.stage Refused was.held was.held (taken ++ byte ∷ []) (posted ++ []) at refl
    (subst (HasReadAt Refused was.held (taken ++ byte ∷ [])) (sym (append-nil posted)) (refused_on was.held was.held taken byte posted (to_stage was Refused taken posted at h)))
