-- Headers of books: no header begins another, and bytes begin with a header or with what is wrong with it.
use Rattle.std.proofs.Common.{◌≡◌, ◌⊎◌, ℕ, ◌+◌, ◌<◌, ◌≤◌, ◌^◌, List, [], ◌∷◌, ◌++◌, length, take, drop, get_or, inl, inr, refl, sym, ap, subst, ◌∙◌, arith}
use Rattle.std.proofs.lemmas.Bool.{cases_lt}
use Rattle.std.proofs.lemmas.List.{take-append-drop, length-take-le, length-append}
use Rattle.std.proofs.lemmas.List.Elements.{All-take, All-drop}
use Rattle.m17_control.specs.Forms.{IsModule}
use Rattle.m17_fields.specs.Fields.{IsBytes, Fields64AreExact}
use Rattle.m17_book.specs.Book.{TellsFlaw, MagicFlaw, LetterFlaw, BookHeaderFlaw}
use Rattle.m17_book.specs.Versions.{book_magic, book_header, limit_bytes, header_size, FitsLimit, FitsHeader}
use Rattle.m17_book.specs.declared.head.Head.{Head}
use Rattle.m17_book.specs.declared.refusal.Flaw.{Flaw}
use Rattle.m17_book.specs.declared.refusal.Flaw.TheVariants as flaws
use Rattle.m17_book.specs.declared.refusal.FormRefusal.{FormRefusal}
use Rattle.m17_book.specs.declared.version.Version.{Version}
use Rattle.m17_book.specs.declared.version.Version.TheVariants.{One, Two}
use Rattle.m17_book.proofs.Pieces.{parts}
use Rattle.m17_book.proofs.Told.{flaw_of, magic_no_flaw, one_magic_flaw}

-- how long a header is
pub header_long : (version : Version) (head : Head) → length (book_header version head) ≡ header_size version
header_long One head = refl
header_long Two head = refl

-- two headers of the same bytes
pub record SameHeader (version : Version) (l k : Head) (x y : List ℕ) : Type 0 where
  pub header : book_header version l ≡ book_header version k
  pub rest : x ≡ y

pub same_header : (version : Version) (bytes : List ℕ) (l k : Head) (x y : List ℕ) → bytes ≡ book_header version l ++ x → bytes ≡ book_header version k ++ y
    → SameHeader version l k x y
same_header version bytes l k x y e f =
    let two = parts (book_header version l) (book_header version k) x y (header_long version l ∙ sym (header_long version k)) (sym e ∙ f) in
    record { header = two.0; rest = two.1 }

same_limit : (version : Version) → Fields64AreExact → (a b : ℕ) → FitsLimit version a → FitsLimit version b → limit_bytes version a ≡ limit_bytes version b
    → a ≡ b
same_limit One law a b f g e = f ∙ sym g
same_limit Two law a b f g e = law.one_number a b f g e

pub head_eq : (a b : Head) → a.module ≡ b.module → a.limit ≡ b.limit → a ≡ b
head_eq a b m l =
    let make : ℕ → ℕ → Head = λ letter limit. record { «module» = letter; limit = limit } in
    ap (λ n. make n a.limit) m ∙ ap (make b.module) l

-- a header is spelled once
pub one_head : (version : Version) → Fields64AreExact → (l k : Head) → FitsHeader version l → FitsHeader version k → book_header version l ≡ book_header version k
    → l ≡ k
one_head version law l k f g e =
    head_eq l k (ap (λ xs. get_or xs 8 0) e) (same_limit version law l.limit k.limit f.1 g.1 (ap (drop 9) e))

module _ (version : Version) where
  -- what is wrong with a header
  magic_or_letter : (b : List ℕ) (f : Flaw) → take 8 b ≡ book_magic version → MagicFlaw (book_magic version) b f → ⊥
  magic_or_letter b f e h =
      let split : b ≡ book_magic version ++ drop 8 b = sym (take-append-drop 8 b) ∙ ap (λ xs. xs ++ drop 8 b) e in
      magic_no_flaw (book_magic version) (drop 8 b) f refl (subst (λ (xs : List ℕ). MagicFlaw (book_magic version) xs f) split h)

  one_letter_flaw : (b : List ℕ) (f g : Flaw) → LetterFlaw version b f → LetterFlaw version b g → f ≡ g
  one_letter_flaw b flaws.Cut flaws.Cut h k = refl
  one_letter_flaw b flaws.Cut (flaws.Kind byte) h k = absurd k
  one_letter_flaw b flaws.Cut (flaws.Field n) h k = absurd (k.2 (h.1 k.1))
  one_letter_flaw b (flaws.Kind byte) g h k = absurd h
  one_letter_flaw b (flaws.Field m) flaws.Cut h k = absurd (h.2 (k.1 h.1))
  one_letter_flaw b (flaws.Field m) (flaws.Kind byte) h k = absurd k
  one_letter_flaw b (flaws.Field m) (flaws.Field n) h k = ap flaws.Field (h.0 ∙ sym k.0)

  pub one_header_flaw : (b : List ℕ) (f g : Flaw) → BookHeaderFlaw version b f → BookHeaderFlaw version b g → f ≡ g
  one_header_flaw b f g (inl h) (inl k) = one_magic_flaw (book_magic version) b f g h k
  one_header_flaw b f g (inl h) (inr k) = absurd (magic_or_letter b f k.1 h)
  one_header_flaw b f g (inr h) (inl k) = absurd (magic_or_letter b g h.1 k)
  one_header_flaw b f g (inr h) (inr k) = one_letter_flaw b f g h.2 k.2

  good_letter : (head : Head) (x : List ℕ) (f : Flaw) → FitsHeader version head → LetterFlaw version (book_header version head ++ x) f → ⊥
  good_letter head x flaws.Cut good h = omega (arith, h.0, length-append (book_header version head) x, header_long version head)
  good_letter head x (flaws.Kind byte) good h = h
  good_letter head x (flaws.Field k) good h = h.2 good.0

  good_header : (head : Head) (x : List ℕ) (f : Flaw) → FitsHeader version head → BookHeaderFlaw version (book_header version head ++ x) f → ⊥
  good_header head x f good (inl h) = magic_no_flaw (book_magic version) (head.module ∷ limit_bytes version head.limit ++ x) f refl h
  good_header head x f good (inr h) = good_letter head x f good h.2

  pub header_not_refused : (bytes : List ℕ) (head : Head) (x : List ℕ) (refusal : FormRefusal) → FitsHeader version head → bytes ≡ book_header version head ++ x
      → TellsFlaw (BookHeaderFlaw version) bytes 0 refusal → ⊥
  header_not_refused bytes head x refusal good e h =
      let f = flaw_of (BookHeaderFlaw version) bytes 0 refusal h in
      good_header head x f.0 good (subst (λ (xs : List ℕ). BookHeaderFlaw version xs f.0) e f.1)

-- the bytes behind a letter are those of a limit, or end inside it
ReadsLimit : Version → List ℕ → Type 0
ReadsLimit version b = ((limit : ℕ) × (body : List ℕ) × FitsLimit version limit × (b ≡ limit_bytes version limit ++ body))
    ⊎ (9 + length b < header_size version)

reads_limit : (version : Version) → Fields64AreExact → (b : List ℕ) → IsBytes b → ReadsLimit version b
unfolding ReadsLimit
reads_limit One law b bytes = inl (0, b, refl, refl)
reads_limit Two law b bytes = elim (cases_lt (length b) 8) [
  | inl short ↦ inr (omega arith)
  | inr long ↦ let limit = law.each_bytes (take 8 b) (length-take-le 8 b long) (All-take (λ byte. byte < 2 ^ 8) 8 b bytes) in
      inl (limit.0, drop 8 b, limit.1, sym (take-append-drop 8 b) ∙ ap (λ xs. xs ++ drop 8 b) (sym limit.2))
]

is_module : (l : ℕ) → IsModule l ⊎ (IsModule l → ⊥)
is_module l =
    elim (cases_lt l 65) [
      | inl low ↦ inr (λ h. omega (arith, h.0))
      | inr low ↦ elim (cases_lt 90 l) [ inl high ↦ inr (λ h. omega (arith, h.1)) | inr high ↦ inl (low, high) ]
    ]

-- a header has its letter, and more where there is a limit
nine_at_least : (version : Version) → 9 ≤ header_size version
nine_at_least One = omega arith
nine_at_least Two = omega arith

-- bytes behind a magic are those of a header, or have what is wrong with it
pub reads_letter : (version : Version) → Fields64AreExact → (b rest : List ℕ) → b ≡ book_magic version ++ rest → IsBytes rest
    → ((head : Head) × (body : List ℕ) × FitsHeader version head × (b ≡ book_header version head ++ body)) ⊎ ((flaw : Flaw) × BookHeaderFlaw version b flaw)
unfolding ReadsLimit
reads_letter version law b [] e bytes =
    inr (
      flaws.Cut,
      inr (
        omega (arith, ap length e),
        ap (take 8) e,
        (omega (arith, ap length e, nine_at_least version), λ nine. absurd (omega (arith, ap length e, nine))),
      ),
    )
reads_letter version law b (letter ∷ more) e bytes = elim (is_module letter) [
  | inl good ↦ elim (reads_limit version law more (All-drop (λ byte. byte < 2 ^ 8) 1 (letter ∷ more) bytes)) [
    | inl found ↦ inl (
      record { «module» = letter; limit = found.0 },
      found.1,
      (good, found.2),
      e ∙ ap (λ xs. book_magic version ++ letter ∷ xs) found.3,
    )
    | inr short ↦ inr (
      flaws.Cut,
      inr (
        omega (arith, ap length e),
        ap (take 8) e,
        (omega (arith, ap length e, short), λ nine. subst IsModule (sym (ap (λ xs. get_or xs 8 0) e)) good),
      ),
    )
  ]
  | inr bad ↦ inr (
    flaws.Field 8,
    inr (
      omega (arith, ap length e),
      ap (take 8) e,
      (refl, omega (arith, ap length e), λ good. bad (subst IsModule (ap (λ xs. get_or xs 8 0) e) good)),
    ),
  )
]
