-- What stands whole in bytes is one list.
use Rattle.std.proofs.Common.{◌≡◌, ◌⊎◌, ℕ, ◌+◌, List, [], ◌∷◌, ◌++◌, length, get_or, refl, sym, ap, ◌∙◌, subst, inl, inr, arith, append_assoc, append-nil, length-append}
use Rattle.std.proofs.lemmas.List.{append_cancel_left}
use Rattle.m17_book.specs.Limits.{SpellsEach}
use Rattle.m17_book.specs.Book.{HasBookForm}
use Rattle.m17_book.specs.Laws.{BookKept}
use Rattle.m17_book.specs.Versions.{book_header, FitsHeader}
use Rattle.m17_book.specs.Records.{SpellsRecord, FitsRecord, record_bytes}
use Rattle.m17_book.specs.declared.head.Head.{Head}
use Rattle.m17_book.specs.declared.record.Record.{Record}
use Rattle.m17_book.specs.declared.record.Record.TheVariants as records
use Rattle.m17_book.specs.declared.version.Version.TheVariants.{Two}
use Rattle.m17_board.specs.Glance.{IsFirstPart}
use Rattle.m17_board.specs.Whole.{LacksHeader, LacksRecord, StandWhole}
use Rattle.m17_board.proofs.Sizes.{header_size, long_packet, same_front}
use Rattle.m17_board.proofs.Feeds.{nothing_there}

-- the first byte says how many there are
KindSize : ℕ → ℕ → Type 0
KindSize kind size = ((kind ≡ 1) × (size ≡ 37)) ⊎ ((kind ≡ 2) × (size ≡ 31)) ⊎ ((kind ≡ 3) × (size ≡ 97))

kind_of : (one : Record) (x : List ℕ) → FitsRecord Two one → KindSize (get_or (record_bytes one ++ x) 0 0) (length (record_bytes one))
unfolding KindSize
kind_of (records.Join tag moment member listen callsign) x f = inl (refl, refl)
kind_of (records.Leave tag moment member why) x f = inr (inl (refl, refl))
kind_of (records.Packet tag moment member v p) x f = inr (inr (refl, long_packet tag moment member v p f.2))

same_size : (k m n : ℕ) → KindSize k m → KindSize k n → m ≡ n
unfolding KindSize
same_size k m n a b = omega arith

-- spellings of records that begin the same bytes are one
same_bytes : (v w : Record) (a b x y : List ℕ) → SpellsRecord Two v a → SpellsRecord Two w b → a ++ x ≡ b ++ y → a ≡ b
same_bytes v w a b x y s t e =
    let begin : record_bytes v ++ x ≡ record_bytes w ++ y = ap (λ (l : List ℕ). l ++ x) (sym s.1) ∙ e ∙ ap (λ (l : List ℕ). l ++ y) t.1 in
    let kind : get_or (record_bytes w ++ y) 0 0 ≡ get_or (record_bytes v ++ x) 0 0 = ap (λ (l : List ℕ). get_or l 0 0) (sym begin) in
    let size : length (record_bytes v) ≡ length (record_bytes w) =
    same_size (get_or (record_bytes v ++ x) 0 0) (length (record_bytes v)) (length (record_bytes w)) (kind_of v x s.0) (subst (λ (k : ℕ). KindSize k (length (record_bytes w))) kind (kind_of w y t.0)) in
    same_front a b x y e (ap length s.1 ∙ size ∙ sym (ap length t.1))

module _ (law : (bytes : List ℕ) (a b : BookKept) → HasBookForm Two bytes a.header a.records → HasBookForm Two bytes b.header b.records → a ≡ b) where
  first_of : (v w : Record) (r s : List Record) → v ∷ r ≡ w ∷ s → v ≡ w
  first_of v w r s e = cc

  -- one spelling is of one record, as books of one record show
  same_record : (head : Head) → FitsHeader Two head → (v w : Record) (a : List ℕ) → SpellsRecord Two v a → SpellsRecord Two w a → v ≡ w
  same_record head fits v w a s t =
      let kept : Record → BookKept = λ r. record { header = head; records = r ∷ [] } in
      let book : (r : Record) → SpellsRecord Two r a → HasBookForm Two (book_header Two head ++ a) head (r ∷ []) = λ r spelled. (fits, a, (a, [], spelled, refl, sym (append-nil a)), refl) in
      first_of v w [] [] (ap (λ (k : BookKept). k.records) (law (book_header Two head ++ a) (kept v) (kept w) (book v s) (book w t)))

  -- the records that begin bytes are the first of those that stand there whole
  firsts : (head : Head) → FitsHeader Two head → (rs qs : List Record) (body body' x y : List ℕ) → SpellsEach (SpellsRecord Two) rs body → SpellsEach (SpellsRecord Two) qs body'
      → body ++ x ≡ body' ++ y → LacksRecord y → IsFirstPart rs qs
  firsts head fits [] qs body body' x y s t e lacks = (qs, refl)
  firsts head fits (v ∷ rs) [] body body' x y s t e lacks =
      absurd (lacks v s.0 (s.1 ++ x) s.2 (sym (ap (λ (l : List ℕ). l ++ y) t) ∙ sym e ∙ ap (λ (l : List ℕ). l ++ x) s.4 ∙ append_assoc s.0 s.1 x))
  firsts head fits (v ∷ rs) (w ∷ qs) body body' x y s t e lacks =
      let all : s.0 ++ (s.1 ++ x) ≡ t.0 ++ (t.1 ++ y) =
      sym (append_assoc s.0 s.1 x) ∙ sym (ap (λ (l : List ℕ). l ++ x) s.4) ∙ e ∙ ap (λ (l : List ℕ). l ++ y) t.4 ∙ append_assoc t.0 t.1 y in
      let bytes : s.0 ≡ t.0 = same_bytes v w s.0 t.0 (s.1 ++ x) (t.1 ++ y) s.2 t.2 all in
      let one : v ≡ w = same_record head fits v w s.0 s.2 (subst (SpellsRecord Two w) (sym bytes) t.2) in
      let rest : s.1 ++ x ≡ t.1 ++ y = append_cancel_left s.0 (s.1 ++ x) (t.1 ++ y) (all ∙ ap (λ (l : List ℕ). l ++ (t.1 ++ y)) (sym bytes)) in
      let more = firsts head fits rs qs s.1 t.1 x y s.3 t.3 rest lacks in
      (more.0, λ i. sym one i ∷ more.1 i)

  -- the same of what stands whole
  has_header : (head : Head) (bytes front rest : List ℕ) (posted : List Record) → bytes ≡ front ++ rest → HasBookForm Two front head posted → LacksHeader bytes → (R : Type 0) → R
  has_header head bytes front rest posted e form lacks R =
      absurd (lacks (book_header Two head) (form.1 ++ rest) (head, form.0, refl) (e ∙ ap (λ (l : List ℕ). l ++ rest) form.3 ∙ append_assoc (book_header Two head) form.1 rest))

  bodies : (h k : Head) (bytes more front front' rest rest' : List ℕ) (a b : List Record) → bytes ≡ front ++ rest → HasBookForm Two front h a → bytes ++ more ≡ front' ++ rest'
      → HasBookForm Two front' k b → LacksRecord rest' → IsFirstPart a b
  bodies h k bytes more front front' rest rest' a b e form f form' lacks =
      let left : bytes ++ more ≡ book_header Two h ++ (form.1 ++ (rest ++ more)) =
      ap (λ (l : List ℕ). l ++ more) (e ∙ ap (λ (l : List ℕ). l ++ rest) form.3) ∙ append_assoc (book_header Two h ++ form.1) rest more ∙ append_assoc (book_header Two h) form.1 (rest ++ more) in
      let right : bytes ++ more ≡ book_header Two k ++ (form'.1 ++ rest') =
      f ∙ ap (λ (l : List ℕ). l ++ rest') form'.3 ∙ append_assoc (book_header Two k) form'.1 rest' in
      let both = sym left ∙ right in
      let heads : book_header Two h ≡ book_header Two k =
      same_front (book_header Two h) (book_header Two k) (form.1 ++ (rest ++ more)) (form'.1 ++ rest') both (header_size h ∙ sym (header_size k)) in
      let behind : form.1 ++ (rest ++ more) ≡ form'.1 ++ rest' =
      append_cancel_left (book_header Two h) (form.1 ++ (rest ++ more)) (form'.1 ++ rest') (both ∙ ap (λ (l : List ℕ). l ++ (form'.1 ++ rest')) (sym heads)) in
      firsts h form.0 a b form.1 form'.1 (rest ++ more) rest' form.2 form'.2 behind lacks

  pub first_part : (bytes more : List ℕ) (a b : List Record) → StandWhole bytes a → StandWhole (bytes ++ more) b → IsFirstPart a b
  first_part bytes more a b (inl s) t = (b, ap (λ (l : List Record). l ++ b) (sym s.1))
  first_part bytes more a b (inr s) (inl t) =
      let all : bytes ++ more ≡ s.1 ++ (s.2 ++ more) = ap (λ (l : List ℕ). l ++ more) s.3 ∙ append_assoc s.1 s.2 more in
      has_header s.0 (bytes ++ more) s.1 (s.2 ++ more) a all s.4 t.0 (IsFirstPart a b)
  first_part bytes more a b (inr s) (inr t) = bodies s.0 t.0 bytes more s.1 t.1 s.2 t.2 a b s.3 s.4 t.3 t.4 t.5

  -- a first part of a first part is all
  no_more : (a b : List Record) → IsFirstPart a b → IsFirstPart b a → a ≡ b
  no_more a b p q =
      let sizes : length p.0 ≡ 0 = omega (arith, ap length p.1, ap length q.1, length-append a p.0, length-append b q.0) in
      sym (append-nil a) ∙ ap (λ (l : List Record). a ++ l) (sym (empty p.0 sizes)) ∙ sym p.1
    where
      empty : (l : List Record) → length l ≡ 0 → l ≡ []
      empty [] e = refl
      empty (x ∷ l) e = absurd (omega arith)

  pub one_list : (bytes : List ℕ) (a b : List Record) → StandWhole bytes a → StandWhole bytes b → a ≡ b
  one_list bytes a b s t =
      let on : (c : List Record) → StandWhole bytes c → StandWhole (bytes ++ []) c = λ c. subst (λ (l : List ℕ). StandWhole l c) (sym (append-nil bytes)) in
      no_more a b (first_part bytes [] a b s (on b t)) (first_part bytes [] b a t (on a s))

  pub of_book : (bytes : List ℕ) (head : Head) (records posted : List Record) → HasBookForm Two bytes head records → StandWhole bytes posted → posted ≡ records
  of_book bytes head records posted form s =
      one_list bytes posted records s (inr (head, bytes, [], sym (append-nil bytes), form, nothing_there))
