-- A reader of a book from record to record.
use Rattle.std.proofs.Common.{◌≡◌, ◌⊎◌, ℕ, ◌+◌, List, [], ◌∷◌, ◌++◌, length, Option, None, Some, MatchOption, IsSome, is_some, false, Result, Ok, Err, OnErr, inl, inr, refl, sym, ap, subst, ◌∙◌, arith, length-append, append_assoc}
use Rattle.std.proofs.lemmas.List.{append-nil}
use Rattle.std.proofs.lemmas.Bool.{false≢true}
use Rattle.m17_book.specs.Limits.{told, SpellsEach}
use Rattle.m17_book.specs.Ahead.{IsAhead}
use Rattle.m17_book.specs.Book.{HasBookForm, StopsBook, TellsFlaw, BookHeaderFlaw}
use Rattle.m17_book.specs.Flaws.{RecordFlaw}
use Rattle.m17_book.specs.Progress.{Progress}
use Rattle.m17_book.specs.Reading.{HasRead, HasHeader, AnswersNext}
use Rattle.m17_book.specs.Records.{SpellsRecord}
use Rattle.m17_book.specs.Steps.{IsNext, PassesHeader}
use Rattle.m17_book.specs.Walk.{coming}
use Rattle.m17_book.specs.declared.record.Record.{Record}
use Rattle.m17_book.specs.declared.refusal.Flaw.{Flaw}
use Rattle.m17_book.specs.declared.refusal.FormRefusal.{FormRefusal}
use Rattle.m17_book.specs.declared.refusal.FormRefusal.TheVariants.{Cut, Kind, Field, Large, ReadFault, NoMemory}
use Rattle.m17_book.specs.Versions.{book_header, FitsHeader}
use Rattle.m17_book.specs.declared.head.Head.{Head}
use Rattle.m17_book.specs.declared.version.Version.TheVariants.{Two}

-- one value more at the end
pub spells_more : {Value : Type 0} (Spells : Value → List ℕ → Type 0) (values : List Value) (value : Value) (a b : List ℕ)
    → SpellsEach Spells values a → Spells value b → SpellsEach Spells (values ++ value ∷ []) (a ++ b)
spells_more Spells [] value a b h s = (b, [], s, refl, ap (λ xs. xs ++ b) h ∙ sym (append-nil b))
spells_more Spells (v ∷ vs) value a b h s =
    (h.0, h.1 ++ b, h.2, spells_more Spells vs value h.1 b h.3 s, ap (λ xs. xs ++ b) h.4 ∙ append_assoc h.0 h.1 b)

pub told_more : (n k : ℕ) → told (told n + k) ≡ told (n + k)
told_more n k = omega arith

told_twice : (n : ℕ) → told (told n) ≡ told n
told_twice n = omega arith

-- a flaw at a place that is told
retold : (Flawed : List ℕ → Flaw → Type 0) (rest : List ℕ) (place : ℕ) (refusal : FormRefusal)
    → TellsFlaw Flawed rest (told place) refusal → TellsFlaw Flawed rest place refusal
retold Flawed rest place (Cut at) h = (h.0, h.1 ∙ told_more place (length rest))
retold Flawed rest place (Kind at byte) h = (h.0, h.1 ∙ told_twice place)
retold Flawed rest place (Field at) h = (h.0, h.1, h.2 ∙ told_more place h.0)
retold Flawed rest place (Large at) h = h
retold Flawed rest place ReadFault h = h
retold Flawed rest place NoMemory h = h

-- a reader past the header
pub record IsWithin (head : Head) (held : List ℕ) (left : Option (List ℕ)) (place : ℕ) (bytes : List ℕ) (records : List Record) : Type 0 where
  pub front : List ℕ
  pub rest : List ℕ
  pub split : bytes ≡ front ++ rest
  pub form : HasBookForm Two front head records
  pub ahead : IsAhead held left rest
  pub place_is : place ≡ told (length front)

-- what a reader has read, by the header that it tells
abbrev HasReadBy : Option Head → Progress → Option (List ℕ) → List ℕ → List Record → Type 0
HasReadBy header reader left bytes records = MatchOption header
    (IsAhead reader.unread left bytes × (reader.place ≡ 0) × (records ≡ []))
    (λ head. (front : List ℕ) × (rest : List ℕ) × (bytes ≡ front ++ rest) × HasBookForm Two front head records
    × IsAhead reader.unread left rest × (reader.place ≡ told (length front)))

pub has_read : (head : Head) (reader : Progress) (left : Option (List ℕ)) (bytes : List ℕ) (records : List Record) → reader.header ≡ Some head
    → IsWithin head reader.unread left reader.place bytes records → HasRead reader left bytes records
has_read head reader left bytes records begun w =
    subst (λ (o : Option Head). HasReadBy o reader left bytes records) (sym begun) (w.front, w.rest, w.split, w.form, w.ahead, w.place_is)

pub is_within : (head : Head) (reader : Progress) (left : Option (List ℕ)) (bytes : List ℕ) (records : List Record) → reader.header ≡ Some head
    → HasRead reader left bytes records → IsWithin head reader.unread left reader.place bytes records
is_within head reader left bytes records begun h =
    let k = subst (λ (o : Option Head). HasReadBy o reader left bytes records) begun h in
    record { front = k.0; rest = k.1; split = k.2; form = k.3; ahead = k.4; place_is = k.5 }

pub is_fresh : (reader : Progress) (left : Option (List ℕ)) (bytes : List ℕ) (records : List Record) → reader.header ≡ None
    → HasRead reader left bytes records → IsAhead reader.unread left bytes × (reader.place ≡ 0) × (records ≡ [])
is_fresh reader left bytes records begun h = subst (λ (o : Option Head). HasReadBy o reader left bytes records) begun h

pub has_fresh : (reader : Progress) (left : Option (List ℕ)) (bytes : List ℕ) (records : List Record) → reader.header ≡ None
    → IsAhead reader.unread left bytes → reader.place ≡ 0 → records ≡ [] → HasRead reader left bytes records
has_fresh reader left bytes records begun ahead start none =
    subst (λ (o : Option Head). HasReadBy o reader left bytes records) (sym begun) (ahead, start, none)

-- what follows of both, where it ended with a refusal
pub refused_with : {T A B C : Type 0} (result : Result T FormRefusal) → (A → B → C) → OnErr result A → OnErr result B → OnErr result C
refused_with (Ok x) f a b = tt
refused_with (Err refusal) f a b = f a b

pub header_of_some : (o : Option Head) → IsSome o → (head : Head) × (o ≡ Some head)
header_of_some (Some head) is = (head, refl)
header_of_some None is = absurd (false≢true is)

pub none_is : (o : Option Head) → is_some o ≡ false → o ≡ None
none_is None is = refl
none_is (Some head) is = absurd (false≢true (sym is))

-- a book of no records
empty_book : (head : Head) → FitsHeader Two head → HasBookForm Two (book_header Two head) head []
empty_book head good = (good, [], refl, sym (append-nil (book_header Two head)))

-- the header of a fresh reader was passed
pub past_header : (head : Head) (bytes held : List ℕ) (place after : ℕ) (left : Option (List ℕ)) (records : List Record)
    → PassesHeader Two (Ok head) (coming place bytes) (record { held = held; left = left; place = after }) → place ≡ 0 → records ≡ []
    → IsWithin head held left after bytes records
past_header head bytes held place after left records h start none =
    record {
      front = book_header Two head;
      rest = h.1;
      split = h.2;
      form = subst (λ (rs : List Record). HasBookForm Two (book_header Two head) head rs) (sym none) (empty_book head h.0);
      ahead = h.3;
      place_is = h.4 ∙ ap (λ n. told (n + 17)) start;
    }

-- what is wrong with the header of a fresh reader
pub bad_header : (refusal : FormRefusal) (header : Option Head) (bytes : List ℕ) (place : ℕ) → (refusal ≡ ReadFault) ⊎ TellsFlaw (BookHeaderFlaw Two) bytes place refusal
    → header ≡ None → place ≡ 0 → (records : List Record) → records ≡ []
    → ((refusal ≡ ReadFault) × HasHeader header bytes) ⊎ StopsBook Two bytes header records refusal
bad_header refusal header bytes place (inl h) fresh start records none =
    inl (h, subst (λ (o : Option Head). HasHeader o bytes) (sym fresh) tt)
bad_header refusal header bytes place (inr h) fresh start records none =
    inr (subst (λ (o : Option Head). StopsBook Two bytes o records refusal) (sym fresh)
    (none, subst (λ (n : ℕ). TellsFlaw (BookHeaderFlaw Two) bytes n refusal) start h))

-- the header of a reader past it stands at the beginning
has_header : (head : Head) (old : List ℕ) (left : Option (List ℕ)) (place : ℕ) (bytes : List ℕ) (records : List Record) → IsWithin head old left place bytes records
    → HasHeader (Some head) bytes
has_header head old left place bytes records w =
    (w.form.0, w.form.1 ++ w.rest, w.split ∙ ap (λ xs. xs ++ w.rest) w.form.3 ∙ append_assoc (book_header Two head) w.form.1 w.rest)

-- what is next after the records that were read
pub answers : (head : Head) (result : Result (Option Record) FormRefusal) (reader : Progress) (old : List ℕ) (left left' : Option (List ℕ)) (place : ℕ)
    (bytes : List ℕ) (records : List Record) → reader.header ≡ Some head → (w : IsWithin head old left place bytes records)
    → IsNext (SpellsRecord Two) (RecordFlaw Two) result (coming place w.rest) (record { held = reader.unread; left = left'; place = reader.place })
    → AnswersNext result reader left' bytes records
answers head (Ok (Some value)) reader old left left' place bytes records begun w h =
    has_read head reader left' bytes (records ++ value ∷ []) begun (record {
      front = w.front ++ h.0;
      rest = h.1;
      split = w.split ∙ ap (λ xs. w.front ++ xs) h.2 ∙ sym (append_assoc w.front h.0 h.1);
      form = (
        w.form.0,
        w.form.1 ++ h.0,
        spells_more (SpellsRecord Two) records value w.form.1 h.0 w.form.2 h.3,
        ap (λ xs. xs ++ h.0) w.form.3 ∙ append_assoc (book_header Two head) w.form.1 h.0,
      );
      ahead = h.4;
      place_is = h.5 ∙ ap (λ n. told (n + length h.0)) w.place_is ∙ told_more (length w.front) (length h.0)
          ∙ ap told (sym (length-append w.front h.0));
    })
answers head (Ok None) reader old left left' place bytes records begun w h =
    let whole : bytes ≡ w.front = w.split ∙ ap (λ xs. w.front ++ xs) h.0 ∙ append-nil w.front in (
      has_read head reader left' bytes records begun (record {
        front = w.front;
        rest = [];
        split = w.split ∙ ap (λ xs. w.front ++ xs) h.0;
        form = w.form;
        ahead = h.1;
        place_is = h.2 ∙ w.place_is;
      }),
      (head, begun, subst (λ (xs : List ℕ). HasBookForm Two xs head records) (sym whole) w.form),
    )
answers head (Err refusal) reader old left left' place bytes records begun w (inl h) =
    inl (h, subst (λ (o : Option Head). HasHeader o bytes) (sym begun) (has_header head old left place bytes records w))
answers head (Err refusal) reader old left left' place bytes records begun w (inr h) =
    let tells = retold (RecordFlaw Two) w.rest (length w.front) refusal
    (subst (λ (n : ℕ). TellsFlaw (RecordFlaw Two) w.rest n refusal) w.place_is h) in
    inr (subst (λ (o : Option Head). StopsBook Two bytes o records refusal) (sym begun) (w.front, w.rest, w.split, w.form, tells))
