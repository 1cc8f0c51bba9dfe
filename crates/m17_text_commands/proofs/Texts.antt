-- The text of an evening: entry by entry, its parts, its length, and that it is a trace.
use Rattle.std.proofs.Common.{◌≡◌, ℕ, zero, suc, ◌+◌, ◌-◌, ◌*◌, ◌^◌, ◌<◌, ◌≤◌, List, [], ◌∷◌, ◌++◌, length, map, take, min, nat_lt, refl, sym, ap, ap₂, ◌∙◌, arith, subst, append_assoc, append-nil, add-zero, length-append, Option, Some}
use Rattle.std.specs.List.{flat_map, range_with_len, sum_by}
use Rattle.std.proofs.lemmas.List.Sums.{sum_by-cons}
use Rattle.std.proofs.lemmas.List.FromFn.{map-range_with_len_more, length-map-range_with_len}
use Rattle.std.proofs.lemmas.List.Concat.{flat_map-append}
use Rattle.m17_lists.proofs.Parts.{front_goes_into}
use Rattle.m17_io.specs.Sink.{AppendsPrefix}
use Rattle.m17_values.specs.declared.heard.Heard.{Heard}
use Rattle.m17_book.specs.Limits.{SpellsEach}
use Rattle.m17_book.specs.Entries.{SpellsEntry, entry_bytes}
use Rattle.m17_book.specs.Book.{trace_magic}
use Rattle.m17_text_commands.specs.Moments.{hotspots, entry_moment}
use Rattle.m17_text_commands.specs.Made.{entry_length}
use Rattle.m17_text_commands.specs.Make.{entry_made, entry_heard, entries_of, make_text}
use Rattle.m17_text_commands.specs.Maker.{Evening, IsDrawnFrom}
use Rattle.m17_text_commands.specs.MakeLaws.{MakesATrace, LengthIsByKinds}
use Rattle.m17_text_commands.proofs.Choices.{by_test}
use Rattle.m17_text_commands.proofs.Followed.{entry_fits}
use Rattle.m17_text_commands.proofs.Fits.{fits_entry, length_entry, short_entry}

-- ---- entry by entry

pub make_text_none : (seed : ℕ) → make_text seed 0 ≡ trace_magic
unfolding make_text
make_text_none seed = refl

grown : (xs ys : List ℕ) → trace_magic ++ (xs ++ (ys ++ [])) ≡ (trace_magic ++ xs) ++ ys
grown xs ys = ap (λ (bytes : List ℕ). trace_magic ++ (xs ++ bytes)) (append-nil ys) ∙ sym (append_assoc trace_magic xs ys)

pub make_text_more : (seed j : ℕ) → make_text seed (j + 1) ≡ make_text seed j ++ entry_bytes (entry_heard seed j)
unfolding make_text
make_text_more seed j =
    ap (λ (entries : List Heard). trace_magic ++ flat_map entry_bytes entries) (map-range_with_len_more (entry_heard seed) 0 j j (omega arith))
    ∙ ap (λ (bytes : List ℕ). trace_magic ++ bytes) (flat_map-append entry_bytes (entries_of seed j) (entry_heard seed j ∷ []))
    ∙ grown (flat_map entry_bytes (entries_of seed j)) (entry_bytes (entry_heard seed j))

-- a text is the beginning of each longer one
pub record IsBeginning (a b : List ℕ) : Type 0 where
  pub rest : List ℕ
  pub whole : b ≡ a ++ rest

pub make_text_begins : (seed j k : ℕ) → IsBeginning (make_text seed j) (make_text seed (j + k))
make_text_begins seed j zero = record { rest = []; whole = ap (make_text seed) (add-zero j) ∙ sym (append-nil (make_text seed j)) }
make_text_begins seed j (suc k) =
    let before = make_text_begins seed j k in
    record {
      rest = before.rest ++ entry_bytes (entry_heard seed (j + k));
      whole = ap (make_text seed) (omega arith) ∙ make_text_more seed (j + k)
          ∙ ap (λ (bytes : List ℕ). bytes ++ entry_bytes (entry_heard seed (j + k))) before.whole
          ∙ append_assoc (make_text seed j) before.rest (entry_bytes (entry_heard seed (j + k)));
    }

-- ---- a write that failed

part_of_text : (seed count n : ℕ) (before a b : List ℕ) (after : Option (List ℕ)) → IsBeginning (a ++ b) (make_text seed count)
    → after ≡ Some ((before ++ a) ++ take n b) → AppendsPrefix before (make_text seed count) after
part_of_text seed count n before a b after begins e = (
  length a + min n (length b),
  e ∙ ap Some (append_assoc before a (take n b)
      ∙ ap (λ (bytes : List ℕ). before ++ bytes) (sym (ap (take (length a + min n (length b))) begins.whole ∙ front_goes_into a b begins.rest n))),
)

-- what stands written once j entries are made
abbrev pub HasWritten : ℕ → ℕ → Option (List ℕ) → Option (List ℕ) → Type 0
HasWritten seed j first now = (before : List ℕ) → first ≡ Some before → now ≡ Some (before ++ make_text seed j)

-- what a write that failed left
abbrev pub Fails : List ℕ → Option (List ℕ) → Option (List ℕ) → Type 0
Fails bytes now after = (before : List ℕ) → now ≡ Some before → AppendsPrefix before bytes after

text_begins : (seed j count : ℕ) → j ≤ count → IsBeginning (make_text seed j) (make_text seed count)
text_begins seed j count h = subst (λ (n : ℕ). IsBeginning (make_text seed j) (make_text seed n)) (omega arith) (make_text_begins seed j (count - j))

pub header_failed : (seed count : ℕ) (first after : Option (List ℕ)) → Fails trace_magic first after → Fails (make_text seed count) first after
header_failed seed count first after fails before told =
    let part = fails before told in
    part_of_text seed count part.0 before [] trace_magic after
    (subst (λ (bytes : List ℕ). IsBeginning bytes (make_text seed count)) (make_text_none seed) (text_begins seed 0 count (omega arith)))
    (part.1 ∙ ap (λ (bytes : List ℕ). Some (bytes ++ take part.0 trace_magic)) (sym (append-nil before)))

pub entry_failed : (seed j count : ℕ) (first now after : Option (List ℕ)) → j < count → HasWritten seed j first now
    → Fails (entry_bytes (entry_heard seed j)) now after → Fails (make_text seed count) first after
entry_failed seed j count first now after h has fails before told =
    let part = fails (before ++ make_text seed j) (has before told) in
    part_of_text seed count part.0 before (make_text seed j) (entry_bytes (entry_heard seed j)) after
    (subst (λ (bytes : List ℕ). IsBeginning bytes (make_text seed count)) (make_text_more seed j) (text_begins seed (j + 1) count (omega arith)))
    part.1

pub entry_written : (seed j : ℕ) (first now after : Option (List ℕ)) → HasWritten seed j first now
    → ((before : List ℕ) → now ≡ Some before → after ≡ Some (before ++ entry_bytes (entry_heard seed j))) → HasWritten seed (j + 1) first after
entry_written seed j first now after has ok before told =
    ok (before ++ make_text seed j) (has before told) ∙ ap Some (append_assoc before (make_text seed j) (entry_bytes (entry_heard seed j))
    ∙ ap (λ (bytes : List ℕ). before ++ bytes) (sym (make_text_more seed j)))

-- j entries are made of the evening of this seed, they stand written, and the sink has not failed
pub record IsMaking (seed j : ℕ) (maker : Evening) (first now : Option (List ℕ)) (faults faults' : ℕ) : Type 0 where
  pub entry_is : maker.entry ≡ j
  pub drawn : IsDrawnFrom seed maker
  pub written : HasWritten seed j first now
  pub no_fault : faults' ≡ faults

pub making_first : (seed : ℕ) (maker : Evening) (first now : Option (List ℕ)) (faults faults' : ℕ) → IsDrawnFrom seed maker → maker.entry ≡ 0
    → ((before : List ℕ) → first ≡ Some before → now ≡ Some (before ++ trace_magic)) → faults' ≡ faults → IsMaking seed 0 maker first now faults faults'
making_first seed maker first now faults faults' drawn at ok same = record {
  entry_is = at;
  drawn = drawn;
  written = λ bytes told. ok bytes told ∙ ap (λ (text : List ℕ). Some (bytes ++ text)) (sym (make_text_none seed));
  no_fault = same;
}

pub making_more : (seed j : ℕ) (maker maker' : Evening) (heard : Heard) (first now after_it : Option (List ℕ)) (faults faults' faults'' : ℕ)
    → IsMaking seed j maker first now faults faults' → maker'.entry ≡ maker.entry + 1 → IsDrawnFrom seed maker' → heard ≡ entry_heard seed maker.entry
    → ((before : List ℕ) → now ≡ Some before → after_it ≡ Some (before ++ entry_bytes heard)) → faults'' ≡ faults' → IsMaking seed (j + 1) maker' first after_it faults faults''
making_more seed j maker maker' heard first now after_it faults faults' faults'' making at drawn heard_is ok same = record {
  entry_is = at ∙ ap (λ (n : ℕ). n + 1) making.entry_is;
  drawn = drawn;
  written = entry_written seed j first now after_it making.written
      (λ bytes told. ok bytes told ∙ ap (λ (h : Heard). Some (bytes ++ entry_bytes h)) (heard_is ∙ ap (entry_heard seed) making.entry_is));
  no_fault = same ∙ making.no_fault;
}

pub making_failed : (seed j count : ℕ) (maker : Evening) (heard : Heard) (first now after_it : Option (List ℕ)) (faults faults' : ℕ) → j < count
    → IsMaking seed j maker first now faults faults' → heard ≡ entry_heard seed maker.entry → Fails (entry_bytes heard) now after_it → Fails (make_text seed count) first after_it
making_failed seed j count maker heard first now after_it faults faults' h making heard_is fails =
    entry_failed seed j count first now after_it h making.written
    (subst (λ (h : Heard). Fails (entry_bytes h) now after_it) (heard_is ∙ ap (entry_heard seed) making.entry_is) fails)

-- ---- the length

lengths_from : (seed a n : ℕ) → length (flat_map entry_bytes (map (entry_heard seed) (range_with_len a n)))
    ≡ sum_by (λ j. entry_length (entry_made seed j)) (range_with_len a n)
lengths_from seed a zero = refl
lengths_from seed a (suc n) =
    length-append (entry_bytes (entry_heard seed a)) (flat_map entry_bytes (map (entry_heard seed) (range_with_len (a + 1) n)))
    ∙ ap₂ (λ (x y : ℕ). x + y) (length_entry (entry_moment a) (entry_made seed a)) (lengths_from seed (a + 1) n)
    ∙ sym (sum_by-cons (λ j. entry_length (entry_made seed j)) a (range_with_len (a + 1) n))

pub length_by_kinds : LengthIsByKinds
unfolding make_text
length_by_kinds seed count = length-append trace_magic (flat_map entry_bytes (entries_of seed count)) ∙ ap (λ (n : ℕ). 8 + n) (lengths_from seed 0 count)

at_most_71 : (seed a n : ℕ) → sum_by (λ j. entry_length (entry_made seed j)) (range_with_len a n) ≤ 71 * n
at_most_71 seed a zero = omega arith
at_most_71 seed a (suc n) =
    omega (arith, short_entry (entry_made seed a), at_most_71 seed (a + 1) n, sum_by-cons (λ j. entry_length (entry_made seed j)) a (range_with_len (a + 1) n))

-- ---- a trace

moment_fits : (j : ℕ) → j ≤ 100000 → entry_moment j < 2 ^ 64
moment_fits j h = by_test (λ (at : ℕ). at < 2 ^ 64) (nat_lt j hotspots) _ _ (λ t. omega arith) (λ t. omega arith)

spells_from : (seed a n : ℕ) → a + n ≤ 100000
    → SpellsEach SpellsEntry (map (entry_heard seed) (range_with_len a n)) (flat_map entry_bytes (map (entry_heard seed) (range_with_len a n)))
spells_from seed a zero h = refl
spells_from seed a (suc n) h = (
  entry_bytes (entry_heard seed a),
  flat_map entry_bytes (map (entry_heard seed) (range_with_len (a + 1) n)),
  (fits_entry (entry_moment a) (entry_made seed a) (moment_fits a (omega arith)) (entry_fits seed a), refl),
  spells_from seed (a + 1) n (omega arith),
  refl,
)

pub makes_a_trace : MakesATrace
unfolding make_text
makes_a_trace seed count h = (
  omega (arith, length_by_kinds seed count, at_most_71 seed 0 count),
  entries_of seed count,
  omega (arith, length-map-range_with_len (entry_heard seed) 0 count),
  (flat_map entry_bytes (entries_of seed count), spells_from seed 0 count (omega arith), refl),
  refl,
)
