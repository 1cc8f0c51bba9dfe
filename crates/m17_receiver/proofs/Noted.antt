-- Notes, one after another.
use Rattle.std.proofs.Common.{◌≡◌, ◌==◌, ◌&&◌, ◌||◌, ◌⊎◌, ℕ, zero, suc, ◌+◌, ◌-◌, ◌<◌, ◌^◌, min, false, List, [], ◌∷◌, ◌++◌, length, get_or, filter, not, Bool, true, cond, Contains, refl, ap, sym, subst, ◌∙◌, inl, inr, arith}
use Rattle.std.specs.List.{list_any}
use Rattle.std.proofs.lemmas.Bool.{and_parts, eqb-true, false≢true}
use Rattle.std.proofs.lemmas.List.{append-nil, append_assoc, length-append}
use Rattle.std.proofs.lemmas.List.Elements.{Contains-append_right}
use Rattle.std.proofs.lemmas.List.Folds.{list_any-append}
use Rattle.m17_lists.proofs.Tests.{or_false_is_itself}
use Rattle.m17_values.specs.declared.member.Member.{Member}
use Rattle.m17_lane.specs.Ends.{PopEnd}
use Rattle.m17_lane.specs.Rows.{pops}
use Rattle.m17_directory.specs.declared.known.Departed.{Departed}
use Rattle.m17_directory.specs.Entries.{Entry}
use Rattle.m17_directory.specs.StandsFor.{DirectoryKept, StandsFor, must_wait, is_member, without_member}
use Rattle.m17_receiver.specs.SoFar.{HasNoted, HasNotedSome, without_noted}

-- what stands in a list is its first, or stands in the rest
cons_by : (x d : Departed) (ds : List Departed) (k : ℕ) → k < length (x ∷ ds) → get_or (x ∷ ds) k d ≡ d → (x ≡ d) ⊎ Contains ds d
cons_by x d ds zero l is = inl is
cons_by x d ds (suc k) l is = inr (k, omega arith, is)

is_the_member : (m : Member) (d : Departed) → is_member m d ≡ true → m ≡ d.member
is_the_member m d is =
    let parts = and_parts (d.member.place == m.place) (d.member.generation == m.generation) is in
    ap (λ (q : ℕ). let k : Member = record { place = q; generation = m.generation } in k) (sym (eqb-true d.member.place m.place parts.0))
    ∙ ap (λ (g : ℕ). let k : Member = record { place = d.member.place; generation = g } in k) (sym (eqb-true d.member.generation m.generation parts.1))

-- who is named among notes
named_by : (m : Member) (ms : List Member) (d : Departed) (b : Bool) → is_member m d ≡ b → (b || list_any (λ k. is_member k d) ms) ≡ true →
    (list_any (λ k. is_member k d) ms ≡ true → Contains ms d.member) → Contains (m ∷ ms) d.member
named_by m ms d true is some more = (0, omega arith, is_the_member m d is)
named_by m ms d false is some more = Contains-append_right (m ∷ []) ms d.member (more some)

named : (notes : List Member) (d : Departed) → list_any (λ m. is_member m d) notes ≡ true → Contains notes d.member
named [] d some = absurd (false≢true some)
named (m ∷ ms) d some = named_by m ms d (is_member m d) refl some (named ms d)

first_kept : (notes : List Member) (d : Departed) (ds : List Departed) (b : Bool) → list_any (λ m. is_member m d) notes ≡ b → Contains (cond (not b) (d ∷ ds) ds) d ⊎ Contains notes d.member
first_kept notes d ds true is = inr (named notes d is)
first_kept notes d ds false is = inl (0, omega arith, refl)

more_kept : (x d : Departed) (ds : List Departed) (b : Bool) → Contains ds d → Contains (cond b (x ∷ ds) ds) d
more_kept x d ds true h = Contains-append_right (x ∷ []) ds d h
more_kept x d ds false h = h

-- one that departs still does, or is a member that was noted
kept_or_noted : (notes : List Member) (ds : List Departed) (d : Departed) → Contains ds d → Contains (without_noted notes ds) d ⊎ Contains notes d.member
kept_or_noted notes [] d h = absurd (omega (arith, h.1))
kept_or_noted notes (x ∷ ds) d h = elim (cons_by x d ds h.0 h.1 h.2) [
  | inl same ↦ subst (λ y. Contains (without_noted notes (x ∷ ds)) y ⊎ Contains notes y.member) same
      (first_kept notes x (without_noted notes ds) (list_any (λ m. is_member m x) notes) refl)
  | inr more ↦ elim (kept_or_noted notes ds d more) [
    | inl kept ↦ inl (more_kept x d (without_noted notes ds) (not (list_any (λ m. is_member m x) notes)) kept)
    | inr noted ↦ inr noted
  ]
]

pub noted_left : (notes : List Member) (old new : DirectoryKept) (n n' : ℕ) → HasNoted notes (old, n) (new, n') →
    (d : Departed) → Contains old.departing d → Contains new.departing d ⊎ Contains notes d.member
noted_left notes old new n n' noted d in_it =
    subst (λ (ds : List Departed). Contains ds d ⊎ Contains notes d.member) (sym (ap (λ (k : DirectoryKept). k.departing) noted.same))
    (kept_or_noted notes old.departing d in_it)

-- without the noted, one note after another
same_filter : (p q : Departed → Bool) → ((d : Departed) → p d ≡ q d) → (ds : List Departed) → filter p ds ≡ filter q ds
same_filter p q same [] = refl
same_filter p q same (d ∷ ds) =
    ap (λ b. cond b (d ∷ filter p ds) (filter p ds)) (same d) ∙ ap (λ l. cond (q d) (d ∷ l) l) (same_filter p q same ds)

filter_first : (q : Departed → Bool) (d : Departed) (ds : List Departed) (b : Bool) → filter q (cond b (d ∷ ds) ds) ≡ cond (b && q d) (d ∷ filter q ds) (filter q ds)
filter_first q d ds true = refl
filter_first q d ds false = refl

filter_twice : (p q : Departed → Bool) (ds : List Departed) → filter q (filter p ds) ≡ filter (λ d. p d && q d) ds
filter_twice p q [] = refl
filter_twice p q (d ∷ ds) = filter_first q d (filter p ds) (p d) ∙ ap (λ l. cond (p d && q d) (d ∷ l) l) (filter_twice p q ds)

not_either : (a b : Bool) → not (a || b) ≡ (not a && not b)
not_either true b = refl
not_either false b = refl

without_none : (ds : List Departed) → without_noted [] ds ≡ ds
without_none [] = refl
without_none (d ∷ ds) = ap (λ l. d ∷ l) (without_none ds)

without_one : (m : Member) (ds : List Departed) → without_noted (m ∷ []) ds ≡ without_member m ds
without_one m ds =
    same_filter (λ d. not (list_any (λ k. is_member k d) (m ∷ []))) (λ d. not (is_member m d)) (λ d. ap not (or_false_is_itself (is_member m d))) ds

without_both : (a b : List Member) (ds : List Departed) → without_noted (a ++ b) ds ≡ without_noted b (without_noted a ds)
without_both a b ds =
    same_filter (λ d. not (list_any (λ m. is_member m d) (a ++ b))) (λ d. not (list_any (λ m. is_member m d) a) && not (list_any (λ m. is_member m d) b))
    (λ d. ap not (list_any-append (λ m. is_member m d) a b) ∙ not_either (list_any (λ m. is_member m d) a) (list_any (λ m. is_member m d) b)) ds
    ∙ sym (filter_twice (λ d. not (list_any (λ m. is_member m d) a)) (λ d. not (list_any (λ m. is_member m d) b)) ds)

pub noted_one : (m : Member) (old new : DirectoryKept) (noted noted' : ℕ) → new ≡ record old { departing = without_member m old.departing } →
    (must_wait old ≡ false → must_wait new ≡ false) → noted' ≡ min (noted + 1) (2 ^ 64 - 1) → HasNoted (m ∷ []) (old, noted) (new, noted')
noted_one m old new noted noted' is waits count = record {
  same = is ∙ ap (λ (ds : List Departed). record old { departing = ds }) (sym (without_one m old.departing));
  waits = waits;
  count = λ n was. omega (arith, count, was);
}

pub noted_nothing : (notes : PopEnd Member) (directory : DirectoryKept) (noted : ℕ) → HasNotedSome (notes, directory, noted) (notes, directory, noted)
noted_nothing notes directory noted = (
  [],
  ap (λ (ms : List Member). record notes { popped = ms }) (sym (append-nil notes.popped)),
  record {
    same = ap (λ (ds : List Departed). record directory { departing = ds }) (sym (without_none directory.departing));
    waits = λ w. w;
    count = λ n was. omega (arith, was);
  },
)

noted_both : (a b : List Member) (d d' d'' : DirectoryKept) (n n' n'' : ℕ) → HasNoted a (d, n) (d', n') → HasNoted b (d', n') (d'', n'') → HasNoted (a ++ b) (d, n) (d'', n'')
noted_both a b d d' d'' n n' n'' first second = record {
  same = second.same ∙ ap (λ (k : DirectoryKept). record k { departing = without_noted b k.departing }) first.same
      ∙ ap (λ (ds : List Departed). record d { departing = ds }) (sym (without_both a b d.departing));
  waits = λ w. second.waits (first.waits w);
  count = λ m was. (let e : n'' ≡ min (m + length a + length b) (2 ^ 64 - 1) = second.count (m + length a) (first.count m was) in omega (arith, e, length-append a b));
}

-- some, and then more
pub noted_then : (p p' p'' : PopEnd Member) (d d' d'' : DirectoryKept) (n n' n'' : ℕ) → HasNotedSome (p, d, n) (p', d', n') → HasNotedSome (p', d', n') (p'', d'', n'') → HasNotedSome (p, d, n) (p'', d'', n'')
noted_then p p' p'' d d' d'' n n' n'' first second = (
  first.0 ++ second.0,
  second.1 ∙ ap (λ (q : PopEnd Member). pops q second.0) first.1 ∙ ap (λ (ms : List Member). record p { popped = ms }) (append_assoc p.popped first.0 second.0),
  noted_both first.0 second.0 d d' d'' n n' n'' first.2 second.2,
)

-- one that was popped
pub noted_popped : (p p' : PopEnd Member) (d d' : DirectoryKept) (n n' : ℕ) (m : Member) → p' ≡ pops p (m ∷ []) → HasNoted (m ∷ []) (d, n) (d', n') → HasNotedSome (p, d, n) (p', d', n')
noted_popped p p' d d' n n' m popped noted = (m ∷ [], popped, noted)

-- what the directory may have come from stays
pub noted_stands : (notes : List Member) (d d' : DirectoryKept) (n n' : ℕ) (entries : List Entry) → HasNoted notes (d, n) (d', n') → StandsFor d entries → StandsFor d' entries
noted_stands notes d d' n n' entries noted was =
    subst (λ (k : DirectoryKept). StandsFor k entries) (sym noted.same) (record { moment = was.moment; known = was.known; asked = was.asked; faults = was.faults })
