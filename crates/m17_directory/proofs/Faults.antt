-- The faults that come last in a row, and the 16th of them.
use Rattle.std.proofs.Common.{◌≡◌, ℕ, zero, suc, ◌+◌, ◌-◌, Bool, true, false, cond, ◌&&◌, ◌||◌, leb, List, refl, ap, sym, ◌∙◌, inl, inr, arith}
use Rattle.std.specs.List.{list_all, range_with_len}
use Rattle.std.proofs.lemmas.Bool.{cases_lt, le-leb, lt-leb, and_left}
use Rattle.m17_directory.specs.Entries.{Entry, notice_at, is_fault, is_end, ends_at}
use Rattle.m17_directory.specs.StandsFor.{faults_before}

and_assoc : (x y z : Bool) → (x && (y && z)) ≡ ((x && y) && z)
and_assoc true y z = refl
and_assoc false y z = refl

all_more : (p : ℕ → Bool) (a n : ℕ) → list_all p (range_with_len a (suc n)) ≡ (list_all p (range_with_len a n) && p (a + n))
all_more p a zero =
    let e : a + 0 ≡ a = omega arith in
    elim (p a) as (λ b. (b && true) ≡ b) [ true ↦ refl | false ↦ refl ] ∙ ap p (sym e)
all_more p a (suc n) =
    let e : a + 1 + n ≡ a + suc n = omega arith in
    ap (λ b. p a && b) (all_more p (a + 1) n ∙ ap (λ i. list_all p (range_with_len (a + 1) n) && p i) e)
    ∙ and_assoc (p a) (list_all p (range_with_len (a + 1) n)) (p (a + suc n))

le_suc : (k m : ℕ) → leb (suc k) (suc m) ≡ leb k m
le_suc k m = elim (cases_lt m k) [
  | inl l ↦ lt-leb (suc k) (suc m) (omega arith) ∙ sym (lt-leb k m l)
  | inr l ↦ le-leb (suc k) (suc m) (omega arith) ∙ sym (le-leb k m l)
]

le_counted : (k f : ℕ) (b : Bool) → leb (suc k) (cond b (suc f) 0) ≡ (leb k f && b)
le_counted k f true = le_suc k f ∙ elim (leb k f) as (λ x. x ≡ (x && true)) [ true ↦ refl | false ↦ refl ]
le_counted k f false = lt-leb (suc k) 0 (omega arith) ∙ elim (leb k f) as (λ x. false ≡ (x && false)) [ true ↦ refl | false ↦ refl ]

row_step : (p : ℕ → Bool) (k m : ℕ) → (leb (suc k) (suc m) && list_all p (range_with_len (suc m - suc k) (suc k))) ≡ ((leb k m && list_all p (range_with_len (m - k) k)) && p m)
row_step p k m = elim (cases_lt m k) [
  | inl l ↦
      (let x : leb k m ≡ false = lt-leb k m l in
      and_left (leb (suc k) (suc m)) _ (le_suc k m ∙ x)
      ∙ sym (and_left (leb k m && list_all p (range_with_len (m - k) k)) (p m) (and_left (leb k m) _ x)))
  | inr l ↦
      (let a : suc m - suc k ≡ m - k = omega arith in
      let at : m - k + k ≡ m = omega arith in
      ap (λ b. b && list_all p (range_with_len (suc m - suc k) (suc k))) (le_suc k m)
      ∙ ap (λ i. leb k m && list_all p (range_with_len i (suc k))) a
      ∙ ap (λ b. leb k m && b) (all_more p (m - k) k ∙ ap (λ i. list_all p (range_with_len (m - k) k) && p i) at)
      ∙ and_assoc (leb k m) (list_all p (range_with_len (m - k) k)) (p m))
]

faults_row : (entries : List Entry) (k m : ℕ) → (leb k m && list_all (λ i. is_fault (notice_at entries i)) (range_with_len (m - k) k)) ≡ leb k (faults_before entries m)
faults_row entries zero m =
    ap (λ b. b && true) (le-leb 0 m (omega arith)) ∙ sym (le-leb 0 (faults_before entries m) (omega arith))
faults_row entries (suc k) zero =
    let no : leb (suc k) 0 ≡ false = lt-leb (suc k) 0 (omega arith) in
    and_left (leb (suc k) 0) _ no ∙ sym no
faults_row entries (suc k) (suc m) =
    row_step (λ i. is_fault (notice_at entries i)) k m
    ∙ ap (λ b. b && is_fault (notice_at entries m)) (faults_row entries k m)
    ∙ sym (le_counted k (faults_before entries m) (is_fault (notice_at entries m)))

-- The link ends where the end comes, or the faults so far are 16.
pub ends_is : (entries : List Entry) (n : ℕ) → ends_at entries n ≡ (is_end (notice_at entries n) || leb 16 (faults_before entries (suc n)))
unfolding ends_at
ends_is entries n = ap (λ b. is_end (notice_at entries n) || b) (faults_row entries 16 (suc n))
