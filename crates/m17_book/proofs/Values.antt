-- The values of verdicts that are not allowed.
use Rattle.std.proofs.Common.{◌≡◌, ℕ, ◌<◌, ◌≤◌, ◌^◌, List, take, drop, refl, sym, ap, ◌∙◌, arith}
use Rattle.std.proofs.lemmas.List.{take_at, drop_at, take_all}
use Rattle.m17_fields.specs.Fields.{be_16, Fields16AreExact}
use Rattle.m17_floor.specs.declared.verdict.Verdict.{Verdict}
use Rattle.m17_floor.specs.declared.verdict.Verdict.TheVariants.{Opened, Continued, Busy, Repeat, Late, AfterEnd, TimedOut, NotMember, ListenOnly}
use Rattle.m17_book.specs.Records.{zeros_10}
use Rattle.m17_book.specs.Parsed.{IsValueOf}

pub no_late : Fields16AreExact → (value : List ℕ) (found : ℕ) → found < 2 ^ 16 → be_16 found ≡ take 2 (drop 10 value)
    → (take 10 value ≡ zeros_10 → 32768 ≤ found) → (verdict : Verdict) → IsValueOf 5 value verdict → ⊥
no_late law value found fits is high Opened h = omega (arith, h.1)
no_late law value found fits is high Continued h = omega (arith, h.1)
no_late law value found fits is high (Busy holder) h = omega (arith, h.1)
no_late law value found fits is high Repeat h = omega (arith, h.1)
no_late law value found fits is high (Late last) h =
    let zeros : take 10 value ≡ zeros_10 = ap (take 10) (sym h.2) ∙ take_at zeros_10 (be_16 last) 10 refl in
    let number : take 2 (drop 10 value) ≡ be_16 last = ap (λ xs. take 2 (drop 10 xs)) (sym h.2) ∙ ap (take 2) (drop_at zeros_10 (be_16 last) 10 refl)
    ∙ take_all 2 (be_16 last) (omega arith) in
    let same : found ≡ last = law.one_number found last fits (omega (arith, h.0)) (is ∙ number) in
    omega (arith, h.0, high zeros)
no_late law value found fits is high AfterEnd h = omega (arith, h.1)
no_late law value found fits is high TimedOut h = omega (arith, h.1)
no_late law value found fits is high NotMember h = omega (arith, h.1)
no_late law value found fits is high ListenOnly h = omega (arith, h.1)
