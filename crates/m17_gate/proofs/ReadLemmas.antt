-- What is read from a source before its text is looked at.
use Rattle.std.proofs.Common.{◌≡◌, ℕ, ◌<◌, ◌≤◌, List, [], length, take, drop, Option, Some, Result, Ok, Err, refl, ap, subst, ◌∙◌, arith}
use Rattle.std.proofs.lemmas.List.{take_all, drop_all, take_at, length-take-le}
use Rattle.m17_io.specs.declared.fault.Fault.{Fault}
use Rattle.m17_io.specs.declared.fault.Fault.TheVariants.{Read, Write}
use Rattle.std.specs.Prelude.{IfOk, IfErr, MatchResult}
use Rattle.m17_io.specs.Faults.{HasCauses, HasRisen}
use Rattle.m17_io.specs.Fill.{IsFilled}
use Rattle.m17_gate.specs.declared.rule.Rule.{Rule}
use Rattle.m17_gate.specs.declared.refusal.RulesRefusal.{RulesRefusal}
use Rattle.m17_gate.specs.declared.refusal.RulesRefusal.TheVariants as refusals
use Rattle.m17_gate.specs.Text.{AreRules, IsRefused}

module _ (bytes : List ℕ) (n : ℕ) (buffer filled : List ℕ) (rest : Option (List ℕ))
    (room : length buffer ≡ 65537)
    (h : IsFilled bytes n buffer filled rest) where
  front_is : take n filled ≡ take n bytes
  front_is = ap (take n) h.front
      ∙ take_at (take n bytes) (drop n buffer) n (length-take-le n bytes h.no_more)

  front_length : length (take n filled) ≡ n
  front_length = ap length front_is ∙ length-take-le n bytes h.no_more

  -- with room left in the buffer it has all that there was
  all_of : length (take n filled) ≤ 65536 → n ≡ length bytes
  all_of small = h.at_end (let size = front_length in omega arith)

  all_read : length (take n filled) ≤ 65536 → take n filled ≡ bytes
  all_read small = front_is ∙ take_all n bytes (let all = all_of small in omega arith)

  pub none_left : (rules : List Rule) → AreRules (take n filled) rules → rest ≡ Some []
  none_left rules are =
      h.rest_left ∙ ap (λ (left : List ℕ). Some left)
      (drop_all n bytes (let all = all_of are.not_large in omega arith))

  pub rules_read : (rules : List Rule) → AreRules (take n filled) rules → AreRules bytes rules
  rules_read rules are = subst (λ (text : List ℕ). AreRules text rules) (all_read are.not_large) are

  pub refused_read : (refusal : RulesRefusal) → IsRefused (take n filled) refusal
      → IsRefused bytes refusal
  refused_read (refusals.Large place) is =
      (let size = front_length in let more = h.no_more in let large = is.0 in omega arith, is.1)
  refused_read (refusals.Line number reason) is =
      subst (λ (text : List ℕ). IsRefused text (refusals.Line number reason)) (all_read is.0) is
  refused_read refusals.ReadFault is = is
  refused_read refusals.NoMemory is = is

-- the same of whatever was left to read, by what came of it
module _ (n : ℕ) (buffer filled : List ℕ) (before rest : Option (List ℕ))
    (room : length buffer ≡ 65537)
    (fills : (bytes : List ℕ) → before ≡ Some bytes → IsFilled bytes n buffer filled rest) where
  pub read_ok : (result : Result (List Rule) RulesRefusal)
      → MatchResult result (AreRules (take n filled)) (IsRefused (take n filled))
      → IfOk result (λ rules. (text : List ℕ) → before ≡ Some text → AreRules text rules)
  read_ok (Ok rules) are = λ text told. rules_read text n buffer filled rest room (fills text told)
      rules are
  read_ok (Err refusal) is = tt

  pub read_end : (result : Result (List Rule) RulesRefusal)
      → MatchResult result (AreRules (take n filled)) (IsRefused (take n filled))
      → IfOk result (λ _. (text : List ℕ) → before ≡ Some text → rest ≡ Some [])
  read_end (Ok rules) are = λ text told. none_left text n buffer filled rest room (fills text told)
      rules are
  read_end (Err refusal) is = tt

  pub read_err : (result : Result (List Rule) RulesRefusal)
      → MatchResult result (AreRules (take n filled)) (IsRefused (take n filled))
      → IfErr result (λ refusal. (text : List ℕ) → before ≡ Some text → IsRefused text refusal)
  read_err (Ok rules) are = tt
  read_err (Err refusal) is = λ text told. refused_read text n buffer filled rest room
      (fills text told) refusal is

-- a sink that never fails is not what failed
pub risen : (before after : ℕ) (fault : Fault) → HasCauses (before, 0) (after, 0) (Some fault)
    → HasRisen before after
risen before after Read causes = causes.read_failed refl
risen before after Write causes = let h = causes.write_failed refl in absurd (omega (arith, h))

pub large_refused : (room : List ℕ) (have : ℕ) → 65536 < have → have ≤ length room
    → IsRefused (take have room) (refusals.Large 65536)
large_refused room have large within =
    (let size = length-take-le have room within in omega arith, refl)
