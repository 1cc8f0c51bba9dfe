-- An ear behind a guard follows the script of the ear, behind the guard. For proofs alone.
use Rattle.std.specs.Prelude.{◌≡◌, ℕ, Bool, true, false, List, replicate, take, Option, None, Some, option_map}
use Rattle.std.proofs.Common.{zero, suc, [], ◌∷◌, ◌++◌, refl, sym, ap, subst, ◌∙◌, inl, inr}
use Rattle.m17_values.specs.declared.heard.Heard.{Heard}
use Rattle.m17_values.specs.declared.heard.Heard.TheVariants.{End}
use Rattle.m17_ports.specs.Ear.{FollowsScript}
use Rattle.m17_ports.specs.Marks.{EarMark, script_of}
use Rattle.m17_ports.specs.Untold.{follows_none, nothing_told}
use Rattle.m17_decorators.specs.Guarded.{guarded, guarded_entry, guarded_after, guarded_mark}

option_value : {A : Type 0} (x y : A) → Some x ≡ Some y → x ≡ y
option_value x y e = cc

-- the past after these entries
abbrev pub past_then : List Heard → List Heard → List Heard
past_then past [] = past
past_then past (entry ∷ entries) = past_then (entry ∷ past) entries

pub guarded-append : (past xs ys : List Heard) → guarded_after past (xs ++ ys)
    ≡ guarded_after past xs ++ guarded_after (past_then past xs) ys
guarded-append past [] ys = refl
guarded-append past (x ∷ xs) ys =
    ap (λ (rest : List Heard). guarded_entry past x ∷ rest) (guarded-append (x ∷ past) xs ys)

pub guarded-ends : (past : List Heard) (n : ℕ)
    → guarded_after past (replicate n End) ≡ replicate n End
guarded-ends past zero = refl
guarded-ends past (suc n) = ap (λ (rest : List Heard). End ∷ rest) (guarded-ends (End ∷ past) n)

guarded-take : (past xs : List Heard) (n : ℕ)
    → guarded_after past (take n xs) ≡ take n (guarded_after past xs)
guarded-take past xs zero = refl
guarded-take past [] (suc n) = refl
guarded-take past (x ∷ xs) (suc n) =
    ap (λ (rest : List Heard). guarded_entry past x ∷ rest) (guarded-take (x ∷ past) xs n)

guarded-script : (is_on : Bool) (script entries : List Heard) → FollowsScript script entries
    → FollowsScript (guarded is_on script) (guarded is_on entries)
guarded-script false script entries follows = follows
guarded-script true script entries (inl front) = inl (
  front.0,
  ap (guarded true) front.1 ∙ guarded-take [] script front.0,
)
guarded-script true script entries (inr ends) = inr (
  ends.0,
  ap (guarded true) ends.1 ∙ guarded-append [] script (replicate ends.0 End)
      ∙ ap (λ (rest : List Heard). guarded true script ++ rest)
      (guarded-ends (past_then [] script) ends.0),
)

guarded-follows : (is_on : Bool) (own told : Option (List Heard))
    → ((script entries : List Heard) → own ≡ Some script → told ≡ Some entries
    → FollowsScript script entries)
    → (script entries : List Heard) → option_map (guarded is_on) own ≡ Some script
    → option_map (guarded is_on) told ≡ Some entries → FollowsScript script entries
guarded-follows is_on None told follows script entries is said = follows_none script entries is
guarded-follows is_on (Some own) None follows script entries is said = absurd
    (nothing_told entries said)
guarded-follows is_on (Some own) (Some told) follows script entries is said =
    subst (λ (s : List Heard). FollowsScript s entries)
    (option_value (guarded is_on own) script is)
    (subst (λ (e : List Heard). FollowsScript (guarded is_on own) e)
    (option_value (guarded is_on told) entries said)
    (guarded-script is_on own told (follows own told refl refl)))

pub guard-follows : (is_on : Bool) (mark : Option EarMark) (told : Option (List Heard))
    → ((script entries : List Heard) → script_of mark ≡ Some script → told ≡ Some entries
    → FollowsScript script entries)
    → (script entries : List Heard) → script_of (guarded_mark is_on mark) ≡ Some script
    → option_map (guarded is_on) told ≡ Some entries → FollowsScript script entries
guard-follows is_on None told follows script entries is said = follows_none script entries is
guard-follows is_on (Some mark) told follows script entries is said =
    guarded-follows is_on mark.script told follows script entries is said
