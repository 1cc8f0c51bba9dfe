-- What is appended in parts.
use Rattle.std.proofs.Common.{◌≡◌, ℕ, ◌+◌, ◌-◌, List, length, take, drop, Option, subst, sym, ◌∙◌, ap}
use Rattle.std.proofs.Math.Seq.{take-add}
use Rattle.std.proofs.lemmas.List.{take_rest}
use Rattle.std.specs.Io.KnownBytes.{Appends}
use Rattle.std.proofs.KnownBytes.{Appends-trans}

-- the bytes before a place, and then the first of the rest: those before a later place
pub appends-on : (at n later : ℕ) (bytes : List ℕ) (before now after : Option (List ℕ)) → later ≡ at + n
    → Appends before now (take at bytes)
    → Appends now after (take n (take (length bytes - at) (drop at bytes)))
    → Appends before after (take later bytes)
appends-on at n later bytes before now after place so_far more =
    subst (Appends before after) (sym (ap (λ k. take k bytes) place ∙ take-add at n bytes))
    (Appends-trans before now after (take at bytes) (take n (drop at bytes)) so_far
    (subst (λ rest. Appends now after (take n rest)) (take_rest bytes at) more))
