-- What an ear that fails where it is told to answers.
use Rattle.std.specs.Prelude.{◌≡◌, ◌≢◌, ◌⊎◌, ℕ, Bool, true, false, ◌+◌, ◌-◌, ◌^◌, ◌<◌, ◌≤◌, min, List, [], ◌∷◌, ◌++◌, length, replicate, slice_index_or, nat_eq, if◌then◌else◌, Option, option_map, None, Some}
use Rattle.std.specs.List.{list_any}
use Rattle.std.proofs.Common.{zero, suc}
use Rattle.m17_values.specs.declared.heard.Heard.{Heard}
use Rattle.m17_values.specs.declared.heard.Heard.TheVariants.{Fault, End}
use Rattle.m17_io.specs.Faults.{HasRisen}
use Rattle.m17_ports.specs.Told.{told_then}
use Rattle.m17_ports.specs.Ports.{next_number}
use Rattle.m17_ports.specs.Marks.{EarMark, script_of}
use Rattle.m17_ports.specs.Ear.{EarTold, FollowsScript}
use Rattle.m17_ports.specs.Untold.{follows_none}

-- An ear over another one: the inner ear, the numbers of the calls that are to fail, how many calls were answered and how
-- many behind the last of them that is counted, and how many of them were told to fail.
pub record FaultyKept (E : Type 0) : Type 0 where
  pub inner : E
  pub fails : List ℕ
  pub calls : ℕ
  pub ends : ℕ
  pub faults : ℕ

-- an ear of which nothing was heard
abbrev pub new_ear : {E : Type 0} → E → List ℕ → FaultyKept E
new_ear ear numbers =
    record { inner = ear; fails = numbers; calls = 0; ends = 0; faults = 0 }

-- Whether call n is one of those that are to fail.
abbrev pub is_listed : List ℕ → ℕ → Bool
is_listed fails n = list_any (λ number. nat_eq number n) fails

-- How many of the first n calls are to fail: these leave the inner ear alone.
abbrev pub listed_below : List ℕ → ℕ → ℕ
listed_below fails zero = 0
listed_below fails (suc n) = listed_below fails n + (if is_listed fails n then 1 else 0)

-- The answer of call n: a Fault where it is listed, and else the next of what the inner ear says.
abbrev pub answer_at : List ℕ → List Heard → ℕ → Heard
answer_at fails inner n =
    if is_listed fails n then Fault else slice_index_or inner (n - listed_below fails n) End

-- The answers of the first n calls.
abbrev pub answers_of : List ℕ → List Heard → ℕ → List Heard
answers_of fails inner zero = []
answers_of fails inner (suc n) = answers_of fails inner n ++ answer_at fails inner n ∷ []

-- What is told of this number of calls, and of the Ends behind them, where the inner ear tells what it said.
abbrev pub answers_told : List ℕ → ℕ → ℕ → Option (List Heard) → Option (List Heard)
answers_told fails calls ends inner =
    option_map (λ said. answers_of fails said calls ++ replicate ends End) inner

-- the mark of an ear over another one: the inner one's number, and no script
abbrev pub unscripted : Option EarMark → Option EarMark
unscripted None = None
unscripted (Some mark) = Some (record { number = mark.number; script = None })

-- What an ear over another one tells: the list of its answers, where the inner one tells its own; how often it failed, where
-- it was told to and where the inner one did, counted to 2^64 - 1; and that it is the inner one, without a script.
abbrev pub faulty_told : {E L : Type 0} → (E → EarTold L) → FaultyKept E → EarTold L
faulty_told told ear = record {
  heard = answers_told ear.fails ear.calls ear.ends (told ear.inner).heard;
  faults = min (ear.faults + (told ear.inner).faults) (2 ^ 64 - 1);
  device = record {
    mark = unscripted (told ear.inner).device.mark;
    label = (told ear.inner).device.label;
  };
}

-- Each call that was not to fail heard the inner ear, once.
abbrev pub IsInStep : List ℕ → ℕ → Option (List Heard) → Type 0
IsInStep fails calls inner = (said : List Heard) → inner ≡ Some said
    → length said + listed_below fails calls ≡ calls

-- A call that is listed: a Fault, and the inner ear is left alone.
pub record IsToldToFail {E : Type 0} (old : FaultyKept E) (answer : Heard) (new : FaultyKept E) : Type 0 where
  pub listed : is_listed old.fails old.calls ≡ true
  pub answer_is : answer ≡ Fault
  pub after : new ≡ record old { calls = old.calls + 1; faults = next_number old.faults }

-- A call that is not listed is the inner ear's: what that one says is the answer.
pub record IsPassedOn {E L : Type 0} (told : E → EarTold L) (old : FaultyKept E) (answer : Heard)
    (new : FaultyKept E) : Type 0 where
  pub unlisted : is_listed old.fails old.calls ≡ false
  pub after : new ≡ record old { inner = new.inner; calls = old.calls + 1 }
  pub said : (told new.inner).heard ≡ told_then (told old.inner).heard (answer ∷ [])
  pub counted : (told old.inner).faults ≤ (told new.inner).faults
  pub fault : answer ≡ Fault → HasRisen (told old.inner).faults (told new.inner).faults
  pub no_fault : answer ≢ Fault → (told new.inner).faults ≡ (told old.inner).faults
  pub same_device : (told new.inner).device ≡ (told old.inner).device

-- A call behind the last one that has a number: an End, and the inner ear is left alone.
pub record IsOver {E : Type 0} (old : FaultyKept E) (answer : Heard) (new : FaultyKept E) : Type 0 where
  pub answer_is : answer ≡ End
  pub after : new ≡ record old { ends = next_number old.ends }

-- One more call: the calls below 2^64 - 1 by the list, and those behind them Ends.
pub record IsAnswered {E L : Type 0} (told : E → EarTold L) (old : FaultyKept E) (answer : Heard)
    (new : FaultyKept E) : Type 0 where
  pub numbered : old.calls < 2 ^ 64 - 1
      → IsToldToFail old answer new ⊎ IsPassedOn told old answer new
  pub past : 2 ^ 64 - 1 ≤ old.calls → IsOver old answer new

-- An ear that tells no script follows each.
pub unscripted-follows : (mark : Option EarMark) (told : Option (List Heard)) (script entries : List Heard)
    → script_of (unscripted mark) ≡ Some script → told ≡ Some entries → FollowsScript script entries
unscripted-follows None told script entries is said = follows_none script entries is
unscripted-follows (Some mark) told script entries is said = follows_none script entries is
