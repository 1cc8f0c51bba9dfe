-- How long the socket of an ear waits for a datagram.
use Rattle.std.specs.Prelude.{◌≡◌, ℕ, ◌+◌, ◌≤◌, Bool, true, false, List, [], ◌∷◌, Option, None, Some, ◌↔◌}
use Rattle.m17_values.specs.declared.heard.Heard.{Heard}
use Rattle.m17_values.specs.declared.heard.Heard.TheVariants as heard
use Rattle.m17_ports.specs.Told.{told_then}
use Rattle.m17_net.specs.Devices.{EarKept, IsDone}

-- Nobody is there: no datagram came for 40 seconds, or none ever.
abbrev pub IsAlone : Option ℕ → ℕ → Type 0
IsAlone None last = Unit {0}
IsAlone (Some came) last = came + 40_000 ≤ last

-- An ear that ends at a moment, or never, has 10 seconds left or more.
abbrev pub IsEarly : Option ℕ → ℕ → Type 0
IsEarly None last = Unit {0}
IsEarly (Some until) last = last + 10_000 ≤ until

-- The ear waits long: it may, nobody is there, and its end is far off.
abbrev pub WaitsLong : {C W : Type 0} → EarKept C W → Type 0
WaitsLong ear = (ear.rests ≡ true) × IsAlone ear.came ear.last × IsEarly ear.until ear.last

-- a long wait, in milliseconds: 5 seconds, or 1 where something may stop the ear
abbrev pub long_wait : Bool → ℕ
long_wait false = 5_000
long_wait true = 1_000

-- what a socket is told that waited long, or not, and now is to wait long, or not, where that changes; else 20 ms
abbrev pub wait_told : Bool → Bool → Bool → List ℕ
wait_told stops false true = long_wait stops ∷ []
wait_told stops true false = 20 ∷ []
wait_told stops false false = []
wait_told stops true true = []

-- the moment of the last datagram, once this was heard
abbrev pub last_came : Heard → Option ℕ → Option ℕ
last_came (heard.Datagram from at bytes) came = Some at
last_came (heard.Quiet at) came = came
last_came heard.Fault came = came
last_came heard.End came = came

-- What an ear has its socket wait at one call: the ear and the waits that the socket was told before it, what is answered,
-- and both behind it.
pub record ChoosesWait {C W : Type 0} (before : EarKept C W) (told : Option (List ℕ)) (answer : Heard)
    (after : EarKept C W) (told_after : Option (List ℕ)) : Type 0 where
  -- at each call anew, by what it had heard before
  pub chosen : ¬ (IsDone before.until after.stop.seen before.last)
      → (after.long ≡ true ↔ WaitsLong before)
  -- the socket is told where that changes, and at no other time
  pub told_so : told_after ≡ told_then told (wait_told before.stop.there before.long after.long)
  pub over : IsDone before.until after.stop.seen before.last → after.long ≡ before.long
  pub last_came : after.came ≡ last_came answer before.came
  pub same_rests : after.rests ≡ before.rests
