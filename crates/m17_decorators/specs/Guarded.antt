-- What an ear behind a guard tells.
use Rattle.std.specs.Prelude.{◌≡◌, ℕ, Bool, true, false, List, [], ◌∷◌, ◌++◌, replicate, take, Option, None, Some, option_map, if◌then◌else◌}
use Rattle.m17_values.specs.declared.heard.Heard.{Heard}
use Rattle.m17_values.specs.declared.heard.Heard.TheVariants.{Datagram, Quiet, Fault, End}
use Rattle.m17_ports.specs.Ear.{EarTold}
use Rattle.m17_ports.specs.Marks.{EarMark}
use Rattle.m17_decorators.specs.declared.guarded.GuardLabel.{GuardLabel}
use Rattle.m17_decorators.specs.Echo.{is_echo}

-- In place of an echo nothing is heard until its moment; all else is heard as it is. `past` is what
-- was heard before, the latest entry first.
abbrev pub guarded_entry : List Heard → Heard → Heard
guarded_entry past (Datagram from at bytes) =
    if is_echo past from at bytes then Quiet at else Datagram from at bytes
guarded_entry past (Quiet at) = Quiet at
guarded_entry past Fault = Fault
guarded_entry past End = End

-- These entries, each by what was heard before it.
abbrev pub guarded_after : List Heard → List Heard → List Heard
guarded_after past [] = []
guarded_after past (entry ∷ entries) =
    guarded_entry past entry ∷ guarded_after (entry ∷ past) entries

-- All that was heard, behind a guard that is on; without one it is as it was.
abbrev pub guarded : Bool → List Heard → List Heard
guarded true entries = guarded_after [] entries
guarded false entries = entries

-- An ear behind a guard: the ear, and whether the guard is on.
pub record GuardSeen (E : Type 0) : Type 0 where
  pub inner : E
  pub is_on : Bool

-- the inner ear's mark, with its script behind the guard
abbrev pub guarded_mark : Bool → Option EarMark → Option EarMark
guarded_mark is_on None = None
guarded_mark is_on (Some mark) =
    Some (record { number = mark.number; script = option_map (guarded is_on) mark.script })

-- What an ear behind a guard tells: what the inner one does, behind the guard, and the inner one's
-- faults. Its label says whether the guard is on, and which ear is behind it.
abbrev pub guard_told : {E L : Type 0} → (E → EarTold L) → GuardSeen E → EarTold (GuardLabel L)
guard_told told guard = record {
  heard = option_map (guarded guard.is_on) (told guard.inner).heard;
  faults = (told guard.inner).faults;
  device = record {
    mark = guarded_mark guard.is_on (told guard.inner).device.mark;
    label = record { is_on = guard.is_on; inner = (told guard.inner).device.label };
  };
}
