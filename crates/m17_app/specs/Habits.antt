-- What the words of a command say of the ports of a machine.
use Rattle.std.specs.Prelude.{◌≡◌, ◌⊎◌, ℕ, ◌+◌, ◌++◌, Bool, true, false, List, length, Option, None, Some, is_some, codes, string_bytes, vec_len}
use Rattle.std.specs.Option.{option_map}
use Rattle.m17_control.specs.Modules.{letters_of}
use Rattle.m17_net.specs.Devices.{PortsKept}
use Rattle.m17_words.specs.declared.command.Command.{Command}
use Rattle.m17_words.specs.declared.command.Command.TheVariants.{Judge, Show, Replay, Make, Check, Migrate, Talk, Serve, Bridge}
use Rattle.m17_words.specs.declared.order.ServeOrder.{ServeOrder}
use Rattle.m17_words.specs.Words.{Names}
use Rattle.m17_app.specs.declared.habits.Habits.{Habits}
use Rattle.m17_app.specs.Run.{AreRefused}

-- one where there is such a thing
abbrev pub one_if : {A : Type 0} → Option A → ℕ
one_if None = 0
one_if (Some x) = 1

-- the traces and books of a reflector: where it has a folder, one of each link and one of each module
abbrev pub kept_in : {A : Type 0} → Option A → ServeOrder → ℕ
kept_in None order = 0
kept_in (Some folder) order = vec_len order.binds + length (letters_of order.modules)

-- how many traces and books a command keeps, the book of a board too
abbrev pub kept_by : Command → ℕ
kept_by (Talk order) = one_if order.book
kept_by (Serve order) = kept_in order.book order + one_if order.board
kept_by _ = 0

-- whether its ears may wait long where nobody is there: those of `serve`, each of which has a thread of its own
abbrev pub may_rest : Command → Bool
may_rest (Serve order) = true
may_rest _ = false

-- the file that it locks: `lock` in the folder of a reflector's traces and books
abbrev pub lock_of : Command → Option (List ℕ)
lock_of (Serve order) = option_map (λ folder. string_bytes folder ++ codes "/lock") order.book
lock_of _ = None

-- the file whose end stops its ears
abbrev pub stop_of : Command → Option (List ℕ)
stop_of (Serve order) = option_map string_bytes order.stop
stop_of (Bridge order) = option_map string_bytes order.stop
stop_of _ = None

-- These are the habits of this command.
pub record AreOf (command : Command) (habits : Habits) : Type 0 where
  pub rests : habits.rests ≡ may_rest command
  pub books : habits.books ≡ kept_by command
  pub lock : option_map string_bytes habits.lock ≡ lock_of command
  pub stop : option_map string_bytes habits.stop ≡ stop_of command

-- These are the habits of the command that the words name, or they name none, which keeps nothing.
abbrev pub AreHabits : List (List ℕ) → Habits → Type 0
AreHabits words habits = ((command : Command) × Names words command × AreOf command habits)
    ⊎ (AreRefused words × (habits.books ≡ 0))

-- The ports of a machine rest, stop and lock as the habits of these words say.
pub record AreWanted (words : List (List ℕ)) (ports : PortsKept) : Type 0 where
  pub habits : Habits
  pub are : AreHabits words habits
  pub rests : ports.rests ≡ habits.rests
  pub stops : ports.stops ≡ is_some habits.stop
  pub locks : ports.locks ≡ is_some habits.lock

-- So many traces and books are kept by the command that the words name, and none where they name none.
abbrev pub Keep : List (List ℕ) → ℕ → Type 0
Keep words books = ((command : Command) × Names words command × (books ≡ kept_by command))
    ⊎ (AreRefused words × (books ≡ 0))
