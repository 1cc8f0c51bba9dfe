-- Words that name a board, and what comes back of a run whose words name none.
use Rattle.std.proofs.Common.{◌≡◌, ℕ, List, Option, None, Some, refl, inl, inr}
use Rattle.std.specs.Prelude.{IsSome, string_bytes}
use Rattle.std.specs.Option.{option_map}
use Rattle.m17_words.specs.declared.command.Command.{Command}
use Rattle.m17_words.specs.declared.command.Command.TheVariants.{Judge, Show, Replay, Make, Check, Migrate, Talk, Serve, Bridge}
use Rattle.m17_words.specs.Laws.{SameCommand}
use Rattle.m17_app.specs.declared.status.Status.{Status}
use Rattle.m17_app.specs.Commands.{HasBoard, LeavesAlone, NameNoBoard, RunsWords}
use Rattle.m17_app.specs.Doing.{Doing}
use Rattle.m17_app.specs.Status.{Streams}

-- a text is there where its bytes are
there : {A C : Type 0} (f : A → C) (a b : Option A) → option_map f b ≡ option_map f a → IsSome a → IsSome b
there f (Some x) (Some y) same is = refl
there f (Some x) None same is = absurd (let e = same in cc)
there f None b same is = absurd (let e = is in cc)

none_there : {A : Type 0} (a : Option A) → (IsSome a → ⊥) → a ≡ None
none_there None never = refl
none_there (Some x) never = absurd (never refl)

pub none_back : {A C : Type 0} (f : A → C) (a : Option A) → option_map f a ≡ None → a ≡ None
none_back f None is = refl
none_back f (Some x) is = absurd (let e = is in cc)

-- words name one command, so they name a board by each or by none
pub same_board : (one other : Command) → SameCommand one other → HasBoard one → HasBoard other
same_board (Serve order) (Serve order') same has = there string_bytes order.board order'.board same.board has
same_board (Serve order) other same has = absurd same
same_board one other same has = absurd has

module _ {E M B : Type 0} where
  left_alone : (command : Command) (run : Doing E M B) → LeavesAlone command run → (HasBoard command → ⊥) → run.board ≡ None
  left_alone Judge run alone never = alone.serve.board
  left_alone Show run alone never = alone.serve.board
  left_alone (Make seed count) run alone never = alone.serve.board
  left_alone Check run alone never = alone.serve.board
  left_alone Migrate run alone never = alone.serve.board
  left_alone (Replay call modules parrots places summary limit threads) run alone never = alone.board
  left_alone (Talk order) run alone never = alone.0.board
  left_alone (Serve order) run alone never = alone.2 (none_there order.board never)
  left_alone (Bridge order) run alone never = alone.0.board

  -- no book of a board comes back of a run whose words name none
  pub no_board : (words : List (List ℕ)) (status : Status) (before after : Streams) (run : Doing E M B) → RunsWords words status before after run → NameNoBoard words → run.board ≡ None
  no_board words status before after run (inl (command, names, runs)) never = left_alone command run runs.1 (λ has. never (command, names, has))
  no_board words status before after run (inr (inl (are, refuses))) never = refuses.1.serve.board
  no_board words status before after run (inr (inr (memory, same, nothing))) never = nothing.serve.board
