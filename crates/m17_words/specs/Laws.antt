-- Words name one command.
use Rattle.std.specs.Prelude.{◌≡◌, List, map, string_bytes}
use Rattle.std.specs.Option.{option_map}
use Rattle.clap.specs.Words.{Text}
use Rattle.m17_words.specs.declared.order.TalkOrder.{TalkOrder}
use Rattle.m17_words.specs.declared.order.ServeOrder.{ServeOrder}
use Rattle.m17_words.specs.declared.order.BridgeOrder.{BridgeOrder}
use Rattle.m17_words.specs.declared.command.Command.{Command}
use Rattle.m17_words.specs.declared.command.Command.TheVariants.{Judge, Show, Replay, Make, Check, Migrate, Talk, Serve, Bridge}
use Rattle.m17_words.specs.Words.{Names}

-- the orders are one: each value is the same, and of each text what it spells
pub record SameOrder (o o' : TalkOrder) : Type 0 where
  pub call : o'.call ≡ o.call
  pub letter : o'.letter ≡ o.letter
  pub listen : o'.listen ≡ o.listen
  pub bind : string_bytes o'.bind ≡ string_bytes o.bind
  pub to : o'.to ≡ o.to
  pub stay : o'.stay ≡ o.stay
  pub book : option_map string_bytes o'.book ≡ option_map string_bytes o.book

pub record SameBridge (o o' : BridgeOrder) : Type 0 where
  pub call : o'.call ≡ o.call
  pub near : string_bytes o'.near ≡ string_bytes o.near
  pub near_peer : o'.near_peer ≡ o.near_peer
  pub near_letter : o'.near_letter ≡ o.near_letter
  pub far : string_bytes o'.far ≡ string_bytes o.far
  pub far_peer : o'.far_peer ≡ o.far_peer
  pub far_letter : o'.far_letter ≡ o.far_letter
  pub seconds : o'.seconds ≡ o.seconds
  pub stop : option_map string_bytes o'.stop ≡ option_map string_bytes o.stop

pub record SameServe (o o' : ServeOrder) : Type 0 where
  pub call : o'.call ≡ o.call
  pub modules : o'.modules ≡ o.modules
  pub parrots : o'.parrots ≡ o.parrots
  pub places : o'.places ≡ o.places
  pub seconds : o'.seconds ≡ o.seconds
  pub book : option_map string_bytes o'.book ≡ option_map string_bytes o.book
  pub binds : map string_bytes o'.binds.items ≡ map string_bytes o.binds.items
  pub limit : o'.limit ≡ o.limit
  pub rules : o'.rules ≡ o.rules
  pub board : option_map string_bytes o'.board ≡ option_map string_bytes o.board
  pub fill : o'.fill ≡ o.fill
  pub guard : o'.guard ≡ o.guard
  pub pace : o'.pace ≡ o.pace
  pub stop : option_map string_bytes o'.stop ≡ option_map string_bytes o.stop

-- The commands are one, with the same values.
abbrev pub SameCommand : Command → Command → Type 0
SameCommand Judge other = other ≡ Judge
SameCommand Show other = other ≡ Show
SameCommand (Replay call modules parrots places summary limit threads) other =
    other ≡ Replay call modules parrots places summary limit threads
SameCommand (Make seed count) other = other ≡ Make seed count
SameCommand Check other = other ≡ Check
SameCommand Migrate other = other ≡ Migrate
SameCommand (Talk order) (Talk order') = SameOrder order order'
SameCommand (Talk order) other = ⊥
SameCommand (Serve order) (Serve order') = SameServe order order'
SameCommand (Serve order) other = ⊥
SameCommand (Bridge order) (Bridge order') = SameBridge order order'
SameCommand (Bridge order) other = ⊥

-- words name one command
abbrev pub OneCommand : Type 0
OneCommand = (words : List Text) (command other : Command) → Names words command
    → Names words other → SameCommand command other
