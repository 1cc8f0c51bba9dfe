-- The words of the command line, and what they ask for.
use Rattle.std.specs.Prelude.{◌≡◌, ℕ, Bool, Some, ◌-◌, ◌^◌, ◌<◌, ◌≤◌, List, [], ◌∷◌, codes, decimal, map, string_bytes, vec_len}
use Rattle.std.specs.Option.{option_map}
use Rattle.clap.specs.Words.{Row, Text}
use Rattle.m17_callsign.specs.Callsign.{IsCallsignOf}
use Rattle.m17_control.specs.declared.modules.Modules.{Modules}
use Rattle.m17_peer.specs.Text.{IsTextOf}
use Rattle.m17_words.specs.declared.order.TalkOrder.{TalkOrder}
use Rattle.m17_words.specs.declared.order.ServeOrder.{ServeOrder}
use Rattle.m17_words.specs.declared.order.BridgeOrder.{BridgeOrder}
use Rattle.m17_words.specs.declared.command.Command.{Command}
use Rattle.m17_words.specs.declared.command.Command.TheVariants.{Judge, Show, Replay, Make, Check, Migrate, Talk, Serve, Bridge}
use Rattle.m17_words.specs.Tables.{judge_table, show_table, replay_table, make_table, check_table, migrate_table, talk_table, serve_table, bridge_table, Takes, found, text_of, text_or, texts_of}
use Rattle.m17_words.specs.Values.{IsLimit, IsNumber, IsNumberIfAny, NamesLetter, NamesModules, NamesParrots, IsFlagged, IsPace, IsUnlessFlagged, limit_unnamed, pace_unnamed}

-- the word that names a command
abbrev pub word_of : Command → Text
word_of Judge = codes "judge"
word_of Show = codes "show"
word_of (Replay call modules parrots places summary limit threads) = codes "replay"
word_of (Make seed count) = codes "make"
word_of Check = codes "check"
word_of Migrate = codes "migrate"
word_of (Talk order) = codes "talk"
word_of (Serve order) = codes "serve"
word_of (Bridge order) = codes "bridge"

-- what a replay is run with
pub record ReplayOptions : Type 0 where
  pub call : ℕ
  pub modules : Modules
  pub parrots : Modules
  pub places : ℕ
  pub summary : Bool
  pub limit : ℕ
  pub threads : Bool

-- The values of a replay: its own callsign, the modules, which of them are parrots, the places, whether the summary is
-- printed, the limit on talking, and whether it runs over threads.
pub record IsReplay (found : List Row) (o : ReplayOptions) : Type 0 where
  pub call_is : IsCallsignOf (text_or found (codes "call") (codes "M17-TST")) o.call
  pub modules_are : NamesModules (text_or found (codes "modules") (codes "ABC")) o.modules
  pub parrots_are : NamesParrots (text_of found (codes "parrots")) o.modules o.parrots
  pub places_are : IsNumber 1 256 (text_or found (codes "places") (codes "64")) o.places
  pub summary_is : IsFlagged (text_of found (codes "summary")) o.summary
  pub limit_is : IsLimit (text_or found (codes "limit") (decimal limit_unnamed)) o.limit
  pub threads_are : IsFlagged (text_of found (codes "threads")) o.threads

abbrev pub options : ℕ → Modules → Modules → ℕ → Bool → ℕ → Bool → ReplayOptions
options call modules parrots places summary limit threads = record {
  call = call;
  modules = modules;
  parrots = parrots;
  places = places;
  summary = summary;
  limit = limit;
  threads = threads;
}

-- the values of a made evening: the seed, and how many entries
pub record IsMake (found : List Row) (seed count : ℕ) : Type 0 where
  pub seed_is : IsNumber 0 (2 ^ 64 - 1) (text_or found (codes "seed") []) seed
  pub count_is : IsNumber 0 100000 (text_or found (codes "count") []) count

-- The values of a talk: the client's callsign, the module that it asks for, whether it only listens, where its link is
-- bound, the reflector, for how long it stays, and its book.
pub record IsTalk (found : List Row) (order : TalkOrder) : Type 0 where
  pub call_is : IsCallsignOf (text_or found (codes "call") []) order.call
  pub module_is : NamesLetter (text_or found (codes "module") []) order.letter
  pub bind_is : string_bytes order.bind ≡ text_or found (codes "bind") []
  pub to_is : IsTextOf order.to (text_or found (codes "to") [])
  pub listen_is : IsFlagged (text_of found (codes "listen")) order.listen
  pub stay_is : IsNumber 0 86400000 (text_or found (codes "stay") (codes "0")) order.stay
  pub book_is : option_map string_bytes order.book ≡ text_of found (codes "book")

-- The values of a bridge: its callsign; on each side where its link is bound, the reflector, and the module that it asks
-- for; for how long it runs; and the file whose end stops it.
pub record IsBridge (found : List Row) (order : BridgeOrder) : Type 0 where
  pub call_is : IsCallsignOf (text_or found (codes "call") []) order.call
  pub near_is : string_bytes order.near ≡ text_or found (codes "near") []
  pub near_peer_is : IsTextOf order.near_peer (text_or found (codes "near-peer") [])
  pub near_module_is : NamesLetter (text_or found (codes "near-module") []) order.near_letter
  pub far_is : string_bytes order.far ≡ text_or found (codes "far") []
  pub far_peer_is : IsTextOf order.far_peer (text_or found (codes "far-peer") [])
  pub far_module_is : NamesLetter (text_or found (codes "far-module") []) order.far_letter
  pub seconds_are : IsNumberIfAny 1 1000000 (text_of found (codes "for")) order.seconds
  pub stop_is : option_map string_bytes order.stop ≡ text_of found (codes "stop")

-- The values of a run of the reflector: its callsign, the modules, which of them are parrots, the places, for how long it
-- serves, the folder of its traces and books, where its links are bound, one to four, the limit on talking, whether it serves
-- by rules of callsigns, its board, whether a CRC is filled in, whether its links are guarded, how many frames in any second
-- one peer is sent, and the file whose end stops it.
pub record IsServe (found : List Row) (order : ServeOrder) : Type 0 where
  pub call_is : IsCallsignOf (text_or found (codes "call") []) order.call
  pub modules_are : NamesModules (text_or found (codes "modules") (codes "ABC")) order.modules
  pub parrots_are : NamesParrots (text_of found (codes "parrots")) order.modules order.parrots
  pub places_are : IsNumber 1 256 (text_or found (codes "places") (codes "64")) order.places
  pub seconds_are : IsNumberIfAny 1 1000000 (text_of found (codes "for")) order.seconds
  pub book_is : option_map string_bytes order.book ≡ text_of found (codes "book")
  pub binds_are : texts_of found (codes "bind") ≡ Some (map string_bytes order.binds.items)
  pub some_bind : 0 < vec_len order.binds
  pub few_binds : vec_len order.binds ≤ 4
  pub limit_is : IsLimit (text_or found (codes "limit") (decimal limit_unnamed)) order.limit
  pub rules_are : IsFlagged (text_of found (codes "rules")) order.rules
  pub board_is : option_map string_bytes order.board ≡ text_of found (codes "board")
  pub fill_is : IsFlagged (text_of found (codes "fill-crc")) order.fill
  pub guard_is : IsUnlessFlagged (text_of found (codes "no-guard")) order.guard
  pub pace_is : IsPace (text_or found (codes "pace") (decimal pace_unnamed)) order.pace
  pub stop_is : option_map string_bytes order.stop ≡ text_of found (codes "stop")

-- the same of a command
abbrev pub IsReplayWith : List Row → Command → Type 0
IsReplayWith found (Replay call modules parrots places summary limit threads) =
    IsReplay found (options call modules parrots places summary limit threads)
IsReplayWith found _ = ⊥

abbrev pub IsMakeWith : List Row → Command → Type 0
IsMakeWith found (Make seed count) = IsMake found seed count
IsMakeWith found _ = ⊥

abbrev pub IsTalkWith : List Row → Command → Type 0
IsTalkWith found (Talk order) = IsTalk found order
IsTalkWith found _ = ⊥

abbrev pub IsServeWith : List Row → Command → Type 0
IsServeWith found (Serve order) = IsServe found order
IsServeWith found _ = ⊥

abbrev pub IsBridgeWith : List Row → Command → Type 0
IsBridgeWith found (Bridge order) = IsBridge found order
IsBridgeWith found _ = ⊥

-- The words after the first one give the values of the command.
abbrev pub Gives : List Text → Command → Type 0
Gives words Judge = Takes judge_table words
Gives words Show = Takes show_table words
Gives words (Replay call modules parrots places summary limit threads) = Takes replay_table words
    × IsReplay (found replay_table words) (options call modules parrots places summary limit threads)
Gives words (Make seed count) = Takes make_table words × IsMake (found make_table words) seed count
Gives words Check = Takes check_table words
Gives words Migrate = Takes migrate_table words
Gives words (Talk order) = Takes talk_table words × IsTalk (found talk_table words) order
Gives words (Serve order) = Takes serve_table words × IsServe (found serve_table words) order
Gives words (Bridge order) = Takes bridge_table words × IsBridge (found bridge_table words) order

-- The words name a command: the first is its word, byte for byte, and the others give its values.
abbrev pub Names : List Text → Command → Type 0
Names [] command = ⊥
Names (first ∷ words) command = (first ≡ word_of command) × Gives words command
