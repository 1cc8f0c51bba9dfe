-- Values that are none: of an option, parrots among modules, a plan, and a command.
use Rattle.std.proofs.Common.{ℕ, List, [], Option, None, Some, IfNone, codes}
use Rattle.std.specs.Prelude.{IsTrue}
use Rattle.std.proofs.lemmas.List.Elements.{All-weaker}
use Rattle.clap.specs.Words.{Row}
use Rattle.m17_control.specs.declared.modules.Modules.{Modules}
use Rattle.m17_control.specs.Modules.{serves}
use Rattle.m17_words.specs.declared.command.Command.{Command}
use Rattle.m17_words.specs.declared.command.Command.TheVariants.{Replay, Make, Serve}
use Rattle.m17_words.specs.declared.order.ServeOrder.{ServeOrder}
use Rattle.m17_words.specs.declared.plan.Plan.{Plan}
use Rattle.m17_words.specs.Plans.{IsPlan}
use Rattle.m17_words.specs.Values.{NamesModules, NamesParrots}
use Rattle.m17_words.specs.Words.{IsReplayWith, IsMake, IsMakeWith, IsServe, IsServeWith}

pub if_none : {X : Type 0} (o : Option X) (P : Type 0) → P → IfNone o P
if_none None P h = h
if_none (Some x) P h = tt

-- a text that names no modules names no parrots
pub no_parrots : (text : List ℕ) (found : Option Modules) (modules : Modules) → IfNone found ((p : Modules) → NamesModules text p → ⊥)
    → IfNone found ((p : Modules) → NamesParrots (Some text) modules p → ⊥)
no_parrots text None modules none = λ p named. none p named.0
no_parrots text (Some x) modules none = tt

-- parrots are among all modules that a text names
pub same_parrots : (text : List ℕ) (m m' : Modules) (found : Option (List ℕ)) (p : Modules) → NamesModules text m → NamesModules text m'
    → NamesParrots found m p → NamesParrots found m' p
same_parrots text m m' None p named named' none = none
same_parrots text m m' (Some t) p named named' some = (
  some.0,
  All-weaker (λ letter. IsTrue (serves m letter)) (λ letter. IsTrue (serves m' letter))
      (λ letter served. (named'.letters letter).1 ((named.letters letter).0 served)) t some.1,
)

-- where there is no plan, there is no replay and no run of the reflector
pub no_replay : (found : List Row) → ((plan : Plan) → IsPlan found (codes "M17-TST") plan → ⊥)
    → (command : Command) → IsReplayWith found command → ⊥
no_replay found none (Replay call modules parrots places summary limit threads) replay = none
    (record { call = call; modules = modules; parrots = parrots; places = places; limit = limit })
    (record {
      call_is = replay.call_is;
      modules_are = replay.modules_are;
      parrots_are = replay.parrots_are;
      places_are = replay.places_are;
      limit_is = replay.limit_is;
    })
no_replay found none _ replay = replay

pub no_make : (found : List Row) → ((seed count : ℕ) → IsMake found seed count → ⊥) → (command : Command) → IsMakeWith found command → ⊥
no_make found none (Make seed count) make = none seed count make
no_make found none _ make = make

pub no_serve : (found : List Row) → ((order : ServeOrder) → IsServe found order → ⊥)
    → (command : Command) → IsServeWith found command → ⊥
no_serve found none (Serve order) serve = none order serve
no_serve found none _ serve = serve

pub no_plan : (found : List Row) → ((plan : Plan) → IsPlan found [] plan → ⊥) → (order : ServeOrder) → IsServe found order → ⊥
no_plan found none order serve = none
    (record { call = order.call; modules = order.modules; parrots = order.parrots; places = order.places; limit = order.limit })
    (record {
      call_is = serve.call_is;
      modules_are = serve.modules_are;
      parrots_are = serve.parrots_are;
      places_are = serve.places_are;
      limit_is = serve.limit_is;
    })
