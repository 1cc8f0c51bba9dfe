-- The law on turns, of trails: what is said to memberships whose Joins stand in the trails of
-- modules. Modules have numbers.
use Rattle.std.specs.Prelude.{◌≡◌, ℕ, ◌<◌, Bool, true, false, List, [], ◌++◌, map, filter, slice_get, All, AllPairs, Contains}
use Rattle.std.specs.List.{flat_map}
use Rattle.std.specs.Option.{option_map_or}
use Rattle.m17_values.specs.declared.member.Member.{Member}
use Rattle.m17_values.specs.declared.peer.Peer.{Peer}
use Rattle.m17_control.specs.declared.event.Body.TheVariants.{Join}
use Rattle.m17_control.specs.declared.event.Event.{Event}
use Rattle.m17_control.specs.declared.item.Item.{Item}
use Rattle.m17_module.specs.Items.{Setup, items_given}
use Rattle.m17_module.specs.Laws.{joins}
use Rattle.m17_worker.specs.Offers.{Try, may_be_missed, queued_for}
use Rattle.m17_sender.specs.Acts.{Act, answers_of, notes_of, sayings}
use Rattle.m17_sender.specs.Joined.{Queues, SayAll, Joined, items_of, WaitsFor, items_said, is_to_any, replies_to, packets_to, packets_of}
use Rattle.m17_sender.specs.Orders.{IsShuffle}
use Rattle.m17_reflect.specs.Links.{At, setup_at}
use Rattle.m17_reflect.specs.Run.{Run}
use Rattle.m17_reflect.specs.Trails.{events_of}
use Rattle.m17_reflect.specs.Queues.{carried}
use Rattle.m17_reflect.specs.Headline.{Headline}

-- What the queues of a module hold, by place: all items that its events give were tried there, in
-- order, and none was left out but a Frame, an Echo or a Ping.
pub record HoldsTrail (setup : Setup) (events : List Event) (queue : ℕ → List Item) : Type 0 where
  pub tries : List Try
  pub all_items : map (λ (t : Try). t.item) tries ≡ items_given setup events
  pub each : (q : ℕ) → queue q ≡ queued_for tries q
  pub left_out : All (λ (t : Try). t.queued ≡ false → may_be_missed t.item.body ≡ true) tries

-- The queues hold what the trails give. No two Joins of all trails are of one member, and each is
-- of one of its module's places.
pub record HoldTrails (setups : ℕ → Setup) (trails : ℕ → List Event) (queues : Queues) : Type 0
  where
    pub each : (m : ℕ) → HoldsTrail (setups m) (trails m) (queues m)
    pub once : (k : Member) (m n i j : ℕ) → joins (trails m) k i ≡ true →
        joins (trails n) k j ≡ true → (m ≡ n) × (i ≡ j)
    pub placed : (k : Member) (m i : ℕ) → joins (trails m) k i ≡ true →
        k.place < (setups m).places

-- A membership on a link, by its Join: that stands in its module's trail, came by the link, and
-- names the member and how many notes its Hello waits for.
pub record JoinsBy (trails : ℕ → List Event) (link : ℕ) (j : Joined) : Type 0 where
  pub position : ℕ
  pub event : Event
  pub peer : Peer
  pub callsign : ℕ
  pub listens : Bool
  pub there : At (trails j.m) position event
  pub by_link : event.tag.link ≡ link
  pub body : event.body ≡ Join j.member peer callsign listens j.after

-- Suppose that acts in turn, with more acts behind them, say all that the queues hold, and that each of these
-- memberships on a link waits for the notes of all before it. Then what is said to these memberships is what their
-- queues hold for them, one membership after another. The memberships of a peer in a run are such ones, in the order of
-- their Joins.
abbrev pub TrailsAreToldInOrder : Type 0
TrailsAreToldInOrder =
    (setups : ℕ → Setup) (trails : ℕ → List Event) (queues : Queues) (acts more : List Act)
    (link : ℕ) (joined : List Joined) → HoldTrails setups trails queues →
    SayAll acts more queues → All (JoinsBy trails link) joined →
    AllPairs (WaitsFor (notes_of link acts)) joined →
    filter (is_to_any joined) (items_said (acts ++ more)) ≡ flat_map (items_of queues) joined

-- The memberships on a link of a peer that is told by a test: the Join of each came by the link and names a peer that
-- passes the test, and each membership of which this holds is among them.
abbrev pub IsOfPeer : (ℕ → List Event) → ℕ → (Peer → Bool) → Joined → Type 0
IsOfPeer trails link x j = (by : JoinsBy trails link j) × (x by.peer ≡ true)

pub record AreMemberships (trails : ℕ → List Event) (link : ℕ) (x : Peer → Bool)
    (joined : List Joined) : Type 0 where
  pub each : All (IsOfPeer trails link x) joined
  pub all : (j : Joined) → IsOfPeer trails link x j → Contains joined j

-- And so the packets to the peer by the link are one order of the replies to it past all modules
-- and of what its memberships are told, one after another.
abbrev pub PeersOfTrailsAreToldInOrder : Type 0
PeersOfTrailsAreToldInOrder =
    (setups : ℕ → Setup) (trails : ℕ → List Event) (queues : Queues) (acts more : List Act)
    (link : ℕ) (joined : List Joined) (name : ℕ) (x : Peer → Bool) →
    HoldTrails setups trails queues → SayAll acts more queues →
    AreMemberships trails link x joined → AllPairs (WaitsFor (notes_of link acts)) joined →
    IsShuffle (replies_to link x (answers_of (acts ++ more)))
    (packets_of name (flat_map (items_of queues) joined))
    (packets_to x (sayings name link (acts ++ more)))

-- The queues of every run hold what its trails give.
abbrev pub trail_in : {E M B : Type 0} → Run E M B → ℕ → List Event
trail_in run m = option_map_or events_of (slice_get run.handed.trails m) []

abbrev pub RunsHoldTheirTrails : (E M B : Type 0) → Type 0
RunsHoldTheirTrails E M B =
    (run : Run E M B) → Headline run →
    HoldTrails (setup_at run.plan) (trail_in run) (carried run.handed.queues)
