-- Room for what comes back of a run, made before it starts.
use Rattle.std.specs.Prelude.{◌≡◌, ◌+◌, ◌≤◌, ℕ, [], All, Vec, vec_len, vec_capacity}
use Rattle.m17_reflect.specs.declared.rooms.LinkRooms.{LinkRooms}
use Rattle.m17_reflect.specs.declared.rooms.ModuleRooms.{ModuleRooms}
use Rattle.m17_reflect.specs.declared.rooms.TrailRooms.{TrailRooms}
use Rattle.m17_reflect.specs.declared.rooms.Rooms.{Rooms}

-- The vector is empty and has room for `count` items.
abbrev pub IsRoom : {X Z : Type 0} → ℕ → Vec X Z → Type 0
IsRoom count v = (v.items ≡ []) × (count ≤ vec_capacity v)

-- There are `rows` vectors, each of them empty and with room for `count` items.
pub record AreRooms {X Y Z : Type 0} (rows count : ℕ) (vs : Vec (Vec X Y) Z) : Type 0 where
  pub number : vec_len vs ≡ rows
  pub each : All (IsRoom count) vs.items

-- There is room for what the receivers of these links are made of, but for their devices and seats.
pub record HasLinkRooms (links : ℕ) (r : LinkRooms) : Type 0 where
  pub columns : IsRoom links r.columns
  pub doors : IsRoom links r.doors
  pub noted : IsRoom links r.noted
  pub orders : IsRoom links r.orders
  pub tapes : IsRoom links r.tapes

-- There is room for what the workers of these modules are made of, but for their books and seats.
pub record HasModuleRooms (modules : ℕ) (r : ModuleRooms) : Type 0 where
  pub inboxes : IsRoom modules r.inboxes
  pub queues : IsRoom modules r.queues
  pub orders : IsRoom modules r.orders
  pub tapes : IsRoom modules r.tapes
  pub missed : IsRoom modules r.missed
  pub admitted : IsRoom modules r.admitted

-- There is room for the trails of the lanes of these links, modules and places.
pub record HasTrailRooms (links modules places : ℕ) (r : TrailRooms) : Type 0 where
  pub shells : AreRooms modules links r.shells
  pub inboxes : IsRoom modules r.inboxes
  pub queues : AreRooms modules places r.queues
  pub notes : IsRoom links r.notes
  pub to_receivers : IsRoom links r.to_receivers
  pub to_workers : IsRoom modules r.to_workers
  pub to_sender : IsRoom 1 r.to_sender

-- There is room for all.
pub record HasRooms (links modules places : ℕ) (r : Rooms) : Type 0 where
  pub of_links : HasLinkRooms links r.links
  pub of_modules : HasModuleRooms modules r.modules
  pub of_sender : IsRoom 1 r.of_sender
  pub seats : IsRoom (links + modules) r.seats
  pub trails : HasTrailRooms links modules places r.trails
