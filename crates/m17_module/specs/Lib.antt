-- What callers speak of: a recording, and what each call makes of it.
pub mod Recording
-- What callers speak of: how a module was made, the events as the floor sees them, who is in, what a parrot plays back,
-- what each event gives, what a module stands for, what its book keeps.
pub mod Setup
pub mod Events
pub mod Seats
pub mod Echoes
pub mod Items
pub mod StandsFor
pub mod Laws
pub mod Book
-- For the code alone: the row of held places, and how a recorder follows the room.
pub mod Held
pub mod Following
