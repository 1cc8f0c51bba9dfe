-- What callers speak of: what is asked, the devices, what is printed, and how the command ends.
pub mod Asked
pub mod Devices
pub mod Lines
pub mod Served
pub mod Endings
pub mod Laws
-- For proofs: one step of the opening and of the printing.
pub mod Steps
