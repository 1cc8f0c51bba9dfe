pub mod Faults
pub mod Source
pub mod Sink
pub mod Tied
pub mod Outlet
pub mod Fill
