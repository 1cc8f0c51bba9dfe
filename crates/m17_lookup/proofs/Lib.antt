pub mod LastBelow
