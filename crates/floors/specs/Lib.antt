pub mod Floors
pub mod FloorLaw
pub mod Accepting
pub mod Cells
pub mod Upholding
pub mod Sharing
pub mod Doing
