pub mod Tabled
pub mod Copied
pub mod Renamed
pub mod Reducing
pub mod Propositions
