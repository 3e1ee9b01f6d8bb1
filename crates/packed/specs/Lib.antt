pub mod Records
pub mod Decoding
pub mod Checks
pub mod Packing
pub mod Files
pub mod Accepted
pub mod LawfulFile
