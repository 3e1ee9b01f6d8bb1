pub mod Bringings
pub mod Writing
pub mod UndoCalls
