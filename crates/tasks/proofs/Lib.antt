pub mod Firsts
pub mod Bounded
pub mod Refusing
pub mod Lawful
pub mod Running
pub mod Checking
pub mod CostAlgebras
pub mod Counted
