pub mod Free
pub mod Edges
pub mod Detours
pub mod Marks
pub mod Known
pub mod EdgeSearch
pub mod Paths
pub mod DetourLaw
