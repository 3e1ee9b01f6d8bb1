pub mod Knowns
pub mod Marking
