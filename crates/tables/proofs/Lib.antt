pub mod Reading
pub mod Alike
pub mod Writes
pub mod Sweeping
pub mod Retiring
pub mod Dropping
pub mod Renaming
pub mod Copying
