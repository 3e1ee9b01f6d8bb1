pub mod Jobs
pub mod Outcomes
pub mod Texts
pub mod JobLaw
