pub mod LiveValues
pub mod StandIns
pub mod MarkingLoop
pub mod GatheredMarks
