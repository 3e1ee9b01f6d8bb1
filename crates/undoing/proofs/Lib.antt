pub mod WritingOn
pub mod RefineLoop
pub mod SpecialiseLoop
pub mod UndoOutcome
