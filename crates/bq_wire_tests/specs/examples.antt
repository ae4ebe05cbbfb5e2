-- Worked examples, checked by evaluation.
pub mod Examples
pub mod HistoryExamples
pub mod RunExamples
