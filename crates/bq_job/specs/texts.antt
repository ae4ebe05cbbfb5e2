-- The texts of the answers, to the byte.
pub mod AnswerText
pub mod Yaml
