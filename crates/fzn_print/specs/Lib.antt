pub mod AnswerText
pub mod Reading
pub mod Lines
