pub mod AnswerLaws
pub mod MadeLaws
pub mod KnownLaws
pub mod OutcomeLaws
