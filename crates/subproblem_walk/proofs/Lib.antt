pub mod CutterLemmas
pub mod StartLemmas
pub mod TurnLemmas
pub mod WalkLemmas
pub mod BeatenLemmas
