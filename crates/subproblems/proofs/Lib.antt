pub mod CutLemmas
pub mod SubproblemLemmas
pub mod PathLemmas
pub mod StepLemmas
pub mod DeeperLemmas
