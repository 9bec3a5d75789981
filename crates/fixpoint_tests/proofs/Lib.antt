pub mod Zeros
pub mod SmallSums
pub mod SmallKernels
pub mod Marking
pub mod TreeLaws
