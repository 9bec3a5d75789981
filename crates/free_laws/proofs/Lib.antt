pub mod AssumptionProofs
pub mod KeyProofs
pub mod StepProofs
