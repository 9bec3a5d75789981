pub mod TrailLaws
