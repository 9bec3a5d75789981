pub mod InSet
