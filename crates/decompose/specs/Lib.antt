pub mod Kernels
pub mod Mapped
pub mod Places
pub mod Program
pub mod Rows
