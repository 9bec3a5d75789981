pub mod Covers
