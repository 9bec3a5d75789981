pub mod ShortTells
