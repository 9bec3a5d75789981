pub mod ClauseTells
pub mod ClauseLaws
