-- What a seat may do.
use Rattle.std.specs.Prelude.{ℕ, ◌≡◌, ◌<◌, length, true, false}
use Rattle.mix_store.specs.declared.table.View.{View}

-- a seat that may step on the word k of a store whose floor is named
pub record IsReady (v : View) (k : ℕ) : Type 0 where
  pub live : v.live ≡ true
  pub fresh : v.fresh ≡ false
  pub inside : k < length v.seen
