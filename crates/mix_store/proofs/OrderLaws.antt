-- Joining words goes with the order of what they leave.
use Rattle.std.proofs.Common.{ℕ, arith}
use Rattle.std.proofs.lemmas.Nat.Bits.{bit_at_and}
use Rattle.mix_store.specs.declared.table.WordKind.{WordKind}
use Rattle.mix_store.specs.declared.table.WordKind.TheVariants.{Set, Low, High}
use Rattle.mix_store.specs.Order.{Holds, join_of, IsWord}

pub holds_itself : (kind : WordKind) (a : ℕ) → Holds kind a a
unfolding Holds
holds_itself Set a = λ i. omega arith
holds_itself Low a = omega arith
holds_itself High a = omega arith

pub holds_through : (kind : WordKind) (a b c : ℕ) → Holds kind a b → Holds kind b c → Holds kind a c
unfolding Holds
holds_through Set a b c h g = λ i. let p = h i in let q = g i in omega arith
holds_through Low a b c h g = omega arith
holds_through High a b c h g = omega arith

pub first_holds : (kind : WordKind) (a b : ℕ) → Holds kind a (join_of kind a b)
unfolding Holds join_of
first_holds Set a b = λ i. let e = bit_at_and a b i in omega arith
first_holds Low a b = omega arith
first_holds High a b = omega arith

pub second_holds : (kind : WordKind) (a b : ℕ) → Holds kind b (join_of kind a b)
unfolding Holds join_of
second_holds Set a b = λ i. let e = bit_at_and a b i in omega arith
second_holds Low a b = omega arith
second_holds High a b = omega arith

pub join_holds : (kind : WordKind) (a b f : ℕ) → Holds kind a f → Holds kind b f → Holds kind (join_of kind a b) f
unfolding Holds join_of
join_holds Set a b f h g = λ i. let e = bit_at_and a b i in let p = h i in let q = g i in omega arith
join_holds Low a b f h g = omega arith
join_holds High a b f h g = omega arith

pub join_word : (kind : WordKind) (a b : ℕ) → IsWord kind a → IsWord kind b → IsWord kind (join_of kind a b)
unfolding IsWord join_of
join_word Set a b h g = tt
join_word Low a b h g = omega arith
join_word High a b h g = omega arith

-- a word that leaves less than a word of its kind, but all that another one leaves, is of its kind
pub word_between : (kind : WordKind) (a b c : ℕ) → IsWord kind a → IsWord kind c → Holds kind a b → Holds kind b c → IsWord kind b
unfolding IsWord Holds
word_between Set a b c h g p q = tt
word_between Low a b c h g p q = omega arith
word_between High a b c h g p q = omega arith
