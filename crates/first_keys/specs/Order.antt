-- The keys of a static order, one by one.
use Rattle.std.specs.Prelude.{◌≡◌, ℕ, ◌<◌, ℤ, neg_ℤ, List, length, map, flat_map, slice_index_or, cond}
use Rattle.constraint_model.specs.declared.model.Phase.{Phase}
use Rattle.constraint_model.specs.declared.model.FznModel.{FznModel}
use Rattle.branching.specs.Parts.{is_upper_first}
use Rattle.solution_lists.specs.Order.{value_at}
use Rattle.first_keys.specs.declared.key.Key.{Key}

-- what the key is in an assignment: the lesser comes first
abbrev pub key_in : List ℤ → Key → ℤ
key_in a key = cond key.is_upper_first (neg_ℤ (value_at a key.var)) (value_at a key.var)

-- the keys of a phase's variables, and those of all phases one behind the other
abbrev pub phase_keys : Phase → List Key
phase_keys phase = map (λ v. record { var = v; is_upper_first = is_upper_first phase.val_sel }) phase.vars

abbrev pub keys_of : FznModel → List Key
keys_of model = flat_map phase_keys model.search

-- it is the key at a place of the list
abbrev pub IsKeyAt : List Key → ℕ → Key → Type 0
IsKeyAt keys place key = (place < length keys) × (slice_index_or keys place key ≡ key)
