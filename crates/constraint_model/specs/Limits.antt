-- The limits of a model.
use Rattle.std.specs.Prelude.{ℕ}

-- the most declared variables
abbrev pub most_vars : ℕ
most_vars = 65536

-- the most entries of an array or of a set
abbrev pub most_entries : ℕ
most_entries = 65536

-- the most index sets of an array that is written
abbrev pub most_index_sets : ℕ
most_index_sets = 6

-- the most propagators that the constraints are run as
abbrev pub most_kernels : ℕ
most_kernels = 1048576

-- the most distinct numbers other than 1 that occur where a variable may be
abbrev pub most_constants : ℕ
most_constants = 131072

-- the most variables that are told apart at once, and the most tasks of a resource
abbrev pub most_places : ℕ
most_places = 256
