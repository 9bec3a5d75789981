-- Kernels' variables in two parts: a list that a kernel may share with others, and its own, which are those before and behind it.
use Rattle.std.specs.Prelude.{◌≡◌, ℕ, zero, suc, ◌<◌, ◌≤◌, ◌+◌, ◌-◌, ◌*◌, ◌⊎◌, ◌++◌, List, [], ◌∷◌, length, map, take, drop, cond, slice_index, slice_index_or, Contains}
use Rattle.guarded_tell.specs.declared.kernel.Kernel.{Kernel}
use Rattle.guarded_tell.specs.Words.{Side, Low, High}
use Rattle.guarded_tell.specs.Kernels.{vars_of}
use Rattle.kernel_visits.specs.Sides.{sides_of, is_sided}
use Rattle.moved_set.specs.declared.parts.Part.{Part}

-- the variables of the kernel at a place
abbrev pub vars_at : List Kernel → ℕ → List ℕ
vars_at kernels j = slice_index_or (map vars_of kernels) j []

-- the list at a place
abbrev pub list_at : List (List ℕ) → ℕ → List ℕ
list_at lists l = slice_index_or lists l []

-- the part of the kernel at a place
abbrev pub part_at : List Part → ℕ → Part
part_at parts j = slice_index_or parts j (record { before = 0; list = 0 })

-- the list comes right behind the first `before` variables, and others may follow it
pub record HasList (vars : List ℕ) (before : ℕ) (list : List ℕ) : Type 0 where
  pub within : before + length list ≤ length vars
  pub parted : vars ≡ take before vars ++ list ++ drop (before + length list) vars

-- the part's list is one of the lists, and comes right behind the first `before` variables. Where it is the empty one, all
-- variables are the kernel's own
pub record IsPart (vars : List ℕ) (lists : List (List ℕ)) (part : Part) : Type 0 where
  pub there : part.list < length lists
  pub has : HasList vars part.before (list_at lists part.list)

-- the first list is empty, and all are of the first `count` variables
pub record AreLists (count : ℕ) (lists : List (List ℕ)) : Type 0 where
  pub some : 0 < length lists
  pub empty : list_at lists 0 ≡ []
  pub variables : (l v : ℕ) → Contains (list_at lists l) v → v < count

-- the first kernels, so many of them, have these parts
pub record AreParts (kernels : List Kernel) (to : ℕ) (lists : List (List ℕ)) (parts : List Part) : Type 0 where
  pub same_length : length parts ≡ to
  pub each : (j : ℕ) → j < to → IsPart (vars_at kernels j) lists (part_at parts j)

-- ---- keys of own variables: three for each variable

-- by which bound a one-sided kernel is asked that reads this one: 0 by the lower one, 2 by the upper one; 1 by both
abbrev pub kind_there : List Side → ℕ
kind_there [] = 1
kind_there (Low ∷ sides) = 0
kind_there (High ∷ sides) = 2

-- by which a kernel is asked at a place
abbrev pub kind_at : Kernel → ℕ → ℕ
kind_at k place = cond (is_sided k) (kind_there (drop place (sides_of k))) 1

-- the key of its variable there
abbrev pub key_at : Kernel → ℕ → ℕ
key_at k place = 3 * slice_index (vars_of k) place + kind_at k place

-- those of so many places from one on
unfoldable pub keys_from : Kernel → ℕ → ℕ → List ℕ
keys_from k from zero = []
keys_from k from (suc n) = keys_from k from n ++ key_at k (from + n) ∷ []

-- those of its own variables
abbrev pub own_keys : List (List ℕ) → Part → Kernel → List ℕ
own_keys lists part k =
    let behind = part.before + length (list_at lists part.list) in
    keys_from k 0 part.before ++ keys_from k behind (length (vars_of k) - behind)

-- those of the kernel at a place
abbrev pub own_keys_at : List Kernel → List (List ℕ) → List Part → ℕ → List ℕ
own_keys_at kernels lists parts j = slice_index_or (map (own_keys lists (part_at parts j)) kernels) j []

-- ---- while they are built

-- the list is appended to the lists, or they stay as they were
abbrev pub Grows : List ℕ → List (List ℕ) → List (List ℕ) → Type 0
Grows list old new = (new ≡ old) ⊎ (new ≡ old ++ list ∷ [])

-- a list of consecutive variables among these is appended to the lists, or they stay as they were
abbrev pub GrowsBy : List ℕ → List (List ℕ) → List (List ℕ) → Type 0
GrowsBy vars old new = (new ≡ old) ⊎ ((before : ℕ) × (list : List ℕ) × HasList vars before list × (new ≡ old ++ list ∷ []))
