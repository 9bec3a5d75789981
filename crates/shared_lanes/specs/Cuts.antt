-- Shares of a list of items, which are dealt to lanes by their numbers.
use Rattle.std.specs.Prelude.{ℕ, ◌≡◌, ◌<◌, ◌≤◌, List, [], map, length, slice_index_or, Vec}
use Rattle.std.specs.List.{All, Contains}
use Rattle.std.specs.declared.alloc.Global.{Global}

-- a share lists items by their numbers: it names no other number
abbrev pub IsShare : ℕ → List ℕ → Type 0
IsShare count share = All (λ j. j < count) share

-- the fact holds of each item that the share names
abbrev pub AllNamed : {K : Type 0} → (K → Type 0) → List ℕ → List K → Type 0
AllNamed {K} fact share items = (j : ℕ) (k : K) → Contains share j → j < length items →
    slice_index_or items j k ≡ k → fact k

-- the share of this number, or no item
abbrev pub share_at : List (Vec ℕ Global) → ℕ → List ℕ
share_at cut i = slice_index_or (map (λ s. s.items) cut) i []

-- a cut has at most this many shares
unfoldable pub share_limit : ℕ
share_limit = 64

-- a cut of so many items: there is a share, and not too many, shares name items alone, and each item stands in some share
pub record IsCut (count : ℕ) (cut : List (Vec ℕ Global)) : Type 0 where
  pub some : 1 ≤ length cut
  pub short : length cut ≤ share_limit
  pub in_range : (i : ℕ) → i < length cut → IsShare count (share_at cut i)
  pub covers : (j : ℕ) → j < count → (i : ℕ) × (i < length cut) × Contains (share_at cut i) j
