-- What one call on a source in memory leaves of its names and bytes.
use Rattle.std.proofs.Common.{◌≡◌, ℕ, zero, suc, ◌+◌, ◌<◌, ◌≤◌, List, [], ◌∷◌, ◌++◌, Some, length, map, take, drop, refl, arith, add-one, inl, inr}
use Rattle.std.proofs.lemmas.Grind.{common_steps}
use Rattle.std.proofs.lemmas.Bool.{cases_lt}
use Rattle.std.proofs.lemmas.List.{take-append-drop, drop-drop}
use Rattle.std.proofs.Math.ListN.{drop_of_length-le}
use Rattle.fzn_io.specs.Memory.{name_of, readable}
use Rattle.fzn_io.specs.Streams.{later_names}
use Rattle.fzn_io.specs.declared.named.Named.{Named}

-- a call that gave `n` bytes, at most `chunk`, took them off the front
pub read_some : (chunk from n : ℕ) (all : List ℕ) → n ≤ chunk → readable chunk (drop from all) ≡ take n (drop from all) ++ readable chunk (drop (from + n) all)
read_some zero from n all h = let e : n ≡ 0 = omega arith in rw e refl
read_some (suc chunk) from n all h = grind (arith, common_steps, take-append-drop n (drop from all), drop-drop)

later_at : (entries : List Named) (asked : ℕ) → asked < length entries → Some (map name_of (drop (suc asked) entries)) ≡ later_names (Some (map name_of (drop asked entries)))
later_at [] asked h = absurd (omega arith)
later_at (e ∷ es) zero h = refl
later_at (e ∷ es) (suc asked) h = later_at es asked (omega arith)

later_past : (entries : List Named) (asked : ℕ) → length entries ≤ asked → drop asked entries ≡ []
later_past entries asked h = drop_of_length-le entries h

-- the first name leaves the list
pub name_leaves : (entries : List Named) (asked next : ℕ) → (asked < length entries → next ≡ asked + 1) → (length entries ≤ asked → next ≡ asked)
    → Some (map name_of (drop next entries)) ≡ later_names (Some (map name_of (drop asked entries)))
name_leaves entries asked next more end =
    elim (cases_lt asked (length entries)) [
      | inl h ↦ rw (more h, add-one) (later_at entries asked h)
      | inr h ↦ rw (end h, later_past entries asked h) refl
    ]
