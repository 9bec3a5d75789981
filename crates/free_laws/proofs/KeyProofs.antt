-- The least by its keys comes first.
use Rattle.std.proofs.Common.{◌≡◌, ℕ, ℤ, ◌<◌, List, [], ◌∷◌, length, flat_map, refl, sym, subst, ap, ◌∙◌, inl, inr, arith}
use Rattle.std.specs.Prelude.{◌<ℤ◌, ◌≤ℤ◌}
use Rattle.std.proofs.lemmas.Int.{ints}
use Rattle.std.proofs.lemmas.List.{length-append, length-map}
use Rattle.constraint_model.specs.declared.model.Phase.{Phase}
use Rattle.constraint_model.specs.declared.model.FznModel.{FznModel}
use Rattle.solution_lists.specs.Solutions.{SolvesInside}
use Rattle.solution_lists.specs.Order.{value_at}
use Rattle.solution_lists.specs.Static.{key_of, keys_in, keys_of, Precedes, BeginsWithFirst, FirstComesFirst}
use Rattle.free_laws.specs.Keys.{IsLeastByKeys, FirstByKeys}

in_phase : (a b : List ℤ) (p : Phase) → length (keys_in a p) ≡ length (keys_in b p)
in_phase a b p = length-map p.vars (λ v. key_of p.val_sel (value_at a v)) ∙ sym (length-map p.vars (λ v. key_of p.val_sel (value_at b v)))

-- all lists have as many keys
same_count : (a b : List ℤ) (ps : List Phase) → length (flat_map (keys_in a) ps) ≡ length (flat_map (keys_in b) ps)
same_count a b [] = refl
same_count a b (p ∷ ps) =
    omega (arith, length-append (keys_in a p) (flat_map (keys_in a) ps), length-append (keys_in b p) (flat_map (keys_in b) ps), in_phase a b p, same_count a b ps)

not_lesser : (x y : ℤ) → x ≤ℤ y → y <ℤ x → ⊥
not_lesser x y h k = omega (arith, ints)

never_before : (model : FznModel) (IsOne : List ℤ → Type 0) (s a : List ℤ) → IsLeastByKeys model IsOne s → IsOne a → Precedes model a s → ⊥
never_before model IsOne s a by one before =
    let lt : before.place < length (keys_of model s) = subst (λ (n : ℕ). before.place < n) (same_count a s model.search) before.in_list in
    not_lesser (value_at (keys_of model s) before.place) (value_at (keys_of model a) before.place)
    (by.least before.place lt a one before.same_before) before.lesser

pub heads : (model : FznModel) (IsOne : List ℤ → Type 0) (found : List (List ℤ)) (s : List ℤ) → BeginsWithFirst model IsOne found →
    IsLeastByKeys model IsOne s → (others : List (List ℤ)) × (found ≡ s ∷ others)
heads model IsOne [] s none by = absurd (none s by.is_one)
heads model IsOne (a ∷ others) s (one, first) by = elim (first s by.is_one) [
  | inl e ↦ (others, ap (λ (x : List ℤ). x ∷ others) e)
  | inr before ↦ absurd (never_before model IsOne s a by one before)
]

pub first_by_keys : FirstComesFirst → FirstByKeys
first_by_keys first model program b found s f static is in_range inside listed by =
    heads model (SolvesInside model b) found s (first model program b found f static is in_range inside listed) by
