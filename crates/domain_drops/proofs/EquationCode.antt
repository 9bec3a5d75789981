-- What the code drops of an equation is what the definitions say.
use Rattle.std.proofs.Common.{◌≡◌, cond, List, [], ◌∷◌, ◌++◌, map, Bool, true, false, ◌&&◌, ℤ, ◌-ℤ◌, refl, ap, ◌∙◌}
use Rattle.std.proofs.lemmas.List.Elements.{filter_agree}
use Rattle.std.specs.List.{filter, flat_map}
use Rattle.tells.specs.declared.tell.Lit.{Lit}
use Rattle.guarded_tell.specs.Words.{is_out}
use Rattle.sum_tells.specs.Linear.{Term, least_of, greatest_of}
use Rattle.sum_tells.specs.Equality.{is_same, is_product}
use Rattle.bit_domain.specs.Mixes.{Mix, dom_of, hull, values_of}
use Rattle.domain_drops.specs.Removals.{makes_limit, term_removal}
use Rattle.domain_drops.specs.Drops.{dropped, term_drops}

-- no number passes
pub none_pass : {X : Type 0} (p : X → Bool) (xs : List X) → ((x : X) → p x ≡ false) → filter p xs ≡ []
none_pass p [] h = refl
none_pass p (x ∷ xs) h = (λ i. cond (h x i) (x ∷ filter p xs) (filter p xs)) ∙ none_pass p xs h

module _ (m : Mix) (limit least greatest : ℤ) (t : Term) where
  -- the other terms are fixed
  pub drops_fixed : is_same (least -ℤ least_of (hull m) t) (greatest -ℤ greatest_of (hull m) t) ≡ true
      → term_drops m limit least greatest t ≡ map (λ z. (t.1, z)) (filter (λ z. is_product t.0 z (limit -ℤ (least -ℤ least_of (hull m) t))) (values_of (dom_of m t.1)))
  unfolding makes_limit
  drops_fixed e =
      let room = limit -ℤ (least -ℤ least_of (hull m) t) in
      ap (map (λ z. (t.1, z))) (filter_agree (makes_limit (hull m) limit least greatest t) (λ z. is_product t.0 z room) (λ z. (λ i. e i && is_product t.0 z room)) (values_of (dom_of m t.1)))

  -- they aren't
  pub drops_open : is_same (least -ℤ least_of (hull m) t) (greatest -ℤ greatest_of (hull m) t) ≡ false → term_drops m limit least greatest t ≡ []
  unfolding makes_limit
  drops_open e =
      let room = limit -ℤ (least -ℤ least_of (hull m) t) in
      ap (map (λ z. (t.1, z))) (none_pass (makes_limit (hull m) limit least greatest t) (values_of (dom_of m t.1)) (λ z. (λ i. e i && is_product t.0 z room)))

-- the literal is out, or not
module _ (m : Mix) (l : Lit) (limit least greatest : ℤ) where
  drops_out_of : is_out l (hull m) ≡ true → (t : Term) → dropped m (term_removal l limit least greatest (hull m) t) ≡ term_drops m limit least greatest t
  drops_out_of e t = ap (map (λ z. (t.1, z))) (filter_agree (λ z. is_out l (hull m) && makes_limit (hull m) limit least greatest t z) (makes_limit (hull m) limit least greatest t)
      (λ z. (λ i. e i && makes_limit (hull m) limit least greatest t z)) (values_of (dom_of m t.1)))

  drops_in_of : is_out l (hull m) ≡ false → (t : Term) → dropped m (term_removal l limit least greatest (hull m) t) ≡ []
  drops_in_of e t = ap (map (λ z. (t.1, z))) (none_pass (λ z. is_out l (hull m) && makes_limit (hull m) limit least greatest t z) (values_of (dom_of m t.1))
      (λ z. (λ i. e i && makes_limit (hull m) limit least greatest t z)))

  pub drops_out : is_out l (hull m) ≡ true → (ts : List Term)
      → flat_map (dropped m) (map (term_removal l limit least greatest (hull m)) ts) ≡ flat_map (term_drops m limit least greatest) ts
  drops_out e [] = refl
  drops_out e (t ∷ ts) = let first = drops_out_of e t in let rest = drops_out e ts in (λ i. first i ++ rest i)

  pub drops_in : is_out l (hull m) ≡ false → (ts : List Term) → flat_map (dropped m) (map (term_removal l limit least greatest (hull m)) ts) ≡ []
  drops_in e [] = refl
  drops_in e (t ∷ ts) = let first = drops_in_of e t in let rest = drops_in e ts in (λ i. first i ++ rest i)
