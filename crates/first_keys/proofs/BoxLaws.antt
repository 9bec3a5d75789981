-- The numbers of solutions in boxes.
use Rattle.std.proofs.Common.{◌≡◌, ℕ, suc, ℤ, ◌+◌, ◌<◌, List, [], ◌∷◌, ◌++◌, length, refl, sym, ap, subst, ◌∙◌, arith}
use Rattle.std.specs.Prelude.{pos, ◌≤ℤ◌}
use Rattle.std.proofs.lemmas.List.{length-map, length-append, get_or-map, get_or_append_left, get_or-set_same}
use Rattle.interval.specs.Boxes.{Bounds, low_of, high_of, put_of, IsInside}
use Rattle.fixpoint_laws.specs.Changes.{TightensOne}
use Rattle.constraint_model.specs.declared.model.VarDecl.{VarDecl}
use Rattle.constraint_model.specs.declared.model.FznModel.{FznModel}
use Rattle.constraint_model.specs.Relations.{IsWithin}
use Rattle.constraint_model.specs.WellFormed.{constants_of}
use Rattle.decompose.specs.Program.{fixed_box, extended}
use Rattle.solution_lists.specs.Solutions.{LiesIn, SolvesInside}
use Rattle.solution_lists.specs.Order.{value_at}

within_length : (a : List ℤ) (vars : List VarDecl) → IsWithin a vars → length a ≡ length vars
within_length [] [] h = refl
within_length [] (d ∷ ds) h = absurd h
within_length (z ∷ zs) [] h = absurd h
within_length (z ∷ zs) (d ∷ ds) h = ap suc (within_length zs ds h.2)

-- a solution has a number for each declared variable
pub solution_length : (model : FznModel) (b : Bounds) (a : List ℤ) → SolvesInside model b a → length a ≡ length model.vars
solution_length model b a s = within_length a model.vars s.solves.within

low_number : (a cs : List ℤ) (v : ℕ) → v < length a → low_of (fixed_box (a ++ cs)) v ≡ value_at a v
low_number a cs v h =
    ap (λ (p : ℤ × ℤ). p.0) (get_or-map (λ (z : ℤ). (z, z)) (a ++ cs) v (pos 0) (pos 0, pos 0) (omega (arith, length-append a cs)))
    ∙ get_or_append_left a cs (pos 0) v h

high_number : (a cs : List ℤ) (v : ℕ) → v < length a → high_of (fixed_box (a ++ cs)) v ≡ value_at a v
high_number a cs v h =
    ap (λ (p : ℤ × ℤ). p.1) (get_or-map (λ (z : ℤ). (z, z)) (a ++ cs) v (pos 0) (pos 0, pos 0) (omega (arith, length-append a cs)))
    ∙ get_or_append_left a cs (pos 0) v h

box_length : (a cs : List ℤ) → length (fixed_box (pos 1 ∷ (a ++ cs))) ≡ suc (length a + length cs)
box_length a cs = ap suc (length-map (a ++ cs) (λ (z : ℤ). (z, z)) ∙ length-append a cs)

module _ (model : FznModel) (b : Bounds) (a : List ℤ) (s : SolvesInside model b a) (v : ℕ) (lt : v < length model.vars) where
  pub has_number : v < length a
  has_number = subst (λ (n : ℕ). v < n) (sym (solution_length model b a s)) lt

  pub has_pair : suc v < length b
  has_pair =
      let e = box_length a (constants_of model) in
      let f = s.inside.same_length in
      let l = has_number in
      omega (arith, e, f, l)

  -- its numbers lie between the bounds
  pub from_low : low_of b (suc v) ≤ℤ value_at a v
  from_low = subst (λ (z : ℤ). low_of b (suc v) ≤ℤ z) (low_number a (constants_of model) v has_number) (s.inside.lows (suc v) has_pair)

  pub to_high : value_at a v ≤ℤ high_of b (suc v)
  to_high = subst (λ (z : ℤ). z ≤ℤ high_of b (suc v)) (high_number a (constants_of model) v has_number) (s.inside.highs (suc v) has_pair)

  -- it stays where one of its numbers does
  pub stays : TightensOne → (low high : ℤ) → low ≤ℤ value_at a v → value_at a v ≤ℤ high → LiesIn model a (put_of b (suc v) low high)
  stays tight low high l h = tight.holds b (fixed_box (extended model a)) (suc v) low high has_pair s.inside
      (subst (λ (z : ℤ). low ≤ℤ z) (sym (low_number a (constants_of model) v has_number)) l)
      (subst (λ (z : ℤ). z ≤ℤ high) (sym (high_number a (constants_of model) v has_number)) h)

-- ---- a box with other bounds of a variable

pub put_is : (b old next : Bounds) (v w : ℕ) (low high x y : ℤ) → old ≡ b → next ≡ put_of old w x y → w ≡ suc v → x ≡ low → y ≡ high →
    next ≡ put_of b (suc v) low high
put_is b old next v w low high x y e is f g h =
    is ∙ ap (λ (c : Bounds). put_of c w x y) e ∙ ap (λ (u : ℕ). put_of b u x y) f ∙ ap (λ (z : ℤ). put_of b (suc v) z y) g
    ∙ ap (λ (z : ℤ). put_of b (suc v) low z) h

-- tighter ones
pub cut_inside : TightensOne → (b next : Bounds) (v : ℕ) (low high : ℤ) → next ≡ put_of b (suc v) low high → suc v < length b →
    low_of b (suc v) ≤ℤ low → high ≤ℤ high_of b (suc v) → IsInside next b
cut_inside tight b next v low high e lt l h =
    subst (λ (c : Bounds). IsInside c b) (sym e) (tight.inside b (suc v) low high (record { variable = lt; low_rises = l; high_falls = h }))

pub low_put : (b next : Bounds) (v : ℕ) (low high : ℤ) → next ≡ put_of b (suc v) low high → suc v < length b → low_of next (suc v) ≡ low
low_put b next v low high e lt =
    ap (λ (c : Bounds). low_of c (suc v)) e ∙ ap (λ (p : ℤ × ℤ). p.0) (get_or-set_same b (suc v) (low, high) (pos 0, pos 0) lt)

pub high_put : (b next : Bounds) (v : ℕ) (low high : ℤ) → next ≡ put_of b (suc v) low high → suc v < length b → high_of next (suc v) ≡ high
high_put b next v low high e lt =
    ap (λ (c : Bounds). high_of c (suc v)) e ∙ ap (λ (p : ℤ × ℤ). p.1) (get_or-set_same b (suc v) (low, high) (pos 0, pos 0) lt)
