-- What is seen of a kernel in a box and holds in all boxes inside.
use Rattle.std.proofs.Common.{◌≡◌, ℕ, zero, suc, ◌<◌, List, [], ◌∷◌, length, get_or, true, ℤ, pos, ◌*ℤ◌, ◌≤ℤ◌, ◌<ℤ◌, ◌⊎◌, inl, inr, ⊎_elim, to_z, of_z, refl, sym, subst, ap, arith}
use Rattle.std.proofs.lemmas.Int.{ints, clamps}
use Rattle.std.proofs.lemmas.List.{length-map, get_or-map}
use Rattle.std.specs.Int.RustNames.{int_lt}
use Rattle.std.specs.List.{All}
use mir.Syntax.{w64}
use Rattle.tells.specs.declared.tell.Lit.{Lit}
use Rattle.interval.specs.Limits.{IsBound, bound_limit, largest_number, ClampOrder}
use Rattle.interval.specs.Quotients.{QuotientOrder}
use Rattle.interval.specs.Boxes.{Bounds, low_of, high_of, IsInside}
use Rattle.guarded_tell.specs.Words.{Keeps, is_sure, is_out, AreVariables, IsProperIn}
use Rattle.sum_tells.specs.Linear.{IsLinear, least_of, greatest_of}
use Rattle.clause_tells.specs.Clause.{clause_vars}
use Rattle.small_sums.specs.declared.pairs.Pair.{Pair}
use Rattle.guarded_tell.specs.declared.kernel.Kernel.{Kernel}
use Rattle.guarded_tell.specs.declared.kernel.Kernel.TheVariants.{Eq, Clause}
use Rattle.kernel_visits.specs.declared.shape.Shape.TheVariants.{AtMost, Same, Either, Triple}
use Rattle.small_sums.specs.Short.{IsPairUnequalQuiet}
use Rattle.kernel_visits.specs.Open.{AreTwoOpen}
use Rattle.guarded_tell.specs.Kernels.{vars_of, tells, HasNumbers, IsKernel, IsClosedUnder}
use Rattle.kernel_visits.specs.Shapes.{IsDifferenceIn, IsShapeOf}
use Rattle.kernel_visits.specs.Rests.{IsFixedAt, IsEntailed, IsQuietUntilFixed, IsAtMostSettled, IsNeverSame, IsOpenUnequal, IsSureAt}
use Rattle.tell_laws.proofs.LiteralLaws.{by_bool, sure_inside, out_inside}
use Rattle.small_sums.proofs.PairLaws.{plain_term, opposite_term}
use Rattle.small_sums.proofs.QuietLaws.{not_sure}
use Rattle.kernel_visits.proofs.ShapeQuiet.{HasPlaces, at_most_places, same_places, either_places, triple_places, at_most_shape, same_shape}
use Rattle.kernel_visits.proofs.ClauseQuiet.{sure_quiet}
use Rattle.kernel_visits.proofs.OpenLaws.{open_term, open_quiet}

-- the bounds of a variable in a box inside
pub record Lies (b c : Bounds) (v : ℕ) : Type 0 where
  pub low : low_of b v ≤ℤ low_of c v
  pub proper : low_of c v ≤ℤ high_of c v
  pub high : high_of c v ≤ℤ high_of b v

pub lies : (b c : Bounds) (v : ℕ) → IsInside c b → v < length b → low_of c v ≤ℤ high_of c v → Lies b c v
lies b c v inside there proper = record { low = inside.lows v there; proper = proper; high = inside.highs v there }

pub sure_lies : (b c : Bounds) (l : Lit) → Lies b c l.var → is_sure l b ≡ true → is_sure l c ≡ true
sure_lies b c l w = sure_inside c b l w.low w.proper w.high

pub out_lies : (b c : Bounds) (l : Lit) → Lies b c l.var → is_out l b ≡ true → is_out l c ≡ true
out_lies b c l w = out_inside c b l w.low w.proper w.high

pub low_bound : (b c : Bounds) (v : ℕ) → Lies b c v → IsBound (low_of b v) → IsBound (high_of b v) → IsBound (low_of c v)
unfolding bound_limit largest_number
low_bound b c v w p q = let x = w.low in let y = w.proper in let z = w.high in omega (arith, ints)

pub high_bound : (b c : Bounds) (v : ℕ) → Lies b c v → IsBound (low_of b v) → IsBound (high_of b v) → IsBound (high_of c v)
unfolding bound_limit largest_number
high_bound b c v w p q = let x = w.low in let y = w.proper in let z = w.high in omega (arith, ints)

-- ---- the two terms of a difference in a box inside

pub record Terms (b c : Bounds) (x y : ℕ) (p : Pair) : Type 0 where
  pub now : Pair
  pub are : IsDifferenceIn c x y now
  pub first_least : p.first.least ≤ℤ now.first.least
  pub first_greatest : now.first.greatest ≤ℤ p.first.greatest
  pub second_least : p.second.least ≤ℤ now.second.least
  pub second_greatest : now.second.greatest ≤ℤ p.second.greatest
  pub first_proper : now.first.least ≤ℤ now.first.greatest
  pub second_proper : now.second.least ≤ℤ now.second.greatest

terms : (b c : Bounds) (x y : ℕ) (p : Pair) → IsDifferenceIn b x y p → Lies b c x → Lies b c y → Terms b c x y p
unfolding least_of greatest_of
terms b c x y p within u w =
    let first = plain_term c x (low_of c x) (high_of c x) (low_bound b c x u within.first.bounds.low within.first.bounds.high) (high_bound b c x u within.first.bounds.low within.first.bounds.high) refl refl u.proper in
    let second = opposite_term c y (low_of c y) (high_of c y) (low_bound b c y w within.second.bounds.low within.second.bounds.high) (high_bound b c y w within.second.bounds.low within.second.bounds.high) refl refl w.proper in
    let u1 = u.low in let u2 = u.proper in let u3 = u.high in
    let w1 = w.low in let w2 = w.proper in let w3 = w.high in
    let a1 = within.first.least in let a2 = within.first.greatest in
    let a3 = within.second.least in let a4 = within.second.greatest in
    let b1 = first.least in let b2 = first.greatest in
    let b3 = second.least in let b4 = second.greatest in
    record {
      now = record { first = _; second = _ };
      are = record { first = first; second = second };
      first_least = omega (arith, ints, clamps);
      first_greatest = omega (arith, ints, clamps);
      second_least = omega (arith, ints, clamps);
      second_greatest = omega (arith, ints, clamps);
      first_proper = omega (arith, ints, clamps);
      second_proper = omega (arith, ints, clamps);
    }

-- a term that isn't fixed has a variable that isn't
open_plain : (c : Bounds) (x y : ℕ) (p : Pair) → IsDifferenceIn c x y p → low_of c x <ℤ high_of c x → p.first.least <ℤ p.first.greatest
unfolding least_of greatest_of
open_plain c x y p within h = let l = within.first.least in let g = within.first.greatest in omega (arith, ints, clamps)

open_opposite : (c : Bounds) (x y : ℕ) (p : Pair) → IsDifferenceIn c x y p → low_of c y <ℤ high_of c y → p.second.least <ℤ p.second.greatest
unfolding least_of greatest_of
open_opposite c x y p within h = let l = within.second.least in let g = within.second.greatest in omega (arith, ints, clamps)

plain_open : (b : Bounds) (x y : ℕ) (p : Pair) → IsDifferenceIn b x y p → p.first.least <ℤ p.first.greatest → low_of b x ≡ high_of b x → ⊥
unfolding least_of greatest_of
plain_open b x y p within h e = let l = within.first.least in let g = within.first.greatest in omega (arith, ints, clamps)

opposite_open : (b : Bounds) (x y : ℕ) (p : Pair) → IsDifferenceIn b x y p → p.second.least <ℤ p.second.greatest → low_of b y ≡ high_of b y → ⊥
unfolding least_of greatest_of
opposite_open b x y p within h e = let l = within.second.least in let g = within.second.greatest in omega (arith, ints, clamps)

-- where no other variable is fixed, one that wasn't fixed isn't
still_open : (b c : Bounds) (v : ℕ) → low_of c v ≤ℤ high_of c v → (IsFixedAt c v → IsFixedAt b v) → (IsFixedAt b v → ⊥) → low_of c v <ℤ high_of c v
still_open b c v proper fixes unfixed =
    by_bool (int_lt (low_of c v) (high_of c v))
    (λ t. omega (arith, ints))
    (λ t. let e : low_of c v ≡ high_of c v = omega (arith, ints) in absurd (unfixed (fixes e)))

-- a term that isn't fixed has a coefficient that isn't 0, and a variable that isn't fixed
term_open : (b : Bounds) (a : ℤ) (x : ℕ) → least_of b (a, x) <ℤ greatest_of b (a, x) → (a ≡ pos 0 → ⊥) × (low_of b x ≡ high_of b x → ⊥)
unfolding least_of greatest_of
term_open b a x h = (coefficient, variable)
  where
    coefficient : a ≡ pos 0 → ⊥
    coefficient e =
        let none : least_of b (pos 0, x) <ℤ greatest_of b (pos 0, x) = subst (λ (z : ℤ). least_of b (z, x) <ℤ greatest_of b (z, x)) e h in
        omega (arith, ints, clamps, none)

    variable : low_of b x ≡ high_of b x → ⊥
    variable e =
        let p : (a *ℤ low_of b x) ≡ (a *ℤ high_of b x) = ap (λ z. a *ℤ z) e in
        omega (arith, ints, clamps)

-- what is so of the variables of a difference
same_fixes : (k : Kernel) (l : Lit) (x y : ℕ) (limit : ℤ) (F : ℕ → Type 0) → IsShapeOf k (Same l x y limit) → All F (vars_of k) → F x × F y
unfolding IsShapeOf vars_of
same_fixes k l x y limit F (cs, vs, e, inl (f, g)) all =
    let vars : All F (l.var ∷ vs) = subst (λ (j : Kernel). All F (vars_of j)) e all in
    let three : All F (l.var ∷ x ∷ y ∷ []) = subst (λ (v : List ℕ). All F (l.var ∷ v)) g vars in
    (three 1 0 (omega arith), three 2 0 (omega arith))
same_fixes k l x y limit F (cs, vs, e, inr (f, g)) all =
    let vars : All F (l.var ∷ vs) = subst (λ (j : Kernel). All F (vars_of j)) e all in
    let three : All F (l.var ∷ y ∷ x ∷ []) = subst (λ (v : List ℕ). All F (l.var ∷ v)) g vars in
    (three 2 0 (omega arith), three 1 0 (omega arith))

-- the variable of a clause's literal is one of the clause
literal_at : (lits : List Lit) (i : ℕ) (d : Lit) → i < length lits → (i < length (clause_vars lits)) × (get_or (clause_vars lits) i 0 ≡ (get_or lits i d).var)
unfolding clause_vars
literal_at [] i d h = absurd (omega arith)
literal_at (l ∷ ls) zero d h = (omega arith, refl)
literal_at (l ∷ ls) (suc i) d h =
    (omega (arith, length-map ls (λ (m : Lit). m.var)), get_or-map (λ (m : Lit). m.var) ls i d 0 (omega arith))

pub literals_all : (n : ℕ) (lits : List Lit) → AreVariables n (clause_vars lits) → All (λ l. l.var < n) lits
literals_all n lits vars i d h = let at = literal_at lits i d h in subst (λ (v : ℕ). v < n) at.1 (vars.each i at.0)

module _ (quotients : QuotientOrder) (clamped : ClampOrder) (b : Bounds) (k : Kernel) (kernel : IsKernel (length b) k) where
  pub kernel_in : (c : Bounds) → IsInside c b → IsKernel (length c) k
  kernel_in c inside = subst (λ (n : ℕ). IsKernel n k) (sym inside.same_length) kernel

  module _ (l : Lit) (x y : ℕ) (limit : ℤ) (p : Pair) (within : IsDifferenceIn b x y p) where
    -- what stands in a box inside
    pub record Found (c : Bounds) : Type 0 where
      pub literal : Lies b c l.var
      pub terms : Terms b c x y p

    pub found : (c : Bounds) → IsInside c b → HasPlaces c l x y → Found c
    found c inside places =
        let same = inside.same_length in
        let a = places.literal in let d = places.first in let e = places.second in
        record {
          literal = lies b c l.var inside (omega arith) places.literal_proper;
          terms = terms b c x y p within (lies b c x inside (omega arith) places.first_proper) (lies b c y inside (omega arith) places.second_proper);
        }

    pub at_most_entailed : IsShapeOf k (AtMost l x y limit) → IsAtMostSettled b l (to_z w64 (of_z w64 limit)) p → IsEntailed k b
    at_most_entailed shape (inl (sure, le)) c inside prop =
        let kc = kernel_in c inside in
        let f = found c inside (at_most_places k c l x y limit kc prop shape) in
        let t = f.terms in
        let s = sure_lies b c l f.literal sure in
        let g1 = t.first_greatest in let g2 = t.second_greatest in let o1 = t.first_proper in let o2 = t.second_proper in
        record {
          proper = prop;
          kept = at_most_shape quotients clamped c k kc l x y limit t.now t.are shape (record {
            sure_first = λ e. omega (arith, ints);
            sure_second = λ e. omega (arith, ints);
            out_first = λ e o. absurd (cc);
            out_second = λ e o. absurd (cc);
            open_low = λ e o. absurd (cc);
            open_high = λ e o. absurd (cc);
          });
        }
    at_most_entailed shape (inr (out, more)) c inside prop =
        let kc = kernel_in c inside in
        let f = found c inside (at_most_places k c l x y limit kc prop shape) in
        let t = f.terms in
        let s = out_lies b c l f.literal out in
        let u = not_sure clamped c l s in
        let g1 = t.first_least in let g2 = t.second_least in let o1 = t.first_proper in let o2 = t.second_proper in
        record {
          proper = prop;
          kept = at_most_shape quotients clamped c k kc l x y limit t.now t.are shape (record {
            sure_first = λ e. absurd (cc);
            sure_second = λ e. absurd (cc);
            out_first = λ e o. omega (arith, ints);
            out_second = λ e o. omega (arith, ints);
            open_low = λ e o. absurd (cc);
            open_high = λ e o. absurd (cc);
          });
        }

    -- an equation that must not hold, where neither term's being fixed makes the limit a sum
    unequal : (c : Bounds) → IsInside c b → (prop : IsProperIn (vars_of k) c) → IsShapeOf k (Same l x y limit) → (t : Pair) → IsDifferenceIn c x y t → is_out l c ≡ true
        → IsPairUnequalQuiet (to_z w64 (of_z w64 limit)) t → IsClosedUnder k c
    unequal c inside prop shape t are s quiet =
        let kc = kernel_in c inside in
        let u = not_sure clamped c l s in
        record {
          proper = prop;
          kept = same_shape quotients clamped c k kc l x y limit t are shape (record {
            sure_first = λ e. absurd (cc);
            sure_second = λ e. absurd (cc);
            out = λ e o. quiet;
            open_low = λ e o. absurd (cc);
            open_high = λ e o. absurd (cc);
            open_wide = λ e o. absurd (cc);
          });
        }

    pub same_entailed : IsShapeOf k (Same l x y limit) → IsNeverSame b l (to_z w64 (of_z w64 limit)) p → IsEntailed k b
    same_entailed shape (out, inl below) c inside prop =
        let f = found c inside (same_places k c l x y limit (kernel_in c inside) prop shape) in
        let t = f.terms in
        let g1 = t.first_least in let g2 = t.second_least in let o1 = t.first_proper in let o2 = t.second_proper in
        unequal c inside prop shape t.now t.are (out_lies b c l f.literal out) (record {
          first_low = λ h e. omega (arith, ints);
          first_high = λ h e. omega (arith, ints);
          second_low = λ h e. omega (arith, ints);
          second_high = λ h e. omega (arith, ints);
        })
    same_entailed shape (out, inr above) c inside prop =
        let f = found c inside (same_places k c l x y limit (kernel_in c inside) prop shape) in
        let t = f.terms in
        let g1 = t.first_greatest in let g2 = t.second_greatest in let o1 = t.first_proper in let o2 = t.second_proper in
        unequal c inside prop shape t.now t.are (out_lies b c l f.literal out) (record {
          first_low = λ h e. omega (arith, ints);
          first_high = λ h e. omega (arith, ints);
          second_low = λ h e. omega (arith, ints);
          second_high = λ h e. omega (arith, ints);
        })

    pub same_until_fixed : IsShapeOf k (Same l x y limit) → IsOpenUnequal b l p → IsQuietUntilFixed k b
    same_until_fixed shape (out, one, other) c inside prop fixes =
        let places = same_places k c l x y limit (kernel_in c inside) prop shape in
        let f = found c inside places in
        let t = f.terms in
        let each = same_fixes k l x y limit (λ v. IsFixedAt c v → IsFixedAt b v) shape fixes in
        let first = open_plain c x y t.now t.are (still_open b c x places.first_proper each.0 (plain_open b x y p within one)) in
        let second = open_opposite c x y t.now t.are (still_open b c y places.second_proper each.1 (opposite_open b x y p within other)) in
        unequal c inside prop shape t.now t.are (out_lies b c l f.literal out) (record {
          first_low = λ h e. omega (arith, ints);
          first_high = λ h e. omega (arith, ints);
          second_low = λ h e. omega (arith, ints);
          second_high = λ h e. omega (arith, ints);
        })

  -- ---- clauses

  pub either_entailed : (l m : Lit) → IsShapeOf k (Either l m) → (is_sure l b ≡ true) ⊎ (is_sure m b ≡ true) → IsEntailed k b
  unfolding IsShapeOf tells
  either_entailed l m shape sure c inside prop =
      let kc = kernel_in c inside in
      let places = either_places k c l m kc prop shape in
      let same = inside.same_length in
      let a = places.first in let d = places.second in
      let first = lies b c l.var inside (omega arith) places.first_proper in
      let second = lies b c m.var inside (omega arith) places.second_proper in
      let lits : List Lit = l ∷ m ∷ [] in
      record {
        proper = prop;
        kept = subst (λ (j : Kernel). All (Keeps c) (tells j c)) (sym shape)
            (⊎_elim
            (λ s. sure_quiet clamped c lits 0 l (omega arith) (sure_lies b c l first s))
            (λ s. sure_quiet clamped c lits 1 l (omega arith) (sure_lies b c m second s))
            sure);
      }

  pub triple_entailed : (l m n : Lit) → IsShapeOf k (Triple l m n) → (is_sure l b ≡ true) ⊎ ((is_sure m b ≡ true) ⊎ (is_sure n b ≡ true)) → IsEntailed k b
  unfolding IsShapeOf tells
  triple_entailed l m n shape sure c inside prop =
      let kc = kernel_in c inside in
      let places = triple_places k c l m n kc prop shape in
      let same = inside.same_length in
      let a = places.first in let d = places.second in let f = places.third in
      let first = lies b c l.var inside (omega arith) places.first_proper in
      let second = lies b c m.var inside (omega arith) places.second_proper in
      let third = lies b c n.var inside (omega arith) places.third_proper in
      let lits : List Lit = l ∷ m ∷ n ∷ [] in
      record {
        proper = prop;
        kept = subst (λ (j : Kernel). All (Keeps c) (tells j c)) (sym shape)
            (⊎_elim
            (λ s. sure_quiet clamped c lits 0 l (omega arith) (sure_lies b c l first s))
            (⊎_elim
            (λ s. sure_quiet clamped c lits 1 l (omega arith) (sure_lies b c m second s))
            (λ s. sure_quiet clamped c lits 2 l (omega arith) (sure_lies b c n third s)))
            sure);
      }

  pub clause_entailed : (lits : List Lit) (place : ℕ) → k ≡ Clause lits → IsSureAt lits place b → IsEntailed k b
  unfolding tells vars_of
  clause_entailed lits place e (there, sure) c inside prop =
      let d : Lit = get_or lits place (record { var = 0; positive = true }) in
      let proper_all : IsProperIn (clause_vars lits) c = subst (λ (j : Kernel). IsProperIn (vars_of j) c) e prop in
      let vars : AreVariables (length b) (clause_vars lits) = subst (λ (j : Kernel). AreVariables (length b) (vars_of j)) e kernel.variables in
      let at = literal_at lits place (record { var = 0; positive = true }) there in
      let within : d.var < length b = subst (λ (v : ℕ). v < length b) at.1 (vars.each place at.0) in
      let left : low_of c d.var ≤ℤ high_of c d.var = subst (λ (v : ℕ). low_of c v ≤ℤ high_of c v) at.1 (proper_all place at.0) in
      record {
        proper = prop;
        kept = subst (λ (j : Kernel). All (Keeps c) (tells j c)) (sym e)
            (sure_quiet clamped c lits place (record { var = 0; positive = true }) there (sure_lies b c d (lies b c d.var inside within left) (sure (record { var = 0; positive = true }))));
      }

  -- ---- sums that must not be the limit

  pub sum_until_fixed : (l : Lit) (coeffs : List ℤ) (vars : List ℕ) (limit : ℤ) → k ≡ Eq l coeffs vars limit → is_out l b ≡ true → AreTwoOpen b coeffs vars → IsQuietUntilFixed k b
  unfolding tells vars_of HasNumbers
  sum_until_fixed l coeffs vars limit e out o c inside prop fixes =
      let linear : IsLinear coeffs vars limit = subst (λ (j : Kernel). HasNumbers j) e kernel.numbers in
      let proper_all : IsProperIn (l.var ∷ vars) c = subst (λ (j : Kernel). IsProperIn (vars_of j) c) e prop in
      let there : AreVariables (length b) (l.var ∷ vars) = subst (λ (j : Kernel). AreVariables (length b) (vars_of j)) e kernel.variables in
      let fixes_all : All (λ v. IsFixedAt c v → IsFixedAt b v) (l.var ∷ vars) = subst (λ (j : Kernel). All (λ v. IsFixedAt c v → IsFixedAt b v) (vars_of j)) e fixes in
      let literal = lies b c l.var inside (there.each 0 (omega arith)) (proper_all 0 (omega arith)) in
      let s = out_lies b c l literal out in
      let len = linear.same_length in
      let rise = o.rising in let in_all = o.inside in
      let open_at : (i : ℕ) → i < length vars → least_of b (get_or coeffs i (pos 0), get_or vars i 0) <ℤ greatest_of b (get_or coeffs i (pos 0), get_or vars i 0)
      → least_of c (get_or coeffs i (pos 0), get_or vars i 0) <ℤ greatest_of c (get_or coeffs i (pos 0), get_or vars i 0) =
      λ i h lt.
      let was = term_open b (get_or coeffs i (pos 0)) (get_or vars i 0) lt in
      open_term c (get_or coeffs i (pos 0)) (get_or vars i 0) was.0
      (still_open b c (get_or vars i 0) (proper_all (suc i) (omega arith)) (fixes_all (suc i) 0 (omega arith)) was.1) in
      record {
        proper = prop;
        kept = subst (λ (j : Kernel). All (Keeps c) (tells j c)) (sym e)
            (open_quiet clamped c l coeffs vars limit linear.same_length (not_sure clamped c l s) s (record {
              first = o.first;
              second = o.second;
              rising = o.rising;
              inside = o.inside;
              first_open = open_at o.first (omega arith) o.first_open;
              second_open = open_at o.second (omega arith) o.second_open;
            }));
      }

pub entailed_rests : (k : Kernel) (b : Bounds) → IsEntailed k b → IsQuietUntilFixed k b
entailed_rests k b e c inside prop fixes = e c inside prop
