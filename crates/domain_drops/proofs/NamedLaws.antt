-- A kernel removes numbers from its own variables.
use Rattle.std.proofs.Common.{◌≡◌, ℕ, suc, ◌<◌, List, [], ◌∷◌, length, map, get_or, ℤ, pos, refl, sym, ap, subst, arith}
use Rattle.std.proofs.lemmas.List.{get_or_default}
use Rattle.std.proofs.lemmas.List.Elements.{All-nil, All-cons}
use Rattle.std.specs.List.{All, Contains, zip}
use Rattle.tells.specs.declared.tell.Lit.{Lit}
use Rattle.interval.specs.Boxes.{Bounds}
use Rattle.guarded_tell.specs.declared.kernel.Kernel.{Kernel}
use Rattle.guarded_tell.specs.declared.kernel.Kernel.TheVariants.{Le, Eq, Times, Div, Mod, Abs, Max, Min, Clause, Element, InSet, AllDiff, Cumulative}
use Rattle.sum_tells.specs.Linear.{Term, least_of, greatest_of, sum_over}
use Rattle.guarded_tell.specs.Kernels.{vars_of, HasNumbers}
use Rattle.domain_drops.specs.Removals.{Removal, term_removal, equation_removals, set_removal, place_removal, removals}
use Rattle.domain_drops.proofs.TermLaws.{length-zip, get_or-zip}

abbrev pub AreNamed : List ℕ → List Removal → Type 0
AreNamed vars rs = All (λ r. Contains vars r.var) rs

named_map : (vars : List ℕ) (f : Term → Removal) (ts : List Term) → ((i : ℕ) → i < length ts → Contains vars (f (get_or ts i (pos 0, 0))).var) → AreNamed vars (map f ts)
named_map vars f [] h = All-nil _
named_map vars f (t ∷ ts) h = All-cons (λ r. Contains vars r.var) (f t) (map f ts) (h 0 (omega arith)) (named_map vars f ts (λ i l. h (suc i) (omega arith)))

equation_named : (l : Lit) (coeffs : List ℤ) (vars : List ℕ) (limit : ℤ) (b : Bounds) → length coeffs ≡ length vars → AreNamed (l.var ∷ vars) (equation_removals l (zip coeffs vars) limit b)
equation_named l coeffs vars limit b same =
    named_map (l.var ∷ vars) (term_removal l limit (sum_over (least_of b) (zip coeffs vars)) (sum_over (greatest_of b) (zip coeffs vars)) b) (zip coeffs vars) (λ i h.
    let few : i < length vars = omega (arith, length-zip coeffs vars same) in
    let e : (get_or (zip coeffs vars) i (pos 0, 0)).1 ≡ get_or vars i 0 = ap (λ (t : Term). t.1) (get_or-zip coeffs vars i same) in
    subst (Contains (l.var ∷ vars)) (sym e) (suc i, omega arith, get_or_default vars i (get_or vars i 0) 0 few))

pub named : (k : Kernel) (b : Bounds) → HasNumbers k → AreNamed (vars_of k) (removals k b)
unfolding vars_of HasNumbers removals
named (Le l coeffs vars limit) b n = All-nil _
named (Eq l coeffs vars limit) b n = equation_named l coeffs vars limit b n.same_length
named (Times x y z) b n = All-nil _
named (Div x y z) b n = All-nil _
named (Mod x y z) b n = All-nil _
named (Abs x y) b n = All-nil _
named (Max m xs) b n = All-nil _
named (Min m xs) b n = All-nil _
named (Clause lits) b n = All-nil _
named (Element x entries c) b n = All-cons (λ r. Contains (x ∷ c ∷ entries) r.var) (place_removal x entries c b) [] (0, omega arith, refl) (All-nil _)
named (InSet l x ranges) b n = All-cons (λ r. Contains (l.var ∷ x ∷ []) r.var) (set_removal l x ranges b) [] (1, omega arith, refl) (All-nil _)
named (AllDiff xs) b n = All-nil _
named (Cumulative starts durations usages limit) b n = All-nil _
