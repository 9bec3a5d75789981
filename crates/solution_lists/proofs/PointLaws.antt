-- The closed points inside the start are the model's solutions.
use Rattle.std.proofs.Common.{◌≡◌, ◌↔◌, ℕ, suc, ℤ, ◌<◌, ◌≤ℤ◌, List, [], ◌∷◌, ◌++◌, length, get_or, take, drop, refl, sym, ap, subst, ◌∙◌, arith}
use Rattle.std.specs.List.{All}
use Rattle.std.proofs.lemmas.Int.{ints}
use Rattle.interval.specs.Limits.{IsNumber}
use Rattle.interval.specs.Boxes.{Bounds, low_of, high_of, IsInRange, IsInside, IsPoint, IsProper, InsideOrder}
use Rattle.guarded_tell.specs.declared.kernel.Kernel.{Kernel}
use Rattle.guarded_tell.specs.Words.{point_of}
use Rattle.guarded_tell.specs.Kernels.{Holds, IsKernel, IsClosedUnder}
use Rattle.fixpoint_laws.specs.Fixpoints.{IsClosed}
use Rattle.constraint_model.specs.declared.model.VarDecl.{VarDecl}
use Rattle.constraint_model.specs.declared.model.FznModel.{FznModel}
use Rattle.constraint_model.specs.Relations.{IsWithin}
use Rattle.constraint_model.specs.WellFormed.{constants_of}
use Rattle.decompose.specs.declared.program.Program.{Program}
use Rattle.decompose.specs.Program.{fixed_box, extended, Extends, IsProgramOf}
use Rattle.branching.specs.Tree.{values_of, IsSolutionIn, ListsSolutions, EachOnce}
use Rattle.solution_lists.specs.Solutions.{SolvesInside, PointSolves, SolutionsAreListed}
use Rattle.solution_lists.proofs.StartLaws.{low_fixed, high_fixed, long_inside, constants_inside}

-- a point within the range is closed under a kernel exactly where the kernel holds on it
abbrev pub PointLaw : Type 0
PointLaw = (k : Kernel) (b : Bounds) → IsKernel (length b) k → IsInRange b → IsPoint b →
    ((v : ℕ) → v < length b → IsNumber (low_of b v)) → IsClosedUnder k b ↔ Holds k (point_of b)

-- ---- points and lists of numbers

fixed_point : (xs : List ℤ) → IsPoint (fixed_box xs)
fixed_point xs v h = low_fixed xs v ∙ sym (high_fixed xs v)

equal_le : (x y : ℤ) → x ≡ y → x ≤ℤ y
equal_le x y e = omega (arith, ints)

proper_point : (b : Bounds) → IsPoint b → IsProper b
proper_point b p v h = equal_le (low_of b v) (high_of b v) (p v h)

point_fixed : (xs : List ℤ) → point_of (fixed_box xs) ≡ xs
point_fixed [] = refl
point_fixed (x ∷ xs) = ap (λ (ys : List ℤ). x ∷ ys) (point_fixed xs)

-- a point is the box of its numbers
fixed_of_point : (b : Bounds) → IsPoint b → fixed_box (point_of b) ≡ b
fixed_of_point [] p = refl
fixed_of_point ((x, y) ∷ b) p =
    let e : x ≡ y = p 0 (omega arith) in
    ap (λ (z : ℤ). (x, z) ∷ fixed_box (point_of b)) e ∙ ap (λ (c : Bounds). (x, y) ∷ c) (fixed_of_point b (λ v h. p (suc v) (omega arith)))

number_between : (low z high : ℤ) → IsNumber low → IsNumber high → low ≤ℤ z → z ≤ℤ high → IsNumber z
number_between low z high l h a b = omega (arith, ints)

within_length : (a : List ℤ) (vars : List VarDecl) → IsWithin a vars → length a ≡ length vars
within_length [] [] h = refl
within_length [] (d ∷ ds) h = absurd h
within_length (z ∷ zs) [] h = absurd h
within_length (z ∷ zs) (d ∷ ds) h = ap suc (within_length zs ds h.2)

take_front : (xs ys : List ℤ) → take (length xs) (xs ++ ys) ≡ xs
take_front [] ys = refl
take_front (x ∷ xs) ys = ap (λ (zs : List ℤ). x ∷ zs) (take_front xs ys)

-- ---- the points inside the start

module _ (order : InsideOrder) (point : PointLaw) (model : FznModel) (program : Program) (f : IsProgramOf model program) where
  -- the declared variables' numbers of an extension are those of the assignment
  values_extended : (p : Bounds) (a : List ℤ) → IsWithin a model.vars → point_of p ≡ extended model a → a ≡ values_of model p
  values_extended p a w e =
      sym (take_front a (constants_of model)) ∙ ap (λ (n : ℕ). take n (a ++ constants_of model)) (within_length a model.vars w)
      ∙ ap (λ (xs : List ℤ). take (length model.vars) (drop 1 xs)) (sym e)

  -- a point inside the start is closed exactly where the constraints hold on its numbers
  module _ (p : Bounds) (is_point : IsPoint p) (i : IsInside p program.start) where
    range : IsInRange p
    range = order.in_range p program.start (proper_point p is_point) f.in_range i

    fits : All (IsKernel (length p)) program.kernels
    fits = subst (λ (n : ℕ). All (IsKernel n) program.kernels) (sym i.same_length) f.can_run

    numbers : (v : ℕ) → v < length p → IsNumber (low_of p v)
    numbers v h =
        let m : v < length program.start = let e = i.same_length in omega arith in
        let n = f.bounds v m in
        number_between (low_of program.start v) (low_of p v) (high_of program.start v) n.0 n.1 (i.lows v m)
        (subst (λ (z : ℤ). z ≤ℤ high_of program.start v) (sym (is_point v h)) (i.highs v m))

    closed_where_held : (numbers_of : List ℤ) → point_of p ≡ numbers_of → IsClosed p program.kernels ↔ All (λ k. Holds k numbers_of) program.kernels
    closed_where_held xs e = (
      λ c j d l. subst (Holds (get_or program.kernels j d)) e ((point (get_or program.kernels j d) p (fits j d l) range is_point numbers).0 (c.quiet j d l)),
      λ h. record {
        proper = proper_point p is_point;
        quiet = λ j d l. (point (get_or program.kernels j d) p (fits j d l) range is_point numbers).1 (subst (Holds (get_or program.kernels j d)) (sym e) (h j d l));
      },
    )

    -- it is the extension of an assignment within the declared bounds
    extends : Extends model (point_of p)
    extends = (f.points (point_of p)).0 (subst (λ (c : Bounds). IsInside c program.start) (sym (fixed_of_point p is_point)) i)

  solves : (b : Bounds) (a : List ℤ) → IsInside b program.start → IsSolutionIn model program.kernels b a → SolvesInside model b a
  solves b a i s = subst (SolvesInside model b) (values_extended s.point x.assignment x.within x.is_extension ∙ sym s.is_values) (record {
    solves = record { within = x.within; holds = (f.meaning x.assignment x.within).0 ((closed_where_held s.point s.is_point inside (extended model x.assignment) x.is_extension).0 s.closed) };
    inside = subst (λ (c : Bounds). IsInside c b) (sym (fixed_of_point s.point s.is_point) ∙ ap fixed_box x.is_extension) s.inside;
  })
    where
      inside : IsInside s.point program.start
      inside = order.through s.point b program.start s.inside i

      x : Extends model (point_of s.point)
      x = extends s.point s.is_point inside

  solved : (b : Bounds) (a : List ℤ) → IsInside b program.start → SolvesInside model b a → IsSolutionIn model program.kernels b a
  solved b a i s =
      let p = fixed_box (extended model a) in
      let inside = order.through p b program.start s.inside i in
      record {
        point = p;
        is_point = fixed_point (extended model a);
        closed = (closed_where_held p (fixed_point (extended model a)) inside (extended model a) (point_fixed (extended model a))).1 ((f.meaning a s.solves.within).1 s.solves.holds);
        inside = s.inside;
        is_values = values_extended p a s.solves.within (point_fixed (extended model a));
      }

pub point_solves : InsideOrder → PointLaw → PointSolves
point_solves order point model program b a f i = (solves order point model program f b a i, solved order point model program f b a i)

-- ---- the lists

pub solutions_listed : PointSolves → EachOnce → SolutionsAreListed
solutions_listed law each model program b found f rule range i s = record {
  each = λ a. (λ c. (law model program b a f i).0 ((listed.each a).0 c), λ h. (listed.each a).1 ((law model program b a f i).1 h));
  once = listed.once;
}
  where
    listed : ListsSolutions model program.kernels b found
    listed = each model program.kernels b found rule (long_inside model program f b i) range (constants_inside model program f b i) s
