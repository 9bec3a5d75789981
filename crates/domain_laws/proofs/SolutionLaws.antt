-- A solution's numbers, with the constants, are a closed mix inside the start.
use Rattle.std.proofs.Common.{◌≡◌, ◌↔◌, ℕ, zero, suc, ℤ, pos, ◌+◌, ◌<◌, ◌≤ℤ◌, refl, sym, ap, subst, ◌∙◌, arith}
use Rattle.std.proofs.Common.{List, [], ◌∷◌, ◌++◌, length, get_or, slice_index_or, length-append}
use Rattle.std.specs.List.{All}
use Rattle.std.proofs.lemmas.Int.{ints}
use Rattle.std.proofs.lemmas.List.{length-map, get_or_append_left}
use Rattle.interval.specs.Limits.{IsNumber}
use Rattle.interval.specs.Boxes.{Bounds, low_of, high_of, IsInside, IsPoint}
use Rattle.guarded_tell.specs.declared.kernel.Kernel.{Kernel}
use Rattle.guarded_tell.specs.Words.{point_of, value_of}
use Rattle.guarded_tell.specs.Kernels.{Holds, IsKernel}
use Rattle.bit_domain.specs.declared.dom.Dom.{Dom}
use Rattle.bit_domain.specs.Mixes.{Mix, Has, IsInsideDom, dom_of, dom_between, hull, mix_of, IsMixInRange}
use Rattle.domain_drops.specs.Closed.{IsClosedMix, IsClosedMixUnder}
use Rattle.constraint_model.specs.declared.model.VarDecl.{VarDecl}
use Rattle.constraint_model.specs.declared.model.FznModel.{FznModel}
use Rattle.constraint_model.specs.Relations.{IsWithin, IsSolution}
use Rattle.constraint_model.specs.WellFormed.{IsWellFormed, constants_of}
use Rattle.decompose.specs.declared.program.Program.{Program}
use Rattle.decompose.specs.Kernels.{kernels_of}
use Rattle.decompose.specs.Program.{start_of, extended, fixed_box, IsProgramOf}
use Rattle.domain_laws.specs.Left.{LeftHoldSolutions, NoneLeftNoSolution}
use Rattle.domain_laws.proofs.PointMixes.{point_mix, ArePoints, BoxesHavePoints}

abbrev pub DropPoint : Type 0
DropPoint = (k : Kernel) (m : Mix) → IsKernel (length m) k → IsMixInRange m → IsPoint (hull m)
    → ((v : ℕ) → v < length m → IsNumber (low_of (hull m) v))
    → (IsClosedMixUnder k m) ↔ (Holds k (point_of (hull m)))

abbrev pub Programs : Type 0
Programs = (model : FznModel) → IsWellFormed model → IsProgramOf model (record { start = start_of model; kernels = kernels_of model })

low_one : (xs : List ℤ) (v : ℕ) → low_of (fixed_box xs) v ≡ value_of xs v
low_one [] v = refl
low_one (x ∷ xs) zero = refl
low_one (x ∷ xs) (suc v) = low_one xs v

high_one : (xs : List ℤ) (v : ℕ) → high_of (fixed_box xs) v ≡ value_of xs v
high_one [] v = refl
high_one (x ∷ xs) zero = refl
high_one (x ∷ xs) (suc v) = high_one xs v

point_one : (xs : List ℤ) → point_of (fixed_box xs) ≡ xs
point_one [] = refl
point_one (x ∷ xs) = ap (λ (ys : List ℤ). x ∷ ys) (point_one xs)

equal_le : (x y : ℤ) → x ≡ y → x ≤ℤ y
equal_le x y e = omega (arith, ints)

number_between : (low z high : ℤ) → IsNumber low → IsNumber high → low ≤ℤ z → z ≤ℤ high → IsNumber z
number_between low z high l h a b = omega (arith, ints)

within_length : (a : List ℤ) (vars : List VarDecl) → IsWithin a vars → length a ≡ length vars
within_length [] [] h = refl
within_length [] (d ∷ ds) h = absurd h
within_length (z ∷ zs) [] h = absurd h
within_length (z ∷ zs) (d ∷ ds) h = ap suc (within_length zs ds h.2)

longer : (a cs : List ℤ) (v : ℕ) → v < length a → suc v < length (pos 1 ∷ (a ++ cs))
longer a cs v h = let e = length-append a cs in omega arith

after : (v : ℕ) → v + 1 ≡ suc v
after v = omega arith

module _ (drop_point : DropPoint) (points : BoxesHavePoints) (programs : Programs) where
  module _ (model : FznModel) (formed : IsWellFormed model) (a : List ℤ) (solution : IsSolution model a) where
    abbrev program : Program
    program = record { start = start_of model; kernels = kernels_of model }

    f : IsProgramOf model program
    f = programs model formed

    abbrev xs : List ℤ
    xs = extended model a

    lies : IsInside (fixed_box xs) (start_of model)
    lies = (f.points xs).1 (record { assignment = a; within = solution.within; is_extension = refl })

    abbrev p : Mix
    p = point_mix (mix_of (start_of model)) xs

    are : ArePoints (start_of model) xs p
    are = points (start_of model) xs f.in_range lies

    length_is : length p ≡ length (start_of model)
    length_is = are.inside.same_length ∙ length-map (start_of model) (λ q. dom_between q.0 q.1)

    one_point : IsPoint (fixed_box xs)
    one_point v h = low_one xs v ∙ sym (high_one xs v)

    point : IsPoint (hull p)
    point = subst IsPoint (sym are.hull) one_point

    fits : All (IsKernel (length p)) (kernels_of model)
    fits = subst (λ (n : ℕ). All (IsKernel n) (kernels_of model)) (sym length_is) f.can_run

    number_at : (v : ℕ) → v < length p → IsNumber (low_of (fixed_box xs) v)
    number_at v h =
        let m : v < length (start_of model) = subst (λ (n : ℕ). v < n) length_is h in
        let n = f.bounds v m in
        let same : low_of (fixed_box xs) v ≡ high_of (fixed_box xs) v = low_one xs v ∙ sym (high_one xs v) in
        number_between (low_of (start_of model) v) (low_of (fixed_box xs) v) (high_of (start_of model) v) n.0 n.1 (lies.lows v m)
        (subst (λ (z : ℤ). z ≤ℤ high_of (start_of model) v) (sym same) (lies.highs v m))

    numbers : (v : ℕ) → v < length p → IsNumber (low_of (hull p) v)
    numbers v h = subst (λ (b : Bounds). IsNumber (low_of b v)) (sym are.hull) (number_at v h)

    same_numbers : point_of (hull p) ≡ xs
    same_numbers = ap point_of are.hull ∙ point_one xs

    holds : All (λ k. Holds k xs) (kernels_of model)
    holds = (f.meaning a solution.within).1 solution.holds

    closed : IsClosedMix p (kernels_of model)
    closed = record {
      proper = λ v h. equal_le (low_of (hull p) v) (high_of (hull p) v) (point v h);
      quiet = λ j d l. (drop_point (get_or (kernels_of model) j d) p (fits j d l) are.in_range point numbers).1
          (subst (Holds (get_or (kernels_of model) j d)) (sym same_numbers) (holds j d l));
    }

  pub none_says : NoneLeftNoSolution
  none_says model formed fails a solution = fails (p model formed a solution) (closed model formed a solution) (are model formed a solution).inside

  module _ (inside_numbers : (inner outer : Dom) (z : ℤ) → IsInsideDom inner outer → Has inner z → Has outer z) where
    pub are_left : LeftHoldSolutions
    are_left model m formed left a v solution h =
        let q = p model formed a solution in
        let r = are model formed a solution in
        let inside = left.greatest q (closed model formed a solution) r.inside in
        let cs = constants_of model in
        let long = within_length a model.vars solution.within in
        let here : v < length a = omega arith in
        let at : slice_index_or (a ++ cs) v (pos 0) ≡ slice_index_or a v (pos 0) = get_or_append_left a cs (pos 0) v here in
        let far : suc v < length (extended model a) = longer a cs v here in
        let z = slice_index_or a v (pos 0) in
        let mine : Has (dom_of q (suc v)) z = subst (λ (y : ℤ). Has (dom_of q (suc v)) y) at (r.has (suc v) far) in
        let mixes = inside.same_length in
        let boxes = length_is model formed a solution in
        let points = (lies model formed a solution).same_length in
        let fixed = length-map {B = ℤ × ℤ} (extended model a) (λ z. (z, z)) in
        let deep : suc v < length m = omega arith in
        subst (λ (n : ℕ). Has (dom_of m n) z) (sym (after v))
        (inside_numbers (dom_of q (suc v)) (dom_of m (suc v)) z (inside.doms (suc v) deep) mine)
