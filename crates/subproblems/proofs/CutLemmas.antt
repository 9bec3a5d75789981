-- A box is cut in one way, and the list of solutions in it goes with the cut.
use Rattle.std.proofs.Common.{◌≡◌, ℕ, ℤ, ◌<◌, List, [], ◌∷◌, ◌++◌, length, refl, sym, ap, subst, ◌∙◌, ◌⊎◌, inl, inr, Result, Ok, Err, IfOk, arith}
use Rattle.std.specs.List.{All}
use Rattle.interval.specs.Boxes.{Bounds, IsInside, InsideOrder}
use Rattle.guarded_tell.specs.declared.kernel.Kernel.{Kernel}
use Rattle.guarded_tell.specs.Kernels.{IsKernel}
use Rattle.fixpoint_laws.specs.Fixpoints.{IsGreatest, Fails, OneFixpoint}
use Rattle.constraint_model.specs.declared.model.FznModel.{FznModel}
use Rattle.constraint_model.specs.Searches.{IsSearchOf}
use Rattle.branching.specs.Parts.{IsBranch, AreParts, IsPart}
use Rattle.branching.specs.Tree.{AreFixed, values_of, SolutionsIn, failed, fixed, parted, BranchLaws}
use Rattle.subproblems.specs.declared.cutting.Cut.{Cut}
use Rattle.subproblems.specs.declared.cutting.Cut.TheVariants.{Failed, Fixed, Parted}
use Rattle.subproblems.specs.Cuts.{IsCutInto, IsFixedOrParted, ArePartsOf, CanBeCut, CutLaws}

-- the solutions in a box by what it is cut into
abbrev pub SolutionsOfCut : FznModel → List Kernel → Cut → List (List ℤ) → Type 0
SolutionsOfCut model kernels Failed found = found ≡ []
SolutionsOfCut model kernels (Fixed closed) found = found ≡ values_of model closed ∷ []
SolutionsOfCut model kernels (Parted left right) found =
    (first : List (List ℤ)) × (second : List (List ℤ)) × SolutionsIn model kernels left first × SolutionsIn model kernels right second × (found ≡ first ++ second)

pub solutions_of_cut : (model : FznModel) (kernels : List Kernel) (b : Bounds) (found : List (List ℤ)) → SolutionsIn model kernels b found →
    (cut : Cut) × IsCutInto model kernels b cut × SolutionsOfCut model kernels cut found
solutions_of_cut model kernels b found (failed _ _ _ _ fails none) = (Failed, fails, none)
solutions_of_cut model kernels b found (fixed _ _ _ g _ greatest all is) = (Fixed g, (greatest, all), is)
solutions_of_cut model kernels b found (parted _ _ _ g left right first second _ greatest branch lefts rights is) =
    (Parted left right, record { closed = g; greatest = greatest; branch = branch }, (first, second, lefts, rights, is))

pub solutions_by_cut : (model : FznModel) (kernels : List Kernel) (b : Bounds) (found : List (List ℤ)) (cut : Cut) → IsCutInto model kernels b cut →
    SolutionsOfCut model kernels cut found → SolutionsIn model kernels b found
solutions_by_cut model kernels b found Failed fails is = failed model kernels b found fails is
solutions_by_cut model kernels b found (Fixed g) h is = fixed model kernels b g found h.0 h.1 is
solutions_by_cut model kernels b found (Parted left right) h s =
    parted model kernels b h.closed left right s.0 s.1 found h.greatest h.branch s.2 s.3 s.4

-- the greatest closed box of a box is kept or parted
pub cut_of_closed : (model : FznModel) (kernels : List Kernel) (b closed : Bounds) → IsGreatest closed b kernels →
    {E : Type 0} (r : Result Cut E) → IfOk r (IsFixedOrParted model closed) → IfOk r (IsCutInto model kernels b)
cut_of_closed model kernels b closed greatest (Err e) h = h
cut_of_closed model kernels b closed greatest (Ok Failed) h = absurd h
cut_of_closed model kernels b closed greatest (Ok (Fixed g)) h =
    (subst (λ (x : Bounds). IsGreatest x b kernels) (sym h.0) greatest, subst (AreFixed model) (sym h.0) h.1)
cut_of_closed model kernels b closed greatest (Ok (Parted left right)) h = record { closed = closed; greatest = greatest; branch = h }

module _ (order : InsideOrder) (one : OneFixpoint) (branches : BranchLaws) (model : FznModel) (kernels : List Kernel) where
  pub one_cut : (b : Bounds) (cut other : Cut) → IsSearchOf model → IsCutInto model kernels b cut → IsCutInto model kernels b other → cut ≡ other
  one_cut b Failed Failed rule h k = refl
  one_cut b Failed (Fixed g) rule h k = absurd (one.not_both b kernels g k.0 h)
  one_cut b Failed (Parted l r) rule h k = absurd (one.not_both b kernels k.closed k.greatest h)
  one_cut b (Fixed g) Failed rule h k = absurd (one.not_both b kernels g h.0 k)
  one_cut b (Fixed g) (Fixed c) rule h k = ap (λ (x : Bounds). Fixed x) (one.unique b kernels g c h.0 k.0)
  one_cut b (Fixed g) (Parted l r) rule h k =
      absurd (branches.not_both model k.closed l r rule k.branch (subst (AreFixed model) (one.unique b kernels g k.closed h.0 k.greatest) h.1))
  one_cut b (Parted l r) Failed rule h k = absurd (one.not_both b kernels h.closed h.greatest k)
  one_cut b (Parted l r) (Fixed g) rule h k =
      absurd (branches.not_both model h.closed l r rule h.branch (subst (AreFixed model) (one.unique b kernels g h.closed k.0 h.greatest) k.1))
  one_cut b (Parted l r) (Parted m s) rule h k =
      let same = one.unique b kernels h.closed k.closed h.greatest k.greatest in
      let sides = branches.one model k.closed l r m s (subst (λ (x : Bounds). IsBranch model x l r) same h.branch) k.branch in
      ap (λ (x : Bounds). Parted x r) sides.0 ∙ ap (λ (x : Bounds). Parted m x) sides.1

  -- a closed box inside a box that can be cut
  closed_can : (b g : Bounds) → CanBeCut model kernels b → IsGreatest g b kernels → CanBeCut model kernels g
  closed_can b g can gr = record {
    search = can.search;
    in_range = order.in_range g b gr.closed.proper can.in_range gr.inside;
    long = let e = gr.inside.same_length in let l = can.long in omega arith;
    fit = subst (λ (n : ℕ). All (IsKernel n) kernels) (sym gr.inside.same_length) can.fit;
  }

  -- a part of a box that can be cut
  part_can : (g p : Bounds) → CanBeCut model kernels g → IsPart g p → CanBeCut model kernels p
  part_can g p can part = record {
    search = can.search;
    in_range = part.in_range;
    long = let e = part.inside.same_length in let l = can.long in omega arith;
    fit = subst (λ (n : ℕ). All (IsKernel n) kernels) (sym part.inside.same_length) can.fit;
  }

  pub some_cut : (b : Bounds) → CanBeCut model kernels b → (cut : Cut) × IsCutInto model kernels b cut
  some_cut b can = elim (one.exists b kernels can.in_range can.fit) [
    | inr fails ↦ (Failed, fails)
    | inl some ↦
        let g = some.0 in
        let here = closed_can b g can some.1 in
        elim (branches.some model g can.search here.long some.1.closed.proper) [
          | inr all ↦ (Fixed g, (some.1, all))
          | inl c ↦ (Parted c.0 c.1.0, record { closed = g; greatest = some.1; branch = c.1.1 })
        ]
  ]

  pub kept_can : (b closed : Bounds) → CanBeCut model kernels b → IsCutInto model kernels b (Fixed closed) → IsInside closed b × CanBeCut model kernels closed
  kept_can b closed can h = (h.0.inside, closed_can b closed can h.0)

  parts_of : (b left right : Bounds) → CanBeCut model kernels b → (h : ArePartsOf model kernels b left right) → AreParts h.closed left right
  parts_of b left right can h =
      let here = closed_can b h.closed can h.greatest in
      branches.parts model h.closed left right can.search here.long here.in_range h.greatest.closed.proper h.branch

  pub left_can : (b left right : Bounds) → CanBeCut model kernels b → IsCutInto model kernels b (Parted left right) → IsInside left b × CanBeCut model kernels left
  left_can b left right can h =
      let part = (parts_of b left right can h).first_part in
      (order.through left h.closed b part.inside h.greatest.inside, part_can h.closed left (closed_can b h.closed can h.greatest) part)

  pub right_can : (b left right : Bounds) → CanBeCut model kernels b → IsCutInto model kernels b (Parted left right) → IsInside right b × CanBeCut model kernels right
  right_can b left right can h =
      let part = (parts_of b left right can h).second_part in
      (order.through right h.closed b part.inside h.greatest.inside, part_can h.closed right (closed_can b h.closed can h.greatest) part)

pub cut_laws : InsideOrder → OneFixpoint → BranchLaws → CutLaws
cut_laws order one branches = record {
  some = some_cut order one branches;
  one = one_cut order one branches;
  kept = kept_can order one branches;
  left = left_can order one branches;
  right = right_can order one branches;
}
