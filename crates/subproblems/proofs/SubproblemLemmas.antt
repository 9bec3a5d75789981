-- The laws of subproblems, from those of cuts.
use Rattle.std.proofs.Common.{◌≡◌, ℕ, zero, suc, ℤ, List, [], ◌∷◌, ◌++◌, length, refl, sym, ap, subst, ◌∙◌, append-nil, append_assoc, arith}
use Rattle.std.specs.List.{All}
use Rattle.std.proofs.lemmas.List.Elements.{All-nil, All-cons, All-append, All-weaker}
use Rattle.interval.specs.Boxes.{Bounds, IsInside, InsideOrder}
use Rattle.guarded_tell.specs.declared.kernel.Kernel.{Kernel}
use Rattle.constraint_model.specs.declared.model.FznModel.{FznModel}
use Rattle.constraint_model.specs.Searches.{IsSearchOf}
use Rattle.fixpoint_laws.specs.Fixpoints.{IsGreatest}
use Rattle.branching.specs.Tree.{values_of, SolutionsIn}
use Rattle.subproblems.specs.declared.cutting.Cut.{Cut}
use Rattle.subproblems.specs.declared.cutting.Cut.TheVariants.{Failed, Fixed, Parted}
use Rattle.subproblems.specs.Cuts.{IsCutInto, CanBeCut, CutLaws}
use Rattle.subproblems.specs.Subproblems.{AreBelow, AreSubproblems, SolutionsInEach, SubproblemLaws}
use Rattle.subproblems.proofs.CutLemmas.{SolutionsOfCut, solutions_of_cut, solutions_by_cut}

module _ (order : InsideOrder) (laws : CutLaws) (model : FznModel) (kernels : List Kernel) where
  below_one : (Below : Bounds → List Bounds → Type 0) → ((b : Bounds) (xs ys : List Bounds) → Below b xs → Below b ys → xs ≡ ys) →
      (cut : Cut) (subs others : List Bounds) → AreBelow cut Below subs → AreBelow cut Below others → subs ≡ others
  below_one Below unique Failed subs others h k = h ∙ sym k
  below_one Below unique (Fixed g) subs others h k = h ∙ sym k
  below_one Below unique (Parted l r) subs others h k =
      h.4 ∙ ap (λ (xs : List Bounds). xs ++ h.1) (unique l h.0 k.0 h.2 k.2) ∙ ap (λ (xs : List Bounds). k.0 ++ xs) (unique r h.1 k.1 h.3 k.3) ∙ sym k.4

  pub one_subs : (depth : ℕ) (b : Bounds) (subs others : List Bounds) → IsSearchOf model →
      AreSubproblems model kernels depth b subs → AreSubproblems model kernels depth b others → subs ≡ others
  one_subs zero b subs others rule h k = h ∙ sym k
  one_subs (suc depth) b subs others rule h k =
      let same = laws.one model kernels b h.0 k.0 rule h.1 k.1 in
      below_one (AreSubproblems model kernels depth) (λ c xs ys. one_subs depth c xs ys rule) k.0 subs others
      (subst (λ (c : Cut). AreBelow c (AreSubproblems model kernels depth) subs) same h.2) k.2

  below_some : (depth : ℕ) (b : Bounds) → CanBeCut model kernels b → ((c : Bounds) → CanBeCut model kernels c → (subs : List Bounds) × AreSubproblems model kernels depth c subs) →
      (cut : Cut) → IsCutInto model kernels b cut → (subs : List Bounds) × AreSubproblems model kernels (suc depth) b subs
  below_some depth b can next Failed h = ([], (Failed, h, refl))
  below_some depth b can next (Fixed g) h = (g ∷ [], (Fixed g, h, refl))
  below_some depth b can next (Parted l r) h =
      let first = next l (laws.left model kernels b l r can h).1 in
      let second = next r (laws.right model kernels b l r can h).1 in
      (first.0 ++ second.0, (Parted l r, h, (first.0, second.0, first.1, second.1, refl)))

  pub every_subs : (depth : ℕ) (b : Bounds) → CanBeCut model kernels b → (subs : List Bounds) × AreSubproblems model kernels depth b subs
  every_subs zero b can = (b ∷ [], refl)
  every_subs (suc depth) b can =
      let c = laws.some model kernels b can in
      below_some depth b can (λ d k. every_subs depth d k) c.0 c.1

  below_inside : (depth : ℕ) (b : Bounds) → CanBeCut model kernels b →
      ((c : Bounds) (subs : List Bounds) → CanBeCut model kernels c → AreSubproblems model kernels depth c subs → All (λ s. IsInside s c) subs) →
      (cut : Cut) (subs : List Bounds) → IsCutInto model kernels b cut → AreBelow cut (AreSubproblems model kernels depth) subs → All (λ s. IsInside s b) subs
  below_inside depth b can next Failed subs h k = subst (All (λ s. IsInside s b)) (sym k) (All-nil (λ s. IsInside s b))
  below_inside depth b can next (Fixed g) subs h k =
      subst (All (λ s. IsInside s b)) (sym k) (All-cons (λ s. IsInside s b) g [] (laws.kept model kernels b g can h).0 (All-nil (λ s. IsInside s b)))
  below_inside depth b can next (Parted l r) subs h k =
      let lefts = laws.left model kernels b l r can h in
      let rights = laws.right model kernels b l r can h in
      subst (All (λ s. IsInside s b)) (sym k.4) (All-append (λ s. IsInside s b) k.0 k.1
      (All-weaker (λ s. IsInside s l) (λ s. IsInside s b) (λ s i. order.through s l b i lefts.0) k.0 (next l k.0 lefts.1 k.2))
      (All-weaker (λ s. IsInside s r) (λ s. IsInside s b) (λ s i. order.through s r b i rights.0) k.1 (next r k.1 rights.1 k.3)))

  pub inside_subs : (depth : ℕ) (b : Bounds) (subs : List Bounds) → CanBeCut model kernels b → AreSubproblems model kernels depth b subs → All (λ s. IsInside s b) subs
  inside_subs zero b subs can h = subst (All (λ s. IsInside s b)) (sym h) (All-cons (λ s. IsInside s b) b [] (order.itself b) (All-nil (λ s. IsInside s b)))
  inside_subs (suc depth) b subs can h = below_inside depth b can (λ c xs k a. inside_subs depth c xs k a) h.0 subs h.1 h.2

  -- ---- solutions

  each_apart : (xs ys : List Bounds) (found : List (List ℤ)) → SolutionsInEach model kernels (xs ++ ys) found →
      (first : List (List ℤ)) × (second : List (List ℤ)) × SolutionsInEach model kernels xs first × SolutionsInEach model kernels ys second × (found ≡ first ++ second)
  each_apart [] ys found h = ([], found, refl, h, refl)
  each_apart (x ∷ xs) ys found h =
      let rest = each_apart xs ys h.1 h.3 in (
        h.0 ++ rest.0,
        rest.1,
        (h.0, rest.0, h.2, rest.2, refl),
        rest.3,
        h.4 ∙ ap (λ (l : List (List ℤ)). h.0 ++ l) rest.4 ∙ sym (append_assoc h.0 rest.0 rest.1),
      )

  each_joined : (xs ys : List Bounds) (first second : List (List ℤ)) → SolutionsInEach model kernels xs first → SolutionsInEach model kernels ys second →
      SolutionsInEach model kernels (xs ++ ys) (first ++ second)
  each_joined [] ys first second h k = subst (λ (l : List (List ℤ)). SolutionsInEach model kernels ys (l ++ second)) (sym h) k
  each_joined (x ∷ xs) ys first second h k =
      (h.0, h.1 ++ second, h.2, each_joined xs ys h.1 second h.3 k, ap (λ (l : List (List ℤ)). l ++ second) h.4 ∙ append_assoc h.0 h.1 second)

  each_one : (b : Bounds) (found : List (List ℤ)) → SolutionsInEach model kernels (b ∷ []) found → SolutionsIn model kernels b found
  each_one b found h =
      let is : found ≡ h.0 = h.4 ∙ ap (λ (l : List (List ℤ)). h.0 ++ l) h.3 ∙ append-nil h.0 in
      subst (λ (l : List (List ℤ)). SolutionsIn model kernels b l) (sym is) h.2

  one_each : (b : Bounds) (found : List (List ℤ)) → SolutionsIn model kernels b found → SolutionsInEach model kernels (b ∷ []) found
  one_each b found h = (found, [], h, refl, sym (append-nil found))

  -- a closed box is its own greatest closed box
  fixed_again : (b g : Bounds) → IsCutInto model kernels b (Fixed g) → IsCutInto model kernels g (Fixed g)
  fixed_again b g h = (record { closed = h.0.closed; inside = order.itself g; greatest = λ c k i. i }, h.1)

  of_fixed : (b g : Bounds) (found : List (List ℤ)) → IsSearchOf model → IsCutInto model kernels b (Fixed g) → SolutionsIn model kernels g found → found ≡ values_of model g ∷ []
  of_fixed b g found rule h s =
      let c = solutions_of_cut model kernels g found s in
      subst (λ (x : Cut). SolutionsOfCut model kernels x found) (laws.one model kernels g c.0 (Fixed g) rule c.1 (fixed_again b g h)) c.2

  below_solutions : (depth : ℕ) (b : Bounds) → IsSearchOf model →
      ((c : Bounds) (subs : List Bounds) (found : List (List ℤ)) → AreSubproblems model kernels depth c subs → SolutionsInEach model kernels subs found → SolutionsIn model kernels c found) →
      (cut : Cut) (subs : List Bounds) (found : List (List ℤ)) → IsCutInto model kernels b cut → AreBelow cut (AreSubproblems model kernels depth) subs →
      SolutionsInEach model kernels subs found → SolutionsOfCut model kernels cut found
  below_solutions depth b rule next Failed subs found h k s = subst (λ (l : List Bounds). SolutionsInEach model kernels l found) k s
  below_solutions depth b rule next (Fixed g) subs found h k s =
      of_fixed b g found rule h (each_one g found (subst (λ (l : List Bounds). SolutionsInEach model kernels l found) k s))
  below_solutions depth b rule next (Parted l r) subs found h k s =
      let halves = each_apart k.0 k.1 found (subst (λ (l : List Bounds). SolutionsInEach model kernels l found) k.4 s) in
      (halves.0, halves.1, next l k.0 halves.0 k.2 halves.2, next r k.1 halves.1 k.3 halves.3, halves.4)

  pub solutions_of_subs : (depth : ℕ) (b : Bounds) (subs : List Bounds) (found : List (List ℤ)) → IsSearchOf model →
      AreSubproblems model kernels depth b subs → SolutionsInEach model kernels subs found → SolutionsIn model kernels b found
  solutions_of_subs zero b subs found rule h s = each_one b found (subst (λ (l : List Bounds). SolutionsInEach model kernels l found) h s)
  solutions_of_subs (suc depth) b subs found rule h s =
      solutions_by_cut model kernels b found h.0 h.1
      (below_solutions depth b rule (λ c xs l a e. solutions_of_subs depth c xs l rule a e) h.0 subs found h.1 h.2 s)

  below_back : (depth : ℕ) (b : Bounds) → IsSearchOf model →
      ((c : Bounds) (subs : List Bounds) (found : List (List ℤ)) → AreSubproblems model kernels depth c subs → SolutionsIn model kernels c found → SolutionsInEach model kernels subs found) →
      (cut : Cut) (subs : List Bounds) (found : List (List ℤ)) → IsCutInto model kernels b cut → AreBelow cut (AreSubproblems model kernels depth) subs →
      SolutionsOfCut model kernels cut found → SolutionsInEach model kernels subs found
  below_back depth b rule next Failed subs found h k s = subst (λ (l : List Bounds). SolutionsInEach model kernels l found) (sym k) s
  below_back depth b rule next (Fixed g) subs found h k s =
      subst (λ (l : List Bounds). SolutionsInEach model kernels l found) (sym k)
      (one_each g found (solutions_by_cut model kernels g found (Fixed g) (fixed_again b g h) s))
  below_back depth b rule next (Parted l r) subs found h k s =
      subst (λ (l : List Bounds). SolutionsInEach model kernels l found) (sym k.4)
      (subst (λ (f : List (List ℤ)). SolutionsInEach model kernels (k.0 ++ k.1) f) (sym s.4)
      (each_joined k.0 k.1 s.0 s.1 (next l k.0 s.0 k.2 s.2) (next r k.1 s.1 k.3 s.3)))

  pub solutions_back_of_subs : (depth : ℕ) (b : Bounds) (subs : List Bounds) (found : List (List ℤ)) → IsSearchOf model →
      AreSubproblems model kernels depth b subs → SolutionsIn model kernels b found → SolutionsInEach model kernels subs found
  solutions_back_of_subs zero b subs found rule h s = subst (λ (l : List Bounds). SolutionsInEach model kernels l found) (sym h) (one_each b found s)
  solutions_back_of_subs (suc depth) b subs found rule h s =
      let c = solutions_of_cut model kernels b found s in
      below_back depth b rule (λ d xs l a e. solutions_back_of_subs depth d xs l rule a e) h.0 subs found h.1 h.2
      (subst (λ (x : Cut). SolutionsOfCut model kernels x found) (laws.one model kernels b c.0 h.0 rule c.1 h.1) c.2)

pub subproblem_laws : InsideOrder → CutLaws → SubproblemLaws
subproblem_laws order laws = record {
  every = every_subs order laws;
  one = one_subs order laws;
  inside = inside_subs order laws;
  solutions = solutions_of_subs order laws;
  solutions_back = solutions_back_of_subs order laws;
}
