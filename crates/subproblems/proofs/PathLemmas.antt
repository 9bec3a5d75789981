-- The laws of numbered subproblems, from those of cuts and subproblems.
use Rattle.std.proofs.Common.{◌≡◌, ◌≢◌, ℕ, zero, suc, ℤ, ◌+◌, ◌-◌, ◌*◌, ◌^◌, ◌<◌, ◌≤◌, List, [], ◌∷◌, ◌++◌, length, replicate, get_or, Option, Some, None, refl, sym, ap, subst, ◌∙◌, length-append, arith}
use Rattle.std.proofs.lemmas.List.{get_or-replicate, length-replicate, get_or_append_left, get_or-append_right, ext_get_or}
use Rattle.std.proofs.Math.Nat.{pow-suc}
use mathlib.Core.Logic.{dite}
use native.Mathlib.Decide.{ℕ_discrete, dec_le}
use Rattle.interval.specs.Boxes.{Bounds, IsInside, InsideOrder}
use Rattle.guarded_tell.specs.declared.kernel.Kernel.{Kernel}
use Rattle.constraint_model.specs.declared.model.FznModel.{FznModel}
use Rattle.constraint_model.specs.Searches.{IsSearchOf}
use Rattle.branching.specs.Tree.{SolutionsIn}
use Rattle.subproblems.specs.declared.cutting.Cut.{Cut}
use Rattle.subproblems.specs.declared.cutting.Cut.TheVariants.{Failed, Fixed, Parted}
use Rattle.subproblems.specs.Cuts.{IsCutInto, CanBeCut, CutLaws}
use Rattle.subproblems.specs.Subproblems.{AreSubproblems, SolutionsInEach, SubproblemLaws}
use Rattle.subproblems.specs.Paths.{IsBelow, LeadsTo, ArePaths, boxes_of, SolutionsOf, SolutionsOfAll, PathLaws}

boxes_of-append : (xs ys : List (Option Bounds)) → boxes_of (xs ++ ys) ≡ boxes_of xs ++ boxes_of ys
boxes_of-append [] ys = refl
boxes_of-append (None ∷ xs) ys = boxes_of-append xs ys
boxes_of-append (Some b ∷ xs) ys = ap (λ (l : List Bounds). b ∷ l) (boxes_of-append xs ys)

boxes_of-none : (n : ℕ) → boxes_of (replicate n None) ≡ []
boxes_of-none zero = refl
boxes_of-none (suc n) = boxes_of-none n

double : (depth : ℕ) → 2 ^ suc depth ≡ 2 ^ depth + 2 ^ depth
double depth = let p = pow-suc 2 depth in omega arith

some_number : (depth : ℕ) → 1 ≤ 2 ^ depth
some_number zero = omega arith
some_number (suc depth) = let r = some_number depth in let d = double depth in omega arith

module _ (order : InsideOrder) (laws : CutLaws) (model : FznModel) (kernels : List Kernel) where
  below_one : (half : ℕ) (Below : Bounds → ℕ → Option Bounds → Type 0) →
      ((b : Bounds) (number : ℕ) (found other : Option Bounds) → Below b number found → Below b number other → found ≡ other) →
      (cut : Cut) (number : ℕ) (found other : Option Bounds) → IsBelow cut half Below number found → IsBelow cut half Below number other → found ≡ other
  below_one half Below unique Failed number found other h k = h ∙ sym k
  below_one half Below unique (Fixed g) number found other h k = dite (ℕ_discrete number 0)
      (λ (e : number ≡ 0). h.0 e ∙ sym (k.0 e))
      (λ (ne : number ≢ 0). h.1 ne ∙ sym (k.1 ne))
  below_one half Below unique (Parted l r) number found other h k = dite (dec_le (suc number) half)
      (λ (low : number < half). unique l number found other (h.0 low) (k.0 low))
      (λ (no : ¬ (number < half)). let high : half ≤ number = omega arith in unique r (number - half) found other (h.1 high) (k.1 high))

  pub one_path : (depth : ℕ) (b : Bounds) (number : ℕ) (found other : Option Bounds) → IsSearchOf model →
      LeadsTo model kernels depth b number found → LeadsTo model kernels depth b number other → found ≡ other
  one_path zero b number found other rule h k = h ∙ sym k
  one_path (suc depth) b number found other rule h k =
      let same = laws.one model kernels b h.0 k.0 rule h.1 k.1 in
      below_one (2 ^ depth) (LeadsTo model kernels depth) (λ c n f o. one_path depth c n f o rule) k.0 number found other
      (subst (λ (c : Cut). IsBelow c (2 ^ depth) (LeadsTo model kernels depth) number found) same h.2) k.2

  -- ---- all paths, and the subproblems among them

  Made : ℕ → Bounds → Type 0
  Made depth b = (paths : List (Option Bounds)) × ArePaths model kernels depth b paths × AreSubproblems model kernels depth b (boxes_of paths)

  made_none : (depth : ℕ) (b : Bounds) → IsCutInto model kernels b Failed → Made (suc depth) b
  unfolding Made
  made_none depth b h = (
    replicate (2 ^ suc depth) None,
    record {
      count = length-replicate (2 ^ suc depth) None;
      each = λ number below. (Failed, h, get_or-replicate (2 ^ suc depth) number None None below);
    },
    (Failed, h, boxes_of-none (2 ^ suc depth)),
  )

  made_one : (depth : ℕ) (b g : Bounds) → IsCutInto model kernels b (Fixed g) → Made (suc depth) b
  unfolding Made
  made_one depth b g h = (
    Some g ∷ replicate rest None,
    record {
      count = let l : length (replicate {A = Option Bounds} rest None) ≡ rest = length-replicate rest None in let s = some_number (suc depth) in omega arith;
      each = λ number below. (Fixed g, h, (first number, λ ne. others number ne below));
    },
    (Fixed g, h, ap (λ (l : List Bounds). g ∷ l) (boxes_of-none rest)),
  )
    where
      rest : ℕ
      rest = 2 ^ suc depth - 1

      first : (number : ℕ) → number ≡ 0 → get_or (Some g ∷ replicate rest None) number None ≡ Some g
      first zero e = refl
      first (suc number) e = absurd (omega arith)

      others : (number : ℕ) → number ≢ 0 → number < 2 ^ suc depth → get_or (Some g ∷ replicate rest None) number None ≡ None
      others zero ne below = absurd (ne refl)
      others (suc number) ne below = get_or-replicate rest number None None (omega arith)

  made_two : (depth : ℕ) (b l r : Bounds) → IsCutInto model kernels b (Parted l r) → Made depth l → Made depth r → Made (suc depth) b
  unfolding Made
  made_two depth b l r h lefts rights = (
    xs ++ ys,
    record {
      count = length-append xs ys ∙ (let a = lefts.1.count in let c = rights.1.count in let d = double depth in omega arith);
      each = λ number below. (Parted l r, h, (low number, λ high. upper number high below));
    },
    (Parted l r, h, (boxes_of xs, boxes_of ys, lefts.2, rights.2, boxes_of-append xs ys)),
  )
    where
      xs : List (Option Bounds)
      xs = lefts.0

      ys : List (Option Bounds)
      ys = rights.0

      low : (number : ℕ) → number < 2 ^ depth → LeadsTo model kernels depth l number (get_or (xs ++ ys) number None)
      low number below =
          subst (LeadsTo model kernels depth l number) (sym (get_or_append_left xs ys None number (let a = lefts.1.count in omega arith)))
          (lefts.1.each number below)

      upper : (number : ℕ) → 2 ^ depth ≤ number → number < 2 ^ suc depth → LeadsTo model kernels depth r (number - 2 ^ depth) (get_or (xs ++ ys) number None)
      upper number high below =
          subst (LeadsTo model kernels depth r (number - 2 ^ depth)) (sym (get_or-append_right xs ys (2 ^ depth) number None lefts.1.count high))
          (rights.1.each (number - 2 ^ depth) (let d = double depth in omega arith))

  made_by : (depth : ℕ) (b : Bounds) → CanBeCut model kernels b → ((c : Bounds) → CanBeCut model kernels c → Made depth c) →
      (cut : Cut) → IsCutInto model kernels b cut → Made (suc depth) b
  made_by depth b can next Failed h = made_none depth b h
  made_by depth b can next (Fixed g) h = made_one depth b g h
  made_by depth b can next (Parted l r) h =
      made_two depth b l r h (next l (laws.left model kernels b l r can h).1) (next r (laws.right model kernels b l r can h).1)

  made : (depth : ℕ) (b : Bounds) → CanBeCut model kernels b → Made depth b
  unfolding Made
  made zero b can = (Some b ∷ [], record { count = refl; each = λ number below. only number below }, refl)
    where
      only : (number : ℕ) → number < 1 → get_or (Some b ∷ []) number None ≡ Some b
      only zero h = refl
      only (suc number) h = absurd (omega arith)
  made (suc depth) b can =
      let c = laws.some model kernels b can in
      made_by depth b can (λ d k. made depth d k) c.0 c.1

  pub every_path : (depth : ℕ) (b : Bounds) → CanBeCut model kernels b → (paths : List (Option Bounds)) × ArePaths model kernels depth b paths
  unfolding Made
  every_path depth b can = let m = made depth b can in (m.0, m.1)

  same_paths : (depth : ℕ) (b : Bounds) (paths others : List (Option Bounds)) → IsSearchOf model →
      ArePaths model kernels depth b paths → ArePaths model kernels depth b others → paths ≡ others
  same_paths depth b paths others rule h k =
      ext_get_or None paths others (h.count ∙ sym k.count)
      (λ number inside. let below : number < 2 ^ depth = (let c = h.count in omega arith) in one_path depth b number (get_or paths number None) (get_or others number None) rule (h.each number below) (k.each number below))

  pub subs_of_paths : (depth : ℕ) (b : Bounds) (paths : List (Option Bounds)) → CanBeCut model kernels b →
      ArePaths model kernels depth b paths → AreSubproblems model kernels depth b (boxes_of paths)
  unfolding Made
  subs_of_paths depth b paths can h =
      let m = made depth b can in
      subst (λ (l : List (Option Bounds)). AreSubproblems model kernels depth b (boxes_of l)) (sym (same_paths depth b paths m.0 can.search h m.1)) m.2

  -- ---- where they lead

  below_inside : (depth : ℕ) (b : Bounds) → CanBeCut model kernels b →
      ((c : Bounds) (number : ℕ) (found : Bounds) → CanBeCut model kernels c → LeadsTo model kernels depth c number (Some found) → IsInside found c) →
      (cut : Cut) (number : ℕ) (found : Bounds) → IsCutInto model kernels b cut → IsBelow cut (2 ^ depth) (LeadsTo model kernels depth) number (Some found) → IsInside found b
  below_inside depth b can next Failed number found h k = absurd cc
  below_inside depth b can next (Fixed g) number found h k = dite (ℕ_discrete number 0)
      (λ (e : number ≡ 0). let is : Some found ≡ Some g = k.0 e in let same : found ≡ g = cc in subst (λ (x : Bounds). IsInside x b) (sym same) (laws.kept model kernels b g can h).0)
      (λ (ne : number ≢ 0). let is : Some found ≡ None = k.1 ne in absurd cc)
  below_inside depth b can next (Parted l r) number found h k = dite (dec_le (suc number) (2 ^ depth))
      (λ (low : number < 2 ^ depth). let side = laws.left model kernels b l r can h in order.through found l b (next l number found side.1 (k.0 low)) side.0)
      (λ (no : ¬ (number < 2 ^ depth)). let high : 2 ^ depth ≤ number = omega arith in let side = laws.right model kernels b l r can h in
      order.through found r b (next r (number - 2 ^ depth) found side.1 (k.1 high)) side.0)

  pub inside_path : (depth : ℕ) (b : Bounds) (number : ℕ) (found : Bounds) → CanBeCut model kernels b →
      LeadsTo model kernels depth b number (Some found) → IsInside found b
  inside_path zero b number found can h = let same : found ≡ b = cc in subst (λ (x : Bounds). IsInside x b) (sym same) (order.itself b)
  inside_path (suc depth) b number found can h = below_inside depth b can (λ c n f k a. inside_path depth c n f k a) h.0 number found h.1 h.2

  -- ---- solutions

  each_of_all : (paths : List (Option Bounds)) (found : List (List ℤ)) → SolutionsOfAll model kernels paths found → SolutionsInEach model kernels (boxes_of paths) found
  each_of_all [] found h = h
  each_of_all (None ∷ paths) found h =
      subst (λ (l : List (List ℤ)). SolutionsInEach model kernels (boxes_of paths) l) (sym (h.4 ∙ ap (λ (l : List (List ℤ)). l ++ h.1) h.2)) (each_of_all paths h.1 h.3)
  each_of_all (Some b ∷ paths) found h = (h.0, h.1, h.2, each_of_all paths h.1 h.3, h.4)

  all_of_each : (paths : List (Option Bounds)) (found : List (List ℤ)) → SolutionsInEach model kernels (boxes_of paths) found → SolutionsOfAll model kernels paths found
  all_of_each [] found h = h
  all_of_each (None ∷ paths) found h = ([], found, refl, all_of_each paths found h, refl)
  all_of_each (Some b ∷ paths) found h = (h.0, h.1, h.2, all_of_each paths h.1 h.3, h.4)

pub path_laws : InsideOrder → CutLaws → SubproblemLaws → PathLaws
path_laws order laws subproblems = record {
  every = every_path order laws;
  one = one_path order laws;
  inside = inside_path order laws;
  subproblems = subs_of_paths order laws;
  solutions = λ model kernels depth b paths found can h s.
      subproblems.solutions model kernels depth b (boxes_of paths) found can.search (subs_of_paths order laws model kernels depth b paths can h) (each_of_all order laws model kernels paths found s);
  solutions_back = λ model kernels depth b paths found can h s.
      all_of_each order laws model kernels paths found
      (subproblems.solutions_back model kernels depth b (boxes_of paths) found can.search (subs_of_paths order laws model kernels depth b paths can h) s);
}
