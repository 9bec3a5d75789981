-- The laws of numbers one turn deeper.
use Rattle.std.proofs.Common.{append-nil, ◌≡◌, ◌≢◌, ℕ, zero, suc, ℤ, ◌+◌, ◌-◌, ◌*◌, ◌^◌, ◌<◌, ◌≤◌, List, [], ◌∷◌, ◌++◌, length, get_or, Option, Some, None, refl, sym, ap, subst, ◌∙◌, arith}
use Rattle.std.proofs.Math.Nat.{pow-suc}
use mathlib.Core.Logic.{dite}
use native.Mathlib.Decide.{ℕ_discrete, dec_le}
use Rattle.interval.specs.Boxes.{Bounds, InsideOrder}
use Rattle.guarded_tell.specs.declared.kernel.Kernel.{Kernel}
use Rattle.constraint_model.specs.declared.model.FznModel.{FznModel}
use Rattle.branching.specs.Tree.{OneList}
use Rattle.subproblems.specs.declared.cutting.Cut.{Cut}
use Rattle.subproblems.specs.declared.cutting.Cut.TheVariants.{Failed, Fixed, Parted}
use Rattle.subproblems.specs.Cuts.{IsCutInto, CanBeCut, CutLaws}
use Rattle.subproblems.specs.Paths.{IsBelow, LeadsTo, SolutionsOf, SolutionsOfAll, PathLaws}
use Rattle.subproblems.specs.Deeper.{DeeperLaws}

twice : (depth : ℕ) → 2 ^ suc depth ≡ 2 * 2 ^ depth
twice depth = let p = pow-suc 2 depth in omega arith

module _ (order : InsideOrder) (laws : CutLaws) (paths : PathLaws) (one_list : OneList) (model : FznModel) (kernels : List Kernel) where
  NothingBelow : ℕ → Type 0
  NothingBelow depth = (b : Bounds) (number bit : ℕ) → number < 2 ^ depth → bit < 2 →
      LeadsTo model kernels depth b number None → LeadsTo model kernels (suc depth) b (2 * number + bit) None

  nothing_by : (depth : ℕ) → NothingBelow depth → (number bit : ℕ) → number < 2 ^ suc depth → bit < 2 → (cut : Cut) →
      IsBelow cut (2 ^ depth) (LeadsTo model kernels depth) number None → IsBelow cut (2 ^ suc depth) (LeadsTo model kernels (suc depth)) (2 * number + bit) None
  unfolding NothingBelow
  nothing_by depth next number bit low small Failed h = refl
  nothing_by depth next number bit low small (Fixed g) h = dite (ℕ_discrete number 0)
      (λ (e : number ≡ 0). let is : None ≡ Some g = h.0 e in absurd cc)
      (λ (ne : number ≢ 0). ((λ e. absurd (omega arith)), λ _. refl))
  nothing_by depth next number bit low small (Parted l r) h =
      let t = twice depth in (
        (λ lower. next l number bit (omega arith) small (h.0 (omega arith))),
        λ upper. let high : 2 ^ depth ≤ number = omega arith in
            let same : 2 * (number - 2 ^ depth) + bit ≡ 2 * number + bit - 2 ^ suc depth = omega arith in
            subst (λ (n : ℕ). LeadsTo model kernels (suc depth) r n None) same (next r (number - 2 ^ depth) bit (omega arith) small (h.1 high)),
      )

  nothing_below : (depth : ℕ) → NothingBelow depth
  unfolding NothingBelow
  nothing_below zero b number bit low small h = absurd cc
  nothing_below (suc depth) b number bit low small h =
      (h.0, h.1, nothing_by depth (λ c n t. nothing_below depth c n t) number bit low small h.0 h.2)

  -- a closed box that is a solution is cut into itself
  cut_again : (b g : Bounds) → IsCutInto model kernels b (Fixed g) → IsCutInto model kernels g (Fixed g)
  cut_again b g h = (record { closed = h.0.closed; inside = order.itself g; greatest = λ c closed inside. inside }, h.1)

  below_fixed : (b g : Bounds) (bit : ℕ) (found : Option Bounds) → CanBeCut model kernels b → IsCutInto model kernels b (Fixed g) →
      LeadsTo model kernels 1 g bit found → (bit ≡ 0 → found ≡ Some g) × (bit ≢ 0 → found ≡ None)
  below_fixed b g bit found can is h =
      let same : h.0 ≡ Fixed g = laws.one model kernels g h.0 (Fixed g) can.search h.1 (cut_again b g is) in
      subst (λ (c : Cut). IsBelow c (2 ^ 0) (LeadsTo model kernels 0) bit found) same h.2

  BoxesBelow : ℕ → Type 0
  BoxesBelow depth = (b : Bounds) (number bit : ℕ) (sub : Bounds) (found : Option Bounds) → CanBeCut model kernels b → number < 2 ^ depth → bit < 2 →
      LeadsTo model kernels depth b number (Some sub) → LeadsTo model kernels 1 sub bit found → LeadsTo model kernels (suc depth) b (2 * number + bit) found

  boxes_by : (depth : ℕ) → BoxesBelow depth → (b : Bounds) (number bit : ℕ) (sub : Bounds) (found : Option Bounds) → CanBeCut model kernels b →
      number < 2 ^ suc depth → bit < 2 → (cut : Cut) → IsCutInto model kernels b cut →
      IsBelow cut (2 ^ depth) (LeadsTo model kernels depth) number (Some sub) → LeadsTo model kernels 1 sub bit found →
      IsBelow cut (2 ^ suc depth) (LeadsTo model kernels (suc depth)) (2 * number + bit) found
  unfolding BoxesBelow
  boxes_by depth next b number bit sub found can low small Failed is h k = absurd cc
  boxes_by depth next b number bit sub found can low small (Fixed g) is h k = dite (ℕ_discrete number 0)
      (λ (e : number ≡ 0).
      let at : Some sub ≡ Some g = h.0 e in
      let same : sub ≡ g = cc in
      let by = below_fixed b g bit found can is (subst (λ (c : Bounds). LeadsTo model kernels 1 c bit found) same k) in
      ((λ z. by.0 (omega arith)), λ nz. by.1 (λ z. nz (omega arith))))
      (λ (ne : number ≢ 0). let at : Some sub ≡ None = h.1 ne in absurd cc)
  boxes_by depth next b number bit sub found can low small (Parted l r) is h k =
      let t = twice depth in (
        (λ lower. next l number bit sub found (laws.left model kernels b l r can is).1 (omega arith) small (h.0 (omega arith)) k),
        λ upper. let high : 2 ^ depth ≤ number = omega arith in
            let same : 2 * (number - 2 ^ depth) + bit ≡ 2 * number + bit - 2 ^ suc depth = omega arith in
            subst (λ (n : ℕ). LeadsTo model kernels (suc depth) r n found) same
            (next r (number - 2 ^ depth) bit sub found (laws.right model kernels b l r can is).1 (omega arith) small (h.1 high) k),
      )

  boxes_below : (depth : ℕ) → BoxesBelow depth
  unfolding BoxesBelow
  boxes_below zero b number bit sub found can low small h k =
      let same : sub ≡ b = cc in
      let n : bit ≡ 2 * number + bit = omega arith in
      subst (λ (m : ℕ). LeadsTo model kernels 1 b m found) n (subst (λ (c : Bounds). LeadsTo model kernels 1 c bit found) same k)
  boxes_below (suc depth) b number bit sub found can low small h k =
      (h.0, h.1, boxes_by depth (λ c n t. boxes_below depth c n t) b number bit sub found can low small h.0 h.1 h.2 k)

  -- what a number leads to can be cut
  CanBelow : ℕ → Type 0
  CanBelow depth = (b : Bounds) (number : ℕ) (sub : Bounds) → CanBeCut model kernels b → LeadsTo model kernels depth b number (Some sub) → CanBeCut model kernels sub

  can_by : (depth : ℕ) → CanBelow depth → (b : Bounds) (number : ℕ) (sub : Bounds) → CanBeCut model kernels b → (cut : Cut) → IsCutInto model kernels b cut →
      IsBelow cut (2 ^ depth) (LeadsTo model kernels depth) number (Some sub) → CanBeCut model kernels sub
  unfolding CanBelow
  can_by depth next b number sub can Failed is h = absurd cc
  can_by depth next b number sub can (Fixed g) is h = dite (ℕ_discrete number 0)
      (λ (e : number ≡ 0). let at : Some sub ≡ Some g = h.0 e in let same : g ≡ sub = cc in subst (CanBeCut model kernels) same (laws.kept model kernels b g can is).1)
      (λ (ne : number ≢ 0). let at : Some sub ≡ None = h.1 ne in absurd cc)
  can_by depth next b number sub can (Parted l r) is h = dite (dec_le (suc number) (2 ^ depth))
      (λ (low : number < 2 ^ depth). next l number sub (laws.left model kernels b l r can is).1 (h.0 low))
      (λ (no : ¬ (number < 2 ^ depth)). next r (number - 2 ^ depth) sub (laws.right model kernels b l r can is).1 (h.1 (omega arith)))

  can_below : (depth : ℕ) → CanBelow depth
  unfolding CanBelow
  can_below zero b number sub can h = let same : b ≡ sub = cc in subst (CanBeCut model kernels) same can
  can_below (suc depth) b number sub can h = can_by depth (λ c n. can_below depth c n) b number sub can h.0 h.1 h.2

  two_paths : (xs : List (Option Bounds)) (left right : Option Bounds) → length xs ≡ 2 → left ≡ get_or xs 0 None → right ≡ get_or xs 1 None → xs ≡ left ∷ right ∷ []
  two_paths [] left right h l r = absurd (omega arith)
  two_paths (x ∷ []) left right h l r = absurd (omega arith)
  two_paths (x ∷ y ∷ []) left right h l r = let a : left ≡ x = l in let b : right ≡ y = r in cc
  two_paths (x ∷ y ∷ z ∷ xs) left right h l r = absurd (omega arith)

  lists_joined : (depth : ℕ) (b : Bounds) (number : ℕ) (found left right : Option Bounds) (all lefts rights : List (List ℤ)) →
      CanBeCut model kernels b → number < 2 ^ depth → LeadsTo model kernels depth b number found →
      LeadsTo model kernels (suc depth) b (2 * number) left → LeadsTo model kernels (suc depth) b (2 * number + 1) right →
      SolutionsOf model kernels found all → SolutionsOf model kernels left lefts → SolutionsOf model kernels right rights → all ≡ lefts ++ rights
  unfolding NothingBelow BoxesBelow CanBelow
  lists_joined depth b number None left right all lefts rights can low h to_left to_right a ls rs =
      let zero_turn : 2 * number + 0 ≡ 2 * number = omega arith in
      let l : left ≡ None = paths.one model kernels (suc depth) b (2 * number) left None can.search to_left
      (subst (λ (n : ℕ). LeadsTo model kernels (suc depth) b n None) zero_turn (nothing_below depth b number 0 low (omega arith) h)) in
      let r : right ≡ None = paths.one model kernels (suc depth) b (2 * number + 1) right None can.search to_right (nothing_below depth b number 1 low (omega arith) h) in
      let no_lefts : lefts ≡ [] = subst (λ (path : Option Bounds). SolutionsOf model kernels path lefts) l ls in
      let no_rights : rights ≡ [] = subst (λ (path : Option Bounds). SolutionsOf model kernels path rights) r rs in
      a ∙ (ap (λ (xs : List (List ℤ)). xs) (sym no_rights) ∙ ap (λ (xs : List (List ℤ)). xs ++ rights) (sym no_lefts))
  lists_joined depth b number (Some sub) left right all lefts rights can low h to_left to_right a ls rs =
      let can_sub = can_below depth b number sub can h in
      let every = paths.every model kernels 1 sub can_sub in
      let zero_turn : 2 * number + 0 ≡ 2 * number = omega arith in
      let first : left ≡ get_or every.0 0 None = paths.one model kernels (suc depth) b (2 * number) left (get_or every.0 0 None) can.search to_left
      (subst (λ (n : ℕ). LeadsTo model kernels (suc depth) b n (get_or every.0 0 None)) zero_turn
      (boxes_below depth b number 0 sub (get_or every.0 0 None) can low (omega arith) h (every.1.each 0 (omega arith)))) in
      let second : right ≡ get_or every.0 1 None = paths.one model kernels (suc depth) b (2 * number + 1) right (get_or every.0 1 None) can.search to_right
      (boxes_below depth b number 1 sub (get_or every.0 1 None) can low (omega arith) h (every.1.each 1 (omega arith))) in
      let both : every.0 ≡ left ∷ right ∷ [] = two_paths every.0 left right every.1.count first second in
      let append_none : rights ≡ rights ++ [] = sym (append-nil rights) in
      let listed : SolutionsOfAll model kernels (left ∷ right ∷ []) (lefts ++ rights) = (lefts, rights, ls, (rights, [], rs, refl, append_none), refl) in
      one_list model kernels sub all (lefts ++ rights) can.search a
      (paths.solutions model kernels 1 sub every.0 (lefts ++ rights) can_sub every.1 (subst (λ (xs : List (Option Bounds)). SolutionsOfAll model kernels xs (lefts ++ rights)) (sym both) listed))

pub deeper_laws : InsideOrder → CutLaws → PathLaws → OneList → DeeperLaws
unfolding NothingBelow BoxesBelow CanBelow
deeper_laws order laws paths one_list = record {
  can = λ model kernels. can_below order laws paths one_list model kernels;
  nothing = λ model kernels. nothing_below order laws paths one_list model kernels;
  below = λ model kernels. boxes_below order laws paths one_list model kernels;
  joined = λ model kernels. lists_joined order laws paths one_list model kernels;
}
