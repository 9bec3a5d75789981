-- With the limit on rounds pinned, the results of all parts are one list: those for all solutions, those for the least cost by one
-- worker, and those for the first solution up to the first part that has one.
use Rattle.std.proofs.Common.{◌≡◌, ℕ, zero, suc, ◌+◌, ◌<◌, ◌≤◌, ℤ, ◌≤ℤ◌, List, [], ◌∷◌, ◌++◌, length, take, flat_map, Any, Option, None, Some, refl, sym, ap, subst, ◌∙◌, inl, inr, arith}
use Rattle.std.proofs.lemmas.Int.{ints}
use Rattle.std.proofs.lemmas.Bool.{cases_lt}
use Rattle.std.proofs.lemmas.Option.{slice_get_within}
use Rattle.interval.specs.Boxes.{Bounds}
use Rattle.constraint_model.specs.declared.model.Goal.{Goal}
use Rattle.constraint_model.specs.declared.model.FznModel.{FznModel}
use Rattle.constraint_model.specs.Relations.{cost_of}
use Rattle.constraint_model.specs.Searches.{IsSearchOf}
use Rattle.decompose.specs.Kernels.{kernels_of}
use Rattle.decompose.specs.Program.{start_of}
use Rattle.subproblems.specs.Paths.{PathLaws}
use Rattle.search.specs.declared.ends.FirstEnd.{FirstEnd}
use Rattle.search.specs.declared.ends.AllEnd.{AllEnd}
use Rattle.search.specs.Ends.{head_of, IsAllEnd}
use Rattle.search.specs.LeastEnds.{least_of}
use Rattle.search.specs.Laws.{AreRoundsPinned, EndLaws}
use Rattle.tree_cover.specs.declared.part.Part.{Part}
use Rattle.answer.specs.declared.options.Options.{Options}
use Rattle.answer.specs.Lists.{Assignment}
use Rattle.answer.specs.Places.{StandsAt}
use Rattle.answer.specs.Results.{program_of, IsFirstResult, AreFirstResults, first_of, first_collected, IsOpen, IsAllResult, AreAllResults, all_of, LeastResult, IsResultFrom, recorded_in, IsLeastOf, AreLeastResults}
use Rattle.answer.proofs.PartPaths.{one_at}
use Rattle.answer.proofs.AlongLaws.{stands_first, stands_later, one_entry}
use Rattle.answer.proofs.OpenLaws.{open_with}
use Rattle.answer.proofs.OneEnd.{one_done, not_spent, one_spent, one_least}
use Rattle.answer.proofs.Chosen.{entry, same_entries}

take_next : {A : Type 0} (xs : List A) (n : ℕ) (x : A) → StandsAt xs n x → take (suc n) xs ≡ take n xs ++ x ∷ []
take_next [] n x h = absurd cc
take_next (y ∷ ys) zero x h = let same : y ≡ x = cc in ap (λ z. z ∷ []) same
take_next (y ∷ ys) (suc n) x h = ap (λ zs. y ∷ zs) (take_next ys n x h)

-- the least cost of some solutions is one
both : (x y : ℤ) → x ≤ℤ y → y ≤ℤ x → x ≡ y
both x y h k = omega (arith, ints)

none_there : (P : Assignment → Type 0) (xs : List Assignment) → xs ≡ [] → Any P xs → ⊥
none_there P xs e h = let l = h.2 in let n = ap length e in omega (arith, l, n)

one_known : (goal : Goal) (recorded : List Assignment) (known other : Option ℤ) → IsLeastOf goal recorded known → IsLeastOf goal recorded other → known ≡ other
one_known goal recorded None None h k = refl
one_known goal recorded None (Some cost) h k = absurd (none_there (λ a. cost_of goal a ≡ Some cost) recorded h k.0)
one_known goal recorded (Some cost) None h k = absurd (none_there (λ a. cost_of goal a ≡ Some cost) recorded k h.0)
one_known goal recorded (Some cost) (Some other) ((i, a, l, e, c), all) ((j, b, m, f, d), every) =
    ap (λ (z : ℤ). Some z) (both cost other (all j b m other (ap (cost_of goal) f ∙ d)) (every i a l cost (ap (cost_of goal) e ∙ c)))

-- ---- what one part leads to

abbrev IsUncut : FirstEnd → Type 0
IsUncut (FirstEnd.Cut lesser) = ⊥
IsUncut (FirstEnd.Done answer) = Unit {0}
IsUncut (FirstEnd.Spent nodes why) = Unit {0}

-- no lesser number has a solution
abbrev NoneBefore : List FirstEnd → ℕ → Type 0
NoneBefore results number = (j : ℕ) (a : Assignment) → j < number → StandsAt results j (FirstEnd.Done (Some a)) → ⊥

abbrev AreRest : List FirstEnd → ℕ → List FirstEnd → Type 0
AreRest results number rs = (j : ℕ) (r : FirstEnd) → StandsAt rs j r → StandsAt results (number + j) r

rest_after : (results : List FirstEnd) (number : ℕ) (r : FirstEnd) (rs : List FirstEnd) → AreRest results number (r ∷ rs) → AreRest results (suc number) rs
rest_after results number r rs rest j s h =
    let same : number + suc j ≡ suc number + j = omega arith in
    subst (λ (n : ℕ). StandsAt results n s) same (rest (suc j) s (stands_later r rs j s h))

here : (results : List FirstEnd) (number : ℕ) (r : FirstEnd) (rs : List FirstEnd) → AreRest results number (r ∷ rs) → StandsAt results number r
here results number r rs rest = let same : number + 0 ≡ number = omega arith in subst (λ (n : ℕ). StandsAt results n r) same (rest 0 r (stands_first r rs))

none_after : (results : List FirstEnd) (number : ℕ) (r : FirstEnd) → StandsAt results number r → first_collected r ≡ [] → NoneBefore results number → NoneBefore results (suc number)
none_after results number r there empty none j a below h = elim (cases_lt j number) [
  | inl l ↦ none j a l h
  | inr l ↦ let same : j ≡ number = omega arith in
      let e = one_entry results number r (FirstEnd.Done (Some a)) there (subst (λ (n : ℕ). StandsAt results n (FirstEnd.Done (Some a))) same h) in
      let bad : [] ≡ a ∷ [] = sym empty ∙ ap first_collected e in
      absurd cc
]

-- the first solution is the same, and where a part of the one is open, so is one of the other
abbrev pub Agree : List FirstEnd → List FirstEnd → Type 0
Agree xs ys = (take 1 (flat_map first_collected xs) ≡ take 1 (flat_map first_collected ys)) × (IsOpen xs → IsOpen ys)

first_with : (r : FirstEnd) (xs ys : List FirstEnd) → (first_collected r ≡ [] → Agree xs ys) → take 1 (flat_map first_collected (r ∷ xs)) ≡ take 1 (flat_map first_collected (r ∷ ys))
first_with (FirstEnd.Done (Some a)) xs ys rest = refl
first_with (FirstEnd.Done None) xs ys rest = (rest refl).0
first_with (FirstEnd.Spent nodes why) xs ys rest = (rest refl).0
first_with (FirstEnd.Cut lesser) xs ys rest = (rest refl).0

agree_with : (r : FirstEnd) (xs ys : List FirstEnd) → (first_collected r ≡ [] → Agree xs ys) → Agree (r ∷ xs) (r ∷ ys)
agree_with r xs ys rest = (first_with r xs ys rest, open_with r xs ys (λ empty. (rest empty).1))

module _ (ends : EndLaws) (laws : PathLaws) (model : FznModel) (rule : IsSearchOf model) (options : Options) (pinned : AreRoundsPinned (first_of model options [])) where
  first_end : (number : ℕ) (results others : List FirstEnd) (path : Option Bounds) (end other : FirstEnd) → IsFirstResult model options results number path end → IsFirstResult model options others number path other →
      IsUncut end → IsUncut other → end ≡ other
  first_end number results others path (FirstEnd.Cut lesser) other h k c d = absurd c
  first_end number results others path (FirstEnd.Done answer) (FirstEnd.Cut lesser) h k c d = absurd d
  first_end number results others path (FirstEnd.Spent nodes why) (FirstEnd.Cut lesser) h k c d = absurd d
  first_end number results others None (FirstEnd.Spent nodes why) other h k c d = absurd h
  first_end number results others None (FirstEnd.Done answer) (FirstEnd.Spent nodes why) h k c d = absurd k
  first_end number results others None (FirstEnd.Done answer) (FirstEnd.Done given) h k c d = ap FirstEnd.Done (h ∙ sym k)
  first_end number results others (Some sub) (FirstEnd.Done answer) (FirstEnd.Done given) h k c d =
      let same = one_done ends (first_of model options sub) rule refl pinned h.found k.found h.ends k.ends in
      ap FirstEnd.Done (h.recorded ∙ ap head_of same ∙ sym k.recorded)
  first_end number results others (Some sub) (FirstEnd.Done answer) (FirstEnd.Spent nodes why) h k c d =
      absurd (not_spent ends (first_of model options sub) rule refl pinned h.found [] why nodes h.ends k)
  first_end number results others (Some sub) (FirstEnd.Spent nodes why) (FirstEnd.Done given) h k c d =
      absurd (not_spent ends (first_of model options sub) rule refl pinned k.found [] why nodes k.ends h)
  first_end number results others (Some sub) (FirstEnd.Spent nodes why) (FirstEnd.Spent count other) h k c d =
      let same = one_spent ends (first_of model options sub) rule refl pinned why other nodes count [] [] h k in
      λ i. FirstEnd.Spent (same.1 i) (same.0 i)

  all_end : (sub : Bounds) (end other : AllEnd) → IsAllEnd (all_of model options sub) end → IsAllEnd (all_of model options sub) other → end ≡ other
  all_end sub (AllEnd.Done found) (AllEnd.Done others) h k = ap AllEnd.Done (one_done ends (all_of model options sub) rule refl pinned found others h.ends k.ends)
  all_end sub (AllEnd.Done found) (AllEnd.Spent nodes why others) h k = absurd (not_spent ends (all_of model options sub) rule refl pinned found others why nodes h.ends k)
  all_end sub (AllEnd.Spent nodes why found) (AllEnd.Done others) h k = absurd (not_spent ends (all_of model options sub) rule refl pinned others found why nodes k.ends h)
  all_end sub (AllEnd.Spent nodes why found) (AllEnd.Spent count other others) h k =
      let same = one_spent ends (all_of model options sub) rule refl pinned why other nodes count found others h k in
      λ i. AllEnd.Spent (same.1 i) (same.0 i) (same.2 i)

  all_result : (number : ℕ) (path : Option Bounds) (end other : AllEnd) → IsAllResult model options number path end → IsAllResult model options number path other → end ≡ other
  all_result number None end other h k = h ∙ sym k
  all_result number (Some sub) end other h k = all_end sub end other h k

  -- ---- all parts

  module _ (parts : List Part) (b : Bounds) (results others : List FirstEnd) (h : AreFirstResults model options parts b results) (k : AreFirstResults model options parts b others) where
    uncut : (list : List FirstEnd) (number : ℕ) (path : Option Bounds) (end : FirstEnd) → NoneBefore list number → IsFirstResult model options list number path end → IsUncut end
    uncut list number path (FirstEnd.Done answer) none own = tt
    uncut list number path (FirstEnd.Spent nodes why) none own = tt
    uncut list number path (FirstEnd.Cut lesser) none own = none lesser own.0 own.1 own.2

    same_here : (number : ℕ) (end other : FirstEnd) → StandsAt results number end → StandsAt others number other → NoneBefore results number → NoneBefore others number → end ≡ other
    same_here number end other there here none nowhere =
        let own = h.each number end there in
        let its = k.each number other here in
        let path = one_at laws model (kernels_of model) parts b number its.path own.path rule its.leads own.leads in
        let is = subst (λ (p : Option Bounds). IsFirstResult model options others number p other) path its.is_result in
        first_end number results others own.path end other own.is_result is (uncut results number own.path end none own.is_result) (uncut others number own.path other nowhere is)

    agree : (number : ℕ) (xs ys : List FirstEnd) → length xs ≡ length ys → AreRest results number xs → AreRest others number ys → NoneBefore results number → NoneBefore others number → Agree xs ys
    agree number [] [] e rest left none nowhere = (refl, λ part. part)
    agree number [] (y ∷ ys) e rest left none nowhere = absurd (omega arith)
    agree number (x ∷ xs) [] e rest left none nowhere = absurd (omega arith)
    agree number (x ∷ xs) (y ∷ ys) e rest left none nowhere =
        let there = here results number x xs rest in
        let its = here others number y ys left in
        let same = same_here number x y there its none nowhere in
        subst (λ (z : FirstEnd). Agree (x ∷ xs) (z ∷ ys)) same
        (agree_with x xs ys (λ empty.
        agree (suc number) xs ys (omega arith) (rest_after results number x xs rest) (rest_after others number y ys left) (none_after results number x there empty none)
        (none_after others number y its (ap first_collected (sym same) ∙ empty) nowhere)))

    pub first_agree : Agree results others
    first_agree =
        agree 0 results others (h.count ∙ sym k.count)
        (λ j r s. let same : j ≡ 0 + j = omega arith in subst (λ (n : ℕ). StandsAt results n r) same s)
        (λ j r s. let same : j ≡ 0 + j = omega arith in subst (λ (n : ℕ). StandsAt others n r) same s)
        (λ j a below s. omega arith) (λ j a below s. omega arith)

  pub same_all : (parts : List Part) (results others : List AllEnd) → AreAllResults model options parts results → AreAllResults model options parts others → results ≡ others
  same_all parts results others h k = same_entries results others (h.count ∙ sym k.count) each
    where
      each : (number : ℕ) (end : AllEnd) → StandsAt results number end → StandsAt others number end
      each number end there =
          let own = h.each number end there in
          let other = entry others number (let l = slice_get_within results number end there in let e = h.count in let f = k.count in omega (arith, l, e, f)) in
          let its = k.each number other.0 other.1 in
          let path = one_at laws model (kernels_of model) parts (start_of model) number its.path own.path rule its.leads own.leads in
          let is = subst (λ (p : Option Bounds). IsAllResult model options number p other.0) path its.is_result in
          other.1 ∙ ap (λ (r : AllEnd). Some r) (sym (all_result number own.path end other.0 own.is_result is))

  -- ---- the results of one worker for the least cost

  one_from : (known : Option ℤ) (number : ℕ) (path : Option Bounds) (result other : LeastResult) → IsResultFrom model options known number path result → IsResultFrom model options known number path other → result ≡ other
  one_from known number None result other h k = h ∙ sym k
  one_from known number (Some sub) result other h k =
      one_least ends (least_of model (program_of model) options.node_limit options.round_limit options.lanes known [] sub) rule refl pinned result.0 other.0 result.1 other.1 h k

  module _ (parts : List Part) (one : options.workers ≡ 1) (results others : List LeastResult) (h : AreLeastResults model options parts results) (k : AreLeastResults model options parts others) where
    same_result : (number : ℕ) (result other : LeastResult) → take number results ≡ take number others → StandsAt results number result → StandsAt others number other → result ≡ other
    same_result number result other front there here =
        let own = h.in_turn one number result there in
        let its = k.in_turn one number other here in
        let known = one_known model.goal (recorded_in (take number others)) its.known own.known its.is_known
        (subst (λ (rs : List LeastResult). IsLeastOf model.goal (recorded_in rs) own.known) front own.is_known) in
        let path = one_at laws model (kernels_of model) parts (start_of model) number its.has_result.path own.has_result.path rule its.has_result.leads own.has_result.leads in
        let is = subst (λ (p : Option Bounds). IsResultFrom model options its.known number p other) path its.has_result.is_result in
        one_from own.known number own.has_result.path result other own.has_result.is_result (subst (λ (c : Option ℤ). IsResultFrom model options c number own.has_result.path other) known is)

    same_count : length results ≡ length others
    same_count = h.are.count ∙ sym k.are.count

    same_front : (n : ℕ) → n ≤ length results → take n results ≡ take n others
    same_front zero l = refl
    same_front (suc n) l =
        let own = entry results n (omega arith) in
        let its = entry others n (let e = same_count in omega (arith, e, l)) in
        let front = same_front n (omega arith) in
        take_next results n own.0 own.1
        ∙ ap (λ (rs : List LeastResult). rs ++ own.0 ∷ []) front
        ∙ ap (λ (r : LeastResult). take n others ++ r ∷ []) (same_result n own.0 its.0 front own.1 its.1)
        ∙ sym (take_next others n its.0 its.1)

    pub same_least : results ≡ others
    same_least = same_entries results others same_count each
      where
        each : (number : ℕ) (result : LeastResult) → StandsAt results number result → StandsAt others number result
        each number result there =
            let below = slice_get_within results number result there in
            let its = entry others number (let e = same_count in omega (arith, e, below)) in
            its.1 ∙ ap (λ (r : LeastResult). Some r) (sym (same_result number result its.0 (same_front number (omega (arith, below))) there its.1))
