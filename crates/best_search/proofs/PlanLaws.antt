-- What the turns of both searches make of the last plan.
use Rattle.std.proofs.Common.{◌≡◌, ◌≢◌, ℤ, ◌≤ℤ◌, ◌<ℤ◌, Bool, true, false, cond, List, Option, Some, None, refl, sym, ap, subst, ◌∙◌, arith}
use Rattle.std.specs.Prelude.{int_lt, IfSome}
use Rattle.std.specs.Int.{int_min}
use Rattle.std.proofs.lemmas.Int.{ints}
use Rattle.interval.specs.Boxes.{Bounds}
use Rattle.constraint_model.specs.declared.model.Goal.{Goal}
use Rattle.constraint_model.specs.declared.model.FznModel.{FznModel}
use Rattle.constraint_model.specs.Relations.{IsSolution, cost_of}
use Rattle.decompose.specs.declared.program.Program.{Program}
use Rattle.decompose.specs.Program.{IsProgramOf, extended}
use Rattle.solution_lists.specs.Solutions.{SolvesInside}
use Rattle.search.specs.declared.run.Run.{Run}
use Rattle.search.specs.declared.least_turns.LeastTurns.{LeastTurns}
use Rattle.search.specs.LeastEnds.{IsCost}
use Rattle.search.specs.Costs.{IsBelow}
use Rattle.search.specs.Turns.{CostsAtLeast, FindsBetter, IsLeastTurns, least_asked, lowest_of as plain_lowest, found_last, lesser}
use Rattle.free_search.specs.declared.free.FreeSearch.{FreeSearch}
use Rattle.free_search.specs.Free.{IsFreeSearch}
use Rattle.race.specs.Leasts.{IsAsLow, IsLower}
use Rattle.best_search.specs.declared.better.BestSearch.{BestSearch}
use Rattle.best_search.specs.declared.plain.Found.{Found}
use Rattle.best_search.specs.Plans.{IsCheaper, NoneIsCheaper}
use Rattle.best_search.specs.Searches.{IsBestSearch, IsLastOf}

-- ---- costs

le_itself : (x : ℤ) → x ≤ℤ x
le_itself x = omega (arith, ints)

lt_through : (x y z : ℤ) → x <ℤ y → y ≤ℤ z → x ≤ℤ z
lt_through x y z h k = omega (arith, ints)

lt_le : (x y : ℤ) → x <ℤ y → x ≤ℤ y
lt_le x y h = omega (arith, ints)

has_cost : (goal : Goal) (a : List ℤ) → goal ≢ Goal.Satisfy → (cost : ℤ) × (cost_of goal a ≡ Some cost)
has_cost Goal.Satisfy a h = absurd (h refl)
has_cost (Goal.Minimize t) a h = (_, refl)
has_cost (Goal.Maximize t) a h = (_, refl)

pub as_low_itself : (o : Option ℤ) → IsAsLow o o
as_low_itself None = refl
as_low_itself (Some cost) = le_itself cost

below_as_low : (cost : ℤ) (best lowest : Option ℤ) → IsBelow cost best → IsAsLow best lowest → IsAsLow (Some cost) lowest
below_as_low cost best None h k = tt
below_as_low cost None (Some z) h k = absurd (let e : Some z ≡ None = k in cc)
below_as_low cost (Some best) (Some z) h k = lt_through cost best z h k

min_is : (x y : ℤ) → y ≤ℤ x → int_min x y ≡ y
min_is x y h = case (int_lt y x) refl
  where
    case : (t : Bool) → int_lt y x ≡ t → cond t y x ≡ y
    case true e = refl
    case false e = omega (arith, ints)

-- the lesser of two costs is the one that is as low
pub lesser_is : (lowest best : Option ℤ) → IsAsLow best lowest → lesser lowest best ≡ best
lesser_is None best h = refl
lesser_is (Some x) None h = absurd (let e : Some x ≡ None = h in cc)
lesser_is (Some x) (Some y) h = ap (λ (z : ℤ). Some z) (min_is x y h)

-- ---- solutions of the model lie in the start of its program

pub in_start : (model : FznModel) (program : Program) → IsProgramOf model program → (a : List ℤ) → IsSolution model a → SolvesInside model program.start a
in_start model program f a h = record {
  solves = h;
  inside = (f.points (extended model a)).1 (record { assignment = a; within = h.within; is_extension = refl });
}

pub none_cheaper : (model : FznModel) (program : Program) → IsProgramOf model program → (lowest : Option ℤ) → CostsAtLeast model program.start lowest → NoneIsCheaper model lowest
none_cheaper model program f lowest h = λ a cost s e. h a cost (in_start model program f a s) e

-- where there is no solution none costs less
pub none_at_all : (model : FznModel) (program : Program) → IsProgramOf model program → (lowest : Option ℤ) → ((a : List ℤ) → SolvesInside model program.start a → ⊥) → NoneIsCheaper model lowest
none_at_all model program f lowest none = λ a cost s e. absurd (none a (in_start model program f a s))

pub none_solves : (model : FznModel) (program : Program) → IsProgramOf model program → ((a : List ℤ) → SolvesInside model program.start a → ⊥) → (a : List ℤ) → IsSolution model a → ⊥
none_solves model program f none = λ a s. none a (in_start model program f a s)

cheaper : (model : FznModel) (before : Option ℤ) (plan : List ℤ) (cost : ℤ) → IsSolution model plan → cost_of model.goal plan ≡ Some cost → IsBelow cost before → IsCheaper model before (Some cost) plan
cheaper model before plan cost s e h = record { solves = s; costs = e; cost = cost; is_cost = refl; below = h }

-- ---- the plain search

same_list : (x y : List ℤ) → Some x ≡ Some y → x ≡ y
same_list x y e = cc

module _ {L : Type 0} (run : Run L) (search : BestSearch) (is : IsBestSearch run search) (after : LeastTurns) where
  abbrev model : FznModel
  model = run.model.now

  pub lowest_is : plain_lowest after ≡ lesser (plain_lowest search.plain) search.lowest → plain_lowest after ≡ search.lowest
  lowest_is e = e ∙ lesser_is (plain_lowest search.plain) search.lowest is.as_low

  -- at its end
  pub plain_done : IsProgramOf model run.program.now → plain_lowest after ≡ lesser (plain_lowest search.plain) search.lowest → CostsAtLeast model (least_asked search.plain) (plain_lowest after) →
      NoneIsCheaper model search.lowest
  plain_done f e least =
      none_cheaper model run.program.now f search.lowest
      (subst (CostsAtLeast model run.program.now.start) (lowest_is e) (subst (λ (b : Bounds). CostsAtLeast model b (plain_lowest after)) is.same_box least))

  -- a better plan is found: there are both what was found and its cost
  module _ (better : FindsBetter model (lesser (plain_lowest search.plain) search.lowest) search.plain after) where
    pub found_some : found_last after ≢ None
    found_some e = let k = sym better.is_last ∙ e in absurd cc

    pub lowest_some : plain_lowest after ≢ None
    lowest_some e =
        let cost = has_cost model.goal better.solution is.plain.objective in
        let k : Some cost.0 ≡ None = sym cost.1 ∙ better.costs ∙ e in absurd cc

    module _ (found : Found) (last : IsLastOf after found) where
      same : better.solution ≡ found.plan
      same = same_list better.solution found.plan (sym better.is_last ∙ last.plan)

      costs : cost_of model.goal found.plan ≡ Some found.cost
      costs = subst (λ (xs : List ℤ). cost_of model.goal xs ≡ Some found.cost) same (better.costs ∙ last.cost)

      solves : IsSolution model found.plan
      solves = subst (IsSolution model) same better.solves.solves

      pub plain_cheaper : IsCheaper model search.lowest (Some found.cost) found.plan
      plain_cheaper =
          cheaper model search.lowest found.plan found.cost solves costs
          (subst (λ (o : Option ℤ). IsBelow found.cost o) (lesser_is (plain_lowest search.plain) search.lowest is.as_low) (better.below found.cost last.cost))

      pub plain_found : IsLeastTurns run after → least_asked after ≡ least_asked search.plain → (next : BestSearch) → next.plain ≡ after → next.free ≡ search.free → next.lowest ≡ Some found.cost → IsBestSearch run next
      plain_found turns asked next p f l = record {
        plain = subst (IsLeastTurns run) (sym p) turns;
        same_box = ap least_asked p ∙ asked ∙ is.same_box;
        is_free = subst (λ (o : Option FreeSearch). IfSome o (IsFreeSearch run)) (sym f) is.is_free;
        cost = subst (λ (o : Option ℤ). IfSome o (IsCost model)) (sym l) (record { assignment = found.plan; solves = solves; costs = costs });
        as_low = subst (λ (o : Option ℤ). IsAsLow o (plain_lowest next.plain)) (sym l ∙ refl)
            (subst (λ (o : Option ℤ). IsAsLow (Some found.cost) o) (sym last.cost ∙ sym (ap plain_lowest p)) (le_itself found.cost));
      }

  -- the plain search goes on
  pub plain_goes_on : IsLeastTurns run after → least_asked after ≡ least_asked search.plain → plain_lowest after ≡ lesser (plain_lowest search.plain) search.lowest →
      (next : BestSearch) → next.plain ≡ after → next.free ≡ search.free → next.lowest ≡ search.lowest → IsBestSearch run next
  plain_goes_on turns asked e next p f l = record {
    plain = subst (IsLeastTurns run) (sym p) turns;
    same_box = ap least_asked p ∙ asked ∙ is.same_box;
    is_free = subst (λ (o : Option FreeSearch). IfSome o (IsFreeSearch run)) (sym f) is.is_free;
    cost = subst (λ (o : Option ℤ). IfSome o (IsCost model)) (sym l) is.cost;
    as_low = subst (λ (o : Option ℤ). IsAsLow o (plain_lowest next.plain)) (sym l)
        (subst (IsAsLow search.lowest) (sym (ap plain_lowest p ∙ lowest_is e)) (as_low_itself search.lowest));
  }

-- ---- the free search

pub free_cheaper : (model : FznModel) (b : Bounds) (before : Option ℤ) (plan : List ℤ) (cost : ℤ) → IsLower model b before plan → cost_of model.goal plan ≡ Some cost → IsCheaper model before (Some cost) plan
free_cheaper model b before plan cost lower e = cheaper model before plan cost lower.solves.solves e (lower.below cost e)

pub free_as_low : (model : FznModel) (b : Bounds) (before lowest : Option ℤ) (plan : List ℤ) (cost : ℤ) → IsLower model b before plan → cost_of model.goal plan ≡ Some cost → IsAsLow before lowest →
    IsAsLow (Some cost) lowest
free_as_low model b before lowest plan cost lower e h = below_as_low cost before lowest (lower.below cost e) h
