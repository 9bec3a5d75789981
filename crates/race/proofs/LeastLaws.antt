-- What the turns of both searches make of the best solution.
use Rattle.std.proofs.Common.{◌≡◌, ◌≢◌, ℤ, ◌≤ℤ◌, ◌<ℤ◌, Bool, true, false, cond, List, Option, Some, None, refl, sym, ap, subst, ◌∙◌, inl, inr, ◌⊎◌, arith}
use Rattle.std.specs.Prelude.{int_lt, IfSome, IfNone}
use Rattle.std.specs.Int.{int_min}
use Rattle.std.proofs.lemmas.Int.{ints, by_lt_z}
use Rattle.interval.specs.Boxes.{Bounds, IsInside, InsideOrder}
use Rattle.constraint_model.specs.declared.model.Goal.{Goal}
use Rattle.constraint_model.specs.declared.model.FznModel.{FznModel}
use Rattle.constraint_model.specs.Relations.{cost_of}
use Rattle.decompose.specs.Program.{fixed_box, extended}
use Rattle.solution_lists.specs.Solutions.{SolvesInside}
use Rattle.solution_lists.specs.Static.{IsStaticSearch}
use Rattle.search.specs.declared.least_turns.LeastTurns.{LeastTurns}
use Rattle.search.specs.LeastEnds.{IsCost}
use Rattle.search.specs.Costs.{IsBelow, IsAtMost}
use Rattle.search.specs.Turns.{CostsAtLeast, IsFirstOfItsCost, IsLeastTurns, FindsBetter, IsCutBelow, least_asked, lowest_of, found_last, lesser}
use Rattle.race.specs.declared.task.Task.{Task}
use Rattle.race.specs.declared.incumbent.Incumbent.{Incumbent}
use Rattle.race.specs.Tasks.{IsTask}
use Rattle.race.specs.Leasts.{IsFirstOfCost, IsIncumbent, best_cost, IsLeastIn, IsAsLow, IsBest, IsPlain, IsStanding, IsLower, IsCopy}

-- ---- costs

le_itself : (x : ℤ) → x ≤ℤ x
le_itself x = omega (arith, ints)

le_through : (x y z : ℤ) → x ≤ℤ y → y ≤ℤ z → x ≤ℤ z
le_through x y z h k = omega (arith, ints)

lt_le : (x y : ℤ) → x <ℤ y → x ≤ℤ y
lt_le x y h = omega (arith, ints)

le_not_lt : (x y : ℤ) → (x <ℤ y → ⊥) → y ≤ℤ x
le_not_lt x y h = by_lt_z x y (λ (l : x <ℤ y). absurd (h l)) (λ (l : y ≤ℤ x). l)

same_some : (x y : ℤ) → Some x ≡ Some y → x ≡ y
same_some x y e = cc

pub has_cost : (goal : Goal) (a : List ℤ) → goal ≢ Goal.Satisfy → (cost : ℤ) × (cost_of goal a ≡ Some cost)
has_cost Goal.Satisfy a h = absurd (h refl)
has_cost (Goal.Minimize t) a h = (_, refl)
has_cost (Goal.Maximize t) a h = (_, refl)

pub as_low_itself : (o : Option ℤ) → IsAsLow o o
as_low_itself None = refl
as_low_itself (Some cost) = le_itself cost

pub as_low_through : (a b c : Option ℤ) → IsAsLow a b → IsAsLow b c → IsAsLow a c
as_low_through None None c h k = k
as_low_through None (Some y) c h k = absurd (let e : Some y ≡ None = h in cc)
as_low_through (Some x) None None h k = tt
as_low_through (Some x) None (Some z) h k = absurd (let e : Some z ≡ None = k in cc)
as_low_through (Some x) (Some y) None h k = tt
as_low_through (Some x) (Some y) (Some z) h k = le_through x y z h k

pub below_as_low : (cost : ℤ) (best : Option ℤ) → IsBelow cost best → IsAsLow (Some cost) best
below_as_low cost None h = tt
below_as_low cost (Some best) h = lt_le cost best h

min_is : (x y : ℤ) → y ≤ℤ x → int_min x y ≡ y
min_is x y h = case (int_lt y x) refl
  where
    case : (t : Bool) → int_lt y x ≡ t → cond t y x ≡ y
    case true e = refl
    case false e = omega (arith, ints)

-- the lesser of two costs is the one that is as low
pub lesser_is : (lowest best : Option ℤ) → IsAsLow best lowest → lesser lowest best ≡ best
lesser_is None best h = refl
lesser_is (Some x) None h = absurd (let e : Some x ≡ None = h in cc)
lesser_is (Some x) (Some y) h = ap (λ (z : ℤ). Some z) (min_is x y h)

-- ---- the best solution

-- what it costs is the cost of a solution
pub best_is_cost : (model : FznModel) (b : Bounds) (best : Option Incumbent) → IfSome best (IsIncumbent model b) → IfSome (best_cost best) (IsCost model)
best_is_cost model b None h = tt
best_is_cost model b (Some best) h = record { assignment = best.values; solves = h.solves.solves; costs = h.costs }

-- where none costs less it is of least cost
pub least_in : (model : FznModel) (b : Bounds) (best : Option Incumbent) → model.goal ≢ Goal.Satisfy → IfSome best (IsIncumbent model b) →
    CostsAtLeast model b (best_cost best) → IsLeastIn model b best
least_in model b None objective h least = λ a s. let cost = has_cost model.goal a objective in least a cost.0 s cost.1
least_in model b (Some best) objective h least = (h, least)

-- where the box has no solution none costs less
pub none_less : (model : FznModel) (b : Bounds) (best : Option ℤ) → ((a : List ℤ) → SolvesInside model b a → ⊥) → CostsAtLeast model b best
none_less model b best none = λ a cost s e. absurd (none a s)

-- ---- the plain search

module _ {L : Type 0} (task : Task L) (before after : LeastTurns) (best : Option Incumbent) (standing : IsStanding task before best) where
  lowest_is : lowest_of after ≡ lesser (lowest_of before) (best_cost best) → lowest_of after ≡ best_cost best
  lowest_is e = e ∙ lesser_is (lowest_of before) (best_cost best) standing.is_best.as_low

  pub plain_done : lowest_of after ≡ lesser (lowest_of before) (best_cost best) → CostsAtLeast task.run.now.model.now (least_asked before) (lowest_of after) →
      IsLeastIn task.run.now.model.now task.sub.now best
  plain_done e least =
      least_in task.run.now.model.now task.sub.now best standing.is_plain.turns.objective standing.is_best.incumbent
      (subst (CostsAtLeast task.run.now.model.now task.sub.now) (lowest_is e)
      (subst (λ (b : Bounds). CostsAtLeast task.run.now.model.now b (lowest_of after)) standing.is_plain.same_box least))

  module _ (turns : IsLeastTurns task.run.now after) (asked : least_asked after ≡ least_asked before) where
    plain : IsPlain task after
    plain = record { turns = turns; same_box = asked ∙ standing.is_plain.same_box }

    pub plain_paused : lowest_of after ≡ lesser (lowest_of before) (best_cost best) → IsStanding task after best
    plain_paused e = record {
      is_plain = plain;
      is_best = record {
        incumbent = standing.is_best.incumbent;
        as_low = subst (IsAsLow (best_cost best)) (sym (lowest_is e)) (as_low_itself (best_cost best));
      };
    }

    module _ (is : IsTask task) (old : Option ℤ) (better : FindsBetter task.run.now.model.now old before after)
        (first : IsStaticSearch task.run.now.model.now → IfSome (found_last after) (IsFirstOfItsCost task.run.now.model.now (least_asked before))) where
      abbrev a : List ℤ
      a = better.solution

      there : found_last after ≡ Some a
      there = better.is_last

      first_there : IsStaticSearch task.run.now.model.now → IsFirstOfItsCost task.run.now.model.now task.sub.now a
      first_there static =
          subst (λ (b : Bounds). IsFirstOfItsCost task.run.now.model.now b a) standing.is_plain.same_box
          (subst (λ (o : Option (List ℤ)). IfSome o (IsFirstOfItsCost task.run.now.model.now (least_asked before))) there (first static))

      copy_is : (found : Incumbent) → IsCopy after found → found.is_first ≡ task.is_static → IsIncumbent task.run.now.model.now task.sub.now found
      copy_is found copy told =
          let same : a ≡ found.values = (let e = sym there ∙ copy.0 in same_list a found.values e) in
          record {
            solves = subst (SolvesInside task.run.now.model.now task.sub.now) same (subst (λ (b : Bounds). SolvesInside task.run.now.model.now b a) standing.is_plain.same_box better.solves);
            costs = subst (λ (xs : List ℤ). cost_of task.run.now.model.now.goal xs ≡ Some found.cost) same (better.costs ∙ copy.1);
            first = λ e. let static = is.static_order (sym told ∙ e) in
                record { static_order = static; first = subst (IsFirstOfItsCost task.run.now.model.now task.sub.now) same (first_there static) };
          }
        where
          same_list : (x y : List ℤ) → Some x ≡ Some y → x ≡ y
          same_list x y e = cc

      pub plain_found : (found : Option Incumbent) → IfSome found (λ f. IsCopy after f × (f.is_first ≡ task.is_static)) →
          IfNone found (lowest_of after ≢ None → found_last after ≡ None) → IsStanding task after found
      plain_found None some none =
          let cost = has_cost task.run.now.model.now.goal a standing.is_plain.turns.objective in
          let some_lowest : Some cost.0 ≡ lowest_of after = sym cost.1 ∙ better.costs in
          absurd (let e : found_last after ≡ None = none (λ (f : lowest_of after ≡ None). let k = some_lowest ∙ f in absurd cc) in let k = sym there ∙ e in cc)
      plain_found (Some found) some none = record {
        is_plain = plain;
        is_best = record {
          incumbent = copy_is found some.0 some.1;
          as_low = subst (IsAsLow (Some found.cost)) (sym some.0.1) (as_low_itself (Some found.cost));
        };
      }

-- ---- the free search

-- in a box that is cut below the best cost
pub lower_in : InsideOrder → (model : FznModel) (cost : ℤ) (b cut : Bounds) (a : List ℤ) → IsCutBelow model cost b cut → SolvesInside model cut a → IsLower model b (Some cost) a
lower_in order model cost b cut a is s = record {
  solves = record { solves = s.solves; inside = order.through (fixed_box (extended model a)) cut b s.inside is.inside };
  below = λ other e. is.below a other s e;
}

pub none_lower : (model : FznModel) (cost : ℤ) (b cut : Bounds) → IsCutBelow model cost b cut → ((a : List ℤ) → SolvesInside model cut a → ⊥) → CostsAtLeast model b (Some cost)
none_lower model cost b cut is none = λ a other s e. le_not_lt other cost (λ (h : other <ℤ cost). none a (is.has a other s e h))

-- a lower one is the best, and it costs as little
pub lower_as_low : (model : FznModel) (b : Bounds) (best : Option ℤ) (a : List ℤ) (found : Incumbent) → IsLower model b best a → IsIncumbent model b found → found.values ≡ a →
    IsAsLow (Some found.cost) best
lower_as_low model b best a found lower is same =
    below_as_low found.cost best (lower.below found.cost (subst (λ (xs : List ℤ). cost_of model.goal xs ≡ Some found.cost) same is.costs))
