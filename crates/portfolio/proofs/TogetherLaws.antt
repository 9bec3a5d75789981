-- What the parts of a box tell together.
use Rattle.std.proofs.Common.{◌≡◌, ◌≢◌, ◌⊎◌, inl, inr, ◌+◌, ℕ, ℤ, ◌<◌, ◌≤◌, List, [], ◌∷◌, ◌++◌, length, take, get_or, All, Option, None, Some, refl, sym, ap, subst, ◌∙◌}
use Rattle.std.specs.Prelude.{IfSome}
use Rattle.std.specs.List.{AllZip}
use Rattle.std.proofs.lemmas.List.{take_more, take_all}
use Rattle.std.proofs.lemmas.List.Elements.{All-head, All-rest, All-push}
use Rattle.interval.specs.Boxes.{Bounds}
use Rattle.constraint_model.specs.declared.model.Goal.{Goal}
use Rattle.constraint_model.specs.declared.model.FznModel.{FznModel}
use Rattle.constraint_model.specs.Relations.{cost_of}
use Rattle.solution_lists.specs.Solutions.{SolvesInside}
use Rattle.search.specs.Costs.{IsAtMost}
use Rattle.search.specs.Ends.{head_of}
use Rattle.search.specs.Turns.{CostsAtLeast}
use Rattle.race.specs.declared.incumbent.Incumbent.{Incumbent}
use Rattle.race.specs.Leasts.{IsIncumbent}
use Rattle.portfolio.specs.declared.told.FirstTold.{FirstTold}
use Rattle.portfolio.specs.declared.told.Bound.{Bound}
use Rattle.portfolio.specs.declared.told.CostTold.{CostTold}
use Rattle.portfolio.specs.Told.{TellsFirst, joined, IsBoundedFrom}

-- ---- the first solution

abbrev pub Solutions : Type 0
Solutions = List (List ℤ)

-- what is left of the lists has the same first solution
pub record IsLeft (lists : List Solutions) (told : List FirstTold) : Type 0 where
  pub others : List Solutions
  pub tell : AllZip TellsFirst others told
  pub same : joined lists ≡ joined others

nothing_first : (own : Solutions) → None ≡ head_of own → own ≡ []
nothing_first [] e = refl
nothing_first (a ∷ others) e = absurd cc

some_first : (a : List ℤ) (own others : Solutions) → Some a ≡ head_of own → Some a ≡ head_of (own ++ others)
some_first a [] others e = absurd cc
some_first a (b ∷ own) others e = e

pub left_first : (lists : List Solutions) (told : List FirstTold) → AllZip TellsFirst lists told → IsLeft lists told
left_first lists told h = record { others = lists; tell = h; same = refl }

-- a part told that it has none
pub left_next : (lists : List Solutions) (told rest : List FirstTold) (part : FirstTold) → told ≡ part ∷ rest → part ≡ FirstTold.Known None → IsLeft lists told → IsLeft lists rest
left_next lists told rest part e none h = next h.others (subst (AllZip TellsFirst h.others) e h.tell) h.same
  where
    next : (others : List Solutions) → AllZip TellsFirst others (part ∷ rest) → joined lists ≡ joined others → IsLeft lists rest
    next [] tell same = absurd tell
    next (own ∷ others) tell same =
        let empty = nothing_first own (subst (TellsFirst own) none tell.0) in
        record { others = others; tell = tell.1; same = same ∙ ap (λ (xs : Solutions). xs ++ joined others) empty }

-- a part told its first
pub first_there : (lists : List Solutions) (told rest : List FirstTold) (part : FirstTold) (a : List ℤ) → told ≡ part ∷ rest → part ≡ FirstTold.Known (Some a) → IsLeft lists told → Some a ≡ head_of (joined lists)
first_there lists told rest part a e some h = next h.others (subst (AllZip TellsFirst h.others) e h.tell) h.same
  where
    next : (others : List Solutions) → AllZip TellsFirst others (part ∷ rest) → joined lists ≡ joined others → Some a ≡ head_of (joined lists)
    next [] tell same = absurd tell
    next (own ∷ others) tell same = some_first a own (joined others) (subst (TellsFirst own) some tell.0) ∙ ap head_of (sym same)

-- all told that they have none
pub none_there : (lists : List Solutions) (told : List FirstTold) → told ≡ [] → IsLeft lists told → None ≡ head_of (joined lists)
none_there lists told e h = next h.others (subst (AllZip TellsFirst h.others) e h.tell) h.same
  where
    next : (others : List Solutions) → AllZip TellsFirst others [] → joined lists ≡ joined others → None ≡ head_of (joined lists)
    next [] tell same = ap head_of (sym same)
    next (own ∷ others) tell same = absurd tell

-- ---- bounds

lowered : (old new : Option ℤ) → ((cost : ℤ) → IsAtMost old cost → IsAtMost new cost) → (told : List CostTold) → All (IsBoundedFrom old) told → All (IsBoundedFrom new) told
lowered old new lower told h = λ k d l. let own = h k d l in record { own = own.own; is = own.is; lower = λ cost m. lower cost (own.lower cost m) }

pub bounded_more : (told : List CostTold) (i : ℕ) (part : CostTold) (bound : Bound) (old new : Option ℤ) → i < length told → part ≡ get_or told i part → part.bound ≡ Some bound →
    ((cost : ℤ) → IsAtMost old cost → IsAtMost new cost) → ((cost : ℤ) → IsAtMost bound.at_least cost → IsAtMost new cost) → All (IsBoundedFrom old) (take i told) → All (IsBoundedFrom new) (take (i + 1) told)
bounded_more told i part bound old new below is some first second h =
    subst (All (IsBoundedFrom new)) (ap (λ (x : CostTold). take i told ++ x ∷ []) is ∙ sym (take_more told i part below))
    (All-push (IsBoundedFrom new) (take i told) part (lowered old new first (take i told) h) (record { own = bound; is = some; lower = second }))

pub bounded_all : (told : List CostTold) (i : ℕ) (least : Option ℤ) → length told ≤ i → All (IsBoundedFrom least) (take i told) → All (IsBoundedFrom least) told
bounded_all told i least all h = subst (All (IsBoundedFrom least)) (take_all i told all) h

-- ---- the best solution

pub best_next : (model : FznModel) (b : Bounds) (told rest : List CostTold) (part : CostTold) → told ≡ part ∷ rest → All (λ (t : CostTold). IfSome t.best (IsIncumbent model b)) told →
    IfSome part.best (IsIncumbent model b) × All (λ (t : CostTold). IfSome t.best (IsIncumbent model b)) rest
best_next model b told rest part e h = (
  All-head (λ (t : CostTold). IfSome t.best (IsIncumbent model b)) part rest (subst (All (λ (t : CostTold). IfSome t.best (IsIncumbent model b))) e h),
  All-rest (λ (t : CostTold). IfSome t.best (IsIncumbent model b)) part rest told e h,
)

pub one_of_two : (P : Incumbent → Type 0) (one other result : Option Incumbent) → (result ≡ one) ⊎ (result ≡ other) → IfSome one P → IfSome other P → IfSome result P
one_of_two P one other result (inl e) h k = subst (λ (o : Option Incumbent). IfSome o P) (sym e) h
one_of_two P one other result (inr e) h k = subst (λ (o : Option Incumbent). IfSome o P) (sym e) k

-- where no bound is there is no solution
pub has_cost : (goal : Goal) (a : List ℤ) → goal ≢ Goal.Satisfy → (cost : ℤ) × (cost_of goal a ≡ Some cost)
has_cost Goal.Satisfy a h = absurd (h refl)
has_cost (Goal.Minimize t) a h = (_, refl)
has_cost (Goal.Maximize t) a h = (_, refl)

pub none_solves : (model : FznModel) (b : Bounds) (least : Option ℤ) → model.goal ≢ Goal.Satisfy → least ≡ None → CostsAtLeast model b least → (a : List ℤ) → SolvesInside model b a → ⊥
none_solves model b least objective none h a s =
    let cost = has_cost model.goal a objective in
    subst (λ (o : Option ℤ). IsAtMost o cost.0) none (h a cost.0 s cost.1)
