use Rattle.std.proofs.Common.{ℤ, List, Option, None, Some, sym, subst, rules, w64, to_z, of_z}
use mir.Val.{SFits}
use Rattle.std.proofs.lemmas.Int.{to_z-of_z}
use Rattle.std.specs.Prelude.{IfOk}
use Rattle.interval.specs.Boxes.{Bounds}
use Rattle.solution_lists.specs.Solutions.{SolvesInside}
use Rattle.search.specs.Turns.{CostsAtLeast, IsCutBelow}
use Rattle.free_search.specs.declared.ends.FreeEnd.{FreeEnd}
use Rattle.free_search.specs.Ends.{IfFound, IfRefuted}
use Rattle.race.specs.Leasts.{IsLower}
use Rattle.race.proofs.LeastLaws.{none_less, lower_in, none_lower}
use Rattle.race.proofs.EndLaws.{map_found, map_refuted}
use Rattle.race.proofs.lowering.look_below.Goals as goal

pub returns-in-None-clause-refuted : goal.returns-in-None-clause-refuted
returns-in-None-clause-refuted g c =
    let task = c.args.task.now in
    let model = task.run.now.model.now in
    map_refuted c.look_for.result
    (λ (none : (a : List ℤ) → SolvesInside model task.sub.now a → ⊥). none_less model task.sub.now c.args.best none)
    c.look_for.ensures.refuted

pub returns-in_ok-cut-in-Some-clause-found : goal.returns-in_ok-cut-in-Some-clause-found
returns-in_ok-cut-in-Some-clause-found g c =
    let task = c.args.task.now in
    let model = task.run.now.model.now in
    let cost = c.in-Some.cost in
    let cut = c.cut_below_cost.new.b in
    let fits : SFits w64 cost = search rules in
    let is : IsCutBelow model cost task.sub.now cut =
    subst (λ (z : ℤ). IsCutBelow model z task.sub.now cut) (to_z-of_z w64 cost fits)
    (subst (λ (b : Bounds). IsCutBelow model (to_z w64 (of_z w64 cost)) b cut) c.in_ok-cut-in-Some.ensures c.cut_below_cost.ensures.below) in
    subst (λ (o : Option ℤ). IfOk c.look_for-in-Some.result (λ (end : FreeEnd). IfFound end (IsLower model task.sub.now o))) (sym c.in-Some.is)
    (map_found c.look_for-in-Some.result
    (λ (a : List ℤ) (s : SolvesInside model cut a). lower_in c.law_inside_order.ensures model cost task.sub.now cut a is s)
    c.look_for-in-Some.ensures.found)

pub returns-in_ok-cut-in-Some-clause-refuted : goal.returns-in_ok-cut-in-Some-clause-refuted
returns-in_ok-cut-in-Some-clause-refuted g c =
    let task = c.args.task.now in
    let model = task.run.now.model.now in
    let cost = c.in-Some.cost in
    let cut = c.cut_below_cost.new.b in
    let fits : SFits w64 cost = search rules in
    let is : IsCutBelow model cost task.sub.now cut =
    subst (λ (z : ℤ). IsCutBelow model z task.sub.now cut) (to_z-of_z w64 cost fits)
    (subst (λ (b : Bounds). IsCutBelow model (to_z w64 (of_z w64 cost)) b cut) c.in_ok-cut-in-Some.ensures c.cut_below_cost.ensures.below) in
    subst (λ (o : Option ℤ). IfOk c.look_for-in-Some.result (λ (end : FreeEnd). IfRefuted end (CostsAtLeast model task.sub.now o))) (sym c.in-Some.is)
    (map_refuted c.look_for-in-Some.result
    (λ (none : (a : List ℤ) → SolvesInside model cut a → ⊥). none_lower model cost task.sub.now cut is none)
    c.look_for-in-Some.ensures.refuted)
