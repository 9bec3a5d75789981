use Rattle.std.proofs.Common.{◌≡◌, ◌<◌, ℤ, List, Some, refl, sym, subst, rules, w64, to_z, of_z}
use mir.Val.{SFits}
use Rattle.std.proofs.lemmas.Int.{to_z-of_z}
use Rattle.constraint_model.specs.Relations.{cost_of}
use Rattle.search.specs.LeastEnds.{IsCost}
use Rattle.search.specs.Turns.{CostsAtLeast, lowest_of as plain_lowest}
use Rattle.free_search.specs.declared.ends.FreeEnd.{FreeEnd}
use Rattle.free_search.specs.Ends.{IfFound, IfRefuted}
use Rattle.race.specs.Leasts.{IsAsLow, IsLower}
use Rattle.best_search.specs.Plans.{IsCheaper}
use Rattle.best_search.specs.Searches.{room_of}
use Rattle.best_search.proofs.PlanLaws.{free_as_low, free_cheaper, none_cheaper}
use Rattle.best_search.proofs.RoomLaws.{room_falls}
use Rattle.best_search.proofs.better.BestSearch.look.Goals as goal

pub returns-in-Ok-Found-clause-search : goal.returns-in-Ok-Found-clause-search
returns-in-Ok-Found-clause-search g c =
    let run = c.args.run.now in
    let model = run.model.now in
    let start = run.program.now.start in
    let was = c.requires.search in
    let before = c.args.self.now.lowest in
    let plan = c.in-Ok-Found.plan in
    let cost = c.solution_cost.result in
    let lower : IsLower model start before plan = subst (λ (e : FreeEnd). IfFound e (IsLower model start before)) c.in-Ok-Found.field-0-is c.in-Ok-Found.ensures.found in
    let costs : cost_of model.goal plan ≡ Some cost = subst (λ (a : List ℤ). cost_of model.goal a ≡ Some cost) c.as_slice.ensures c.solution_cost.ensures.costs in
    let fits : SFits w64 cost = search rules in
    record {
      plain = was.plain;
      same_box = was.same_box;
      is_free = c.in-Ok-Found.ensures.free;
      cost = subst (IsCost model) (sym (to_z-of_z w64 cost fits)) c.solution_cost.ensures.is_cost;
      as_low = subst (λ (z : ℤ). IsAsLow (Some z) (plain_lowest c.args.self.now.plain)) (sym (to_z-of_z w64 cost fits))
          (free_as_low model start before (plain_lowest c.args.self.now.plain) plan cost lower costs was.as_low);
    }

pub returns-in-Ok-Found-clause-step : goal.returns-in-Ok-Found-clause-step
returns-in-Ok-Found-clause-step g c =
    let run = c.args.run.now in
    let model = run.model.now in
    let start = run.program.now.start in
    let before = c.args.self.now.lowest in
    let plan = c.in-Ok-Found.plan in
    let cost = c.solution_cost.result in
    let lower : IsLower model start before plan = subst (λ (e : FreeEnd). IfFound e (IsLower model start before)) c.in-Ok-Found.field-0-is c.in-Ok-Found.ensures.found in
    let costs : cost_of model.goal plan ≡ Some cost = subst (λ (a : List ℤ). cost_of model.goal a ≡ Some cost) c.as_slice.ensures c.solution_cost.ensures.costs in
    let is = free_cheaper model start before plan cost lower costs in
    let fits : SFits w64 cost = search rules in
    subst (λ (z : ℤ). IsCheaper model before (Some z) plan × (room_of (Some z) < room_of before)) (sym (to_z-of_z w64 cost fits))
    (is, room_falls model c.requires.run.model before (Some cost) plan c.requires.search.cost is)

pub returns-in-Ok-Refuted-clause-step : goal.returns-in-Ok-Refuted-clause-step
returns-in-Ok-Refuted-clause-step g c =
    let run = c.args.run.now in
    let model = run.model.now in
    let start = run.program.now.start in
    let before = c.args.self.now.lowest in
    let least : CostsAtLeast model start before = subst (λ (e : FreeEnd). IfRefuted e (CostsAtLeast model start before)) c.in-Ok-Refuted.field-0-is c.in-Ok-Refuted.ensures.refuted in
    (refl, none_cheaper model run.program.now c.requires.run.program before least)
