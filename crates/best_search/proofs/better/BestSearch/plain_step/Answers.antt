use Rattle.std.proofs.Common.{◌≡◌, ◌<◌, ℤ, List, Some, refl, sym, ap, subst, rules, w64, to_z, of_z}
use mir.Val.{SFits}
use Rattle.std.proofs.lemmas.Int.{to_z-of_z}
use Rattle.search.specs.declared.least_turns.LeastTurn.{LeastTurn}
use Rattle.search.specs.Turns.{CostsAtLeast, FindsBetter, IfLeastDone, IsLeastTurn, least_asked, lesser, lowest_of as plain_lowest, found_last}
use Rattle.best_search.specs.Plans.{IsCheaper}
use Rattle.best_search.specs.Searches.{room_of}
use Rattle.best_search.proofs.PlanLaws.{found_some, lowest_some, plain_cheaper, plain_done, plain_found, plain_goes_on}
use Rattle.best_search.proofs.RoomLaws.{room_falls}
use Rattle.best_search.proofs.better.BestSearch.plain_step.Goals as goal

pub last_of-requires-clause-plan : goal.last_of-requires-clause-plan
last_of-requires-clause-plan g c =
    let before = c.args.self.now in
    let model = c.args.run.now.model.now in
    let after = c.go_on.new.self in
    let better : FindsBetter model (lesser (plain_lowest before.plain) before.lowest) before.plain after = subst (λ (t : LeastTurn). IsLeastTurn model before.lowest before.plain after t) c.in-Found.is c.in_ok-go_on.ensures.turn in
    found_some c.args.run.now before c.requires.search after better

pub last_of-requires-clause-cost : goal.last_of-requires-clause-cost
last_of-requires-clause-cost g c =
    let before = c.args.self.now in
    let model = c.args.run.now.model.now in
    let after = c.go_on.new.self in
    let better : FindsBetter model (lesser (plain_lowest before.plain) before.lowest) before.plain after = subst (λ (t : LeastTurn). IsLeastTurn model before.lowest before.plain after t) c.in-Found.is c.in_ok-go_on.ensures.turn in
    lowest_some c.args.run.now before c.requires.search after better

pub returns-in_ok-plan-in-Found-clause-search : goal.returns-in_ok-plan-in-Found-clause-search
returns-in_ok-plan-in-Found-clause-search g c =
    let before = c.args.self.now in
    let model = c.args.run.now.model.now in
    let after = c.go_on.new.self in
    let found = c.in_ok-plan-in-Found.field-0 in
    let fits : SFits w64 found.cost = search rules in
    let better : FindsBetter model (lesser (plain_lowest before.plain) before.lowest) before.plain after = subst (λ (t : LeastTurn). IsLeastTurn model before.lowest before.plain after t) c.in-Found.is c.in_ok-go_on.ensures.turn in
    plain_found c.args.run.now before c.requires.search after better found c.in_ok-plan-in-Found.ensures c.in_ok-go_on.ensures.turns c.in_ok-go_on.ensures.asked _ refl refl
    (ap (λ (z : ℤ). Some z) (to_z-of_z w64 found.cost fits))

pub returns-in_ok-plan-in-Found-clause-step : goal.returns-in_ok-plan-in-Found-clause-step
returns-in_ok-plan-in-Found-clause-step g c =
    let before = c.args.self.now in
    let model = c.args.run.now.model.now in
    let after = c.go_on.new.self in
    let found = c.in_ok-plan-in-Found.field-0 in
    let fits : SFits w64 found.cost = search rules in
    let better : FindsBetter model (lesser (plain_lowest before.plain) before.lowest) before.plain after = subst (λ (t : LeastTurn). IsLeastTurn model before.lowest before.plain after t) c.in-Found.is c.in_ok-go_on.ensures.turn in
    let is = plain_cheaper c.args.run.now before c.requires.search after better found c.in_ok-plan-in-Found.ensures in
    subst (λ (z : ℤ). IsCheaper model before.lowest (Some z) found.plan × (room_of (Some z) < room_of before.lowest)) (sym (to_z-of_z w64 found.cost fits))
    (is, room_falls model c.requires.run.model before.lowest (Some found.cost) found.plan c.requires.search.cost is)

pub returns-in-Done-clause-search : goal.returns-in-Done-clause-search
returns-in-Done-clause-search g c =
    let before = c.args.self.now in
    let model = c.args.run.now.model.now in
    let after = c.go_on.new.self in
    let turn : (found_last after ≡ found_last before.plain) × (plain_lowest after ≡ lesser (plain_lowest before.plain) before.lowest) = subst (λ (t : LeastTurn). IsLeastTurn model before.lowest before.plain after t) c.in-Done.is c.in_ok-go_on.ensures.turn in
    plain_goes_on c.args.run.now before c.requires.search after c.in_ok-go_on.ensures.turns c.in_ok-go_on.ensures.asked turn.1 _ refl refl refl

pub returns-in-Done-clause-step : goal.returns-in-Done-clause-step
returns-in-Done-clause-step g c =
    let before = c.args.self.now in
    let model = c.args.run.now.model.now in
    let after = c.go_on.new.self in
    let turn : (found_last after ≡ found_last before.plain) × (plain_lowest after ≡ lesser (plain_lowest before.plain) before.lowest) = subst (λ (t : LeastTurn). IsLeastTurn model before.lowest before.plain after t) c.in-Done.is c.in_ok-go_on.ensures.turn in
    let done : CostsAtLeast model (least_asked before.plain) (plain_lowest after) = subst (λ (t : LeastTurn). IfLeastDone t (CostsAtLeast model (least_asked before.plain) (plain_lowest after))) c.in-Done.is c.in_ok-go_on.ensures.done in
    (refl, plain_done c.args.run.now before c.requires.search after c.requires.run.program turn.1 done)

pub returns-in-Paused-clause-search : goal.returns-in-Paused-clause-search
returns-in-Paused-clause-search g c =
    let before = c.args.self.now in
    let model = c.args.run.now.model.now in
    let after = c.go_on.new.self in
    let turn : (found_last after ≡ found_last before.plain) × (plain_lowest after ≡ lesser (plain_lowest before.plain) before.lowest) = subst (λ (t : LeastTurn). IsLeastTurn model before.lowest before.plain after t) c.in-Paused.is c.in_ok-go_on.ensures.turn in
    plain_goes_on c.args.run.now before c.requires.search after c.in_ok-go_on.ensures.turns c.in_ok-go_on.ensures.asked turn.1 _ refl refl refl
