use Rattle.std.proofs.Common.{◌≡◌, ◌+◌, ◌<◌, suc, ℤ, List, length, refl, subst, arith}
use Rattle.std.proofs.lemmas.Int.{ints}
use Rattle.interval.specs.Limits.{bound_limit, largest_number}
use Rattle.interval.specs.Boxes.{IsInside, put_of}
use Rattle.solution_lists.specs.Solutions.{SolvesInside}
use Rattle.free_search.specs.declared.ends.FreeEnd.{FreeEnd}
use Rattle.free_search.specs.Ends.{IfFound, IfRefuted}
use Rattle.first_keys.proofs.BoxLaws.{put_is, cut_inside}
use Rattle.first_keys.proofs.LeastLaws.{another, cut_down, wider, rest_inside}
use Rattle.first_keys.proofs.StepLaws.{kept_in_rest}
use Rattle.first_keys.proofs.keys.Keys.ask.Goals as goal

pub law_can_search-requires-clause-inside : goal.law_can_search-requires-clause-inside
law_can_search-requires-clause-inside g c =
    rest_inside c.law_inside_order.ensures c.args.run.now.model.now c.args.self.now.sub c.args.self.now.rest c.args.self.now.solution c.args.self.now.place
    c.requires.keys.least c.args.run.now.program.now.start c.requires.keys.inside

pub look_for-requires-clause-inside : goal.look_for-requires-clause-inside
unfolding bound_limit largest_number
look_for-requires-clause-inside g c κs within =
    let self = c.args.self.now in
    let halves = c.args.halves in
    let long = c.law_can_search.ensures.long in
    let pair : suc c.args.var < length self.rest = omega arith in
    let half_is : c.put.new.self ≡ put_of self.rest (suc c.args.var) halves.better_low halves.better_high =
    put_is self.rest c.in_ok-half.half c.put.new.self c.args.var (c.args.var + 1) halves.better_low halves.better_high _ _ c.in_ok-half.ensures
    c.put.ensures (omega arith) (omega (arith, ints)) (omega (arith, ints)) in
    c.law_inside_order.ensures.through c.put.new.self self.rest c.args.run.now.program.now.start
    (cut_inside c.law_tightens_one.ensures self.rest c.put.new.self c.args.var halves.better_low halves.better_high half_is pair
    c.requires.halves.better_from c.requires.halves.better_to)
    (rest_inside c.law_inside_order.ensures c.args.run.now.model.now self.sub self.rest self.solution self.place c.requires.keys.least
    c.args.run.now.program.now.start c.requires.keys.inside)

pub returns-in-Found-clause-keys : goal.returns-in-Found-clause-keys
unfolding bound_limit largest_number
returns-in-Found-clause-keys g c =
    let self = c.args.self.now in
    let model = c.args.run.now.model.now in
    let halves = c.args.halves in
    let long = c.law_can_search.ensures.long in
    let pair : suc c.args.var < length self.rest = omega arith in
    let half_is : c.put.new.self ≡ put_of self.rest (suc c.args.var) halves.better_low halves.better_high =
    put_is self.rest c.in_ok-half.half c.put.new.self c.args.var (c.args.var + 1) halves.better_low halves.better_high _ _ c.in_ok-half.ensures
    c.put.ensures (omega arith) (omega (arith, ints)) (omega (arith, ints)) in
    let inside : IsInside c.put.new.self self.rest =
    cut_inside c.law_tightens_one.ensures self.rest c.put.new.self c.args.var halves.better_low halves.better_high half_is pair
    c.requires.halves.better_from c.requires.halves.better_to in
    let solves : SolvesInside model c.put.new.self c.in-Found.solution =
    subst (λ (e : FreeEnd). IfFound e (SolvesInside model c.put.new.self)) c.in-Found.is c.in_ok-solution.ensures.found in
    record {
      is_static = c.requires.keys.is_static;
      list = c.requires.keys.list;
      inside = c.requires.keys.inside;
      least = another c.law_inside_order.ensures model self.sub self.rest self.solution self.place c.requires.keys.least c.in-Found.solution
          (wider c.law_inside_order.ensures model c.put.new.self self.rest c.in-Found.solution inside solves);
    }

pub returns-in-Refuted-clause-keys : goal.returns-in-Refuted-clause-keys
unfolding bound_limit largest_number
returns-in-Refuted-clause-keys g c =
    let self = c.args.self.now in
    let model = c.args.run.now.model.now in
    let halves = c.args.halves in
    let long = c.law_can_search.ensures.long in
    let pair : suc c.args.var < length self.rest = omega arith in
    let half_is : c.put.new.self ≡ put_of self.rest (suc c.args.var) halves.better_low halves.better_high =
    put_is self.rest c.in_ok-half.half c.put.new.self c.args.var (c.args.var + 1) halves.better_low halves.better_high _ _ c.in_ok-half.ensures
    c.put.ensures (omega arith) (omega (arith, ints)) (omega (arith, ints)) in
    let next_is : c.put-in-Refuted.new.self ≡ put_of self.rest (suc c.args.var) halves.rest_low halves.rest_high =
    put_is self.rest self.rest c.put-in-Refuted.new.self c.args.var (c.args.var + 1) halves.rest_low halves.rest_high _ _ refl
    c.put-in-Refuted.ensures (omega arith) (omega (arith, ints)) (omega (arith, ints)) in
    let refuted : (a : List ℤ) → SolvesInside model c.put.new.self a → ⊥ =
    subst (λ (e : FreeEnd). IfRefuted e ((a : List ℤ) → SolvesInside model c.put.new.self a → ⊥)) c.in-Refuted.is c.in_ok-solution.ensures.refuted in
    record {
      is_static = c.requires.keys.is_static;
      list = c.requires.keys.list;
      inside = c.requires.keys.inside;
      least = cut_down c.law_inside_order.ensures model self.sub self.rest self.solution self.place c.requires.keys.least c.put-in-Refuted.new.self
          (cut_inside c.law_tightens_one.ensures self.rest c.put-in-Refuted.new.self c.args.var halves.rest_low halves.rest_high next_is pair
          c.requires.halves.rest_from c.requires.halves.rest_to)
          (kept_in_rest c.law_tightens_one.ensures model self.rest c.put.new.self c.put-in-Refuted.new.self c.args.var halves c.requires.var
          c.requires.halves half_is next_is refuted);
    }
