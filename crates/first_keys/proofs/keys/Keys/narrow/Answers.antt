use Rattle.std.proofs.Common.{Option, subst}
use Rattle.std.specs.Prelude.{IfSome}
use Rattle.interval.specs.Boxes.{Bounds}
use Rattle.free_search.specs.Free.{HoldsAll}
use Rattle.first_keys.proofs.LeastLaws.{cut_down, rest_inside}
use Rattle.first_keys.proofs.keys.Keys.narrow.Goals as goal

pub returns-in-Some-clause-keys : goal.returns-in-Some-clause-keys
returns-in-Some-clause-keys g c =
    let self = c.args.self.now in
    let model = c.args.run.now.model.now in
    let all : HoldsAll model self.rest c.in-Some.narrowed =
    subst (λ (o : Option Bounds). IfSome o (HoldsAll model self.rest)) c.in-Some.is c.in_ok-narrowed.ensures.some in
    record {
      is_static = c.requires.keys.is_static;
      list = c.requires.keys.list;
      inside = c.requires.keys.inside;
      least = cut_down c.law_inside_order.ensures model self.sub self.rest self.solution self.place c.requires.keys.least c.in-Some.narrowed all.inside all.holds;
    }

pub narrow-requires-clause-inside : goal.narrow-requires-clause-inside
narrow-requires-clause-inside g c κs within =
    rest_inside c.law_inside_order.ensures c.args.run.now.model.now c.args.self.now.sub c.args.self.now.rest c.args.self.now.solution c.args.self.now.place
    c.requires.keys.least c.args.run.now.program.now.start c.requires.keys.inside
