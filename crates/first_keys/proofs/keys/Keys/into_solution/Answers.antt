use Rattle.std.proofs.Common.{ap, arith}
use Rattle.search.specs.Ends.{head_of}
use Rattle.first_keys.proofs.KeyLaws.{key_count}
use Rattle.first_keys.proofs.LeastLaws.{all_least, wider}
use Rattle.first_keys.proofs.keys.Keys.into_solution.Goals as goal

pub returns-clause-first : goal.returns-clause-first
returns-clause-first g c = λ solutions listed.
    let self = c.args.self in
    let run = c.args.run.now in
    let count = key_count run.model.now self.list self.solution c.requires.keys.list in
    let done = c.requires.done in
    let is_first = c.law_first_by_keys.ensures run.model.now run.program.now self.sub solutions self.solution c.requires.run.program
    c.requires.keys.is_static c.law_can_search.ensures.phases c.len-length.ensures.in_range c.requires.keys.inside listed
    (all_least c.law_inside_order.ensures run.model.now self.sub self.rest self.solution self.place c.requires.keys.least (omega (arith, count, done))) in
    ap head_of is_first.1

pub returns-clause-solves : goal.returns-clause-solves
returns-clause-solves g c =
    let self = c.args.self in
    wider c.law_inside_order.ensures c.args.run.now.model.now self.rest self.sub self.solution c.requires.keys.least.inside c.requires.keys.least.solves
