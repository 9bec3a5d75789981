use Rattle.std.proofs.Common.{length, arith}
use Rattle.first_keys.proofs.KeyLaws.{declared}
use Rattle.first_keys.proofs.keys.Keys.pair_of.Goals as goal

pub overflow_add-result : goal.overflow_add-result
overflow_add-result g c =
    let model = c.args.run.now.model.now in
    let lt = declared (length model.vars) model.search c.args.self.now.list c.args.self.now.place c.args.key c.requires.keys.list
    c.law_can_search.ensures.phases.declared c.requires.key in
    let long = c.law_can_search.ensures.long in
    let count = c.len-length.ensures.value in
    omega (arith, lt, long, count)

pub returns-clause-var : goal.returns-clause-var
returns-clause-var g c =
    let model = c.args.run.now.model.now in
    declared (length model.vars) model.search c.args.self.now.list c.args.self.now.place c.args.key c.requires.keys.list
    c.law_can_search.ensures.phases.declared c.requires.key

pub returns-clause-pair : goal.returns-clause-pair
returns-clause-pair g c =
    let model = c.args.run.now.model.now in
    let lt = declared (length model.vars) model.search c.args.self.now.list c.args.self.now.place c.args.key c.requires.keys.list
    c.law_can_search.ensures.phases.declared c.requires.key in
    let long = c.law_can_search.ensures.long in
    omega (arith, lt, long)
