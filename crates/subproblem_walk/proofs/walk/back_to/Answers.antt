use Rattle.std.proofs.Common.{◌+◌, List, length, ap, sym, ◌∙◌, arith}
use Rattle.std.proofs.lemmas.List.{length-append, length-take-le}
use Rattle.trailed_box.specs.Trailed.{Left}
use Rattle.subproblem_walk.proofs.TurnLemmas.{same_count}
use Rattle.subproblem_walk.proofs.WalkLemmas.{popped, back_at}
use Rattle.subproblem_walk.proofs.walk.back_to.Goals as goal

pub returns-clause-back : goal.returns-clause-back
returns-clause-back c = λ model kernels start way steps over.
    let count = same_count model kernels start c.args.turns.now.items way steps in
    let place = c.requires.place in
    let all = ap (λ (ls : List Left). length ls) over.1 in
    let sum = length-append way over.0 in
    let some = ap (λ (ls : List Left). length ls) c.truncate.ensures.stack in
    let taken = length-take-le (c.args.place + 1) c.args.boxes.now.stack (omega (arith, count, place, all, sum)) in
    let pop = popped c.pop.result c.truncate.new.self.stack c.pop.new.self.stack c.pop.new.self.current (omega (arith, some, taken)) c.pop.ensures.none c.pop.ensures.some in
    back_at model kernels start c.args.turns.now.items c.truncate-2.new.self.items way c.args.place c.index.result.now c.args.boxes.now c.pop.new.self pop.0 steps over place
    c.truncate-2.ensures.items c.index.ensures (sym c.truncate.ensures.stack ∙ pop.1) pop.2
