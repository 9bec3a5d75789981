use Rattle.std.proofs.Common.{pos, get_or}
use Rattle.std.proofs.lemmas.List.{get_or_default}
use Rattle.constraint_model.specs.declared.model.Term.{Term}
use Rattle.fzn_print.proofs.LineLaws.{others_step}
use Rattle.fzn_print.proofs.lines.read_others.Goals as goal

pub loop-term-preserved : goal.loop-term-preserved
loop-term-preserved c =
    let terms = c.args.terms.now in
    let at = c.loop-term.term-index in
    let none = Term.Number (pos 0) in
    let term = get_or terms at none in
    let inside = c.loop-term-test.true in
    others_step c.args.is_bool terms at term c.args.rest.now c.loop-term.left.now c.behind.result.now c.read_term-left.result.now c.args.values.now c.loop-term.values c.read_term-left.new.values
    inside (get_or_default terms at none term inside) c.loop-term.invariant c.behind.ensures c.read_term-left.ensures
