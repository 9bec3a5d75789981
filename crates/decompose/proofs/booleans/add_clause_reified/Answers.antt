use Rattle.std.proofs.Common.{◌≡◌, ◌++◌, true, false, subst, ◌∙◌}
use Rattle.guarded_tell.specs.Words.{Lit}
use Rattle.decompose.specs.Kernels.{some_of, clause_literals}
use Rattle.decompose.specs.Rows.{literal_at}
use Rattle.decompose.proofs.ClauseLaws.{joined_both_after, literals_after}
use Rattle.decompose.proofs.booleans.add_clause_reified.Goals as goal

pub returns : goal.returns
returns c =
    let n = c.args.places.now.numbering in
    let rest = clause_literals n c.args.positives.now c.args.negatives.now in
    subst (λ (l : Lit). c.push-2.new.self ≡ c.args.kernels.now ++ some_of l rest) c.literal-lit.ensures
    (joined_both_after c.literal-lit.result (literal_at n true) (literal_at n false) c.args.positives.now c.args.negatives.now
    c.args.kernels.now c.add_implications.new.kernels c.add_implications-2.new.kernels c.push-2.new.self c.from_list.result
    c.in_ok-add_implications.ensures c.in_ok-add_implications-2.ensures
    (c.from_list.ensures ∙ c.in_ok-lits.ensures ∙ literals_after c.literal-lit.result c.negated.result c.in_ok-literals.literals.items c.push.new.self.items c.add_clause_literals.new.literals.items rest c.in_ok-literals.ensures.items c.negated.ensures c.in_ok-push.ensures.items c.in_ok-add_clause_literals.ensures)
    c.in_ok-push-2.ensures.pushed)
