use Rattle.std.proofs.Common.{◌≡◌, ◌++◌, map, subst, ◌∙◌}
use Rattle.guarded_tell.specs.Words.{Lit}
use Rattle.decompose.specs.Kernels.{some_of}
use Rattle.decompose.specs.Rows.{literal_at}
use Rattle.decompose.proofs.ClauseLaws.{joined_after, literals_after}
use Rattle.decompose.proofs.booleans.add_joined.Goals as goal

pub returns : goal.returns
returns c =
    let f = literal_at c.args.places.now.numbering c.args.positive in
    subst (λ (l : Lit). c.push-2.new.self ≡ c.args.kernels.now ++ some_of l (map f c.args.booleans.now)) c.literal-lit.ensures
    (joined_after c.literal-lit.result f c.args.booleans.now c.args.kernels.now c.add_implications.new.kernels c.push-2.new.self c.from_list.result
    c.in_ok-add_implications.ensures
    (c.from_list.ensures ∙ c.in_ok-lits.ensures ∙ literals_after c.literal-lit.result c.negated.result c.in_ok-literals.literals.items c.push.new.self.items c.add_literals.new.literals.items (map f c.args.booleans.now) c.in_ok-literals.ensures.items c.negated.ensures c.in_ok-push.ensures.items c.in_ok-add_literals.ensures)
    c.in_ok-push-2.ensures.pushed)
