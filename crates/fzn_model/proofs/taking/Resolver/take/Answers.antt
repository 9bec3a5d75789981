use Rattle.std.proofs.Common.{◌∷◌, ◌++◌, ◌∙◌, sym, subst}
use Rattle.fzn_parser.specs.Parsing.{item_tree}
use Rattle.fzn_model.specs.Drafts.{seen}
use Rattle.fzn_model.specs.Scopes.{AreNumbered}
use Rattle.fzn_model.specs.Effects.{Reading}
use Rattle.fzn_model.specs.Resolving.{IsCause}
use Rattle.fzn_model.specs.Taking.{AreTaken}
use Rattle.fzn_model.proofs.ArrayLaws.{names_numbered}
use Rattle.fzn_model.proofs.Takings.{cause_taken}
use Rattle.fzn_model.proofs.taking.Resolver.take.Goals as goal

pub add-requires-clause-numbers : goal.add-requires-clause-numbers
add-requires-clause-numbers c =
    subst (λ (r : Reading). AreNumbered r.arrays r.scope) (sym (c.self.view_is ∙ c.requires.taken.same)) (names_numbered c.args.text.now c.requires.items)

pub returns-in-Err-clause-cause : goal.returns-in-Err-clause-cause
returns-in-Err-clause-cause c items more h =
    let x = item_tree c.args.item.now in
    let here : AreTaken c.args.text.now items (seen c.self.inside.draft) = subst (AreTaken c.args.text.now items) (sym c.self.view_is) h in
    subst (IsCause c.args.text.now (items ++ x ∷ more)) (sym c.stopped.ensures) (cause_taken c.args.text.now items x (seen c.self.inside.draft) here more c.in-Err.stop c.in-Err.ensures.fault)
