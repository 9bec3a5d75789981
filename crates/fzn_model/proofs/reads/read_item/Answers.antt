use Rattle.std.proofs.Common.{◌≡◌, ◌∙◌, ◌&&◌, not, false, is_none, subst, sym}
use Rattle.fzn_parser.specs.Items.{what_tree}
use Rattle.fzn_model.specs.declared.effect.Effect.{Effect}
use Rattle.fzn_model.specs.Drafts.{declares_again, is_new}
use Rattle.fzn_model.proofs.FaultLaws.{is_new_effect}
use Rattle.fzn_model.proofs.reads.read_item.Goals as goal

pub returns-clause-new : goal.returns-clause-new
returns-clause-new c =
    let scope = c.args.scope.now in
    let what = what_tree c.args.what.now in
    let again = declares_again c.args.text.now scope what in
    let seen = subst (λ (more : Effect). (is_none more.declared && again) ≡ false) c.in-Ok.ensures.effect (sym c.declares_unseen.ensures ∙ c.if-declares_unseen.false) in
    subst (λ (more : Effect). is_new scope more.declared ≡ not again) (sym c.in-Ok.ensures.effect)
    (is_new_effect c.args.text.now scope c.args.count what seen)
