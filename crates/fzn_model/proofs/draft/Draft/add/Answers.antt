use Rattle.std.proofs.Common.{◌≡◌, ◌∙◌, ap, sym, false, length}
use Rattle.fzn_parser.specs.Items.{what_tree}
use Rattle.fzn_model.specs.Scopes.{Scope}
use Rattle.fzn_model.specs.Drafts.{seen, declares_again, is_new}
use Rattle.fzn_model.specs.Effects.{Reading, effect_of}
use Rattle.fzn_model.specs.Faults.{fault_of, place_tests}
use Rattle.fzn_model.proofs.FaultLaws.{twice_least, twice_told}
use Rattle.fzn_model.proofs.KindLaws.{least_is_first}
use Rattle.fzn_model.proofs.draft.Draft.add.Goals as goal

pub returns-in-Ok-false-clause-fault : goal.returns-in-Ok-false-clause-fault
unfolding fault_of
returns-in-Ok-false-clause-fault c =
    let before = seen c.args.self.now in
    let text = c.args.text.now in
    let what = what_tree c.args.item.now.what in
    let effect = effect_of text before.scope (length before.vars) what in
    let scope : c.judge.new.self.scope ≡ before.scope = ap (λ (r : Reading). r.scope) c.in-Ok.ensures.counted in
    let lacks : is_new before.scope c.judge.new.effect.declared ≡ false =
    ap (λ (s : Scope). is_new s c.judge.new.effect.declared) (sym scope) ∙ (sym c.in-Ok-false.ensures.new ∙ c.in-Ok-false.field-0-test) in
    let again = twice_told (declares_again text before.scope what) (is_new before.scope c.judge.new.effect.declared) c.in-Ok.ensures.new lacks in
    least_is_first text before what effect ∙ twice_least text before.scope what (place_tests before effect) again
