use Rattle.std.proofs.Common.{◌≡◌, ◌∙◌, ap, sym, subst, ◌++◌, None, cond, false, length}
use Rattle.fzn_parser.specs.Items.{what_tree}
use Rattle.fzn_model.specs.declared.effect.Effect.{Effect}
use Rattle.fzn_model.specs.declared.fault_kinds.FaultKind.{FaultKind}
use Rattle.fzn_model.specs.declared.stop.Stop.{Stop}
use Rattle.fzn_model.specs.Scopes.{Scope}
use Rattle.constraint_model.specs.Arrays.{HaveNumbers}
use Rattle.fzn_model.specs.Drafts.{seen, declares_again, first_kind, own_kinds}
use Rattle.fzn_model.specs.Effects.{effect_of}
use Rattle.fzn_model.specs.Faults.{fault_of, place_tests, Refuses}
use Rattle.fzn_model.proofs.ArrayLaws.{effect_numbered}
use Rattle.fzn_model.proofs.FaultLaws.{first_place, refused_own, refused_twice}
use Rattle.fzn_model.proofs.KindLaws.{least_is_first}
use Rattle.fzn_model.proofs.draft.Draft.judge.Goals as goal

pub place-requires-clause-numbers : goal.place-requires-clause-numbers
place-requires-clause-numbers c =
    let before = seen c.args.self.now in
    let P : Effect → Type 0 = λ more. HaveNumbers before.arrays more.constraints in
    subst P (sym c.in-Ok.ensures.effect) (effect_numbered before.arrays c.args.text.now before.scope c.requires.numbers _ (what_tree c.args.what.now))

pub returns-in-Err-place-clause-fault : goal.returns-in-Err-place-clause-fault
unfolding fault_of
returns-in-Err-place-clause-fault c =
    let before = seen c.args.self.now in
    let text = c.args.text.now in
    let what = what_tree c.args.what.now in
    let own = own_kinds text before.scope what in
    let stop = c.in-Err-place.stop in
    let l : declares_again text before.scope what ≡ false → first_kind own ≡ None = c.in-Ok.ensures.lawful in
    let told = cond (declares_again text before.scope what) (Stop.Fault FaultKind.NameTwice) stop in
    let P : Effect → Type 0 = λ more. Refuses (first_kind (own ++ place_tests before more)) told in
    let f : Refuses (first_kind (place_tests before c.read_item.new.effect)) stop = c.in-Err-place.ensures.fault in
    let same : c.misplaced.result ≡ told = c.misplaced.ensures ∙ ap (λ (scope : Scope). cond (declares_again text scope what) (Stop.Fault FaultKind.NameTwice) stop) c.place.ensures.scope in
    let e : c.read_item.new.effect ≡ effect_of text before.scope (length before.vars) what =
    c.in-Ok.ensures.effect ∙ ap (λ n. effect_of text before.scope n what) c.len-count.ensures in
    subst (λ o. Refuses o c.misplaced.result) (sym (least_is_first text before what (effect_of text before.scope (length before.vars) what)))
    (subst (λ s. Refuses (first_kind (own ++ place_tests before (effect_of text before.scope (length before.vars) what))) s) (sym same)
    (subst P e (refused_twice text before.scope what (place_tests before c.read_item.new.effect) stop l f)))

pub returns-in-Err-clause-fault : goal.returns-in-Err-clause-fault
unfolding fault_of
returns-in-Err-clause-fault c =
    let before = seen c.args.self.now in
    let what = what_tree c.args.what.now in
    let more = effect_of c.args.text.now before.scope (length before.vars) what in
    subst (λ o. Refuses o c.in-Err.stop) (sym (least_is_first c.args.text.now before what more))
    (refused_own (own_kinds c.args.text.now before.scope what) (place_tests before more) c.in-Err.stop c.in-Err.ensures.fault)

pub returns-in-Ok-place-clause-lawful : goal.returns-in-Ok-place-clause-lawful
unfolding fault_of
returns-in-Ok-place-clause-lawful c fresh =
    let before = seen c.args.self.now in
    let what = what_tree c.args.what.now in
    let own = own_kinds c.args.text.now before.scope what in
    let l : declares_again c.args.text.now before.scope what ≡ false → first_kind own ≡ None = c.in-Ok.ensures.lawful in
    let P : Effect → Type 0 = λ more. first_kind (own ++ place_tests before more) ≡ None in
    let e : c.read_item.new.effect ≡ effect_of c.args.text.now before.scope (length before.vars) what =
    c.in-Ok.ensures.effect ∙ ap (λ n. effect_of c.args.text.now before.scope n what) c.len-count.ensures in
    least_is_first c.args.text.now before what (effect_of c.args.text.now before.scope (length before.vars) what)
    ∙ subst P e (first_place own (place_tests before c.read_item.new.effect) (l fresh) ∙ c.in-Ok-place.ensures.lawful)
