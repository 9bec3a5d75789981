use Rattle.std.proofs.Common.{ℕ, get_or, refl, sym, subst, ◌∙◌, arith, below_more}
use Rattle.std.specs.Prelude.{Contains}
use Rattle.std.proofs.lemmas.List.{get_or_default}
use Rattle.constraint_model.specs.declared.model.Term.{Term}
use Rattle.constraint_model.specs.declared.model.Output.{Output}
use Rattle.fzn_print.specs.Reading.{terms_in}
use Rattle.fzn_print.proofs.PlaceLaws.{printed_in, printed_nowhere}
use Rattle.fzn_print.proofs.unprinted.find_from.Goals as goal

pub returns-in-Some-clause-found : goal.returns-in-Some-clause-found
returns-in-Some-clause-found c = λ e.
    printed_in c.args.outputs.now c.loop-output.output c.index-outputs-output.result (Term.Var c.args.variable) c.loop-output-test.true c.index-outputs-output.is (c.in-Some.ensures.found refl)

pub loop-output-preserved : goal.loop-output-preserved
loop-output-preserved c = λ a b.
    let outputs = c.args.outputs.now in
    let at = c.loop-output.output in
    let t = Term.Var c.args.variable in
    let output = c.index-outputs-output.result in
    let so = c.loop-output.invariant a b in
    let inside = c.loop-output-test.true in
    let P : ℕ → Type 0 = λ k. (d : Output) → Contains (terms_in (get_or outputs k d)) t → ⊥ in
    let here : P at = λ d there. c.in_default.ensures.none refl so.0 (subst (λ (o : Output). Contains (terms_in o) t) (get_or_default outputs at d output inside ∙ sym c.index-outputs-output.is) there) in
    (refl, λ k d less. below_more P at (λ n lower e. so.1 n e lower) here k less d)

pub returns-clause-none : goal.returns-clause-none
returns-clause-none c = λ e a b.
    let so = c.loop-output.invariant a b in
    let over = c.loop-output-test.false in
    printed_nowhere c.args.outputs.now (Term.Var c.args.variable) (λ k d inside. so.1 k d (omega arith))
