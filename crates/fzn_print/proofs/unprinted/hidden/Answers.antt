use Rattle.std.proofs.Common.{List, refl, subst, below_more}
use Rattle.std.specs.Prelude.{Contains, flat_map}
use Rattle.constraint_model.specs.declared.model.Term.{Term}
use Rattle.constraint_model.specs.declared.model.Output.{Output}
use Rattle.fzn_print.specs.Reading.{IsPrinted, terms_in}
use Rattle.fzn_print.proofs.unprinted.hidden.Goals as goal

pub loop-variable-preserved : goal.loop-variable-preserved
loop-variable-preserved c =
    let model = c.args.model.now in
    let v = c.loop-variable.variable in
    let here = subst (λ (os : List Output). Contains (flat_map terms_in os) (Term.Var v)) c.as_slice-outputs.ensures (c.in-Some.ensures.found refl) in
    below_more (IsPrinted model) v c.loop-variable.invariant here
