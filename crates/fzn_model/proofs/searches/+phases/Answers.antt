use Rattle.std.proofs.Common.{◌≡◌, List, ◌++◌, OnOk, sym, ap, ◌∙◌, append-nil, subst, arith}
use Rattle.constraint_model.specs.declared.model.Phase.{Phase}
use Rattle.fzn_model.proofs.NoteLaws.{one_argument, more_arguments}
use Rattle.fzn_model.proofs.searches.+phases.Goals as goal

pub add_list_phases-returns-in-len1 : goal.add_list_phases-returns-in-len1
add_list_phases-returns-in-len1 t c =
    let one = one_argument c.args.text.now c.args.scope.now c.args.args.now c.arg-item.result (omega arith) (omega arith) c.arg-item.is in
    subst (λ (added : List Phase). OnOk c.add_row_phases.result (c.add_row_phases.new.phases ≡ c.args.phases.now ++ added)) one c.add_row_phases.ensures

pub add_list_phases-returns-in-len2-up : goal.add_list_phases-returns-in-len2-up
add_list_phases-returns-in-len2-up t c =
    let none = more_arguments c.args.text.now c.args.scope.now c.args.args.now (omega arith) in
    sym (ap (λ (added : List Phase). c.args.phases.now ++ added) none ∙ append-nil c.args.phases.now)
