use Rattle.std.proofs.Common.{rules}
use Rattle.std.specs.List.{list_all}
use Rattle.constraint_model.specs.Kinds.{is_constant, is_integer, is_boolean}
use Rattle.fzn_model.proofs.EntryLaws.{then_fit, else_fit, bools, ints, none_fit}
use Rattle.fzn_model.proofs.types.all_scalars_fit.Goals as goal

pub returns-then-are_booleans : goal.returns-then-are_booleans
returns-then-are_booleans c =
    let ss = c.args.entries.now in
    then_fit (list_all is_boolean ss) (list_all is_constant ss) _ c.are_booleans.result c.are_constants.result (bools c.args.shape.now ss c.in-Bool.is) c.are_booleans.ensures c.are_constants.ensures c.if-are_booleans.true

pub returns-else-are_booleans : goal.returns-else-are_booleans
returns-else-are_booleans c =
    let ss = c.args.entries.now in
    else_fit (list_all is_boolean ss) (list_all is_constant ss) _ c.are_booleans.result (bools c.args.shape.now ss c.in-Bool.is) c.are_booleans.ensures c.if-are_booleans.false

pub returns-then-are_integers : goal.returns-then-are_integers
returns-then-are_integers c =
    let ss = c.args.entries.now in
    then_fit (list_all is_integer ss) (list_all is_constant ss) _ c.are_integers.result c.are_constants-then-are_integers.result (ints c.args.shape.now ss c.in-Int.is) c.are_integers.ensures c.are_constants-then-are_integers.ensures c.if-are_integers.true

pub returns-else-are_integers : goal.returns-else-are_integers
returns-else-are_integers c =
    let ss = c.args.entries.now in
    else_fit (list_all is_integer ss) (list_all is_constant ss) _ c.are_integers.result (ints c.args.shape.now ss c.in-Int.is) c.are_integers.ensures c.if-are_integers.false

pub returns-in-VarSet : goal.returns-in-VarSet
returns-in-VarSet c = none_fit c.args.shape.now c.args.entries.now c.len.result c.len.ensures (λ s. search rules)

pub returns-in-Float : goal.returns-in-Float
returns-in-Float c = none_fit c.args.shape.now c.args.entries.now c.len-in-Float.result c.len-in-Float.ensures (λ s. search rules)
