use Rattle.std.proofs.Common.{◌-◌, subst, arith}
use Rattle.subproblems.specs.Cuts.{IsCutInto}
use Rattle.subproblems.proofs.StepLemmas.{more_failed, more_fixed, more_parted}
use Rattle.subproblems.proofs.expansion.+add_below.Goals as goal

pub returns-in-Failed : goal.returns-in-Failed
returns-in-Failed t c =
    more_failed c.args.model.now c.args.kernels.now c.args.depth (c.args.depth - 1) c.args.b c.args.subs.now.items (let n = c.if-depth-eq0.false in omega arith)
    (subst (IsCutInto c.args.model.now c.args.kernels.now c.args.b) c.in-Failed.is c.in_ok-cut_box.ensures)

pub returns-in_ok-put-in-Fixed : goal.returns-in_ok-put-in-Fixed
returns-in_ok-put-in-Fixed t c =
    more_fixed c.args.model.now c.args.kernels.now c.args.depth (c.args.depth - 1) c.args.b c.in-Fixed.closed c.args.subs.now.items c.put-in-Fixed.new.subs.items (let n = c.if-depth-eq0.false in omega arith)
    (subst (IsCutInto c.args.model.now c.args.kernels.now c.args.b) c.in-Fixed.is c.in_ok-cut_box.ensures) c.in_ok-put-in-Fixed.ensures

pub returns-in_ok-add_below-in-Parted-2 : goal.returns-in_ok-add_below-in-Parted-2
returns-in_ok-add_below-in-Parted-2 t c =
    more_parted c.args.model.now c.args.kernels.now c.args.depth (c.args.depth - 1) c.args.b c.in-Parted.left c.in-Parted.right
    c.args.subs.now.items c.add_below.new.subs.items c.add_below-in-Parted.new.subs.items (let n = c.if-depth-eq0.false in omega arith)
    (subst (IsCutInto c.args.model.now c.args.kernels.now c.args.b) c.in-Parted.is c.in_ok-cut_box.ensures)
    c.in_ok-add_below-in-Parted.ensures c.in_ok-add_below-in-Parted-2.ensures
