use Rattle.std.proofs.Common.{◌≡◌, ◌+◌, ℕ, List, sym, subst, arith}
use Rattle.std.specs.Prelude.{Vec}
use Rattle.std.specs.declared.alloc.Global.{Global}
use Rattle.moved_set.specs.Rows.{AreRowsTo}
use Rattle.moved_set.proofs.RowLaws.{rows_empty}
use Rattle.moved_set.proofs.rows.empty_rows.Goals as goal

pub loop-made-preserved : goal.loop-made-preserved
loop-made-preserved c keys =
    subst (λ (rows : List (Vec ℕ Global)). AreRowsTo keys 0 (c.loop-made.made + 1) rows) (sym c.in_ok-push.ensures.items)
    (rows_empty keys c.loop-made.made c.loop-made.rows.items c.new.result c.new.ensures.items (c.loop-made.invariant keys))

pub returns : goal.returns
returns c keys =
    let all : c.loop-made.made ≡ c.args.count = omega arith in
    subst (λ (n : ℕ). AreRowsTo keys 0 n c.loop-made.rows.items) all (c.loop-made.invariant keys)
