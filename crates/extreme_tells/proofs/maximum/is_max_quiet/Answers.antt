-- The reach and the one that was found are the list's.
use Rattle.std.proofs.Common.{ℕ, suc, ◌<◌, length, Option, ℤ, ◌≤ℤ◌, sym, subst, arith}
use Rattle.std.proofs.lemmas.Bool.{OnTrue_at, OnTrue_from}
use Rattle.std.specs.Prelude.{IfSome}
use Rattle.interval.specs.Boxes.{low_of, high_of}
use Rattle.extreme_tells.specs.Maximum.{max_reaches}
use Rattle.extreme_tells.proofs.CommonLaws.{some_there, each_after}
use Rattle.extreme_tells.proofs.QuietLaws.{max_quiet, sole_held}
use Rattle.extreme_tells.proofs.maximum.is_max_quiet.Goals as goal

pub reach_of-requires-clause-variables : goal.reach_of-requires-clause-variables
reach_of-requires-clause-variables c = record { each = λ i h. c.requires.each (suc i) (omega arith) }

pub is_sole_kept-requires-clause-found : goal.is_sole_kept-requires-clause-found
is_sole_kept-requires-clause-found c =
    let P : ℕ → Type 0 = λ x. x < length c.args.b.now in
    subst (λ o. IfSome o P) (sym c.sole_reaching.ensures)
    (sole_held P (max_reaches c.args.m c.args.b.now) c.args.xs.now (each_after P c.args.m c.args.xs.now (λ i h. c.requires.each i h)))

pub returns-then-is_reach_kept : goal.returns-then-is_reach_kept
returns-then-is_reach_kept c = OnTrue_from _ _ (λ e.
    let L : ℤ → Type 0 = λ z. z ≤ℤ low_of c.args.b.now c.args.m in
    let F : ℤ → Type 0 = λ z. high_of c.args.b.now c.args.m ≤ℤ z in
    let T : ℤ → Type 0 = λ z. z ≤ℤ high_of c.args.b.now c.args.m in
    let O : Option ℕ → Type 0 = λ o. IfSome o (λ x. low_of c.args.b.now c.args.m ≤ℤ low_of c.args.b.now x) in
    max_quiet c.law_clamp_order.ensures c.args.b.now c.args.m c.args.xs.now (some_there c.args.xs.now _ c.is_empty.ensures c.if-is_empty.false)
    (c.len-length.ensures.in_range.lows c.args.m (c.requires.each 0 (omega arith))) (c.len-length.ensures.in_range.highs c.args.m (c.requires.each 0 (omega arith)))
    (subst L c.reach_of.ensures.low c.if-is_reach_kept.ensures.low) (subst F c.reach_of.ensures.high c.if-is_reach_kept.ensures.from) (subst T c.reach_of.ensures.high c.if-is_reach_kept.ensures.to)
    (subst O c.sole_reaching.ensures (OnTrue_at e c.is_sole_kept.ensures)))
