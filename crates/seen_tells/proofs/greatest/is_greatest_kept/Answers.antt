-- No bound that is told is tighter.
use Rattle.std.proofs.lemmas.Bool.{OnTrue_from, OnTrue_at}
use Rattle.std.proofs.Common.{[], ◌∷◌}
use Rattle.std.specs.List.{All}
use Rattle.extreme_tells.specs.Maximum.{max_tells}
use Rattle.guarded_tell.specs.Words.{Keeps}
use Rattle.seen_tells.proofs.GreatestLaws.{greatest_kept}
use Rattle.seen_tells.proofs.greatest.is_greatest_kept.Goals as goal

pub returns-then-is_reach_kept : goal.returns-then-is_reach_kept
returns-then-is_reach_kept c =
    let b = c.args.b.now in
    OnTrue_from _ (All (Keeps b) (max_tells c.args.m (c.args.x ∷ c.args.y ∷ []) b)) (λ e.
    greatest_kept b c.args.m c.args.x c.args.y c.law_clamp_order.ensures c.if-is_reach_kept.ensures.low_in_range c.if-is_reach_kept.ensures.high_in_range
    c.if-is_reach_kept.ensures.low c.if-is_reach_kept.ensures.high (OnTrue_at e c.is_sole_kept.ensures))
