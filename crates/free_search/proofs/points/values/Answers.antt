use Rattle.std.proofs.Common.{ℤ, ◌+◌, ◌<◌, List, [], ◌∷◌, ◌++◌, length, take, drop, ap, sym, ◌∙◌, arith, w64}
use Rattle.std.proofs.lemmas.Int.{to_z-of_z}
use Rattle.guarded_tell.specs.Words.{point_of}
use Rattle.free_search.proofs.ValueLaws.{values_more}
use Rattle.free_search.proofs.points.values.Goals as goal

pub loop-var-preserved : goal.loop-var-preserved
loop-var-preserved c =
    let l : c.loop-var.var + 1 < length c.args.b.now = omega arith in
    let e = values_more c.args.b.now c.loop-var.var l in
    c.in_ok-push.ensures.pushed ∙ ap (λ (z : ℤ). c.loop-var.values ++ z ∷ []) (to_z-of_z w64 c.low.result (record { sfits = c.low.type_inv })) ∙ ap (λ (xs : List ℤ). xs ++ c.low.result ∷ []) c.loop-var.invariant
    ∙ ap (λ (z : ℤ). take c.loop-var.var (drop 1 (point_of c.args.b.now)) ++ z ∷ []) c.low.ensures.value ∙ sym e
