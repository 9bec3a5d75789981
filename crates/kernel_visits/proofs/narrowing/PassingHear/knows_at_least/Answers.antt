-- Tells that keep the box are passed over.
use Rattle.std.proofs.Common.{ℤ, subst, to_z, of_z}
use Rattle.std.proofs.lemmas.Bool.{OnTrue_at, OnTrue_from}
use Rattle.std.proofs.lemmas.Int.{to_z-of_z}
use mir.Syntax.{w64, w128}
use Rattle.std.specs.List.{All}
use Rattle.guarded_tell.specs.Words.{Keeps}
use Rattle.sum_tells.specs.Linear.{product_at_least}
use Rattle.kernel_visits.specs.declared.narrowing.Passing.{Passing}
use Rattle.tell_laws.proofs.NarrowingLaws.{kept_passes}
use Rattle.kernel_visits.proofs.narrowing.PassingHear.knows_at_least.Goals as goal

pub returns : goal.returns
returns g c = OnTrue_from _ _ (λ e.
    let P : ℤ → ℤ → Type 0 = λ a r. All (Keeps c.args.self.now.b.now) (product_at_least c.args.var a r) in
    let coded : P (to_z w64 (of_z w64 c.args.coeff)) (to_z w128 (of_z w128 c.args.room)) = OnTrue_at e c.is_at_least_kept.ensures in
    let kept : P c.args.coeff c.args.room = subst (λ (a : ℤ). P a c.args.room) (to_z-of_z w64 c.args.coeff c.ranges.coeff) (subst (P (to_z w64 (of_z w64 c.args.coeff))) (to_z-of_z w128 c.args.room c.ranges.room) coded) in
    kept_passes g.H.Hear.can_hear g.H.Hear.hears (λ (w : Passing g.row.H.Denot). w.to.now) (λ (w : Passing g.row.H.Denot). w.b.now) (λ (w : Passing g.row.H.Denot). w.to.ghost_name) c.args.self.now (product_at_least c.args.var c.args.coeff c.args.room) kept)
