-- Two lists of tells are heard one after the other.
use Rattle.std.proofs.Common.{ℤ, subst, sym, to_z, of_z}
use Rattle.std.proofs.lemmas.Int.{to_z-of_z}
use Rattle.std.specs.List.{zip}
use mir.Syntax.{w64, w128}
use Rattle.tells.specs.Hearing.{MayHearAll, HearsAll}
use Rattle.sum_tells.specs.Linear.{sure_tells, out_tells}
use Rattle.tell_laws.proofs.HearingLaws.{may_first, may_rest, hears_both}
use Rattle.sum_tells.proofs.ProductLaws.{sum_fits}
use Rattle.sum_tells.proofs.linear.tell_bounds.Goals as goal

pub tell_where_sure-requires-clause-hearer : goal.tell_where_sure-requires-clause-hearer
tell_where_sure-requires-clause-hearer g c =
    let limit = to_z-of_z w64 c.args.limit c.ranges.limit in
    let least = sum_fits c.args.sum.least c.requires.least_in_range in
    let P : ℤ → ℤ → Type 0 = λ y z. MayHearAll g.H.Hear.can_hear g.H.Hear.hears c.args.h.now (sure_tells c.args.lit (zip c.args.coeffs.now c.args.vars.now) y z c.args.b.now) in
    let may : P c.args.limit c.args.sum.least = may_first _ _ c.args.h.now _ (out_tells c.args.lit (zip c.args.coeffs.now c.args.vars.now) c.args.limit c.args.sum.greatest c.args.b.now) c.requires.hearer in
    subst (λ (y : ℤ). P y (to_z w128 (of_z w128 c.args.sum.least))) (sym limit) (subst (P c.args.limit) (sym least) may)

pub tell_where_out-requires-clause-hearer : goal.tell_where_out-requires-clause-hearer
tell_where_out-requires-clause-hearer g c =
    let limit = to_z-of_z w64 c.args.limit c.ranges.limit in
    let least = sum_fits c.args.sum.least c.requires.least_in_range in
    let greatest = sum_fits c.args.sum.greatest c.requires.greatest_in_range in
    let now = c.tell_where_sure.new.h in
    let S : ℤ → ℤ → Type 0 = λ y z. HearsAll g.H.Hear.hears c.args.h.now (sure_tells c.args.lit (zip c.args.coeffs.now c.args.vars.now) y z c.args.b.now) now in
    let sure : S c.args.limit c.args.sum.least = subst (λ (y : ℤ). S y c.args.sum.least) limit (subst (S (to_z w64 (of_z w64 c.args.limit))) least c.tell_where_sure.ensures) in
    let P : ℤ → ℤ → Type 0 = λ y z. MayHearAll g.H.Hear.can_hear g.H.Hear.hears now (out_tells c.args.lit (zip c.args.coeffs.now c.args.vars.now) y z c.args.b.now) in
    let may : P c.args.limit c.args.sum.greatest = may_rest _ _ c.args.h.now now _ _ c.requires.hearer sure in
    subst (λ (y : ℤ). P y (to_z w128 (of_z w128 c.args.sum.greatest))) (sym limit) (subst (P c.args.limit) (sym greatest) may)

pub returns : goal.returns
returns g c =
    let limit = to_z-of_z w64 c.args.limit c.ranges.limit in
    let least = sum_fits c.args.sum.least c.requires.least_in_range in
    let greatest = sum_fits c.args.sum.greatest c.requires.greatest_in_range in
    let now = c.tell_where_sure.new.h in
    let after = c.tell_where_out.new.h in
    let S : ℤ → ℤ → Type 0 = λ y z. HearsAll g.H.Hear.hears c.args.h.now (sure_tells c.args.lit (zip c.args.coeffs.now c.args.vars.now) y z c.args.b.now) now in
    let sure : S c.args.limit c.args.sum.least = subst (λ (y : ℤ). S y c.args.sum.least) limit (subst (S (to_z w64 (of_z w64 c.args.limit))) least c.tell_where_sure.ensures) in
    let O : ℤ → ℤ → Type 0 = λ y z. HearsAll g.H.Hear.hears now (out_tells c.args.lit (zip c.args.coeffs.now c.args.vars.now) y z c.args.b.now) after in
    let out : O c.args.limit c.args.sum.greatest = subst (λ (y : ℤ). O y c.args.sum.greatest) limit (subst (O (to_z w64 (of_z w64 c.args.limit))) greatest c.tell_where_out.ensures) in
    hears_both g.H.Hear.can_hear g.H.Hear.hears c.args.h.now now after _ _ sure out
