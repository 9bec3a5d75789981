-- The tells of the low are heard, and then those of the high.
use Rattle.std.proofs.Common.{List, to_z, of_z, sym, subst}
use Rattle.std.proofs.lemmas.Int.{to_z-of_z}
use mir.Syntax.{w64}
use Rattle.tells.specs.declared.tell.Tell.{Tell}
use Rattle.guarded_tell.specs.Hearing.{MayHearAll, HearsAll}
use Rattle.sum_tells.specs.Equality.{low_is_not, high_is_not}
use Rattle.tell_laws.specs.Narrowing.{narrowing}
use Rattle.tell_laws.proofs.HearingLaws.{may_first, may_rest, hears_both}
use Rattle.kernel_visits.proofs.UnitLaws.{apart_parts}
use Rattle.kernel_visits.proofs.differences.narrow_apart.Goals as goal

pub narrow_low_apart-requires-clause-hearer : goal.narrow_low_apart-requires-clause-hearer
narrow_low_apart-requires-clause-hearer g c =
    let b = c.args.b.now in
    let x = c.args.var in
    let coeff = to_z w64 (of_z w64 c.args.coeff) in
    let product = to_z w64 (of_z w64 c.args.product) in
    let parts = apart_parts b x c.args.coeff c.args.product coeff product (to_z-of_z w64 c.args.coeff c.ranges.coeff) (to_z-of_z w64 c.args.product c.ranges.product) in
    let low = narrowing b (low_is_not x coeff product b) in
    let high = narrowing b (high_is_not x coeff product b) in
    let P : List Tell → Type 0 = λ ts. MayHearAll g.H.Hear.can_hear g.H.Hear.hears c.args.h.now ts in
    may_first g.H.Hear.can_hear g.H.Hear.hears c.args.h.now low high (subst P parts c.requires.hearer)

pub narrow_high_apart-requires-clause-hearer : goal.narrow_high_apart-requires-clause-hearer
narrow_high_apart-requires-clause-hearer g c =
    let b = c.args.b.now in
    let x = c.args.var in
    let coeff = to_z w64 (of_z w64 c.args.coeff) in
    let product = to_z w64 (of_z w64 c.args.product) in
    let parts = apart_parts b x c.args.coeff c.args.product coeff product (to_z-of_z w64 c.args.coeff c.ranges.coeff) (to_z-of_z w64 c.args.product c.ranges.product) in
    let low = narrowing b (low_is_not x coeff product b) in
    let high = narrowing b (high_is_not x coeff product b) in
    let P : List Tell → Type 0 = λ ts. MayHearAll g.H.Hear.can_hear g.H.Hear.hears c.args.h.now ts in
    may_rest g.H.Hear.can_hear g.H.Hear.hears c.args.h.now c.narrow_low_apart.new.h low high (subst P parts c.requires.hearer) c.narrow_low_apart.ensures

pub returns : goal.returns
returns g c =
    let b = c.args.b.now in
    let x = c.args.var in
    let coeff = to_z w64 (of_z w64 c.args.coeff) in
    let product = to_z w64 (of_z w64 c.args.product) in
    let parts = apart_parts b x c.args.coeff c.args.product coeff product (to_z-of_z w64 c.args.coeff c.ranges.coeff) (to_z-of_z w64 c.args.product c.ranges.product) in
    let low = narrowing b (low_is_not x coeff product b) in
    let high = narrowing b (high_is_not x coeff product b) in
    let P : List Tell → Type 0 = λ ts. HearsAll g.H.Hear.hears c.args.h.now ts c.narrow_high_apart.new.h in
    subst P (sym parts) (hears_both g.H.Hear.can_hear g.H.Hear.hears c.args.h.now c.narrow_low_apart.new.h c.narrow_high_apart.new.h low high c.narrow_low_apart.ensures c.narrow_high_apart.ensures)
