-- The product is told, and then each factor.
use Rattle.std.proofs.Common.{◌++◌, List, sym, subst}
use Rattle.tells.specs.declared.tell.Tell.{Tell}
use Rattle.tells.specs.Hearing.{MayHearAll, HearsAll}
use Rattle.tell_laws.specs.Narrowing.{narrowing}
use Rattle.tell_laws.proofs.HearingLaws.{may_first, may_rest, hears_both}
use Rattle.arithmetic_tells.specs.Times.{product_tells, factor_tells}
use Rattle.arithmetic_tells.proofs.ProductQuiet.{times_parts}
use Rattle.arithmetic_tells.proofs.products.narrow_times.Goals as goal

pub narrow_product-requires-clause-hearer : goal.narrow_product-requires-clause-hearer
narrow_product-requires-clause-hearer g c =
    let b = c.args.b.now in
    let first = narrowing b (product_tells c.args.x c.args.y c.args.z b) in
    let second = narrowing b (factor_tells c.args.x c.args.y c.args.z b) in
    let third = narrowing b (factor_tells c.args.y c.args.x c.args.z b) in
    let P : List Tell → Type 0 = λ ts. MayHearAll g.H.Hear.can_hear g.H.Hear.hears c.args.h.now ts in
    may_first g.H.Hear.can_hear g.H.Hear.hears c.args.h.now first (second ++ third) (subst P (times_parts b c.args.x c.args.y c.args.z) c.requires.hearer)

pub narrow_factor-requires-clause-hearer : goal.narrow_factor-requires-clause-hearer
narrow_factor-requires-clause-hearer g c =
    let b = c.args.b.now in
    let first = narrowing b (product_tells c.args.x c.args.y c.args.z b) in
    let second = narrowing b (factor_tells c.args.x c.args.y c.args.z b) in
    let third = narrowing b (factor_tells c.args.y c.args.x c.args.z b) in
    let P : List Tell → Type 0 = λ ts. MayHearAll g.H.Hear.can_hear g.H.Hear.hears c.args.h.now ts in
    may_first g.H.Hear.can_hear g.H.Hear.hears c.narrow_product.new.h second third
    (may_rest g.H.Hear.can_hear g.H.Hear.hears c.args.h.now c.narrow_product.new.h first (second ++ third) (subst P (times_parts b c.args.x c.args.y c.args.z) c.requires.hearer) c.narrow_product.ensures)

pub narrow_factor-requires-2-clause-hearer : goal.narrow_factor-requires-2-clause-hearer
narrow_factor-requires-2-clause-hearer g c =
    let b = c.args.b.now in
    let first = narrowing b (product_tells c.args.x c.args.y c.args.z b) in
    let second = narrowing b (factor_tells c.args.x c.args.y c.args.z b) in
    let third = narrowing b (factor_tells c.args.y c.args.x c.args.z b) in
    let P : List Tell → Type 0 = λ ts. MayHearAll g.H.Hear.can_hear g.H.Hear.hears c.args.h.now ts in
    may_rest g.H.Hear.can_hear g.H.Hear.hears c.narrow_product.new.h c.narrow_factor.new.h second third
    (may_rest g.H.Hear.can_hear g.H.Hear.hears c.args.h.now c.narrow_product.new.h first (second ++ third) (subst P (times_parts b c.args.x c.args.y c.args.z) c.requires.hearer) c.narrow_product.ensures) c.narrow_factor.ensures

pub returns : goal.returns
returns g c =
    let b = c.args.b.now in
    let first = narrowing b (product_tells c.args.x c.args.y c.args.z b) in
    let second = narrowing b (factor_tells c.args.x c.args.y c.args.z b) in
    let third = narrowing b (factor_tells c.args.y c.args.x c.args.z b) in
    let P : List Tell → Type 0 = λ ts. HearsAll g.H.Hear.hears c.args.h.now ts c.narrow_factor-2.new.h in
    subst P (sym (times_parts b c.args.x c.args.y c.args.z))
    (hears_both g.H.Hear.can_hear g.H.Hear.hears c.args.h.now c.narrow_product.new.h c.narrow_factor-2.new.h first (second ++ third) c.narrow_product.ensures
    (hears_both g.H.Hear.can_hear g.H.Hear.hears c.narrow_product.new.h c.narrow_factor.new.h c.narrow_factor-2.new.h second third c.narrow_factor.ensures c.narrow_factor-2.ensures))
