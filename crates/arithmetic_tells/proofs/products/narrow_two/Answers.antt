-- The first tell is heard, and then the second.
use Rattle.std.proofs.Common.{List, [], ◌∷◌, sym, subst}
use Rattle.tells.specs.declared.tell.Tell.{Tell}
use Rattle.tells.specs.Hearing.{MayHearAll, HearsAll}
use Rattle.tell_laws.specs.Narrowing.{narrowing}
use Rattle.tell_laws.proofs.HearingLaws.{may_first, may_rest, hears_both}
use Rattle.arithmetic_tells.proofs.ProductQuiet.{two_parts}
use Rattle.arithmetic_tells.proofs.products.narrow_two.Goals as goal

pub tell_narrowing-requires-clause-hearer : goal.tell_narrowing-requires-clause-hearer
tell_narrowing-requires-clause-hearer g c =
    let b = c.args.b.now in
    let first = narrowing b (c.args.first ∷ []) in
    let second = narrowing b (c.args.second ∷ []) in
    let P : List Tell → Type 0 = λ ts. MayHearAll g.H.Hear.can_hear g.H.Hear.hears c.args.h.now ts in
    may_first g.H.Hear.can_hear g.H.Hear.hears c.args.h.now first second (subst P (two_parts b c.args.first c.args.second) c.requires.hearer)

pub tell_narrowing-requires-2-clause-hearer : goal.tell_narrowing-requires-2-clause-hearer
tell_narrowing-requires-2-clause-hearer g c =
    let b = c.args.b.now in
    let first = narrowing b (c.args.first ∷ []) in
    let second = narrowing b (c.args.second ∷ []) in
    let P : List Tell → Type 0 = λ ts. MayHearAll g.H.Hear.can_hear g.H.Hear.hears c.args.h.now ts in
    may_rest g.H.Hear.can_hear g.H.Hear.hears c.args.h.now c.tell_narrowing.new.h first second (subst P (two_parts b c.args.first c.args.second) c.requires.hearer) c.tell_narrowing.ensures

pub returns : goal.returns
returns g c =
    let b = c.args.b.now in
    let first = narrowing b (c.args.first ∷ []) in
    let second = narrowing b (c.args.second ∷ []) in
    let P : List Tell → Type 0 = λ ts. HearsAll g.H.Hear.hears c.args.h.now ts c.tell_narrowing-2.new.h in
    subst P (sym (two_parts b c.args.first c.args.second))
    (hears_both g.H.Hear.can_hear g.H.Hear.hears c.args.h.now c.tell_narrowing.new.h c.tell_narrowing-2.new.h first second c.tell_narrowing.ensures c.tell_narrowing-2.ensures)
