-- Only the place that x is fixed to has tells.
use Rattle.std.proofs.Common.{List, suc, subst, sym, refl, arith}
use Rattle.tells.specs.declared.tell.Tell.{Tell}
use Rattle.tells.specs.Hearing.{MayHearAll, HearsAll}
use Rattle.element_tells.proofs.ElementTells.{fixed_some, fixed_none}
use Rattle.element_tells.proofs.element.tell_fixed.Goals as goal

pub tell_equal-requires-clause-y : goal.tell_equal-requires-clause-y
tell_equal-requires-clause-y g c = let (h, p, q) = c.in-Some.ensures in c.requires.variables.each (suc (suc c.in-Some.i)) (omega arith)

pub tell_equal-requires-clause-c : goal.tell_equal-requires-clause-c
tell_equal-requires-clause-c g c = c.requires.variables.each 1 (omega arith)

pub tell_equal-requires-clause-hearer : goal.tell_equal-requires-clause-hearer
tell_equal-requires-clause-hearer g c =
    let P : List Tell → Type 0 = λ ts. MayHearAll g.H.Hear.can_hear g.H.Hear.hears c.args.h.now ts in
    let (h, p, q) = c.in-Some.ensures in
    subst P (fixed_some c.args.x c.args.c c.args.b.now c.args.entries.now c.in-Some.i h p q) c.requires.hearer

pub returns-in-Some : goal.returns-in-Some
returns-in-Some g c =
    let P : List Tell → Type 0 = λ ts. HearsAll g.H.Hear.hears c.args.h.now ts c.tell_equal.new.h in
    let (h, p, q) = c.in-Some.ensures in
    subst P (sym (fixed_some c.args.x c.args.c c.args.b.now c.args.entries.now c.in-Some.i h p q)) c.tell_equal.ensures

pub returns-in_default : goal.returns-in_default
returns-in_default g c =
    let P : List Tell → Type 0 = λ ts. HearsAll g.H.Hear.hears c.args.h.now ts c.args.h.now in
    subst P (sym (fixed_none c.args.x c.args.c c.args.b.now c.args.entries.now c.in_default.ensures)) refl
