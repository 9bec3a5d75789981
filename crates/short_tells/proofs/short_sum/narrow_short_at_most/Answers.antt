-- Sums that leave room say that nothing narrows.
use Rattle.std.proofs.Common.{ℤ, List, refl, sym, subst, arith}
use Rattle.std.proofs.lemmas.Int.{to_z-of_z}
use mir.Syntax.{w64}
use Rattle.tells.specs.declared.tell.Tell.{Tell}
use Rattle.tells.specs.Hearing.{HearsAll}
use Rattle.sum_tells.specs.Linear.{at_most_tells}
use Rattle.small_sums.specs.Short.{IsAtMostQuiet}
use Rattle.tell_laws.proofs.NarrowingLaws.{none_narrows}
use Rattle.small_sums.proofs.QuietLaws.{at_most_quiet}
use Rattle.short_tells.proofs.short_sum.narrow_short_at_most.Goals as goal

pub leaves_room-requires-clause-proper : goal.leaves_room-requires-clause-proper
leaves_room-requires-clause-proper g c = c.requires.proper 0 (omega arith)

pub returns-else-not-leaves_room : goal.returns-else-not-leaves_room
returns-else-not-leaves_room g c =
    let P : List Tell → Type 0 = λ ts. HearsAll g.H.Hear.hears c.args.h.now ts c.args.h.now in
    let Q : ℤ → Type 0 = λ z. IsAtMostQuiet c.args.b.now c.args.lit z c.args.sums in
    let kept = at_most_quiet c.law_quotient_order.ensures c.law_clamp_order.ensures c.args.b.now c.args.lit c.args.coeffs.now c.args.vars.now c.args.sums c.requires.linear.same_length c.requires.sums.sums c.args.limit
    (subst Q (to_z-of_z w64 c.args.limit c.ranges.limit) c.if-not-leaves_room.ensures) in
    subst P (sym (none_narrows c.args.b.now (at_most_tells c.args.lit c.args.coeffs.now c.args.vars.now c.args.limit c.args.b.now) kept)) refl

pub leaves_room-requires-clause-variable : goal.leaves_room-requires-clause-variable
leaves_room-requires-clause-variable g c = c.requires.variables.each 0 (omega arith)
