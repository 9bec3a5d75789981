-- A term that grows by no more than the slack isn't narrowed.
use Rattle.std.proofs.Common.{List, ℤ, ◌≤ℤ◌, to_z, of_z, refl, sym, subst}
use Rattle.std.proofs.lemmas.Int.{to_z-of_z}
use mir.Syntax.{w64}
use Rattle.tells.specs.declared.tell.Tell.{Tell}
use Rattle.tells.specs.Hearing.{HearsAll}
use Rattle.small_sums.specs.Short.{growth_of}
use Rattle.short_tells.proofs.GrowthLaws.{room_kept}
use Rattle.short_tells.proofs.short_terms.narrow_where_wide.Goals as goal

pub returns-else-is_wide : goal.returns-else-is_wide
returns-else-is_wide g c =
    let b = c.args.b.now in
    let growth : growth_of b c.args.term.0 c.args.term.1 ≤ℤ to_z w64 (of_z w64 c.args.slack) = c.if-is_wide.ensures in
    let small = subst (λ (z : ℤ). growth_of b c.args.term.0 c.args.term.1 ≤ℤ z) (to_z-of_z w64 c.args.slack c.ranges.slack) growth in
    let P : List Tell → Type 0 = λ ts. HearsAll g.H.Hear.hears c.args.h.now ts c.args.h.now in
    subst P (sym (room_kept c.law_quotient_order.ensures c.law_clamp_order.ensures b c.args.term.0 c.args.term.1 c.requires.growth.bounds c.args.slack small c.args.room.now c.requires.slack)) refl
