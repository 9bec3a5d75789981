-- The literal's tells are heard, and then those of the terms.
use Rattle.std.proofs.Common.{suc, List, sym, subst, to_z, of_z, FitsSigned, rules, arith}
use Rattle.std.proofs.lemmas.Int.{to_z-of_z}
use Rattle.std.specs.List.{zip, flat_map}
use mir.Syntax.{w64}
use Rattle.tells.specs.declared.tell.Tell.{Tell}
use Rattle.tells.specs.Hearing.{MayHearAll, HearsAll}
use Rattle.sum_tells.specs.Linear.{Term}
use Rattle.sum_tells.specs.Linear.{literal_tells}
use Rattle.tell_laws.specs.Narrowing.{narrowing}
use Rattle.short_tells.specs.ShortTells.{room_tells}
use Rattle.tell_laws.proofs.HearingLaws.{may_first, may_rest, hears_both}
use Rattle.short_tells.proofs.GrowthLaws.{sums_grow_short}
use Rattle.short_tells.proofs.ShortSumLaws.{at_most_by_room}
use Rattle.short_tells.proofs.short_sum.tell_at_most.Goals as goal

pub room_at_most-room-requires-clause-proper : goal.room_at_most-room-requires-clause-proper
room_at_most-room-requires-clause-proper g c = c.requires.proper 0 (omega arith)

pub narrow_terms-requires-clause-variables : goal.narrow_terms-requires-clause-variables
narrow_terms-requires-clause-variables g c = record { each = λ i h. c.requires.variables.each (suc i) (omega arith) }

pub narrow_terms-requires-clause-proper : goal.narrow_terms-requires-clause-proper
narrow_terms-requires-clause-proper g c = λ i h. c.requires.proper (suc i) (omega arith)

pub narrow_literal-requires-clause-hearer : goal.narrow_literal-requires-clause-hearer
narrow_literal-requires-clause-hearer g c =
    let P : List Tell → Type 0 = λ ts. MayHearAll g.H.Hear.can_hear g.H.Hear.hears c.args.h.now ts in
    may_first g.H.Hear.can_hear g.H.Hear.hears c.args.h.now (narrowing c.args.b.now (literal_tells c.args.lit (to_z w64 (of_z w64 c.args.limit)) c.args.sums.least c.args.sums.greatest)) (flat_map (λ (t : Term). narrowing c.args.b.now (room_tells c.args.b.now c.room_at_most-room.result t)) (zip c.args.coeffs.now c.args.vars.now))
    (subst P (at_most_by_room c.law_clamp_order.ensures c.args.b.now c.args.lit c.args.coeffs.now c.args.vars.now c.args.limit (to_z w64 (of_z w64 c.args.limit)) c.args.sums c.requires.sums.sums (to_z-of_z w64 c.args.limit c.ranges.limit) c.room_at_most-room.result c.room_at_most-room.ensures) c.requires.hearer)

pub narrow_terms-requires-clause-hearer : goal.narrow_terms-requires-clause-hearer
narrow_terms-requires-clause-hearer g c =
    let P : List Tell → Type 0 = λ ts. MayHearAll g.H.Hear.can_hear g.H.Hear.hears c.args.h.now ts in
    may_rest g.H.Hear.can_hear g.H.Hear.hears c.args.h.now c.narrow_literal.new.h (narrowing c.args.b.now (literal_tells c.args.lit (to_z w64 (of_z w64 c.args.limit)) c.args.sums.least c.args.sums.greatest)) (flat_map (λ (t : Term). narrowing c.args.b.now (room_tells c.args.b.now c.room_at_most-room.result t)) (zip c.args.coeffs.now c.args.vars.now))
    (subst P (at_most_by_room c.law_clamp_order.ensures c.args.b.now c.args.lit c.args.coeffs.now c.args.vars.now c.args.limit (to_z w64 (of_z w64 c.args.limit)) c.args.sums c.requires.sums.sums (to_z-of_z w64 c.args.limit c.ranges.limit) c.room_at_most-room.result c.room_at_most-room.ensures) c.requires.hearer) c.narrow_literal.ensures

pub returns : goal.returns
returns g c =
    let P : List Tell → Type 0 = λ ts. HearsAll g.H.Hear.hears c.args.h.now ts c.narrow_terms.new.h in
    subst P (sym (at_most_by_room c.law_clamp_order.ensures c.args.b.now c.args.lit c.args.coeffs.now c.args.vars.now c.args.limit (to_z w64 (of_z w64 c.args.limit)) c.args.sums c.requires.sums.sums (to_z-of_z w64 c.args.limit c.ranges.limit) c.room_at_most-room.result c.room_at_most-room.ensures))
    (hears_both g.H.Hear.can_hear g.H.Hear.hears c.args.h.now c.narrow_literal.new.h c.narrow_terms.new.h (narrowing c.args.b.now (literal_tells c.args.lit (to_z w64 (of_z w64 c.args.limit)) c.args.sums.least c.args.sums.greatest)) (flat_map (λ (t : Term). narrowing c.args.b.now (room_tells c.args.b.now c.room_at_most-room.result t)) (zip c.args.coeffs.now c.args.vars.now)) c.narrow_literal.ensures c.narrow_terms.ensures)

pub room_at_most-room-requires-clause-variable : goal.room_at_most-room-requires-clause-variable
room_at_most-room-requires-clause-variable g c = c.requires.variables.each 0 (omega arith)

pub narrow_literal-requires-clause-variable : goal.narrow_literal-requires-clause-variable
narrow_literal-requires-clause-variable g c = c.requires.variables.each 0 (omega arith)

pub narrow_terms-requires-clause-growths : goal.narrow_terms-requires-clause-growths
narrow_terms-requires-clause-growths g c =
    let widest : FitsSigned w64 c.args.sums.widest = search rules in
    sums_grow_short c.args.b.now c.args.coeffs.now c.args.vars.now c.args.sums widest c.requires.sums.sums
