-- The tells of both sides are heard one after the other.
use Rattle.std.proofs.Common.{◌≡◌, List, subst, sym, ◌-ℤ◌, rules, FitsSigned, to_z, of_z}
use Rattle.std.proofs.lemmas.Int.{to_z-of_z}
use mir.Syntax.{w64, w128}
use Rattle.tells.specs.declared.tell.Tell.{Tell}
use Rattle.tells.specs.Hearing.{MayHearAll, HearsAll}
use Rattle.sum_tells.specs.Linear.{product_at_most, product_at_least}
use Rattle.tell_laws.proofs.HearingLaws.{may_first, may_rest, hears_both}
use Rattle.sum_tells.proofs.EqualityCode.{coded_room}
use Rattle.sum_tells.proofs.equality.tell_equal_term.Goals as goal

pub tell_product_at_most-requires-clause-hearer : goal.tell_product_at_most-requires-clause-hearer
tell_product_at_most-requires-clause-hearer g c =
    let fits : FitsSigned w64 c.args.term.coeff = search rules in
    let coeff = to_z-of_z w64 c.args.term.coeff fits in
    let most = coded_room c.args.equation.limit c.args.equation.sum.least c.args.term.range.least c.room_for-most.result c.requires.limit c.requires.least_sum c.requires.least_term c.room_for-most.ensures.in_range c.room_for-most.ensures.value in
    let at_most : product_at_most c.args.term.var (to_z w64 (of_z w64 c.args.term.coeff)) (to_z w128 (of_z w128 c.room_for-most.result)) ≡ product_at_most c.args.term.var c.args.term.coeff (c.args.equation.limit -ℤ (c.args.equation.sum.least -ℤ c.args.term.range.least)) = (λ i. product_at_most c.args.term.var (coeff i) (most i)) in
    let M : List Tell → Type 0 = λ ts. MayHearAll g.H.Hear.can_hear g.H.Hear.hears c.args.h.now ts in
    subst M (sym at_most) (may_first g.H.Hear.can_hear g.H.Hear.hears c.args.h.now (product_at_most c.args.term.var c.args.term.coeff (c.args.equation.limit -ℤ (c.args.equation.sum.least -ℤ c.args.term.range.least))) (product_at_least c.args.term.var c.args.term.coeff (c.args.equation.limit -ℤ (c.args.equation.sum.greatest -ℤ c.args.term.range.greatest))) c.requires.hearer)

pub tell_product_at_least-requires-clause-hearer : goal.tell_product_at_least-requires-clause-hearer
tell_product_at_least-requires-clause-hearer g c =
    let fits : FitsSigned w64 c.args.term.coeff = search rules in
    let coeff = to_z-of_z w64 c.args.term.coeff fits in
    let most = coded_room c.args.equation.limit c.args.equation.sum.least c.args.term.range.least c.room_for-most.result c.requires.limit c.requires.least_sum c.requires.least_term c.room_for-most.ensures.in_range c.room_for-most.ensures.value in
    let at_most : product_at_most c.args.term.var (to_z w64 (of_z w64 c.args.term.coeff)) (to_z w128 (of_z w128 c.room_for-most.result)) ≡ product_at_most c.args.term.var c.args.term.coeff (c.args.equation.limit -ℤ (c.args.equation.sum.least -ℤ c.args.term.range.least)) = (λ i. product_at_most c.args.term.var (coeff i) (most i)) in
    let least = coded_room c.args.equation.limit c.args.equation.sum.greatest c.args.term.range.greatest c.room_for-least.result c.requires.limit c.requires.greatest_sum c.requires.greatest_term c.room_for-least.ensures.in_range c.room_for-least.ensures.value in
    let at_least : product_at_least c.args.term.var (to_z w64 (of_z w64 c.args.term.coeff)) (to_z w128 (of_z w128 c.room_for-least.result)) ≡ product_at_least c.args.term.var c.args.term.coeff (c.args.equation.limit -ℤ (c.args.equation.sum.greatest -ℤ c.args.term.range.greatest)) = (λ i. product_at_least c.args.term.var (coeff i) (least i)) in
    let M : List Tell → Type 0 = λ ts. MayHearAll g.H.Hear.can_hear g.H.Hear.hears c.tell_product_at_most.new.h ts in
    let F : List Tell → Type 0 = λ ts. HearsAll g.H.Hear.hears c.args.h.now ts c.tell_product_at_most.new.h in
    subst M (sym at_least) (may_rest g.H.Hear.can_hear g.H.Hear.hears c.args.h.now c.tell_product_at_most.new.h (product_at_most c.args.term.var c.args.term.coeff (c.args.equation.limit -ℤ (c.args.equation.sum.least -ℤ c.args.term.range.least))) (product_at_least c.args.term.var c.args.term.coeff (c.args.equation.limit -ℤ (c.args.equation.sum.greatest -ℤ c.args.term.range.greatest))) c.requires.hearer (subst F at_most c.tell_product_at_most.ensures))

pub returns : goal.returns
returns g c =
    let fits : FitsSigned w64 c.args.term.coeff = search rules in
    let coeff = to_z-of_z w64 c.args.term.coeff fits in
    let most = coded_room c.args.equation.limit c.args.equation.sum.least c.args.term.range.least c.room_for-most.result c.requires.limit c.requires.least_sum c.requires.least_term c.room_for-most.ensures.in_range c.room_for-most.ensures.value in
    let at_most : product_at_most c.args.term.var (to_z w64 (of_z w64 c.args.term.coeff)) (to_z w128 (of_z w128 c.room_for-most.result)) ≡ product_at_most c.args.term.var c.args.term.coeff (c.args.equation.limit -ℤ (c.args.equation.sum.least -ℤ c.args.term.range.least)) = (λ i. product_at_most c.args.term.var (coeff i) (most i)) in
    let least = coded_room c.args.equation.limit c.args.equation.sum.greatest c.args.term.range.greatest c.room_for-least.result c.requires.limit c.requires.greatest_sum c.requires.greatest_term c.room_for-least.ensures.in_range c.room_for-least.ensures.value in
    let at_least : product_at_least c.args.term.var (to_z w64 (of_z w64 c.args.term.coeff)) (to_z w128 (of_z w128 c.room_for-least.result)) ≡ product_at_least c.args.term.var c.args.term.coeff (c.args.equation.limit -ℤ (c.args.equation.sum.greatest -ℤ c.args.term.range.greatest)) = (λ i. product_at_least c.args.term.var (coeff i) (least i)) in
    let F : List Tell → Type 0 = λ ts. HearsAll g.H.Hear.hears c.args.h.now ts c.tell_product_at_most.new.h in
    let R : List Tell → Type 0 = λ ts. HearsAll g.H.Hear.hears c.tell_product_at_most.new.h ts c.tell_product_at_least.new.h in
    hears_both g.H.Hear.can_hear g.H.Hear.hears c.args.h.now c.tell_product_at_most.new.h c.tell_product_at_least.new.h (product_at_most c.args.term.var c.args.term.coeff (c.args.equation.limit -ℤ (c.args.equation.sum.least -ℤ c.args.term.range.least))) (product_at_least c.args.term.var c.args.term.coeff (c.args.equation.limit -ℤ (c.args.equation.sum.greatest -ℤ c.args.term.range.greatest)))
    (subst F at_most c.tell_product_at_most.ensures) (subst R at_least c.tell_product_at_least.ensures)
