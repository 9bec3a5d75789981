-- Where the other terms are fixed the numbers of one product are dropped, else none.
use Rattle.std.proofs.Common.{◌≡◌, List, ℤ, true, false, ◌-ℤ◌, ◌∙◌, map, sym, refl, ap, subst}
use Rattle.std.specs.List.{filter}
use Rattle.sum_tells.specs.Linear.{Term, least_of, greatest_of}
use Rattle.sum_tells.specs.Equality.{is_same, is_product}
use Rattle.bit_domain.specs.Mixes.{hull, dom_of, values_of}
use Rattle.domain_drops.specs.Hearing.{Drop, MayHearDrops, HearsDrops}
use Rattle.domain_drops.proofs.ProductLaws.{coded_number, coded_room}
use Rattle.domain_drops.proofs.EquationCode.{drops_fixed, drops_open}
use Rattle.domain_drops.proofs.equation.drop_term.Goals as goal

pub drop_product-requires-clause-hearer : goal.drop_product-requires-clause-hearer
drop_product-requires-clause-hearer g c =
    let b = hull c.args.m.now in
    let t : Term = (c.args.term.coeff, c.args.term.var) in
    let m = c.args.equation.sum.least in
    let n = c.args.equation.sum.greatest in
    let least = c.term_range-own.ensures.least in
    let greatest = c.term_range-own.ensures.greatest in
    let fixed : is_same (m -ℤ least_of b t) (n -ℤ greatest_of b t) ≡ true = (λ i. is_same (m -ℤ sym least i) (n -ℤ sym greatest i)) ∙ sym c.are_others_fixed.ensures ∙ c.if-are_others_fixed.true in
    let room = coded_room c.args.equation.limit m c.term_range-own.result.least c.room_for-room.result c.requires.limit c.requires.least_sum c.term_range-own.ensures.least_in_range c.room_for-room.ensures.in_range c.room_for-room.ensures.value ∙ ap (λ (z : ℤ). c.args.equation.limit -ℤ (m -ℤ z)) least in
    let coeff = coded_number c.args.term.coeff c.requires.coefficient in
    let products : ℤ → ℤ → List Drop = λ a r. map (λ z. (c.args.term.var, z)) (filter (λ z. is_product a z r) (values_of (dom_of c.args.m.now c.args.term.var))) in
    let P : List Drop → Type 0 = λ ds. MayHearDrops g.H.HearDrop.can_hear g.H.HearDrop.hears c.args.h.now ds in
    subst P (drops_fixed c.args.m.now c.args.equation.limit m n t fixed ∙ (λ i. products (sym coeff i) (sym room i))) c.requires.hearer

pub returns-then-are_others_fixed : goal.returns-then-are_others_fixed
returns-then-are_others_fixed g c =
    let b = hull c.args.m.now in
    let t : Term = (c.args.term.coeff, c.args.term.var) in
    let m = c.args.equation.sum.least in
    let n = c.args.equation.sum.greatest in
    let least = c.term_range-own.ensures.least in
    let greatest = c.term_range-own.ensures.greatest in
    let fixed : is_same (m -ℤ least_of b t) (n -ℤ greatest_of b t) ≡ true = (λ i. is_same (m -ℤ sym least i) (n -ℤ sym greatest i)) ∙ sym c.are_others_fixed.ensures ∙ c.if-are_others_fixed.true in
    let room = coded_room c.args.equation.limit m c.term_range-own.result.least c.room_for-room.result c.requires.limit c.requires.least_sum c.term_range-own.ensures.least_in_range c.room_for-room.ensures.in_range c.room_for-room.ensures.value ∙ ap (λ (z : ℤ). c.args.equation.limit -ℤ (m -ℤ z)) least in
    let coeff = coded_number c.args.term.coeff c.requires.coefficient in
    let products : ℤ → ℤ → List Drop = λ a r. map (λ z. (c.args.term.var, z)) (filter (λ z. is_product a z r) (values_of (dom_of c.args.m.now c.args.term.var))) in
    let P : List Drop → Type 0 = λ ds. HearsDrops g.H.HearDrop.hears c.args.h.now ds c.drop_product.new.h in
    subst P (sym (drops_fixed c.args.m.now c.args.equation.limit m n t fixed ∙ (λ i. products (sym coeff i) (sym room i)))) c.drop_product.ensures

pub returns-else-are_others_fixed : goal.returns-else-are_others_fixed
returns-else-are_others_fixed g c =
    let b = hull c.args.m.now in
    let t : Term = (c.args.term.coeff, c.args.term.var) in
    let m = c.args.equation.sum.least in
    let n = c.args.equation.sum.greatest in
    let least = c.term_range-own.ensures.least in
    let greatest = c.term_range-own.ensures.greatest in
    let open_sum : is_same (m -ℤ least_of b t) (n -ℤ greatest_of b t) ≡ false = (λ i. is_same (m -ℤ sym least i) (n -ℤ sym greatest i)) ∙ sym c.are_others_fixed.ensures ∙ c.if-are_others_fixed.false in
    let P : List Drop → Type 0 = λ ds. HearsDrops g.H.HearDrop.hears c.args.h.now ds c.args.h.now in
    subst P (sym (drops_open c.args.m.now c.args.equation.limit m n t open_sum)) refl
