-- Where the literal is out the drops are those of the terms, else there are none.
use Rattle.std.proofs.Common.{◌≡◌, true, false, List, ◌∙◌, suc, sym, refl, subst, arith, w64}
use Rattle.std.proofs.lemmas.Int.{to_z-of_z}
use Rattle.std.specs.List.{zip, flat_map}
use Rattle.guarded_tell.specs.Words.{is_out}
use Rattle.sum_tells.specs.Linear.{sum_over, least_of, greatest_of}
use Rattle.bit_domain.specs.Mixes.{hull}
use Rattle.domain_drops.specs.Hearing.{Drop, MayHearDrops, HearsDrops}
use Rattle.domain_drops.specs.Drops.{term_drops}
use Rattle.domain_drops.proofs.EquationCode.{drops_out, drops_in}
use Rattle.domain_drops.proofs.equation.drop_where_unequal.Goals as goal

pub sum_range-sum-requires-clause-variables : goal.sum_range-sum-requires-clause-variables
sum_range-sum-requires-clause-variables g c = record { each = λ i h. c.requires.variables.each (suc i) (omega arith) }

pub drop_unequal-requires-clause-variables : goal.drop_unequal-requires-clause-variables
drop_unequal-requires-clause-variables g c = record { each = λ i h. c.requires.variables.each (suc i) (omega arith) }

pub drop_unequal-requires-clause-hearer : goal.drop_unequal-requires-clause-hearer
drop_unequal-requires-clause-hearer g c =
    let b = hull c.args.m.now in
    let ts = zip c.args.coeffs.now c.args.vars.now in
    let m = sum_over (least_of b) ts in
    let n = sum_over (greatest_of b) ts in
    let sum = c.sum_range-sum.ensures in
    let limit = to_z-of_z w64 c.args.limit c.ranges.limit in
    let out : is_out c.args.lit b ≡ true = sym c.is_out.ensures ∙ c.if-is_out.true in
    let P : List Drop → Type 0 = λ ds. MayHearDrops g.H.HearDrop.can_hear g.H.HearDrop.hears c.args.h.now ds in
    subst P (drops_out c.args.m.now c.args.lit c.args.limit m n out ts ∙ (λ i. flat_map (term_drops c.args.m.now (sym limit i) (sym sum.least i) (sym sum.greatest i)) ts)) c.requires.hearer

pub returns-then-is_out : goal.returns-then-is_out
returns-then-is_out g c =
    let b = hull c.args.m.now in
    let ts = zip c.args.coeffs.now c.args.vars.now in
    let m = sum_over (least_of b) ts in
    let n = sum_over (greatest_of b) ts in
    let sum = c.sum_range-sum.ensures in
    let limit = to_z-of_z w64 c.args.limit c.ranges.limit in
    let out : is_out c.args.lit b ≡ true = sym c.is_out.ensures ∙ c.if-is_out.true in
    let P : List Drop → Type 0 = λ ds. HearsDrops g.H.HearDrop.hears c.args.h.now ds c.drop_unequal.new.h in
    subst P (sym (drops_out c.args.m.now c.args.lit c.args.limit m n out ts ∙ (λ i. flat_map (term_drops c.args.m.now (sym limit i) (sym sum.least i) (sym sum.greatest i)) ts))) c.drop_unequal.ensures

pub returns-else-is_out : goal.returns-else-is_out
returns-else-is_out g c =
    let b = hull c.args.m.now in
    let ts = zip c.args.coeffs.now c.args.vars.now in
    let within : is_out c.args.lit b ≡ false = sym c.is_out.ensures ∙ c.if-is_out.false in
    let P : List Drop → Type 0 = λ ds. HearsDrops g.H.HearDrop.hears c.args.h.now ds c.args.h.now in
    subst P (sym (drops_in c.args.m.now c.args.lit c.args.limit (sum_over (least_of b) ts) (sum_over (greatest_of b) ts) within ts)) refl
