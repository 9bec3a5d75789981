-- The two tells of the literal, one after the other.
use Rattle.std.proofs.Common.{◌≡◌, ◌<◌, ◌&&◌, ◌||◌, List, [], ◌∷◌, length, refl, sym, subst, ◌∙◌}
use Rattle.std.proofs.lemmas.Int.{to_z-of_z}
use Rattle.std.specs.Int.RustNames.{int_lt}
use mir.Syntax.{w64}
use Rattle.tells.specs.declared.tell.Tell.{Tell}
use Rattle.tells.specs.Words.{when, tell_true, tell_false}
use Rattle.tells.specs.Hearing.{MayHearAll, HearsAll}
use Rattle.sum_tells.specs.Equality.{is_same}
use Rattle.tell_laws.specs.Narrowing.{narrowing}
use Rattle.tell_laws.proofs.HearingLaws.{may_first, may_rest, hears_both}
use Rattle.short_tells.proofs.ShortSumLaws.{two_tells, true_var}
use Rattle.short_tells.proofs.short_sum.narrow_equation_literal.Goals as goal

pub tell_where-requires-clause-hearer : goal.tell_where-requires-clause-hearer
tell_where-requires-clause-hearer g c =
    let k = to_z-of_z w64 c.args.limit c.ranges.limit in
    let first : c.is_impossible.result ≡ (int_lt c.args.limit c.args.sums.least || int_lt c.args.sums.greatest c.args.limit) = c.is_impossible.ensures ∙ (λ i. int_lt (k i) c.args.sums.least || int_lt c.args.sums.greatest (k i)) in
    let P : List Tell → Type 0 = λ ts. MayHearAll g.H.Hear.can_hear g.H.Hear.hears c.args.h.now ts in
    may_first g.H.Hear.can_hear g.H.Hear.hears c.args.h.now (narrowing c.args.b.now (when c.is_impossible.result (c.tell_false.result ∷ []))) (narrowing c.args.b.now (when (is_same c.args.sums.least c.args.limit && is_same c.args.sums.greatest c.args.limit) (tell_true c.args.lit ∷ [])))
    (subst P (two_tells c.args.b.now (int_lt c.args.limit c.args.sums.least || int_lt c.args.sums.greatest c.args.limit) (is_same c.args.sums.least c.args.limit && is_same c.args.sums.greatest c.args.limit) c.is_impossible.result (is_same c.args.sums.least c.args.limit && is_same c.args.sums.greatest c.args.limit) (tell_false c.args.lit) (tell_true c.args.lit) c.tell_false.result (tell_true c.args.lit) first refl c.tell_false.ensures refl) c.requires.hearer)

pub tell_where-requires-2-clause-variable : goal.tell_where-requires-2-clause-variable
tell_where-requires-2-clause-variable g c = subst (λ (t : Tell). t.var < length c.args.b.now) (sym c.tell_true.ensures) (true_var c.args.lit (length c.args.b.now) c.requires.variable)

pub tell_where-requires-2-clause-hearer : goal.tell_where-requires-2-clause-hearer
tell_where-requires-2-clause-hearer g c =
    let k = to_z-of_z w64 c.args.limit c.ranges.limit in
    let first : c.is_impossible.result ≡ (int_lt c.args.limit c.args.sums.least || int_lt c.args.sums.greatest c.args.limit) = c.is_impossible.ensures ∙ (λ i. int_lt (k i) c.args.sums.least || int_lt c.args.sums.greatest (k i)) in
    let second : c.is_certain.result ≡ (is_same c.args.sums.least c.args.limit && is_same c.args.sums.greatest c.args.limit) = c.is_certain.ensures ∙ (λ i. is_same c.args.sums.least (k i) && is_same c.args.sums.greatest (k i)) in
    let P : List Tell → Type 0 = λ ts. MayHearAll g.H.Hear.can_hear g.H.Hear.hears c.args.h.now ts in
    may_rest g.H.Hear.can_hear g.H.Hear.hears c.args.h.now c.tell_where.new.h (narrowing c.args.b.now (when c.is_impossible.result (c.tell_false.result ∷ []))) (narrowing c.args.b.now (when c.is_certain.result (c.tell_true.result ∷ [])))
    (subst P (two_tells c.args.b.now (int_lt c.args.limit c.args.sums.least || int_lt c.args.sums.greatest c.args.limit) (is_same c.args.sums.least c.args.limit && is_same c.args.sums.greatest c.args.limit) c.is_impossible.result c.is_certain.result (tell_false c.args.lit) (tell_true c.args.lit) c.tell_false.result c.tell_true.result first second c.tell_false.ensures c.tell_true.ensures) c.requires.hearer) c.tell_where.ensures

pub returns : goal.returns
returns g c =
    let k = to_z-of_z w64 c.args.limit c.ranges.limit in
    let first : c.is_impossible.result ≡ (int_lt c.args.limit c.args.sums.least || int_lt c.args.sums.greatest c.args.limit) = c.is_impossible.ensures ∙ (λ i. int_lt (k i) c.args.sums.least || int_lt c.args.sums.greatest (k i)) in
    let second : c.is_certain.result ≡ (is_same c.args.sums.least c.args.limit && is_same c.args.sums.greatest c.args.limit) = c.is_certain.ensures ∙ (λ i. is_same c.args.sums.least (k i) && is_same c.args.sums.greatest (k i)) in
    let P : List Tell → Type 0 = λ ts. HearsAll g.H.Hear.hears c.args.h.now ts c.tell_where-2.new.h in
    subst P (sym (two_tells c.args.b.now (int_lt c.args.limit c.args.sums.least || int_lt c.args.sums.greatest c.args.limit) (is_same c.args.sums.least c.args.limit && is_same c.args.sums.greatest c.args.limit) c.is_impossible.result c.is_certain.result (tell_false c.args.lit) (tell_true c.args.lit) c.tell_false.result c.tell_true.result first second c.tell_false.ensures c.tell_true.ensures))
    (hears_both g.H.Hear.can_hear g.H.Hear.hears c.args.h.now c.tell_where.new.h c.tell_where-2.new.h (narrowing c.args.b.now (when c.is_impossible.result (c.tell_false.result ∷ []))) (narrowing c.args.b.now (when c.is_certain.result (c.tell_true.result ∷ []))) c.tell_where.ensures c.tell_where-2.ensures)
