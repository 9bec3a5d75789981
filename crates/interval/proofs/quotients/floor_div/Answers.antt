-- The parts are those of the very numbers, so what is lowered is the floor of their quotient.
use Rattle.std.proofs.Common.{◌∙◌, ℤ, ap, sym, subst, to_z, of_z, rules}
use Rattle.std.proofs.lemmas.Int.{to_z-of_z}
use Rattle.interval.specs.Quotients.{floor_of, IsFloorOf}
use Rattle.interval.proofs.QuotientLaws.{floor_exact}
use Rattle.interval.proofs.quotients.floor_div.Goals as goal
use mir.Syntax.{w128}

pub returns-clause-value : goal.returns-clause-value
returns-clause-value c =
    to_z-of_z w128 c.lowered.result (search rules) ∙ c.lowered.ensures.value
    ∙ ap (λ (z : ℤ). floor_of z (to_z w128 (of_z w128 c.args.b))) c.divided.ensures.parts.whole
    ∙ (λ i. floor_of (to_z-of_z w128 c.args.a c.ranges.a i) (to_z-of_z w128 c.args.b c.ranges.b i))

pub returns-clause-exact : goal.returns-clause-exact
returns-clause-exact c =
    let P : ℤ → Type 0 = λ q. IsFloorOf c.args.a c.args.b q in
    subst P (sym (returns-clause-value c)) (floor_exact c.args.a c.args.b c.requires.divisor)
