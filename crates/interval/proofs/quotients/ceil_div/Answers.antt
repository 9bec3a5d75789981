-- The ceiling is minus the floor of minus the dividend, and no negation overflows.
use Rattle.std.proofs.Common.{◌≡◌, ◌≤◌, ◌∙◌, ap, subst, sym, ℤ, pos, neg_ℤ, ◌-ℤ◌, arith, to_z, of_z, unsigned_abs}
use Rattle.std.proofs.lemmas.Int.{ints, to_z-of_z}
use Rattle.interval.specs.Limits.{dividend_limit}
use Rattle.interval.specs.Quotients.{floor_of, ceiling_of, IsCeilingOf}
use Rattle.interval.proofs.QuotientLaws.{floor_small, ceiling_exact}
use Rattle.interval.proofs.quotients.ceil_div.Goals as goal
use mir.Syntax.{w128}

-- the code's two arguments of the floor
dividend_is : (c : goal.After-floor_div) → to_z w128 (of_z w128 (pos 0 -ℤ to_z w128 (of_z w128 c.args.a))) ≡ neg_ℤ c.args.a
unfolding dividend_limit
dividend_is c = omega (arith, ints)

floor_is : (c : goal.After-floor_div) → c.floor_div.result ≡ floor_of (neg_ℤ c.args.a) c.args.b
floor_is c = c.floor_div.ensures.value ∙ (λ i. floor_of (dividend_is c i) (to_z-of_z w128 c.args.b c.ranges.b i))

pub overflow_sub-a : goal.overflow_sub-a
unfolding dividend_limit
overflow_sub-a c = omega (arith, ints)

small : (c : goal.After-floor_div) → unsigned_abs c.floor_div.result ≤ dividend_limit
small c = rw (floor_is c) (let s = floor_small (neg_ℤ c.args.a) c.args.b in let d = c.requires.dividend in omega (arith, ints))

pub overflow_sub-result : goal.overflow_sub-result
unfolding dividend_limit
overflow_sub-result c = let s = small c in omega (arith, ints)

pub returns-clause-value : goal.returns-clause-value
unfolding ceiling_of dividend_limit
returns-clause-value c = let s = small c in let e = ap neg_ℤ (floor_is c) in omega (arith, ints)

pub returns-clause-exact : goal.returns-clause-exact
returns-clause-exact c =
    let P : ℤ → Type 0 = λ q. IsCeilingOf c.args.a c.args.b q in
    subst P (sym (returns-clause-value c)) (ceiling_exact c.args.a c.args.b c.requires.divisor)
