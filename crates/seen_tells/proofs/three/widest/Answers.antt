-- Each width is at most the larger of it and another.
use Rattle.std.proofs.Common.{FitsSigned, rules, arith}
use Rattle.std.proofs.lemmas.Int.{ints, clamps, to_z-of_z}
use mir.Syntax.{w64}
use Rattle.seen_tells.proofs.three.widest.Goals as goal

pub returns-clause-x : goal.returns-clause-x
returns-clause-x c =
    let width_fits : FitsSigned w64 c.width-first.result = search rules in
    let width = to_z-of_z w64 c.width-first.result width_fits in
    let is = c.width-first.ensures in
    let both_fits : FitsSigned w64 c.larger-both.result = search rules in
    let both = to_z-of_z w64 c.larger-both.result both_fits in
    let up = c.larger-both.ensures in
    let all = c.larger.ensures in
    omega (arith, ints, clamps)

pub returns-clause-y : goal.returns-clause-y
returns-clause-y c =
    let width_fits : FitsSigned w64 c.width-second.result = search rules in
    let width = to_z-of_z w64 c.width-second.result width_fits in
    let is = c.width-second.ensures in
    let both_fits : FitsSigned w64 c.larger-both.result = search rules in
    let both = to_z-of_z w64 c.larger-both.result both_fits in
    let up = c.larger-both.ensures in
    let all = c.larger.ensures in
    omega (arith, ints, clamps)

pub returns-clause-z : goal.returns-clause-z
returns-clause-z c =
    let width_fits : FitsSigned w64 c.width-third.result = search rules in
    let width = to_z-of_z w64 c.width-third.result width_fits in
    let is = c.width-third.ensures in
    let all = c.larger.ensures in
    omega (arith, ints, clamps)
