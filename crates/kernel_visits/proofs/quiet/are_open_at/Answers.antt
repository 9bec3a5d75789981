-- Two places that are open are two open terms.
use Rattle.std.proofs.Common.{◌<◌, length, arith}
use Rattle.std.proofs.lemmas.Bool.{OnTrue_from}
use Rattle.kernel_visits.specs.Open.{AreTwoOpen}
use Rattle.kernel_visits.proofs.FoundLaws.{two_open, open_at}
use Rattle.kernel_visits.proofs.quiet.are_open_at.Goals as goal

pub returns-then-is_open : goal.returns-then-is_open
returns-then-is_open c = OnTrue_from c.is_open-then-is_open.result (AreTwoOpen c.args.b.now c.args.coeffs.now c.args.vars.now) (λ e.
    let coefficient = c.requires.linear.coefficients in
    let rising : c.args.hint.first < c.args.hint.second = omega arith in
    let inside : c.args.hint.second < length c.args.coeffs.now = omega arith in
    let within : c.args.hint.first < length c.args.coeffs.now = omega arith in
    two_open c.args.b.now c.args.coeffs.now c.args.vars.now c.args.hint.first c.args.hint.second rising
    (open_at c.args.b.now c.args.coeffs.now c.args.vars.now c.args.hint.first c.is_open.result within (coefficient c.args.hint.first within) c.is_open.ensures c.if-is_open.true)
    (open_at c.args.b.now c.args.coeffs.now c.args.vars.now c.args.hint.second c.is_open-then-is_open.result inside (coefficient c.args.hint.second inside) c.is_open-then-is_open.ensures e))
