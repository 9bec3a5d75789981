-- A literal that is out isn't sure, so that only what is said of an equation that must not hold is asked for.
use Rattle.std.proofs.Common.{ℤ, sym, subst}
use Rattle.std.specs.Prelude.{MatchOption}
use Rattle.std.proofs.lemmas.Int.{to_z-of_z}
use mir.Syntax.{w64}
use Rattle.kernel_visits.specs.Rests.{IsUnequalFor}
use Rattle.small_sums.proofs.QuietLaws.{not_sure}
use Rattle.kernel_visits.proofs.SeenLaws.{unequal_seen}
use Rattle.kernel_visits.proofs.resting.same_rest.Goals as goal

pub returns-then-stands_false : goal.returns-then-stands_false
returns-then-stands_false c =
    let out = sym c.if-stands_false.ensures in
    let Q : ℤ → Type 0 = λ z. MatchOption c.unequal_rest.result (Unit {0}) (IsUnequalFor z c.args.pair) in
    unequal_seen c.args.b.now c.args.lit c.args.limit c.args.pair out (not_sure c.law_clamp_order.ensures c.args.b.now c.args.lit out) c.unequal_rest.result
    (subst Q (to_z-of_z w64 c.args.limit c.ranges.limit) c.unequal_rest.ensures)
