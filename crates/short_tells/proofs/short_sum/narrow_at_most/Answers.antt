-- Two terms that have room narrow nothing.
use Rattle.std.proofs.Common.{ℤ, suc, subst, arith}
use Rattle.std.proofs.lemmas.Int.{to_z-of_z}
use mir.Syntax.{w64}
use Rattle.std.specs.List.{All}
use Rattle.tells.specs.Words.{Keeps}
use Rattle.sum_tells.specs.Linear.{at_most_tells}
use Rattle.short_tells.proofs.ShortSumLaws.{quiet_heard}
use Rattle.short_tells.proofs.short_sum.narrow_at_most.Goals as goal

pub returns-then-is_pair_at_most_quiet-clause-given : goal.returns-then-is_pair_at_most_quiet-clause-given
returns-then-is_pair_at_most_quiet-clause-given g c =
    let Q : ℤ → Type 0 = λ z. All (Keeps c.args.b.now) (at_most_tells c.args.lit c.args.coeffs.now c.args.vars.now z c.args.b.now) in
    quiet_heard g.H.Hear.hears c.args.h.now c.args.b.now (at_most_tells c.args.lit c.args.coeffs.now c.args.vars.now c.args.limit c.args.b.now)
    (subst Q (to_z-of_z w64 c.args.limit c.ranges.limit) c.if-is_pair_at_most_quiet.ensures)

pub short_sums-requires-clause-variables : goal.short_sums-requires-clause-variables
short_sums-requires-clause-variables g c = record { each = λ i h. c.requires.variables.each (suc i) (omega arith) }

pub short_sums-requires-clause-proper : goal.short_sums-requires-clause-proper
short_sums-requires-clause-proper g c = λ i h. c.requires.proper (suc i) (omega arith)
