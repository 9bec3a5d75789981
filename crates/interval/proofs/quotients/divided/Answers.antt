-- Short numbers are themselves in 64 bits.
use Rattle.std.proofs.Common.{◌≤◌, ◌∙◌, ℤ, sym, subst, unsigned_abs, to_z, of_z}
use Rattle.std.proofs.lemmas.Int.{to_z-of_z}
use Rattle.interval.specs.Limits.{short_limit}
use Rattle.interval.specs.Quotients.{AreParts}
use Rattle.interval.proofs.QuotientLaws.{short_word, word_back}
use Rattle.interval.proofs.quotients.divided.Goals as goal
use mir.Syntax.{w64, w128}

pub overflow_cast-a : goal.overflow_cast-a
overflow_cast-a c = short_word c.args.a (c.are_short.ensures.0 c.if-are_short.true).0

pub overflow_cast-b : goal.overflow_cast-b
overflow_cast-b c = short_word c.args.b (c.are_short.ensures.0 c.if-are_short.true).1

pub divided_short-requires-clause-divisor : goal.divided_short-requires-clause-divisor
divided_short-requires-clause-divisor c = λ e. c.requires.divisor (sym (word_back c.args.b c.ranges.b (c.are_short.ensures.0 c.if-are_short.true).1) ∙ e)

pub divided_short-requires-clause-dividend : goal.divided_short-requires-clause-dividend
divided_short-requires-clause-dividend c =
    let short = (c.are_short.ensures.0 c.if-are_short.true).0 in
    let N : ℤ → Type 0 = λ z. unsigned_abs z ≤ short_limit in
    subst N (to_z-of_z w128 c.args.a c.ranges.a ∙ sym (word_back c.args.a c.ranges.a short)) short

pub returns-then-are_short-clause-parts : goal.returns-then-are_short-clause-parts
returns-then-are_short-clause-parts c =
    let both = c.are_short.ensures.0 c.if-are_short.true in
    let P : ℤ → ℤ → Type 0 = λ y z. AreParts y z c.divided_short.result.quotient c.divided_short.result.rest in
    subst (λ (y : ℤ). P y c.args.b) (word_back c.args.a c.ranges.a both.0)
    (subst (P (to_z w64 (of_z w64 (to_z w128 (of_z w128 c.args.a))))) (word_back c.args.b c.ranges.b both.1) c.divided_short.ensures.parts)
