use Rattle.std.proofs.Common.{◌∙◌, sym, refl, arith, inl, inr}
use Rattle.std.specs.Str.Parse.{ExplainsUnsignedError, HasUnsignedDigitsIfOk, ParsesUnsigned}
use Rattle.clap.specs.Matches.{found_of}
use Rattle.best_words.proofs.WordLaws.{number_is_in, number_is_none, number_is_out}
use Rattle.best_words.proofs.words.number_within.Goals.{else-low-number-via-then-low-number+else-number-high, else-low-number-via-else-low-number}
use Rattle.best_words.proofs.words.number_within.Goals as goal

pub returns-in_err-number-clause-is : goal.returns-in_err-number-clause-is
returns-in_err-number-clause-is c =
    c.from_residual.ensures ∙ sym (number_is_none (λ t r. ParsesUnsigned 64 10 t r × ExplainsUnsignedError 10 t r × HasUnsignedDigitsIfOk t r) (λ t x g. g.0)
    (found_of c.args.matches.now) c.args.id.now c.args.low c.args.high _ refl c.in_err-number.ensures.value)

pub returns-then-number-high-clause-is : goal.returns-then-number-high-clause-is
returns-then-number-high-clause-is c =
    sym (number_is_in (λ t r. ParsesUnsigned 64 10 t r × ExplainsUnsignedError 10 t r × HasUnsignedDigitsIfOk t r) (λ t x g. g.0)
    (found_of c.args.matches.now) c.args.id.now c.args.low c.args.high c.in_ok-number.number _ refl c.in_ok-number.ensures.none c.in_ok-number.ensures.value
    c.if-low-number.true c.if-number-high.true)

pub returns-else-low-number-clause-is : goal.returns-else-low-number-clause-is
returns-else-low-number-clause-is c =
    sym (number_is_out (λ t r. ParsesUnsigned 64 10 t r × ExplainsUnsignedError 10 t r × HasUnsignedDigitsIfOk t r) (λ t x g. g.0)
    (found_of c.args.matches.now) c.args.id.now c.args.low c.args.high c.in_ok-number.number _ refl c.in_ok-number.ensures.none c.in_ok-number.ensures.value
    (λ least most. elim c.else-low-number.either [ inl h ↦ let over = h.1 in absurd (omega arith) | inr h ↦ absurd (omega arith) ]))
