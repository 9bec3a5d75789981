use Rattle.std.proofs.Common.{not, length, sym, ap, arith}
use Rattle.std.proofs.lemmas.List.Sums.{position_or_len_is}
use Rattle.fzn_print.specs.Lines.{is_number_byte}
use Rattle.fzn_print.proofs.numbers.number_len.Goals as goal

pub returns-clause-value : goal.returns-clause-value
returns-clause-value c =
    let rest = c.args.rest.now in
    let over = c.loop-len-test.false in
    sym (position_or_len_is (λ b. not (is_number_byte b)) rest (length rest) 0 (omega arith) (λ k lt. ap not (c.loop-len.invariant k (omega arith))) (λ lt. absurd (omega arith)))
