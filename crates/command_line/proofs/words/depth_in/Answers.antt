use Rattle.std.proofs.Common.{◌∙◌, ℕ, Some, sym, ap, option_map}
use Rattle.clap.specs.Matches.{found_of}
use Rattle.command_line.proofs.WordLaws.{depth_by_given}
use Rattle.command_line.proofs.words.depth_in.Goals as goal

pub returns-in_err-number-clause-is : goal.returns-in_err-number-clause-is
returns-in_err-number-clause-is c =
    c.from_residual.ensures ∙ ap (option_map (λ (d : ℕ). Some d)) c.in_err-number.ensures.is
    ∙ sym (depth_by_given (found_of c.args.matches.now) c.get_str.result _ c.get_str.ensures (sym c.is_some.ensures ∙ c.if-is_some.true))

pub returns-else-is_some-clause-is : goal.returns-else-is_some-clause-is
returns-else-is_some-clause-is c =
    sym (depth_by_given (found_of c.args.matches.now) c.get_str.result _ c.get_str.ensures (sym c.is_some.ensures ∙ c.if-is_some.false))
