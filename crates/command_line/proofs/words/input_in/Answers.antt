use Rattle.std.proofs.Common.{◌∙◌, sym, ap, option_map, codes}
use Rattle.clap.specs.Matches.{found_of}
use Rattle.clap.proofs.WalkLemmas.{first_value-rows}
use Rattle.command_line.specs.CommandLine.{file, input_meant, made}
use Rattle.command_line.proofs.WordLaws.{input_by_make}
use Rattle.command_line.proofs.words.input_in.Goals as goal

pub returns-in_err-number-clause-is : goal.returns-in_err-number-clause-is
returns-in_err-number-clause-is c =
    ap (option_map input_meant) c.from_residual.ensures ∙ ap (option_map made) c.in_err-number.ensures.is
    ∙ sym (input_by_make (found_of c.args.matches.now) c.get_str.result _ c.get_str.ensures (sym c.is_some.ensures ∙ c.if-is_some.true))

pub returns-in_err-name-clause-is : goal.returns-in_err-name-clause-is
returns-in_err-name-clause-is c =
    ap (option_map input_meant) c.from_residual-in_err-name.ensures
    ∙ ap (option_map file) (c.in_err-name.ensures ∙ first_value-rows (found_of c.args.matches.now) (codes "FILE"))
    ∙ sym (input_by_make (found_of c.args.matches.now) c.get_str.result _ c.get_str.ensures (sym c.is_some.ensures ∙ c.if-is_some.false))

pub returns-in_ok-name-clause-is : goal.returns-in_ok-name-clause-is
returns-in_ok-name-clause-is c =
    ap (option_map file) (c.in_ok-name.ensures ∙ first_value-rows (found_of c.args.matches.now) (codes "FILE"))
    ∙ sym (input_by_make (found_of c.args.matches.now) c.get_str.result _ c.get_str.ensures (sym c.is_some.ensures ∙ c.if-is_some.false))
