use Rattle.std.proofs.Common.{◌∙◌, None, Some, ap, option_map}
use Rattle.clap.specs.Matches.{found_of}
use Rattle.fzn_check.specs.Words.{names_meant}
use Rattle.fzn_check.proofs.WordLaws.{names_are, no_model}
use Rattle.fzn_check.proofs.words.names_in.Goals as goal

pub returns-in_err-model : goal.returns-in_err-model
returns-in_err-model c = ap (option_map names_meant) c.from_residual.ensures ∙ no_model (found_of c.args.matches.now) c.in_err-model.ensures

pub returns-in_err-solutions : goal.returns-in_err-solutions
returns-in_err-solutions c =
    ap (option_map names_meant) c.from_residual-in_err-solutions.ensures
    ∙ names_are (found_of c.args.matches.now) (Some c.in_ok-model.model.now) None c.in_ok-model.ensures c.in_err-solutions.ensures

pub returns : goal.returns
returns c =
    names_are (found_of c.args.matches.now) (Some c.in_ok-model.model.now) (Some c.in_ok-solutions.solutions.now) c.in_ok-model.ensures c.in_ok-solutions.ensures
