use Rattle.std.proofs.Common.{Some, subst}
use Rattle.std.proofs.lemmas.Result.{IfOk-weaker}
use Rattle.command_line.specs.CommandLine.{input_meant}
use Rattle.solver_top.specs.Outcome.{CanOpen}
use Rattle.solver_top.proofs.OutcomeLaws.{can_open, made_held}
use Rattle.solver_top.proofs.solving.text_of_input.Goals as goal

pub text_of_file-requires : goal.text_of_file-requires
text_of_file-requires g c =
    can_open (g.S.Source.names c.args.files.now) c.args.config.now.options c.in-File.name.now
    (subst (λ i. CanOpen (g.S.Source.names c.args.files.now) (Some (c.args.config.now.options, input_meant i))) c.in-File.is c.requires.open)

pub returns-in-Made-clause-ok : goal.returns-in-Made-clause-ok
returns-in-Made-clause-ok g c =
    IfOk-weaker c.text_of_made.result _ _ (λ text same. made_held (g.S.Source.held c.args.files.now) c.args.config.now.input c.in-Made.n text.items c.in-Made.is same) c.text_of_made.ensures.ok
