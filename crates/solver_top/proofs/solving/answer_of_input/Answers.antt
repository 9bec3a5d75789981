use Rattle.std.proofs.Common.{refl}
use Rattle.std.proofs.lemmas.Result.{IfOk-weaker}
use Rattle.command_line.specs.CommandLine.{input_meant}
use Rattle.solver_top.proofs.OutcomeLaws.{answer_of_held, input_cause_of_result}
use Rattle.solver_top.proofs.solving.answer_of_input.Goals as goal

pub returns-clause-ok : goal.returns-clause-ok
returns-clause-ok g c =
    IfOk-weaker c.written_of_text.result _ _
    (λ bytes written. answer_of_held (g.S.Source.held c.args.files.now) c.args.config.now.options (input_meant c.args.config.now.input) c.in_ok-text.text.items _ bytes.items c.in_ok-text.ensures.ok
    refl written)
    c.written_of_text.ensures.ok

pub returns-clause-cause : goal.returns-clause-cause
returns-clause-cause g c =
    input_cause_of_result (g.S.Source.held c.args.files.now) (input_meant c.args.config.now.input) _ _ _ c.written_of_text.result c.in_ok-text.ensures.ok c.written_of_text.ensures.cause
