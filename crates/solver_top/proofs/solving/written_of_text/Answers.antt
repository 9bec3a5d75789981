use Rattle.std.proofs.lemmas.Result.{IfOk-weaker}
use Rattle.command_line.specs.CommandLine.{input_meant}
use Rattle.solver_top.proofs.OutcomeLaws.{domains_written, file_found, found_written, made_found}
use Rattle.solver_top.proofs.solving.written_of_text.Goals as goal

pub returns-then-config-clause-ok : goal.returns-then-config-clause-ok
returns-then-config-clause-ok g c =
    IfOk-weaker c.domains_of_text.result _ _
    (λ bytes left. domains_written c.args.config.now.options (input_meant c.args.config.now.input) c.args.text.items bytes.items c.if-config.true left) c.domains_of_text.ensures.ok

pub returns-in-File-clause-ok : goal.returns-in-File-clause-ok
returns-in-File-clause-ok g c =
    IfOk-weaker c.answer_of_text.result _ _
    (λ bytes answer. found_written c.args.config.now.options (input_meant c.args.config.now.input) c.args.text.items bytes.items c.if-config.false
    (file_found c.args.config.now.options c.args.config.now.input _ c.args.text.items bytes.items c.in-File.is answer))
    c.answer_of_text.ensures.ok

pub returns-in-Made-clause-ok : goal.returns-in-Made-clause-ok
returns-in-Made-clause-ok g c =
    IfOk-weaker c.line_of_text.result _ _
    (λ bytes line. found_written c.args.config.now.options (input_meant c.args.config.now.input) c.args.text.items bytes.items c.if-config.false
    (made_found c.args.config.now.options c.args.config.now.input c.in-Made.n c.args.text.items bytes.items c.in-Made.is line))
    c.line_of_text.ensures.ok
