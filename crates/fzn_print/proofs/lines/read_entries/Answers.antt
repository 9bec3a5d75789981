use Rattle.fzn_print.proofs.LineLaws.{entries_from}
use Rattle.fzn_print.proofs.lines.read_entries.Goals as goal

pub returns-in-Some : goal.returns-in-Some
returns-in-Some c =
    let some = c.in-Some in
    entries_from c.args.is_bool some.first.now some.others.now c.args.terms.now c.args.rest.now c.read_term-rest.result.now c.read_others.result.now c.args.values.now c.read_term-rest.new.values c.read_others.new.values
    some.ensures.cases.0 c.read_term-rest.ensures c.read_others.ensures
