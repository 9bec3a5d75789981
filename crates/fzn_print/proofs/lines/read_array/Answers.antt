use Rattle.std.proofs.Common.{◌∙◌}
use Rattle.fzn_print.proofs.LineLaws.{array_from}
use Rattle.fzn_print.proofs.lines.read_array.Goals as goal

pub returns : goal.returns
returns c =
    array_from c.args.is_bool c.args.ranges.now c.args.entries.now c.args.rest.now c.deref.result.now c.behind-rest.result.now c.read_entries-rest.result.now c.behind.result.now c.args.values.now c.read_entries-rest.new.values
    (c.deref.ensures.value ∙ c.in_ok-head.ensures) c.behind-rest.ensures c.read_entries-rest.ensures c.behind.ensures
