use Rattle.std.proofs.Common.{sym, ◌∙◌}
use Rattle.fzn_parser.proofs.Whole.{item_predicate}
use Rattle.fzn_parser.proofs.read_predicate.Goals as goal

pub returns-in-Some-clause-read : goal.returns-in-Some-clause-read
returns-in-Some-clause-read c =
    item_predicate c.args.text.now c.args.first c.args.more.now _ c.requires (sym c.in-Some.is ∙ c.in_ok-kept.ensures)

pub returns-in-None-clause-refused : goal.returns-in-None-clause-refused
returns-in-None-clause-refused c refused =
    item_predicate c.args.text.now c.args.first c.args.more.now _ c.requires (sym c.in-None.is ∙ c.in_ok-kept.ensures)
