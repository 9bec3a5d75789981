use Rattle.std.proofs.Common.{length}
use Rattle.rounds.proofs.Dealing.{dealt_even, even_is_cut}
use Rattle.rounds.proofs.cuts.even_cut.Goals as goal

pub returns-clause-even : goal.returns-clause-even
returns-clause-even c = dealt_even (length c.args.kernels.now) c.args.lanes c.in_ok-deal_all.field-0.items c.in_ok-deal_all.ensures

pub returns-clause-cut : goal.returns-clause-cut
returns-clause-cut c =
    even_is_cut (length c.args.kernels.now) c.args.lanes c.in_ok-deal_all.field-0.items c.requires.some c.requires.short
    (dealt_even (length c.args.kernels.now) c.args.lanes c.in_ok-deal_all.field-0.items c.in_ok-deal_all.ensures)
