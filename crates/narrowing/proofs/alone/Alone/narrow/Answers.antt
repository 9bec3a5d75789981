use Rattle.narrowing.proofs.AloneEnds.{alone_fixed, alone_failed, alone_given_up, sweeps_fixed, sweeps_failed, sweeps_given_up}
use Rattle.narrowing.proofs.alone.Alone.narrow.Goals as goal

pub returns-in-Fixed-clause-narrowed : goal.returns-in-Fixed-clause-narrowed
returns-in-Fixed-clause-narrowed g c =
    alone_fixed c.args.what.now.kernels.now c.args.what.now.round_limit c.args.b.now.current c.settle_proper.new.b.current c.in_ok-rounds.field-0 c.in_ok-rounds.ensures.ends
    c.in-Fixed.rounds c.in-Fixed.is

pub returns-in-Failed-clause-narrowed : goal.returns-in-Failed-clause-narrowed
returns-in-Failed-clause-narrowed g c =
    alone_failed c.args.what.now.kernels.now c.args.what.now.round_limit c.args.b.now.current c.settle_proper.new.b.current c.in_ok-rounds.field-0 c.in_ok-rounds.ensures.ends
    c.in-Failed.rounds c.in-Failed.is

pub returns-in-RoundsSpent-clause-narrowed : goal.returns-in-RoundsSpent-clause-narrowed
returns-in-RoundsSpent-clause-narrowed g c =
    alone_given_up c.args.what.now.kernels.now c.args.what.now.round_limit c.args.b.now.current c.settle_proper.new.b.current c.in_ok-rounds.field-0 c.in_ok-rounds.ensures.ends
    c.in-RoundsSpent.rounds c.in-RoundsSpent.is

pub returns-in-Fixed-clause-alone : goal.returns-in-Fixed-clause-alone
returns-in-Fixed-clause-alone g c =
    sweeps_fixed c.args.what.now.kernels.now c.args.what.now.round_limit c.args.b.now.current c.settle_proper.new.b.current c.in_ok-rounds.field-0 c.in_ok-rounds.ensures.ends
    c.in-Fixed.rounds c.law_sweeps_decide.ensures c.in-Fixed.is

pub returns-in-Failed-clause-alone : goal.returns-in-Failed-clause-alone
returns-in-Failed-clause-alone g c =
    sweeps_failed c.args.what.now.kernels.now c.args.what.now.round_limit c.args.b.now.current c.settle_proper.new.b.current c.in_ok-rounds.field-0 c.in_ok-rounds.ensures.ends
    c.in-Failed.rounds c.law_sweeps_decide.ensures c.requires.proper c.in-Failed.is

pub returns-in-RoundsSpent-clause-alone : goal.returns-in-RoundsSpent-clause-alone
returns-in-RoundsSpent-clause-alone g c =
    sweeps_given_up c.args.what.now.kernels.now c.args.what.now.round_limit c.args.b.now.current c.settle_proper.new.b.current c.in_ok-rounds.field-0 c.in_ok-rounds.ensures.ends
    c.in-RoundsSpent.rounds c.in-RoundsSpent.is
