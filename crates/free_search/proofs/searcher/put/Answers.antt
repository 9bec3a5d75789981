use Rattle.std.proofs.Common.{sym, subst}
use Rattle.interval.specs.Boxes.{Bounds}
use Rattle.narrowing.specs.Narrowers.{AreQuietUnlessNoted, Knows}
use Rattle.free_search.proofs.searcher.put.Goals as goal

pub returns-clause-quiet : goal.returns-clause-quiet
returns-clause-quiet c = λ kernels runs quiet.
    subst (λ (b : Bounds). AreQuietUnlessNoted c.note.new.self kernels b) (sym c.in_ok-put_by.ensures.current)
    (c.note.ensures.quiet kernels c.args.boxes.now.current _ _ runs quiet)

pub returns-clause-knows : goal.returns-clause-knows
returns-clause-knows c = λ kernels inside le knows.
    subst (λ (b : Bounds). Knows c.note.new.self kernels b) (sym c.in_ok-put_by.ensures.current)
    (c.note.ensures.knows kernels c.args.boxes.now.current c.args.part.low c.args.part.high inside le knows)
