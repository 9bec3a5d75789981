use Rattle.std.proofs.Common.{rules, ◌≡◌, sym, subst}
use Rattle.interval.specs.Boxes.{Bounds, put_of}
use Rattle.narrowing.specs.Narrowers.{AreQuietUnlessNoted, Knows}
use Rattle.search.proofs.searcher.put.Goals as goal

pub returns-clause-quiet : goal.returns-clause-quiet
returns-clause-quiet c = λ kernels runs quiet.
    subst (λ (b : Bounds). AreQuietUnlessNoted c.note.new.self kernels b) (sym c.in_ok-put.ensures.current)
    (c.note.ensures.quiet kernels c.args.boxes.now.current _ _ runs quiet)

pub returns-clause-knows : goal.returns-clause-knows
returns-clause-knows c = λ kernels inside le knows.
    let current : c.put.new.self.current ≡ put_of c.args.boxes.now.current c.args.part.var c.args.part.low c.args.part.high = search rules in
    subst (λ (b : Bounds). Knows c.note.new.self kernels b) (sym current)
    (c.note.ensures.knows kernels c.args.boxes.now.current c.args.part.low c.args.part.high inside le knows)
