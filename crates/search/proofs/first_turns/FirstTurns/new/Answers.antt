use Rattle.std.proofs.Common.{sym, subst, ◌∙◌}
use Rattle.interval.specs.Boxes.{Bounds, IsInside, IsInRange}
use Rattle.search.proofs.TurnLaws.{first_begun}
use Rattle.search.proofs.first_turns.FirstTurns.new.Goals as goal

pub returns-clause-turns : goal.returns-clause-turns
returns-clause-turns g c =
    first_begun c.args.run.now c.in_ok-searcher.searcher c.in_ok-asked.asked _ c.requires.node_limit c.requires.round_limit
    (subst (λ (b : Bounds). IsInside b c.args.run.now.program.now.start) (sym c.in_ok-asked.ensures) c.requires.inside)
    (subst IsInRange (sym c.in_ok-asked.ensures) c.len-length.ensures.in_range)
    (c.in_ok-searcher.ensures.current ∙ c.in_ok-alone.ensures ∙ sym c.in_ok-asked.ensures)
    c.in_ok-searcher.ensures.boxes c.in_ok-searcher.ensures.ready
