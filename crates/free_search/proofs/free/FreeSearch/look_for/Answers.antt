use Rattle.std.proofs.Common.{ℤ, List, sym, ◌∙◌}
use Rattle.solution_lists.specs.Solutions.{SolvesInside}
use Rattle.nogoods.specs.Nogoods.{HasNone}
use Rattle.free_search.proofs.KeyLaws.{solves_wider}
use Rattle.free_search.proofs.HoldLaws.{none_in_part, found_wider, refuted_so}
use Rattle.free_search.proofs.free.FreeSearch.look_for.Goals as goal

pub meet-requires : goal.meet-requires
meet-requires g c = c.requires.free.space.inside.same_length ∙ sym c.requires.inside.same_length

pub returns-clause-free : goal.returns-clause-free
returns-clause-free g c = record { space = c.requires.free.space; serves = c.in_ok-end.ensures.serves }

pub returns-clause-found : goal.returns-clause-found
returns-clause-found g c =
    let model = c.args.run.now.model.now in
    found_wider c.in_ok-end.end (SolvesInside model c.in_ok-met.met) (SolvesInside model c.args.sub.now)
    (λ (a : List ℤ). solves_wider c.law_inside_order.ensures model c.in_ok-met.met c.args.sub.now a c.in_ok-met.ensures.in_second)
    c.in_ok-end.ensures.found

pub returns-clause-refuted : goal.returns-clause-refuted
returns-clause-refuted g c =
    let run = c.args.run.now in
    refuted_so c.in_ok-end.end (HasNone run.program.now.kernels c.args.self.now.space c.in_ok-met.met) ((a : List ℤ) → SolvesInside run.model.now c.args.sub.now a → ⊥)
    (none_in_part c.law_inside_order.ensures c.law_none_solves.ensures run.model.now run.program.now c.args.self.now.space c.args.sub.now c.in_ok-met.met
    c.requires.run.program c.requires.free.space c.requires.inside c.in_ok-met.ensures)
    c.in_ok-end.ensures.refuted
