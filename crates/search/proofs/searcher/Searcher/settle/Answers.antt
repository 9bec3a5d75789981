use Rattle.std.proofs.Common.{[], ◌∷◌, ◌++◌, ap, sym, subst, refl, inl, inr, ◌∙◌}
use Rattle.interval.specs.Boxes.{Bounds, IsProper}
use Rattle.branching.specs.Parts.{IsBranch, AreParts}
use Rattle.branching.specs.Fronts.{IsFrontOf, FitsBox, right_by, left_by}
use Rattle.branching.specs.Tree.{AreFixed, values_of}
use Rattle.search.proofs.SearcherLaws.{front_here}
use Rattle.search.proofs.searcher.Searcher.settle.Goals as goal

pub branch_from-requires-clause-front : goal.branch_from-requires-clause-front
branch_from-requires-clause-front g c =
    subst (λ (b : Bounds). IsFrontOf c.args.run.now.model.now b c.args.self.now.front) (sym c.current.ensures)
    (front_here c.law_fronts.ensures c.args.run.now.model.now c.args.self.now.boxes.current c.args.self.now.front c.requires.closed.proper c.requires.front)

pub branch_from-requires-clause-proper : goal.branch_from-requires-clause-proper
branch_from-requires-clause-proper g c = subst IsProper (sym c.current.ensures) c.requires.closed.proper

pub returns-in_ok-back-in-None-clause-settled : goal.returns-in_ok-back-in-None-clause-settled
returns-in_ok-back-in-None-clause-settled g c = inl (
  subst (AreFixed c.args.run.now.model.now) c.current.ensures c.in-None.ensures.none,
  (
    c.in_ok-back-in-None.ensures.boxes,
    c.in_ok-record-in-None.ensures ∙ ap (λ (b : Bounds). c.args.found.now ++ values_of c.args.run.now.model.now b ∷ []) c.current-in-None.ensures,
  ),
)

pub part-requires-clause-fits : goal.part-requires-clause-fits
part-requires-clause-fits g c = subst (λ (b : Bounds). FitsBox b c.in-Some.parts) c.current.ensures c.in-Some.ensures.fits

pub part-requires-clause-front : goal.part-requires-clause-front
part-requires-clause-front g c = subst (λ (b : Bounds). IsFrontOf c.args.run.now.model.now b c.in-Some.front) c.current.ensures c.in-Some.ensures.front

pub part-requires-clause-parts : goal.part-requires-clause-parts
part-requires-clause-parts g c = subst (λ (b : Bounds). AreParts b (left_by b c.in-Some.parts) (right_by b c.in-Some.parts)) c.current.ensures c.in-Some.ensures.parts

pub returns-in_ok-part-in-Some-clause-settled : goal.returns-in_ok-part-in-Some-clause-settled
returns-in_ok-part-in-Some-clause-settled g c = inr (
  record {
    left = left_by c.args.self.now.boxes.current c.in-Some.parts;
    right = right_by c.args.self.now.boxes.current c.in-Some.parts;
    branch = subst (λ (b : Bounds). IsBranch c.args.run.now.model.now b (left_by b c.in-Some.parts) (right_by b c.in-Some.parts)) c.current.ensures c.in-Some.ensures.branch;
    stack = c.in_ok-part-in-Some.ensures.boxes;
  },
  refl,
)
