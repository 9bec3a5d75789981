use Rattle.std.proofs.Common.{◌≤◌, ◌<◌, List, length, All, subst, arith}
use Rattle.std.proofs.lemmas.List.{take_all}
use Rattle.std.proofs.lemmas.List.Elements.{All-more}
use Rattle.tree_cover.specs.declared.part.Part.{Part}
use Rattle.tree_cover.specs.Covers.{IsPart}
use Rattle.tree_cutter.proofs.plan.are_parts.Goals as goal

pub loop-part-preserved : goal.loop-part-preserved
loop-part-preserved c =
    let inside : c.loop-part.part-index < length c.args.parts.now = (let test = c.loop-part-test.true in omega arith) in (
      All-more IsPart c.args.parts.now c.loop-part.part-index _ inside c.loop-part.invariant.0 c.if-not-is_part.ensures.part,
      All-more (λ (part : Part). part.depth ≤ c.args.deepest) c.args.parts.now c.loop-part.part-index _ inside c.loop-part.invariant.1 c.if-not-is_part.ensures.deep,
    )

pub returns-clause-parts : goal.returns-clause-parts
returns-clause-parts c =
    let past : length c.args.parts.now ≤ c.loop-part.part-index = (let test = c.loop-part-test.false in omega arith) in
    subst (λ (parts : List Part). All IsPart parts) (take_all c.loop-part.part-index c.args.parts.now past) c.loop-part.invariant.0

pub returns-clause-deep : goal.returns-clause-deep
returns-clause-deep c =
    let past : length c.args.parts.now ≤ c.loop-part.part-index = (let test = c.loop-part-test.false in omega arith) in
    subst (λ (parts : List Part). All (λ (part : Part). part.depth ≤ c.args.deepest) parts) (take_all c.loop-part.part-index c.args.parts.now past) c.loop-part.invariant.1
