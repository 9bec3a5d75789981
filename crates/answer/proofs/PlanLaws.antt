-- Parts of a set up run make a plan.
use Rattle.std.proofs.Common.{◌≡◌, List, sym, subst}
use Rattle.interval.specs.Boxes.{IsInside}
use Rattle.tree_cover.specs.declared.part.Part.{Part}
use Rattle.answer.specs.declared.options.Options.{Options}
use Rattle.answer.specs.declared.plan.Plan.{Plan}
use Rattle.answer.specs.Parts.{ArePartsFor}
use Rattle.answer.specs.Plans.{IsPlan}
use Rattle.answer.specs.Given.{IsSetUp}

pub parts_in : (options : Options) (slice parts : List Part) → slice ≡ parts → ArePartsFor options parts → ArePartsFor options slice
parts_in options slice parts e h = subst (ArePartsFor options) (sym e) h

pub is_plan : {L : Type 0} (plan : Plan L) → IsSetUp plan.run.now plan.options → ArePartsFor plan.options plan.parts.now → IsInside plan.start.now plan.run.now.program.now.start → IsPlan plan
is_plan plan is serve inside = record {
  run = is.is_run;
  lanes = is.lanes;
  node_limit = is.node_limit;
  round_limit = is.round_limit;
  parts = serve.are.each;
  few = serve.few;
  inside = inside;
}
