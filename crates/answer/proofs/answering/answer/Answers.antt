use Rattle.std.proofs.Common.{List, refl, subst, ◌∙◌}
use Rattle.guarded_tell.specs.declared.kernel.Kernel.{Kernel}
use Rattle.kernel_visits.specs.Shapes.{AreShapesOf}
use Rattle.moved_set.specs.Sets.{IsNaming}
use Rattle.answer.proofs.answering.answer.Goals as goal

pub answer_of-requires-clause-set_up : goal.answer_of-requires-clause-set_up
answer_of-requires-clause-set_up g c = λ lifetimes outlive. record {
  is_run = record {
    model = c.requires.model;
    program = c.in_ok-program.ensures;
    masks = record {
      naming = subst (λ (ks : List Kernel). IsNaming ks c.in_ok-masks.masks) c.as_slice.ensures c.in_ok-masks.ensures.naming;
      same_count = c.in_ok-masks.ensures.count ∙ c.len.ensures.value;
      shapes = subst (λ (ks : List Kernel). AreShapesOf ks c.in_ok-masks.masks.shapes) c.as_slice.ensures c.in_ok-masks.ensures.shapes;
    };
    some_lanes = c.requires.some_lanes;
    most_lanes = c.requires.most_lanes;
  };
  lanes = refl;
  node_limit = refl;
  round_limit = refl;
  depth = c.requires.depth;
  some_parts = c.requires.some_parts;
  few_parts = c.requires.few_parts;
}
