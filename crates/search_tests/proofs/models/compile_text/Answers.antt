use Rattle.std.proofs.Common.{List, subst, ◌∙◌}
use Rattle.guarded_tell.specs.declared.kernel.Kernel.{Kernel}
use Rattle.kernel_visits.specs.Shapes.{AreShapesOf}
use Rattle.moved_set.specs.Sets.{IsNaming}
use Rattle.search_tests.proofs.models.compile_text.Goals as goal

pub returns : goal.returns
returns c = record {
  well_formed = c.in_ok-model.ensures;
  is_program = c.in_ok-program.ensures;
  are_masks = record {
    naming = subst (λ (ks : List Kernel). IsNaming ks c.in_ok-masks.masks) c.as_slice.ensures c.in_ok-masks.ensures.naming;
    same_count = c.in_ok-masks.ensures.count ∙ c.len.ensures.value;
    shapes = subst (λ (ks : List Kernel). AreShapesOf ks c.in_ok-masks.masks.shapes) c.as_slice.ensures c.in_ok-masks.ensures.shapes;
  };
}
