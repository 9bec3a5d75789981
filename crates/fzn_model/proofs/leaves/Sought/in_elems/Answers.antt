use Rattle.std.proofs.Common.{rules, tests, sym, ◌∙◌}
use Rattle.std.proofs.lemmas.Iterator.{YieldsList-from_slice}
use Rattle.std.proofs.lemmas.Iterator.Search.{any_from_yields_List}
use Rattle.fzn_model.specs.Leaves.{elem_leaves}
use Rattle.fzn_model.specs.Drafts.{has_kind}
use Rattle.fzn_model.proofs.LeafLaws.{any_flat_map}
use Rattle.fzn_model.proofs.leaves.Sought.in_elems.Goals as goal

pub returns : goal.returns
returns c =
    let s = c.args.self.now in
    any_from_yields_List _ _ _ _ c.any.ensures.ran (YieldsList-from_slice c.args.elems.now cc) (λ x b q k. search (rules, tests))
    ∙ sym (any_flat_map (has_kind s.text.now s.scope.now s.kind) elem_leaves c.args.elems.now)
