use Rattle.std.proofs.Common.{sym, ◌∙◌}
use Rattle.fzn_model.specs.Leaves.{elem_leaves}
use Rattle.fzn_model.specs.Drafts.{has_kind}
use Rattle.fzn_model.proofs.LeafLaws.{any_flat_map}
use Rattle.fzn_model.proofs.leaves.Sought.in_entries.Goals as goal

pub returns-then-sure : goal.returns-then-sure
returns-then-sure c =
    let s = c.args.self.now in
    sym (any_flat_map (has_kind s.text.now s.scope.now s.kind) elem_leaves c.args.entries.now ∙ c.requires c.if-sure.true)
