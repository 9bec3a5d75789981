use Rattle.std.proofs.Common.{◌-◌, ℕ, length, sym, ap, ◌∙◌}
use Rattle.moved_set.proofs.FlatLaws.{length-groups_of}
use Rattle.moved_set.proofs.groups.Groups.len.Goals as goal

pub returns : goal.returns
returns c =
    ap (λ (n : ℕ). n - 1) (ap length c.as_slice.ensures.value) ∙ sym (length-groups_of c.self.inside.starts.items c.self.inside.masks.items) ∙ ap length c.self.view_is
