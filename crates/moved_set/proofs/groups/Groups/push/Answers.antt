use Rattle.std.proofs.Common.{◌≡◌, ℕ, List, ◌++◌, ◌∷◌, [], length, ap, ◌∙◌, arith}
use Rattle.std.proofs.lemmas.Grind.{common_steps}
use Rattle.moved_set.specs.Flat.{groups_of}
use Rattle.moved_set.specs.declared.mask.Mask.{Mask}
use Rattle.moved_set.proofs.FlatLaws.{flat_push}
use Rattle.moved_set.proofs.groups.Groups.push.Goals as goal

pub returns : goal.returns
returns c =
    let masks : c.extend_from_slice.new.self.items ≡ c.self.inside.masks.items ++ c.args.group.now = c.in_ok-extend_from_slice.ensures.items in
    let end : length c.as_slice-end.result.now ≡ length (c.self.inside.masks.items ++ c.args.group.now) = ap length (c.as_slice-end.ensures.value ∙ masks) in
    let pushed : c.push.new.self.items ≡ c.self.inside.starts.items ++ length c.as_slice-end.result.now ∷ [] = grind (arith, common_steps) in
    let starts : c.push.new.self.items ≡ c.self.inside.starts.items ++ length (c.self.inside.masks.items ++ c.args.group.now) ∷ [] = pushed ∙ ap (λ (n : ℕ). c.self.inside.starts.items ++ n ∷ []) end in
    ap (λ (s : List ℕ). groups_of s c.extend_from_slice.new.self.items) starts
    ∙ ap (groups_of (c.self.inside.starts.items ++ length (c.self.inside.masks.items ++ c.args.group.now) ∷ [])) masks
    ∙ flat_push c.self.inside.starts.items c.self.inside.masks.items c.args.group.now c.self.invariant
    ∙ ap (λ (gs : List (List Mask)). gs ++ c.args.group.now ∷ []) c.self.view_is
