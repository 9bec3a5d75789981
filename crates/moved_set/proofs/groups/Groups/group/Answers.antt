use Rattle.std.proofs.Common.{◌<◌, ◌≤◌, ◌+◌, ◌-◌, ℕ, List, [], length, get_or, subst, sym, ap, ◌∙◌, arith}
use Rattle.std.specs.List.{slice_range}
use Rattle.moved_set.specs.Flat.{IsFlat}
use Rattle.moved_set.specs.declared.mask.Mask.{Mask}
use Rattle.moved_set.proofs.FlatLaws.{length-groups_of, rise_one, group_at}
use Rattle.moved_set.proofs.groups.Groups.group.Goals as goal

pub between-requires-clause-flat : goal.between-requires-clause-flat
between-requires-clause-flat c =
    let one : IsFlat c.as_slice.result.now c.self.inside.masks.items = subst (λ (s : List ℕ). IsFlat s c.self.inside.masks.items) (sym c.as_slice.ensures.value) c.self.invariant in
    subst (λ (ms : List Mask). IsFlat c.as_slice.result.now ms) (sym c.as_slice-2.ensures.value) one

pub between-requires-clause-rising : goal.between-requires-clause-rising
between-requires-clause-rising c =
    let inside : c.args.i + 1 < length c.self.inside.starts.items = omega (arith, length-groups_of c.self.inside.starts.items c.self.inside.masks.items, ap length c.self.view_is) in
    subst (λ (s : List ℕ). get_or s c.args.i 0 ≤ get_or s (c.args.i + 1) 0) (sym c.as_slice.ensures.value) (rise_one c.self.inside.starts.items c.self.inside.masks.items c.args.i c.self.invariant inside)

pub between-requires-clause-place : goal.between-requires-clause-place
between-requires-clause-place c = omega (arith, ap length c.as_slice.ensures.value, length-groups_of c.self.inside.starts.items c.self.inside.masks.items, ap length c.self.view_is)

pub returns : goal.returns
returns c =
    let inside : c.args.i < length c.self.inside.starts.items - 1 = omega (arith, length-groups_of c.self.inside.starts.items c.self.inside.masks.items, ap length c.self.view_is) in
    c.between.ensures
    ∙ ap (λ (s : List ℕ). slice_range c.as_slice-2.result.now (get_or s c.args.i 0) (get_or s (c.args.i + 1) 0)) c.as_slice.ensures.value
    ∙ ap (λ (ms : List Mask). slice_range ms (get_or c.self.inside.starts.items c.args.i 0) (get_or c.self.inside.starts.items (c.args.i + 1) 0)) c.as_slice-2.ensures.value
    ∙ sym (group_at c.self.inside.starts.items c.self.inside.masks.items c.args.i inside)
    ∙ ap (λ (gs : List (List Mask)). get_or gs c.args.i []) c.self.view_is
