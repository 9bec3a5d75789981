use Rattle.std.proofs.Common.{◌≡◌, ◌+◌, ◌*◌, ◌<◌, ℕ, List, [], ◌∷◌, ◌++◌, length, subst, sym, ap, ◌∙◌, arith}
use Rattle.std.specs.Prelude.{All}
use Rattle.std.proofs.lemmas.List.Elements.{All-push}
use Rattle.moved_set.specs.declared.mask.Mask.{Mask}
use Rattle.moved_set.specs.Building.{AreWithin, AreGroupsOf}
use Rattle.moved_set.specs.Rows.{row_at}
use Rattle.moved_set.proofs.GroupLaws.{masks_push}
use Rattle.moved_set.proofs.build.masks_of.Goals as goal

pub add_all-requires : goal.add_all-requires
add_all-requires c =
    let i : ℕ = c.loop-i.i in
    let words : length c.loop-i.last ≡ c.args.words = c.loop-i.auto.last ∙ c.as_mut_slice-last.ensures.len ∙ c.in_ok-places.ensures.len in
    let below : All (λ j. j < 32 * c.args.words) c.row.result.now = subst (All (λ j. j < 32 * c.args.words)) (sym c.row.ensures) (c.requires i (omega arith)) in
    subst (λ (n : ℕ). All (λ j. j < 32 * n) c.row.result.now) (sym words) below

pub loop-i-preserved : goal.loop-i-preserved
loop-i-preserved c =
    let i : ℕ = c.loop-i.i in
    let group : List Mask = c.add_all.new.group.items in
    let new : c.push.new.self ≡ c.loop-i.groups ++ group ∷ [] = c.in_ok-push.ensures ∙ ap (λ (g : List Mask). c.loop-i.groups ++ g ∷ []) c.as_slice-made.ensures.value in
    let words : length c.loop-i.last ≡ c.args.words = c.loop-i.auto.last ∙ c.as_mut_slice-last.ensures.len ∙ c.in_ok-places.ensures.len in
    let within : AreWithin c.args.words group = subst (λ (n : ℕ). AreWithin n group) words c.in_ok-add_all.ensures.within in
    record {
      masks = subst (AreGroupsOf (row_at c.args.rows.now) (i + 1)) (sym new)
          (masks_push (row_at c.args.rows.now) i c.row.result.now c.loop-i.groups group (sym c.row.ensures) c.in_ok-add_all.ensures.named c.loop-i.invariant.masks);
      within = subst (All (AreWithin c.args.words)) (sym new) (All-push (AreWithin c.args.words) c.loop-i.groups group c.loop-i.invariant.within within);
    }

pub returns-clause-masks : goal.returns-clause-masks
returns-clause-masks c =
    let all : c.loop-i.i ≡ length c.args.rows.now = omega arith in
    subst (λ (n : ℕ). AreGroupsOf (row_at c.args.rows.now) n c.loop-i.groups) all c.loop-i.invariant.masks
