use Rattle.std.proofs.Common.{◌≡◌, List, take, refl, ◌∙◌, ap, arith, ◌||◌, ◌&&◌}
use Rattle.std.proofs.lemmas.List.{take_all}
use Rattle.moved_set.specs.declared.mask.Mask.{Mask}
use Rattle.moved_set.specs.Words.{has, names}
use Rattle.moved_set.proofs.AskedLaws.{or_none, named_in, and_move}
use Rattle.moved_set.proofs.bits.unite_masks_in_both.Goals as goal

pub loop-mask-init : goal.loop-mask-init
loop-mask-init c = record { same = refl; named = λ j. or_none (has c.args.words.now j) }

pub loop-mask-preserved : goal.loop-mask-preserved
loop-mask-preserved c = record {
  same = c.unite_mask.auto.words ∙ c.loop-mask.invariant.same;
  named = λ j. c.unite_mask.ensures j ∙ ap (λ b. has c.loop-mask.words j || b) (c.common-in-loop-mask.ensures.hits j ∙ ap (λ b. b && has c.args.other.now j) (c.common.ensures.hits j) ∙ and_move _ (has c.args.one.now j) (has c.args.other.now j))
      ∙ named_in c.args.row.now c.loop-mask.mask-index _ j (has c.args.words.now j) (has c.loop-mask.words j) (has c.args.one.now j && has c.args.other.now j) c.loop-mask-test.true (c.loop-mask.invariant.named j);
}

pub returns : goal.returns
returns c =
    let all : take c.loop-mask.mask-index c.args.row.now ≡ c.args.row.now = take_all c.loop-mask.mask-index c.args.row.now (omega (arith, c.loop-mask-test.false)) in
    λ j. c.loop-mask.invariant.named j ∙ ap (λ (r : List Mask). has c.args.words.now j || (names r j && (has c.args.one.now j && has c.args.other.now j))) all
