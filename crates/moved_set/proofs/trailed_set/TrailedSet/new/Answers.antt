use Rattle.std.proofs.Common.{ℕ, false, List, ap, refl, ◌∙◌, ◌+◌, ◌/◌}
use Rattle.moved_set.specs.Words.{set_of}
use Rattle.moved_set.proofs.SetLaws.{has_bit-zero}
use Rattle.moved_set.proofs.AskedLaws.{filled_with}
use Rattle.moved_set.proofs.trailed_set.TrailedSet.new.Goals as goal

pub returns-clause-current : goal.returns-clause-current
returns-clause-current c =
    ap (λ (words : List ℕ). set_of words c.args.count) (c.in_ok-words.ensures.items_if_clones_equal (λ y h. h))
    ∙ filled_with c.args.count (c.args.count / 32 + 1) 0 false refl (λ k _. has_bit-zero k)
