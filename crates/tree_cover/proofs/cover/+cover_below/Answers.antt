use Rattle.std.proofs.Common.{◌≡◌, ◌<◌, ◌≤◌, length, drop, MatchOption, Option, ℕ, suc, ◌+◌, ◌*◌, ◌∷◌, sym, ap, subst, ◌∙◌, arith}
use Rattle.std.proofs.lemmas.List.{drop_more}
use mathlib.Core.Logic.{dite}
use native.Mathlib.Decide.{dec_le}
use Rattle.tree_cover.specs.declared.part.Part.{Part}
use Rattle.tree_cover.specs.Covers.{IsCoverFrom, IsNoCoverFrom, part_at}
use Rattle.tree_cover.proofs.CoverLemmas.{ended, no_leaf, no_left, no_right, both_sides, map_option}
use Rattle.tree_cover.proofs.cover.+cover_below.Goals as goal
use Rattle.tree_cover.proofs.cover.+cover_below.Goals.{else-part-depth-2-via-then-part-depth-2+else-part-number, else-part-depth-2-via-else-part-depth-2}

pub returns-in_err-part : goal.returns-in_err-part
returns-in_err-part t c =
    let parts = c.args.parts.now in
    let past : length parts ≤ c.args.from = dite (dec_le (suc c.args.from) (length parts))
    (λ (inside : c.args.from < length parts). let no = c.in_err-part.ensures.lookup.2 inside in absurd cc)
    (λ (no : ¬ (c.args.from < length parts)). omega arith) in
    subst (λ (r : Option ℕ). MatchOption r (IsNoCoverFrom parts c.args.from c.args.depth c.args.number) (IsCoverFrom parts c.args.from c.args.depth c.args.number))
    (sym c.from_residual.ensures) (ended parts c.args.from c.args.depth c.args.number past)

pub returns-then-part-depth : goal.returns-then-part-depth
returns-then-part-depth t c =
    let parts = c.args.parts.now in
    let part = c.in_ok-part.part.now in
    let found = c.in_ok-part.ensures.lookup.3 in
    let stands : drop c.args.from parts ≡ part ∷ drop (c.args.from + 1) parts =
    drop_more parts c.args.from part found.0 ∙ ap (λ (p : Part). p ∷ drop (c.args.from + 1) parts) (sym (found.1 part)) in
    no_leaf parts c.args.from c.args.depth c.args.number part (drop (c.args.from + 1) parts) stands c.if-part-depth.true
    (λ (e : part ≡ part_at c.args.depth c.args.number).
    let d : part.depth ≡ c.args.depth = ap (λ (p : Part). p.depth) e in
    let n : part.number ≡ c.args.number = ap (λ (p : Part). p.number) e in
    elim c.else-part-depth-2.branch [
      | else-part-depth-2-via-then-part-depth-2+else-part-number w ↦ let no = w.if-part-number.false in absurd (omega arith)
      | else-part-depth-2-via-else-part-depth-2 w ↦ let no = w.if-part-depth-2.false in absurd (omega arith)
    ])

pub returns-in_err-middle : goal.returns-in_err-middle
returns-in_err-middle t c =
    let parts = c.args.parts.now in
    let part = c.in_ok-part.part.now in
    let found = c.in_ok-part.ensures.lookup.3 in
    let stands : drop c.args.from parts ≡ part ∷ drop (c.args.from + 1) parts =
    drop_more parts c.args.from part found.0 ∙ ap (λ (p : Part). p ∷ drop (c.args.from + 1) parts) (sym (found.1 part)) in
    let deep = c.if-part-depth.false in
    subst (λ (r : Option ℕ). MatchOption r (IsNoCoverFrom parts c.args.from c.args.depth c.args.number) (IsCoverFrom parts c.args.from c.args.depth c.args.number))
    (sym c.from_residual-in_err-middle.ensures)
    (no_left parts c.args.from c.args.depth c.args.number part (drop (c.args.from + 1) parts) stands (omega arith) c.in_err-middle.ensures)

pub returns : goal.returns
returns t c =
    let parts = c.args.parts.now in
    let part = c.in_ok-part.part.now in
    let found = c.in_ok-part.ensures.lookup.3 in
    let stands : drop c.args.from parts ≡ part ∷ drop (c.args.from + 1) parts =
    drop_more parts c.args.from part found.0 ∙ ap (λ (p : Part). p ∷ drop (c.args.from + 1) parts) (sym (found.1 part)) in
    let deep = c.if-part-depth.false in
    let left = c.in_ok-middle.ensures in
    let middle = c.in_ok-middle.middle in
    map_option c.cover_below-2.result
    (IsNoCoverFrom parts middle (c.args.depth + 1) (2 * c.args.number + 1)) (IsNoCoverFrom parts c.args.from c.args.depth c.args.number)
    (IsCoverFrom parts middle (c.args.depth + 1) (2 * c.args.number + 1)) (IsCoverFrom parts c.args.from c.args.depth c.args.number)
    (λ no. no_right parts c.args.from c.args.depth c.args.number part (drop (c.args.from + 1) parts) middle stands (omega arith) left no)
    (λ to right. both_sides parts c.args.from c.args.depth c.args.number middle to left right)
    c.cover_below-2.ensures
