-- The tells of the two terms, one after the other.
use Rattle.std.proofs.Common.{List, ℤ, Bool, [], ◌∷◌, ◌++◌, ◌+ℤ◌, ◌-ℤ◌, refl, sym, subst}
use Rattle.std.proofs.lemmas.Int.{to_z-of_z}
use mir.Syntax.{w64}
use Rattle.tells.specs.declared.tell.Tell.{Tell}
use Rattle.interval.specs.Boxes.{low_of, high_of}
use Rattle.tell_laws.specs.Narrowing.{narrowing}
use Rattle.guarded_tell.specs.Words.{low_tell, high_tell}
use Rattle.seen_tells.specs.Few.{AreFew}
use Rattle.seen_tells.specs.Held.{ordered_tells}
use Rattle.seen_tells.proofs.held.told_at_most.Goals as goal

pub returns-then-x_first : goal.returns-then-x_first
returns-then-x_first c =
    let b = c.args.b.now in
    let X : ℤ → List Tell = λ r. narrowing b (high_tell c.args.x (low_of b c.args.x +ℤ r) ∷ []) in
    let Y : ℤ → List Tell = λ r. narrowing b (low_tell c.args.y (high_of b c.args.y -ℤ r) ∷ []) in
    let read = subst (λ (r : ℤ). AreFew (X r ++ Y r) c.add_low.new.seen) (to_z-of_z w64 c.args.rise c.ranges.rise) (c.add_low.ensures _ (c.add_high.ensures [] (refl, refl))) in
    subst (λ (f : Bool). AreFew (ordered_tells f (X c.args.rise) (Y c.args.rise)) c.add_low.new.seen) (sym c.if-x_first.true) read

pub returns-else-x_first : goal.returns-else-x_first
returns-else-x_first c =
    let b = c.args.b.now in
    let X : ℤ → List Tell = λ r. narrowing b (high_tell c.args.x (low_of b c.args.x +ℤ r) ∷ []) in
    let Y : ℤ → List Tell = λ r. narrowing b (low_tell c.args.y (high_of b c.args.y -ℤ r) ∷ []) in
    let read = subst (λ (r : ℤ). AreFew (Y r ++ X r) c.add_high-else-x_first.new.seen) (to_z-of_z w64 c.args.rise c.ranges.rise) (c.add_high-else-x_first.ensures _ (c.add_low-else-x_first.ensures [] (refl, refl))) in
    subst (λ (f : Bool). AreFew (ordered_tells f (X c.args.rise) (Y c.args.rise)) c.add_high-else-x_first.new.seen) (sym c.if-x_first.false) read
