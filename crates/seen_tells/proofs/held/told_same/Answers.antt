-- The tells of the two terms, one after the other.
use Rattle.std.proofs.Common.{List, ℤ, pos, negsuc, Bool, [], ◌++◌, to_z, of_z, refl, sym, subst}
use Rattle.std.proofs.lemmas.Int.{to_z-of_z}
use mir.Syntax.{w64}
use Rattle.tells.specs.declared.tell.Tell.{Tell}
use Rattle.tell_laws.specs.Narrowing.{narrowing}
use Rattle.short_tells.specs.ShortTells.{room_tells}
use Rattle.seen_tells.specs.Few.{AreFew}
use Rattle.seen_tells.specs.Held.{ordered_tells}
use Rattle.seen_tells.specs.Three.{room_of}
use Rattle.seen_tells.proofs.held.told_same.Goals as goal

pub returns-then-x_first : goal.returns-then-x_first
returns-then-x_first c =
    let b = c.args.b.now in
    let X : ℤ → ℤ → List Tell = λ r q. narrowing b (room_tells b (room_of r q) (pos 1, c.args.x)) in
    let Y : ℤ → ℤ → List Tell = λ r q. narrowing b (room_tells b (room_of r q) (negsuc 0, c.args.y)) in
    let Told : ℤ → ℤ → Type 0 = λ r q. AreFew (X r q ++ Y r q) c.add_term-then-x_first.new.seen in
    let all : Told (to_z w64 (of_z w64 c.args.rise)) (to_z w64 (of_z w64 c.args.fall)) = c.add_term-then-x_first.ensures _ (c.add_term.ensures [] (refl, refl)) in
    let read = subst (λ (q : ℤ). Told c.args.rise q) (to_z-of_z w64 c.args.fall c.ranges.fall) (subst (λ (r : ℤ). Told r (to_z w64 (of_z w64 c.args.fall))) (to_z-of_z w64 c.args.rise c.ranges.rise) all) in
    subst (λ (f : Bool). AreFew (ordered_tells f (X c.args.rise c.args.fall) (Y c.args.rise c.args.fall)) c.add_term-then-x_first.new.seen) (sym c.if-x_first.true) read

pub returns-else-x_first : goal.returns-else-x_first
returns-else-x_first c =
    let b = c.args.b.now in
    let X : ℤ → ℤ → List Tell = λ r q. narrowing b (room_tells b (room_of r q) (pos 1, c.args.x)) in
    let Y : ℤ → ℤ → List Tell = λ r q. narrowing b (room_tells b (room_of r q) (negsuc 0, c.args.y)) in
    let Told : ℤ → ℤ → Type 0 = λ r q. AreFew (Y r q ++ X r q) c.add_term-else-x_first-2.new.seen in
    let all : Told (to_z w64 (of_z w64 c.args.rise)) (to_z w64 (of_z w64 c.args.fall)) = c.add_term-else-x_first-2.ensures _ (c.add_term-else-x_first.ensures [] (refl, refl)) in
    let read = subst (λ (q : ℤ). Told c.args.rise q) (to_z-of_z w64 c.args.fall c.ranges.fall) (subst (λ (r : ℤ). Told r (to_z w64 (of_z w64 c.args.fall))) (to_z-of_z w64 c.args.rise c.ranges.rise) all) in
    subst (λ (f : Bool). AreFew (ordered_tells f (X c.args.rise c.args.fall) (Y c.args.rise c.args.fall)) c.add_term-else-x_first-2.new.seen) (sym c.if-x_first.false) read
