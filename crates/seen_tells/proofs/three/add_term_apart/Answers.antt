-- What the term may rise and fall by, as the code passes it on.
use Rattle.std.proofs.Common.{◌++◌, ℤ, to_z, of_z, subst}
use Rattle.std.proofs.lemmas.Int.{to_z-of_z}
use mir.Syntax.{w64}
use Rattle.tell_laws.specs.Narrowing.{narrowing}
use Rattle.short_tells.specs.ShortTells.{room_tells}
use Rattle.seen_tells.specs.Few.{AreFew}
use Rattle.kernel_visits.specs.Shapes.{unit_of}
use Rattle.seen_tells.specs.Three.{room_of}
use Rattle.seen_tells.proofs.three.add_term_apart.Goals as goal

pub returns : goal.returns
returns c ts few =
    let b = c.args.b.now in
    let Told : ℤ → ℤ → Type 0 = λ r q. AreFew (ts ++ narrowing b (room_tells b (room_of r q) (unit_of c.args.sign, c.args.var))) c.add_term.new.seen in
    subst (λ (q : ℤ). Told c.args.rise q) (to_z-of_z w64 c.args.fall c.ranges.fall)
    (subst (λ (r : ℤ). Told r (to_z w64 (of_z w64 c.args.fall))) (to_z-of_z w64 c.args.rise c.ranges.rise) (c.add_term.ensures ts few))
