-- The tells of the three terms, one after the other.
use Rattle.std.proofs.Common.{◌∙◌, ◌++◌, List, ℤ, ℕ, [], refl, to_z, of_z, sym, subst}
use Rattle.std.proofs.lemmas.Int.{to_z-of_z}
use Rattle.std.proofs.lemmas.List.{append-nil, append_assoc}
use mir.Syntax.{w64}
use Rattle.tells.specs.declared.tell.Tell.{Tell}
use Rattle.kernel_visits.specs.declared.shape.Sign.{Sign}
use Rattle.tell_laws.specs.Narrowing.{narrowing}
use Rattle.short_tells.specs.ShortTells.{room_tells}
use Rattle.seen_tells.specs.Few.{AreFew}
use Rattle.kernel_visits.specs.Shapes.{unit_of}
use Rattle.seen_tells.specs.Three.{room_of}
use Rattle.seen_tells.proofs.three.told.Goals as goal

pub returns : goal.returns
returns c =
    let t = c.args.terms in
    let N : ℤ → ℤ → Sign → ℕ → List Tell = λ r q s v. narrowing c.args.b.now (room_tells c.args.b.now (room_of r q) (unit_of s, v)) in
    let Some3 : ℤ → ℤ → Type 0 = λ r q. AreFew ((N r q t.x_sign t.x ++ N r q t.y_sign t.y) ++ N r q t.z_sign t.z) c.add_if_wide-3.new.seen in
    let all = c.add_if_wide-3.ensures _ (c.add_if_wide-2.ensures _ (c.add_if_wide.ensures [] (refl, refl))) in
    let read = subst (λ (q : ℤ). Some3 c.args.rise q) (to_z-of_z w64 c.args.fall c.ranges.fall) (subst (λ (r : ℤ). Some3 r (to_z w64 (of_z w64 c.args.fall))) (to_z-of_z w64 c.args.rise c.ranges.rise) all) in
    let x = N c.args.rise c.args.fall t.x_sign t.x in
    let y = N c.args.rise c.args.fall t.y_sign t.y in
    let z = N c.args.rise c.args.fall t.z_sign t.z in
    subst (λ (us : List Tell). AreFew us c.add_if_wide-3.new.seen) (append_assoc x y z ∙ (λ i. x ++ (y ++ sym (append-nil z) i))) read
