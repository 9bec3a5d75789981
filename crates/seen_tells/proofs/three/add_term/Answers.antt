-- The two tells of a term, one after the other.
use Rattle.std.proofs.Common.{◌∙◌, ◌++◌, List, ℤ, [], ◌∷◌, ◌+ℤ◌, ◌-ℤ◌, sym, subst}
use Rattle.std.proofs.lemmas.Int.{to_z-of_z}
use Rattle.std.proofs.lemmas.List.{append_assoc}
use mir.Syntax.{w64}
use Rattle.tells.specs.declared.tell.Tell.{Tell}
use Rattle.interval.specs.Boxes.{low_of, high_of}
use Rattle.kernel_visits.specs.declared.shape.Sign.{Sign}
use Rattle.guarded_tell.specs.Words.{low_tell, high_tell}
use Rattle.tell_laws.specs.Narrowing.{narrowing}
use Rattle.short_tells.specs.ShortTells.{room_tells}
use Rattle.seen_tells.specs.Few.{AreFew}
use Rattle.kernel_visits.specs.Shapes.{unit_of}
use Rattle.seen_tells.specs.Three.{room_of}
use Rattle.seen_tells.proofs.ThreeLaws.{plus_told, minus_told}
use Rattle.seen_tells.proofs.three.add_term.Goals as goal

pub returns-in-Plus : goal.returns-in-Plus
returns-in-Plus c ts few =
    let b = c.args.b.now in
    let v = c.args.var in
    let rise = to_z-of_z w64 c.args.rise c.ranges.rise in
    let fall = to_z-of_z w64 c.args.fall c.ranges.fall in
    let high : List Tell = narrowing b (high_tell v (low_of b v +ℤ c.args.rise) ∷ []) in
    let low : List Tell = narrowing b (low_tell v (high_of b v -ℤ c.args.fall) ∷ []) in
    let one = subst (λ (z : ℤ). AreFew (ts ++ narrowing b (high_tell v (low_of b v +ℤ z) ∷ [])) c.add_high.new.seen) rise (c.add_high.ensures ts few) in
    let both = subst (λ (z : ℤ). AreFew ((ts ++ high) ++ narrowing b (low_tell v (high_of b v -ℤ z) ∷ [])) c.add_low.new.seen) fall (c.add_low.ensures (ts ++ high) one) in
    let all = subst (λ (us : List Tell). AreFew us c.add_low.new.seen)
    (append_assoc ts high low ∙ (λ i. ts ++ sym (plus_told c.law_quotient_order.ensures b v c.requires.proper c.args.rise c.args.fall) i)) both in
    subst (λ (s : Sign). AreFew (ts ++ narrowing b (room_tells b (room_of c.args.rise c.args.fall) (unit_of s, v))) c.add_low.new.seen) (sym c.in-Plus.is) all

pub returns-in-Minus : goal.returns-in-Minus
returns-in-Minus c ts few =
    let b = c.args.b.now in
    let v = c.args.var in
    let rise = to_z-of_z w64 c.args.rise c.ranges.rise in
    let fall = to_z-of_z w64 c.args.fall c.ranges.fall in
    let low : List Tell = narrowing b (low_tell v (high_of b v -ℤ c.args.rise) ∷ []) in
    let high : List Tell = narrowing b (high_tell v (low_of b v +ℤ c.args.fall) ∷ []) in
    let one = subst (λ (z : ℤ). AreFew (ts ++ narrowing b (low_tell v (high_of b v -ℤ z) ∷ [])) c.add_low-in-Minus.new.seen) rise (c.add_low-in-Minus.ensures ts few) in
    let both = subst (λ (z : ℤ). AreFew ((ts ++ low) ++ narrowing b (high_tell v (low_of b v +ℤ z) ∷ [])) c.add_high-in-Minus.new.seen) fall (c.add_high-in-Minus.ensures (ts ++ low) one) in
    let all = subst (λ (us : List Tell). AreFew us c.add_high-in-Minus.new.seen)
    (append_assoc ts low high ∙ (λ i. ts ++ sym (minus_told c.law_quotient_order.ensures b v c.requires.proper c.args.rise c.args.fall) i)) both in
    subst (λ (s : Sign). AreFew (ts ++ narrowing b (room_tells b (room_of c.args.rise c.args.fall) (unit_of s, v))) c.add_high-in-Minus.new.seen) (sym c.in-Minus.is) all
