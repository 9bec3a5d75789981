-- A term that may rise and fall by as much as its bounds are apart is told nothing.
use Rattle.std.proofs.Common.{◌++◌, ◌∙◌, List, ℤ, to_z, of_z, sym, subst, arith}
use Rattle.std.proofs.lemmas.Int.{ints, to_z-of_z}
use Rattle.std.proofs.lemmas.List.{append-nil}
use mir.Syntax.{w64}
use Rattle.tells.specs.declared.tell.Tell.{Tell}
use Rattle.interval.specs.Limits.{IsBound, bound_limit, largest_number}
use Rattle.tell_laws.specs.Narrowing.{narrowing}
use Rattle.short_tells.specs.ShortTells.{room_tells}
use Rattle.seen_tells.specs.Few.{AreFew}
use Rattle.kernel_visits.specs.Shapes.{unit_of}
use Rattle.seen_tells.specs.Three.{room_of}
use Rattle.seen_tells.proofs.ThreeLaws.{term_kept}
use Rattle.seen_tells.proofs.three.add_if_wide.Goals as goal

pub returns-then-rise-width : goal.returns-then-rise-width
returns-then-rise-width c ts few =
    let b = c.args.b.now in
    let Told : ℤ → ℤ → Type 0 = λ r q. AreFew (ts ++ narrowing b (room_tells b (room_of r q) (unit_of c.args.sign, c.args.var))) c.add_term_apart.new.seen in
    subst (λ (q : ℤ). Told c.args.rise q) (to_z-of_z w64 c.args.fall c.ranges.fall)
    (subst (λ (r : ℤ). Told r (to_z w64 (of_z w64 c.args.fall))) (to_z-of_z w64 c.args.rise c.ranges.rise) (c.add_term_apart.ensures ts few))

pub returns-else-fall-width : goal.returns-else-fall-width
unfolding bound_limit largest_number
returns-else-fall-width c ts few =
    let p = c.low.ensures.in_range in let q = c.high.ensures.in_range in
    let low = c.low.ensures.value in let high = c.high.ensures.value in
    let g = c.gap-width.ensures in
    let up = c.if-rise-width.false in let down = c.if-fall-width.false in
    let r = c.ranges.rise in let f = c.ranges.fall in
    let kept = term_kept c.law_quotient_order.ensures c.args.b.now c.args.var c.requires.proper c.args.rise c.args.fall c.law_clamp_order.ensures
    (subst (λ (z : ℤ). IsBound z) low p) (subst (λ (z : ℤ). IsBound z) high q) c.args.sign (omega (arith, ints)) (omega (arith, ints)) in
    subst (λ (us : List Tell). AreFew us c.args.seen.now) (sym (append-nil ts) ∙ (λ i. ts ++ sym kept i)) few
