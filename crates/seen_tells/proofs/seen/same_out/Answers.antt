-- One of both is fixed, and the other is told.
use Rattle.std.proofs.Common.{◌∙◌, ℤ, ◌+ℤ◌, ◌-ℤ◌, FitsSigned, to_z, of_z, sym, subst, rules}
use Rattle.std.proofs.lemmas.Int.{to_z-of_z}
use mir.Syntax.{w64}
use Rattle.tells.specs.declared.tell.Tell.{Tell}
use Rattle.interval.specs.Limits.{IsBound}
use Rattle.interval.specs.Boxes.{low_of, high_of}
use Rattle.sum_tells.proofs.EqualityLaws.{same_is}
use Rattle.small_sums.proofs.ShortLaws.{short_number}
use Rattle.seen_tells.specs.Seen.{LeavesOut}
use Rattle.kernel_visits.proofs.ShapeQuiet.{same_places}
use Rattle.seen_tells.proofs.ApartLaws.{limit_number, open_of}
use Rattle.seen_tells.proofs.OneLaws.{limit_bound}
use Rattle.seen_tells.proofs.LastLaws.{seen_by, first_left_out, second_left_out}
use Rattle.seen_tells.proofs.seen.same_out.Goals as goal

pub is_fixed-requires : goal.is_fixed-requires
is_fixed-requires c = (same_places c.args.k.now c.args.b.now c.args.lit c.args.x c.args.y c.args.limit c.requires.kernel c.requires.proper c.requires.shape).second

pub is_fixed-requires-then-is_fixed : goal.is_fixed-requires-then-is_fixed
is_fixed-requires-then-is_fixed c = (same_places c.args.k.now c.args.b.now c.args.lit c.args.x c.args.y c.args.limit c.requires.kernel c.requires.proper c.requires.shape).first

pub low-requires : goal.low-requires
low-requires c = (same_places c.args.k.now c.args.b.now c.args.lit c.args.x c.args.y c.args.limit c.requires.kernel c.requires.proper c.requires.shape).second

pub added-requires-clause-first : goal.added-requires-clause-first
added-requires-clause-first c = limit_bound c.args.limit (limit_number c.args.k.now _ c.args.lit c.args.x c.args.y c.args.limit c.requires.kernel c.requires.shape)

pub apart_seen-requires : goal.apart_seen-requires
apart_seen-requires c = (same_places c.args.k.now c.args.b.now c.args.lit c.args.x c.args.y c.args.limit c.requires.kernel c.requires.proper c.requires.shape).first

pub is_fixed-requires-else-is_fixed : goal.is_fixed-requires-else-is_fixed
is_fixed-requires-else-is_fixed c = (same_places c.args.k.now c.args.b.now c.args.lit c.args.x c.args.y c.args.limit c.requires.kernel c.requires.proper c.requires.shape).first

pub low-requires-then-is_fixed-3 : goal.low-requires-then-is_fixed-3
low-requires-then-is_fixed-3 c = (same_places c.args.k.now c.args.b.now c.args.lit c.args.x c.args.y c.args.limit c.requires.kernel c.requires.proper c.requires.shape).first

pub less-requires-clause-second : goal.less-requires-clause-second
less-requires-clause-second c = limit_bound c.args.limit (limit_number c.args.k.now _ c.args.lit c.args.x c.args.y c.args.limit c.requires.kernel c.requires.shape)

pub apart_seen-requires-then-is_fixed-3 : goal.apart_seen-requires-then-is_fixed-3
apart_seen-requires-then-is_fixed-3 c = (same_places c.args.k.now c.args.b.now c.args.lit c.args.x c.args.y c.args.limit c.requires.kernel c.requires.proper c.requires.shape).second

pub returns-else-is_fixed-2 : goal.returns-else-is_fixed-2
returns-else-is_fixed-2 c =
    let b = c.args.b.now in
    let places = (same_places c.args.k.now c.args.b.now c.args.lit c.args.x c.args.y c.args.limit c.requires.kernel c.requires.proper c.requires.shape) in
    let number = limit_number c.args.k.now _ c.args.lit c.args.x c.args.y c.args.limit c.requires.kernel c.requires.shape in
    let fixed = same_is (low_of b c.args.y) (high_of b c.args.y) (sym c.if-is_fixed.ensures) in
    let wide = open_of (low_of b c.args.x) (high_of b c.args.x) c.if-is_fixed-2.ensures places.first_proper in
    let low_fits : FitsSigned w64 c.low.result = search rules in
    let low = to_z-of_z w64 c.low.result low_fits ∙ c.low.ensures.value in
    let low_bound = subst (λ (z : ℤ). IsBound z) c.low.ensures.value c.low.ensures.in_range in
    let fits : FitsSigned w64 c.added.result = search rules in
    let value = to_z-of_z w64 c.added.result fits ∙ c.added.ensures ∙ (λ i. short_number c.args.limit number i +ℤ low i) in
    seen_by c.args.k.now b (λ (t : Tell). LeavesOut b c.args.x (to_z w64 (of_z w64 c.added.result)) t) c.apart_seen.result
    (λ t left. first_left_out c.law_quotient_order.ensures c.law_clamp_order.ensures b c.args.k.now c.requires.kernel c.args.lit c.args.x c.args.y c.args.limit (short_number c.args.limit number) c.requires.out c.requires.shape places
    left.low_in_range left.high_in_range low_bound (subst (λ (z : ℤ). IsBound z) fixed low_bound) fixed wide (to_z w64 (of_z w64 c.added.result)) value t left.moves)
    c.apart_seen.ensures

pub returns-then-is_fixed-3 : goal.returns-then-is_fixed-3
returns-then-is_fixed-3 c =
    let b = c.args.b.now in
    let places = (same_places c.args.k.now c.args.b.now c.args.lit c.args.x c.args.y c.args.limit c.requires.kernel c.requires.proper c.requires.shape) in
    let number = limit_number c.args.k.now _ c.args.lit c.args.x c.args.y c.args.limit c.requires.kernel c.requires.shape in
    let fixed = same_is (low_of b c.args.x) (high_of b c.args.x) (sym c.if-is_fixed-3.ensures) in
    let wide = open_of (low_of b c.args.y) (high_of b c.args.y) c.if-is_fixed.ensures places.second_proper in
    let low_fits : FitsSigned w64 c.low-then-is_fixed-3.result = search rules in
    let low = to_z-of_z w64 c.low-then-is_fixed-3.result low_fits ∙ c.low-then-is_fixed-3.ensures.value in
    let low_bound = subst (λ (z : ℤ). IsBound z) c.low-then-is_fixed-3.ensures.value c.low-then-is_fixed-3.ensures.in_range in
    let fits : FitsSigned w64 c.less.result = search rules in
    let value = to_z-of_z w64 c.less.result fits ∙ c.less.ensures ∙ (λ i. low i -ℤ short_number c.args.limit number i) in
    seen_by c.args.k.now b (λ (t : Tell). LeavesOut b c.args.y (to_z w64 (of_z w64 c.less.result)) t) c.apart_seen-then-is_fixed-3.result
    (λ t left. second_left_out c.law_quotient_order.ensures c.law_clamp_order.ensures b c.args.k.now c.requires.kernel c.args.lit c.args.x c.args.y c.args.limit (short_number c.args.limit number) c.requires.out c.requires.shape places
    low_bound (subst (λ (z : ℤ). IsBound z) fixed low_bound) left.low_in_range left.high_in_range fixed wide (to_z w64 (of_z w64 c.less.result)) value t left.moves)
    c.apart_seen-then-is_fixed-3.ensures
