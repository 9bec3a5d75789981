-- A value from 1 on and up to the length is the place before it, counted from 0; any other is none.
use Rattle.std.proofs.Common.{◌≡◌, ◌<◌, ◌-◌, ◌∙◌, pos, suc, ◌+◌, not, length, unsigned_abs, sym, ap, arith, w64, to_z, of_z}
use Rattle.std.proofs.lemmas.Int.{ints, to_z-of_z}
use Rattle.extreme_tells.specs.Extremes.{member_limit}
use Rattle.domain_drops.proofs.PlaceLaws.{place_apart, no_place_apart}
use Rattle.domain_drops.proofs.place.is_apart.Goals as goal
use Rattle.domain_drops.proofs.place.is_apart.Goals.{else-value-ge1-via-then-value-ge1+else-value-entries, else-value-ge1-via-else-value-ge1}

pub can_equal-requires-clause-y : goal.can_equal-requires-clause-y
unfolding member_limit
can_equal-requires-clause-y c =
    let short = c.requires.short in
    let from = c.if-value-ge1.true in
    let to = c.if-value-entries.true in
    c.requires.variables.each (suc (unsigned_abs (to_z w64 (of_z w64 c.args.value)) - 1)) (omega (arith, ints))

pub returns-then-value-entries : goal.returns-then-value-entries
unfolding member_limit
returns-then-value-entries c =
    let short = c.requires.short in
    let from = c.if-value-ge1.true in
    let to = c.if-value-entries.true in
    let at = unsigned_abs (to_z w64 (of_z w64 c.args.value)) - 1 in
    let value = to_z-of_z w64 c.args.value c.ranges.value in
    let inside : at < length c.args.entries.now = omega (arith, ints) in
    let place : c.args.value ≡ pos (1 + at) = omega (arith, ints) in
    ap not c.can_equal.ensures ∙ sym (place_apart c.args.entries.now c.args.c _ c.args.value at inside place)

pub returns-else-value-ge1 : goal.returns-else-value-ge1
unfolding member_limit
returns-else-value-ge1 c =
    let short = c.requires.short in
    let value = to_z-of_z w64 c.args.value c.ranges.value in
    sym (no_place_apart c.args.entries.now c.args.c _ c.args.value (λ i l e. elim c.else-value-ge1.branch [
      | else-value-ge1-via-then-value-ge1+else-value-entries w ↦ (let past = w.if-value-entries.false in omega (arith, ints))
      | else-value-ge1-via-else-value-ge1 w ↦ (let below = w.if-value-ge1.false in omega (arith, ints))
    ]))
