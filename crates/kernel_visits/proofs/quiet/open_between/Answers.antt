-- Each place is passed over or found.
use Rattle.std.proofs.Common.{◌+◌, ◌<◌, length, sym, subst, arith, ◌∙◌}
use Rattle.kernel_visits.specs.declared.quiet.Left.{Left}
use Rattle.kernel_visits.specs.Open.{IsOpenAt}
use Rattle.kernel_visits.specs.Found.{AreFound}
use Rattle.kernel_visits.proofs.FoundLaws.{Seen, found_begins, found_ends, found_two_anywhere, found_passes, found_takes, open_at, not_open_at}
use Rattle.kernel_visits.proofs.quiet.open_between.Goals as goal
use Rattle.kernel_visits.proofs.quiet.open_between.Goals.{then-is_open+else-is_two, else-is_open}

pub loop-i-init : goal.loop-i-init
loop-i-init c = found_begins (IsOpenAt c.args.b.now c.args.coeffs.now c.args.vars.now) (λ n. ⊥) c.args.from c.args.to c.requires.from c.args.before c.requires.before

pub returns-then-is_two : goal.returns-then-is_two
returns-then-is_two c =
    let C = IsOpenAt c.args.b.now c.args.coeffs.now c.args.vars.now in
    let inside : c.loop-i.i < length c.args.coeffs.now = omega arith in
    let here = open_at c.args.b.now c.args.coeffs.now c.args.vars.now c.loop-i.i c.is_open.result inside (c.requires.linear.coefficients c.loop-i.i inside) c.is_open.ensures c.if-is_open.true in
    let taken = found_takes C (λ n. ⊥) c.args.from c.args.to c.requires.from c.loop-i.i (omega arith) (omega arith) here (λ e. e) c.loop-i.found c.loop-i.invariant in
    let now = subst (AreFound C (λ n. ⊥) (Seen C (λ n. ⊥) c.args.from c.args.to c.requires.from (c.loop-i.i + 1))) (sym c.and-found.ensures) taken in
    found_two_anywhere C (λ n. ⊥) c.args.from c.args.to c.requires.from (c.loop-i.i + 1) c.and-found.result (sym c.is_two.ensures ∙ c.if-is_two.true) now

pub loop-i-preserved : goal.loop-i-preserved
loop-i-preserved c =
    let C = IsOpenAt c.args.b.now c.args.coeffs.now c.args.vars.now in
    let P : Left → Type 0 = AreFound C (λ n. ⊥) (Seen C (λ n. ⊥) c.args.from c.args.to c.requires.from (c.loop-i.i + 1)) in
    let inside : c.loop-i.i < length c.args.coeffs.now = omega arith in
    elim c.if-is_open.branch [
      | then-is_open+else-is_two w ↦
          (let here = open_at c.args.b.now c.args.coeffs.now c.args.vars.now c.loop-i.i c.is_open.result inside (c.requires.linear.coefficients c.loop-i.i inside) c.is_open.ensures w.if-is_open.true in
          subst P (sym (w.found-is ∙ w.and-found.ensures)) (found_takes C (λ n. ⊥) c.args.from c.args.to c.requires.from c.loop-i.i (omega arith) (omega arith) here (λ e. e) c.loop-i.found c.loop-i.invariant))
      | else-is_open w ↦
          subst P (sym w.found-is) (found_passes C (λ n. ⊥) c.args.from c.args.to c.requires.from c.loop-i.i
          (not_open_at c.args.b.now c.args.coeffs.now c.args.vars.now c.loop-i.i c.is_open.result inside (c.requires.linear.coefficients c.loop-i.i inside) c.is_open.ensures w.if-is_open.false) (λ e. e) c.loop-i.found c.loop-i.invariant)
    ]

pub returns : goal.returns
returns c = found_ends (IsOpenAt c.args.b.now c.args.coeffs.now c.args.vars.now) (λ n. ⊥) c.args.from c.args.to c.requires.from c.loop-i.i (omega arith) c.loop-i.found c.loop-i.invariant
