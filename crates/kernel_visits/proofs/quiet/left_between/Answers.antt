-- Each place is passed over or found; one that is sure is enough.
use Rattle.std.proofs.Common.{ℕ, ◌+◌, ◌<◌, length, inl, refl, sym, subst, arith, ◌∙◌}
use Rattle.kernel_visits.specs.declared.quiet.Left.{Left}
use Rattle.kernel_visits.specs.Rests.{IsSureAt}
use Rattle.kernel_visits.specs.Found.{AreFound, IsLeftAt}
use Rattle.kernel_visits.proofs.FoundLaws.{Seen, found_begins, found_ends, found_two_anywhere, found_passes, found_takes, sure_at, not_sure_at, left_at, not_left_at}
use Rattle.kernel_visits.proofs.quiet.left_between.Goals as goal
use Rattle.kernel_visits.proofs.quiet.left_between.Goals.{then-not-is_out+else-is_two, else-not-is_out}

pub loop-i-init : goal.loop-i-init
loop-i-init c = found_begins (IsLeftAt c.args.b.now c.args.lits.now) (λ n. IsSureAt c.args.lits.now n c.args.b.now) c.args.from c.args.to c.requires.from c.args.before c.requires.before

pub returns-then-is_sure : goal.returns-then-is_sure
unfolding AreFound
returns-then-is_sure c =
    let inside : c.loop-i.i < length c.args.lits.now = omega arith in
    inl (refl, sure_at c.args.b.now c.args.lits.now c.loop-i.i c.at-lit.result inside c.at-lit.ensures (sym c.is_sure.ensures ∙ c.if-is_sure.true))

pub returns-then-is_two : goal.returns-then-is_two
returns-then-is_two c =
    let C = IsLeftAt c.args.b.now c.args.lits.now in
    let E : ℕ → Type 0 = λ n. IsSureAt c.args.lits.now n c.args.b.now in
    let inside : c.loop-i.i < length c.args.lits.now = omega arith in
    let left = left_at c.args.b.now c.args.lits.now c.loop-i.i c.at-lit.result inside c.at-lit.ensures (sym c.is_out.ensures ∙ c.if-not-is_out.true) in
    let unsure = not_sure_at c.args.b.now c.args.lits.now c.loop-i.i c.at-lit.result inside c.at-lit.ensures (sym c.is_sure.ensures ∙ c.if-is_sure.false) in
    let taken = found_takes C E c.args.from c.args.to c.requires.from c.loop-i.i (omega arith) (omega arith) left unsure c.loop-i.found c.loop-i.invariant in
    let now = subst (AreFound C E (Seen C E c.args.from c.args.to c.requires.from (c.loop-i.i + 1))) (sym c.and-found.ensures) taken in
    found_two_anywhere C E c.args.from c.args.to c.requires.from (c.loop-i.i + 1) c.and-found.result (sym c.is_two.ensures ∙ c.if-is_two.true) now

pub loop-i-preserved : goal.loop-i-preserved
loop-i-preserved c =
    let C = IsLeftAt c.args.b.now c.args.lits.now in
    let E : ℕ → Type 0 = λ n. IsSureAt c.args.lits.now n c.args.b.now in
    let P : Left → Type 0 = AreFound C E (Seen C E c.args.from c.args.to c.requires.from (c.loop-i.i + 1)) in
    let inside : c.loop-i.i < length c.args.lits.now = omega arith in
    let unsure = not_sure_at c.args.b.now c.args.lits.now c.loop-i.i c.at-lit.result inside c.at-lit.ensures (sym c.is_sure.ensures ∙ c.if-is_sure.false) in
    elim c.if-not-is_out.branch [
      | then-not-is_out+else-is_two w ↦
          subst P (sym (w.found-is ∙ w.and-found.ensures)) (found_takes C E c.args.from c.args.to c.requires.from c.loop-i.i (omega arith) (omega arith)
          (left_at c.args.b.now c.args.lits.now c.loop-i.i c.at-lit.result inside c.at-lit.ensures (sym c.is_out.ensures ∙ w.if-not-is_out.true)) unsure c.loop-i.found c.loop-i.invariant)
      | else-not-is_out w ↦
          subst P (sym w.found-is) (found_passes C E c.args.from c.args.to c.requires.from c.loop-i.i
          (not_left_at c.args.b.now c.args.lits.now c.loop-i.i c.at-lit.result inside c.at-lit.ensures (sym c.is_out.ensures ∙ w.if-not-is_out.false)) unsure c.loop-i.found c.loop-i.invariant)
    ]

pub returns : goal.returns
returns c = found_ends (IsLeftAt c.args.b.now c.args.lits.now) (λ n. IsSureAt c.args.lits.now n c.args.b.now) c.args.from c.args.to c.requires.from c.loop-i.i (omega arith) c.loop-i.found c.loop-i.invariant
