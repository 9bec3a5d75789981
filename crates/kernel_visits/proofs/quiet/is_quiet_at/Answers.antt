-- One place is of a literal that is sure, two are of literals that aren't out.
use Rattle.std.proofs.Common.{sym, ap, ◌∙◌, ◌<◌, length, arith}
use Rattle.std.proofs.lemmas.Bool.{OnTrue_at, OnTrue_from}
use Rattle.std.proofs.lemmas.List.{get_or_read}
use Rattle.std.specs.List.{All}
use Rattle.guarded_tell.specs.Words.{Keeps, is_sure, is_out}
use Rattle.clause_tells.specs.Clause.{clause_tells}
use Rattle.kernel_visits.proofs.ClauseQuiet.{sure_quiet, two_quiet}
use Rattle.kernel_visits.proofs.quiet.is_quiet_at.Goals as goal

pub returns-then-first-second-2 : goal.returns-then-first-second-2
returns-then-first-second-2 c = OnTrue_from c.is_sure.result (All (Keeps c.args.b.now) (clause_tells c.args.lits.now c.args.b.now)) (λ e.
    let inside : c.args.hint.first < length c.args.lits.now = omega arith in
    sure_quiet c.law_clamp_order.ensures c.args.b.now c.args.lits.now c.args.hint.first c.at.result inside
    (ap (λ l. is_sure l c.args.b.now) (sym c.at.ensures) ∙ sym c.is_sure.ensures ∙ e))

pub returns-else-first-second-2 : goal.returns-else-first-second-2
returns-else-first-second-2 c = OnTrue_from c.are_left.result (All (Keeps c.args.b.now) (clause_tells c.args.lits.now c.args.b.now)) (λ e.
    let rising : c.args.hint.first < c.args.hint.second = omega arith in
    let inside : c.args.hint.second < length c.args.lits.now = omega arith in
    let one = c.at-else-first-second-2 in
    let other = c.at-else-first-second-2-2 in
    two_quiet c.args.b.now c.args.lits.now c.args.hint.first c.args.hint.second one.result rising inside
    (ap (λ l. is_out l c.args.b.now) (sym one.ensures) ∙ OnTrue_at e c.are_left.ensures.first)
    (ap (λ l. is_out l c.args.b.now) (sym (get_or_read c.args.lits.now c.args.hint.second other.result inside other.ensures one.result)) ∙ OnTrue_at e c.are_left.ensures.second))
