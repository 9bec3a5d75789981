-- Behind the last place there is none, and two are found wherever they are looked for.
use Rattle.std.proofs.Common.{◌≤◌, ◌<◌, length, sym, arith, ◌∙◌}
use Rattle.kernel_visits.specs.Rests.{IsSureAt}
use Rattle.kernel_visits.specs.Found.{IsLeftAt}
use Rattle.kernel_visits.proofs.FoundLaws.{none_behind, found_two}
use Rattle.kernel_visits.proofs.quiet.places_left.Goals as goal

pub left_between-found-requires-clause-before : goal.left_between-found-requires-clause-before
left_between-found-requires-clause-before c = none_behind (IsLeftAt c.args.b.now c.args.lits.now) (λ n. IsSureAt c.args.lits.now n c.args.b.now) c.len-count.result
    (λ n o. let inside : n < length c.args.lits.now = o.0 in omega arith) (λ n o. let inside : n < length c.args.lits.now = o.0 in omega arith)

pub returns-then-is_two : goal.returns-then-is_two
returns-then-is_two c = found_two (IsLeftAt c.args.b.now c.args.lits.now) (λ n. IsSureAt c.args.lits.now n c.args.b.now) (λ n. c.start-start.result ≤ n) (λ n. 0 ≤ n) c.left_between-found.result (sym c.is_two.ensures ∙ c.if-is_two.true) c.left_between-found.ensures
