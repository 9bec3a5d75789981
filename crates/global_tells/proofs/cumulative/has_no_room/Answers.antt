-- It isn't sure, and then the sum decides.
use Rattle.std.proofs.Common.{ℤ, sym, ap, ◌∙◌, arith}
use Rattle.std.proofs.lemmas.Int.{ints}
use Rattle.interval.specs.Limits.{largest_number}
use Rattle.global_tells.specs.Ranges.{place_limit}
use Rattle.global_tells.specs.Cumulative.{is_sure_at, usage_limit}
use Rattle.global_tells.proofs.TaskLaws.{no_room_by, coded_bound, coded_amount}
use Rattle.global_tells.proofs.cumulative.has_no_room.Goals as goal

pub returns : goal.returns
unfolding usage_limit place_limit largest_number
returns c =
    let at = c.args.at.now in
    let sure = ap (λ (z : ℤ). is_sure_at c.args.b.now z c.args.task.now) (sym (coded_bound at.time c.requires.time)) ∙ sym c.is_sure_at.ensures ∙ c.if-is_sure_at.false in
    let u = c.requires.used in let r = c.requires.amounts.usage.number in
    no_room_by (is_sure_at c.args.b.now at.time c.args.task.now) _ _ _ _ sure (coded_amount at.limit c.requires.limit) (omega (arith, ints))
