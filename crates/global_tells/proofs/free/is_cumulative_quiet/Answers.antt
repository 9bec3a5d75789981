-- The limit is the same as it is read in 64 bits.
use Rattle.std.proofs.Common.{ℤ, subst}
use Rattle.std.specs.Bool.{OnTrue}
use Rattle.std.specs.List.{All}
use Rattle.tells.specs.Words.{Keeps}
use Rattle.global_tells.specs.Cumulative.{tasks_of, cumulative_tells}
use Rattle.global_tells.proofs.TaskLaws.{coded_amount}
use Rattle.global_tells.proofs.free.is_cumulative_quiet.Goals as goal

pub returns : goal.returns
returns c =
    let b = c.args.b.now in
    let P : ℤ → Type 0 = λ z. OnTrue c.are_all_free.result (All (Keeps b) (cumulative_tells (tasks_of c.args.s.now c.args.d.now c.args.r.now) z b)) in
    subst P (coded_amount c.args.limit c.requires.tasks.limit) c.are_all_free.ensures
