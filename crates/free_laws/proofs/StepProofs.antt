-- From boxes without a solution to the first solution.
use Rattle.std.proofs.Common.{ℕ, ℤ, List, arith}
use Rattle.std.specs.Prelude.{◌<ℤ◌, ◌≤ℤ◌}
use Rattle.std.proofs.lemmas.Int.{ints, by_lt_z}
use Rattle.interval.specs.Boxes.{Bounds, InsideOrder}
use Rattle.constraint_model.specs.declared.model.FznModel.{FznModel}
use Rattle.decompose.specs.declared.program.Program.{Program}
use Rattle.decompose.specs.Program.{IsProgramOf}
use Rattle.solution_lists.specs.Solutions.{SolvesInside, PointSolves}
use Rattle.free_laws.specs.Keys.{key_at, IsLeastAt, FirstByKeys}
use Rattle.free_laws.specs.Steps.{NoneSolves, IsKeyDone, KeysDone}

pub none_solves : InsideOrder → PointSolves → NoneSolves
none_solves order points model program space b f in_start inside none a solves =
    let s = (points model program b a f (order.through b space program.start inside in_start)).1 solves in
    none s.point (record { is_point = s.is_point; closed = s.closed; inside = order.through s.point b space s.inside inside }) s.inside

not_below : (x y : ℤ) → (y <ℤ x → ⊥) → x ≤ℤ y
not_below x y never = by_lt_z y x (λ l. absurd (never l)) (λ h. omega (arith, ints))

least_at : NoneSolves → (model : FznModel) (program : Program) (b : Bounds) (s : List ℤ) (i : ℕ) → IsProgramOf model program →
    IsKeyDone model program b s i → IsLeastAt model (SolvesInside model b) s i
least_at solves model program b s i f done a one same = not_below (key_at model s i) (key_at model a i) (λ l.
    solves model program done.space done.part f done.in_space done.inside done.none a (record { solves = one.solves; inside = done.holds a one same l }))

pub keys_done : NoneSolves → FirstByKeys → KeysDone
keys_done solves first model program b found s f static is in_range inside listed one done =
    first model program b found s f static is in_range inside listed (record {
      is_one = one;
      least = λ i h. least_at solves model program b s i f (done i h);
    })
