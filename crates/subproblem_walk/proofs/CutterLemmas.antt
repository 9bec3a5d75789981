-- How boxes on a way are cut.
use Rattle.std.proofs.Common.{◌≡◌, ℕ, true, false, ◌<◌, List, length, replicate, refl, sym, subst, ap, ◌∙◌, arith}
use Rattle.std.specs.Prelude.{slice_set}
use Rattle.std.specs.List.{All}
use Rattle.std.proofs.lemmas.List.{get_or-replicate, length-set}
use Rattle.interval.specs.Boxes.{Bounds, put_of}
use Rattle.guarded_tell.specs.declared.kernel.Kernel.{Kernel}
use Rattle.guarded_tell.specs.Kernels.{IsKernel}
use Rattle.fixpoint_laws.specs.Fixpoints.{IsGreatest, Fails}
use Rattle.fixpoint_laws.specs.LimitedEnds.{IfFixedIn, IfFailedIn, IfSpent}
use Rattle.fixpoint_laws.specs.declared.limited.Limited.{Limited}
use Rattle.fixpoint_laws.specs.declared.limited.Limited.TheVariants.{Fixed, Failed, RoundsSpent}
use Rattle.constraint_model.specs.declared.model.FznModel.{FznModel}
use Rattle.moved_set.specs.Sets.{IsIn}
use Rattle.moved_fixpoint.specs.Made.{IsMadeAt}
use Rattle.moved_fixpoint.specs.Moved.{Set, count_of, AreMovedOrQuiet, QuietUnlessMoved}
use Rattle.moved_fixpoint.specs.declared.rests.Rests.{Rests}
use Rattle.moved_fixpoint.specs.Resting.{AreAwake, FitRests, KeepCounts, Knows, KnownUnlessMoved}
use Rattle.moved_fixpoint.specs.Ends.{HasEnded, AreSpent}
use Rattle.subproblem_walk.specs.declared.cutter.Node.{Node}
use Rattle.subproblem_walk.specs.Nodes.{IsNodeOf, IsKeptOrParted}

-- a variable of a closed box is noted
pub one_noted : QuietUnlessMoved → (old new : Set) (pair : ℕ) → new ≡ slice_set old pair true → pair < count_of old →
    (kernels : List Kernel) (b : Bounds) → length b ≡ count_of old → All (IsKernel (length b)) kernels → IsMadeAt kernels pair b → AreMovedOrQuiet new b kernels
one_noted law old new pair is h kernels b e are made =
    let same : length b ≡ length made.closed = ap (λ (x : Bounds). length x) made.is_put ∙ length-set made.closed pair (made.low, made.high) in
    let before : AreMovedOrQuiet old made.closed kernels = law.closed made.closed kernels old made.is_closed in
    let after : AreMovedOrQuiet (slice_set old pair true) (put_of made.closed pair made.low made.high) kernels =
    law.put made.closed kernels old pair made.low made.high (subst (λ (n : ℕ). All (IsKernel n) kernels) same are) h before in
    subst (λ (s : Set). AreMovedOrQuiet s b kernels) (sym is) (subst (λ (x : Bounds). AreMovedOrQuiet (slice_set old pair true) x kernels) (sym made.is_put) after)

-- all are noted
pub all_noted : QuietUnlessMoved → (old new : Set) → new ≡ replicate (length old) true →
    (kernels : List Kernel) (b : Bounds) → length b ≡ count_of old → All (IsKernel (length b)) kernels → AreMovedOrQuiet new b kernels
all_noted law old new is kernels b e are =
    law.all b kernels new are (λ v h. subst (λ (s : Set). IsIn s v) (sym is) (get_or-replicate (length old) v true false (omega arith)))

-- no kernel rests
pub all_awake : KnownUnlessMoved → (kernels : List Kernel) (b : Bounds) (asked moved : Set) (old new : Rests) → FitRests (length kernels) old → KeepCounts old new → AreAwake new →
    Knows asked new.open.current new.alert.current moved b kernels
all_awake law kernels b asked moved old new fit counts awake =
    let o = fit.open_count in
    let a = fit.alert_count in
    law.all_alert b kernels asked new.open.current new.alert.current moved
    (λ j h. awake.open_each j (omega (arith, counts.open_count)))
    (λ j h. awake.alert_each j (omega (arith, counts.alert_count)))

-- how propagation without a limit on its rounds ends
module _ (kernels : List Kernel) (start after : Bounds) (ending : Limited) (ended : HasEnded kernels 0 start after ending) (rounds : ℕ) where
  pub ended_fixed : ending ≡ Fixed rounds → IsGreatest after start kernels
  ended_fixed e = subst (λ (x : Limited). IfFixedIn x (λ r. IsGreatest after start kernels)) e ended.fixed

  pub ended_failed : ending ≡ Failed rounds → Fails start kernels
  ended_failed e = subst (λ (x : Limited). IfFailedIn x (λ r. Fails start kernels)) e ended.failed

  pub never_spent : ending ≡ RoundsSpent rounds → ⊥
  never_spent e =
      let spent : AreSpent kernels 0 start after rounds = subst (λ (x : Limited). IfSpent x (AreSpent kernels 0 start after)) e ended.spent in
      spent.limited refl

-- a closed box that is kept or parted is what the box around it is cut into
pub node_of_closed : (model : FznModel) (kernels : List Kernel) (b closed : Bounds) → IsGreatest closed b kernels → (node : Node) →
    IsKeptOrParted model closed node → IsNodeOf model kernels b closed node
node_of_closed model kernels b closed greatest Node.Failed h = absurd h
node_of_closed model kernels b closed greatest Node.Fixed h = (greatest, h)
node_of_closed model kernels b closed greatest (Node.Parted branching) h = (greatest, h)
