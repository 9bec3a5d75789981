-- What few tells say.
use Rattle.std.proofs.Common.{◌≡◌, ℕ, suc, List, [], ◌∷◌, length, Bool, true, false, cond, ℤ, refl, sym, subst, ap, arith}
use Rattle.std.proofs.lemmas.Int.{ints}
use Rattle.std.proofs.lemmas.List.Elements.{All-nil, All-cons}
use Rattle.std.specs.List.{All}
use Rattle.tells.specs.declared.tell.Side.{Side}
use Rattle.tells.specs.declared.tell.Side.TheVariants.{Low, High}
use Rattle.tells.specs.declared.tell.Tell.{Tell}
use Rattle.interval.specs.Boxes.{Bounds}
use Rattle.tells.specs.Words.{Keeps, KeepsSide}
use Rattle.tell_laws.specs.Narrowing.{narrows_side, narrows, narrowing}
use Rattle.guarded_tell.specs.declared.kernel.Kernel.{Kernel}
use Rattle.kernel_visits.specs.declared.resting.Rest.{Rest}
use Rattle.kernel_visits.specs.declared.resting.Rest.TheVariants.{Awake}
use Rattle.seen_tells.specs.declared.seen.Seen.{Seen}
use Rattle.seen_tells.specs.declared.seen.Seen.TheVariants.{Quiet, One, Two, Unseen}
use Rattle.guarded_tell.specs.Kernels.{tells}
use Rattle.kernel_visits.specs.Narrowing.{narrowing_tells}
use Rattle.kernel_visits.specs.Rests.{IsQuietFor}
use Rattle.seen_tells.specs.Few.{AreFew}
use Rattle.seen_tells.specs.Seen.{IsSeen}

-- a tell that doesn't narrow the box keeps it
side_kept : (b : Bounds) (s : Side) (v : ℕ) (z : ℤ) → narrows_side b s v z ≡ false → KeepsSide b s v z
side_kept b Low v z e = omega (arith, ints)
side_kept b High v z e = omega (arith, ints)

first_kept : (b : Bounds) (t : Tell) (ts : List Tell) (n : Bool) → narrows b t ≡ n → cond n (t ∷ narrowing b ts) (narrowing b ts) ≡ [] → (narrowing b ts ≡ [] → All (Keeps b) ts) → All (Keeps b) (t ∷ ts)
first_kept b t ts true q e rest = let l : suc (length (narrowing b ts)) ≡ 0 = ap length e in absurd (omega arith)
first_kept b t ts false q e rest = All-cons (Keeps b) t ts (side_kept b t.side t.var t.bound q) (rest e)

-- where no tell narrows the box, each keeps it
all_kept : (b : Bounds) (ts : List Tell) → narrowing b ts ≡ [] → All (Keeps b) ts
all_kept b [] e = All-nil (Keeps b)
all_kept b (t ∷ ts) e = first_kept b t ts (narrows b t) refl e (all_kept b ts)

-- what they are is what is seen of the kernel whose tells they are
pub few_seen : (k : Kernel) (b : Bounds) (s : Seen) → AreFew (narrowing_tells k b) s → IsSeen k b s
few_seen k b (Quiet r) few =
    let awake : IsQuietFor k b Awake = record { kept = all_kept b (tells k b) few.0; rest = tt } in
    subst (λ (q : Rest). IsQuietFor k b q) (sym few.1) awake
few_seen k b (One t) few = few
few_seen k b (Two t u) few = few
few_seen k b Unseen few = tt
