-- What the lanes' shares make of a round.
use Rattle.std.proofs.Common.{◌≡◌, ◌≢◌, ℕ, ◌<◌, Bool, List, [], length, get_or, sym, ap, subst, ◌∙◌, arith}
use Rattle.std.specs.Prelude.{Option, None, Some, IfSome, Vec}
use Rattle.std.specs.declared.alloc.Global.{Global}
use Rattle.std.specs.List.{All}
use Rattle.std.specs.Bool.{OnTrue, OnFalse}
use Rattle.std.proofs.lemmas.List.{get_or_default, get_or-map}
use Rattle.interval.specs.Boxes.{Bounds, IsInside}
use Rattle.guarded_tell.specs.declared.kernel.Kernel.{Kernel}
use Rattle.guarded_tell.specs.Kernels.{IsClosedUnder}
use Rattle.lattice_store.specs.declared.seat.Seat.{Seat}
use Rattle.lattice_store.specs.Seats.{seen_of, IsPast}
use Rattle.rounds.specs.Shares.{AllNamed, WasHeard, IsCut, share_at}
use Rattle.rounds.specs.Ends.{IsRound}

-- what holds of all kernels, holds of those that a share names
pub named_of_all : (fact : Kernel → Type 0) (share : List ℕ) (kernels : List Kernel) → All fact kernels → AllNamed fact share kernels
named_of_all fact share kernels all j k c lt e = subst fact e (all j k lt)

pub floor_named : (floor : Option Bounds) (share : List ℕ) (kernels : List Kernel) → IfSome floor (λ f. All (λ k. IsClosedUnder k f) kernels) →
    IfSome floor (λ f. AllNamed (λ k. IsClosedUnder k f) share kernels)
floor_named None share kernels all = tt
floor_named (Some f) share kernels all = named_of_all (λ k. IsClosedUnder k f) share kernels all

-- what holds of the kernels of each share of a cut, holds of all kernels
pub all_of_shares : (fact : Kernel → Type 0) (kernels : List Kernel) (cut : List (Vec ℕ Global)) → IsCut (length kernels) cut →
    ((i : ℕ) → i < length cut → AllNamed fact (share_at cut i) kernels) → All fact kernels
all_of_shares fact kernels cut c each j d h =
    let w = c.covers j h in each w.0 w.1 j (get_or kernels j d) w.2 h (get_or_default kernels j (get_or kernels j d) d h)

-- the share of a number is what the code reads there
pub share_is : (cut : List (Vec ℕ Global)) (i : ℕ) (v : Vec ℕ Global) (xs : List ℕ) → i < length cut → v ≡ get_or cut i v → xs ≡ v.items → share_at cut i ≡ xs
share_is cut i v xs h e f = get_or-map (λ (s : Vec ℕ Global). s.items) cut i v [] h ∙ ap (λ (s : Vec ℕ Global). s.items) (sym e) ∙ sym f

-- a cut of one share
pub alone : (kernels : List Kernel) (cut : List (Vec ℕ Global)) (before after : Seat) (m : Bool) → IsCut (length kernels) cut → length cut ≡ 1 →
    IsInside (seen_of after) (seen_of before) → OnFalse m (seen_of after ≡ seen_of before) → OnTrue m (seen_of after ≢ seen_of before) →
    ((¬ IsPast after) → AllNamed (WasHeard (seen_of before) (seen_of after)) (share_at cut 0) kernels) → (¬ IsPast after) → IsRound kernels (seen_of before) (seen_of after) m
alone kernels cut before after m c one inside still moved heard np = record {
  inside = inside;
  still = λ f. subst (λ x. OnFalse x (seen_of after ≡ seen_of before)) f still;
  moves = λ f. subst (λ x. OnTrue x (seen_of after ≢ seen_of before)) f moved;
  heard = all_of_shares (WasHeard (seen_of before) (seen_of after)) kernels cut c (λ i h. let z : i ≡ 0 = omega arith in
      subst (λ (n : ℕ). AllNamed (WasHeard (seen_of before) (seen_of after)) (share_at cut n) kernels) (sym z) (heard np));
}
