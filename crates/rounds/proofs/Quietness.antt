-- Kernels that were heard, and kernels that have nothing to tell.
use Rattle.std.proofs.Common.{◌≡◌, ℕ, ◌+◌, ◌<◌, ◌≤◌, List, length, get_or, sym, subst, ◌∙◌, arith}
use Rattle.std.specs.Prelude.{Option, None, Some, IfSome, slice_index_or}
use Rattle.std.specs.List.{All, Contains}
use Rattle.std.proofs.lemmas.Int.{ints}
use Rattle.std.proofs.lemmas.List.{get_or_default}
use borrow.Author.Count.{below_more}
use Rattle.interval.specs.Limits.{IsBound}
use Rattle.interval.specs.Boxes.{Bounds, IsInRange, IsInside}
use Rattle.guarded_tell.specs.declared.kernel.Kernel.{Kernel}
use Rattle.guarded_tell.specs.Words.{Tell}
use Rattle.guarded_tell.specs.Words.{Keeps, IsProperIn, IsInsideIn, AgreeIn}
use Rattle.guarded_tell.specs.Kernels.{vars_of, tells, IsKernel, IsClosedUnder}
use Rattle.fixpoint_laws.specs.OneRound.{IsHeardBetween}
use Rattle.rounds.specs.Shares.{AllNamed, IsQuiet, WasHeard}
use Rattle.rounds.specs.Steps.{MayTell, IsSnapshot}
use Rattle.rounds.proofs.BoxLaws.{inside_through, inside_both}
use Rattle.rounds.proofs.Stepping.{keeps_inside}

-- the laws of the kernels, as their functions state them
abbrev pub Monotone : Type 0
Monotone = (k : Kernel) (outer inner : Bounds) → IsKernel (length outer) k → IsInRange outer →
    length inner ≡ length outer → IsProperIn (vars_of k) outer → IsClosedUnder k inner →
    IsInsideIn (vars_of k) inner outer → All (Keeps inner) (tells k outer)

abbrev pub TellPlace : Type 0
TellPlace = (k : Kernel) (b : Bounds) → IsKernel (length b) k →
    All (λ t. Contains (vars_of k) t.var × (t.var < length b) × IsBound t.bound) (tells k b)

abbrev pub Local : Type 0
Local = (k : Kernel) (b c : Bounds) → AgreeIn (vars_of k) b c → tells k b ≡ tells k c

module _ (monotone : Monotone) (place : TellPlace) (k : Kernel) (seen b : Bounds)
    (kernel : IsKernel (length b) k) (range : IsInRange b) (same : length b ≡ length seen) where
  -- a box inside what was seen is inside the copy, in the kernel's variables
  inside_copy : (f : Bounds) → IsInside f seen → IsSnapshot (vars_of k) seen b → IsInsideIn (vars_of k) f b
  inside_copy f i s = record {
    lows = λ j h. let at = kernel.variables.each j h in let low = i.lows (get_or (vars_of k) j 0) (omega (arith, same)) in omega (arith, ints, low, s.agree.lows j h);
    highs = λ j h. let at = kernel.variables.each j h in let high = i.highs (get_or (vars_of k) j 0) (omega (arith, same)) in omega (arith, ints, high, s.agree.highs j h);
  }

  held : (floor : Option Bounds) → IfSome floor (IsClosedUnder k) → IfSome floor (λ f. IsInside f seen) → IsSnapshot (vars_of k) seen b →
      (i : ℕ) (d : Tell) → i < length (tells k b) → IfSome floor (λ f. Keeps f (slice_index_or (tells k b) i d))
  held None c inside s i d h = tt
  held (Some f) c inside s i d h = monotone k b f kernel range (inside.same_length ∙ sym same) s.proper c (inside_copy f inside s) i d h

  -- each tell on a snapshot may be told
  pub may_tell_all : (floor : Option Bounds) → IfSome floor (IsClosedUnder k) → IfSome floor (λ f. IsInside f seen) → IsSnapshot (vars_of k) seen b →
      All (MayTell (length seen) floor) (tells k b)
  may_tell_all floor c inside s i d h =
      let p = place k b kernel i d h in
      record { variable = omega (arith, p.1, same); bound = p.2; held = held floor c inside s i d h }

-- a kernel that was run on a snapshot was heard
pub heard_now : Local → (k : Kernel) (before seen later b : Bounds) → IsSnapshot (vars_of k) seen b → IsInside seen before → IsInside later seen →
    All (Keeps later) (tells k b) → IsHeardBetween k before later
heard_now local k before seen later b s i j a = record {
  between = seen;
  inside = i;
  holds = j;
  heard = subst (λ (ts : List Tell). All (Keeps later) ts) (local k b seen s.agree) a;
}

-- some number is left for each of the kernel's variables in an inner box, so in the outer one too
proper_out : (k : Kernel) (inner outer : Bounds) → IsKernel (length outer) k → IsInside inner outer → IsProperIn (vars_of k) inner → IsProperIn (vars_of k) outer
proper_out k inner outer kernel i p j h =
    let at = kernel.variables.each j h in
    omega (arith, ints, i.lows (get_or (vars_of k) j 0) at, i.highs (get_or (vars_of k) j 0) at, p j h)

-- it was heard on the way to each tighter box too
pub heard_later : TellPlace → (k : Kernel) (b c d : Bounds) → IsKernel (length b) k → IsInside c b → IsInside d c → WasHeard b c k → WasHeard b d k
heard_later place k b c d kernel i j h p =
    let w = h (proper_out k d c (subst (λ n. IsKernel n k) (sym i.same_length) kernel) j p) in record {
      between = w.between;
      inside = w.inside;
      holds = inside_through d c w.between j w.holds;
      heard = λ n t lt.
          let at = (place k w.between (subst (λ m. IsKernel m k) (sym w.inside.same_length) kernel) n t lt).1 in
          keeps_inside c d (get_or (tells k w.between) n t) j (omega (arith, at, w.inside.same_length, i.same_length)) (w.heard n t lt);
    }

-- and on the way from each looser one
pub heard_from : (k : Kernel) (a b c : Bounds) → IsInside b a → WasHeard b c k → WasHeard a c k
heard_from k a b c i h p = let w = h p in record { between = w.between; inside = inside_through w.between b a w.inside i; holds = w.holds; heard = w.heard }

-- a kernel that was heard on a way on which nothing moved is quiet
pub quiet_of : (k : Kernel) (b c : Bounds) → c ≡ b → WasHeard b c k → IsQuiet c k
quiet_of k b c e h p =
    let w = h p in
    let same : w.between ≡ c = inside_both w.between c (subst (λ (x : Bounds). IsInside w.between x) (sym e) w.inside) w.holds in
    subst (λ (x : Bounds). All (Keeps c) (tells k x)) same w.heard

-- the fact holds of the kernel of this number
abbrev pub HoldsAt : (Kernel → Type 0) → List Kernel → ℕ → Type 0
HoldsAt fact kernels j = (k : Kernel) → j < length kernels → slice_index_or kernels j k ≡ k → fact k

-- it holds of a share once it holds of each of its numbers
pub share_holds : (fact : Kernel → Type 0) (share : List ℕ) (kernels : List Kernel) (done : ℕ) → length share ≤ done →
    ((i : ℕ) → i < done → HoldsAt fact kernels (get_or share i 0)) → AllNamed fact share kernels
share_holds fact share kernels done h q j k (i, lt, e) =
    subst (λ (n : ℕ). HoldsAt fact kernels n) (get_or_default share i 0 j lt ∙ e) (q i (omega arith)) k

-- what holds of each kernel that a share names, holds of the one at a place of the share
pub named_at : (fact : Kernel → Type 0) (share : List ℕ) (kernels : List Kernel) → AllNamed fact share kernels →
    (i : ℕ) (k : Kernel) → i < length share → get_or share i 0 < length kernels → k ≡ get_or kernels (get_or share i 0) k → fact k
named_at fact share kernels a i k h lt e = a (get_or share i 0) k (i, h, get_or_default share i (get_or share i 0) 0 h) lt (sym e)

pub named_at_floor : (floor : Option Bounds) (share : List ℕ) (kernels : List Kernel) → IfSome floor (λ f. AllNamed (λ k. IsClosedUnder k f) share kernels) →
    (i : ℕ) (k : Kernel) → i < length share → get_or share i 0 < length kernels → k ≡ get_or kernels (get_or share i 0) k → IfSome floor (IsClosedUnder k)
named_at_floor None share kernels a i k h lt e = tt
named_at_floor (Some f) share kernels a i k h lt e = named_at (λ j. IsClosedUnder j f) share kernels a i k h lt e

-- the kernel that was read from the list is the one of its number
pub holds_here : (fact : Kernel → Type 0) (kernels : List Kernel) (j : ℕ) (r : Kernel) → r ≡ get_or kernels j r → fact r → HoldsAt fact kernels j
holds_here fact kernels j r e q k lt f = subst fact (e ∙ get_or_default kernels j r k lt ∙ f) q

-- one more number of the share was heard
pub heard_more : TellPlace → (b seen later : Bounds) (share : List ℕ) (kernels : List Kernel) (done : ℕ) → All (IsKernel (length b)) kernels →
    IsInside seen b → IsInside later seen → ((i : ℕ) → i < done → HoldsAt (WasHeard b seen) kernels (get_or share i 0)) →
    HoldsAt (WasHeard b later) kernels (get_or share done 0) → (i : ℕ) → i < done + 1 → HoldsAt (WasHeard b later) kernels (get_or share i 0)
heard_more place b seen later share kernels done all i j before here =
    below_more (λ n. HoldsAt (WasHeard b later) kernels (get_or share n 0)) done
    (λ n h k lt e. heard_later place k b seen later (subst (IsKernel (length b)) e (all (get_or share n 0) k lt)) i j (before n h k lt e)) here
