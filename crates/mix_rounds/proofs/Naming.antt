-- Shares that name items of a list.
use Rattle.std.proofs.Common.{◌≡◌, ℕ, ◌<◌, ◌≤◌, List, length, get_or, sym, ap, subst, ◌∙◌, arith}
use Rattle.std.specs.Prelude.{Option, None, Some, IfSome, Vec, [], slice_index_or}
use Rattle.std.specs.declared.alloc.Global.{Global}
use Rattle.std.specs.List.{All}
use Rattle.std.proofs.lemmas.List.{get_or_default, get_or-map}
use Rattle.shared_lanes.specs.Cuts.{AllNamed, IsCut, share_at}

-- the share of a number is what the code reads there
pub share_is : (cut : List (Vec ℕ Global)) (i : ℕ) (v : Vec ℕ Global) (xs : List ℕ) → i < length cut → v ≡ get_or cut i v → xs ≡ v.items → share_at cut i ≡ xs
share_is cut i v xs h e f = get_or-map (λ (s : Vec ℕ Global). s.items) cut i v [] h ∙ ap (λ (s : Vec ℕ Global). s.items) (sym e) ∙ sym f

-- what holds of all, holds where there is one
pub some_all : {X K : Type 0} (fact : K → X → Type 0) (o : Option X) (items : List K) → IfSome o (λ x. All (λ k. fact k x) items) →
    (i : ℕ) (k : K) → i < length items → IfSome o (fact (get_or items i k))
some_all fact None items all i k h = tt
some_all fact (Some x) items all i k h = all i k h

module _ {K : Type 0} where
  -- what holds of the items of each share of a cut, holds of all items
  pub all_of_shares : (fact : K → Type 0) (items : List K) (cut : List (Vec ℕ Global)) → IsCut (length items) cut →
      ((i : ℕ) → i < length cut → AllNamed fact (share_at cut i) items) → All fact items
  all_of_shares fact items cut c each j d h =
      let w = c.covers j h in each w.0 w.1 j (get_or items j d) w.2 h (get_or_default items j (get_or items j d) d h)

  -- the fact holds of the item of this number
  abbrev pub HoldsAt : (K → Type 0) → List K → ℕ → Type 0
  HoldsAt fact items j = (k : K) → j < length items → slice_index_or items j k ≡ k → fact k

  -- it holds of a share once it holds of each of its numbers
  pub share_holds : (fact : K → Type 0) (share : List ℕ) (items : List K) (done : ℕ) → length share ≤ done →
      ((i : ℕ) → i < done → HoldsAt fact items (get_or share i 0)) → AllNamed fact share items
  share_holds fact share items done h q j k (i, lt, e) =
      subst (λ (n : ℕ). HoldsAt fact items n) (get_or_default share i 0 j lt ∙ e) (q i (omega arith)) k

  -- the item that was read from the list is the one of its number
  pub holds_here : (fact : K → Type 0) (items : List K) (j : ℕ) (r : K) → r ≡ get_or items j r → fact r → HoldsAt fact items j
  holds_here fact items j r e q k lt f = subst fact (e ∙ get_or_default items j r k lt ∙ f) q
