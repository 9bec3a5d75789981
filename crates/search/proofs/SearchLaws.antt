-- The search's loop follows the machine.
use Rattle.std.proofs.Common.{◌≡◌, ◌≢◌, ℕ, ℤ, ◌+◌, ◌<◌, ◌≤◌, ◌⊎◌, inl, inr, List, [], ◌∷◌, ◌++◌, length, Option, None, sym, subst, refl, arith}
use Rattle.std.specs.List.{All, sum_by}
use Rattle.interval.specs.Boxes.{Bounds, IsInRange, InsideOrder}
use Rattle.guarded_tell.specs.declared.kernel.Kernel.{Kernel}
use Rattle.guarded_tell.specs.Kernels.{IsKernel}
use Rattle.constraint_model.specs.declared.model.Goal.{Goal}
use Rattle.constraint_model.specs.declared.model.FznModel.{FznModel}
use Rattle.constraint_model.specs.Searches.{IsSearchOf}
use Rattle.branching.specs.Tree.{BranchLaws}
use Rattle.search.specs.declared.kind.Kind.{Kind}
use Rattle.moved_fixpoint.specs.Sweeps.{SpendsSweeps}
use Rattle.narrowing.specs.Narrowing.{MayGiveUp}
use Rattle.search.specs.Machine.{Search, State, Node, best_after, Takes, GoesOn, Reached, stepped}
use Rattle.search.specs.declared.node.Visit.{Visit}
use Rattle.search.specs.Nodes.{IsNode, IsGivenUp, IsVisit}
use Rattle.search.specs.Ends.{EndsDone, EndsOutOfNodes, EndsOutOfRounds, told_count}
use Rattle.search.specs.Weights.{weight}
use Rattle.search.proofs.StackLaws.{some_left, Lies, top_lies, step_less}
use Rattle.search.proofs.RunLaws.{no_cut}

-- the count is within the limit, and told
pub record IsCounted (limit nodes count : ℕ) : Type 0 where
  pub told : nodes ≡ told_count count
  pub within : (limit ≡ 0) ⊎ (count ≤ limit)

same_count : (limit nodes count : ℕ) → limit ≤ 18446744073709551615 → nodes ≡ told_count count → count ≤ limit → nodes ≡ count
same_count limit nodes count fits e h = omega arith

pub below_limit : (limit nodes count : ℕ) → limit ≤ 18446744073709551615 → IsCounted limit nodes count → (limit ≡ 0) ⊎ (nodes ≢ limit) → (limit ≡ 0) ⊎ (count < limit)
below_limit limit nodes count fits h (inl e) = inl e
below_limit limit nodes count fits h (inr k) = elim h.within [
  | inl e ↦ inl e
  | inr l ↦ let e = same_count limit nodes count fits h.told l in inr (omega (arith, e, l, k))
]

pub counted_more : (limit nodes count more : ℕ) → limit ≤ 18446744073709551615 → IsCounted limit nodes count → (limit ≡ 0) ⊎ (nodes ≢ limit) →
    (nodes < 18446744073709551615 → more ≡ nodes + 1) → (18446744073709551615 ≤ nodes → more ≡ nodes) → IsCounted limit more (count + 1)
counted_more limit nodes count more fits h k f g = record {
  told = next nodes more h.told f g;
  within = elim (below_limit limit nodes count fits h k) [ inl e ↦ inl e | inr l ↦ inr (omega arith) ];
}
  where
    next : (nodes more : ℕ) → nodes ≡ told_count count → (nodes < 18446744073709551615 → more ≡ nodes + 1) → (18446744073709551615 ≤ nodes → more ≡ nodes) → more ≡ told_count (count + 1)
    next nodes more e f g = grind arith

pub full_here : (limit nodes count : ℕ) → limit ≤ 18446744073709551615 → IsCounted limit nodes count → limit ≢ 0 → nodes ≡ limit → count ≡ limit
full_here limit nodes count fits h k e = elim h.within [
  | inl z ↦ absurd (k z)
  | inr l ↦ let f = same_count limit nodes count fits h.told l in omega (arith, e, f)
]

other_best : (k : Kind) (goal : Goal) (best : Option ℤ) (recorded : List (List ℤ)) → k ≢ Kind.Least → best_after k goal best recorded ≡ best
other_best Kind.First goal best recorded h = refl
other_best Kind.All goal best recorded h = refl
other_best Kind.Least goal best recorded h = absurd (h refl)

-- a search that isn't for the least cost has no best cost
module _ (s : Search) (other : s.kind ≢ Kind.Least) (stack : List Bounds) (count : ℕ) (found : List (List ℤ))
    (reached : Reached s (record { stack = stack; best = None; count = count; found = found })) where
  abbrev state : State
  state = record { stack = stack; best = None; count = count; found = found }

  pub done_empty : stack ≡ [] → EndsDone s found
  done_empty e = record { state = state; reached = reached; done = inl e; is_found = refl }

  pub done_first : (s.kind ≡ Kind.First) × (found ≢ []) → EndsDone s found
  done_first h = record { state = state; reached = reached; done = inr h; is_found = refl }

  module _ (rest : List Bounds) (top : Bounds) (taken : stack ≡ rest ++ top ∷ []) (nodes : ℕ) (fits : s.node_limit ≤ 18446744073709551615)
      (counted : IsCounted s.node_limit nodes count) (sought : s.kind ≡ Kind.First → found ≡ []) where
    abbrev takes : Takes s state None rest top
    takes = record { falls = inl refl; taken = taken }

    pub out_of_nodes : (s.node_limit ≢ 0) × (nodes ≡ s.node_limit) → EndsOutOfNodes s nodes found
    out_of_nodes h = record {
      state = state;
      reached = reached;
      out = record { limited = h.0; full = full_here s.node_limit nodes count fits counted h.0 h.1; left = some_left stack rest top taken; sought = sought };
      is_count = counted.told;
      is_found = refl;
    }

    module _ (below : (s.node_limit ≡ 0) ⊎ (nodes ≢ s.node_limit)) where
      abbrev on : GoesOn s state
      on = record { below = below_limit s.node_limit nodes count fits counted below; sought = sought }

      pub node_reached : (after : List Bounds) (more : List (List ℤ)) → IsNode s.model s.kernels s.round_limit s.lanes top rest after found more →
          Reached s (record { stack = after; best = None; count = count + 1; found = more })
      node_reached after more h =
          stepped s state (record { stack = after; best = None; count = count + 1; found = more }) reached on
          (record {
            best = None;
            rest = rest;
            top = top;
            back = h.back;
            recorded = h.recorded;
            takes = takes;
            node = subst (λ (b : Bounds). Node s.model s.kernels s.round_limit b h.back h.recorded) (sym (no_cut s.kind s.model.goal None top other)) h.node;
            unspent = subst (λ (b : Bounds). s.lanes ≡ 1 → SpendsSweeps s.kernels s.round_limit b → ⊥) (sym (no_cut s.kind s.model.goal None top other)) h.unspent;
            stack = h.stack;
            falls = sym (other_best s.kind s.model.goal None h.recorded other);
            count = refl;
            found = h.solutions;
          })

      pub out_of_rounds : (told : ℕ) (more : List (List ℤ)) → IsCounted s.node_limit told (count + 1) → IsGivenUp s.kernels s.round_limit s.lanes top → more ≡ found → EndsOutOfRounds s told more
      out_of_rounds told more h up e = record {
        state = record { stack = stack; best = None; count = count + 1; found = found };
        out = record {
          before = state;
          reached = reached;
          goes_on = on;
          rest = rest;
          top = top;
          takes = takes;
          given_up = subst (MayGiveUp s.kernels s.round_limit) (sym (no_cut s.kind s.model.goal None top other)) up.given_up;
          spent = λ one. subst (SpendsSweeps s.kernels s.round_limit) (sym (no_cut s.kind s.model.goal None top other)) (up.spent one);
          stack = refl;
          count = refl;
          found = refl;
        };
        is_count = h.told;
        is_found = e;
      }

  module _ (order : InsideOrder) (branches : BranchLaws) (rule : IsSearchOf s.model) (long : length s.model.vars < length s.sub) (range : IsInRange s.sub)
      (rest : List Bounds) (top : Bounds) (taken : stack ≡ rest ++ top ∷ []) where
    pub lies_here : Lies order branches s rule long range top
    lies_here = top_lies order branches s rule long range state rest top reached taken

    pub top_length : length top ≡ length s.sub
    top_length = lies_here.inside.same_length

    pub node_less : (after : List Bounds) (more : List (List ℤ)) → IsNode s.model s.kernels s.round_limit s.lanes top rest after found more → sum_by weight after < sum_by weight stack
    node_less after more h = step_less order branches s rule long range stack after rest h.back top top h.recorded taken h.stack lies_here (order.itself top) h.node

    pub top_runs : All (IsKernel (length s.sub)) s.kernels → All (IsKernel (length top)) s.kernels
    top_runs h = subst (λ (n : ℕ). All (IsKernel n) s.kernels) (sym top_length) h

-- ---- how a box was visited

module _ (model : FznModel) (kernels : List Kernel) (round_limit lanes : ℕ) (b : Bounds) (before after : List Bounds) (found more : List (List ℤ)) (visit : Visit) where
  pub of_done : visit ≡ Visit.Done → IsVisit model kernels round_limit lanes b before after found more visit → IsNode model kernels round_limit lanes b before after found more
  of_done e h = subst (IsVisit model kernels round_limit lanes b before after found more) e h

  pub of_given_up : visit ≡ Visit.GivenUp → IsVisit model kernels round_limit lanes b before after found more visit → IsGivenUp kernels round_limit lanes b × (more ≡ found)
  of_given_up e h = subst (IsVisit model kernels round_limit lanes b before after found more) e h

-- a box of the same length is as long
pub longer : {m n k : ℕ} → m < n → k ≡ n → m < k
longer h e = omega (arith, h, e)
