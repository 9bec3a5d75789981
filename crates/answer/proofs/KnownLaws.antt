-- A search that begins with a cost that is known ends as one that begins with none, and in which that cost is posted.
use Rattle.std.proofs.Common.{◌≡◌, ℕ, ℤ, ◌+◌, ◌<◌, List, [], ◌∷◌, ◌++◌, Contains, Option, None, Some, refl, sym, ap, subst, ◌∙◌, ◌⊎◌, inl, inr}
use Rattle.interval.specs.Boxes.{Bounds}
use Rattle.search.specs.declared.ends.Why.{Why}
use Rattle.search.specs.declared.ends.LeastEnd.{LeastEnd}
use Rattle.search.specs.Machine.{Search, State, MayFall, Takes, Step, GoesOn, Reached, IsDone, IsOutOfRounds}
use Rattle.search.specs.Machine.Reached.{begun, stepped}
use Rattle.search.specs.Ends.{EndsDone, EndsSpent, EndsOutOfNodes, EndsOutOfRounds}
use Rattle.search.specs.LeastEnds.{EndsLeast}
use Rattle.answer.specs.Lists.{Assignment}
use Rattle.answer.proofs.RunLists.{nothing_there}

module _ (s : Search) (alone : s.posted ≡ []) (posted : List ℤ) (there : (cost : ℤ) → s.known ≡ Some cost → Contains posted cost) where
  abbrev pub told : Search
  told = record s { known = None; posted = posted }

  -- nothing was done yet
  record IsFirstState (state : State) : Type 0 where
    stack : state.stack ≡ s.sub ∷ []
    best : state.best ≡ s.known
    count : state.count ≡ 0
    found : state.found ≡ []

  -- the same state with no cost
  abbrev costless : State → State
  costless state = record { stack = state.stack; best = None; count = state.count; found = state.found }

  -- ---- the best cost

  stays : (best after : Option ℤ) → MayFall s.posted best after → after ≡ best
  stays best after (inl e) = e
  stays best after (inr h) = absurd (nothing_there h.0 (subst (λ (xs : List ℤ). Contains xs h.0) alone h.1.0))

  known_falls : (after : Option ℤ) → after ≡ s.known → MayFall posted None after
  known_falls None e = inl refl
  known_falls (Some cost) e = inr (cost, (there cost (sym e), (tt, refl)))

  first_takes : (state : State) (best : Option ℤ) (rest : List Bounds) (top : Bounds) → IsFirstState state → Takes s state best rest top → Takes told (costless state) best rest top
  first_takes state best rest top first h = record { falls = known_falls best (stays state.best best h.falls ∙ first.best); taken = h.taken }

  later_takes : (state : State) (best : Option ℤ) (rest : List Bounds) (top : Bounds) → Takes s state best rest top → Takes told state best rest top
  later_takes state best rest top h = record { falls = inl (stays state.best best h.falls); taken = h.taken }

  -- ---- the states

  first_reached : (state : State) → IsFirstState state → Reached told (costless state)
  first_reached state first = begun told (costless state) first.stack refl first.count first.found

  step_with : (before same after : State) → same.count ≡ before.count → same.found ≡ before.found → (step : Step s before after) → Takes told same step.best step.rest step.top → Step told same after
  step_with before same after count found step takes = record {
    best = step.best;
    rest = step.rest;
    top = step.top;
    back = step.back;
    recorded = step.recorded;
    takes = takes;
    node = step.node;
    unspent = step.unspent;
    stack = step.stack;
    falls = step.falls;
    count = subst (λ (n : ℕ). after.count ≡ n + 1) (sym count) step.count;
    found = subst (λ (xs : List Assignment). after.found ≡ xs ++ step.recorded) (sym found) step.found;
  }

  step_on : (before after : State) → IsFirstState before ⊎ Reached told before → GoesOn s before → Step s before after → Reached told after
  step_on before after (inl first) on step =
      stepped told (costless before) after (first_reached before first) (record { below = on.below; sought = on.sought })
      (step_with before (costless before) after refl refl step (first_takes before step.best step.rest step.top first step.takes))
  step_on before after (inr reached) on step =
      stepped told before after reached (record { below = on.below; sought = on.sought })
      (step_with before before after refl refl step (later_takes before step.best step.rest step.top step.takes))

  reaches : (state : State) → Reached s state → IsFirstState state ⊎ Reached told state
  reaches state (begun _ _ stack best count found) = inl (record { stack = stack; best = best; count = count; found = found })
  reaches state (stepped _ before _ reached on step) = inr (step_on before state (reaches before reached) on step)

  -- ---- the ends

  not_done : (state : State) → IsFirstState state → IsDone s state → ⊥
  not_done state first (inl empty) = let bad : s.sub ∷ [] ≡ [] = sym first.stack ∙ empty in cc
  not_done state first (inr (kind, some)) = some first.found

  done_too : (found : List Assignment) → EndsDone s found → EndsDone told found
  done_too found h = elim (reaches h.state h.reached) [
    | inl first ↦ absurd (not_done h.state first h.done)
    | inr reached ↦ record { state = h.state; reached = reached; done = h.done; is_found = h.is_found }
  ]

  nodes_too : (nodes : ℕ) (found : List Assignment) → EndsOutOfNodes s nodes found → EndsOutOfNodes told nodes found
  nodes_too nodes found h = elim (reaches h.state h.reached) [
    | inl first ↦ absurd (h.out.limited (sym h.out.full ∙ first.count))
    | inr reached ↦ record {
      state = h.state;
      reached = reached;
      out = record { limited = h.out.limited; full = h.out.full; left = h.out.left; sought = h.out.sought };
      is_count = h.is_count;
      is_found = h.is_found;
    }
  ]

  out_with : (state same : State) (h : IsOutOfRounds s state) → same.stack ≡ h.before.stack → same.count ≡ h.before.count → same.found ≡ h.before.found → Reached told same → Takes told same state.best h.rest h.top →
      IsOutOfRounds told state
  out_with state same h stack count found reached takes = record {
    before = same;
    reached = reached;
    goes_on = record {
      below = subst (λ (n : ℕ). (s.node_limit ≡ 0) ⊎ (n < s.node_limit)) (sym count) h.goes_on.below;
      sought = λ kind. found ∙ h.goes_on.sought kind;
    };
    rest = h.rest;
    top = h.top;
    takes = takes;
    given_up = h.given_up;
    spent = h.spent;
    stack = h.stack ∙ sym stack;
    count = h.count ∙ ap (λ (n : ℕ). n + 1) (sym count);
    found = h.found ∙ sym found;
  }

  out_too : (state : State) (h : IsOutOfRounds s state) → IsFirstState h.before ⊎ Reached told h.before → IsOutOfRounds told state
  out_too state h (inl first) =
      out_with state (costless h.before) h refl refl refl (first_reached h.before first) (first_takes h.before state.best h.rest h.top first h.takes)
  out_too state h (inr reached) = out_with state h.before h refl refl refl reached (later_takes h.before state.best h.rest h.top h.takes)

  rounds_too : (nodes : ℕ) (found : List Assignment) → EndsOutOfRounds s nodes found → EndsOutOfRounds told nodes found
  rounds_too nodes found h = record { state = h.state; out = out_too h.state h.out (reaches h.out.before h.out.reached); is_count = h.is_count; is_found = h.is_found }

  spent_too : (why : Why) (nodes : ℕ) (found : List Assignment) → EndsSpent s why nodes found → EndsSpent told why nodes found
  spent_too Why.Nodes nodes found h = nodes_too nodes found h
  spent_too Why.Rounds nodes found h = rounds_too nodes found h

  pub ends_too : (found : List Assignment) (end : LeastEnd) → EndsLeast s found end → EndsLeast told found end
  ends_too found (LeastEnd.Done answer) h = (done_too found h.0, h.1)
  ends_too found (LeastEnd.Spent nodes why so_far) h = (spent_too why nodes found h.0, h.1)
