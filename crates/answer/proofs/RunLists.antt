-- What is known of runs stays as they grow.
use Rattle.std.proofs.Common.{◌≡◌, ℕ, zero, suc, ◌<◌, List, [], ◌∷◌, ◌++◌, length, take, get_or, Contains, Option, None, Some, refl, subst, ◌⊎◌, inl, inr, arith}
use Rattle.std.proofs.lemmas.List.Elements.{Contains-append_left, Contains-append_right, Contains-append_cases}
use Rattle.interval.specs.Boxes.{Bounds}
use Rattle.constraint_model.specs.declared.model.FznModel.{FznModel}
use Rattle.best_bound.specs.Lists.{Among}
use Rattle.search.specs.declared.ends.FirstEnd.{FirstEnd}
use Rattle.search.specs.declared.ends.AllEnd.{AllEnd}
use Rattle.search.specs.Ends.{posts_of}
use Rattle.crew.specs.Ends.{AreInOrder}
use Rattle.tree_cover.specs.declared.part.Part.{Part}
use Rattle.answer.specs.declared.options.Options.{Options}
use Rattle.answer.specs.Lists.{Assignment}
use Rattle.answer.specs.Places.{StandsAt, HasResult, AreResults}
use Rattle.answer.specs.Results.{IsFirstResult, AreFirstResults, IsAllResult}
use Rattle.answer.specs.Runs.{IsFirstRun, AreFirstRuns, AreAllRuns}

-- whatever is among the one is among the other
abbrev pub AllAmong : {A : Type 0} → List A → List A → Type 0
AllAmong {A} xs ys = (x : A) → Among xs x → Among ys x

pub among_left : {A : Type 0} (xs ys : List A) → AllAmong xs (xs ++ ys)
among_left [] ys x h = absurd h
among_left (z ∷ xs) ys x (inl e) = inl e
among_left (z ∷ xs) ys x (inr h) = inr (among_left xs ys x h)

pub among_right : {A : Type 0} (xs ys : List A) → AllAmong ys (xs ++ ys)
among_right [] ys x h = h
among_right (z ∷ xs) ys x h = inr (among_right xs ys x h)

pub among_cases : {A : Type 0} (xs ys : List A) (x : A) → Among (xs ++ ys) x → Among xs x ⊎ Among ys x
among_cases [] ys x h = inr h
among_cases (z ∷ xs) ys x (inl e) = inl (inl e)
among_cases (z ∷ xs) ys x (inr h) = elim (among_cases xs ys x h) [ inl l ↦ inl (inr l) | inr r ↦ inr r ]

pub nothing_there : {A : Type 0} (x : A) → Contains [] x → ⊥
nothing_there x h = let l = h.1 in omega arith

pub the_one : {A : Type 0} (x y : A) → Contains (x ∷ []) y → x ≡ y
the_one x y h = one h.0 h.1 h.2
  where
    one : (i : ℕ) → i < 1 → get_or (x ∷ []) i y ≡ y → x ≡ y
    one zero l e = e
    one (suc i) l e = absurd (omega arith)

pub it_is_there : {A : Type 0} (xs : List A) (x : A) → Contains (xs ++ x ∷ []) x
it_is_there xs x = Contains-append_right xs (x ∷ []) x (0, omega arith, refl)

-- what is so of each entry and those before it stays so where one more comes
pub each_more : {A : Type 0} (Holds : List A → A → Type 0) (xs : List A) (x : A) → ((place : ℕ) (y : A) → StandsAt xs place y → Holds (take place xs) y) → Holds xs x →
    (place : ℕ) (y : A) → StandsAt (xs ++ x ∷ []) place y → Holds (take place (xs ++ x ∷ [])) y
each_more Holds [] x each last zero y h = let same : x ≡ y = cc in subst (Holds []) same last
each_more Holds [] x each last (suc place) y h = absurd cc
each_more Holds (z ∷ zs) x each last zero y h = each 0 y h
each_more {A} Holds (z ∷ zs) x each last (suc place) y h =
    each_more (λ (front : List A) (entry : A). Holds (z ∷ front) entry) zs x (λ k w there. each (suc k) w there) last place y h

-- a result stays one by a weaker relation
pub result_kept : {E : Type 0} (model : FznModel) (parts : List Part) (b : Bounds) (Is Other : ℕ → Option Bounds → E → Type 0) →
    ((number : ℕ) (path : Option Bounds) (end : E) → Is number path end → Other number path end) →
    (number : ℕ) (end : E) → HasResult model parts b Is number end → HasResult model parts b Other number end
result_kept model parts b Is Other keeps number end h = record { path = h.path; leads = h.leads; is_result = keeps number h.path end h.is_result }

-- results of the runs, in order, are results
pub results_of : {E : Type 0} (model : FznModel) (parts : List Part) (b : Bounds) (Is : ℕ → Option Bounds → E → Type 0) (runs : List (ℕ × E)) (ends : List E) →
    AreInOrder (length parts) runs ends → ((number : ℕ) (end : E) → Contains runs (number, end) → HasResult model parts b Is number end) → AreResults model parts b Is ends
results_of model parts b Is runs ends order each = record {
  count = order.length_is;
  each = λ number end s. each number end ((order.places number end).1 s);
}

-- ---- for the first solution

module _ (model : FznModel) (options : Options) (parts : List Part) (b : Bounds) where
  first_kept : (seen more : List ℕ) → AllAmong seen more → (number : ℕ) (path : Option Bounds) (end : FirstEnd) → IsFirstRun model options seen number path end → IsFirstRun model options more number path end
  first_kept seen more all number path (FirstEnd.Cut lesser) h = (h.0, all lesser h.1)
  first_kept seen more all number None (FirstEnd.Done answer) h = h
  first_kept seen more all number None (FirstEnd.Spent nodes why) h = h
  first_kept seen more all number (Some sub) (FirstEnd.Done answer) h = h
  first_kept seen more all number (Some sub) (FirstEnd.Spent nodes why) h = h

  first_result_kept : (seen more : List ℕ) → AllAmong seen more → (number : ℕ) (end : FirstEnd) →
      HasResult model parts b (IsFirstRun model options seen) number end → HasResult model parts b (IsFirstRun model options more) number end
  first_result_kept seen more all = result_kept model parts b (IsFirstRun model options seen) (IsFirstRun model options more) (first_kept seen more all)

  pub no_first_runs : (seen posted : List ℕ) → posted ≡ [] → AreFirstRuns model options parts b seen posted []
  no_first_runs seen posted e = record {
    each = λ number end h. absurd (nothing_there (number, end) h);
    solved = λ number h. let none : Among [] number = subst (λ (xs : List ℕ). Among xs number) e h in absurd none;
  }

  pub first_runs_joined : (seen seen2 posted posted2 : List ℕ) (runs runs2 : List (ℕ × FirstEnd)) → AreFirstRuns model options parts b seen posted runs → AreFirstRuns model options parts b seen2 posted2 runs2 →
      AreFirstRuns model options parts b (seen ++ seen2) (posted ++ posted2) (runs ++ runs2)
  first_runs_joined seen seen2 posted posted2 runs runs2 h k = record {
    each = λ number end there. elim (Contains-append_cases runs runs2 (number, end) there) [
      | inl l ↦ first_result_kept seen (seen ++ seen2) (among_left seen seen2) number end (h.each number end l)
      | inr r ↦ first_result_kept seen2 (seen ++ seen2) (among_right seen seen2) number end (k.each number end r)
    ];
    solved = λ number there. elim (among_cases posted posted2 number there) [
      | inl l ↦ let s = h.solved number l in (s.0, Contains-append_left runs runs2 (number, FirstEnd.Done (Some s.0)) s.1)
      | inr r ↦ let s = k.solved number r in (s.0, Contains-append_right runs runs2 (number, FirstEnd.Done (Some s.0)) s.1)
    ];
  }

  -- what is known of runs stays as the seat sees more
  pub first_runs_kept : (seen after posted posts : List ℕ) (runs : List (ℕ × FirstEnd)) → AllAmong seen after → posts ≡ posted → AreFirstRuns model options parts b seen posted runs →
      AreFirstRuns model options parts b after posts runs
  first_runs_kept seen after posted posts runs all e h = record {
    each = λ number end there. first_result_kept seen after all number end (h.each number end there);
    solved = λ number there. h.solved number (subst (λ (xs : List ℕ). Among xs number) e there);
  }

  abbrev Solved : List (ℕ × FirstEnd) → ℕ → FirstEnd → ℕ → Type 0
  Solved runs number end other = (a : Assignment) × Contains (runs ++ (number, end) ∷ []) (other, FirstEnd.Done (Some a))

  before : (seen posted : List ℕ) (runs : List (ℕ × FirstEnd)) (number : ℕ) → AreFirstRuns model options parts b seen posted runs → (end : FirstEnd) (other : ℕ) → Among posted other → Solved runs number end other
  before seen posted runs number h end other l = let s = h.solved other l in (s.0, Contains-append_left runs ((number, end) ∷ []) (other, FirstEnd.Done (Some s.0)) s.1)

  pub first_run_more : (seen after posted posts : List ℕ) (runs : List (ℕ × FirstEnd)) (number : ℕ) (end : FirstEnd) → AreFirstRuns model options parts b seen posted runs → AllAmong seen after →
      HasResult model parts b (IsFirstRun model options after) number end → posts ≡ posts_of number posted end → AreFirstRuns model options parts b after posts (runs ++ (number, end) ∷ [])
  first_run_more seen after posted posts runs number end h all own e = record {
    each = λ other end2 there. elim (Contains-append_cases runs ((number, end) ∷ []) (other, end2) there) [
      | inl l ↦ first_result_kept seen after all other end2 (h.each other end2 l)
      | inr r ↦ let same : (number, end) ≡ (other, end2) = the_one (number, end) (other, end2) r in
          subst (λ (run : ℕ × FirstEnd). HasResult model parts b (IsFirstRun model options after) run.0 run.1) same own
    ];
    solved = λ other there. posted_by end other (subst (λ (xs : List ℕ). Among xs other) e there);
  }
    where
      posted_by : (end2 : FirstEnd) (other : ℕ) → Among (posts_of number posted end2) other → Solved runs number end2 other
      posted_by (FirstEnd.Done None) other l = before seen posted runs number h (FirstEnd.Done None) other l
      posted_by (FirstEnd.Spent nodes why) other l = before seen posted runs number h (FirstEnd.Spent nodes why) other l
      posted_by (FirstEnd.Cut lesser) other l = before seen posted runs number h (FirstEnd.Cut lesser) other l
      posted_by (FirstEnd.Done (Some a)) other (inr l) = before seen posted runs number h (FirstEnd.Done (Some a)) other l
      posted_by (FirstEnd.Done (Some a)) other (inl l) =
          (a, subst (λ (n : ℕ). Contains (runs ++ (number, FirstEnd.Done (Some a)) ∷ []) (n, FirstEnd.Done (Some a))) l (it_is_there runs (number, FirstEnd.Done (Some a))))

  -- where all that was seen was posted, the ends in order are results
  pub first_results : (seen posted : List ℕ) (runs : List (ℕ × FirstEnd)) (ends : List FirstEnd) → AreFirstRuns model options parts b seen posted runs → AllAmong seen posted →
      AreInOrder (length parts) runs ends → AreFirstResults model options parts b ends
  first_results seen posted runs ends h all order =
      results_of model parts b (IsFirstResult model options ends) runs ends order
      (λ number end there. result_kept model parts b (IsFirstRun model options seen) (IsFirstResult model options ends) is_result number end (h.each number end there))
    where
      is_result : (number : ℕ) (path : Option Bounds) (end : FirstEnd) → IsFirstRun model options seen number path end → IsFirstResult model options ends number path end
      is_result number None (FirstEnd.Done answer) k = k
      is_result number None (FirstEnd.Spent nodes why) k = k
      is_result number (Some sub) (FirstEnd.Done answer) k = k
      is_result number (Some sub) (FirstEnd.Spent nodes why) k = k
      is_result number path (FirstEnd.Cut lesser) k =
          let s = h.solved lesser (all lesser k.1) in (s.0, k.0, (order.places lesser (FirstEnd.Done (Some s.0))).0 s.1)

  -- ---- for all solutions

  pub no_all_runs : AreAllRuns model options parts b []
  no_all_runs = record { each = λ number end h. absurd (nothing_there (number, end) h) }

  pub all_runs_joined : (runs runs2 : List (ℕ × AllEnd)) → AreAllRuns model options parts b runs → AreAllRuns model options parts b runs2 → AreAllRuns model options parts b (runs ++ runs2)
  all_runs_joined runs runs2 h k = record {
    each = λ number end there. elim (Contains-append_cases runs runs2 (number, end) there) [ inl l ↦ h.each number end l | inr r ↦ k.each number end r ];
  }

  pub all_run_more : (runs : List (ℕ × AllEnd)) (number : ℕ) (end : AllEnd) → AreAllRuns model options parts b runs → HasResult model parts b (IsAllResult model options) number end →
      AreAllRuns model options parts b (runs ++ (number, end) ∷ [])
  all_run_more runs number end h own = all_runs_joined runs ((number, end) ∷ []) h (record {
    each = λ other end2 there.
        let same : (number, end) ≡ (other, end2) = the_one (number, end) (other, end2) there in
        subst (λ (run : ℕ × AllEnd). HasResult model parts b (IsAllResult model options) run.0 run.1) same own;
  })
