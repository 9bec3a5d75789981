-- One run of a job.
use Rattle.std.proofs.Common.{◌≡◌, ℕ, ◌<◌, ℤ, List, [], ◌∷◌, ◌++◌, length, Option, None, Some, refl, sym, ◌∙◌, subst, inr}
use Rattle.std.specs.Prelude.{slice_index_or, IfSome}
use Rattle.interval.specs.Boxes.{Bounds, IsInside, IsInRange, InsideOrder}
use Rattle.guarded_tell.specs.declared.kernel.Kernel.{Kernel}
use Rattle.constraint_model.specs.declared.model.FznModel.{FznModel}
use Rattle.decompose.specs.Kernels.{kernels_of}
use Rattle.best_bound.specs.Lists.{Among, with_seen}
use Rattle.trailed_box.specs.Trailed.{Trailed, IsOver}
use Rattle.subproblem_walk.specs.declared.cutter.Subproblem.{Subproblem}
use Rattle.subproblem_walk.specs.declared.walk.Walk.{Walk}
use Rattle.subproblem_walk.specs.Walks.{IsOnWay, StandsUnder, box_of}
use Rattle.subproblems.specs.Cuts.{CanBeCut}
use Rattle.subproblems.specs.Paths.{PathLaws}
use Rattle.search.specs.declared.kind.Kind.{Kind}
use Rattle.search.specs.declared.ends.FirstEnd.{FirstEnd}
use Rattle.search.specs.declared.ends.AllEnd.{AllEnd}
use Rattle.search.specs.Machine.{Search}
use Rattle.search.specs.declared.kept.Kept.{Kept}
use Rattle.search.specs.Keeping.{IsKeptFor}
use Rattle.search.specs.Ends.{search_of, IsFirstEnd, IsAllEnd, posts_of}
use Rattle.answer.specs.declared.plan.Plan.{Plan}
use Rattle.answer.specs.Plans.{IsPlan, model_of, kernels_in}
use Rattle.answer.specs.Places.{PartLeadsTo, HasResult}
use Rattle.answer.specs.Results.{first_of}
use Rattle.answer.specs.Runs.{IsFirstRun, AreFirstRuns, AreAllRuns}
use Rattle.answer.proofs.PartPaths.{every_at}
use Rattle.answer.proofs.RunLists.{AllAmong, first_run_more, all_run_more}
use Rattle.answer.proofs.ListedLaws.{is_program, can_be_cut}

module _ {L : Type 0} (plan : Plan L) (is : IsPlan plan) where
  abbrev model : FznModel
  model = model_of plan

  pub plan_leads : (number : ℕ) (path : Option Bounds) → PartLeadsTo model (kernels_in plan) plan.parts.now plan.start.now number path →
      PartLeadsTo model (kernels_of model) plan.parts.now plan.start.now number path
  plan_leads number path h = subst (λ (ks : List Kernel). PartLeadsTo model ks plan.parts.now plan.start.now number path) is.run.program.kernels h

  -- the search of a run, as the definitions name it
  pub plan_search : (kind : Kind) (known : Option ℤ) (posted : List ℤ) (sub : Bounds) →
      ◌≡◌ {A = Search} (record {
        model = model;
        kernels = kernels_in plan;
        sub = sub;
        kind = kind;
        node_limit = plan.run.now.node_limit;
        round_limit = plan.run.now.round_limit;
        lanes = plan.run.now.lanes;
        known = known;
        posted = posted;
      })
      (record {
        model = model;
        kernels = kernels_of model;
        sub = sub;
        kind = kind;
        node_limit = plan.options.node_limit;
        round_limit = plan.options.round_limit;
        lanes = plan.options.lanes;
        known = known;
        posted = posted;
      })
  plan_search kind known posted sub = λ i. record {
    model = model;
    kernels = is.run.program.kernels i;
    sub = sub;
    kind = kind;
    node_limit = is.node_limit i;
    round_limit = is.round_limit i;
    lanes = is.lanes i;
    known = known;
    posted = posted;
  }

  first_none : (number : ℕ) (seen : List ℕ) → PartLeadsTo model (kernels_in plan) plan.parts.now plan.start.now number None →
      HasResult model plan.parts.now plan.start.now (IsFirstRun model plan.options seen) number (FirstEnd.Done None)
  first_none number seen h = record { path = None; leads = plan_leads number None h; is_result = refl }

  -- what ends a run of the search ends that of the number
  first_ends_run : (number : ℕ) (seen : List ℕ) (sub : Bounds) (end : FirstEnd) → IsFirstEnd (first_of model plan.options sub) number seen end → IsFirstRun model plan.options seen number (Some sub) end
  first_ends_run number seen sub (FirstEnd.Done answer) h = h
  first_ends_run number seen sub (FirstEnd.Spent nodes why) h = h
  first_ends_run number seen sub (FirstEnd.Cut lesser) h = (h.0, h.1.0)

  first_some : (number : ℕ) (seen : List ℕ) (sub : Bounds) (end : FirstEnd) → PartLeadsTo model (kernels_in plan) plan.parts.now plan.start.now number (Some sub) →
      IsFirstEnd (search_of model plan.run.now.program.now plan.run.now.node_limit plan.run.now.round_limit plan.run.now.lanes Kind.First sub) number seen end →
      HasResult model plan.parts.now plan.start.now (IsFirstRun model plan.options seen) number end
  first_some number seen sub end h k = record {
    path = Some sub;
    leads = plan_leads number (Some sub) h;
    is_result = first_ends_run number seen sub end (subst (λ (s : Search). IsFirstEnd s number seen end) (plan_search Kind.First None [] sub) k);
  }

  -- a number that leads to nothing has no solution
  pub first_run_none : (seen posted : List ℕ) (number : ℕ) (runs : List (ℕ × FirstEnd)) → PartLeadsTo model (kernels_in plan) plan.parts.now plan.start.now number None →
      AreFirstRuns model plan.options plan.parts.now plan.start.now seen posted runs → AreFirstRuns model plan.options plan.parts.now plan.start.now seen posted (runs ++ (number, FirstEnd.Done None) ∷ [])
  first_run_none seen posted number runs h k =
      first_run_more model plan.options plan.parts.now plan.start.now seen seen posted posted runs number (FirstEnd.Done None) k (λ x there. there) (first_none number seen h) refl

  -- the run of a subproblem
  pub first_run_some : (seen after posted posts : List ℕ) (number : ℕ) (sub : Bounds) (end : FirstEnd) (runs : List (ℕ × FirstEnd)) →
      PartLeadsTo model (kernels_in plan) plan.parts.now plan.start.now number (Some sub) → AllAmong seen after →
      IsFirstEnd (search_of model plan.run.now.program.now plan.run.now.node_limit plan.run.now.round_limit plan.run.now.lanes Kind.First sub) number after end →
      posts ≡ posts_of number posted end → AreFirstRuns model plan.options plan.parts.now plan.start.now seen posted runs →
      AreFirstRuns model plan.options plan.parts.now plan.start.now after posts (runs ++ (number, end) ∷ [])
  first_run_some seen after posted posts number sub end runs h all is_end e k =
      first_run_more model plan.options plan.parts.now plan.start.now seen after posted posts runs number end k all (first_some number after sub end h is_end) e

  -- a number above one that has a solution, wherever it leads
  pub first_run_cut : (order : InsideOrder) (laws : PathLaws) → IsInRange plan.start.now → (seen after posted posts : List ℕ) (number lesser : ℕ) (runs : List (ℕ × FirstEnd)) →
      number < length plan.parts.now → lesser < number → Among after lesser → AllAmong seen after → posts ≡ posted → AreFirstRuns model plan.options plan.parts.now plan.start.now seen posted runs →
      AreFirstRuns model plan.options plan.parts.now plan.start.now after posts (runs ++ (number, FirstEnd.Cut lesser) ∷ [])
  first_run_cut order laws range seen after posted posts number lesser runs below less there all e k =
      let paths = every_at laws model (kernels_of model) plan.parts.now plan.start.now is.parts can in
      first_run_more model plan.options plan.parts.now plan.start.now seen after posted posts runs number (FirstEnd.Cut lesser) k all
      (record { path = slice_index_or paths.0 number None; leads = paths.1.each number below; is_result = (less, there) }) e
    where
      can : CanBeCut model (kernels_of model) plan.start.now
      can = can_be_cut order model is.run.model.search (is_program model plan.run.now.program.now is.run.program) plan.start.now
          (subst (λ (b : Bounds). IsInside plan.start.now b) is.run.program.start is.inside) range

  -- ---- for all solutions

  pub all_run_none : (number : ℕ) (runs : List (ℕ × AllEnd)) → PartLeadsTo model (kernels_in plan) plan.parts.now plan.start.now number None →
      AreAllRuns model plan.options plan.parts.now plan.start.now runs → AreAllRuns model plan.options plan.parts.now plan.start.now (runs ++ (number, AllEnd.Done []) ∷ [])
  all_run_none number runs h k =
      all_run_more model plan.options plan.parts.now plan.start.now runs number (AllEnd.Done []) k (record { path = None; leads = plan_leads number None h; is_result = refl })

  pub all_run_some : (number : ℕ) (sub : Bounds) (end : AllEnd) (runs : List (ℕ × AllEnd)) → PartLeadsTo model (kernels_in plan) plan.parts.now plan.start.now number (Some sub) →
      IsAllEnd (search_of model plan.run.now.program.now plan.run.now.node_limit plan.run.now.round_limit plan.run.now.lanes Kind.All sub) end →
      AreAllRuns model plan.options plan.parts.now plan.start.now runs → AreAllRuns model plan.options plan.parts.now plan.start.now (runs ++ (number, end) ∷ [])
  all_run_some number sub end runs h is_end k =
      all_run_more model plan.options plan.parts.now plan.start.now runs number end k (record {
        path = Some sub;
        leads = plan_leads number (Some sub) h;
        is_result = subst (λ (s : Search). IsAllEnd s end) (plan_search Kind.All None [] sub) is_end;
      })

-- what a seat had seen was posted, if all that it has seen after a look was
pub seen_was_posted : {A : Type 0} (o : Option A) (seen after posted posts : List A) → after ≡ with_seen o seen → posts ≡ posted → AllAmong after posts → AllAmong seen posted
seen_was_posted {A} o seen after posted posts e p all x h =
    subst (λ (xs : List A). Among xs x) p (all x (subst (λ (xs : List A). Among xs x) (sym e) (still o)))
  where
    still : (o : Option A) → Among (with_seen o seen) x
    still None = h
    still (Some y) = inr h

-- what is kept for boxes of a start's variables is kept for those of a box inside, and the other way round
pub kept_inside : (kernels : List Kernel) (lanes : ℕ) (b start : Bounds) (kept : Kept) → IsInside b start → IsKeptFor kernels lanes (length start) kept → IsKeptFor kernels lanes (length b) kept
kept_inside kernels lanes b start kept inside h = subst (λ (n : ℕ). IsKeptFor kernels lanes n kept) (sym inside.same_length) h

pub kept_around : (kernels : List Kernel) (lanes : ℕ) (b start : Bounds) (kept : Kept) → IsInside b start → IsKeptFor kernels lanes (length b) kept → IsKeptFor kernels lanes (length start) kept
kept_around kernels lanes b start kept inside h = subst (λ (n : ℕ). IsKeptFor kernels lanes n kept) inside.same_length h

-- a walk takes the box back that it gave out, whatever was left above the way
pub taken_back : {L : Type 0} (plan : Plan L) → IsPlan plan → (walk : Walk) (found : Subproblem) (boxes : Trailed) →
    StandsUnder (model_of plan) (kernels_in plan) plan.start.now walk (Some found) → IsInside found.boxes.current plan.run.now.program.now.start →
    IsOver found.boxes.stack boxes.stack → length boxes.current ≡ length found.boxes.current → IsOnWay (model_of plan) (kernels_in plan) plan.start.now walk boxes
taken_back plan is walk found boxes stands inside over same = record {
  way = found.boxes.stack;
  stands = stands;
  over = over;
  same_length = same ∙ inside.same_length ∙ sym is.inside.same_length;
}

-- what lies in the box that is parted lies in the start
pub inside_more : InsideOrder → (found : Option Subproblem) (b start : Bounds) → IfSome (box_of found) (λ x. IsInside x b) → IsInside b start → IfSome (box_of found) (λ x. IsInside x start)
inside_more order None b start h outer = tt
inside_more order (Some sub) b start h outer = order.through sub.boxes.current b start h outer
