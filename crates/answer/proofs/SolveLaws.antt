-- Whatever the searches of the subproblems collect solves the model.
use Rattle.std.proofs.Common.{◌≡◌, ℕ, ◌<◌, ℤ, List, [], ◌∷◌, length, All, flat_map, Option, None, Some, refl, sym, subst, ◌∙◌}
use Rattle.std.proofs.lemmas.List.Elements.{All-nil, All-cons, All-head, All-tail}
use Rattle.interval.specs.Boxes.{Bounds, IsInside, IsInRange, InsideOrder}
use Rattle.constraint_model.specs.declared.model.FznModel.{FznModel}
use Rattle.constraint_model.specs.Relations.{IsSolution}
use Rattle.constraint_model.specs.Searches.{IsSearchOf}
use Rattle.constraint_model.specs.WellFormed.{IsGoalOf}
use Rattle.decompose.specs.Kernels.{kernels_of}
use Rattle.decompose.specs.Program.{start_of, IsProgramOf}
use Rattle.subproblems.specs.Cuts.{CanBeCut, CutLaws}
use Rattle.subproblems.specs.Paths.{PathLaws}
use Rattle.search.specs.declared.kind.Kind.{Kind}
use Rattle.search.specs.declared.ends.Why.{Why}
use Rattle.search.specs.declared.ends.FirstEnd.{FirstEnd}
use Rattle.search.specs.declared.ends.AllEnd.{AllEnd}
use Rattle.search.specs.Machine.{Search, State, Reached}
use Rattle.search.specs.Ends.{head_of, EndsDone, EndsSpent}
use Rattle.search.specs.Laws.{IsInsideStart, RecordsSolutions}
use Rattle.search.specs.declared.ends.LeastEnd.{LeastEnd}
use Rattle.search.specs.LeastEnds.{least_of, last_of}
use Rattle.tree_cover.specs.declared.part.Part.{Part}
use Rattle.answer.specs.declared.options.Options.{Options}
use Rattle.answer.specs.Lists.{Assignment}
use Rattle.answer.specs.Places.{StandsAt, PartLeadsTo, AreResults}
use Rattle.answer.specs.Results.{program_of, listed, first_of, IsFirstResult, AreFirstResults, first_collected, all_of, IsAllResult, all_collected, LeastResult, IsLeastResult, least_collected, collected_in}
use Rattle.answer.proofs.AlongLaws.{all_in_each}
use Rattle.answer.proofs.PartPaths.{inside_at, can_at}

module _ (order : InsideOrder) (laws : PathLaws) (cuts : CutLaws) (records : RecordsSolutions) (model : FznModel) (rule : IsSearchOf model) (goal : IsGoalOf model.vars model.goal)
    (f : IsProgramOf model (program_of model)) where
  abbrev Solve : List Assignment → Type 0
  Solve found = All (IsSolution model) found

  -- ---- one search

  recorded : (s : Search) (state : State) (found : List Assignment) → s.model ≡ model → IsInsideStart s → Reached s state → found ≡ state.found → Solve found
  recorded s state found same inside reached e =
      subst (λ (xs : List Assignment). Solve xs) (sym e)
      (subst (λ (m : FznModel). All (IsSolution m) state.found) same (λ (i : ℕ) (d : Assignment) (l : i < length state.found). (records s state inside reached i d l).solves))

  inside_start : (options : Options) (kind : Kind) (posted : List ℤ) (sub : Bounds) → IsInside sub (start_of model) → IsInRange sub → IsInsideStart (record {
    model = model;
    kernels = kernels_of model;
    sub = sub;
    kind = kind;
    node_limit = options.node_limit;
    round_limit = options.round_limit;
    lanes = options.lanes;
    known = None;
    posted = posted;
  })
  inside_start options kind posted sub i range = record {
    program = program_of model;
    means = f;
    kernels = refl;
    inside = i;
    in_range = range;
    phases = rule;
    objective = goal;
  }

  spent_solve : (s : Search) (why : Why) (nodes : ℕ) (found : List Assignment) → s.model ≡ model → IsInsideStart s → EndsSpent s why nodes found → Solve found
  spent_solve s Why.Nodes nodes found same inside h = recorded s h.state found same inside h.reached h.is_found
  spent_solve s Why.Rounds nodes found same inside h = recorded s h.out.before found same inside h.out.reached (h.is_found ∙ h.out.found)

  done_solve : (s : Search) (found : List Assignment) → s.model ≡ model → IsInsideStart s → EndsDone s found → Solve found
  done_solve s found same inside h = recorded s h.state found same inside h.reached h.is_found

  head_solves : (found : List Assignment) (answer : Option Assignment) → answer ≡ head_of found → Solve found → Solve (listed answer)
  head_solves found None e h = All-nil (IsSolution model)
  head_solves [] (Some a) e h = absurd cc
  head_solves (x ∷ xs) (Some a) e h =
      let same : x ≡ a = cc in
      All-cons (IsSolution model) a [] (subst (IsSolution model) same (All-head (IsSolution model) x xs h)) (All-nil (IsSolution model))

  last_solves : (found : List Assignment) (answer : Option Assignment) → answer ≡ last_of found → Solve found → Solve (listed answer)
  last_solves found None e h = All-nil (IsSolution model)
  last_solves [] (Some a) e h = absurd cc
  last_solves (x ∷ []) (Some a) e h =
      let same : x ≡ a = cc in
      All-cons (IsSolution model) a [] (subst (IsSolution model) same (All-head (IsSolution model) x [] h)) (All-nil (IsSolution model))
  last_solves (x ∷ y ∷ ys) (Some a) e h = last_solves (y ∷ ys) (Some a) e (All-tail (IsSolution model) x (y ∷ ys) h)

  -- ---- the searches of all parts

  -- the subproblems of a box inside the start
  module _ (options : Options) (parts : List Part) (b : Bounds) (can : CanBeCut model (kernels_of model) b) (i : IsInside b (start_of model)) where
    in_box : (number : ℕ) (sub : Bounds) → PartLeadsTo model (kernels_of model) parts b number (Some sub) → IsInside sub (start_of model)
    in_box number sub h = order.through sub b (start_of model) (inside_at laws model (kernels_of model) parts b number sub can h) i

    ranged : (number : ℕ) (sub : Bounds) → PartLeadsTo model (kernels_of model) parts b number (Some sub) → IsInRange sub
    ranged number sub h = (can_at cuts model (kernels_of model) parts b number sub can h).in_range

    first_solves : (results : List FirstEnd) (number : ℕ) (path : Option Bounds) (r : FirstEnd) → PartLeadsTo model (kernels_of model) parts b number path →
        IsFirstResult model options results number path r → Solve (first_collected r)
    first_solves results number path (FirstEnd.Spent nodes why) leads h = All-nil (IsSolution model)
    first_solves results number path (FirstEnd.Cut lesser) leads h = All-nil (IsSolution model)
    first_solves results number None (FirstEnd.Done answer) leads h = subst (λ (o : Option Assignment). Solve (listed o)) (sym h) (All-nil (IsSolution model))
    first_solves results number (Some sub) (FirstEnd.Done answer) leads h =
        head_solves h.found answer h.recorded
        (done_solve (first_of model options sub) h.found refl (inside_start options Kind.First [] sub (in_box number sub leads) (ranged number sub leads)) h.ends)

    pub firsts_solve : (results : List FirstEnd) → AreFirstResults model options parts b results → Solve (flat_map first_collected results)
    firsts_solve results are =
        all_in_each (IsSolution model) first_collected results
        (λ (j : ℕ) (r : FirstEnd) (h : StandsAt results j r). let own = are.each j r h in first_solves results j own.path r own.leads own.is_result)

    all_solves : (number : ℕ) (path : Option Bounds) (r : AllEnd) → PartLeadsTo model (kernels_of model) parts b number path → IsAllResult model options number path r → Solve (all_collected r)
    all_solves number None r leads h = subst (λ (e : AllEnd). Solve (all_collected e)) (sym h) (All-nil (IsSolution model))
    all_solves number (Some sub) (AllEnd.Done found) leads h =
        done_solve (all_of model options sub) found refl (inside_start options Kind.All [] sub (in_box number sub leads) (ranged number sub leads)) h.ends
    all_solves number (Some sub) (AllEnd.Spent nodes why found) leads h =
        spent_solve (all_of model options sub) why nodes found refl (inside_start options Kind.All [] sub (in_box number sub leads) (ranged number sub leads)) h

    pub all_solve : (results : List AllEnd) → AreResults model parts b (IsAllResult model options) results → Solve (flat_map all_collected results)
    all_solve results are =
        all_in_each (IsSolution model) all_collected results
        (λ (j : ℕ) (r : AllEnd) (h : StandsAt results j r). let own = are.each j r h in all_solves j own.path r own.leads own.is_result)

    least_solves : (posted : List ℤ) (number : ℕ) (path : Option Bounds) (found : List Assignment) (end : LeastEnd) → PartLeadsTo model (kernels_of model) parts b number path →
        IsLeastResult model options posted number path (found, end) → Solve (least_collected end)
    least_solves posted number None found end leads h = subst (λ (r : LeastResult). Solve (least_collected r.1)) (sym h) (All-nil (IsSolution model))
    least_solves posted number (Some sub) found (LeastEnd.Done answer) leads h =
        last_solves found answer h.1
        (done_solve (least_of model (program_of model) options.node_limit options.round_limit options.lanes None posted sub) found refl
        (inside_start options Kind.Least posted sub (in_box number sub leads) (ranged number sub leads)) h.0)
    least_solves posted number (Some sub) found (LeastEnd.Spent nodes why so_far) leads h =
        last_solves found so_far h.1
        (spent_solve (least_of model (program_of model) options.node_limit options.round_limit options.lanes None posted sub) why nodes found refl
        (inside_start options Kind.Least posted sub (in_box number sub leads) (ranged number sub leads)) h.0)

    pub least_solve : (posted : List ℤ) (results : List LeastResult) → AreResults model parts b (IsLeastResult model options posted) results → Solve (collected_in results)
    least_solve posted results are =
        all_in_each (IsSolution model) (λ (r : LeastResult). least_collected r.1) results
        (λ (j : ℕ) (r : LeastResult) (h : StandsAt results j r). let own = are.each j r h in least_solves posted j own.path r.0 r.1 own.leads own.is_result)
