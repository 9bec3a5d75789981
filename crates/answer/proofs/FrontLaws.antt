-- What was collected of each part, where all solutions are asked for, is a front of its list.
use Rattle.std.proofs.Common.{◌≡◌, ◌≢◌, ℕ, List, [], ◌∷◌, ◌++◌, map, flat_map, append-nil, Option, None, Some, refl, sym, ap, subst, ◌∙◌}
use Rattle.std.proofs.lemmas.List.{length-map}
use Rattle.interval.specs.Boxes.{Bounds, InsideOrder}
use Rattle.constraint_model.specs.declared.model.FznModel.{FznModel}
use Rattle.constraint_model.specs.WellFormed.{IsWellFormed}
use Rattle.decompose.specs.Kernels.{kernels_of}
use Rattle.decompose.specs.Program.{start_of, IsProgramOf}
use Rattle.branching.specs.Tree.{SolutionsIn}
use Rattle.subproblems.specs.Cuts.{CanBeCut, CutLaws}
use Rattle.search.specs.declared.kind.Kind.{Kind}
use Rattle.search.specs.declared.ends.Why.{Why}
use Rattle.search.specs.declared.ends.AllEnd.{AllEnd}
use Rattle.search.specs.Machine.{State, Reached}
use Rattle.search.specs.Ends.{EndsSpent}
use Rattle.search.specs.Laws.{PrefixLaws}
use Rattle.tree_cover.specs.declared.part.Part.{Part}
use Rattle.tree_cover.specs.Covers.{parts_to}
use Rattle.answer.specs.declared.options.Options.{Options}
use Rattle.answer.specs.Lists.{Assignment}
use Rattle.answer.specs.Places.{StandsAt, PartLeadsTo, HasResult, AreResults}
use Rattle.answer.specs.Results.{program_of, all_of, IsAllResult, all_collected}
use Rattle.answer.specs.Fronts.{IsFrontOfPart, ComeInFronts}
use Rattle.answer.proofs.ListedLaws.{start_can_be_cut}
use Rattle.answer.proofs.PartPaths.{can_at}
use Rattle.answer.proofs.Chosen.{mapped_at}

joined : {A B : Type 0} (f : A → List B) (xs : List A) → flat_map f xs ≡ flat_map (λ (ys : List B). ys) (map f xs)
joined f [] = refl
joined f (x ∷ xs) = ap (λ ys. f x ++ ys) (joined f xs)

module _ (order : InsideOrder) (cuts : CutLaws) (prefix : PrefixLaws) (model : FznModel) (form : IsWellFormed model) (f : IsProgramOf model (program_of model)) (options : Options) where
  abbrev parts : List Part
  parts = parts_to options.depth

  -- what a search has found in a state that it reaches
  found_first : (sub : Bounds) → CanBeCut model (kernels_of model) sub → (state : State) (found : List Assignment) → Reached (all_of model options sub) state → found ≡ state.found → IsFrontOfPart model (Some sub) found
  found_first sub can state found reached e =
      let not_least : Kind.All ≢ Kind.Least = (λ (k : Kind.All ≡ Kind.Least). cc) in
      let left = prefix.some (all_of model options sub) state can.search can.long can.in_range can.fit reached in
      record {
        rest = left.0;
        listed = subst (λ (xs : List Assignment). SolutionsIn model (kernels_of model) sub (xs ++ left.0)) (sym e) (prefix.all (all_of model options sub) state left.0 not_least reached left.1);
      }

  spent_front : (sub : Bounds) → CanBeCut model (kernels_of model) sub → (why : Why) (nodes : ℕ) (found : List Assignment) → EndsSpent (all_of model options sub) why nodes found → IsFrontOfPart model (Some sub) found
  spent_front sub can Why.Nodes nodes found h = found_first sub can h.state found h.reached h.is_found
  spent_front sub can Why.Rounds nodes found h = found_first sub can h.out.before found h.out.reached (h.is_found ∙ h.out.found)

  is_front : (number : ℕ) (path : Option Bounds) (end : AllEnd) → PartLeadsTo model (kernels_of model) parts (start_of model) number path → IsAllResult model options number path end → IsFrontOfPart model path (all_collected end)
  is_front number None end leads h = record { rest = []; listed = append-nil (all_collected end) ∙ ap all_collected h }
  is_front number (Some sub) (AllEnd.Done found) leads h = record {
    rest = [];
    listed = subst (λ (xs : List Assignment). SolutionsIn model (kernels_of model) sub xs) (sym (append-nil found)) h.listed;
  }
  is_front number (Some sub) (AllEnd.Spent nodes why found) leads h =
      spent_front sub (can_at cuts model (kernels_of model) parts (start_of model) number sub (start_can_be_cut order model form.search f) leads) why nodes found h

  pub come_in_fronts : (results : List AllEnd) → AreResults model parts (start_of model) (IsAllResult model options) results → (solutions : List Assignment) → solutions ≡ flat_map all_collected results →
      ComeInFronts model options solutions
  come_in_fronts results are solutions e = record {
    fronts = map all_collected results;
    are = record {
      count = length-map results all_collected ∙ are.count;
      each = λ number front s. of_result number front (mapped_at all_collected results number front s);
    };
    joined = e ∙ joined all_collected results;
  }
    where
      of_result : (number : ℕ) (front : List Assignment) → (end : AllEnd) × StandsAt results number end × (all_collected end ≡ front) →
          HasResult model parts (start_of model) (λ number path front. IsFrontOfPart model path front) number front
      of_result number front (end, there, e) =
          let own = are.each number end there in
          record { path = own.path; leads = own.leads; is_result = subst (IsFrontOfPart model own.path) e (is_front number own.path end own.leads own.is_result) }
