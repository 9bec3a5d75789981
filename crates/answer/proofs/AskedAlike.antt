-- An answer that was asked for alike is an answer by other workers and lanes, where that makes no difference.
use Rattle.std.proofs.Common.{◌≡◌, ◌⊎◌, inl, inr, ℕ, ℤ, Bool, true, false, List, [], Option, None, Some, sym, subst, ◌∙◌}
use Rattle.interval.specs.Boxes.{Bounds}
use Rattle.constraint_model.specs.declared.model.Goal.{Goal}
use Rattle.constraint_model.specs.declared.model.FznModel.{FznModel}
use Rattle.decompose.specs.Program.{start_of}
use Rattle.search.specs.declared.ends.Why.{Why}
use Rattle.search.specs.declared.ends.FirstEnd.{FirstEnd}
use Rattle.search.specs.declared.ends.AllEnd.{AllEnd}
use Rattle.search.specs.declared.ends.LeastEnd.{LeastEnd}
use Rattle.search.specs.Machine.{Search}
use Rattle.search.specs.Ends.{EndsDone, EndsSpent}
use Rattle.search.specs.LeastEnds.{least_of, EndsLeast}
use Rattle.search.specs.Laws.{LaneLaws}
use Rattle.fzn_print.specs.declared.answers.Answer.{Answer}
use Rattle.tree_cover.specs.declared.part.Part.{Part}
use Rattle.tree_cover.specs.Covers.{parts_to}
use Rattle.answer.specs.declared.options.Options.{Options}
use Rattle.answer.specs.Cuts.{cut_to}
use Rattle.answer.specs.Lists.{Assignment}
use Rattle.answer.specs.Results.{program_of, first_of, IsFirstResult, AreFirstResults, all_of, IsAllResult, AreAllResults, LeastResult, IsLeastResult, IsResultFrom, AreInTurn, AreLeastResults}
use Rattle.answer.specs.Unfinished.{FindsBest, IsFirstCollected, AreAllCollected, IsBestCollected, IsLeastCollected, GivesCollected}
use Rattle.answer.specs.Unspent.{IsUnspentFirst, IsUnspentLeast, IsUnspentFor}
use Rattle.answer.specs.Answers.{IsAnswer}
use Rattle.answer.specs.Laws.{AskAlike, IsPinned}
use Rattle.answer.proofs.RunLists.{result_kept}

-- ---- one search

-- another number of lanes makes no difference: there is no limit on rounds, or there are as many
abbrev AreFree : Search → ℕ → Type 0
AreFree s lanes = (s.round_limit ≡ 0) ⊎ (s.lanes ≡ lanes)

module _ (laws : LaneLaws) (lanes : ℕ) where
  done_by : (s : Search) (found : List Assignment) → AreFree s lanes → EndsDone s found → EndsDone (record s { lanes = lanes }) found
  done_by s found (inl none) h = laws.done s lanes found none h
  done_by s found (inr same) h = subst (λ (n : ℕ). EndsDone (record s { lanes = n }) found) same h

  spent_by : (s : Search) (why : Why) (nodes : ℕ) (found : List Assignment) → AreFree s lanes → EndsSpent s why nodes found → EndsSpent (record s { lanes = lanes }) why nodes found
  spent_by s why nodes found (inl none) h = laws.spent s lanes why nodes found none h
  spent_by s why nodes found (inr same) h = subst (λ (n : ℕ). EndsSpent (record s { lanes = n }) why nodes found) same h

  least_by : (s : Search) (found : List Assignment) (end : LeastEnd) → AreFree s lanes → EndsLeast s found end → EndsLeast (record s { lanes = lanes }) found end
  least_by s found (LeastEnd.Done answer) free h = (done_by s found free h.0, h.1)
  least_by s found (LeastEnd.Spent nodes why so_far) free h = (spent_by s why nodes found free h.0, h.1)

-- ---- by other workers and lanes

abbrev by_others : Options → ℕ → ℕ → ℕ → Bool → Options
by_others options workers lanes most_parts steal = record {
  all = options.all;
  workers = workers;
  lanes = lanes;
  depth = options.depth;
  most_parts = most_parts;
  node_limit = options.node_limit;
  round_limit = options.round_limit;
  steal = steal;
}

module _ (laws : LaneLaws) (model : FznModel) (options : Options) (workers lanes most_parts : ℕ) (steal : Bool) (free : (options.round_limit ≡ 0) ⊎ (lanes ≡ options.lanes)) where
  abbrev others : Options
  others = by_others options workers lanes most_parts steal

  -- ---- results

  first_as : (results : List FirstEnd) (number : ℕ) (path : Option Bounds) (end : FirstEnd) → IsFirstResult model others results number path end → IsFirstResult model options results number path end
  first_as results number path (FirstEnd.Cut lesser) h = h
  first_as results number None (FirstEnd.Done answer) h = h
  first_as results number None (FirstEnd.Spent nodes why) h = h
  first_as results number (Some sub) (FirstEnd.Done answer) h = record {
    found = h.found;
    ends = done_by laws options.lanes (first_of model others sub) h.found free h.ends;
    recorded = h.recorded;
    solutions = h.solutions;
    listed = h.listed;
    is_head = h.is_head;
  }
  first_as results number (Some sub) (FirstEnd.Spent nodes why) h = spent_by laws options.lanes (first_of model others sub) why nodes [] free h

  firsts_as : (parts : List Part) (b : Bounds) (results : List FirstEnd) → AreFirstResults model others parts b results → AreFirstResults model options parts b results
  firsts_as parts b results h = record {
    count = h.count;
    each = λ number end there. result_kept model parts b (IsFirstResult model others results) (IsFirstResult model options results) (first_as results) number end (h.each number end there);
  }

  all_as : (number : ℕ) (path : Option Bounds) (end : AllEnd) → IsAllResult model others number path end → IsAllResult model options number path end
  all_as number None end h = h
  all_as number (Some sub) (AllEnd.Done found) h = record { ends = done_by laws options.lanes (all_of model others sub) found free h.ends; listed = h.listed }
  all_as number (Some sub) (AllEnd.Spent nodes why found) h = spent_by laws options.lanes (all_of model others sub) why nodes found free h

  alls_as : (parts : List Part) (results : List AllEnd) → AreAllResults model others parts results → AreAllResults model options parts results
  alls_as parts results h = record {
    count = h.count;
    each = λ number end there. result_kept model parts (start_of model) (IsAllResult model others) (IsAllResult model options) all_as number end (h.each number end there);
  }

  least_as : (posted : List ℤ) (number : ℕ) (path : Option Bounds) (result : LeastResult) → IsLeastResult model others posted number path result → IsLeastResult model options posted number path result
  least_as posted number None result h = h
  least_as posted number (Some sub) result h =
      least_by laws options.lanes (least_of model (program_of model) options.node_limit options.round_limit lanes None posted sub) result.0 result.1 free h

  from_as : (known : Option ℤ) (number : ℕ) (path : Option Bounds) (result : LeastResult) → IsResultFrom model others known number path result → IsResultFrom model options known number path result
  from_as known number None result h = h
  from_as known number (Some sub) result h =
      least_by laws options.lanes (least_of model (program_of model) options.node_limit options.round_limit lanes known [] sub) result.0 result.1 free h

  module _ (one : workers ≡ 1) where
    turns_as : (parts : List Part) (results : List LeastResult) → AreInTurn model others parts results → AreInTurn model options parts results
    turns_as parts results h = λ number result there.
        let own = h number result there in
        record {
          known = own.known;
          is_known = own.is_known;
          has_result = result_kept model parts (start_of model) (IsResultFrom model others own.known) (IsResultFrom model options own.known) (from_as own.known) number result own.has_result;
        }

    leasts_as : (parts : List Part) (results : List LeastResult) → AreLeastResults model others parts results → AreLeastResults model options parts results
    leasts_as parts results h = record {
      posted = h.posted;
      recorded = h.recorded;
      are = record {
        count = h.are.count;
        each = λ number result there.
            result_kept model parts (start_of model) (IsLeastResult model others h.posted) (IsLeastResult model options h.posted) (least_as h.posted) number result (h.are.each number result there);
      };
      in_turn = λ own. turns_as parts results (h.in_turn one);
    }

    best_as : (parts : List Part) (best : Assignment) → FindsBest model others parts best → FindsBest model options parts best
    best_as parts best h = record { results = h.results; are = leasts_as parts h.results h.are; unspent = h.unspent; is_best = h.is_best }

  -- ---- answers

  module _ (answer : Answer) where
    first_collected_as : IsFirstCollected model others answer → IsFirstCollected model options answer
    first_collected_as h = record { results = h.results; are = firsts_as (parts_to options.depth) (start_of model) h.results h.are; is_open = h.is_open; solutions = h.solutions; mark = h.mark }

    all_collected_as : AreAllCollected model others answer → AreAllCollected model options answer
    all_collected_as h = record { results = h.results; are = alls_as (parts_to options.depth) h.results h.are; spent = h.spent; solutions = h.solutions; mark = h.mark }

    cost_collected_as : workers ≡ 1 → IsBestCollected model others answer ⊎ IsLeastCollected model others answer → IsBestCollected model options answer ⊎ IsLeastCollected model options answer
    cost_collected_as one (inl h) =
        inl (record { results = h.results; are = leasts_as one (parts_to options.depth) h.results h.are; spent = h.spent; best = h.best; is_best = h.is_best; solutions = h.solutions; mark = h.mark })
    cost_collected_as one (inr h) = inr (record {
      cost = h.cost;
      least = h.least;
      best = h.best;
      found = best_as one (parts_to options.depth) h.best h.found;
      results = h.results;
      are = firsts_as (parts_to options.depth) (cut_to model.goal h.cost (start_of model)) h.results h.are;
      is_open = h.is_open;
      solutions = h.solutions;
      mark = h.mark;
    })

    collected_as : (goal : Goal) (all : Bool) → (goal ≡ Goal.Satisfy) ⊎ (workers ≡ 1) → GivesCollected goal all model others answer → GivesCollected goal all model options answer
    collected_as Goal.Satisfy false sole h = first_collected_as h
    collected_as Goal.Satisfy true sole h = all_collected_as h
    collected_as (Goal.Minimize t) all (inl e) h = absurd cc
    collected_as (Goal.Minimize t) all (inr one) h = cost_collected_as one h
    collected_as (Goal.Maximize t) all (inl e) h = absurd cc
    collected_as (Goal.Maximize t) all (inr one) h = cost_collected_as one h

  unspent_first_as : (b : Bounds) → IsUnspentFirst model others b → IsUnspentFirst model options b
  unspent_first_as b h = record { results = h.results; are = firsts_as (parts_to options.depth) b h.results h.are; none_open = h.none_open }

  unspent_least_as : workers ≡ 1 → IsUnspentLeast model others → IsUnspentLeast model options
  unspent_least_as one h = record {
    results = h.results;
    are = leasts_as one (parts_to options.depth) h.results h.are;
    unspent = h.unspent;
    second = λ cost least. unspent_first_as (cut_to model.goal cost (start_of model)) (h.second cost least);
  }

  unspent_as : (goal : Goal) (all : Bool) → (goal ≡ Goal.Satisfy) ⊎ (workers ≡ 1) → IsUnspentFor goal all model others → IsUnspentFor goal all model options
  unspent_as Goal.Satisfy false sole h = unspent_first_as (start_of model) h
  unspent_as Goal.Satisfy true sole h = record { results = h.results; are = alls_as (parts_to options.depth) h.results h.are; unspent = h.unspent }
  unspent_as (Goal.Minimize t) all (inl e) h = absurd cc
  unspent_as (Goal.Minimize t) all (inr one) h = unspent_least_as one h
  unspent_as (Goal.Maximize t) all (inl e) h = absurd cc
  unspent_as (Goal.Maximize t) all (inr one) h = unspent_least_as one h

  answer_as : (model.goal ≡ Goal.Satisfy) ⊎ (workers ≡ 1) → (answer : Answer) → IsAnswer model others answer → IsAnswer model options answer
  answer_as sole answer (inl h) = inl (record { finished = h.finished; unspent = λ limit. unspent_as model.goal options.all sole (h.unspent limit) })
  answer_as sole answer (inr h) = inr (collected_as answer model.goal options.all sole h)

-- options that ask alike are by other workers and lanes
same_asked : (o p : Options) → AskAlike o p → p ≡ by_others o p.workers p.lanes p.most_parts p.steal
same_asked o p alike = λ i. record {
  all = sym alike.all i;
  workers = p.workers;
  lanes = p.lanes;
  depth = sym alike.depth i;
  most_parts = p.most_parts;
  node_limit = sym alike.node_limit i;
  round_limit = sym alike.round_limit i;
  steal = p.steal;
}

free_lanes : (o p : Options) → AskAlike o p → (o.round_limit ≡ 0) ⊎ (o.lanes ≡ 1) → (p.round_limit ≡ 0) ⊎ (p.lanes ≡ 1) → (o.round_limit ≡ 0) ⊎ (p.lanes ≡ o.lanes)
free_lanes o p alike (inl none) k = inl none
free_lanes o p alike (inr own) (inl none) = inl (alike.round_limit ∙ none)
free_lanes o p alike (inr own) (inr its) = inr (its ∙ sym own)

pub asked_alike : (laws : LaneLaws) (model : FznModel) (o p : Options) (answer : Answer) → AskAlike o p → IsPinned model o → IsPinned model p → IsAnswer model p answer → IsAnswer model o answer
asked_alike laws model o p answer alike own its h =
    answer_as laws model o p.workers p.lanes p.most_parts p.steal (free_lanes o p alike own.0 its.0) its.1 answer (subst (λ (q : Options). IsAnswer model q answer) (same_asked o p alike) h)
