-- A search that is kept over its turns stays in a state that it reaches.
use Rattle.std.proofs.Common.{◌≡◌, ◌≢◌, ℕ, suc, ℤ, pos, ◌-ℤ◌, ◌+◌, ◌-◌, ◌≤◌, ◌<◌, ◌<ℤ◌, ◌≤ℤ◌, ◌⊎◌, inl, inr, Bool, true, false, cond, List, [], ◌∷◌, ◌++◌, length, Option, Some, None, refl, sym, ap, subst, ◌∙◌, arith, append-nil, length-append}
use Rattle.std.specs.Prelude.{IfSome, IfNone, int_lt}
use Rattle.std.specs.Int.{int_min}
use Rattle.std.specs.List.{All, Any, Contains}
use Rattle.std.specs.Bool.{OnTrue, OnFalse}
use Rattle.std.proofs.lemmas.Int.{ints}
use Rattle.std.proofs.lemmas.List.Elements.{All-head}
use Rattle.interval.specs.Limits.{IsNumber}
use Rattle.interval.specs.Boxes.{Bounds, IsInside, IsInRange, InsideOrder}
use Rattle.constraint_model.specs.declared.model.Goal.{Goal}
use Rattle.constraint_model.specs.Relations.{cost_of, IsSolution}
use Rattle.branching.specs.Tree.{BranchLaws, EveryList, OneList}
use Rattle.solution_lists.specs.Solutions.{LiesIn, SolvesInside}
use Rattle.solution_lists.specs.Static.{IsStaticSearch, Precedes}
use Rattle.search.specs.declared.kind.Kind.{Kind}
use Rattle.search.specs.declared.run.Run.{Run}
use Rattle.search.specs.declared.node.Visit.{Visit}
use Rattle.search.specs.declared.searcher.Searcher.{Searcher}
use Rattle.search.specs.declared.meter.Meter.{Meter}
use Rattle.search.specs.declared.first_turns.FirstTurns.{FirstTurns}
use Rattle.search.specs.declared.least_turns.LeastTurns.{LeastTurns}
use Rattle.search.specs.Costs.{IsBelow, IsAtMost, IsObjectiveIn}
use Rattle.search.specs.Machine.{Search, State, MayFall, cut_by, best_after, Reached, begun}
use Rattle.search.specs.Nodes.{IsTopVisit, HasVisited}
use Rattle.search.specs.Ends.{search_in, told_count, head_of}
use Rattle.search.specs.LeastEnds.{least_in, last_of, IsCost}
use Rattle.search.specs.Laws.{IsInsideStart, RecordsSolutions, FindsLeast, RecordsBelow, MorePosted}
use Rattle.search.specs.Static.{FindsFirst}
use Rattle.search.specs.Premises.{IsRun, CanSearch}
use Rattle.search.specs.Stacks.{boxes_of, count_of, IsReady}
use Rattle.search.specs.Weights.{weight_of}
use Rattle.search.specs.Turns.{IsFirstTurns, IsFirstOf, IsLeastTurns, FindsBetter, CostsAtLeast, IsFirstOfItsCost, IsCutBelow, lesser}
use Rattle.search.proofs.PremiseLaws.{can_search}
use Rattle.search.proofs.CutLaws.{at_most_inside, stays, costs_at_most}
use Rattle.search.proofs.RunLaws.{first_done}
use Rattle.search.proofs.SearchLaws.{IsCounted}
use Rattle.search.proofs.SearchLaws as other
use Rattle.search.proofs.LeastLaws.{after_fall}
use Rattle.search.proofs.LeastRunLaws.{cost_number, objective_in, within_length, few_vars, at_most_one, last_push, can_post, premises}
use Rattle.search.proofs.LeastRunLaws as least

-- ---- the last of what was recorded

-- a list of one at most has one end
last_is_head : (xs : List (List ℤ)) → length xs ≤ 1 → last_of xs ≡ head_of xs
last_is_head [] h = refl
last_is_head (x ∷ []) h = refl
last_is_head (x ∷ y ∷ xs) h = absurd (omega (arith, h))

none_last : (xs : List (List ℤ)) → length xs ≤ 1 → None ≡ last_of xs → xs ≡ []
none_last [] h e = refl
none_last (x ∷ []) h e = absurd (let q : None ≡ Some x = e in cc)
none_last (x ∷ y ∷ xs) h e = absurd (omega (arith, h))

one_last : (xs : List (List ℤ)) (a : List ℤ) → length xs ≤ 1 → Some a ≡ last_of xs → xs ≡ a ∷ []
one_last [] a h e = absurd (let q : Some a ≡ None = e in cc)
one_last (x ∷ []) a h e = let q : Some a ≡ Some x = e in ap (λ (y : List ℤ). y ∷ []) (same x a q)
  where
    same : (x a : List ℤ) → Some a ≡ Some x → x ≡ a
    same x a e = cc
one_last (x ∷ y ∷ xs) a h e = absurd (omega (arith, h))

last_contained : (xs : List (List ℤ)) (a : List ℤ) → last_of xs ≡ Some a → Contains xs a
last_contained [] a e = absurd (let q : None ≡ Some a = e in cc)
last_contained (x ∷ []) a e = let q : Some x ≡ Some a = e in (0, omega arith, same x a q)
  where
    same : (x a : List ℤ) → Some x ≡ Some a → x ≡ a
    same x a e = cc
last_contained (x ∷ y ∷ xs) a e = let k = last_contained (y ∷ xs) a e in (suc k.0, omega (arith, k.1), k.2)

some_more : (xs : List (List ℤ)) (a : List ℤ) → xs ≡ a ∷ [] → xs ≢ []
some_more xs a e n = absurd (let q : a ∷ [] ≡ [] = sym e ∙ n in cc)

-- ---- no limit

-- where there is no limit on nodes every count is below it
counted : (limit count : ℕ) → limit ≡ 0 → IsCounted limit (told_count count) count
counted limit count e = record { told = refl; within = inl e }

fits : (limit : ℕ) → limit ≡ 0 → limit ≤ 18446744073709551615
fits limit e = omega (arith, e)

-- how a node was visited, with nothing recorded before
pub visited : {L : Type 0} (run : Run L) (best : Option ℤ) (before after : List Bounds) (old more : List (List ℤ)) (how wanted : Visit) → old ≡ [] → how ≡ wanted →
    IsTopVisit run.model.now run.program.now.kernels run.round_limit run.lanes best before after old more how →
    IsTopVisit run.model.now run.program.now.kernels run.round_limit run.lanes best before after [] more wanted
visited run best before after old more how wanted e f v =
    subst (IsTopVisit run.model.now run.program.now.kernels run.round_limit run.lanes best before after [] more) f
    (subst (λ (xs : List (List ℤ)). IsTopVisit run.model.now run.program.now.kernels run.round_limit run.lanes best before after xs more how) e v)

-- ---- the first solution

-- before the first turn
pub first_begun : {L : Type 0} (run : Run L) (searcher : Searcher) (b : Bounds) (meter : Meter) → run.node_limit ≡ 0 → run.round_limit ≡ 0 →
    IsInside b run.program.now.start → IsInRange b → searcher.boxes.current ≡ b → boxes_of searcher ≡ searcher.boxes.current ∷ [] → IsReady run searcher →
    IsFirstTurns run (record { searcher = searcher; sub = b; meter = meter })
first_begun run searcher b meter nodes rounds inside range same alone ready = record {
  no_node_limit = nodes;
  no_round_limit = rounds;
  inside = inside;
  in_range = range;
  ready = ready;
  same_count = ap length same;
  count = 0;
  reached = begun (search_in run Kind.First b) (record { stack = boxes_of searcher; best = None; count = 0; found = [] })
      (alone ∙ ap (λ (c : Bounds). c ∷ []) same) refl refl refl;
}

not_least : Kind.First ≢ Kind.Least
not_least e = absurd cc

module _ {L : Type 0} (run : Run L) (r : IsRun run) (turns : FirstTurns) (t : IsFirstTurns run turns) (order : InsideOrder) (branches : BranchLaws) where
  abbrev first_search : Search
  first_search = search_in run Kind.First turns.sub

  pub first_can : CanSearch run (count_of turns.searcher)
  first_can = subst (CanSearch run) (sym t.same_count) (can_search run turns.sub r t.inside)

  abbrev here : CanSearch run (length turns.sub)
  here = can_search run turns.sub r t.inside

  module _ (after : List Bounds) (answer : Option (List ℤ))
      (w : HasVisited run.model.now run.program.now.kernels run.round_limit run.lanes None (boxes_of turns.searcher) after answer) where
    abbrev more : List (List ℤ)
    more = w.found

    abbrev v : IsTopVisit run.model.now run.program.now.kernels run.round_limit run.lanes None (boxes_of turns.searcher) after [] w.found Visit.Done
    v = w.visit

    first_reached : Reached first_search (record { stack = after; best = None; count = t.count + 1; found = more })
    first_reached = other.node_reached first_search not_least (boxes_of turns.searcher) t.count [] t.reached v.rest v.top v.taken (told_count t.count)
        (fits run.node_limit t.no_node_limit) (counted run.node_limit t.count t.no_node_limit) (λ e. refl) (inl t.no_node_limit) after more v.visit

    pub first_less : weight_of after < weight_of (boxes_of turns.searcher)
    first_less = other.node_less first_search not_least (boxes_of turns.searcher) t.count [] t.reached order branches here.phases here.long t.in_range
        v.rest v.top v.taken after more v.visit

    few : length more ≤ 1
    few = at_most_one run.model.now run.program.now.kernels run.round_limit run.lanes v.top v.rest after more v.visit

    -- what the node records is the first solution
    pub first_found : EveryList → OneList → IfSome answer (λ a. IsFirstOf run.model.now run.program.now.kernels turns.sub (Some a))
    first_found every one = by_answer answer w.is_last
      where
        by_answer : (o : Option (List ℤ)) → o ≡ last_of more → IfSome o (λ a. IsFirstOf run.model.now run.program.now.kernels turns.sub (Some a))
        by_answer None e = tt
        by_answer (Some a) e = λ solutions h.
            let some = some_more more a (one_last more a few e) in
            let done = other.done_first first_search not_least after (t.count + 1) more first_reached (refl, some) in
            let d = first_done order branches every first_search refl here.phases here.long t.in_range here.kernels more done (Some a) (e ∙ last_is_head more few) in
            d.is_head ∙ ap head_of (one run.model.now run.program.now.kernels turns.sub d.solutions solutions here.phases d.listed h)

    -- else the search goes on
    pub first_goes_on : (searcher : Searcher) (meter : Meter) → boxes_of searcher ≡ after → IsReady run searcher → count_of searcher ≡ count_of turns.searcher →
        IfNone answer (IsFirstTurns run (record { searcher = searcher; sub = turns.sub; meter = meter }))
    first_goes_on searcher meter same ready count = by_answer answer w.is_last
      where
        next : None ≡ last_of more → IsFirstTurns run (record { searcher = searcher; sub = turns.sub; meter = meter })
        next e = record {
          no_node_limit = t.no_node_limit;
          no_round_limit = t.no_round_limit;
          inside = t.inside;
          in_range = t.in_range;
          ready = ready;
          same_count = count ∙ t.same_count;
          count = t.count + 1;
          reached = subst (λ (bs : List Bounds). Reached first_search (record { stack = bs; best = None; count = t.count + 1; found = [] })) (sym same)
              (subst (λ (xs : List (List ℤ)). Reached first_search (record { stack = after; best = None; count = t.count + 1; found = xs })) (none_last more few e) first_reached);
        }

        by_answer : (o : Option (List ℤ)) → o ≡ last_of more → IfNone o (IsFirstTurns run (record { searcher = searcher; sub = turns.sub; meter = meter }))
        by_answer None e = next e
        by_answer (Some a) e = tt

  -- where no box is left there is none
  pub first_none : EveryList → OneList → boxes_of turns.searcher ≡ [] → IsFirstOf run.model.now run.program.now.kernels turns.sub None
  first_none every one e = λ solutions h.
      let done = other.done_empty first_search not_least (boxes_of turns.searcher) t.count [] t.reached e in
      let d = first_done order branches every first_search refl here.phases here.long t.in_range here.kernels [] done None refl in
      d.is_head ∙ ap head_of (one run.model.now run.program.now.kernels turns.sub d.solutions solutions here.phases d.listed h)

-- ---- the least cost

pub least_begun : {L : Type 0} (run : Run L) (searcher : Searcher) (b : Bounds) (meter : Meter) → run.node_limit ≡ 0 → run.round_limit ≡ 0 → run.model.now.goal ≢ Goal.Satisfy →
    IsInside b run.program.now.start → IsInRange b → searcher.boxes.current ≡ b → boxes_of searcher ≡ searcher.boxes.current ∷ [] → IsReady run searcher →
    IsLeastTurns run (record { searcher = searcher; sub = b; lowest = None; last = None; meter = meter })
least_begun run searcher b meter nodes rounds objective inside range same alone ready = record {
  no_node_limit = nodes;
  no_round_limit = rounds;
  objective = objective;
  inside = inside;
  in_range = range;
  ready = ready;
  same_count = ap length same;
  number = tt;
  posted = [];
  best = None;
  count = 0;
  found = [];
  reached = begun (least_in run [] b) (record { stack = boxes_of searcher; best = None; count = 0; found = [] })
      (alone ∙ ap (λ (c : Bounds). c ∷ []) same) refl refl refl;
  falls = inl refl;
  is_last = refl;
}

-- a cost that is given is posted
falls_more : (posted : List ℤ) (cost : ℤ) (best lowest : Option ℤ) → MayFall posted best lowest → MayFall (cost ∷ posted) best lowest
falls_more posted cost best lowest (inl e) = inl e
falls_more posted cost best lowest (inr (c, (k, h))) = inr (c, ((suc k.0, omega (arith, k.1), k.2), h))

head_contained : (cost : ℤ) (posted : List ℤ) → Contains (cost ∷ posted) cost
head_contained cost posted = (0, omega arith, refl)

below_both : (best : Option ℤ) (low cost : ℤ) → IsBelow low best → cost <ℤ low → IsBelow cost best
below_both None low cost h l = tt
below_both (Some b) low cost h l = omega (arith, ints, h, l)

pub falls_lesser : (posted : List ℤ) (best lowest : Option ℤ) (cost : ℤ) → MayFall posted best lowest → MayFall (cost ∷ posted) best (lesser lowest (Some cost))
falls_lesser posted best None cost (inl e) = inr (cost, (head_contained cost posted, (subst (IsBelow cost) e tt, refl)))
falls_lesser posted best None cost (inr (c, (k, (l, e)))) = absurd (let q : None ≡ Some c = e in cc)
falls_lesser posted best (Some low) cost h = case (int_lt cost low) refl
  where
    low_below : cost <ℤ low → MayFall posted best (Some low) → IsBelow cost best
    low_below l (inl e) = subst (IsBelow cost) e l
    low_below l (inr (c, (k, (m, e)))) = below_both best low cost (subst (λ (z : ℤ). IsBelow z best) (same low c e) m) l
      where
        same : (x y : ℤ) → Some x ≡ Some y → y ≡ x
        same x y e = cc

    case : (b : Bool) → int_lt cost low ≡ b → MayFall (cost ∷ posted) best (Some (cond b cost low))
    case true e = inr (cost, (head_contained cost posted, (low_below (omega (arith, ints)) h, refl)))
    case false e = falls_more posted cost best (Some low) h

lesser_number : (lowest best : Option ℤ) → IfSome lowest IsNumber → IfSome best IsNumber → IfSome (lesser lowest best) IsNumber
lesser_number None best h k = k
lesser_number (Some low) None h k = h
lesser_number (Some low) (Some cost) h k = case (int_lt cost low)
  where
    case : (b : Bool) → IsNumber (cond b cost low)
    case true = k
    case false = h

-- what was given is the best that is known, if it is that
pub given : {L : Type 0} (run : Run L) (turns : LeastTurns) (best : Option ℤ) → MorePosted → IsLeastTurns run turns → IfSome best IsNumber →
    IsLeastTurns run (record turns { lowest = lesser turns.lowest best })
given run turns None law t k = record {
  no_node_limit = t.no_node_limit;
  no_round_limit = t.no_round_limit;
  objective = t.objective;
  inside = t.inside;
  in_range = t.in_range;
  ready = t.ready;
  same_count = t.same_count;
  number = lesser_number turns.lowest None t.number k;
  posted = t.posted;
  best = t.best;
  count = t.count;
  found = t.found;
  reached = t.reached;
  falls = subst (MayFall t.posted t.best) (lesser_none turns.lowest) t.falls;
  is_last = t.is_last;
}
  where
    lesser_none : (o : Option ℤ) → o ≡ lesser o None
    lesser_none None = refl
    lesser_none (Some z) = refl
given run turns (Some cost) law t k = record {
  no_node_limit = t.no_node_limit;
  no_round_limit = t.no_round_limit;
  objective = t.objective;
  inside = t.inside;
  in_range = t.in_range;
  ready = t.ready;
  same_count = t.same_count;
  number = lesser_number turns.lowest (Some cost) t.number k;
  posted = cost ∷ t.posted;
  best = t.best;
  count = t.count;
  found = t.found;
  reached = law (least_in run t.posted turns.sub) (cost ∷ t.posted) (record { stack = boxes_of turns.searcher; best = t.best; count = t.count; found = t.found })
      (λ c h. (suc h.0, omega (arith, h.1), h.2)) t.reached;
  falls = falls_lesser t.posted t.best turns.lowest cost t.falls;
  is_last = t.is_last;
}

pub number_of : {L : Type 0} (run : Run L) → IsRun run → (best : Option ℤ) → IfSome best (IsCost run.model.now) → IfSome best IsNumber
number_of run r None h = tt
number_of run r (Some cost) h = cost_number run.model.now r.model h.assignment h.solves cost h.costs

with_some : (o : Option ℤ) (P : Type 0) → IfSome o IsNumber → P → IfSome o (λ (cost : ℤ). IsNumber cost × P)
with_some None P h q = tt
with_some (Some cost) P h q = (h, q)

-- what is right of the turns once it is kept what a node found
module _ {L : Type 0} (run : Run L) (turns : LeastTurns) where
  pub record IsKept (new : LeastTurns) (is_found : Bool) : Type 0 where
    pub again : IsLeastTurns run new
    pub found : OnTrue is_found (FindsBetter run.model.now turns.lowest turns new)
    pub same : OnFalse is_found ((new.last ≡ turns.last) × (new.lowest ≡ turns.lowest))

module _ {L : Type 0} (run : Run L) (r : IsRun run) (turns : LeastTurns) (t : IsLeastTurns run turns) (order : InsideOrder) (branches : BranchLaws) where
  abbrev least_search : Search
  least_search = least_in run t.posted turns.sub

  abbrev begins : IsInsideStart least_search
  begins = premises run.model.now run.program.now run.node_limit run.round_limit run.lanes turns.sub r.program r.model t.inside t.in_range None t.posted

  abbrev least_state : State
  least_state = record { stack = boxes_of turns.searcher; best = t.best; count = t.count; found = t.found }

  pub least_can : CanSearch run (count_of turns.searcher)
  least_can = subst (CanSearch run) (sym t.same_count) (can_search run turns.sub r t.inside)

  -- the least cost cuts the objective
  pub least_best : IfSome turns.lowest (λ cost. IsNumber cost × IsObjectiveIn (count_of turns.searcher - 1) run.model.now.goal)
  least_best = with_some turns.lowest (IsObjectiveIn (count_of turns.searcher - 1) run.model.now.goal) t.number
      (objective_in run.model.now.vars (count_of turns.searcher - 1) run.model.now.goal
      (few_vars (length run.model.now.vars) (length turns.sub) (count_of turns.searcher) (can_search run turns.sub r t.inside).long t.same_count) r.model.objective t.objective)

  -- where no box is left each solution costs at least the least cost
  pub least_done : FindsLeast → boxes_of turns.searcher ≡ [] → CostsAtLeast run.model.now turns.sub turns.lowest
  least_done law e a cost h c = elim ((law least_search least_state refl begins t.reached).covers a cost h c) [
    | inl k ↦ after_fall t.posted t.best turns.lowest cost t.falls k
    | inr k ↦ absurd (none_in (subst (λ (bs : List Bounds). Any (LiesIn run.model.now a) bs) e k))
  ]
    where
      none_in : {P : Bounds → Type 0} → Any P [] → ⊥
      none_in (k, x, l, f, q) = omega arith

  -- where the order is static each solution that precedes the last one costs more
  pub least_first : FindsFirst → IsStaticSearch run.model.now → IfSome turns.last (IsFirstOfItsCost run.model.now turns.sub)
  least_first law static = by_last turns.last refl
    where
      by_last : (o : Option (List ℤ)) → turns.last ≡ o → IfSome o (IsFirstOfItsCost run.model.now turns.sub)
      by_last None e = tt
      by_last (Some a) e = λ other cost more h before c d.
          law least_search least_state refl begins static t.reached a other cost more (last_contained t.found a (sym t.is_last ∙ e)) h before c d

  module _ (after : List Bounds) (answer : Option (List ℤ))
      (w : HasVisited run.model.now run.program.now.kernels run.round_limit run.lanes turns.lowest (boxes_of turns.searcher) after answer) where
    abbrev recorded : List (List ℤ)
    recorded = w.found

    abbrev seen : IsTopVisit run.model.now run.program.now.kernels run.round_limit run.lanes turns.lowest (boxes_of turns.searcher) after [] w.found Visit.Done
    seen = w.visit

    abbrev told : ℕ
    told = told_count t.count

    least_reached : Reached least_search
        (record { stack = after; best = best_after Kind.Least run.model.now.goal turns.lowest recorded; count = t.count + 1; found = t.found ++ recorded })
    least_reached = least.node_reached order branches least_search refl begins r.model (boxes_of turns.searcher) t.best t.count t.found t.reached seen.rest seen.top seen.taken told
        (fits run.node_limit t.no_node_limit) (counted run.node_limit t.count t.no_node_limit) (inl t.no_node_limit) turns.lowest t.falls after recorded seen.visit

    pub least_less : weight_of after < weight_of (boxes_of turns.searcher)
    least_less = least.node_less order branches least_search refl begins r.model (boxes_of turns.searcher) t.best t.count t.found t.reached seen.rest seen.top seen.taken told
        (fits run.node_limit t.no_node_limit) (counted run.node_limit t.count t.no_node_limit) (inl t.no_node_limit) turns.lowest t.falls after recorded seen.visit

    few_found : length recorded ≤ 1
    few_found = at_most_one run.model.now run.program.now.kernels run.round_limit run.lanes (cut_by Kind.Least run.model.now.goal turns.lowest seen.top) seen.rest after recorded seen.visit

    -- what the node records is a solution that costs less
    pub all_solve : RecordsSolutions → All (SolvesInside run.model.now turns.sub) recorded
    all_solve law = least.recorded_solve order branches least_search refl begins r.model (boxes_of turns.searcher) t.best t.count t.found t.reached seen.rest seen.top seen.taken told
        (fits run.node_limit t.no_node_limit) (counted run.node_limit t.count t.no_node_limit) (inl t.no_node_limit) turns.lowest t.falls law after recorded seen.visit

    all_less : RecordsBelow → (a : List ℤ) (cost : ℤ) → Contains recorded a → cost_of run.model.now.goal a ≡ Some cost → IsBelow cost turns.lowest
    all_less law = least.node_below order branches least_search refl begins r.model (boxes_of turns.searcher) t.best t.count t.found t.reached seen.rest seen.top seen.taken told
        (fits run.node_limit t.no_node_limit) (counted run.node_limit t.count t.no_node_limit) (inl t.no_node_limit) turns.lowest t.falls law after recorded seen.visit

    pub found_solves : RecordsSolutions → IfSome answer (SolvesInside run.model.now turns.sub)
    found_solves law = by_answer answer w.is_last
      where
        by_answer : (o : Option (List ℤ)) → o ≡ last_of recorded → IfSome o (SolvesInside run.model.now turns.sub)
        by_answer None e = tt
        by_answer (Some a) e = All-head (SolvesInside run.model.now turns.sub) a [] (subst (All (SolvesInside run.model.now turns.sub)) (one_last recorded a few_found e) (all_solve law))

    -- its cost is a number, and a term of it
    pub found_objective : RecordsSolutions → IfSome answer (λ a. IsObjectiveIn (length a) run.model.now.goal)
    found_objective law = by_answer answer (found_solves law)
      where
        by_answer : (o : Option (List ℤ)) → IfSome o (SolvesInside run.model.now turns.sub) → IfSome o (λ a. IsObjectiveIn (length a) run.model.now.goal)
        by_answer None h = tt
        by_answer (Some a) h = can_post run.model.now r.model t.objective turns.sub a h

    pub found_number : RecordsSolutions → IfSome answer (λ a. (cost : ℤ) → cost_of run.model.now.goal a ≡ Some cost → IsNumber cost)
    found_number law = by_answer answer (found_solves law)
      where
        by_answer : (o : Option (List ℤ)) → IfSome o (SolvesInside run.model.now turns.sub) → IfSome o (λ a. (cost : ℤ) → cost_of run.model.now.goal a ≡ Some cost → IsNumber cost)
        by_answer None h = tt
        by_answer (Some a) h = λ cost e. cost_number run.model.now r.model a h.solves cost e

    module _ (searcher : Searcher) (meter : Meter) (same : boxes_of searcher ≡ after) (ready : IsReady run searcher) (count : count_of searcher ≡ count_of turns.searcher) where
      abbrev between : LeastTurns
      between = record turns { searcher = searcher; meter = meter }

      abbrev with_found : List ℤ → LeastTurns
      with_found a = record turns { searcher = searcher; meter = meter; lowest = cost_of run.model.now.goal a; last = Some a }

      goes_on : recorded ≡ [] → IsLeastTurns run between
      goes_on none = record {
        no_node_limit = t.no_node_limit;
        no_round_limit = t.no_round_limit;
        objective = t.objective;
        inside = t.inside;
        in_range = t.in_range;
        ready = ready;
        same_count = count ∙ t.same_count;
        number = t.number;
        posted = t.posted;
        best = turns.lowest;
        count = t.count + 1;
        found = t.found;
        reached = subst (λ (bs : List Bounds). Reached least_search (record { stack = bs; best = turns.lowest; count = t.count + 1; found = t.found })) (sym same)
            (subst (λ (xs : List (List ℤ)). Reached least_search (record { stack = after; best = turns.lowest; count = t.count + 1; found = xs })) (append-nil t.found)
            (subst (λ (xs : List (List ℤ)). Reached least_search
            (record { stack = after; best = best_after Kind.Least run.model.now.goal turns.lowest xs; count = t.count + 1; found = t.found ++ xs })) none least_reached));
        falls = inl refl;
        is_last = t.is_last;
      }

      goes_on_with : RecordsSolutions → (a : List ℤ) → recorded ≡ a ∷ [] → IsLeastTurns run (with_found a)
      goes_on_with law a one = record {
        no_node_limit = t.no_node_limit;
        no_round_limit = t.no_round_limit;
        objective = t.objective;
        inside = t.inside;
        in_range = t.in_range;
        ready = ready;
        same_count = count ∙ t.same_count;
        number = number_at (cost_of run.model.now.goal a) refl;
        posted = t.posted;
        best = cost_of run.model.now.goal a;
        count = t.count + 1;
        found = t.found ++ a ∷ [];
        reached = subst (λ (bs : List Bounds). Reached least_search
            (record { stack = bs; best = cost_of run.model.now.goal a; count = t.count + 1; found = t.found ++ a ∷ [] })) (sym same)
            (subst (λ (xs : List (List ℤ)). Reached least_search
            (record { stack = after; best = best_after Kind.Least run.model.now.goal turns.lowest xs; count = t.count + 1; found = t.found ++ xs })) one least_reached);
        falls = inl refl;
        is_last = sym (last_push t.found a);
      }
        where
          solves : SolvesInside run.model.now turns.sub a
          solves = All-head (SolvesInside run.model.now turns.sub) a [] (subst (All (SolvesInside run.model.now turns.sub)) one (all_solve law))

          number_at : (o : Option ℤ) → cost_of run.model.now.goal a ≡ o → IfSome o IsNumber
          number_at None e = tt
          number_at (Some cost) e = cost_number run.model.now r.model a solves.solves cost e

      better : RecordsSolutions → RecordsBelow → (a : List ℤ) → recorded ≡ a ∷ [] → FindsBetter run.model.now turns.lowest turns (with_found a)
      better law below a one = record {
        solution = a;
        is_last = refl;
        solves = All-head (SolvesInside run.model.now turns.sub) a [] (subst (All (SolvesInside run.model.now turns.sub)) one (all_solve law));
        costs = refl;
        below = λ cost e. all_less below a cost (subst (λ (xs : List (List ℤ)). Contains xs a) (sym one) (0, omega arith, refl)) e;
      }

      -- so what is kept is right
      pub kept : RecordsSolutions → RecordsBelow → (new : LeastTurns) (is_found : Bool) →
          IfSome answer (λ a. (is_found ≡ true) × (new ≡ with_found a)) → IfNone answer ((is_found ≡ false) × (new ≡ between)) → IsKept run turns new is_found
      kept law below new is_found = by_answer answer w.is_last
        where
          by_answer : (o : Option (List ℤ)) → o ≡ last_of recorded → IfSome o (λ a. (is_found ≡ true) × (new ≡ with_found a)) →
              IfNone o ((is_found ≡ false) × (new ≡ between)) → IsKept run turns new is_found
          by_answer None e some none = record {
            again = subst (IsLeastTurns run) (sym none.1) (goes_on (none_last recorded few_found e));
            found = subst (λ (b : Bool). OnTrue b (FindsBetter run.model.now turns.lowest turns new)) (sym none.0) tt;
            same = subst (λ (b : Bool). OnFalse b ((new.last ≡ turns.last) × (new.lowest ≡ turns.lowest))) (sym none.0)
                (ap (λ (u : LeastTurns). u.last) none.1, ap (λ (u : LeastTurns). u.lowest) none.1);
          }
          by_answer (Some a) e some none = record {
            again = subst (IsLeastTurns run) (sym some.1) (goes_on_with law a (one_last recorded a few_found e));
            found = subst (λ (b : Bool). OnTrue b (FindsBetter run.model.now turns.lowest turns new)) (sym some.0)
                (subst (FindsBetter run.model.now turns.lowest turns) (sym some.1) (better law below a (one_last recorded a few_found e)));
            same = subst (λ (b : Bool). OnFalse b ((new.last ≡ turns.last) × (new.lowest ≡ turns.lowest))) (sym some.0) tt;
          }

-- ---- a box that is cut below a cost

module _ {L : Type 0} (run : Run L) (r : IsRun run) (objective : run.model.now.goal ≢ Goal.Satisfy) (b : Bounds) (inside : IsInside b run.program.now.start) where
  abbrev long_box : length run.model.now.vars < length b
  long_box = (can_search run b r inside).long

  pub cut_objective : IsObjectiveIn (length b - 1) run.model.now.goal
  cut_objective = objective_in run.model.now.vars (length b - 1) run.model.now.goal (few_vars (length run.model.now.vars) (length b) (length b) long_box refl) r.model.objective objective

  pub is_cut_below : InsideOrder → (best : ℤ) → IsCutBelow run.model.now best b (cut_by Kind.Least run.model.now.goal (Some best) b)
  is_cut_below order best = record {
    inside = at_most_inside order run.model.now.goal (best -ℤ pos 1) b;
    has = λ a cost h e l. record {
      solves = h.solves;
      inside = stays run.model.now a (within_length a run.model.now.vars h.solves.within) run.model.now.goal (best -ℤ pos 1) cost b r.model.objective long_box h.inside e
          (less_le cost best l);
    };
    below = λ a cost h e. le_less cost best
        (costs_at_most run.model.now a (within_length a run.model.now.vars h.solves.within) run.model.now.goal (best -ℤ pos 1) cost b r.model.objective long_box h.inside e);
  }
    where
      less_le : (x y : ℤ) → x <ℤ y → x ≤ℤ (y -ℤ pos 1)
      less_le x y h = omega (arith, ints, h)

      le_less : (x y : ℤ) → x ≤ℤ (y -ℤ pos 1) → x <ℤ y
      le_less x y h = omega (arith, ints, h)

-- ---- what a solution costs

-- a model with an objective has a cost for each of its solutions
pub has_cost : {L : Type 0} (run : Run L) → IsRun run → run.model.now.goal ≢ Goal.Satisfy → (a : List ℤ) → IsSolution run.model.now a → IsObjectiveIn (length a) run.model.now.goal
has_cost run r objective a h =
    let e = within_length a run.model.now.vars h.within in
    objective_in run.model.now.vars (length a) run.model.now.goal (omega (arith, e)) r.model.objective objective
