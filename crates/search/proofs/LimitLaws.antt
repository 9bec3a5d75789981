-- How many nodes, and rounds, a search can have.
use Rattle.std.proofs.Common.{◌≡◌, ◌≢◌, ◌⊎◌, inl, inr, ℕ, zero, suc, ℤ, ◌+◌, ◌*◌, ◌≤◌, ◌<◌, List, [], ◌∷◌, refl, ap, arith}
use Rattle.std.specs.List.{sum_by}
use Rattle.std.proofs.lemmas.Int.{ints}
use Rattle.std.proofs.lemmas.List.Sums.{sum_by-append}
use Rattle.interval.specs.Boxes.{Bounds, IsInside, IsProper, IsCrossed, InsideOrder, width_sum_of}
use Rattle.fixpoint_laws.specs.Fixpoints.{IsClosed, IsGreatest, Fails}
use Rattle.fixpoint_laws.specs.OneRound.{RoundsLead}
use Rattle.branching.specs.Points.{points_of, PointCounts}
use Rattle.branching.specs.Tree.{BranchLaws}
use Rattle.search.specs.Machine.{Search, State, IsWithinRounds, Node, is_dropped, is_solved, is_parted, cut_by, Reached, begun, stepped, IsOutOfNodes, IsOutOfRounds}
use Rattle.search.specs.Laws.{IsInsideStart, LimitLaws}
use Rattle.search.proofs.StackLaws.{Lies, cut_inside, greatest_lies, parts_of, top_lies}
use Rattle.search.proofs.PremiseLaws.{long_sub}

-- the most nodes that the search of a box of so many points has: one where there is none, else one less than twice as many
most_of : ℕ → ℕ
most_of zero = 1
most_of (suc n) = suc (n + n)

some_node : (n : ℕ) → 1 ≤ most_of n
unfolding most_of
some_node zero = omega arith
some_node (suc n) = omega arith

two_parts : (x y z : ℕ) → 0 < x → 0 < y → x + y ≤ z → most_of x + most_of y + 1 ≤ most_of z
unfolding most_of
two_parts zero y z h k l = absurd (omega arith)
two_parts (suc x) zero z h k l = absurd (omega arith)
two_parts (suc x) (suc y) zero h k l = absurd (omega arith)
two_parts (suc x) (suc y) (suc z) h k l = omega arith

out_of_most : (q limit : ℕ) → limit ≢ 0 → 2 * q ≤ limit + 1 → limit + 1 ≤ most_of q → ⊥
unfolding most_of
out_of_most zero limit k l h = k (omega arith)
out_of_most (suc n) limit k l h = omega arith

abbrev most_nodes : Bounds → ℕ
most_nodes b = most_of (points_of b)

none_sum : (bs : List Bounds) → bs ≡ [] → sum_by most_nodes bs ≡ 0
none_sum bs e = ap (sum_by most_nodes) e

some_sum : (bs : List Bounds) → bs ≢ [] → 1 ≤ sum_by most_nodes bs
some_sum [] h = absurd (h refl)
some_sum (b ∷ bs) h =
    let l = some_node (points_of b) in
    let e = sum_by-append most_nodes (b ∷ []) bs in
    omega (arith, l, e)

module _ (order : InsideOrder) (branches : BranchLaws) (counts : PointCounts) (s : Search) (p : IsInsideStart s) where
  abbrev Here : Bounds → Type 0
  Here b = Lies order branches s p.phases (long_sub s p) p.in_range b

  back_nodes : (top seen : Bounds) (back : List Bounds) (recorded : List (List ℤ)) → Here top → IsInside seen top → Node s.model s.kernels s.round_limit seen back recorded →
      sum_by most_nodes back + 1 ≤ most_nodes top
  back_nodes top seen back recorded l i (is_dropped _ _ _ _ _ _ fails none nothing) = omega (arith, none_sum back none, some_node (points_of top))
  back_nodes top seen back recorded l i (is_solved _ _ _ _ _ _ g gr _ all none one) = omega (arith, none_sum back none, some_node (points_of top))
  back_nodes top seen back recorded l i (is_parted _ _ _ _ _ _ g left right gr _ br two nothing) =
      let k = greatest_lies order branches s p.phases (long_sub s p) p.in_range top seen g l i gr in
      let q = parts_of order branches s p.phases (long_sub s p) p.in_range g left right k gr.closed.proper br in
      let sum = counts.parts s.model g left right p.phases (let e = k.inside.same_length in let m = long_sub s p in omega arith) gr.closed.proper br in
      let less : points_of g ≤ points_of top = counts.inside g top (order.through g seen top gr.inside i) in
      let x : 0 < points_of right = counts.proper right q.second_part.proper in
      let y : 0 < points_of left = counts.proper left q.first_part.proper in
      let l : most_of (points_of right) + most_of (points_of left) + 1 ≤ most_of (points_of top) =
      two_parts (points_of right) (points_of left) (points_of top) x y (omega (arith, sum, less)) in
      omega (arith, ap (sum_by most_nodes) two, l)

  -- the nodes so far, with the most that the stack's boxes can have, are no more than those of the box
  counted : (state : State) → Reached s state → state.count + sum_by most_nodes state.stack ≤ most_nodes s.sub
  counted state (begun _ _ e _ none nothing) = omega (arith, ap (sum_by most_nodes) e, none)
  counted state (stepped _ before _ r on st) =
      let l = top_lies order branches s p.phases (long_sub s p) p.in_range before st.rest st.top r st.takes.taken in
      let i = cut_inside order branches s p.phases (long_sub s p) p.in_range s.kind st.best st.top in
      let less = back_nodes st.top (cut_by s.kind s.model.goal st.best st.top) st.back st.recorded l i st.node in
      omega (
        arith,
        counted before r,
        ap (sum_by most_nodes) st.takes.taken,
        ap (sum_by most_nodes) st.stack,
        sum_by-append most_nodes st.rest (st.top ∷ []),
        sum_by-append most_nodes st.rest st.back,
        st.count,
        less,
      )

  never_out : (state : State) → Reached s state → 2 * points_of s.sub ≤ s.node_limit + 1 → IsOutOfNodes s state → ⊥
  never_out state r h out = out_of_most (points_of s.sub) s.node_limit out.limited h (omega (arith, counted state r, some_sum state.stack out.left, out.full))

  never_given_up : RoundsLead → (state : State) → width_sum_of s.sub < s.round_limit → IsOutOfRounds s state → ⊥
  never_given_up lead state h out =
      let seen = cut_by s.kind s.model.goal state.best out.top in
      let l = top_lies order branches s p.phases (long_sub s p) p.in_range out.before out.rest out.top out.reached out.takes.taken in
      let up = out.given_up in
      let i = order.through seen out.top s.sub (cut_inside order branches s p.phases (long_sub s p) p.in_range s.kind state.best out.top) l.inside in
      let j = lead.inside s.kernels s.round_limit seen up.into up.leads in
      let w = lead.widths s.kernels s.round_limit seen up.into up.leads up.proper in
      let v : width_sum_of seen ≤ width_sum_of s.sub = order.not_wider seen s.sub (order.outer_is_proper up.into seen up.proper j) i in
      omega (arith, h, w, v)

not_crossed : (b : Bounds) → IsProper b → IsCrossed b → ⊥
not_crossed b h (v, l, k) = let e = h v l in omega (arith, ints, e, k)

module _ (order : InsideOrder) (s : Search) (one : s.round_limit ≡ 1) where
  one_of : (rounds : ℕ) → rounds ≤ s.round_limit → (rounds ≡ 0 → ⊥) → rounds ≡ 1
  one_of zero h some = absurd (some refl)
  one_of (suc rounds) h some = omega (arith, h, one)

  closed_in_one : (b g : Bounds) → IsGreatest g b s.kernels → IsWithinRounds s.kernels s.round_limit b → IsClosed b s.kernels
  closed_in_one b g gr within =
      let proper = order.outer_is_proper g b gr.closed.proper gr.inside in
      within.in_one.0 (one_of within.rounds (within.few.within (λ e. omega (arith, e, one))) (λ e. not_crossed b proper (within.few.at_once.0 e)))

  of_node : (b : Bounds) (back : List Bounds) (recorded : List (List ℤ)) → Node s.model s.kernels s.round_limit b back recorded → Fails b s.kernels ⊎ IsClosed b s.kernels
  of_node b back recorded (is_dropped _ _ _ _ _ _ fails _ _) = inl fails
  of_node b back recorded (is_solved _ _ _ _ _ _ g gr within _ _ _) = inr (closed_in_one b g gr within)
  of_node b back recorded (is_parted _ _ _ _ _ _ g _ _ gr within _ _ _) = inr (closed_in_one b g gr within)

pub limit_laws : InsideOrder → BranchLaws → PointCounts → RoundsLead → LimitLaws
limit_laws order branches counts lead = record {
  nodes = λ s state p r h out. never_out order branches counts s p state r h out;
  rounds = λ s state p h out. never_given_up order branches counts s p lead state h out;
  one_round = λ s before after one step. of_node order s one (cut_by s.kind s.model.goal step.best step.top) step.back step.recorded step.node;
}
