-- Where a difference or a short clause has no solution in the box, the first tell that narrows it leaves a variable no number.
use Rattle.std.proofs.Common.{◌≡◌, ℕ, List, [], ◌∷◌, ◌++◌, Bool, true, false, not, ◌&&◌, ◌||◌, ℤ, pos, negsuc, ◌≤ℤ◌, ◌<ℤ◌, refl, sym, subst, ◌∙◌, arith}
use Rattle.std.proofs.lemmas.Int.{ints}
use Rattle.std.proofs.lemmas.Bool.{true≢false, and_from, and_parts}
use Rattle.std.proofs.lemmas.List.{append_assoc}
use Rattle.std.proofs.lemmas.List.Elements.{filter-append}
use Rattle.std.specs.Int.RustNames.{int_lt, int_le}
use Rattle.std.specs.List.{zip, flat_map}
use Rattle.tells.specs.declared.tell.Lit.{Lit}
use Rattle.tells.specs.declared.tell.Tell.{Tell}
use Rattle.interval.specs.Limits.{bound_limit, largest_number, clamp_of, ClampOrder}
use Rattle.interval.specs.Boxes.{Bounds, low_of, high_of}
use Rattle.small_sums.specs.declared.pairs.Pair.{Pair}
use Rattle.small_sums.specs.Short.{sums_of_two}
use Rattle.small_sums.specs.declared.short.Sums.{Sums}
use Rattle.short_tells.specs.ShortTells.{room_tells, room_at_most, room_equal}
use Rattle.guarded_tell.specs.declared.kernel.Kernel.{Kernel}
use Rattle.kernel_visits.specs.declared.shape.Shape.TheVariants.{AtMost, Same, Either, Triple}
use Rattle.guarded_tell.specs.Words.{when, is_sure, is_out, sign_true, sign_tell, tell_true, tell_false}
use Rattle.sum_tells.specs.Linear.{Term, literal_tells, sum_over, least_of, greatest_of}
use Rattle.sum_tells.specs.Equality.{is_same, equation_tells, equal_tells, unequal_tells, eq_tells}
use Rattle.tell_laws.specs.Narrowing.{narrows, narrowing}
use Rattle.kernel_visits.specs.Narrowing.{narrowing_tells}
use Rattle.guarded_tell.specs.Kernels.{tells}
use Rattle.kernel_visits.specs.Shapes.{IsDifferenceIn, IsShapeOf}
use Rattle.seen_tells.specs.Seen.{LeavesNone, IsFailedBy}
use Rattle.sum_tells.proofs.EqualityLaws.{is_same_of, least_under_greatest}
use Rattle.small_sums.proofs.QuietLaws.{not_sure}
use Rattle.short_tells.proofs.ShortSumLaws.{sure_not_out, at_most_by_room, equal_by_room}
use Rattle.kernel_visits.proofs.ShapeQuiet.{difference_sums}
use Rattle.seen_tells.proofs.ApartLaws.{either_tells, either_told, triple_tells, triple_told, triple_first}
use Rattle.seen_tells.proofs.OneLaws.{true_told, false_told}

not_true : (s : Bool) → not s ≡ true → false ≡ s
not_true true e = absurd (true≢false (sym e))
not_true false e = refl

module _ (clamped : ClampOrder) (b : Bounds) where
  one_same : clamp_of (pos 1) ≡ pos 1
  unfolding bound_limit largest_number
  one_same = clamped.same (pos 1) (omega arith)

  none_same : clamp_of (pos 0) ≡ pos 0
  none_same = clamped.same (pos 0) (omega arith)

  -- ---- a literal that is out has no number once it is told true, and one that is sure none once it is told false

  made_true : (s : Bool) (v : ℕ) → (not (sign_true s (low_of b v)) && not (sign_true s (high_of b v))) ≡ true → LeavesNone b (sign_tell s v)
  made_true true v e =
      let f = not_true (int_le (pos 1) (high_of b v)) (and_parts (not (int_le (pos 1) (low_of b v))) (not (int_le (pos 1) (high_of b v))) e).1 in
      let g = one_same in
      omega (arith, ints)
  made_true false v e =
      let f = not_true (int_le (low_of b v) (pos 0)) (and_parts (not (int_le (low_of b v) (pos 0))) (not (int_le (high_of b v) (pos 0))) e).0 in
      let g = none_same in
      omega (arith, ints)

  made_false : (s : Bool) (v : ℕ) → (sign_true s (low_of b v) && sign_true s (high_of b v)) ≡ true → LeavesNone b (sign_tell (not s) v)
  made_false true v e =
      let f = (and_parts (int_le (pos 1) (low_of b v)) (int_le (pos 1) (high_of b v)) e).0 in
      let g = none_same in
      omega (arith, ints)
  made_false false v e =
      let f = (and_parts (int_le (low_of b v) (pos 0)) (int_le (high_of b v) (pos 0)) e).1 in
      let g = one_same in
      omega (arith, ints)

  true_none : (l : Lit) → is_out l b ≡ true → LeavesNone b (tell_true l)
  unfolding is_out
  true_none l e = made_true l.positive l.var e

  false_none : (l : Lit) → is_sure l b ≡ true → LeavesNone b (tell_false l)
  unfolding is_sure
  false_none l e = made_false l.positive l.var e

  module _ (k : Kernel) (ts : List Tell) where
    by_true : (l : Lit) → is_out l b ≡ true → low_of b l.var ≤ℤ high_of b l.var → narrowing_tells k b ≡ narrowing b (tell_true l ∷ []) ++ ts → IsFailedBy k b (tell_true l)
    by_true l out proper e = record { others = ts; first = e ∙ (λ i. true_told clamped b l (not_sure clamped b l out) proper i ++ ts); none = true_none l out }

    by_false : (l : Lit) → is_sure l b ≡ true → low_of b l.var ≤ℤ high_of b l.var → narrowing_tells k b ≡ narrowing b (tell_false l ∷ []) ++ ts → IsFailedBy k b (tell_false l)
    by_false l sure proper e = record { others = ts; first = e ∙ (λ i. false_told clamped b l (sure_not_out clamped b l sure) proper i ++ ts); none = false_none l sure }

  is_failed : (k : Kernel) (t u : Tell) → u ≡ t → IsFailedBy k b t → IsFailedBy k b u
  is_failed k t u e h = record { others = h.others; first = h.first ∙ (λ i. sym e i ∷ h.others); none = subst (λ (v : Tell). LeavesNone b v) (sym e) h.none }

  -- ---- clauses

  pub either_failed : (k : Kernel) (l m : Lit) → IsShapeOf k (Either l m) → is_out l b ≡ true → is_out m b ≡ true → low_of b l.var ≤ℤ high_of b l.var
      → (t : Tell) → t ≡ tell_true l → IsFailedBy k b t
  either_failed k l m shape first second proper t is =
      is_failed k (tell_true l) t is
      (by_true k (narrowing b (when (is_out l b) (tell_true m ∷ []))) l first proper
      (either_tells b k l m shape ∙ either_told b l m ∙ (λ i. narrowing b (when (second i) (tell_true l ∷ [])) ++ narrowing b (when (is_out l b) (tell_true m ∷ [])))))

  pub triple_failed : (k : Kernel) (l m n : Lit) → IsShapeOf k (Triple l m n) → is_out l b ≡ true → is_out m b ≡ true → is_out n b ≡ true → low_of b l.var ≤ℤ high_of b l.var
      → (t : Tell) → t ≡ tell_true l → IsFailedBy k b t
  triple_failed k l m n shape first second third proper t is =
      let others = narrowing b (triple_first b m l n) ++ narrowing b (triple_first b n l m) in
      is_failed k (tell_true l) t is
      (by_true k others l first proper
      (triple_tells b k l m n shape ∙ triple_told b l m n ∙ (λ i. narrowing b (when (second i && third i) (tell_true l ∷ [])) ++ others)))

  -- ---- differences

  module _ (k : Kernel) (l : Lit) (x y : ℕ) (limit c : ℤ) (read : c ≡ limit) (p : Pair) (within : IsDifferenceIn b x y p) (proper : low_of b l.var ≤ℤ high_of b l.var) where
    abbrev sums : Sums
    sums = sums_of_two p.first p.second

    in_order : sums.least ≤ℤ sums.greatest
    in_order =
        let r = least_under_greatest b (pos 1, x) in let s = least_under_greatest b (negsuc 0, y) in
        let f = within.first.least in let g = within.first.greatest in let h = within.second.least in let m = within.second.greatest in
        omega (arith, ints)

    module _ (shape : IsShapeOf k (AtMost l x y limit)) where
      at_most_parts : IsShapeOf k (AtMost l x y limit) → (us : List Tell) × (narrowing_tells k b ≡ narrowing b (literal_tells l c sums.least sums.greatest) ++ us)
      unfolding IsShapeOf tells
      at_most_parts (cs, vs, e, d) = (
        flat_map (λ (t : Term). narrowing b (room_tells b (room_at_most b l c sums) t)) (zip cs vs),
        (λ i. narrowing b (tells (e i) b))
            ∙ at_most_by_room clamped b l cs vs limit c sums (difference_sums b x y p within cs vs d) read (room_at_most b l c sums) refl,
      )

      pub at_most_none : is_sure l b ≡ true → c <ℤ sums.least → (t : Tell) → t ≡ tell_false l → IsFailedBy k b t
      at_most_none sure less t is =
          let r = in_order in
          let no : false ≡ int_le sums.greatest c = omega (arith, ints) in
          let yes : true ≡ int_lt c sums.least = omega (arith, ints) in
          let parts = at_most_parts shape in
          is_failed k (tell_false l) t is
          (by_false k parts.0 l sure proper (parts.1 ∙ (λ i. narrowing b (when (sym no i) (tell_true l ∷ []) ++ when (sym yes i) (tell_false l ∷ [])) ++ parts.0)))

      pub at_most_all : is_out l b ≡ true → sums.greatest ≤ℤ c → (t : Tell) → t ≡ tell_true l → IsFailedBy k b t
      at_most_all out most t is =
          let r = in_order in
          let no : false ≡ int_lt c sums.least = omega (arith, ints) in
          let yes : true ≡ int_le sums.greatest c = omega (arith, ints) in
          let parts = at_most_parts shape in
          is_failed k (tell_true l) t is
          (by_true k parts.0 l out proper (parts.1 ∙ (λ i. narrowing b (when (sym yes i) (tell_true l ∷ []) ++ when (sym no i) (tell_false l ∷ [])) ++ parts.0)))

    module _ (shape : IsShapeOf k (Same l x y limit)) where
      sure_parts : is_out l b ≡ false → IsShapeOf k (Same l x y limit) → (us : List Tell) × (narrowing_tells k b ≡ narrowing b (equation_tells l c sums.least sums.greatest) ++ us)
      unfolding IsShapeOf tells
      sure_parts possible (cs, vs, e, d) = (
        flat_map (λ (t : Term). narrowing b (room_tells b (room_equal b l c sums) t)) (zip cs vs),
        (λ i. narrowing b (tells (e i) b))
            ∙ equal_by_room clamped b l cs vs limit c sums (difference_sums b x y p within cs vs d) read (room_equal b l c sums) possible refl,
      )

      same_impossible : is_sure l b ≡ true → (int_lt c sums.least || int_lt sums.greatest c) ≡ true → (t : Tell) → t ≡ tell_false l → IsFailedBy k b t
      same_impossible sure tested t is =
          let parts = sure_parts (sure_not_out clamped b l sure) shape in
          let second = when (is_same sums.least c && is_same sums.greatest c) (tell_true l ∷ []) in
          is_failed k (tell_false l) t is
          (by_false k (narrowing b second ++ parts.0) l sure proper
          (parts.1
          ∙ (λ i. narrowing b (when (tested i) (tell_false l ∷ []) ++ second) ++ parts.0)
          ∙ (λ i. filter-append (narrows b) (tell_false l ∷ []) second i ++ parts.0)
          ∙ append_assoc (narrowing b (tell_false l ∷ [])) (narrowing b second) parts.0))

      pub same_below : is_sure l b ≡ true → c <ℤ sums.least → (t : Tell) → t ≡ tell_false l → IsFailedBy k b t
      same_below sure less =
          let yes : true ≡ int_lt c sums.least = omega (arith, ints) in
          same_impossible sure (λ i. sym yes i || int_lt sums.greatest c)

      or_true : (s : Bool) → (s || true) ≡ true
      or_true true = refl
      or_true false = refl

      pub same_above : is_sure l b ≡ true → sums.greatest <ℤ c → (t : Tell) → t ≡ tell_false l → IsFailedBy k b t
      same_above sure less =
          let yes : true ≡ int_lt sums.greatest c = omega (arith, ints) in
          same_impossible sure ((λ i. int_lt c sums.least || sym yes i) ∙ or_true (int_lt c sums.least))

      out_parts : IsShapeOf k (Same l x y limit) → (us : List Tell) × (narrowing_tells k b ≡ narrowing b (equation_tells l c sums.least sums.greatest) ++ us)
      unfolding IsShapeOf tells eq_tells
      out_parts (cs, vs, e, d) =
          let ts = zip cs vs in
          let m = sum_over (least_of b) ts in
          let n = sum_over (greatest_of b) ts in
          let others = equal_tells l ts limit m n b ++ unequal_tells l ts limit m n b in
          let same = difference_sums b x y p within cs vs d in (
            narrowing b others,
            (λ i. narrowing b (tells (e i) b))
                ∙ filter-append (narrows b) (equation_tells l limit m n) others
                ∙ (λ i. narrowing b (equation_tells l (sym read i) (sym same.least i) (sym same.greatest i)) ++ narrowing b others),
          )

      pub same_certain : is_out l b ≡ true → sums.greatest ≤ℤ c → c ≤ℤ sums.least → (t : Tell) → t ≡ tell_true l → IsFailedBy k b t
      same_certain out most least t is =
          let r = in_order in
          let below : false ≡ int_lt c sums.least = omega (arith, ints) in
          let above : false ≡ int_lt sums.greatest c = omega (arith, ints) in
          let both = and_from _ _ (is_same_of sums.least c (omega (arith, ints))) (is_same_of sums.greatest c (omega (arith, ints))) in
          let parts = out_parts shape in
          is_failed k (tell_true l) t is
          (by_true k parts.0 l out proper (parts.1 ∙ (λ i. narrowing b (when (sym below i || sym above i) (tell_false l ∷ []) ++ when (both i) (tell_true l ∷ [])) ++ parts.0)))
