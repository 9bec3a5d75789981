-- The two parts of a box.
use Rattle.std.proofs.Common.{◌≡◌, ℕ, suc, ℤ, pos, ◌+◌, ◌+ℤ◌, ◌-ℤ◌, ◌<◌, ◌≤ℤ◌, ◌<ℤ◌, length, sym, ap, subst, ◌∙◌, ◌⊎◌, inl, inr, add-one, Bool, true, false, cond, unsigned_abs, arith}
use Rattle.std.proofs.lemmas.Int.{ints, by_lt_z}
use Rattle.std.proofs.lemmas.List.{get_or-set_same}
use Rattle.interval.specs.Boxes.{Bounds, low_of, high_of, put_of, IsInRange, IsProper, IsPoint, IsInside, InsideOrder, width_sum_of}
use Rattle.interval.specs.Quotients.{floor_of, QuotientOrder}
use Rattle.fixpoint_laws.specs.Changes.{IsTightening, TightensOne}
use Rattle.constraint_model.specs.declared.model.ValSel.{ValSel}
use Rattle.constraint_model.specs.declared.model.FznModel.{FznModel}
use Rattle.branching.specs.Picks.{IsChoiceBy}
use Rattle.branching.specs.Parts.{cut_of, cut_in, is_upper_first, lower_part, upper_part, left_of, right_of, IsBranch, IsPart, AreParts}

-- ---- the cut

middle_between : QuotientOrder → (low high : ℤ) → low <ℤ high → (low ≤ℤ floor_of (low +ℤ high) (pos 2)) × (floor_of (low +ℤ high) (pos 2) <ℤ high)
middle_between q low high h =
    let two : pos 0 <ℤ pos 2 = omega (arith, ints) in (
      (q.floor_above_zero (low +ℤ high) (pos 2) low two).1 (omega (arith, ints)),
      by_lt_z (floor_of (low +ℤ high) (pos 2)) high (λ l. l) (λ l. absurd (let k = (q.floor_above_zero (low +ℤ high) (pos 2) high two).0 l in omega (arith, ints))),
    )

pub cut_between : QuotientOrder → (s : ValSel) (low high : ℤ) → low <ℤ high → (low ≤ℤ cut_of s low high) × (cut_of s low high <ℤ high)
cut_between q ValSel.Min low high h = (omega (arith, ints), h)
cut_between q ValSel.Max low high h = (omega (arith, ints), omega (arith, ints))
cut_between q ValSel.Split low high h = middle_between q low high h
cut_between q ValSel.ReverseSplit low high h = middle_between q low high h

-- ---- the parts at a cut

low_put : (b : Bounds) (v : ℕ) (low high : ℤ) → v < length b → low_of (put_of b v low high) v ≡ low
low_put b v low high h = ap (λ (p : ℤ × ℤ). p.0) (get_or-set_same b v (low, high) (pos 0, pos 0) h)

high_put : (b : Bounds) (v : ℕ) (low high : ℤ) → v < length b → high_of (put_of b v low high) v ≡ high
high_put b v low high h = ap (λ (p : ℤ × ℤ). p.1) (get_or-set_same b v (low, high) (pos 0, pos 0) h)

fewer : (x y z w : ℕ) → x + y + z ≡ w → 0 < y + z → x < w
fewer x y z w e h = omega arith

apart : (l r : ℤ) → l <ℤ r → 0 < unsigned_abs (r -ℤ l)
apart l r h = omega (arith, ints)

module _ (order : InsideOrder) (tight : TightensOne) (b : Bounds) (range : IsInRange b) (proper : IsProper b) (p : ℕ) (h : p < length b) where
  part_is : (low high : ℤ) → low_of b p ≤ℤ low → high ≤ℤ high_of b p → low ≤ℤ high → 0 < unsigned_abs (low -ℤ low_of b p) + unsigned_abs (high_of b p -ℤ high) →
      IsPart b (put_of b p low high)
  part_is low high l r m less =
      let t : IsTightening b p low high = record { variable = h; low_rises = l; high_falls = r } in
      let i = tight.inside b p low high t in
      let q = tight.proper b p low high h proper m in
      record {
        inside = i;
        proper = q;
        in_range = order.in_range (put_of b p low high) b q range i;
        narrower = fewer (width_sum_of (put_of b p low high)) (unsigned_abs (low -ℤ low_of b p)) (unsigned_abs (high_of b p -ℤ high)) (width_sum_of b)
            (tight.widths b p low high t proper m) less;
      }

  module _ (cut : ℤ) (from : low_of b p ≤ℤ cut) (to : cut <ℤ high_of b p) where
    lower_is : IsPart b (lower_part b p cut)
    lower_is = part_is (low_of b p) cut (omega (arith, ints)) (omega (arith, ints)) from (let a = apart cut (high_of b p) to in omega arith)

    upper_is : IsPart b (upper_part b p cut)
    upper_is = part_is (cut +ℤ pos 1) (high_of b p) (omega (arith, ints)) (omega (arith, ints)) (omega (arith, ints))
        (let a = apart (low_of b p) (cut +ℤ pos 1) (omega (arith, ints)) in omega arith)

    in_one : (c : Bounds) → IsPoint c → IsInside c b → IsInside c (lower_part b p cut) ⊎ IsInside c (upper_part b p cut)
    in_one c point i =
        let same = point p (let e = i.same_length in omega arith) in
        by_lt_z cut (low_of c p)
        (λ l. inr (tight.holds b c p (cut +ℤ pos 1) (high_of b p) h i (omega (arith, ints)) (i.highs p h)))
        (λ l. inl (tight.holds b c p (low_of b p) cut h i (i.lows p h) (omega (arith, ints))))

    one_alone : (c : Bounds) → IsPoint c → IsInside c (lower_part b p cut) → IsInside c (upper_part b p cut) → ⊥
    one_alone c point i j =
        let n = lower_is.inside.same_length in
        let m = upper_is.inside.same_length in
        let same = point p (let e = i.same_length in omega arith) in
        let x = i.highs p (omega arith) in
        let y = j.lows p (omega arith) in
        let u = high_put b p (low_of b p) cut h in
        let w = low_put b p (cut +ℤ pos 1) (high_of b p) h in
        omega (arith, ints)

    turned : {A B : Type 0} → A ⊎ B → B ⊎ A
    turned (inl a) = inr a
    turned (inr a) = inl a

    pub parts_at : (upper_first : Bool) →
        AreParts b (cond upper_first (upper_part b p cut) (lower_part b p cut)) (cond upper_first (lower_part b p cut) (upper_part b p cut))
    parts_at false = record { first_part = lower_is; second_part = upper_is; in_one = in_one; in_one_alone = one_alone }
    parts_at true = record { first_part = upper_is; second_part = lower_is; in_one = λ c q i. turned (in_one c q i); in_one_alone = λ c q i j. one_alone c q j i }

  pub parts_are : QuotientOrder → (s : ValSel) → low_of b p <ℤ high_of b p → AreParts b (left_of s b p) (right_of s b p)
  parts_are q s u =
      let k = cut_between q s (low_of b p) (high_of b p) u in
      parts_at (cut_in s b p) k.0 k.1 (is_upper_first s)

-- the two boxes of a branch are parts
pub branch_parts : InsideOrder → TightensOne → QuotientOrder → (model : FznModel) (b left right : Bounds) → IsInRange b → IsProper b →
    (br : IsBranch model b left right) → suc br.var < length b → AreParts b left right
branch_parts order tight q model b left right range proper br h =
    subst (λ (x : Bounds). AreParts b x right) (sym br.left_is)
    (subst (λ (y : Bounds). AreParts b (left_of br.phase.val_sel b (suc br.var)) y) (sym br.right_is)
    (parts_are order tight b range proper (suc br.var) h q br.phase.val_sel br.choice.chosen.unfixed))

-- what comes of the choice
module _ (model : FznModel) (b left right : Bounds) (s : ValSel) (v pair : ℕ) (by : IsChoiceBy model b s v) (e : pair ≡ v + 1)
    (l : left ≡ left_of s b pair) (r : right ≡ right_of s b pair) where
  abbrev branch_by : IsBranch model b left right
  branch_by = record {
    phase = by.phase;
    var = v;
    choice = by.choice;
    left_is = l ∙ ap (λ (t : ValSel). left_of t b pair) by.same ∙ ap (left_of by.phase.val_sel b) (e ∙ add-one v);
    right_is = r ∙ ap (λ (t : ValSel). right_of t b pair) by.same ∙ ap (right_of by.phase.val_sel b) (e ∙ add-one v);
  }

  pub parts_by : InsideOrder → TightensOne → QuotientOrder → IsInRange b → IsProper b → length model.vars < length b → AreParts b left right
  parts_by order tight q range proper long = branch_parts order tight q model b left right range proper branch_by (let d = by.declared in omega arith)
