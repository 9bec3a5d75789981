-- A seat after a join.
use Rattle.std.proofs.Common.{ℕ, ℤ, suc, ◌≡◌, ◌<◌, ◌≤◌, ◌≤ℤ◌, max, List, [], ◌∷◌, length, Bool, true, false, true≢false, ⊎_elim, refl, sym, ap, ◌∙◌, subst, arith}
use Rattle.std.specs.Prelude.{slice_index, Option, IfSome}
use Rattle.std.specs.Int.{int_max, int_min}
use Rattle.std.proofs.lemmas.Int.{ints, clamps}
use Rattle.atomic_table.specs.Table.{Me}
use Rattle.atomic_table.specs.Seated.{TableId}
use Rattle.interval.specs.Boxes.{Bounds}
use Rattle.lattice_store.specs.declared.table.View.{View}
use Rattle.lattice_store.specs.Words.{epoch_of, code_of, IsCode, ceiling, box_of, pairs_of, low_value, high_value}
use Rattle.lattice_store.specs.Rule.{greater, either, merged, IsOwn}
use Rattle.lattice_store.specs.Standing.{Stands, IsOwnWord}
use Rattle.lattice_store.specs.Seats.{tighter_of}
use Rattle.lattice_store.proofs.WordLaws.{max_is, code-rises, low-rises, high-falls}
use Rattle.lattice_store.proofs.BoxLaws.{box-length}
use Rattle.lattice_store.proofs.Parting.{length-greater, greater_at}

max_left : (a b : ℤ) → b ≤ℤ a → int_max a b ≡ a
max_left a b h = grind (arith, ints, clamps)

max_right : (a b : ℤ) → a ≤ℤ b → int_max a b ≡ b
max_right a b h = grind (arith, ints, clamps)

min_left : (a b : ℤ) → a ≤ℤ b → int_min a b ≡ a
min_left a b h = grind (arith, ints, clamps)

min_right : (a b : ℤ) → b ≤ℤ a → int_min a b ≡ b
min_right a b h = grind (arith, ints, clamps)

low_of_max : (x y : ℕ) → epoch_of x ≡ epoch_of y → low_value (code_of (max x y)) ≡ int_max (low_value (code_of x)) (low_value (code_of y))
low_of_max x y e = ⊎_elim
    (λ (t : (max x y ≡ x) × (y ≤ x)). ap (λ (w : ℕ). low_value (code_of w)) t.0 ∙ sym (max_left (low_value (code_of x)) (low_value (code_of y)) (low-rises (code_of y) (code_of x) (code-rises y x t.1 (sym e)))))
    (λ (t : (max x y ≡ y) × (x ≤ y)). ap (λ (w : ℕ). low_value (code_of w)) t.0 ∙ sym (max_right (low_value (code_of x)) (low_value (code_of y)) (low-rises (code_of x) (code_of y) (code-rises x y t.1 e))))
    (max_is x y)

high_of_max : (x y : ℕ) → epoch_of x ≡ epoch_of y → high_value (code_of (max x y)) ≡ int_min (high_value (code_of x)) (high_value (code_of y))
high_of_max x y e = ⊎_elim
    (λ (t : (max x y ≡ x) × (y ≤ x)). ap (λ (w : ℕ). high_value (code_of w)) t.0 ∙ sym (min_left (high_value (code_of x)) (high_value (code_of y)) (high-falls (code_of y) (code_of x) (code-rises y x t.1 (sym e)))))
    (λ (t : (max x y ≡ y) × (x ≤ y)). ap (λ (w : ℕ). high_value (code_of w)) t.0 ∙ sym (min_right (high_value (code_of x)) (high_value (code_of y)) (high-falls (code_of x) (code_of y) (code-rises x y t.1 e))))
    (max_is x y)

pairs-greater : (xs ys : List ℕ) → length ys ≡ length xs → ((k : ℕ) → k < length xs → epoch_of (slice_index xs k) ≡ epoch_of (slice_index ys k)) → pairs_of (greater xs ys) ≡ tighter_of (pairs_of xs) (pairs_of ys)
unfolding pairs_of
pairs-greater [] [] e h = refl
pairs-greater [] (y ∷ ys) e h = absurd (omega arith)
pairs-greater (x ∷ xs) [] e h = absurd (omega arith)
pairs-greater (x ∷ []) (y ∷ []) e h = refl
pairs-greater (x ∷ []) (y ∷ z ∷ ys) e h = absurd (omega arith)
pairs-greater (x ∷ w ∷ xs) (y ∷ []) e h = absurd (omega arith)
pairs-greater (x ∷ w ∷ xs) (y ∷ z ∷ ys) e h =
    let r = pairs-greater xs ys (omega arith) (λ k l. h (suc (suc k)) (omega arith)) in
    let a = low_of_max x y (h 0 (omega arith)) in
    let b = high_of_max w z (h 1 (omega arith)) in
    λ i. (a i, b i) ∷ r i

pub box-greater : (xs ys : List ℕ) → length ys ≡ length xs → ((k : ℕ) → 1 ≤ k → k < length xs → epoch_of (slice_index xs k) ≡ epoch_of (slice_index ys k)) → box_of (greater xs ys) ≡ tighter_of (box_of xs) (box_of ys)
unfolding box_of
box-greater [] [] e h = refl
box-greater [] (y ∷ ys) e h = absurd (omega arith)
box-greater (x ∷ xs) [] e h = absurd (omega arith)
box-greater (x ∷ xs) (y ∷ ys) e h = pairs-greater xs ys (omega arith) (λ k l. h (suc k) (omega arith) (omega arith))

pub either_right : (a b : Bool) → b ≡ true → either a b ≡ true
either_right true b e = refl
either_right false b e = e

pub either_left : (a b : Bool) → a ≡ true → either a b ≡ true
either_left true b e = refl
either_left false b e = absurd (true≢false (sym e))

pub joined_stands : (id idv idw : TableId) (me mv mw : Me ℕ View) (sv sw : List ℕ) (epoch epochw : ℕ) (pv pw : Bool) → id ≡ idv → idv ≡ idw → Stands idv mv sv epoch pv → Stands idw mw sw epochw pw → me.1 ≡ mv.1 → me.0 ≡ merged mv.0 mw.0 → IsOwn me.0 → Stands id me (greater sv sw) epoch (either pv pw)
joined_stands id idv idw me mv mw sv sw epoch epochw pv pw same ids s t slots view own = record {
  live = ap (λ (x : View). x.live) view ∙ s.live;
  fresh = ap (λ (x : View). x.fresh) view ∙ s.fresh;
  opened = ap (λ (x : View). x.opened) view ∙ s.opened ∙ sym (length-greater sv sw);
  empty = slots ∙ s.empty;
  epoch_is = epoch_is;
  past_is = past_is;
  seen_is = seen_is;
  length_is = length-greater sv sw ∙ s.length_is ∙ ap (λ (x : TableId). x.words) (sym same);
  pairs = let p = s.pairs in let l = length-greater sv sw in let q = box-length (greater sv sw) (length (box_of sv)) (l ∙ p) in omega arith;
  slots = ap (λ (x : TableId). x.slots) same ∙ s.slots;
  first_is_not_past = λ f. sym past_is ∙ own.first_is_not_past f;
  own = own_word;
  sized = subst (λ (f : Option Bounds). IfSome f (λ b. length b ≡ length (box_of (greater sv sw)))) (sym (ap (λ (x : View). x.floor) view)) (subst (λ (n : ℕ). IfSome mv.0.floor (λ b. length b ≡ n)) (sym (box-length (greater sv sw) (length (box_of sv)) (length-greater sv sw ∙ s.pairs))) s.sized);
}
  where
    epoch_is : me.0.epoch ≡ epoch
    epoch_is = ap (λ (x : View). x.epoch) view ∙ s.epoch_is

    past_is : me.0.past ≡ either pv pw
    past_is = ap (λ (x : View). x.past) view ∙ (λ i. either (s.past_is i) (t.past_is i))

    seen_is : me.0.seen ≡ greater sv sw
    seen_is = ap (λ (x : View). x.seen) view ∙ (λ i. greater (s.seen_is i) (t.seen_is i))

    lengths : length sw ≡ length sv
    lengths = t.length_is ∙ ap (λ (x : TableId). x.words) (sym ids) ∙ sym s.length_is

    own_word : (k : ℕ) → 1 ≤ k → k < length (greater sv sw) → IsOwnWord epoch me.0.floor k (slice_index (greater sv sw) k)
    own_word k one lt =
        let l = length-greater sv sw in
        let g = greater_at sv sw k lengths in
        let o = own.own k one (let a = ap (λ (x : View). x.opened) view in let b = s.opened in omega arith) (let a = ap length seen_is in omega arith) in
        let o' : (epoch_of (slice_index (greater sv sw) k) ≡ me.0.epoch) × (code_of (slice_index (greater sv sw) k) ≤ ceiling me.0.floor k) = subst (λ (x : List ℕ). (epoch_of (slice_index x k) ≡ me.0.epoch) × (code_of (slice_index x k) ≤ ceiling me.0.floor k)) seen_is o in record {
          code = subst IsCode (sym g) (⊎_elim
              (λ (m : (max (slice_index sv k) (slice_index sw k) ≡ slice_index sv k) × (slice_index sw k ≤ slice_index sv k)). subst IsCode (sym m.0) (s.own k one (omega arith)).code)
              (λ (m : (max (slice_index sv k) (slice_index sw k) ≡ slice_index sw k) × (slice_index sv k ≤ slice_index sw k)). subst IsCode (sym m.0) (t.own k one (let z = lengths in omega arith)).code)
              (max_is (slice_index sv k) (slice_index sw k)));
          epoch_is = o'.0 ∙ epoch_is;
          held = o'.1;
        }
