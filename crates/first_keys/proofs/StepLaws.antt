-- One step of a search for the least keys.
use Rattle.std.proofs.Common.{◌≡◌, ℕ, suc, ◌+◌, ◌<◌, ℤ, List, length, sym, ap, subst, ◌∙◌, ⊎_elim, cond, arith}
use Rattle.std.specs.Prelude.{neg_ℤ, ◌≤ℤ◌}
use Rattle.std.proofs.lemmas.Int.{ints}
use Rattle.interval.specs.Boxes.{Bounds, low_of, high_of, put_of, IsInside, InsideOrder}
use Rattle.fixpoint_laws.specs.Changes.{TightensOne}
use Rattle.constraint_model.specs.declared.model.FznModel.{FznModel}
use Rattle.solution_lists.specs.Solutions.{LiesIn, SolvesInside}
use Rattle.solution_lists.specs.Order.{value_at}
use Rattle.free_laws.specs.Keys.{key_at}
use Rattle.first_keys.specs.declared.key.Key.{Key}
use Rattle.first_keys.specs.declared.halves.Halves.{Halves}
use Rattle.first_keys.specs.Order.{key_in, keys_of, IsKeyAt}
use Rattle.first_keys.specs.Halves.{AreHalves, best_of}
use Rattle.first_keys.specs.Least.{AreLeast}
use Rattle.first_keys.proofs.BoxLaws.{has_pair, from_low, to_high, stays, cut_inside, low_put, high_put}
use Rattle.first_keys.proofs.KeyLaws.{key_is, same_number, best_first}
use Rattle.first_keys.proofs.LeastLaws.{one_more}

-- where the one half is refuted, all solutions lie in the other
pub kept_in_rest : TightensOne → (model : FznModel) (rest half next : Bounds) (var : ℕ) (halves : Halves) → var < length model.vars →
    AreHalves (low_of rest (suc var)) (high_of rest (suc var)) halves →
    half ≡ put_of rest (suc var) halves.better_low halves.better_high → next ≡ put_of rest (suc var) halves.rest_low halves.rest_high →
    ((a : List ℤ) → SolvesInside model half a → ⊥) → (a : List ℤ) → SolvesInside model rest a → LiesIn model a next
kept_in_rest tight model rest half next var halves lt are half_is next_is refuted a s =
    ⊎_elim
    (λ (better : (halves.better_low ≤ℤ value_at a var) × (value_at a var ≤ℤ halves.better_high)).
    absurd (refuted a (record {
      solves = s.solves;
      inside = subst (LiesIn model a) (sym half_is) (stays model rest a s var lt tight halves.better_low halves.better_high better.0 better.1);
    })))
    (λ (other : (halves.rest_low ≤ℤ value_at a var) × (value_at a var ≤ℤ halves.rest_high)).
    subst (LiesIn model a) (sym next_is) (stays model rest a s var lt tight halves.rest_low halves.rest_high other.0 other.1))
    (are.each (value_at a var) (from_low model rest a s var lt) (to_high model rest a s var lt))

le_by : (x y z : ℤ) → x ≤ℤ y → z ≡ y → x ≤ℤ z
le_by x y z h e = omega (arith, ints)

by_le : (x y z : ℤ) → x ≤ℤ y → z ≡ x → z ≤ℤ y
by_le x y z h e = omega (arith, ints)

at_both : (low z high x y : ℤ) → low ≤ℤ x → x ≤ℤ high → low ≡ z → high ≡ z → z ≡ y → x ≡ y
at_both low z high x y l h e f g = omega (arith, ints)

from_equal : (x y z : ℤ) → x ≡ y → z ≡ y → z ≤ℤ x
from_equal x y z e f = omega (arith, ints)

to_equal : (x y z : ℤ) → x ≡ y → z ≡ y → x ≤ℤ z
to_equal x y z e f = omega (arith, ints)

-- the key is the least where its number is the best that is left
module _ (order : InsideOrder) (tight : TightensOne) (model : FznModel) (list : List Key) (sub rest next : Bounds) (s : List ℤ) (i : ℕ) (key : Key) (z : ℤ)
    (listed : list ≡ keys_of model) (is_key : IsKeyAt list i key) (lt : key.var < length model.vars) (l : AreLeast model sub rest s i)
    (next_is : next ≡ put_of rest (suc key.var) z z) (is_value : z ≡ value_at s key.var)
    (is_best : z ≡ best_of key.is_upper_first (low_of rest (suc key.var)) (high_of rest (suc key.var))) where
  pair : suc key.var < length rest
  pair = has_pair model rest s l.solves key.var lt

  at_key : (a : List ℤ) → key_at model a i ≡ key_in a key
  at_key a = key_is model list i key a listed is_key

  is_inside : IsInside next rest
  is_inside = cut_inside tight rest next key.var z z next_is pair
      (le_by (low_of rest (suc key.var)) (value_at s key.var) z (from_low model rest s l.solves key.var lt) is_value)
      (by_le (value_at s key.var) (high_of rest (suc key.var)) z (to_high model rest s l.solves key.var lt) is_value)

  is_least : (a : List ℤ) → SolvesInside model rest a → key_at model s i ≤ℤ key_at model a i
  is_least a x =
      le_by (key_at model s i) (key_in a key) (key_at model a i)
      (by_le (key_in s key) (key_in a key) (key_at model s i)
      (best_first key.is_upper_first (low_of rest (suc key.var)) (high_of rest (suc key.var)) (value_at s key.var) (value_at a key.var)
      (sym is_value ∙ is_best) (from_low model rest a x key.var lt) (to_high model rest a x key.var lt))
      (at_key s))
      (at_key a)

  is_fixed : (a : List ℤ) → SolvesInside model next a → key_at model a i ≡ key_at model s i
  is_fixed a x =
      at_key a
      ∙ ap (λ (y : ℤ). cond key.is_upper_first (neg_ℤ y) y)
      (at_both (low_of next (suc key.var)) z (high_of next (suc key.var)) (value_at a key.var) (value_at s key.var)
      (from_low model next a x key.var lt) (to_high model next a x key.var lt) (low_put rest next key.var z z next_is pair)
      (high_put rest next key.var z z next_is pair) is_value)
      ∙ sym (at_key s)

  is_kept : (a : List ℤ) → SolvesInside model rest a → key_at model a i ≡ key_at model s i → LiesIn model a next
  is_kept a x same =
      let e : value_at a key.var ≡ value_at s key.var =
      same_number key.is_upper_first (value_at a key.var) (value_at s key.var) (sym (at_key a) ∙ same ∙ at_key s) in
      subst (LiesIn model a) (sym next_is)
      (stays model rest a x key.var lt tight z z (from_equal (value_at a key.var) (value_at s key.var) z e is_value)
      (to_equal (value_at a key.var) (value_at s key.var) z e is_value))

  pub settled : AreLeast model sub next s (i + 1)
  settled = one_more order model sub rest s i l next is_inside is_least is_fixed is_kept
