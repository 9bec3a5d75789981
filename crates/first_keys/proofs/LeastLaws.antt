-- How the least keys go on.
use Rattle.std.proofs.Common.{◌≡◌, ℕ, ◌+◌, ◌<◌, ◌≤◌, ℤ, List, length, refl, sym, subst, ◌∙◌, below_more, arith}
use Rattle.std.specs.Prelude.{◌≤ℤ◌}
use Rattle.interval.specs.Boxes.{Bounds, IsInside, InsideOrder}
use Rattle.constraint_model.specs.declared.model.FznModel.{FznModel}
use Rattle.decompose.specs.Program.{fixed_box, extended}
use Rattle.solution_lists.specs.Solutions.{LiesIn, SolvesInside}
use Rattle.solution_lists.specs.Static.{keys_of}
use Rattle.free_laws.specs.Keys.{key_at, HasKeys, IsLeastAt, IsLeastByKeys}
use Rattle.first_keys.specs.Least.{AreLeast}

no_place : (j : ℕ) → j < 0 → ⊥
no_place j h = omega arith

pub wider : InsideOrder → (model : FznModel) (b outer : Bounds) (a : List ℤ) → IsInside b outer → SolvesInside model b a → SolvesInside model outer a
wider order model b outer a i s = record { solves = s.solves; inside = order.through (fixed_box (extended model a)) b outer s.inside i }

-- at first no key is asked for
pub none_yet : InsideOrder → (model : FznModel) (sub : Bounds) (s : List ℤ) → SolvesInside model sub s → AreLeast model sub sub s 0
none_yet order model sub s solves = record {
  inside = order.itself sub;
  solves = solves;
  have = λ a one j h. absurd (no_place j h);
  hold = λ a one keys. one.inside;
  least = λ j h. absurd (no_place j h);
}

module _ (order : InsideOrder) (model : FznModel) (sub rest : Bounds) (s : List ℤ) (i : ℕ) (l : AreLeast model sub rest s i) where
  -- another solution in the box that is left
  pub another : (t : List ℤ) → SolvesInside model rest t → AreLeast model sub rest t i
  another t one =
      let same : HasKeys model s i t = l.have t one in
      record {
        inside = l.inside;
        solves = one;
        have = λ a x j lt. l.have a x j lt ∙ sym (same j lt);
        hold = λ a x keys. l.hold a x (λ j lt. keys j lt ∙ same j lt);
        least = λ j lt a x keys. subst (λ (z : ℤ). z ≤ℤ key_at model a j) (sym (same j lt))
            (l.least j lt a x (λ k below. keys k below ∙ same k (omega arith)));
      }

  -- a lesser box that holds the same solutions
  pub cut_down : (next : Bounds) → IsInside next rest → ((a : List ℤ) → SolvesInside model rest a → LiesIn model a next) → AreLeast model sub next s i
  cut_down next inside kept = record {
    inside = order.through next rest sub inside l.inside;
    solves = record { solves = l.solves.solves; inside = kept s l.solves };
    have = λ a x. l.have a (wider order model next rest a inside x);
    hold = λ a x keys. kept a (record { solves = x.solves; inside = l.hold a x keys });
    least = l.least;
  }

  -- a lesser box that holds those with the same next key, where that is the least
  pub one_more : (next : Bounds) → IsInside next rest →
      ((a : List ℤ) → SolvesInside model rest a → key_at model s i ≤ℤ key_at model a i) →
      ((a : List ℤ) → SolvesInside model next a → key_at model a i ≡ key_at model s i) →
      ((a : List ℤ) → SolvesInside model rest a → key_at model a i ≡ key_at model s i → LiesIn model a next) →
      AreLeast model sub next s (i + 1)
  one_more next inside best fixes keeps = record {
    inside = order.through next rest sub inside l.inside;
    solves = record { solves = l.solves.solves; inside = keeps s l.solves refl };
    have = λ a x. below_more (λ (j : ℕ). key_at model a j ≡ key_at model s j) i (l.have a (wider order model next rest a inside x)) (fixes a x);
    hold = λ a x keys. keeps a (record { solves = x.solves; inside = l.hold a x (λ j lt. keys j (omega arith)) }) (keys i (omega arith));
    least = below_more (λ (j : ℕ). IsLeastAt model (SolvesInside model sub) s j) i l.least
        (λ a x keys. best a (record { solves = x.solves; inside = l.hold a x keys }));
  }

  -- all keys are the least
  pub all_least : length (keys_of model s) ≤ i → IsLeastByKeys model (SolvesInside model sub) s
  all_least le = record {
    is_one = wider order model rest sub s l.inside l.solves;
    least = λ j lt. l.least j (omega arith);
  }

  pub rest_inside : (start : Bounds) → IsInside sub start → IsInside rest start
  rest_inside start inside = order.through rest sub start l.inside inside
