-- The best solution so far, and the next one.
use Rattle.std.proofs.Common.{◌≡◌, ◌≢◌, zero, suc, ℤ, ◌≤ℤ◌, ◌<ℤ◌, List, [], ◌∷◌, ◌++◌, get_or, All, Contains, Option, Some, refl, sym, ap, subst, ◌∙◌, append-nil, flat_map, inl, inr, arith}
use Rattle.std.proofs.lemmas.Int.{ints}
use Rattle.std.proofs.lemmas.List.{get_or_default}
use Rattle.std.proofs.lemmas.List.Elements.{All-nil, All-cons, All-head, All-tail, Contains-append_cases}
use Rattle.std.proofs.lemmas.Grind.{flat_map-append}
use Rattle.constraint_model.specs.declared.model.Goal.{Goal}
use Rattle.constraint_model.specs.Relations.{cost_of}
use Rattle.answer.specs.Lists.{Assignment}
use Rattle.search.specs.declared.ends.LeastEnd.{LeastEnd}
use Rattle.answer.specs.Results.{listed, least_collected}
use Rattle.answer.specs.Unfinished.{CostsMore, CostsAsMuch, IsFirstLeast, IsBestOf}
use Rattle.answer.proofs.ObjectiveLaws.{has_cost}

lower : (p q r : ℤ) → p <ℤ q → q ≤ℤ r → p <ℤ r
lower p q r h k = omega (arith, ints)

lowest : (p q r : ℤ) → p <ℤ q → q <ℤ r → p <ℤ r
lowest p q r h k = omega (arith, ints)

same_cost : (goal : Goal) (a x : Assignment) (c d : ℤ) → a ≡ x → cost_of goal a ≡ Some c → cost_of goal x ≡ Some d → c ≡ d
same_cost goal a x c d e p q = let r = sym p in cc

-- the next one costs less than the best, so less than all
pub next_is_best : (goal : Goal) (collected : List Assignment) (a next : Assignment) → goal ≢ Goal.Satisfy → IsFirstLeast goal collected a → CostsMore goal next a → IsFirstLeast goal (collected ++ next ∷ []) next
next_is_best goal collected a next objective best less = record {
  before = collected;
  after = [];
  there = refl;
  before_cost_more = λ k d l. more (get_or collected k d) (k, l, get_or_default collected k (get_or collected k d) d l);
  after_cost_as_much = All-nil (CostsAsMuch goal next);
}
  where
    own : (c : ℤ) × (cost_of goal a ≡ Some c)
    own = has_cost goal a objective

    by_place : (x : Assignment) → Contains (best.before ++ a ∷ best.after) x → CostsMore goal next x
    by_place x there cost other h k = elim (Contains-append_cases best.before (a ∷ best.after) x there) [
      | inl (i, m, e) ↦ lowest cost own.0 other (less cost own.0 h own.1) (subst (CostsMore goal a) e (best.before_cost_more i x m) own.0 other own.1 k)
      | inr (zero, m, e) ↦ subst (λ (z : ℤ). cost <ℤ z) (same_cost goal a x own.0 other e own.1 k) (less cost own.0 h own.1)
      | inr (suc i, m, e) ↦ lower cost own.0 other (less cost own.0 h own.1) (subst (CostsAsMuch goal a) e (best.after_cost_as_much i x (omega arith)) own.0 other own.1 k)
    ]

    more : (x : Assignment) → Contains collected x → CostsMore goal next x
    more x there = by_place x (subst (λ (xs : List Assignment). Contains xs x) best.there there)

-- ---- as the runs are gone through

all_parts : {X : Type 0} (P : X → Type 0) (xs ys : List X) → All P (xs ++ ys) → All P xs × All P ys
all_parts P [] ys h = (All-nil P, h)
all_parts P (x ∷ xs) ys h =
    let rest = all_parts P xs ys (All-tail P x (xs ++ ys) h) in
    (All-cons P x xs (All-head P x (xs ++ ys) h) rest.0, rest.1)

collected_more : (ys : List LeastEnd) (end : LeastEnd) (one : List Assignment) → one ≡ least_collected end → flat_map least_collected (ys ++ end ∷ []) ≡ flat_map least_collected ys ++ one
collected_more ys end one e =
    flat_map-append least_collected ys (end ∷ [])
    ∙ ap (λ (xs : List Assignment). flat_map least_collected ys ++ xs) (append-nil (least_collected end) ∙ sym e)

module _ (goal : Goal) (P : Assignment → Type 0) where
  -- what is asked of all that is left is asked of the next and of those behind it
  pub next_and_rest : (items rest : List LeastEnd) (end : LeastEnd) (one : Option Assignment) → items ≡ end ∷ rest → listed one ≡ least_collected end → All P (flat_map least_collected items) →
      All P (listed one) × All P (flat_map least_collected rest)
  next_and_rest items rest end one e own h =
      let parts = all_parts P (least_collected end) (flat_map least_collected rest) (subst (λ (rs : List LeastEnd). All P (flat_map least_collected rs)) e h) in
      (subst (All P) (sym own) parts.0, parts.1)

-- with the next solution, and where there is none
pub best_more : (goal : Goal) (ys : List LeastEnd) (end : LeastEnd) (next a : Assignment) → next ∷ [] ≡ least_collected end →
    IsFirstLeast goal (flat_map least_collected ys ++ next ∷ []) a → IsFirstLeast goal (flat_map least_collected (ys ++ end ∷ [])) a
best_more goal ys end next a e h = subst (λ (xs : List Assignment). IsFirstLeast goal xs a) (sym (collected_more ys end (next ∷ []) e)) h

pub best_same : (goal : Goal) (ys : List LeastEnd) (end : LeastEnd) (best : Option Assignment) → [] ≡ least_collected end →
    IsBestOf goal (flat_map least_collected ys) best → IsBestOf goal (flat_map least_collected (ys ++ end ∷ [])) best
best_same goal ys end best e h =
    subst (λ (xs : List Assignment). IsBestOf goal xs best) (sym (collected_more ys end [] e ∙ append-nil (flat_map least_collected ys))) h

pub one_of : {X : Type 0} (P : X → Type 0) (x : X) → P x → All P (x ∷ [])
one_of P x h = All-cons P x [] h (All-nil P)
