-- Sets of kernels that are asked.
use Rattle.std.proofs.Common.{◌≡◌, ℕ, ◌+◌, ◌<◌, Bool, true, false, ◌||◌, ◌&&◌, List, [], length, take, get_or, set, refl, sym, ◌∙◌, ap, subst, ◌⊎◌, inl, inr, arith}
use Rattle.std.specs.List.{All}
use Rattle.std.proofs.lemmas.Bool.{true≢false, cases_lt, cases_eq}
use Rattle.std.proofs.lemmas.List.{get_or_past, get_or-set_other, get_or-set_same, take_more, length_push}
use Rattle.std.proofs.lemmas.List.Elements.{All-nil, All-push}
use Rattle.interval.specs.Boxes.{Bounds}
use Rattle.guarded_tell.specs.Words.{Tell}
use Rattle.kernel_visits.specs.Rests.{IsFixedAt}
use Rattle.moved_set.specs.Sets.{IsIn, Naming}
use Rattle.moved_set.specs.Asking.{IsAsked}
use Rattle.moved_fixpoint.specs.declared.rests.Rests.{Rests}
use Rattle.moved_fixpoint.specs.Moved.{Set}
use Rattle.moved_fixpoint.specs.Rested.{Heeds}
use Rattle.moved_fixpoint.specs.Asked.{heard_at, AreAsked, IsAskedBy}

pub in_range : (s : Set) (j : ℕ) → IsIn s j → j < length s
in_range s j is_in = elim (cases_lt j (length s)) [
  | inl l ↦ l
  | inr g ↦ absurd (true≢false (sym is_in ∙ get_or_past s j false (omega arith)))
]

pub not_in : (s : Set) (j : ℕ) → get_or s j false ≡ false → IsIn s j → ⊥
not_in s j none is_in = true≢false (sym is_in ∙ none)

pub or_left : (a b : Bool) → a ≡ true → (a || b) ≡ true
or_left true b e = refl
or_left false b e = absurd (true≢false (sym e))

pub or_right : (a b : Bool) → b ≡ true → (a || b) ≡ true
or_right true b e = refl
or_right false b e = e

both : (a b : Bool) → a ≡ true → b ≡ true → (a && b) ≡ true
both true b e f = f
both false b e f = absurd (true≢false (sym e))

-- where the variable is fixed all that are open are asked, else those that are alert too
module _ (sets : ℕ → Set) (rests : Rests) (b : Bounds) (v : ℕ) (old new : Set) where
  pub ask_open : IsAsked old (λ j. get_or (sets j) v false && get_or rests.open.current j false) new → IsAskedBy sets rests b v old new
  ask_open more = record {
    same_count = more.same_length;
    kept = λ j is_in. more.each j (in_range old j is_in) ∙ or_left (get_or old j false) _ is_in;
    told = λ j h names heeds. more.each j h ∙ or_right (get_or old j false) _ (both (get_or (sets j) v false) _ names heeds.0);
  }

  pub ask_alert : (IsFixedAt b v → ⊥) → IsAsked old (λ j. get_or (sets j) v false && (get_or rests.open.current j false && get_or rests.alert.current j false)) new → IsAskedBy sets rests b v old new
  ask_alert not_fixed more = record {
    same_count = more.same_length;
    kept = λ j is_in. more.each j (in_range old j is_in) ∙ or_left (get_or old j false) _ is_in;
    told = λ j h names heeds. elim heeds.1 [
      | inl alert ↦ more.each j h ∙ or_right (get_or old j false) _ (both (get_or (sets j) v false) _ names (both (get_or rests.open.current j false) _ heeds.0 alert))
      | inr fixed ↦ absurd (not_fixed fixed)
    ];
  }

pub asked_none : (naming : Naming) (rests : Rests) (b : Bounds) (by_side : Bool) (s : Set) → AreAsked naming rests b by_side [] s s
asked_none naming rests b by_side s = record {
  same_count = refl;
  kept = λ j i. i;
  told = λ j h. All-nil (λ (t : Tell). IsIn (heard_at naming by_side t.side j) t.var → Heeds rests b j t.var → IsIn s j);
  none = λ e. refl;
}

-- one tell more
pub asked_more : (naming : Naming) (rests : Rests) (b : Bounds) (by_side : Bool) (ts : List Tell) (i : ℕ) (d : Tell) (old mid new : Set) → i < length ts →
    AreAsked naming rests b by_side (take i ts) old mid → IsAskedBy (λ j. heard_at naming by_side (get_or ts i d).side j) rests b (get_or ts i d).var mid new → AreAsked naming rests b by_side (take (i + 1) ts) old new
asked_more naming rests b by_side ts i d old mid new h asked more =
    let len = asked.same_count in
    record {
      same_count = more.same_count ∙ asked.same_count;
      kept = λ j is_in. more.kept j (asked.kept j is_in);
      told = λ j k.
          let old_ones : All (λ (t : Tell). IsIn (heard_at naming by_side t.side j) t.var → Heeds rests b j t.var → IsIn new j) (take i ts) =
          λ x e l names heeds. more.kept j (asked.told j k x e l names heeds) in
          subst (λ (xs : List Tell). All (λ (t : Tell). IsIn (heard_at naming by_side t.side j) t.var → Heeds rests b j t.var → IsIn new j) xs) (sym (take_more ts i d h))
          (All-push (λ (t : Tell). IsIn (heard_at naming by_side t.side j) t.var → Heeds rests b j t.var → IsIn new j) (take i ts) (get_or ts i d) old_ones (more.told j (omega arith)));
      none = λ e. let more_is = ap length (take_more ts i d h) ∙ length_push (take i ts) (get_or ts i d) in absurd (omega arith);
    }

-- a set without one kernel
pub unset : (s : Set) (i j : ℕ) → i < length s → (get_or s j false ≡ false) ⊎ (j ≡ i) → get_or (set s i false) j false ≡ false
unset s i j h (inr e) = ap (λ (n : ℕ). get_or (set s i false) n false) e ∙ get_or-set_same s i false false h
unset s i j h (inl none) = elim (cases_eq j i) [
  | inl e ↦ ap (λ (n : ℕ). get_or (set s i false) n false) e ∙ get_or-set_same s i false false h
  | inr ne ↦ get_or-set_other s i j false false ne ∙ none
]
