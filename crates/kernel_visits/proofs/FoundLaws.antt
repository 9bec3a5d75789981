-- What a search has found with one place more, and what two places of a clause or of a sum say.
use Rattle.std.proofs.Common.{◌≡◌, ◌≢◌, ◌⊎◌, inl, inr, ℕ, zero, suc, ◌+◌, ◌<◌, ◌≤◌, List, [], length, get_or, Bool, true, false, ℤ, pos, ◌<ℤ◌, to_z, of_z, refl, sym, ap, ◌∙◌, subst, arith}
use Rattle.std.proofs.lemmas.List.{get_or_read}
use Rattle.std.proofs.lemmas.Int.{ints}
use mir.Syntax.{w64}
use Rattle.std.specs.Bool.{Decides, MatchBool}
use Rattle.std.specs.List.{All}
use Rattle.tells.specs.declared.tell.Lit.{Lit}
use Rattle.interval.specs.Limits.{ClampOrder, IsNumber, largest_number}
use Rattle.interval.specs.Boxes.{Bounds, low_of, high_of}
use Rattle.guarded_tell.specs.Words.{Keeps, is_sure, is_out}
use Rattle.clause_tells.specs.Clause.{clause_tells}
use Rattle.kernel_visits.specs.Rests.{IsSureAt}
use Rattle.kernel_visits.specs.Open.{AreTwoOpen, IsOpenAt}
use Rattle.kernel_visits.specs.Found.{AreFound, AreFoundFrom, IsNoneOrOne, IsLeftAt, IsSearched, with_place, is_two}
use Rattle.guarded_tell.specs.declared.kernel.Kernel.{Kernel}
use Rattle.guarded_tell.specs.declared.kernel.Kernel.TheVariants.{Le, Eq, Times, Div, Mod, Abs, Max, Min, Clause, Element, InSet, AllDiff, Cumulative}
use Rattle.kernel_visits.specs.declared.quiet.Left.{Left}
use Rattle.kernel_visits.specs.declared.quiet.Left.TheVariants.{None, One, Two}
use Rattle.kernel_visits.proofs.ClauseQuiet.{sure_quiet, two_quiet}
use Rattle.kernel_visits.proofs.OpenLaws.{open_term}

-- the one or the other
by_either : {P Q R : Type 0} → P ⊎ Q → (P → R) → (Q → R) → R
by_either (inl p) f g = f p
by_either (inr q) f g = g q

module _ (C E S T : ℕ → Type 0) where
  -- the same places were seen
  pub found_same : ((n : ℕ) → T n → S n) → ((n : ℕ) → S n → T n) → (f : Left) → AreFound C E S f → AreFound C E T f
  unfolding AreFound
  found_same back on None h = λ n t w. h n (back n t) w
  found_same back on (One p) h = (on p h.0, h.1, λ n t. h.2 n (back n t))
  found_same back on (Two p q) h = h

  -- one more was seen, and is passed over
  pub found_past : (i : ℕ) → ((n : ℕ) → T n → S n ⊎ (n ≡ i)) → ((n : ℕ) → S n → T n) → (C i → ⊥) → (E i → ⊥) → (f : Left) → AreFound C E S f → AreFound C E T f
  unfolding AreFound
  found_past i back on nc ne None h = λ n t w.
      by_either (back n t) (λ s. h n s w) (λ e. by_either w (λ c. nc (subst C e c)) (λ x. ne (subst E e x)))
  found_past i back on nc ne (One p) h = (
    on p h.0,
    h.1,
    λ n t.
        by_either (back n t) (λ s. h.2 n s) (λ e. ((λ c. absurd (nc (subst C e c))), (λ x. ne (subst E e x)))),
  )
  found_past i back on nc ne (Two p q) h = h

  -- one more was seen, and counts
  pub found_with : (i : ℕ) → ((n : ℕ) → T n → S n ⊎ (n ≡ i)) → T i → (S i → ⊥) → C i → (E i → ⊥) → (f : Left) → AreFound C E S f → AreFound C E T (with_place f i)
  unfolding AreFound with_place
  found_with i back own fresh c ne None h = (
    own,
    c,
    λ n t.
        by_either (back n t) (λ s. ((λ x. absurd (h n s (inl x))), (λ x. h n s (inr x)))) (λ e. ((λ x. e), (λ x. ne (subst E e x)))),
  )
  found_with i back own fresh c ne (One p) h = inr ((λ e. fresh (subst S e h.0)), h.1, c)
  found_with i back own fresh c ne (Two p q) h = h

  -- two that are found were found, whatever was seen
  pub found_two : (f : Left) → is_two f ≡ true → AreFound C E S f → AreFound C E T f
  unfolding AreFound is_two
  found_two None e h = absurd (cc)
  found_two (One p) e h = absurd (cc)
  found_two (Two p q) e h = h

-- a place is before another, or it isn't
split : (n i : ℕ) → (n < i) ⊎ (i ≤ n)
split n zero = inr (omega arith)
split zero (suc i) = inl (omega arith)
split (suc n) (suc i) = by_either (split n i) (λ l. inl (omega arith)) (λ l. inr (omega arith))

-- ---- places of a stretch, beside those behind it

module _ (C E : ℕ → Type 0) (from to : ℕ) (stretch : from ≤ to) where
  abbrev pub Seen : ℕ → ℕ → Type 0
  Seen i n = ((from ≤ n) × (n < i)) ⊎ (to ≤ n)

  pub found_begins : (f : Left) → AreFoundFrom C E to f → AreFound C E (Seen from) f
  found_begins = found_same C E (λ n. to ≤ n) (Seen from) (λ n t. by_either t (λ p. let l = p.0 in let r = p.1 in absurd (omega arith)) (λ s. s)) (λ n s. inr s)

  pub found_ends : (i : ℕ) → to ≤ i → (f : Left) → AreFound C E (Seen i) f → AreFoundFrom C E from f
  found_ends i h = found_same C E (Seen i) (λ n. from ≤ n)
      (λ n t. by_either (split n i) (λ l. inl (t, l)) (λ l. inr (omega arith)))
      (λ n s. by_either s (λ p. p.0) (λ l. omega arith))

  pub found_two_anywhere : (i : ℕ) (f : Left) → is_two f ≡ true → AreFound C E (Seen i) f → AreFoundFrom C E from f
  found_two_anywhere i = found_two C E (Seen i) (λ n. from ≤ n)

  back_one : (i n : ℕ) → Seen (i + 1) n → Seen i n ⊎ (n ≡ i)
  back_one i n t = by_either t
      (λ p. let l = p.0 in let r = p.1 in by_either (split n i) (λ s. inl (inl (p.0, s))) (λ s. inr (omega arith)))
      (λ s. inl (inr s))

  on_one : (i n : ℕ) → Seen i n → Seen (i + 1) n
  on_one i n s = by_either s (λ p. let r = p.1 in inl (p.0, omega arith)) (λ l. inr l)

  fresh : (i : ℕ) → i < to → Seen i i → ⊥
  fresh i l s = by_either s (λ p. let r = p.1 in absurd (omega arith)) (λ r. absurd (omega arith))

  pub found_passes : (i : ℕ) → (C i → ⊥) → (E i → ⊥) → (f : Left) → AreFound C E (Seen i) f → AreFound C E (Seen (i + 1)) f
  found_passes i = found_past C E (Seen i) (Seen (i + 1)) i (back_one i) (on_one i)

  pub found_takes : (i : ℕ) → from ≤ i → i < to → C i → (E i → ⊥) → (f : Left) → AreFound C E (Seen i) f → AreFound C E (Seen (i + 1)) (with_place f i)
  found_takes i h l = found_with C E (Seen i) (Seen (i + 1)) i (back_one i) (inl (h, omega arith)) (fresh i l)

-- behind the last place there is none
pub none_behind : (C E : ℕ → Type 0) (count : ℕ) → ((n : ℕ) → C n → n < count) → ((n : ℕ) → E n → n < count) → AreFoundFrom C E count None
unfolding AreFound
none_behind C E count inside within = λ n s w. by_either w (λ x. let l = inside n x in absurd (omega arith)) (λ x. let l = within n x in absurd (omega arith))

-- of two places one is the lower
in_order : {R : Type 0} (p q : ℕ) → (p ≡ q → ⊥) → (p < q → R) → (q < p → R) → R
in_order zero zero n f g = absurd (n refl)
in_order zero (suc q) n f g = f (omega arith)
in_order (suc p) zero n f g = g (omega arith)
in_order (suc p) (suc q) n f g = in_order p q (λ e. n (ap suc e)) (λ l. f (omega arith)) (λ l. g (omega arith))

-- ---- literals

module _ (b : Bounds) (lits : List Lit) (i : ℕ) (x : Lit) (inside : i < length lits) (here : x ≡ get_or lits i x) where
  pub sure_at : is_sure x b ≡ true → IsSureAt lits i b
  sure_at e = (inside, λ d. ap (λ l. is_sure l b) (sym (get_or_read lits i x inside here d)) ∙ e)

  pub not_sure_at : is_sure x b ≡ false → IsSureAt lits i b → ⊥
  not_sure_at e s = let t = s.1 x in let u = ap (λ l. is_sure l b) here in absurd (cc)

  pub left_at : is_out x b ≡ false → IsLeftAt b lits i
  left_at e = (inside, λ d. ap (λ l. is_out l b) (sym (get_or_read lits i x inside here d)) ∙ e)

  pub not_left_at : is_out x b ≡ true → IsLeftAt b lits i → ⊥
  not_left_at e s = let t = s.1 x in let u = ap (λ l. is_out l b) here in absurd (cc)

no_lit : Lit
no_lit = record { var = 0; positive = true }

pub quiet_or_one : (clamped : ClampOrder) (b : Bounds) (lits : List Lit) (f : Left) → AreFoundFrom (IsLeftAt b lits) (λ n. IsSureAt lits n b) 0 f
    → MatchBool (is_two f) (All (Keeps b) (clause_tells lits b)) (IsNoneOrOne (IsLeftAt b lits))
unfolding AreFound is_two
quiet_or_one clamped b lits None h = λ m n c d. absurd (h m (omega arith) (inl c))
quiet_or_one clamped b lits (One p) h = λ m n c d. let first = (h.2 m (omega arith)).0 c in let second = (h.2 n (omega arith)).0 d in first ∙ sym second
quiet_or_one clamped b lits (Two p q) (inl h) = sure_quiet clamped b lits p no_lit h.1.0 (h.1.1 no_lit)
quiet_or_one clamped b lits (Two p q) (inr h) =
    in_order p q h.0
    (λ l. two_quiet b lits p q no_lit l h.2.0 (h.1.1 no_lit) (h.2.1 no_lit))
    (λ l. two_quiet b lits q p no_lit l h.1.0 (h.2.1 no_lit) (h.1.1 no_lit))

-- the literals of a clause
lits_of : Kernel → List Lit
lits_of (Le l coeffs vars limit) = []
lits_of (Eq l coeffs vars limit) = []
lits_of (Times x y z) = []
lits_of (Div x y z) = []
lits_of (Mod x y z) = []
lits_of (Abs x y) = []
lits_of (Max m xs) = []
lits_of (Min m xs) = []
lits_of (Clause lits) = lits
lits_of (Element x entries c) = []
lits_of (InSet l x ranges) = []
lits_of (AllDiff xs) = []
lits_of (Cumulative starts durations usages limit) = []

pub clause_searched : (b : Bounds) (k : Kernel) (lits : List Lit) → k ≡ Clause lits → IsNoneOrOne (IsLeftAt b lits) → IsSearched k b
unfolding lits_of
clause_searched b k lits e h = λ ls f. subst (λ (l : List Lit). IsNoneOrOne (IsLeftAt b l)) (ap lits_of (sym e ∙ f)) h

-- ---- terms

module _ (b : Bounds) (coeffs : List ℤ) (vars : List ℕ) (i : ℕ) (r : Bool) (inside : i < length coeffs) (number : IsNumber (get_or coeffs i (pos 0))) (told : Decides r ((to_z w64 (of_z w64 (get_or coeffs i (pos 0))) ≢ pos 0) × (low_of b (get_or vars i 0) <ℤ high_of b (get_or vars i 0)))) where
  coded : to_z w64 (of_z w64 (get_or coeffs i (pos 0))) ≡ get_or coeffs i (pos 0)
  unfolding largest_number
  coded = omega (arith, ints, number)

  pub open_at : r ≡ true → IsOpenAt b coeffs vars i
  open_at e = let t = told.0 e in (inside, (λ z. t.0 (coded ∙ z)), t.1)

  pub not_open_at : r ≡ false → IsOpenAt b coeffs vars i → ⊥
  not_open_at e o = let t = told.1 ((λ z. o.1 (sym coded ∙ z)), o.2) in absurd (cc)

pub two_open : (b : Bounds) (coeffs : List ℤ) (vars : List ℕ) (p q : ℕ) → p < q → IsOpenAt b coeffs vars p → IsOpenAt b coeffs vars q → AreTwoOpen b coeffs vars
two_open b coeffs vars p q l c d = record { first = p; second = q; rising = l; inside = d.0; first_open = open_term b (get_or coeffs p (pos 0)) (get_or vars p 0) c.1 c.2; second_open = open_term b (get_or coeffs q (pos 0)) (get_or vars q 0) d.1 d.2 }

pub open_or_one : (b : Bounds) (coeffs : List ℤ) (vars : List ℕ) (f : Left) → AreFoundFrom (IsOpenAt b coeffs vars) (λ n. ⊥) 0 f
    → MatchBool (is_two f) (AreTwoOpen b coeffs vars) (IsNoneOrOne (IsOpenAt b coeffs vars))
unfolding AreFound is_two
open_or_one b coeffs vars None h = λ m n c d. absurd (h m (omega arith) (inl c))
open_or_one b coeffs vars (One p) h = λ m n c d. let first = (h.2 m (omega arith)).0 c in let second = (h.2 n (omega arith)).0 d in first ∙ sym second
open_or_one b coeffs vars (Two p q) (inl h) = absurd h.1
open_or_one b coeffs vars (Two p q) (inr h) =
    in_order p q h.0 (λ l. two_open b coeffs vars p q l h.1 h.2) (λ l. two_open b coeffs vars q p l h.2 h.1)
