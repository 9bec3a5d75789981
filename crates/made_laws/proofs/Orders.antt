-- The orders of a made text: two variables that rise, and a gap from 1 to 9.
use Rattle.std.proofs.Common.{◌≡◌, ◌<◌, ◌≤◌, ◌+◌, ◌*◌, ◌%◌, inl, inr, ℕ, sym, ◌∙◌, ap, subst, arith}
use Rattle.std.specs.Prelude.{min, max, ◌==◌}
use Rattle.std.proofs.lemmas.Bool.{cond-true, cond-false, cases_Bool, cases_lt}
use Rattle.std.proofs.lemmas.Bool.Decides.{nat_tests}
use Rattle.std.proofs.Math.Nat.{mod-eq_of_lt}
use Rattle.std.proofs.lemmas.Nat.{mod-mul-add}
use Rattle.made_model.specs.Made.{order, other_of_two, draw}

-- one variable of `n` comes before another, by a gap of 1 to 9
pub record IsOrder (n first second gap : ℕ) : Type 0 where
  pub counted : 1 ≤ first
  pub rises : first < second
  pub within : second ≤ n
  pub small : gap ≤ 9

self_mod : (m : ℕ) → 0 < m → m % m ≡ 0
self_mod m h = let one : m ≡ 1 * m + 0 = omega arith in ap (λ x. x % m) one ∙ mod-mul-add 1 m 0 h

next_differs : (n a : ℕ) → 2 ≤ n → a < n → ((a + 1) % n ≡ a → ⊥) × ((a + 1) % n < n)
next_differs n a two small =
    elim (cases_lt (a + 1) n) [
      | inl below ↦ let same : (a + 1) % n ≡ a + 1 = mod-eq_of_lt below in (λ e. omega arith, omega arith)
      | inr above ↦ let last : a + 1 ≡ n = omega arith in let none : (a + 1) % n ≡ 0 = ap (λ x. x % n) last ∙ self_mod n (omega arith) in (λ e. omega arith, omega arith)
    ]

two_differ : (n p q : ℕ) → 2 ≤ n → (other_of_two n p q ≡ p % n → ⊥) × (other_of_two n p q < n)
two_differ n p q two =
    elim (cases_Bool (q % n == p % n)) [
      | inl same ↦
          let is : other_of_two n p q ≡ (p % n + 1) % n = cond-true (q % n == p % n) _ _ same in
          let next = next_differs n (p % n) two (omega arith) in
          (λ e. next.0 (sym is ∙ e), subst (λ x. x < n) (sym is) next.1)
      | inr other ↦
          let is : other_of_two n p q ≡ q % n = cond-false (q % n == p % n) _ _ other in
          (λ e. let same : q % n ≡ p % n = sym is ∙ e in grind (arith, nat_tests), subst (λ x. x < n) (sym is) (omega arith))
    ]

spread : (n a b d : ℕ) → a < n → b < n → (b ≡ a → ⊥) → IsOrder n (min a b + 1) (max a b + 1) (1 + d % 9)
spread n a b d small_a small_b differ =
    elim (cases_lt a b) [
      | inl below ↦ record { counted = omega arith; rises = omega arith; within = omega arith; small = omega arith }
      | inr above ↦ let less : b < a = elim (cases_lt b a) [ inl l ↦ l | inr m ↦ absurd (differ (omega arith)) ] in record { counted = omega arith; rises = omega arith; within = omega arith; small = omega arith }
    ]

-- each order of a made text is one
pub order_is : (n j : ℕ) → 2 ≤ n → IsOrder n (order n j).first (order n j).second (order n j).gap
order_is n j two =
    let p = draw n (3 * j + 1) in
    let q = draw n (3 * j + 2) in
    let d = draw n (3 * j + 3) in
    let two_of = two_differ n p q two in
    spread n (p % n) (other_of_two n p q) d (omega arith) two_of.1 two_of.0
