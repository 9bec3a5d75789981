-- The names of a made text: each stands for the variable of its number, and for no other.
use Rattle.std.proofs.Common.{◌≡◌, ◌<◌, ◌≤◌, ◌+◌, ◌-◌, ◌^◌, inl, inr, ℕ, zero, suc, true, false, List, refl, sym, ◌∙◌, ap, arith}
use Rattle.std.specs.Prelude.{map, bytes_eq, cond, find, Some, None, option_map}
use Rattle.std.specs.List.{range_with_len}
use Rattle.std.specs.Fmt.{decimal}
use Rattle.std.proofs.lemmas.Bool.{false_from_ne_true, cases_lt}
use Rattle.std.proofs.lemmas.Fmt.{decimal_injective}
use Rattle.std.proofs.lemmas.Slice.Eq.{bytes_eq-Decides}
use Rattle.constraint_model.specs.declared.model.Term.{Term}
use Rattle.constraint_model.specs.declared.meanings.Scalar.{Scalar}
use Rattle.constraint_model.specs.declared.meanings.Meaning.{Meaning}
use Rattle.fzn_model.specs.Scopes.{Scope, meaning_of}
use Rattle.made_laws.proofs.Lines.{name}

-- the variable at this place
abbrev pub integer_at : ℕ → Scalar
integer_at k = record { is_bool = false; term = Term.Var k }

abbrev pub declared : ℕ → List ℕ × Meaning
declared k = (name (k + 1), Meaning.One (integer_at k))

-- the names of the variables before this place
abbrev pub scope_of : ℕ → Scope
scope_of n = map declared (range_with_len 0 n)

same_name : (i : ℕ) → bytes_eq (name i) (name i) ≡ true
same_name i = (bytes_eq-Decides (name i) (name i)).1 refl

other_name : (i j : ℕ) → i < 2 ^ 64 → j < 2 ^ 64 → (i ≡ j → ⊥) → bytes_eq (name i) (name j) ≡ false
other_name i j small small_j differ =
    false_from_ne_true (bytes_eq (name i) (name j))
    (λ e. let same : name i ≡ name j = (bytes_eq-Decides (name i) (name j)).0 e in let digits : decimal i ≡ decimal j = cc in differ (decimal_injective i j small small_j digits))

-- a name with a number behind those of the range isn't there, and one in it is
absent_from : (a m k : ℕ) → a + m ≤ k → k < 2 ^ 32 → meaning_of (map declared (range_with_len a m)) (name (k + 1)) ≡ None
absent_from a zero k behind small = refl
absent_from a (suc m) k behind small =
    let here : bytes_eq (name (k + 1)) (name (a + 1)) ≡ false = other_name (k + 1) (a + 1) (omega arith) (omega arith) (λ e. omega arith) in
    ap (λ t. option_map (λ entry. entry.1) (cond t (Some (declared a)) (find (λ entry. bytes_eq (name (k + 1)) entry.0) (map declared (range_with_len (a + 1) m))))) here
    ∙ absent_from (a + 1) m k (omega arith) small

present_from : (a m k : ℕ) → a ≤ k → k < a + m → k < 2 ^ 32 → meaning_of (map declared (range_with_len a m)) (name (k + 1)) ≡ Some (Meaning.One (integer_at k))
present_from a zero k from to small = absurd (omega arith)
present_from a (suc m) k from to small =
    elim (cases_lt a k) [
      | inl before ↦
          let here : bytes_eq (name (k + 1)) (name (a + 1)) ≡ false = other_name (k + 1) (a + 1) (omega arith) (omega arith) (λ e. omega arith) in
          ap (λ t. option_map (λ entry. entry.1) (cond t (Some (declared a)) (find (λ entry. bytes_eq (name (k + 1)) entry.0) (map declared (range_with_len (a + 1) m))))) here
          ∙ present_from (a + 1) m k (omega arith) (omega arith) small
      | inr not_before ↦
          let same : k ≡ a = omega arith in
          let here : bytes_eq (name (k + 1)) (name (a + 1)) ≡ true = ap (λ x. bytes_eq (name (k + 1)) (name (x + 1))) (sym same) ∙ same_name (k + 1) in
          ap (λ t. option_map (λ entry. entry.1) (cond t (Some (declared a)) (find (λ entry. bytes_eq (name (k + 1)) entry.0) (map declared (range_with_len (a + 1) m))))) here
          ∙ ap (λ x. Some (Meaning.One (integer_at x))) (sym same)
    ]

-- the next name is new
pub name_new : (n : ℕ) → n < 2 ^ 32 → meaning_of (scope_of n) (name (n + 1)) ≡ None
name_new n small = absent_from 0 n n (omega arith) small

-- a declared name stands for its variable
pub name_known : (n i : ℕ) → 1 ≤ i → i ≤ n → n < 2 ^ 32 → meaning_of (scope_of n) (name i) ≡ Some (Meaning.One (integer_at (i - 1)))
name_known n i some within small =
    let back : i - 1 + 1 ≡ i = omega arith in
    ap (λ x. meaning_of (scope_of n) (name x)) (sym back) ∙ present_from 0 n (i - 1) (omega arith) (omega arith) (omega arith)
