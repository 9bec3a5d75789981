-- Where each variable is printed, what is read of a solution is the solution.
use Rattle.std.proofs.Common.{◌≡◌, ◌<◌, ℕ, zero, suc, ℤ, pos, List, [], ◌∷◌, length, get_or, refl, sym, subst, ◌∙◌, arith, length-set, get_or-set_same, get_or-set_other, ext_get_or, ⊎_elim}
use Rattle.std.specs.Prelude.{Contains, slice_index_or, slice_set}
use Rattle.std.proofs.lemmas.Bool.{cases_eq}
use Rattle.constraint_model.specs.declared.model.Term.{Term}
use Rattle.constraint_model.specs.Relations.{value}
use Rattle.fzn_print.specs.Lines.{filled, put_at}

length-put_at : (values : List ℤ) (t : Term) (z : ℤ) → length (put_at values t z) ≡ length values
length-put_at values (Term.Number n) z = refl
length-put_at values (Term.Var v) z = length-set values v z

pub length-filled : (a values : List ℤ) (ts : List Term) → length (filled a values ts) ≡ length values
length-filled a values [] = refl
length-filled a values (t ∷ ts) = length-filled a (put_at values t (value a t)) ts ∙ length-put_at values t (value a t)

-- the number of a variable that is right stays
put_kept : (a values : List ℤ) (t : Term) (k : ℕ) → k < length values → get_or values k (pos 0) ≡ get_or a k (pos 0) → get_or (put_at values t (value a t)) k (pos 0) ≡ get_or a k (pos 0)
put_kept a values (Term.Number n) k inside right = right
put_kept a values (Term.Var v) k inside right = ⊎_elim here there (cases_eq v k)
  where
    here : v ≡ k → get_or (slice_set values v (slice_index_or a v (pos 0))) k (pos 0) ≡ get_or a k (pos 0)
    here e = subst (λ (u : ℕ). get_or (slice_set values u (slice_index_or a u (pos 0))) k (pos 0) ≡ get_or a k (pos 0)) (sym e) (get_or-set_same values k (get_or a k (pos 0)) (pos 0) inside)

    there : (v ≡ k → ⊥) → get_or (slice_set values v (slice_index_or a v (pos 0))) k (pos 0) ≡ get_or a k (pos 0)
    there ne = get_or-set_other values v k (get_or a v (pos 0)) (pos 0) (λ e. ne (sym e)) ∙ right

kept : (a values : List ℤ) (ts : List Term) (k : ℕ) → k < length values → get_or values k (pos 0) ≡ get_or a k (pos 0) → get_or (filled a values ts) k (pos 0) ≡ get_or a k (pos 0)
kept a values [] k inside right = right
kept a values (t ∷ ts) k inside right =
    let same = length-put_at values t (value a t) in
    kept a (put_at values t (value a t)) ts k (omega arith) (put_kept a values t k inside right)

put_right : (a values : List ℤ) (t : Term) (k : ℕ) → t ≡ Term.Var k → k < length values → get_or (put_at values t (value a t)) k (pos 0) ≡ get_or a k (pos 0)
put_right a values t k is inside =
    subst (λ (u : Term). get_or (put_at values u (value a u)) k (pos 0) ≡ get_or a k (pos 0)) (sym is) (get_or-set_same values k (get_or a k (pos 0)) (pos 0) inside)

-- that of one that is among the terms is right
reached : (a values : List ℤ) (ts : List Term) (k : ℕ) → k < length values → (j : ℕ) → j < length ts → slice_index_or ts j (Term.Var k) ≡ Term.Var k → get_or (filled a values ts) k (pos 0) ≡ get_or a k (pos 0)
reached a values [] k inside j short is = absurd (omega arith)
reached a values (t ∷ ts) k inside zero short is =
    let same = length-put_at values t (value a t) in
    kept a (put_at values t (value a t)) ts k (omega arith) (put_right a values t k is inside)
reached a values (t ∷ ts) k inside (suc j) short is =
    let same = length-put_at values t (value a t) in
    reached a (put_at values t (value a t)) ts k (omega arith) j (omega arith) is

pub filled_is : (a values : List ℤ) (ts : List Term) → length values ≡ length a → ((k : ℕ) → k < length a → Contains ts (Term.Var k)) → filled a values ts ≡ a
filled_is a values ts same each =
    let long = length-filled a values ts in
    ext_get_or (pos 0) (filled a values ts) a (long ∙ same) (λ k inside. let found = each k (omega arith) in reached a values ts k (omega arith) found.0 found.1 found.2)
