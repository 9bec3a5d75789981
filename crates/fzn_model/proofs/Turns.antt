-- What holds at each turn of the loops over lists: what was made so far, and what the rest of the list gives, make the whole.
use Rattle.std.proofs.Common.{◌≡◌, ℕ, zero, suc, ◌+◌, List, [], ◌∷◌, ◌++◌, drop, Option, Some, None, sym, ap, ◌∙◌, add-one, arith}
use Rattle.std.specs.List.{range_with_len}

-- the one behind the other, where both are there
abbrev pub together : {B : Type 0} → Option (List B) → Option (List B) → Option (List B)
together (Some xs) (Some ys) = Some (xs ++ ys)
together (Some xs) None = None
together None o = None

-- the elements before the place i give ys, where each has to give something
pub record Gathered {A B : Type 0} (whole : List A → Option (List B)) (xs : List A) (i : ℕ) (ys : List B) : Type 0 where
  pub same : whole xs ≡ together (Some ys) (whole (drop i xs))

-- the elements before the place i lengthen `before` to ys
pub record Joined {A B : Type 0} (whole : List A → List B) (xs : List A) (before : List B) (i : ℕ) (ys : List B) : Type 0 where
  pub same : before ++ whole xs ≡ ys ++ whole (drop i xs)

-- the elements before the place i change nothing
pub record Passed {A C : Type 0} (whole : List A → C) (xs : List A) (i : ℕ) : Type 0 where
  pub same : whole xs ≡ whole (drop i xs)

range_push : (a n : ℕ) → range_with_len a (suc n) ≡ range_with_len a n ++ (a + n) ∷ []
range_push a zero = let same : a ≡ a + zero = omega arith in ap (λ m. m ∷ []) same
range_push a (suc n) =
    let same : (a + 1) + n ≡ a + suc n = omega arith in
    ap (λ ms. a ∷ ms) (range_push (a + 1) n ∙ ap (λ m. range_with_len (a + 1) n ++ m ∷ []) same)

-- one number more
pub range_goes : (n : ℕ) (xs ys : List ℕ) → xs ≡ range_with_len 0 n → ys ≡ xs ++ n ∷ [] → ys ≡ range_with_len 0 (n + 1)
range_goes n xs ys e f =
    let same : 0 + n ≡ n = omega arith in
    f ∙ ap (λ zs. zs ++ n ∷ []) e ∙ ap (λ m. range_with_len 0 n ++ m ∷ []) (sym same) ∙ sym (range_push 0 n) ∙ ap (range_with_len 0) (sym (add-one n))
