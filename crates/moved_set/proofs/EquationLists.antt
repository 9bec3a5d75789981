-- The variables of an equation, all but the last of which may be a list that it has with others.
use Rattle.std.proofs.Common.{◌≡◌, ℕ, suc, ◌+◌, List, [], ◌∷◌, ◌++◌, Option, None, Some, length, drop, sym, ◌∙◌, ap, arith}
use Rattle.std.proofs.Math.Seq.{drop-append_seam}
use Rattle.std.proofs.lemmas.List.{length-append, append-nil}
use Rattle.sum_tells.specs.Extended.{extended}
use Rattle.moved_set.specs.Parts.{HasList}

second : (v : ℕ) (vars list rest : List ℕ) → vars ≡ list ++ rest → HasList (v ∷ vars) 1 list
second v vars list rest is =
    let len : length vars ≡ length list + length rest = ap length is ∙ length-append list rest in
    let count : 1 + length list ≡ suc (length list) = omega arith in
    let behind : drop (1 + length list) (v ∷ vars) ≡ rest = ap (λ (n : ℕ). drop n (v ∷ vars)) count ∙ ap (drop (length list)) is ∙ drop-append_seam list rest in
    record {
      within = omega arith;
      parted = ap (λ (xs : List ℕ). v ∷ xs) (is ∙ ap (λ (xs : List ℕ). list ++ xs) (sym behind));
    }

-- the list stands behind the literal's variable
pub has_list : (v : ℕ) (vars list : List ℕ) (last : Option ℕ) → vars ≡ extended list last → HasList (v ∷ vars) 1 list
has_list v vars list None is = second v vars list [] (is ∙ sym (append-nil list))
has_list v vars list (Some x) is = second v vars list (x ∷ []) is
