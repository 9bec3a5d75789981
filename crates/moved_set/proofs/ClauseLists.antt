-- The variables of a clause whose literals stand by their signs.
use Rattle.std.proofs.Common.{◌≡◌, ℕ, ◌+◌, List, [], ◌∷◌, ◌++◌, Bool, false, length, map, take, drop, refl, sym, ◌∙◌, ap, arith}
use Rattle.std.proofs.Math.Seq.{take-append_seam, drop-append_seam}
use Rattle.std.proofs.lemmas.List.{length-append, append-nil, drop_all}
use Rattle.guarded_tell.specs.Words.{Lit}
use Rattle.clause_tells.specs.Clause.{clause_vars}
use Rattle.clause_tells.specs.Literals.{literal, literals_by_sign}
use Rattle.moved_set.specs.Parts.{HasList}

-- the variables of literals of one sign
vars_of_sign : (sign : Bool) (vs : List ℕ) → map (λ (k : Lit). k.var) (map (literal sign) vs) ≡ vs
vars_of_sign sign [] = refl
vars_of_sign sign (v ∷ vs) = ap (λ (xs : List ℕ). v ∷ xs) (vars_of_sign sign vs)

-- the variables of literals by their signs
vars_by_sign : (ps ns : List ℕ) → map (λ (k : Lit). k.var) (literals_by_sign ps ns) ≡ ps ++ ns
vars_by_sign [] ns = vars_of_sign false ns
vars_by_sign (p ∷ ps) ns = ap (λ (xs : List ℕ). p ∷ xs) (vars_by_sign ps ns)

front : (ps ns vars : List ℕ) → vars ≡ ps ++ ns → HasList vars 0 ps
front ps ns vars is =
    let len : length vars ≡ length ps + length ns = ap length is ∙ length-append ps ns in
    let count : 0 + length ps ≡ length ps = omega arith in
    let rest : drop (0 + length ps) vars ≡ ns = ap (λ (n : ℕ). drop n vars) count ∙ ap (drop (length ps)) is ∙ drop-append_seam ps ns in
    record {
      within = omega arith;
      parted = is ∙ ap (λ (xs : List ℕ). ps ++ xs) (sym rest);
    }

back : (ps ns vars : List ℕ) → vars ≡ ps ++ ns → HasList vars (length ps) ns
back ps ns vars is =
    let len : length vars ≡ length ps + length ns = ap length is ∙ length-append ps ns in
    let first : take (length ps) vars ≡ ps = ap (take (length ps)) is ∙ take-append_seam ps ns in
    let rest : drop (length ps + length ns) vars ≡ [] = drop_all (length ps + length ns) vars (omega arith) in
    let whole : (take (length ps) vars ++ ns) ++ [] ≡ ps ++ ns = append-nil (take (length ps) vars ++ ns) ∙ ap (λ (xs : List ℕ). xs ++ ns) first in
    record {
      within = omega arith;
      parted = is ∙ sym (ap (λ (xs : List ℕ). (take (length ps) vars ++ ns) ++ xs) rest ∙ whole);
    }

-- the variables of the positive literals stand in front
pub has_positives : (ps ns : List ℕ) → HasList (clause_vars (literals_by_sign ps ns)) 0 ps
unfolding clause_vars
has_positives [] [] = record { within = omega arith; parted = refl }
has_positives [] (n ∷ ns) = front [] (n ∷ ns) _ (vars_by_sign [] (n ∷ ns))
has_positives (p ∷ ps) ns = front (p ∷ ps) ns _ (vars_by_sign (p ∷ ps) ns)

-- those of the negative literals behind them
pub has_negatives : (ps ns : List ℕ) → HasList (clause_vars (literals_by_sign ps ns)) (length ps) ns
unfolding clause_vars
has_negatives [] [] = record { within = omega arith; parted = refl }
has_negatives [] (n ∷ ns) = back [] (n ∷ ns) _ (vars_by_sign [] (n ∷ ns))
has_negatives (p ∷ ps) ns = back (p ∷ ps) ns _ (vars_by_sign (p ∷ ps) ns)
