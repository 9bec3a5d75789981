-- Sound reading: what is read of sets and expressions is what the printer writes for it.
use Rattle.std.proofs.Common.{◌≡◌, ℕ, zero, suc, length, List, [], ◌∷◌, ◌++◌, true, false, Some, None, refl, sym, ap, ◌∙◌, append_assoc, append-nil}
use Rattle.fzn_lexer.specs.declared.Token.{Token}
use Rattle.fzn_parser.specs.declared.cursor.Symbol.{Symbol}
use Rattle.fzn_parser.specs.declared.cursor.Class.{Class}
use Rattle.fzn_parser.specs.declared.cursor.Lexeme.{Lexeme}
use Rattle.fzn_parser.specs.declared.tree.SetLit.{SetLit}
use Rattle.fzn_parser.specs.declared.tree.Elem.{Elem}
use Rattle.fzn_parser.specs.declared.tree.Expr.{Expr}
use Rattle.fzn_parser.specs.Terminals.{Read, begins, rest}
use Rattle.fzn_parser.specs.Reading.{mapped, separator_at, more_until, list_until, int_at, set_at, from_int, number_at, elem_at, expr_at, exprs_at}
use Rattle.fzn_parser.specs.Grammar.{further, separated, print_int, print_set, print_elem, print_expr}
use Rattle.fzn_parser.proofs.Inversions.{got, same_first, same_rest, carry, begins_is, kept_is, cond_some, mapped_some, then_some, after_some, else_some}

false_true : false ≡ true → ⊥
false_true e = cc

pub none_got : {A : Type 0} (x : A × List Lexeme) → None ≡ Some x → ⊥
none_got x e = cc

-- what stands before the rest of the list is what the printer writes
abbrev pub IsSound : (A : Type 0) → Read A → (A → List Lexeme) → Type 0
IsSound A read print = (ls r : List Lexeme) (a : A) → read ls ≡ got a r → ls ≡ print a ++ r

pub int_sound : IsSound Token int_at print_int
int_sound ls r t e = kept_is Class.Int ls r t e

-- at least one entry, and the closing bracket
pub record Listed {A : Type 0} (print : A → List Lexeme) (close : Symbol) (ls r : List Lexeme) (xs : List A) : Type 0 where
  pub first : A
  pub others : List A
  pub whole : xs ≡ first ∷ others
  pub written : ls ≡ (print first ++ further print others) ++ Lexeme.Fixed close ∷ r

separator_goes : (close : Symbol) (ls m : List Lexeme) → separator_at close ls ≡ got true m → ls ≡ Lexeme.Fixed Symbol.Comma ∷ m
unfolding separator_at
separator_goes close ls m e =
    let P : Type 0 = ls ≡ Lexeme.Fixed Symbol.Comma ∷ m in
    cond_some {P = P} (begins Symbol.Comma ls) _ _ _ e
    (λ b q. begins_is Symbol.Comma ls b ∙ ap (λ x. Lexeme.Fixed Symbol.Comma ∷ x) (same_rest true true (rest ls) m q))
    (λ b q. cond_some {P = P} (begins close ls) _ _ _ q (λ c h. absurd (false_true (same_first false true (rest ls) m h))) (λ c h. absurd (none_got _ h)))

separator_ends : (close : Symbol) (ls m : List Lexeme) → separator_at close ls ≡ got false m → ls ≡ Lexeme.Fixed close ∷ m
unfolding separator_at
separator_ends close ls m e =
    let P : Type 0 = ls ≡ Lexeme.Fixed close ∷ m in
    cond_some {P = P} (begins Symbol.Comma ls) _ _ _ e
    (λ b q. absurd (false_true (sym (same_first true false (rest ls) m q))))
    (λ b q. cond_some {P = P} (begins close ls) _ _ _ q (λ c h. begins_is close ls c ∙ ap (λ x. Lexeme.Fixed close ∷ x) (same_rest false false (rest ls) m h)) (λ c h. absurd (none_got _ h)))

one_listed : {A : Type 0} (print : A → List Lexeme) (close : Symbol) (ls m n r : List Lexeme) (x : A) (xs : List A) → ls ≡ print x ++ m → m ≡ Lexeme.Fixed close ∷ n → got (x ∷ []) n ≡ got xs r → Listed print close ls r xs
one_listed print close ls m n r x xs e f g = record {
  first = x;
  others = [];
  whole = sym (same_first (x ∷ []) xs n r g);
  written = e ∙ ap (λ y. print x ++ y) (f ∙ ap (λ y. Lexeme.Fixed close ∷ y) (same_rest (x ∷ []) xs n r g)) ∙ ap (λ y. y ++ Lexeme.Fixed close ∷ r) (sym (append-nil (print x)));
}

more_listed : {A : Type 0} (print : A → List Lexeme) (close : Symbol) (ls m n r : List Lexeme) (x : A) (ys xs : List A) → ls ≡ print x ++ m → m ≡ Lexeme.Fixed Symbol.Comma ∷ n → Listed print close n r ys → x ∷ ys ≡ xs → Listed print close ls r xs
more_listed print close ls m n r x ys xs e f l g = record {
  first = x;
  others = l.first ∷ l.others;
  whole = sym g ∙ ap (λ zs. x ∷ zs) l.whole;
  written = e ∙ ap (λ y. print x ++ y) (f ∙ ap (λ y. Lexeme.Fixed Symbol.Comma ∷ y) l.written) ∙ sym (append_assoc (print x) (Lexeme.Fixed Symbol.Comma ∷ (print l.first ++ further print l.others)) (Lexeme.Fixed close ∷ r));
}

more_sound : {A : Type 0} (close : Symbol) (read : Read A) (print : A → List Lexeme) → IsSound A read print → (n : ℕ) (ls r : List Lexeme) (xs : List A) → more_until close read n ls ≡ got xs r → Listed print close ls r xs
unfolding more_until
more_sound close read print sound zero ls r xs e = absurd (none_got _ e)
more_sound {A} close read print sound (suc n) ls r xs e =
    let P : Type 0 = Listed print close ls r xs in
    then_some {P = P} (read ls) _ _ e (λ x m o f.
    then_some {P = P} (separator_at close m) _ _ f (λ goes k p g.
    cond_some {P = P} goes _ _ _ g
    (λ b h. mapped_some {P = P} (λ zs. x ∷ zs) _ xs r h (λ ys q s. more_listed print close ls m k r x ys xs (sound ls m x o) (separator_goes close m k (p ∙ ap (λ z. got z k) b)) (more_sound close read print sound n k r ys q) s))
    (λ b h. one_listed print close ls m k r x xs (sound ls m x o) (separator_ends close m k (p ∙ ap (λ z. got z k) b)) h)))

pub list_sound : {A : Type 0} (close : Symbol) (read : Read A) (print : A → List Lexeme) → IsSound A read print → (ls r : List Lexeme) (xs : List A) → list_until close read ls ≡ got xs r → ls ≡ separated print xs ++ Lexeme.Fixed close ∷ r
unfolding list_until
list_sound close read print sound ls r xs e =
    let P : Type 0 = ls ≡ separated print xs ++ Lexeme.Fixed close ∷ r in
    cond_some {P = P} (begins close ls) _ _ _ e
    (λ b h. begins_is close ls b ∙ ap (λ y. Lexeme.Fixed close ∷ y) (same_rest [] xs (rest ls) r h) ∙ ap (λ zs. separated print zs ++ Lexeme.Fixed close ∷ r) (same_first [] xs (rest ls) r h))
    (λ b h. let l = more_sound close read print sound (length ls) ls r xs h in
    l.written ∙ ap (λ zs. separated print zs ++ Lexeme.Fixed close ∷ r) (sym l.whole))

-- the same behind its opening bracket
bracketed : {A : Type 0} (open_symbol close : Symbol) (print : A → List Lexeme) (ls r : List Lexeme) (xs : List A) → begins open_symbol ls ≡ true → rest ls ≡ separated print xs ++ Lexeme.Fixed close ∷ r → ls ≡ (Lexeme.Fixed open_symbol ∷ (separated print xs ++ Lexeme.Fixed close ∷ [])) ++ r
bracketed open_symbol close print ls r xs b e = begins_is open_symbol ls b ∙ ap (λ y. Lexeme.Fixed open_symbol ∷ y) (e ∙ sym (append_assoc (separated print xs) (Lexeme.Fixed close ∷ []) r))

pub set_sound : IsSound SetLit set_at print_set
unfolding set_at
set_sound ls r s e =
    let P : Type 0 = ls ≡ print_set s ++ r in
    cond_some {P = P} (begins Symbol.BraceOpen ls) _ _ _ e
    (λ b h. mapped_some {P = P} SetLit.Braces _ s r h (λ ts q f. bracketed Symbol.BraceOpen Symbol.BraceClose print_int ls r ts b (list_sound Symbol.BraceClose int_at print_int int_sound (rest ls) r ts q) ∙ ap (λ x. print_set x ++ r) f))
    (λ b h. then_some {P = P} (int_at ls) _ _ h (λ low m o f. after_some {P = P} Symbol.DotDot (λ ns. mapped (SetLit.Range low) (int_at ns)) m _ f (λ d g. mapped_some {P = P} (SetLit.Range low) _ s r g (λ high q i.
    kept_is Class.Int ls m low o ∙ ap (λ y. Lexeme.Kept Class.Int low ∷ y) (d ∙ ap (λ y. Lexeme.Fixed Symbol.DotDot ∷ y) (kept_is Class.Int (rest m) r high q)) ∙ ap (λ x. print_set x ++ r) i))))

from_int_sound : (low : Token) (ls r : List Lexeme) (x : Elem) → from_int low ls ≡ got x r → Lexeme.Kept Class.Int low ∷ ls ≡ print_elem x ++ r
unfolding from_int
from_int_sound low ls r x e =
    let P : Type 0 = Lexeme.Kept Class.Int low ∷ ls ≡ print_elem x ++ r in
    cond_some {P = P} (begins Symbol.DotDot ls) _ _ _ e
    (λ b h. mapped_some {P = P} (λ high. Elem.Set (SetLit.Range low high)) _ x r h (λ high q i.
    ap (λ y. Lexeme.Kept Class.Int low ∷ y) (begins_is Symbol.DotDot ls b ∙ ap (λ y. Lexeme.Fixed Symbol.DotDot ∷ y) (kept_is Class.Int (rest ls) r high q)) ∙ ap (λ z. print_elem z ++ r) i))
    (λ b h. carry print_elem (Elem.Int low) x (Lexeme.Kept Class.Int low ∷ ls) ls r refl h)

number_sound : IsSound Elem number_at print_elem
unfolding number_at
number_sound ls r x e =
    let P : Type 0 = ls ≡ print_elem x ++ r in
    else_some {P = P} _ _ _ e
    (λ h. mapped_some {P = P} Elem.Float _ x r h (λ t q i. kept_is Class.Float ls r t q ∙ ap (λ z. print_elem z ++ r) i))
    (λ h. then_some {P = P} (int_at ls) _ _ h (λ low m o f. kept_is Class.Int ls m low o ∙ from_int_sound low m r x f))

pub elem_sound : IsSound Elem elem_at print_elem
unfolding elem_at
elem_sound ls r x e =
    let P : Type 0 = ls ≡ print_elem x ++ r in
    cond_some {P = P} (begins Symbol.True ls) _ _ _ e (λ b h. carry print_elem Elem.True x ls (rest ls) r (begins_is Symbol.True ls b) h)
    (λ b h. cond_some {P = P} (begins Symbol.False ls) _ _ _ h (λ c i. carry print_elem Elem.False x ls (rest ls) r (begins_is Symbol.False ls c) i)
    (λ c i. cond_some {P = P} (begins Symbol.BraceOpen ls) _ _ _ i
    (λ d j. mapped_some {P = P} (λ vs. Elem.Set (SetLit.Braces vs)) _ x r j (λ ts q f. bracketed Symbol.BraceOpen Symbol.BraceClose print_int ls r ts d (list_sound Symbol.BraceClose int_at print_int int_sound (rest ls) r ts q) ∙ ap (λ z. print_elem z ++ r) f))
    (λ d j. else_some {P = P} _ _ _ j (λ k. mapped_some {P = P} Elem.Name _ x r k (λ t q f. kept_is Class.Name ls r t q ∙ ap (λ z. print_elem z ++ r) f)) (λ k. number_sound ls r x k))))

pub expr_sound : IsSound Expr expr_at print_expr
unfolding expr_at
expr_sound ls r x e =
    let P : Type 0 = ls ≡ print_expr x ++ r in
    cond_some {P = P} (begins Symbol.BracketOpen ls) _ _ _ e
    (λ b h. mapped_some {P = P} Expr.Row _ x r h (λ es q f. bracketed Symbol.BracketOpen Symbol.BracketClose print_elem ls r es b (list_sound Symbol.BracketClose elem_at print_elem elem_sound (rest ls) r es q) ∙ ap (λ z. print_expr z ++ r) f))
    (λ b h. mapped_some {P = P} Expr.One _ x r h (λ y q f. elem_sound ls r y q ∙ ap (λ z. print_expr z ++ r) f))

pub exprs_sound : (ls r : List Lexeme) (xs : List Expr) → exprs_at ls ≡ got xs r → ls ≡ separated print_expr xs ++ Lexeme.Fixed Symbol.ParenClose ∷ r
exprs_sound ls r xs e = list_sound Symbol.ParenClose expr_at print_expr expr_sound ls r xs e
