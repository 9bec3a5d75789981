-- What the primitive readers read is what they name.
use Rattle.std.proofs.Common.{◌≡◌, ℕ, nat_eq, List, [], ◌∷◌, ◌++◌, Bool, true, false, cond, Option, Some, None, refl, sym, ap, ◌∙◌}
use Rattle.std.proofs.lemmas.Bool.{false≢true}
use Rattle.std.proofs.Common.{eqb-true as eqb-eq}
use Rattle.fzn_lexer.specs.declared.Token.{Token}
use Rattle.fzn_parser.specs.declared.cursor.Symbol.{Symbol}
use Rattle.fzn_parser.specs.declared.cursor.Class.{Class}
use Rattle.fzn_parser.specs.declared.cursor.Lexeme.{Lexeme}
use Rattle.fzn_parser.specs.Terminals.{Read, symbol_code, class_code, same_symbol, same_class, begins, rest, kept_at}
use Rattle.fzn_parser.specs.Reading.{mapped, or_else, and_then, after}
use Rattle.fzn_parser.specs.Notes.{choose}

abbrev symbol_of : ℕ → Symbol
symbol_of n =
    cond (nat_eq n 0) Symbol.Predicate (
    cond (nat_eq n 1) Symbol.Var (
    cond (nat_eq n 2) Symbol.Array (
    cond (nat_eq n 3) Symbol.Of (
    cond (nat_eq n 4) Symbol.Set (
    cond (nat_eq n 5) Symbol.Bool (
    cond (nat_eq n 6) Symbol.Int (
    cond (nat_eq n 7) Symbol.Float (
    cond (nat_eq n 8) Symbol.Constraint (
    cond (nat_eq n 9) Symbol.Solve (
    cond (nat_eq n 10) Symbol.Satisfy (
    cond (nat_eq n 11) Symbol.Minimize (
    cond (nat_eq n 12) Symbol.Maximize (
    cond (nat_eq n 13) Symbol.True (
    cond (nat_eq n 14) Symbol.False (
    cond (nat_eq n 15) Symbol.ParenOpen (
    cond (nat_eq n 16) Symbol.ParenClose (
    cond (nat_eq n 17) Symbol.BracketOpen (
    cond (nat_eq n 18) Symbol.BracketClose (
    cond (nat_eq n 19) Symbol.BraceOpen (
    cond (nat_eq n 20) Symbol.BraceClose (
    cond (nat_eq n 21) Symbol.Comma (
    cond (nat_eq n 22) Symbol.Semicolon (
    cond (nat_eq n 23) Symbol.Colon (
    cond (nat_eq n 24) Symbol.DoubleColon (
    cond (nat_eq n 25) Symbol.Equals (
    cond (nat_eq n 26) Symbol.DotDot (
    Symbol.Stray)))))))))))))))))))))))))))

symbol_back : (s : Symbol) → symbol_of (symbol_code s) ≡ s
symbol_back Symbol.Predicate = refl
symbol_back Symbol.Var = refl
symbol_back Symbol.Array = refl
symbol_back Symbol.Of = refl
symbol_back Symbol.Set = refl
symbol_back Symbol.Bool = refl
symbol_back Symbol.Int = refl
symbol_back Symbol.Float = refl
symbol_back Symbol.Constraint = refl
symbol_back Symbol.Solve = refl
symbol_back Symbol.Satisfy = refl
symbol_back Symbol.Minimize = refl
symbol_back Symbol.Maximize = refl
symbol_back Symbol.True = refl
symbol_back Symbol.False = refl
symbol_back Symbol.ParenOpen = refl
symbol_back Symbol.ParenClose = refl
symbol_back Symbol.BracketOpen = refl
symbol_back Symbol.BracketClose = refl
symbol_back Symbol.BraceOpen = refl
symbol_back Symbol.BraceClose = refl
symbol_back Symbol.Comma = refl
symbol_back Symbol.Semicolon = refl
symbol_back Symbol.Colon = refl
symbol_back Symbol.DoubleColon = refl
symbol_back Symbol.Equals = refl
symbol_back Symbol.DotDot = refl
symbol_back Symbol.Stray = refl

abbrev class_of : ℕ → Class
class_of n = cond (nat_eq n 0) Class.Name (cond (nat_eq n 1) Class.Int (cond (nat_eq n 2) Class.Float Class.Text))

class_back : (c : Class) → class_of (class_code c) ≡ c
class_back Class.Name = refl
class_back Class.Int = refl
class_back Class.Float = refl
class_back Class.Text = refl

pub symbol_is : (a b : Symbol) → same_symbol a b ≡ true → a ≡ b
symbol_is a b e = sym (symbol_back a) ∙ ap symbol_of (eqb-eq (symbol_code a) (symbol_code b) e) ∙ symbol_back b

pub class_is : (a b : Class) → same_class a b ≡ true → a ≡ b
class_is a b e = sym (class_back a) ∙ ap class_of (eqb-eq (class_code a) (class_code b) e) ∙ class_back b

pub begins_is : (s : Symbol) (ls : List Lexeme) → begins s ls ≡ true → ls ≡ Lexeme.Fixed s ∷ rest ls
unfolding begins rest
begins_is s [] e = absurd (false≢true e)
begins_is s (Lexeme.Fixed t ∷ ls) e = ap (λ u. Lexeme.Fixed u ∷ ls) (symbol_is t s e)
begins_is s (Lexeme.Kept c t ∷ ls) e = absurd (false≢true e)

abbrev pub got : {A : Type 0} → A → List Lexeme → Option (A × List Lexeme)
got a r = Some (a, r)

abbrev first_or : {A : Type 0} → A → Option (A × List Lexeme) → A
first_or d None = d
first_or d (Some p) = p.0

abbrev rest_or : {A : Type 0} → List Lexeme → Option (A × List Lexeme) → List Lexeme
rest_or d None = d
rest_or d (Some p) = p.1

pub same_first : {A : Type 0} (a b : A) (r s : List Lexeme) → got a r ≡ got b s → a ≡ b
same_first a b r s e = ap (first_or a) e

pub same_rest : {A : Type 0} (a b : A) (r s : List Lexeme) → got a r ≡ got b s → r ≡ s
same_rest a b r s e = ap (rest_or r) e

pub carry : {A : Type 0} (print : A → List Lexeme) (a b : A) (ls r s : List Lexeme) → ls ≡ print a ++ r → got a r ≡ got b s → ls ≡ print b ++ s
carry print a b ls r s h e = h ∙ ap (λ x. print x ++ r) (same_first a b r s e) ∙ ap (λ t. print b ++ t) (same_rest a b r s e)

none_some : {X : Type 0} (x : X) → None ≡ Some x → ⊥
none_some x e = cc

kept_when : (b : Bool) (c d : Class) (t u : Token) (ls r : List Lexeme) → (b ≡ true → d ≡ c) → cond b (got t ls) None ≡ got u r → Lexeme.Kept d t ∷ ls ≡ Lexeme.Kept c u ∷ r
kept_when true c d t u ls r is e = ap (λ x. Lexeme.Kept x t ∷ ls) (is refl) ∙ ap (λ x. Lexeme.Kept c x ∷ ls) (same_first t u ls r e) ∙ ap (λ x. Lexeme.Kept c u ∷ x) (same_rest t u ls r e)
kept_when false c d t u ls r is e = absurd (none_some _ e)

pub kept_is : (c : Class) (ls r : List Lexeme) (t : Token) → kept_at c ls ≡ Some (t, r) → ls ≡ Lexeme.Kept c t ∷ r
unfolding kept_at
kept_is c [] r t e = absurd (none_some _ e)
kept_is c (Lexeme.Fixed s ∷ ls) r t e = absurd (none_some _ e)
kept_is c (Lexeme.Kept d u ∷ ls) r t e = kept_when (same_class d c) c d u t ls r (class_is d c) e

pub cond_some : {X P : Type 0} (b : Bool) (x y : Option X) (q : X) → cond b x y ≡ Some q → (b ≡ true → x ≡ Some q → P) → (b ≡ false → y ≡ Some q → P) → P
cond_some true x y q e f g = f refl e
cond_some false x y q e f g = g refl e

pub mapped_some : {A B P : Type 0} (f : A → B) (o : Option (A × List Lexeme)) (b : B) (r : List Lexeme) → mapped f o ≡ Some (b, r) → ((a : A) → o ≡ Some (a, r) → f a ≡ b → P) → P
mapped_some f None b r e k = absurd (none_some _ e)
mapped_some f (Some p) b r e k = k p.0 (ap (λ s. Some (p.0, s)) (same_rest (f p.0) b p.1 r e)) (same_first (f p.0) b p.1 r e)

pub then_some : {A B P : Type 0} (o : Option (A × List Lexeme)) (f : A → List Lexeme → Option (B × List Lexeme)) (q : B × List Lexeme) → and_then o f ≡ Some q → ((a : A) (m : List Lexeme) → o ≡ Some (a, m) → f a m ≡ Some q → P) → P
then_some None f q e k = absurd (none_some _ e)
then_some (Some p) f q e k = k p.0 p.1 refl e

pub after_some : {A P : Type 0} (s : Symbol) (read : Read A) (ls : List Lexeme) (q : A × List Lexeme) → after s read ls ≡ Some q → (ls ≡ Lexeme.Fixed s ∷ rest ls → read (rest ls) ≡ Some q → P) → P
after_some s read ls q e k = cond_some (begins s ls) (read (rest ls)) None q e (λ b h. k (begins_is s ls b) h) (λ b h. absurd (none_some q h))

pub else_some : {X P : Type 0} (o p : Option X) (q : X) → or_else o p ≡ Some q → (o ≡ Some q → P) → (p ≡ Some q → P) → P
else_some None p q e f g = g e
else_some (Some x) p q e f g = f e

pub choose_some : {A B P : Type 0} (o : Option (A × List Lexeme)) (f : A → List Lexeme → Option (B × List Lexeme)) (p : Option (B × List Lexeme)) (q : B × List Lexeme) → choose o f p ≡ Some q → ((a : A) (m : List Lexeme) → o ≡ Some (a, m) → f a m ≡ Some q → P) → (p ≡ Some q → P) → P
choose_some None f p q e k g = g e
choose_some (Some x) f p q e k g = k x.0 x.1 refl e
