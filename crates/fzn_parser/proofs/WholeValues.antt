-- Whole reading: what the printer writes for a set or an expression is read back.
use Rattle.std.proofs.Common.{◌≡◌, ◌<◌, ◌≤◌, ◌-◌, ℕ, length, List, [], ◌∷◌, ◌++◌, true, false, cond, refl, ap, ◌∙◌, append_assoc, append-nil, length-append, arith}
use Rattle.fzn_lexer.specs.declared.Token.{Token}
use Rattle.fzn_parser.specs.declared.cursor.Symbol.{Symbol}
use Rattle.fzn_parser.specs.declared.cursor.Lexeme.{Lexeme}
use Rattle.fzn_parser.specs.declared.tree.SetLit.{SetLit}
use Rattle.fzn_parser.specs.declared.tree.Elem.{Elem}
use Rattle.fzn_parser.specs.declared.tree.Expr.{Expr}
use Rattle.fzn_parser.specs.Terminals.{Read, same_symbol, begins, rest, kept_at}
use Rattle.fzn_parser.specs.Reading.{mapped, separator_at, more_until, list_until, int_at, ints_at, set_at, from_int, number_at, elem_at, elems_at, expr_at, exprs_at}
use Rattle.fzn_parser.specs.Grammar.{further, separated, print_int, print_set, print_elem, print_expr}
use Rattle.fzn_parser.proofs.Inversions.{got}
use Rattle.fzn_parser.proofs.Lists.{more_ends, more_goes}

-- nothing here goes on with an integer or a name
pub record Ends (ls : List Lexeme) : Type 0 where
  pub no_range : begins Symbol.DotDot ls ≡ false
  pub no_call : begins Symbol.ParenOpen ls ≡ false

-- a closing bracket
pub record IsClose (close : Symbol) : Type 0 where
  pub itself : same_symbol close close ≡ true
  pub no_comma : same_symbol close Symbol.Comma ≡ false
  pub no_range : same_symbol close Symbol.DotDot ≡ false
  pub no_call : same_symbol close Symbol.ParenOpen ≡ false

pub close_ends : (close : Symbol) (r : List Lexeme) → IsClose close → Ends (Lexeme.Fixed close ∷ r)
unfolding begins
close_ends close r c = record { no_range = c.no_range; no_call = c.no_call }

comma_ends : (r : List Lexeme) → Ends (Lexeme.Fixed Symbol.Comma ∷ r)
unfolding begins
comma_ends r = record { no_range = refl; no_call = refl }

abbrev pub AllOf : {A : Type 0} → (A → Type 0) → List A → Type 0
AllOf P [] = Unit {0}
AllOf P (x ∷ xs) = P x × AllOf P xs

abbrev pub IsWhole : (A : Type 0) → Read A → (A → List Lexeme) → (A → Type 0) → Type 0
IsWhole A read print P = (r : List Lexeme) (a : A) → P a → Ends r → read (print a ++ r) ≡ got a r

separator_comma : (close : Symbol) (m : List Lexeme) → separator_at close (Lexeme.Fixed Symbol.Comma ∷ m) ≡ got true m
unfolding separator_at begins rest
separator_comma close m = refl

separator_close : (close : Symbol) (m : List Lexeme) → IsClose close → separator_at close (Lexeme.Fixed close ∷ m) ≡ got false m
unfolding separator_at begins rest
separator_close close m c = rw (c.no_comma, c.itself)

more_whole : {A : Type 0} (close : Symbol) (read : Read A) (print : A → List Lexeme) (P : A → Type 0) → IsClose close → IsWhole A read print P → (ys : List A) (n : ℕ) (x : A) (r : List Lexeme) → length ys < n → P x → AllOf P ys → more_until close read n ((print x ++ further print ys) ++ Lexeme.Fixed close ∷ r) ≡ got (x ∷ ys) r
more_whole close read print P c whole [] n x r h p ps =
    ap (λ y. more_until close read n (y ++ Lexeme.Fixed close ∷ r)) (append-nil (print x))
    ∙ more_ends close read n (print x ++ Lexeme.Fixed close ∷ r) (Lexeme.Fixed close ∷ r) r x (omega arith) (whole (Lexeme.Fixed close ∷ r) x p (close_ends close r c)) (separator_close close r c)
more_whole close read print P c whole (y ∷ ys) n x r h p ps =
    let left = (print y ++ further print ys) ++ Lexeme.Fixed close ∷ r in
    ap (more_until close read n) (append_assoc (print x) (Lexeme.Fixed Symbol.Comma ∷ (print y ++ further print ys)) (Lexeme.Fixed close ∷ r))
    ∙ more_goes close read n (n - 1) (print x ++ Lexeme.Fixed Symbol.Comma ∷ left) (Lexeme.Fixed Symbol.Comma ∷ left) left x (omega arith) (whole (Lexeme.Fixed Symbol.Comma ∷ left) x p (comma_ends left)) (separator_comma close left)
    ∙ ap (mapped (λ xs. x ∷ xs)) (more_whole close read print P c whole ys (n - 1) y r (omega arith) ps.0 ps.1)

further_long : {A : Type 0} (print : A → List Lexeme) (ys : List A) → length ys ≤ length (further print ys)
further_long print [] = omega arith
further_long print (y ∷ ys) = omega (arith, further_long print ys, length-append (print y) (further print ys))

pub list_whole : {A : Type 0} (close : Symbol) (read : Read A) (print : A → List Lexeme) (P : A → Type 0) → IsClose close → IsWhole A read print P → ((x : A) (l : List Lexeme) → begins close (print x ++ l) ≡ false) → (xs : List A) (r : List Lexeme) → AllOf P xs → list_until close read (separated print xs ++ Lexeme.Fixed close ∷ r) ≡ got xs r
unfolding list_until begins rest
list_whole close read print P c whole opens [] r ps = rw (c.itself)
list_whole close read print P c whole opens (x ∷ ys) r ps =
    let ls = (print x ++ further print ys) ++ Lexeme.Fixed close ∷ r in
    let no : begins close ls ≡ false = ap (begins close) (append_assoc (print x) (further print ys) (Lexeme.Fixed close ∷ r)) ∙ opens x _ in
    ap (λ b. cond b (got [] (rest ls)) (more_until close read (length ls) ls)) no
    ∙ more_whole close read print P c whole ys (length ls) x r (omega (arith, further_long print ys, length-append (print x ++ further print ys) (Lexeme.Fixed close ∷ r), length-append (print x) (further print ys))) ps.0 ps.1

abbrev Always : {A : Type 0} → A → Type 0
Always a = Unit {0}

all_always : {A : Type 0} (xs : List A) → AllOf Always xs
all_always [] = tt
all_always (x ∷ xs) = (tt, all_always xs)

brace : IsClose Symbol.BraceClose
brace = record { itself = refl; no_comma = refl; no_range = refl; no_call = refl }

pub bracket : IsClose Symbol.BracketClose
bracket = record { itself = refl; no_comma = refl; no_range = refl; no_call = refl }

pub paren : IsClose Symbol.ParenClose
paren = record { itself = refl; no_comma = refl; no_range = refl; no_call = refl }

int_whole : IsWhole Token int_at print_int Always
unfolding kept_at
int_whole r t p f = refl

int_opens : (t : Token) (l : List Lexeme) → begins Symbol.BraceClose (print_int t ++ l) ≡ false
unfolding begins
int_opens t l = refl

ints_whole : (ts : List Token) (r : List Lexeme) → ints_at ((separated print_int ts ++ Lexeme.Fixed Symbol.BraceClose ∷ []) ++ r) ≡ got ts r
ints_whole ts r = ap ints_at (append_assoc (separated print_int ts) (Lexeme.Fixed Symbol.BraceClose ∷ []) r) ∙ list_whole Symbol.BraceClose int_at print_int Always brace int_whole int_opens ts r (all_always ts)

pub set_whole : (s : SetLit) (r : List Lexeme) → set_at (print_set s ++ r) ≡ got s r
unfolding set_at begins rest kept_at
set_whole (SetLit.Range low high) r = refl
set_whole (SetLit.Braces ts) r = ap (mapped SetLit.Braces) (ints_whole ts r)

pub elem_whole : IsWhole Elem elem_at print_elem Always
unfolding elem_at number_at from_int begins rest kept_at
elem_whole r Elem.True p f = refl
elem_whole r Elem.False p f = refl
elem_whole r (Elem.Int t) p f = ap (λ b. cond b (mapped (λ high. Elem.Set (SetLit.Range t high)) (int_at (rest r))) (got (Elem.Int t) r)) f.no_range
elem_whole r (Elem.Float t) p f = refl
elem_whole r (Elem.Name t) p f = refl
elem_whole r (Elem.Set (SetLit.Range low high)) p f = refl
elem_whole r (Elem.Set (SetLit.Braces ts)) p f = ap (mapped (λ vs. Elem.Set (SetLit.Braces vs))) (ints_whole ts r)

elem_opens : (x : Elem) (l : List Lexeme) → begins Symbol.BracketClose (print_elem x ++ l) ≡ false
unfolding begins
elem_opens Elem.True l = refl
elem_opens Elem.False l = refl
elem_opens (Elem.Int t) l = refl
elem_opens (Elem.Float t) l = refl
elem_opens (Elem.Name t) l = refl
elem_opens (Elem.Set (SetLit.Range low high)) l = refl
elem_opens (Elem.Set (SetLit.Braces ts)) l = refl

elem_no_row : (x : Elem) (l : List Lexeme) → begins Symbol.BracketOpen (print_elem x ++ l) ≡ false
unfolding begins
elem_no_row Elem.True l = refl
elem_no_row Elem.False l = refl
elem_no_row (Elem.Int t) l = refl
elem_no_row (Elem.Float t) l = refl
elem_no_row (Elem.Name t) l = refl
elem_no_row (Elem.Set (SetLit.Range low high)) l = refl
elem_no_row (Elem.Set (SetLit.Braces ts)) l = refl

pub expr_whole : IsWhole Expr expr_at print_expr Always
unfolding expr_at begins rest
expr_whole r (Expr.One x) p f =
    ap (λ b. cond b (mapped Expr.Row (elems_at (rest (print_elem x ++ r)))) (mapped Expr.One (elem_at (print_elem x ++ r)))) (elem_no_row x r) ∙ ap (mapped Expr.One) (elem_whole r x tt f)
expr_whole r (Expr.Row xs) p f =
    ap (mapped Expr.Row) (ap elems_at (append_assoc (separated print_elem xs) (Lexeme.Fixed Symbol.BracketClose ∷ []) r) ∙ list_whole Symbol.BracketClose elem_at print_elem Always bracket elem_whole elem_opens xs r (all_always xs))

elem_no_paren : (x : Elem) (l : List Lexeme) → begins Symbol.ParenClose (print_elem x ++ l) ≡ false
unfolding begins
elem_no_paren Elem.True l = refl
elem_no_paren Elem.False l = refl
elem_no_paren (Elem.Int t) l = refl
elem_no_paren (Elem.Float t) l = refl
elem_no_paren (Elem.Name t) l = refl
elem_no_paren (Elem.Set (SetLit.Range low high)) l = refl
elem_no_paren (Elem.Set (SetLit.Braces ts)) l = refl

expr_no_paren : (x : Expr) (l : List Lexeme) → begins Symbol.ParenClose (print_expr x ++ l) ≡ false
unfolding begins
expr_no_paren (Expr.One x) l = elem_no_paren x l
expr_no_paren (Expr.Row xs) l = refl

pub exprs_whole : (xs : List Expr) (r : List Lexeme) → exprs_at (separated print_expr xs ++ Lexeme.Fixed Symbol.ParenClose ∷ r) ≡ got xs r
exprs_whole xs r = list_whole Symbol.ParenClose expr_at print_expr Always paren expr_whole expr_no_paren xs r (all_always xs)
