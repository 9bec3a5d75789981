-- The turns of a loop that reads a list up to its closing bracket.
use Rattle.std.proofs.Common.{◌≡◌, ℕ, zero, suc, List, [], ◌∷◌, ◌++◌, length, Bool, true, false, cond, Option, Some, None, refl, ap, sym, ◌∙◌, ◌<◌, arith, append_assoc}
use Rattle.fzn_parser.specs.declared.cursor.Symbol.{Symbol}
use Rattle.fzn_parser.specs.declared.cursor.Lexeme.{Lexeme}
use Rattle.fzn_parser.specs.Terminals.{Read, begins, rest}
use Rattle.fzn_parser.specs.Reading.{mapped, and_then, separator_at, more_until, list_until}

abbrev turn : {A : Type 0} → Symbol → Read A → ℕ → Option (A × List Lexeme) → Option (List A × List Lexeme)
turn close read n o = and_then o (λ x ms. and_then (separator_at close ms) (λ goes ns. cond goes (mapped (λ xs. x ∷ xs) (more_until close read n ns)) (Some (x ∷ [], ns))))

abbrev told : {A : Type 0} → Symbol → Read A → ℕ → A → Option (Bool × List Lexeme) → Option (List A × List Lexeme)
told close read n x o = and_then o (λ goes ns. cond goes (mapped (λ xs. x ∷ xs) (more_until close read n ns)) (Some (x ∷ [], ns)))

pub more_is : {A : Type 0} (close : Symbol) (read : Read A) (n : ℕ) (ls : List Lexeme) → more_until close read (suc n) ls ≡ turn close read n (read ls)
unfolding more_until
more_is close read n ls = refl

pub more_fails : {A : Type 0} (close : Symbol) (read : Read A) (n : ℕ) (ls : List Lexeme) → read ls ≡ None → more_until close read n ls ≡ None
unfolding more_until
more_fails close read zero ls e = refl
more_fails close read (suc n) ls e = ap (turn close read n) e

pub more_stops : {A : Type 0} (close : Symbol) (read : Read A) (n : ℕ) (ls ms : List Lexeme) (x : A) → read ls ≡ Some (x, ms) → separator_at close ms ≡ None → more_until close read n ls ≡ None
unfolding more_until
more_stops close read zero ls ms x e f = refl
more_stops close read (suc n) ls ms x e f = ap (turn close read n) e ∙ ap (told close read n x) f

pub more_ends : {A : Type 0} (close : Symbol) (read : Read A) (n : ℕ) (ls ms ns : List Lexeme) (x : A) → 0 < n → read ls ≡ Some (x, ms) → separator_at close ms ≡ Some (false, ns) → more_until close read n ls ≡ Some (x ∷ [], ns)
unfolding more_until
more_ends close read zero ls ms ns x h e f = absurd (omega arith)
more_ends close read (suc n) ls ms ns x h e f = ap (turn close read n) e ∙ ap (told close read n x) f

pub more_goes : {A : Type 0} (close : Symbol) (read : Read A) (n k : ℕ) (ls ms ns : List Lexeme) (x : A) → n ≡ suc k → read ls ≡ Some (x, ms) → separator_at close ms ≡ Some (true, ns) → more_until close read n ls ≡ mapped (λ xs. x ∷ xs) (more_until close read k ns)
more_goes close read n k ls ms ns x h e f = ap (λ m. more_until close read m ls) h ∙ more_is close read k ls ∙ ap (turn close read k) e ∙ ap (told close read k x) f

pub none_before : {A : Type 0} (o : Option (List A × List Lexeme)) → o ≡ mapped (λ ys. [] ++ ys) o
none_before None = refl
none_before (Some p) = refl

pub one_before : {A : Type 0} (xs : List A) (x : A) (o : Option (List A × List Lexeme)) → mapped (λ ys. xs ++ ys) (mapped (λ ys. x ∷ ys) o) ≡ mapped (λ ys. (xs ++ x ∷ []) ++ ys) o
one_before xs x None = refl
one_before xs x (Some p) = ap (λ ys. Some (ys, p.1)) (sym (append_assoc xs (x ∷ []) p.0))

-- the state of such a loop: what is left to read, behind what was read
pub record Going (A : Type 0) (close : Symbol) (read : Read A) (n : ℕ) (ls : List Lexeme) (xs : List A) (k : ℕ) (ms : List Lexeme) : Type 0 where
  pub same : more_until close read n ls ≡ mapped (λ ys. xs ++ ys) (more_until close read k ms)

pub going_start : {A : Type 0} (close : Symbol) (read : Read A) (n : ℕ) (ls : List Lexeme) (xs : List A) (k : ℕ) → xs ≡ [] → k ≡ n → Going A close read n ls xs k ls
going_start close read n ls xs k e f = record { same = none_before _ ∙ ap (λ ys. mapped (λ zs. ys ++ zs) (more_until close read n ls)) (sym e) ∙ ap (λ m. mapped (λ zs. xs ++ zs) (more_until close read m ls)) (sym f) }

pub going_fails : {A : Type 0} {close : Symbol} {read : Read A} {n : ℕ} {ls : List Lexeme} {xs : List A} {k : ℕ} {ms : List Lexeme} → Going A close read n ls xs k ms → read ms ≡ None → more_until close read n ls ≡ None
going_fails {A} {close} {read} {n} {ls} {xs} {k} {ms} g e = g.same ∙ ap (mapped (λ ys. xs ++ ys)) (more_fails close read k ms e)

pub going_stops : {A : Type 0} {close : Symbol} {read : Read A} {n : ℕ} {ls : List Lexeme} {xs : List A} {k : ℕ} {ms : List Lexeme} (x : A) (ns : List Lexeme) → Going A close read n ls xs k ms → read ms ≡ Some (x, ns) → separator_at close ns ≡ None → more_until close read n ls ≡ None
going_stops {A} {close} {read} {n} {ls} {xs} {k} {ms} x ns g e f = g.same ∙ ap (mapped (λ ys. xs ++ ys)) (more_stops close read k ms ns x e f)

pub going_ends : {A : Type 0} {close : Symbol} {read : Read A} {n : ℕ} {ls : List Lexeme} {xs : List A} {k : ℕ} {ms : List Lexeme} (x : A) (ns os : List Lexeme) → Going A close read n ls xs k ms → 0 < k → read ms ≡ Some (x, ns) → separator_at close ns ≡ Some (false, os) → more_until close read n ls ≡ Some (xs ++ x ∷ [], os)
going_ends {A} {close} {read} {n} {ls} {xs} {k} {ms} x ns os g h e f = g.same ∙ ap (mapped (λ ys. xs ++ ys)) (more_ends close read k ms ns os x h e f)

pub going_goes : {A : Type 0} {close : Symbol} {read : Read A} {n : ℕ} {ls : List Lexeme} {xs : List A} {k : ℕ} {ms : List Lexeme} (j : ℕ) (x : A) (ns os : List Lexeme) → Going A close read n ls xs k ms → k ≡ suc j → read ms ≡ Some (x, ns) → separator_at close ns ≡ Some (true, os) → Going A close read n ls (xs ++ x ∷ []) j os
going_goes {A} {close} {read} {n} {ls} {xs} {k} {ms} j x ns os g h e f = record { same = g.same ∙ ap (mapped (λ ys. xs ++ ys)) (more_goes close read k j ms ns os x h e f) ∙ one_before xs x _ }

pub going_out : {A : Type 0} {close : Symbol} {read : Read A} {n : ℕ} {ls : List Lexeme} {xs : List A} {k : ℕ} {ms : List Lexeme} → Going A close read n ls xs k ms → k ≡ 0 → more_until close read n ls ≡ None
unfolding more_until
going_out {A} {close} {read} {n} {ls} {xs} {k} {ms} g e = g.same ∙ ap (λ m. mapped (λ ys. xs ++ ys) (more_until close read m ms)) e

pub list_closed : {A : Type 0} (close : Symbol) (read : Read A) (ls ms : List Lexeme) (b : Bool) (xs : List A) → b ≡ begins close ls → b ≡ true → ms ≡ cond b (rest ls) ls → xs ≡ [] → list_until close read ls ≡ Some (xs, ms)
unfolding list_until
list_closed close read ls ms b xs e f g h =
    let yes : begins close ls ≡ true = sym e ∙ f in
    let left : ms ≡ rest ls = g ∙ ap (λ v. cond v (rest ls) ls) f in
    ap (λ v. cond v (Some ([], rest ls)) (more_until close read (length ls) ls)) yes ∙ ap (λ ns. Some ([], ns)) (sym left) ∙ ap (λ ys. Some (ys, ms)) (sym h)

pub list_open : {A : Type 0} (close : Symbol) (read : Read A) (ls ms : List Lexeme) (b : Bool) (n : ℕ) (o : Option (List A × List Lexeme)) → b ≡ begins close ls → b ≡ false → ms ≡ cond b (rest ls) ls → n ≡ length ms → more_until close read n ms ≡ o → list_until close read ls ≡ o
unfolding list_until
list_open close read ls ms b n o e f g h i =
    let no : begins close ls ≡ false = sym e ∙ f in
    let left : ms ≡ ls = g ∙ ap (λ v. cond v (rest ls) ls) f in
    ap (λ v. cond v (Some ([], rest ls)) (more_until close read (length ls) ls)) no ∙ ap (λ ns. more_until close read (length ns) ns) (sym left) ∙ ap (λ k. more_until close read k ms) (sym h) ∙ i
