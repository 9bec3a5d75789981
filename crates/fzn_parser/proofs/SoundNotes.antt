-- Sound reading: what is read of annotations and items is what the printer writes for it.
use Rattle.std.proofs.Common.{◌≡◌, ℕ, zero, suc, List, [], ◌∷◌, ◌++◌, true, refl, sym, ap, ◌∙◌, append_assoc}
use Rattle.fzn_lexer.specs.declared.Token.{Token}
use Rattle.fzn_parser.specs.declared.cursor.Symbol.{Symbol}
use Rattle.fzn_parser.specs.declared.cursor.Class.{Class}
use Rattle.fzn_parser.specs.declared.cursor.Lexeme.{Lexeme}
use Rattle.fzn_parser.specs.declared.tree.Elem.{Elem}
use Rattle.fzn_parser.specs.Terminals.{begins, rest, kept_at}
use Rattle.fzn_parser.specs.Notes.{ArgTree, AnnTree, note_arg, text_arg, row_arg, bare, called, args_of, arg_of_elem, called_with, arg_with, args_at, arg_at, called_at, notes_more}
use Rattle.fzn_parser.specs.Grammar.{further, separated, print_elem, print_arg, print_ann, print_args, print_further, print_notes}
use Rattle.fzn_parser.proofs.Inversions.{got, carry, begins_is, kept_is, cond_some, mapped_some, then_some, else_some, choose_some}
use Rattle.fzn_parser.proofs.SoundValues.{IsSound, list_sound, elem_sound, none_got}

pub glue : (p q ls m r : List Lexeme) → ls ≡ p ++ m → m ≡ q ++ r → ls ≡ (p ++ q) ++ r
glue p q ls m r e f = e ∙ ap (λ x. p ++ x) f ∙ sym (append_assoc p q r)

pub further_is : (xs : List ArgTree) → print_further (args_of xs) ≡ further print_arg xs
further_is [] = refl
further_is (x ∷ xs) = ap (λ y. Lexeme.Fixed Symbol.Comma ∷ (print_arg x ++ y)) (further_is xs)

pub args_are : (xs : List ArgTree) → print_args (args_of xs) ≡ separated print_arg xs
args_are [] = refl
args_are (x ∷ xs) = ap (λ y. print_arg x ++ y) (further_is xs)

pub elem_arg : (x : Elem) → print_arg (arg_of_elem x) ≡ print_elem x
elem_arg Elem.True = refl
elem_arg Elem.False = refl
elem_arg (Elem.Int t) = refl
elem_arg (Elem.Float t) = refl
elem_arg (Elem.Name t) = refl
elem_arg (Elem.Set s) = refl

-- arguments up to a closing bracket
abbrev pub ArgsSound : ℕ → Type 0
ArgsSound k = (close : Symbol) (ls r : List Lexeme) (xs : List ArgTree) → args_at k close ls ≡ got xs r → ls ≡ separated print_arg xs ++ Lexeme.Fixed close ∷ r

behind : (before close : Symbol) (ls r : List Lexeme) (xs : List ArgTree) → begins before ls ≡ true → rest ls ≡ separated print_arg xs ++ Lexeme.Fixed close ∷ r → ls ≡ Lexeme.Fixed before ∷ ((print_args (args_of xs) ++ Lexeme.Fixed close ∷ []) ++ r)
behind before close ls r xs b e = begins_is before ls b ∙ ap (λ y. Lexeme.Fixed before ∷ y) (e ∙ sym (append_assoc (separated print_arg xs) (Lexeme.Fixed close ∷ []) r) ∙ ap (λ y. (y ++ Lexeme.Fixed close ∷ []) ++ r) (sym (args_are xs)))

called_sound_with : (k : ℕ) → ArgsSound k → (name : Token) (ls r : List Lexeme) (a : AnnTree) → called_at k name ls ≡ got a r → Lexeme.Kept Class.Name name ∷ ls ≡ print_ann a ++ r
unfolding called_with
called_sound_with k sound name ls r a e =
    let P : Type 0 = Lexeme.Kept Class.Name name ∷ ls ≡ print_ann a ++ r in
    cond_some {P = P} (begins Symbol.ParenOpen ls) _ _ _ e
    (λ b h. mapped_some {P = P} (λ args. called name (args_of args)) _ a r h (λ xs q f. ap (λ y. Lexeme.Kept Class.Name name ∷ y) (behind Symbol.ParenOpen Symbol.ParenClose ls r xs b (sound Symbol.ParenClose (rest ls) r xs q)) ∙ ap (λ z. print_ann z ++ r) f))
    (λ b h. carry print_ann (bare name) a (Lexeme.Kept Class.Name name ∷ ls) ls r refl h)

arg_sound_with : (k : ℕ) → ArgsSound k → IsSound ArgTree (arg_at k) print_arg
unfolding arg_with
arg_sound_with k sound ls r a e =
    let P : Type 0 = ls ≡ print_arg a ++ r in
    cond_some {P = P} (begins Symbol.BracketOpen ls) _ _ _ e
    (λ b h. mapped_some {P = P} (λ args. row_arg (args_of args)) _ a r h (λ xs q f. behind Symbol.BracketOpen Symbol.BracketClose ls r xs b (sound Symbol.BracketClose (rest ls) r xs q) ∙ ap (λ z. print_arg z ++ r) f))
    (λ b h. else_some {P = P} _ _ _ h
    (λ i. mapped_some {P = P} text_arg _ a r i (λ t q f. kept_is Class.Text ls r t q ∙ ap (λ z. print_arg z ++ r) f))
    (λ i. choose_some {P = P} _ _ _ _ i
    (λ name m o j. mapped_some {P = P} note_arg _ a r j (λ n q f. kept_is Class.Name ls m name o ∙ called_sound_with k sound name m r n q ∙ ap (λ z. print_arg z ++ r) f))
    (λ j. mapped_some {P = P} arg_of_elem _ a r j (λ x q f. elem_sound ls r x q ∙ ap (λ y. y ++ r) (sym (elem_arg x)) ∙ ap (λ z. print_arg z ++ r) f))))

pub args_sound : (k : ℕ) → ArgsSound k
unfolding args_at
args_sound zero close ls r xs e = absurd (none_got _ e)
args_sound (suc k) close ls r xs e = list_sound close (arg_at k) print_arg (arg_sound_with k (args_sound k)) ls r xs e

pub notes_sound : (k n : ℕ) (ls r : List Lexeme) (xs : List AnnTree) → notes_more k n ls ≡ got xs r → ls ≡ print_notes xs ++ r
unfolding notes_more
notes_sound k zero ls r xs e = carry print_notes [] xs ls ls r refl e
notes_sound k (suc n) ls r xs e =
    let P : Type 0 = ls ≡ print_notes xs ++ r in
    cond_some {P = P} (begins Symbol.DoubleColon ls) _ _ _ e
    (λ b h. then_some {P = P} (kept_at Class.Name (rest ls)) _ _ h (λ name m o f. then_some {P = P} (called_at k name m) _ _ f (λ a t p g. mapped_some {P = P} (λ notes. a ∷ notes) _ xs r g (λ ys q i.
    begins_is Symbol.DoubleColon ls b ∙ ap (λ y. Lexeme.Fixed Symbol.DoubleColon ∷ y) (glue (print_ann a) (print_notes ys) (rest ls) t r (kept_is Class.Name (rest ls) m name o ∙ called_sound_with k (args_sound k) name m t a p) (notes_sound k n t r ys q)) ∙ ap (λ z. print_notes z ++ r) i))))
    (λ b h. carry print_notes [] xs ls ls r refl h)
