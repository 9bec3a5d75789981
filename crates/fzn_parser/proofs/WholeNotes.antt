-- Whole reading: what the printer writes for annotations is read back, where no more brackets are open at once than may be.
use Rattle.std.proofs.Common.{◌≡◌, ◌≤◌, ◌+◌, ℕ, zero, suc, length, List, [], ◌∷◌, ◌++◌, false, cond, Option, Some, None, refl, sym, ap, ◌∙◌, append_assoc, arith}
use Rattle.fzn_lexer.specs.declared.Token.{Token}
use Rattle.fzn_parser.specs.declared.cursor.Symbol.{Symbol}
use Rattle.fzn_parser.specs.declared.cursor.Class.{Class}
use Rattle.fzn_parser.specs.declared.cursor.Lexeme.{Lexeme}
use Rattle.fzn_parser.specs.declared.tree.SetLit.{SetLit}
use Rattle.fzn_parser.specs.declared.tree.Elem.{Elem}
use Rattle.fzn_parser.specs.Terminals.{begins, rest, kept_at}
use Rattle.fzn_parser.specs.Reading.{mapped, and_then, list_until}
use Rattle.fzn_parser.specs.Notes.{ArgTree, note_arg, true_arg, false_arg, int_arg, float_arg, text_arg, set_arg, row_arg, AnnTree, bare, called, ArgTrees, no_args, more_args, args_of, arg_of_elem, called_with, arg_with, args_at, arg_at, called_at, notes_more}
use Rattle.fzn_parser.specs.Grammar.{print_arg, print_ann, print_args, print_notes, depth_arg, depth_ann, depth_args}
use Rattle.fzn_parser.proofs.Inversions.{got}
use Rattle.fzn_parser.proofs.NoteLists.{notes_opened, notes_ended, named, noted}
use Rattle.fzn_parser.proofs.SoundNotes.{args_are}
use Rattle.fzn_parser.proofs.WholeValues.{Ends, IsClose, bracket, paren, AllOf, IsWhole, list_whole, elem_whole}

abbrev pub list_of : ArgTrees → List ArgTree
list_of no_args = []
list_of (more_args a rest) = a ∷ list_of rest

args_back : (args : ArgTrees) → args_of (list_of args) ≡ args
args_back no_args = refl
args_back (more_args a rest) = ap (more_args a) (args_back rest)

all_shallow : (k : ℕ) (args : ArgTrees) → depth_args args ≤ k → AllOf (λ a. depth_arg a ≤ k) (list_of args)
all_shallow k no_args h = tt
all_shallow k (more_args a rest) h = (omega arith, all_shallow k rest (omega arith))

-- arguments up to a closing bracket
abbrev ArgsWhole : ℕ → Type 0
ArgsWhole k = (close : Symbol) (args : ArgTrees) (r : List Lexeme) → IsClose close → ((a : ArgTree) (l : List Lexeme) → begins close (print_arg a ++ l) ≡ false) → 1 + depth_args args ≤ k
    → args_at k close ((print_args args ++ Lexeme.Fixed close ∷ []) ++ r) ≡ got (list_of args) r

no_paren : (a : ArgTree) (l : List Lexeme) → begins Symbol.ParenClose (print_arg a ++ l) ≡ false
unfolding begins
no_paren (note_arg (bare name)) l = refl
no_paren (note_arg (called name args)) l = refl
no_paren true_arg l = refl
no_paren false_arg l = refl
no_paren (int_arg t) l = refl
no_paren (float_arg t) l = refl
no_paren (text_arg t) l = refl
no_paren (set_arg (SetLit.Range low high)) l = refl
no_paren (set_arg (SetLit.Braces ts)) l = refl
no_paren (row_arg args) l = refl

no_bracket : (a : ArgTree) (l : List Lexeme) → begins Symbol.BracketClose (print_arg a ++ l) ≡ false
unfolding begins
no_bracket (note_arg (bare name)) l = refl
no_bracket (note_arg (called name args)) l = refl
no_bracket true_arg l = refl
no_bracket false_arg l = refl
no_bracket (int_arg t) l = refl
no_bracket (float_arg t) l = refl
no_bracket (text_arg t) l = refl
no_bracket (set_arg (SetLit.Range low high)) l = refl
no_bracket (set_arg (SetLit.Braces ts)) l = refl
no_bracket (row_arg args) l = refl

called_whole_with : (k : ℕ) → ArgsWhole k → (r : List Lexeme) (name : Token) (args : ArgTrees) → 1 + depth_args args ≤ k → called_at k name (Lexeme.Fixed Symbol.ParenOpen ∷ ((print_args args ++ Lexeme.Fixed Symbol.ParenClose ∷ []) ++ r)) ≡ got (called name args) r
unfolding called_with begins rest
called_whole_with k whole r name args h =
    ap (mapped (λ xs. called name (args_of xs))) (whole Symbol.ParenClose args r paren no_paren h) ∙ ap (λ z. got (called name z) r) (args_back args)

bare_whole : (k : ℕ) (r : List Lexeme) (name : Token) → Ends r → called_at k name r ≡ got (bare name) r
unfolding called_with
bare_whole k r name f = ap (λ b. cond b (mapped (λ args. called name (args_of args)) (args_at k Symbol.ParenClose (rest r))) (got (bare name) r)) f.no_call

arg_whole_with : (k : ℕ) → ArgsWhole k → IsWhole ArgTree (arg_at k) print_arg (λ a. depth_arg a ≤ k)
unfolding arg_with begins rest kept_at
arg_whole_with k whole r (note_arg (bare name)) h f = ap (mapped note_arg) (bare_whole k r name f)
arg_whole_with k whole r (note_arg (called name args)) h f = ap (mapped note_arg) (called_whole_with k whole r name args h)
arg_whole_with k whole r true_arg h f = ap (mapped arg_of_elem) (elem_whole r Elem.True tt f)
arg_whole_with k whole r false_arg h f = ap (mapped arg_of_elem) (elem_whole r Elem.False tt f)
arg_whole_with k whole r (int_arg t) h f = ap (mapped arg_of_elem) (elem_whole r (Elem.Int t) tt f)
arg_whole_with k whole r (float_arg t) h f = ap (mapped arg_of_elem) (elem_whole r (Elem.Float t) tt f)
arg_whole_with k whole r (text_arg t) h f = refl
arg_whole_with k whole r (set_arg (SetLit.Range low high)) h f = ap (mapped arg_of_elem) (elem_whole r (Elem.Set (SetLit.Range low high)) tt f)
arg_whole_with k whole r (set_arg (SetLit.Braces ts)) h f = ap (mapped arg_of_elem) (elem_whole r (Elem.Set (SetLit.Braces ts)) tt f)
arg_whole_with k whole r (row_arg args) h f =
    ap (mapped (λ xs. row_arg (args_of xs))) (whole Symbol.BracketClose args r bracket no_bracket h) ∙ ap (λ z. got (row_arg z) r) (args_back args)

args_whole : (k : ℕ) → ArgsWhole k
unfolding args_at
args_whole zero close args r c opens h = absurd (omega arith)
args_whole (suc k) close args r c opens h =
    ap (list_until close (arg_at k)) (append_assoc (print_args args) (Lexeme.Fixed close ∷ []) r ∙ ap (λ y. y ++ Lexeme.Fixed close ∷ r) (ap print_args (sym (args_back args)) ∙ args_are (list_of args)))
    ∙ list_whole close (arg_at k) print_arg (λ a. depth_arg a ≤ k) c (arg_whole_with k (args_whole k)) opens (list_of args) r (all_shallow k args (omega arith))

-- nothing here goes on with annotations
notes_end : (xs : List AnnTree) (r : List Lexeme) → Ends r → Ends (print_notes xs ++ r)
unfolding begins
notes_end [] r f = f
notes_end (x ∷ xs) r f = record { no_range = refl; no_call = refl }

one_note : (k : ℕ) (r : List Lexeme) (a : AnnTree) → depth_ann a ≤ k → Ends r → and_then (kept_at Class.Name (print_ann a ++ r)) (λ name ms. called_at k name ms) ≡ got a r
unfolding kept_at
one_note k r (bare name) h f = bare_whole k r name f
one_note k r (called name args) h f = called_whole_with k (args_whole k) r name args h

regroup : (k n : ℕ) (o : Option (Token × List Lexeme)) (a : AnnTree) (r : List Lexeme) → and_then o (λ name ms. called_at k name ms) ≡ got a r → named k n o ≡ mapped (λ notes. a ∷ notes) (notes_more k n r)
regroup k n None a r e = let f : None ≡ got a r = e in cc
regroup k n (Some p) a r e = ap (noted k n) e

more_notes : (k n : ℕ) (a : AnnTree) (xs : List AnnTree) (r : List Lexeme) → notes_more k n (print_notes xs ++ r) ≡ got xs r → depth_ann a ≤ k → Ends (print_notes xs ++ r) → notes_more k (suc n) (print_notes (a ∷ xs) ++ r) ≡ got (a ∷ xs) r
unfolding begins rest
more_notes k n a xs r e h f =
    let ls = print_notes xs ++ r in
    notes_opened k n (Lexeme.Fixed Symbol.DoubleColon ∷ ((print_ann a ++ print_notes xs) ++ r)) refl
    ∙ ap (λ y. named k n (kept_at Class.Name y)) (append_assoc (print_ann a) (print_notes xs) r)
    ∙ regroup k n (kept_at Class.Name (print_ann a ++ ls)) a ls (one_note k ls a h f)
    ∙ ap (mapped (λ notes. a ∷ notes)) e

pub notes_whole : (k : ℕ) (xs : List AnnTree) (n : ℕ) (r : List Lexeme) → length xs ≤ n → AllOf (λ a. depth_ann a ≤ k) xs → Ends r → begins Symbol.DoubleColon r ≡ false → notes_more k n (print_notes xs ++ r) ≡ got xs r
notes_whole k [] n r h p f g = notes_ended k n r g
notes_whole k (a ∷ xs) zero r h p f g = absurd (omega arith)
notes_whole k (a ∷ xs) (suc n) r h p f g =
    more_notes k n a xs r (notes_whole k xs n r (omega arith) p.1 f g) p.0 (notes_end xs r f)
