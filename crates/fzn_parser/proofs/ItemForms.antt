-- The tokens that an item is read from are those that the grammar writes for it.
use Rattle.std.proofs.Common.{◌≡◌, ◌≤◌, ℕ, List, [], ◌∷◌, ◌++◌, map, true, false, Option, Some, None, option_map, option_and_then, refl, sym, ap, ◌∙◌, append_assoc, arith, subst}
use Rattle.std.proofs.lemmas.Bool.{false≢true}
use Rattle.fzn_lexer.specs.declared.Token.{Token}
use Rattle.fzn_parser.specs.declared.cursor.Symbol.{Symbol}
use Rattle.fzn_parser.specs.declared.cursor.Lexeme.{Lexeme}
use Rattle.fzn_parser.specs.declared.tree.Shape.{Shape}
use Rattle.fzn_parser.specs.Terminals.{begins, rest}
use Rattle.fzn_parser.specs.Texts.{lexeme_of, is_symbol, is_at, first_stretch, before_last, no_more}
use Rattle.fzn_parser.specs.Items.{WhatTree, predicate_item, scalar_item, array_item, constraint_item, solve_item, what_at, is_end, if_end, whole_at}
use Rattle.fzn_parser.specs.Grammar.{print_shape, print_what, IsWritten}
use Rattle.fzn_parser.specs.Printer.{Written, seen_as, any_token, toks_before, toks, Matches, MatchesAll, most_open, NestsWithin, IsOfGrammar}
use Rattle.fzn_parser.specs.Parsing.{ItemTree, placed, max_depth, BeginsAt, ReadsAsItem}
use Rattle.fzn_parser.specs.Stretches.{item_at}
use Rattle.fzn_parser.proofs.Inversions.{symbol_is, begins_is, cond_some}
use Rattle.fzn_parser.proofs.SoundItems.{what_sound}
use Rattle.fzn_parser.proofs.WholeItems.{what_whole}
use Rattle.fzn_parser.proofs.WholeValues.{AllOf}
use Rattle.fzn_parser.proofs.Shallow.{what_shallow}
use Rattle.fzn_parser.proofs.Trees.{map_push}
use Rattle.fzn_parser.proofs.Stretches.{first_at, first_not, last_at, last_not}
use Rattle.fzn_parser.proofs.Blocks.{HasNoEnd, depth_what, what_block, nests_as_tree, written_nests, nests_written, IsOther}
use Rattle.fzn_parser.proofs.Whole.{item_predicate, item_other}

-- Lists, options and lexemes.

none_is : {X : Type 0} (x : X) → None ≡ Some x → ⊥
none_is x e = cc

no_cons : {A : Type 0} (x : A) (xs : List A) → x ∷ xs ≡ [] → ⊥
no_cons x xs e = cc

same_head : {A : Type 0} (x y : A) (xs ys : List A) → x ∷ xs ≡ y ∷ ys → x ≡ y
same_head x y xs ys e = cc

same_tail : {A : Type 0} (x y : A) (xs ys : List A) → x ∷ xs ≡ y ∷ ys → xs ≡ ys
same_tail x y xs ys e = cc

some_same : {X : Type 0} (x y : X) → Some x ≡ Some y → x ≡ y
some_same x y e = cc

map_some : {A B P : Type 0} (f : A → B) (o : Option A) (b : B) → option_map f o ≡ Some b → ((a : A) → o ≡ Some a → f a ≡ b → P) → P
map_some f None b e k = absurd (none_is _ e)
map_some f (Some a) b e k = k a refl (some_same (f a) b e)

then_is : {A B P : Type 0} (f : A → Option B) (o : Option A) (b : B) → option_and_then f o ≡ Some b → ((a : A) → o ≡ Some a → f a ≡ Some b → P) → P
then_is f None b e k = absurd (none_is _ e)
then_is f (Some a) b e k = k a refl e

is_fixed : (s : Symbol) (l : Lexeme) → is_symbol s l ≡ true → l ≡ Lexeme.Fixed s
is_fixed s (Lexeme.Fixed r) e = ap (λ t. Lexeme.Fixed t) (symbol_is r s e)
is_fixed s (Lexeme.Kept c t) e = absurd (false≢true e)

is_begun : (s : Symbol) (l : Lexeme) (ls : List Lexeme) → is_symbol s l ≡ begins s (l ∷ ls)
unfolding begins
is_begun s (Lexeme.Fixed r) ls = refl
is_begun s (Lexeme.Kept c t) ls = refl

-- What is written for an item that is no predicate, as lexemes.

seen_all : (text : List ℕ) (ls : List Lexeme) (ts : List Token) → map (lexeme_of text) ts ≡ ls → MatchesAll text (map seen_as ls) ts
seen_all text [] [] e = tt
seen_all text [] (t ∷ ts) e = absurd (no_cons _ _ e)
seen_all text (l ∷ ls) [] e = absurd (no_cons _ _ (sym e))
seen_all text (l ∷ ls) (t ∷ ts) e = (same_head _ _ _ _ e, seen_all text ls ts (same_tail _ _ _ _ e))

all_seen : (text : List ℕ) (ls : List Lexeme) (ts : List Token) → MatchesAll text (map seen_as ls) ts → map (lexeme_of text) ts ≡ ls
all_seen text [] [] m = refl
all_seen text [] (t ∷ ts) m = absurd m
all_seen text (l ∷ ls) [] m = absurd m
all_seen text (l ∷ ls) (t ∷ ts) m = ap (λ k. k ∷ map (lexeme_of text) ts) m.0 ∙ ap (λ ks. l ∷ ks) (all_seen text ls ts m.1)

toks_seen : (w : WhatTree) → IsOther w → toks w ≡ map seen_as (print_what w ++ Lexeme.Fixed Symbol.Semicolon ∷ [])
toks_seen (predicate_item kept) o = absurd o
toks_seen (scalar_item shape name notes value) o = sym (map_push seen_as (print_what (scalar_item shape name notes value)) (Lexeme.Fixed Symbol.Semicolon))
toks_seen (array_item low high shape name notes value) o = sym (map_push seen_as (print_what (array_item low high shape name notes value)) (Lexeme.Fixed Symbol.Semicolon))
toks_seen (constraint_item name args notes) o = sym (map_push seen_as (print_what (constraint_item name args notes)) (Lexeme.Fixed Symbol.Semicolon))
toks_seen (solve_item notes aim) o = sym (map_push seen_as (print_what (solve_item notes aim)) (Lexeme.Fixed Symbol.Semicolon))

written_matches : (text : List ℕ) (w : WhatTree) (ts : List Token) → IsOther w → map (lexeme_of text) ts ≡ print_what w ++ Lexeme.Fixed Symbol.Semicolon ∷ [] → MatchesAll text (toks w) ts
written_matches text w ts o e =
    let M : List Written → Type 0 = λ ss. MatchesAll text ss ts in
    subst M (sym (toks_seen w o)) (seen_all text (print_what w ++ Lexeme.Fixed Symbol.Semicolon ∷ []) ts e)

matches_written : (text : List ℕ) (w : WhatTree) (ts : List Token) → IsOther w → MatchesAll text (toks w) ts → map (lexeme_of text) ts ≡ print_what w ++ Lexeme.Fixed Symbol.Semicolon ∷ []
matches_written text w ts o m =
    let M : List Written → Type 0 = λ ss. MatchesAll text ss ts in
    all_seen text (print_what w ++ Lexeme.Fixed Symbol.Semicolon ∷ []) ts (subst M (toks_seen w o) m)

written_other : (k : ℕ) (w : WhatTree) → IsWritten k w → IsOther w
written_other k (predicate_item kept) p = absurd p
written_other k (scalar_item shape name notes value) p = tt
written_other k (array_item low high shape name notes value) p = tt
written_other k (constraint_item name args notes) p = tt
written_other k (solve_item notes aim) p = tt

nests_any : (k : ℕ) (text : List ℕ) (ts : List Token) (w : WhatTree) → most_open 0 (map (lexeme_of text) ts) ≤ k → NestsWithin k text ts w
nests_any k text ts (predicate_item kept) h = tt
nests_any k text ts (scalar_item shape name notes value) h = h
nests_any k text ts (array_item low high shape name notes value) h = h
nests_any k text ts (constraint_item name args notes) h = h
nests_any k text ts (solve_item notes aim) h = h

any_nests : (k : ℕ) (text : List ℕ) (ts : List Token) (w : WhatTree) → IsOther w → NestsWithin k text ts w → most_open 0 (map (lexeme_of text) ts) ≤ k
any_nests k text ts (predicate_item kept) o h = absurd o
any_nests k text ts (scalar_item shape name notes value) o h = h
any_nests k text ts (array_item low high shape name notes value) o h = h
any_nests k text ts (constraint_item name args notes) o h = h
any_nests k text ts (solve_item notes aim) o h = h

-- A predicate item's tokens behind its keyword.

ended : (text : List ℕ) (t : Token) (ts kept : List Token) → is_at Symbol.Semicolon text t ≡ true → no_more ts ≡ Some kept → MatchesAll text (map any_token kept ++ seen_as (Lexeme.Fixed Symbol.Semicolon) ∷ []) (t ∷ ts)
ended text t [] kept b e =
    let M : List Token → Type 0 = λ us. MatchesAll text (map any_token us ++ seen_as (Lexeme.Fixed Symbol.Semicolon) ∷ []) (t ∷ []) in
    subst M (some_same [] kept e) (is_fixed Symbol.Semicolon (lexeme_of text t) b, tt)
ended text t (u ∷ us) kept b e = absurd (none_is _ e)

before_matches : (text : List ℕ) (ts kept : List Token) → before_last text ts ≡ Some kept → MatchesAll text (map any_token kept ++ seen_as (Lexeme.Fixed Symbol.Semicolon) ∷ []) ts
unfolding before_last
before_matches text [] kept e = absurd (none_is _ e)
before_matches text (t ∷ ts) kept e =
    let M : List Token → Type 0 = λ us. MatchesAll text (map any_token us ++ seen_as (Lexeme.Fixed Symbol.Semicolon) ∷ []) (t ∷ ts) in
    let P : Type 0 = M kept in
    cond_some {P = P} (is_at Symbol.Semicolon text t) _ _ _ e
    (λ b h. ended text t ts kept b h)
    (λ b h. map_some {P = P} (λ us. t ∷ us) (before_last text ts) kept h (λ us f g. subst M g ((refl, b), before_matches text ts us f)))

matches_before : (text : List ℕ) (kept ts : List Token) → MatchesAll text (map any_token kept ++ seen_as (Lexeme.Fixed Symbol.Semicolon) ∷ []) ts → before_last text ts ≡ Some kept
matches_before text [] [] m = absurd m
matches_before text [] (t ∷ []) m = last_at text t [] (ap (is_symbol Symbol.Semicolon) m.0)
matches_before text [] (t ∷ u ∷ us) m = absurd m.1
matches_before text (k ∷ kept) [] m = absurd m
matches_before text (k ∷ kept) (t ∷ ts) m = last_not text t ts m.0.1 ∙ ap (option_map (λ us. t ∷ us)) (matches_before text kept ts m.1) ∙ ap (λ x. Some (x ∷ kept)) m.0.0

predicate_reads : (text : List ℕ) (first : Token) (more kept : List Token) → is_at Symbol.Predicate text first ≡ true → before_last text more ≡ Some kept → ReadsAsItem text (first ∷ more) (placed first (predicate_item kept))
predicate_reads text first more kept b e = record {
  of_grammar = tt;
  written = (is_fixed Symbol.Predicate (lexeme_of text first) b, before_matches text more kept e);
  nested = tt;
  place = refl;
}

-- Another item's tokens.

end_is : (ls : List Lexeme) → is_end ls ≡ true → ls ≡ []
end_is [] e = refl
end_is (l ∷ ls) e = absurd (false≢true e)

record ReadWhole (k : ℕ) (ls : List Lexeme) (w : WhatTree) : Type 0 where
  same : ls ≡ print_what w ++ Lexeme.Fixed Symbol.Semicolon ∷ []
  low : IsWritten k w

whole_is : (k : ℕ) (ls : List Lexeme) (w : WhatTree) → whole_at k ls ≡ Some w → ReadWhole k ls w
unfolding whole_at
whole_is k ls w e =
    let P : Type 0 = ReadWhole k ls w in
    let R : WhatTree → Type 0 = λ z. ReadWhole k ls z in
    then_is {P = P} (λ p. if_end p.0 p.1) (what_at k ls) w e (λ p f g.
    cond_some {P = P} (begins Symbol.Semicolon p.1) _ _ _ g
    (λ b h. cond_some {P = P} (is_end (rest p.1)) _ _ _ h
    (λ c i. let left : p.1 ≡ Lexeme.Fixed Symbol.Semicolon ∷ [] = begins_is Symbol.Semicolon p.1 b ∙ ap (λ r. Lexeme.Fixed Symbol.Semicolon ∷ r) (end_is (rest p.1) c) in
    let read : ReadWhole k ls p.0 = record { same = what_sound k ls p.1 p.0 f ∙ ap (λ r. print_what p.0 ++ r) left; low = what_shallow k ls p.1 p.0 f } in
    subst R (some_same p.0 w i) read)
    (λ c i. absurd (none_is _ i)))
    (λ b h. absurd (none_is _ h)))

whole_there : (k : ℕ) (ls : List Lexeme) (w : WhatTree) → ReadWhole k ls w → whole_at k ls ≡ Some w
unfolding whole_at begins rest
whole_there k ls w r = ap (λ x. option_and_then (λ p. if_end p.0 p.1) (what_at k x)) r.same ∙ ap (option_and_then (λ p. if_end p.0 p.1)) (what_whole k [] w r.low)

other_reads : (text : List ℕ) (first : Token) (more : List Token) (w : WhatTree) → whole_at max_depth (map (lexeme_of text) (first ∷ more)) ≡ Some w → ReadsAsItem text (first ∷ more) (placed first w)
other_reads text first more w e =
    let read = whole_is max_depth (map (lexeme_of text) (first ∷ more)) w e in
    let low = written_nests max_depth w (omega arith) read.low in
    let depth : most_open 0 (map (lexeme_of text) (first ∷ more)) ≡ depth_what w = ap (most_open 0) read.same ∙ nests_as_tree w in
    let Within : ℕ → Type 0 = λ d. d ≤ max_depth in
    record {
      of_grammar = low.1;
      written = written_matches text w (first ∷ more) (written_other max_depth w read.low) read.same;
      nested = nests_any max_depth text (first ∷ more) w (subst Within (sym depth) low.0);
      place = refl;
    }

-- what is read as an item is what the grammar writes for it
pub read_is_written : (text : List ℕ) (tokens : List Token) (item : ItemTree) → item_at text tokens ≡ Some item → ReadsAsItem text tokens item
unfolding item_at
read_is_written text [] item e = absurd (none_is _ e)
read_is_written text (first ∷ more) item e =
    let P : Type 0 = ReadsAsItem text (first ∷ more) item in
    let R : ItemTree → Type 0 = λ i. ReadsAsItem text (first ∷ more) i in
    cond_some {P = P} (is_at Symbol.Predicate text first) _ _ _ e
    (λ b h. map_some {P = P} (λ kept. placed first (predicate_item kept)) (before_last text more) item h (λ kept f g. subst R g (predicate_reads text first more kept b f)))
    (λ b h. map_some {P = P} (λ what. placed first what) (whole_at max_depth (map (lexeme_of text) (first ∷ more))) item h (λ w f g. subst R g (other_reads text first more w f)))

-- The converse.

shape_no_predicate : (s : Shape) (l : List Lexeme) → begins Symbol.Predicate (print_shape s ++ l) ≡ false
unfolding begins
shape_no_predicate Shape.Bool l = refl
shape_no_predicate Shape.Int l = refl
shape_no_predicate Shape.Float l = refl
shape_no_predicate Shape.SetOfInt l = refl
shape_no_predicate Shape.VarBool l = refl
shape_no_predicate Shape.VarInt l = refl
shape_no_predicate Shape.VarFloat l = refl
shape_no_predicate (Shape.VarIn s) l = refl
shape_no_predicate (Shape.VarFloats low high) l = refl
shape_no_predicate Shape.VarSet l = refl
shape_no_predicate (Shape.VarSetIn s) l = refl

no_predicate : (w : WhatTree) (l : List Lexeme) → IsOther w → begins Symbol.Predicate (print_what w ++ l) ≡ false
unfolding begins
no_predicate (predicate_item kept) l o = absurd o
no_predicate (scalar_item shape name notes value) l o = ap (begins Symbol.Predicate) (append_assoc (print_shape shape) _ l) ∙ shape_no_predicate shape _
no_predicate (array_item low high shape name notes value) l o = refl
no_predicate (constraint_item name args notes) l o = refl
no_predicate (solve_item notes aim) l o = refl

at_place : (from : ℕ) (first : Token) (w : WhatTree) → from ≡ first.from → placed first w ≡ record { from = from; what = w }
at_place from first w e = let P : ℕ → ItemTree = λ n. record { from = n; what = w } in ap P (sym e)

predicate_there : (text : List ℕ) (first : Token) (more kept : List Token) → lexeme_of text first ≡ Lexeme.Fixed Symbol.Predicate → MatchesAll text (map any_token kept ++ seen_as (Lexeme.Fixed Symbol.Semicolon) ∷ []) more → item_at text (first ∷ more) ≡ Some (placed first (predicate_item kept))
predicate_there text first more kept e m =
    item_predicate text first more (Some kept) (ap (is_symbol Symbol.Predicate) e) (sym (matches_before text kept more m))

other_there : (text : List ℕ) (first : Token) (more : List Token) (w : WhatTree) → IsOther w → IsOfGrammar w → MatchesAll text (toks w) (first ∷ more) → NestsWithin max_depth text (first ∷ more) w → item_at text (first ∷ more) ≡ Some (placed first w)
other_there text first more w o g m n =
    let same : map (lexeme_of text) (first ∷ more) ≡ print_what w ++ Lexeme.Fixed Symbol.Semicolon ∷ [] = matches_written text w (first ∷ more) o m in
    let depth : most_open 0 (map (lexeme_of text) (first ∷ more)) ≡ depth_what w = ap (most_open 0) same ∙ nests_as_tree w in
    let Within : ℕ → Type 0 = λ d. d ≤ max_depth in
    let low : IsWritten max_depth w = nests_written max_depth w o (subst Within depth (any_nests max_depth text (first ∷ more) w o n)) g in
    let read : ReadWhole max_depth (map (lexeme_of text) (first ∷ more)) w = record { same = same; low = low } in
    let plain : is_at Symbol.Predicate text first ≡ false = is_begun Symbol.Predicate (lexeme_of text first) (map (lexeme_of text) more) ∙ ap (begins Symbol.Predicate) same ∙ no_predicate w _ o in
    item_other text first (first ∷ more) more (map (lexeme_of text) (first ∷ more)) (Some w) plain refl refl (whole_there max_depth (map (lexeme_of text) (first ∷ more)) w read)

there : (text : List ℕ) (first : Token) (more : List Token) (w : WhatTree) → IsOfGrammar w → MatchesAll text (toks w) (first ∷ more) → NestsWithin max_depth text (first ∷ more) w → item_at text (first ∷ more) ≡ Some (placed first w)
there text first more (predicate_item kept) g m n = predicate_there text first more kept m.0 m.1
there text first more (scalar_item shape name notes value) g m n = other_there text first more (scalar_item shape name notes value) tt g m n
there text first more (array_item low high shape name notes value) g m n = other_there text first more (array_item low high shape name notes value) tt g m n
there text first more (constraint_item name args notes) g m n = other_there text first more (constraint_item name args notes) tt g m n
there text first more (solve_item notes aim) g m n = other_there text first more (solve_item notes aim) tt g m n

begun : {X : Type 0} (at : ℕ) → BeginsAt at [] → X
begun at p = absurd p

-- what the grammar writes for an item is read as it
pub written_is_read : (text : List ℕ) (tokens : List Token) (item : ItemTree) → ReadsAsItem text tokens item → item_at text tokens ≡ Some item
written_is_read text [] item r = begun item.from r.place
written_is_read text (first ∷ more) item r = there text first more item.what r.of_grammar r.written r.nested ∙ ap (λ i. Some i) (at_place item.from first item.what r.place)

-- An item's tokens end with their one semicolon.

abbrev IsNoEnd : Written → Type 0
IsNoEnd (seen_as l) = is_symbol Symbol.Semicolon l ≡ false
IsNoEnd (any_token t) = Unit {0}

seen_no_end : (ls : List Lexeme) → HasNoEnd ls → AllOf IsNoEnd (map seen_as ls)
seen_no_end [] p = tt
seen_no_end (l ∷ ls) p = (p.0, seen_no_end ls p.1)

any_no_end : (ts : List Token) → AllOf IsNoEnd (map any_token ts)
any_no_end [] = tt
any_no_end (t ∷ ts) = (tt, any_no_end ts)

before_no_end : (w : WhatTree) → AllOf IsNoEnd (toks_before w)
before_no_end (predicate_item kept) = (refl, any_no_end kept)
before_no_end (scalar_item shape name notes value) = let b = what_block (scalar_item shape name notes value) in seen_no_end (print_what (scalar_item shape name notes value)) b.plain
before_no_end (array_item low high shape name notes value) = let b = what_block (array_item low high shape name notes value) in seen_no_end (print_what (array_item low high shape name notes value)) b.plain
before_no_end (constraint_item name args notes) = let b = what_block (constraint_item name args notes) in seen_no_end (print_what (constraint_item name args notes)) b.plain
before_no_end (solve_item notes aim) = let b = what_block (solve_item notes aim) in seen_no_end (print_what (solve_item notes aim)) b.plain

not_end : (text : List ℕ) (s : Written) (t : Token) → IsNoEnd s → Matches text s t → is_at Symbol.Semicolon text t ≡ false
not_end text (seen_as l) t p m = ap (is_symbol Symbol.Semicolon) m ∙ p
not_end text (any_token k) t p m = m.1

ends : (text : List ℕ) (ss : List Written) (ts more : List Token) → AllOf IsNoEnd ss → MatchesAll text (ss ++ seen_as (Lexeme.Fixed Symbol.Semicolon) ∷ []) ts → first_stretch text (ts ++ more) ≡ ts
ends text [] [] more p m = absurd m
ends text [] (t ∷ []) more p m = first_at text t more (ap (is_symbol Symbol.Semicolon) m.0)
ends text [] (t ∷ u ∷ us) more p m = absurd m.1
ends text (s ∷ ss) [] more p m = absurd m
ends text (s ∷ ss) (t ∷ ts) more p m = first_not text t (ts ++ more) (not_end text s t p.0 m.0) ∙ ap (λ us. t ∷ us) (ends text ss ts more p.1 m.1)

-- an item's tokens, before any others, are the first stretch
pub item_is_stretch : (text : List ℕ) (front more : List Token) (item : ItemTree) → ReadsAsItem text front item → first_stretch text (front ++ more) ≡ front
item_is_stretch text front more item r = ends text (toks_before item.what) front more (before_no_end item.what) r.written
