-- What a stretch is read as, case by case.
use Rattle.std.proofs.Common.{◌≡◌, ℕ, zero, suc, true, false, cond, map, Option, option_map, drop-drop, length-drop, ◌-◌, ◌+◌, ◌<◌, ◌≤◌, List, [], ◌∷◌, ◌++◌, None, length, take, drop, sym, ap, ◌∙◌, refl, arith}
use Rattle.fzn_lexer.specs.declared.Token.{Token}
use Rattle.fzn_parser.specs.declared.cursor.Symbol.{Symbol}
use Rattle.fzn_parser.specs.declared.cursor.Lexeme.{Lexeme}
use Rattle.fzn_parser.specs.Items.{WhatTree, predicate_item, whole_at}
use Rattle.fzn_parser.specs.Terminals.{begins}
use Rattle.fzn_parser.specs.Texts.{lexeme_of, is_at, is_symbol, before_last}
use Rattle.fzn_parser.specs.Parsing.{placed, max_depth}
use Rattle.fzn_parser.specs.Stretches.{item_at}

pub take_drop_same : {A : Type 0} (n : ℕ) (xs : List A) → xs ≡ take n xs ++ drop n xs
take_drop_same zero xs = refl
take_drop_same (suc n) [] = refl
take_drop_same (suc n) (x ∷ xs) = ap (λ ys. x ∷ ys) (take_drop_same n xs)

pub drop_sum : {A : Type 0} (n m : ℕ) (xs : List A) → drop (n + m) xs ≡ drop m (drop n xs)
drop_sum n m xs = sym (drop-drop m n xs)

pub take_whole : {A : Type 0} (n : ℕ) (xs : List A) → length xs ≤ n → take n xs ≡ xs
take_whole zero [] h = refl
take_whole zero (x ∷ xs) h = absurd (omega arith)
take_whole (suc n) [] h = refl
take_whole (suc n) (x ∷ xs) h = ap (λ ys. x ∷ ys) (take_whole n xs (omega arith))

pub take_rest : {A : Type 0} (n : ℕ) (xs : List A) → take (length xs - n) (drop n xs) ≡ drop n xs
take_rest n xs = take_whole (length xs - n) (drop n xs) (omega (arith, length-drop n xs))

pub item_predicate : (text : List ℕ) (first : Token) (more : List Token) (o : Option (List Token)) → is_at Symbol.Predicate text first ≡ true → o ≡ before_last text more → item_at text (first ∷ more) ≡ option_map (λ kept. placed first (predicate_item kept)) o
unfolding item_at
item_predicate text first more o e f = ap (λ b. cond b (option_map (λ kept. placed first (predicate_item kept)) (before_last text more)) (option_map (λ what. placed first what) (whole_at max_depth (map (lexeme_of text) (first ∷ more))))) e ∙ ap (option_map (λ kept. placed first (predicate_item kept))) (sym f)

pub item_other : (text : List ℕ) (first : Token) (stretch more : List Token) (ls : List Lexeme) (o : Option WhatTree) → is_at Symbol.Predicate text first ≡ false → stretch ≡ first ∷ more → ls ≡ map (lexeme_of text) stretch → whole_at max_depth ls ≡ o → item_at text stretch ≡ option_map (λ what. placed first what) o
unfolding item_at
item_other text first stretch more ls o e g h f =
    ap (item_at text) g ∙ ap (λ b. cond b (option_map (λ kept. placed first (predicate_item kept)) (before_last text more)) (option_map (λ what. placed first what) (whole_at max_depth (map (lexeme_of text) (first ∷ more))))) e
    ∙ ap (λ ts. option_map (λ what. placed first what) (whole_at max_depth (map (lexeme_of text) ts))) (sym g) ∙ ap (λ ms. option_map (λ what. placed first what) (whole_at max_depth ms)) (sym h) ∙ ap (option_map (λ what. placed first what)) f

pub item_empty : (text : List ℕ) (ts : List Token) → length ts < 1 → item_at text ts ≡ None
unfolding item_at
item_empty text [] h = refl
item_empty text (t ∷ ts) h = absurd (omega arith)

begins_on : (s : Symbol) (l : Lexeme) (ls : List Lexeme) → begins s (l ∷ ls) ≡ is_symbol s l
unfolding begins
begins_on s (Lexeme.Fixed t) ls = refl
begins_on s (Lexeme.Kept c t) ls = refl

-- the first lexeme of a stretch is that of its first token
pub begins_first : (s : Symbol) (text : List ℕ) (first : Token) (stretch more : List Token) (ls : List Lexeme) → stretch ≡ first ∷ more → ls ≡ map (lexeme_of text) stretch → is_at s text first ≡ begins s ls
begins_first s text first stretch more ls g h = sym (ap (begins s) (h ∙ ap (map (lexeme_of text)) g) ∙ begins_on s (lexeme_of text first) (map (lexeme_of text) more))
