-- Lines read as their items.
use Rattle.std.proofs.Common.{◌≡◌, ◌≤◌, ◌+◌, ℕ, List, [], ◌∷◌, ◌++◌, length, refl, sym, ◌∙◌, ap, subst, arith, append_assoc, length-append}
use Rattle.std.specs.Prelude.{codes, flat_map, map, Some, None}
use Rattle.fzn_lexer.specs.declared.Kind.TheVariants as kind
use Rattle.fzn_lexer.specs.declared.Token.{Token}
use Rattle.fzn_lexer.specs.Lexing.{Piece, tokens_from, token_of}
use Rattle.fzn_parser.specs.declared.cursor.Symbol.{Symbol}
use Rattle.fzn_parser.specs.declared.cursor.Class.{Class}
use Rattle.fzn_parser.specs.declared.cursor.Lexeme.{Lexeme}
use Rattle.fzn_parser.specs.Texts.{spelling, keyword, mark, named, marked, lexeme_of}
use Rattle.fzn_parser.specs.Printer.{seen_as, MatchesAll, most_open}
use Rattle.fzn_parser.specs.Parsing.{ReadsAsItem, ReadsAs}
use Rattle.made_laws.proofs.Lines.{bytes_of, name, Line, variable, order, goal, pieces_of, bytes_in, tokens_at, nth, item_at, items_from, AreSpelled, Stand}

-- ---- lexemes

keyword_seen : (text : List ℕ) (from to : ℕ) (s : List ℕ) (symbol : Symbol) → spelling text (record { kind = kind.Word; from = from; to = to }) ≡ s → keyword s ≡ Some symbol
    → lexeme_of text (record { kind = kind.Word; from = from; to = to }) ≡ Lexeme.Fixed symbol
unfolding lexeme_of
keyword_seen text from to s symbol spelled known =
    ap (λ u. named (record { kind = kind.Word; from = from; to = to }) (keyword u)) spelled ∙ ap (λ o. named (record { kind = kind.Word; from = from; to = to }) o) known

name_seen : (text : List ℕ) (from to : ℕ) (s : List ℕ) → spelling text (record { kind = kind.Word; from = from; to = to }) ≡ s → keyword s ≡ None
    → lexeme_of text (record { kind = kind.Word; from = from; to = to }) ≡ Lexeme.Kept Class.Name (record { kind = kind.Word; from = from; to = to })
unfolding lexeme_of
name_seen text from to s spelled known =
    ap (λ u. named (record { kind = kind.Word; from = from; to = to }) (keyword u)) spelled ∙ ap (λ o. named (record { kind = kind.Word; from = from; to = to }) o) known

mark_seen : (text : List ℕ) (from to : ℕ) (s : List ℕ) (symbol : Symbol) → spelling text (record { kind = kind.Mark; from = from; to = to }) ≡ s → mark s ≡ Some symbol
    → lexeme_of text (record { kind = kind.Mark; from = from; to = to }) ≡ Lexeme.Fixed symbol
unfolding lexeme_of
mark_seen text from to s symbol spelled known = ap (λ u. marked (mark u)) spelled ∙ ap marked known

int_seen : (text : List ℕ) (from to : ℕ) → lexeme_of text (record { kind = kind.Int; from = from; to = to }) ≡ Lexeme.Kept Class.Int (record { kind = kind.Int; from = from; to = to })
unfolding lexeme_of
int_seen text from to = refl

var_is : keyword (codes "var") ≡ Some Symbol.Var
unfolding keyword
var_is = refl

constraint_is : keyword (codes "constraint") ≡ Some Symbol.Constraint
unfolding keyword
constraint_is = refl

solve_is : keyword (codes "solve") ≡ Some Symbol.Solve
unfolding keyword
solve_is = refl

minimize_is : keyword (codes "minimize") ≡ Some Symbol.Minimize
unfolding keyword
minimize_is = refl

sum_is : keyword (codes "int_lin_le") ≡ None
unfolding keyword
sum_is = refl

name_is : (i : ℕ) → keyword (name i) ≡ None
unfolding keyword
name_is i = refl

mark_is : (mark (codes "..") ≡ Some Symbol.DotDot) × (mark (codes ":") ≡ Some Symbol.Colon) × (mark (codes ";") ≡ Some Symbol.Semicolon) × (mark (codes ",") ≡ Some Symbol.Comma)
    × (mark (codes "(") ≡ Some Symbol.ParenOpen) × (mark (codes ")") ≡ Some Symbol.ParenClose) × (mark (codes "[") ≡ Some Symbol.BracketOpen) × (mark (codes "]") ≡ Some Symbol.BracketClose)
unfolding mark
mark_is = (refl, refl, refl, refl, refl, refl, refl, refl)

-- tokens that are seen so, as their lexemes
matched : (text : List ℕ) (ls : List Lexeme) (ts : List Token) → MatchesAll text (map seen_as ls) ts → map (lexeme_of text) ts ≡ ls
matched text [] [] m = refl
matched text [] (t ∷ ts) m = absurd m
matched text (l ∷ ls) [] m = absurd m
matched text (l ∷ ls) (t ∷ ts) m = ap (λ x. x ∷ map (lexeme_of text) ts) m.0 ∙ ap (λ xs. l ∷ xs) (matched text ls ts m.1)

shallow : (text : List ℕ) (ls : List Lexeme) (ts : List Token) → MatchesAll text (map seen_as ls) ts → most_open 0 ls ≤ 64 → most_open 0 (map (lexeme_of text) ts) ≤ 64
shallow text ls ts m few = subst (λ xs. most_open 0 xs ≤ 64) (sym (matched text ls ts m)) few

-- ---- items

abbrev variable_lexemes : List Token → List Lexeme
variable_lexemes ts =
    Lexeme.Fixed Symbol.Var ∷ Lexeme.Kept Class.Int (nth ts 1) ∷ Lexeme.Fixed Symbol.DotDot ∷ Lexeme.Kept Class.Int (nth ts 3)
    ∷ Lexeme.Fixed Symbol.Colon ∷ Lexeme.Kept Class.Name (nth ts 5) ∷ Lexeme.Fixed Symbol.Semicolon ∷ []

variable_matches : (text : List ℕ) (at u i : ℕ) → AreSpelled text at (pieces_of (variable u i))
    → MatchesAll text (map seen_as (variable_lexemes (tokens_at at (variable u i)))) (tokens_at at (variable u i))
variable_matches text at u i s =
    let s3 = s.1.1.1 in
    let s5 = s3.1.1 in
    let s7 = s5.1.1 in (
      keyword_seen text _ _ (codes "var") Symbol.Var s.0 var_is,
      (
        int_seen text _ _,
        (
          mark_seen text _ _ (codes "..") Symbol.DotDot s3.0 mark_is.0,
          (
            int_seen text _ _,
            (
              mark_seen text _ _ (codes ":") Symbol.Colon s5.0 mark_is.1,
              (
                name_seen text _ _ (name i) s7.0 (name_is i),
                (
                  mark_seen text _ _ (codes ";") Symbol.Semicolon s7.1.0 mark_is.2,
                  tt,
                ),
              ),
            ),
          ),
        ),
      ),
    )

variable_reads : (text : List ℕ) (at u i : ℕ) → AreSpelled text at (pieces_of (variable u i)) → ReadsAsItem text (tokens_at at (variable u i)) (item_at at (variable u i))
variable_reads text at u i s =
    let ts = tokens_at at (variable u i) in
    let matches = variable_matches text at u i s in
    record { of_grammar = refl; written = matches; nested = shallow text (variable_lexemes ts) ts matches (omega arith); place = refl }

abbrev goal_lexemes : List Token → List Lexeme
goal_lexemes ts = Lexeme.Fixed Symbol.Solve ∷ Lexeme.Fixed Symbol.Minimize ∷ Lexeme.Kept Class.Name (nth ts 2) ∷ Lexeme.Fixed Symbol.Semicolon ∷ []

goal_matches : (text : List ℕ) (at n : ℕ) → AreSpelled text at (pieces_of (goal n)) → MatchesAll text (map seen_as (goal_lexemes (tokens_at at (goal n)))) (tokens_at at (goal n))
goal_matches text at n s =
    let s2 = s.1.1 in
    let s4 = s2.1.1 in (
      keyword_seen text _ _ (codes "solve") Symbol.Solve s.0 solve_is,
      (
        keyword_seen text _ _ (codes "minimize") Symbol.Minimize s2.0 minimize_is,
        (
          name_seen text _ _ (name n) s4.0 (name_is n),
          (
            mark_seen text _ _ (codes ";") Symbol.Semicolon s4.1.0 mark_is.2,
            tt,
          ),
        ),
      ),
    )

goal_reads : (text : List ℕ) (at n : ℕ) → AreSpelled text at (pieces_of (goal n)) → ReadsAsItem text (tokens_at at (goal n)) (item_at at (goal n))
goal_reads text at n s =
    let ts = tokens_at at (goal n) in
    let matches = goal_matches text at n s in
    record { of_grammar = tt; written = matches; nested = shallow text (goal_lexemes ts) ts matches (omega arith); place = refl }

abbrev order_lexemes : List Token → List Lexeme
order_lexemes ts =
    Lexeme.Fixed Symbol.Constraint ∷ Lexeme.Kept Class.Name (nth ts 1) ∷ Lexeme.Fixed Symbol.ParenOpen
    ∷ Lexeme.Fixed Symbol.BracketOpen ∷ Lexeme.Kept Class.Int (nth ts 4) ∷ Lexeme.Fixed Symbol.Comma ∷ Lexeme.Kept Class.Int (nth ts 6) ∷ Lexeme.Fixed Symbol.BracketClose
    ∷ Lexeme.Fixed Symbol.Comma
    ∷ Lexeme.Fixed Symbol.BracketOpen ∷ Lexeme.Kept Class.Name (nth ts 10) ∷ Lexeme.Fixed Symbol.Comma ∷ Lexeme.Kept Class.Name (nth ts 12) ∷ Lexeme.Fixed Symbol.BracketClose
    ∷ Lexeme.Fixed Symbol.Comma ∷ Lexeme.Kept Class.Int (nth ts 15)
    ∷ Lexeme.Fixed Symbol.ParenClose ∷ Lexeme.Fixed Symbol.Semicolon ∷ []

order_matches : (text : List ℕ) (at a b d : ℕ) → AreSpelled text at (pieces_of (order a b d))
    → MatchesAll text (map seen_as (order_lexemes (tokens_at at (order a b d)))) (tokens_at at (order a b d))
order_matches text at a b d s =
    let s2 = s.1.1 in
    let s3 = s2.1 in
    let s4 = s3.1 in
    let s6 = s4.1.1 in
    let s8 = s6.1.1 in
    let s9 = s8.1 in
    let s10 = s9.1 in
    let s11 = s10.1 in
    let s12 = s11.1 in
    let s13 = s12.1 in
    let s14 = s13.1 in
    let s15 = s14.1 in
    let s17 = s15.1.1 in
    let s18 = s17.1 in (
      keyword_seen text _ _ (codes "constraint") Symbol.Constraint s.0 constraint_is,
      (
        name_seen text _ _ (codes "int_lin_le") s2.0 sum_is,
        (
          mark_seen text _ _ (codes "(") Symbol.ParenOpen s3.0 mark_is.4,
          (
            mark_seen text _ _ (codes "[") Symbol.BracketOpen s4.0 mark_is.6,
            (
              int_seen text _ _,
              (
                mark_seen text _ _ (codes ",") Symbol.Comma s6.0 mark_is.3,
                (
                  int_seen text _ _,
                  (
                    mark_seen text _ _ (codes "]") Symbol.BracketClose s8.0 mark_is.7,
                    (
                      mark_seen text _ _ (codes ",") Symbol.Comma s9.0 mark_is.3,
                      (
                        mark_seen text _ _ (codes "[") Symbol.BracketOpen s10.0 mark_is.6,
                        (
                          name_seen text _ _ (name a) s11.0 (name_is a),
                          (
                            mark_seen text _ _ (codes ",") Symbol.Comma s12.0 mark_is.3,
                            (
                              name_seen text _ _ (name b) s13.0 (name_is b),
                              (
                                mark_seen text _ _ (codes "]") Symbol.BracketClose s14.0 mark_is.7,
                                (
                                  mark_seen text _ _ (codes ",") Symbol.Comma s15.0 mark_is.3,
                                  (
                                    int_seen text _ _,
                                    (
                                      mark_seen text _ _ (codes ")") Symbol.ParenClose s17.0 mark_is.5,
                                      (
                                        mark_seen text _ _ (codes ";") Symbol.Semicolon s18.0 mark_is.2,
                                        tt,
                                      ),
                                    ),
                                  ),
                                ),
                              ),
                            ),
                          ),
                        ),
                      ),
                    ),
                  ),
                ),
              ),
            ),
          ),
        ),
      ),
    )

order_reads : (text : List ℕ) (at a b d : ℕ) → AreSpelled text at (pieces_of (order a b d)) → ReadsAsItem text (tokens_at at (order a b d)) (item_at at (order a b d))
order_reads text at a b d s =
    let ts = tokens_at at (order a b d) in
    let matches = order_matches text at a b d s in
    record { of_grammar = tt; written = matches; nested = shallow text (order_lexemes ts) ts matches (omega arith); place = refl }

line_reads : (text : List ℕ) (at : ℕ) (l : Line) → AreSpelled text at (pieces_of l) → ReadsAsItem text (tokens_at at l) (item_at at l)
line_reads text at (variable u i) s = variable_reads text at u i s
line_reads text at (order a b d) s = order_reads text at a b d s
line_reads text at (goal n) s = goal_reads text at n s

-- ---- lines

tokens_append : (at : ℕ) (ps qs : List Piece) → tokens_from at (ps ++ qs) ≡ tokens_from at ps ++ tokens_from (at + length (bytes_of ps)) qs
tokens_append at [] qs = let same : at + 0 ≡ at = omega arith in ap (λ n. tokens_from n qs) (sym same)
tokens_append at (p ∷ ps) qs =
    let here = token_of p.kind at (at + length p.bytes) in
    let place : at + length p.bytes + length (bytes_of ps) ≡ at + length (p.bytes ++ bytes_of ps) = let sizes = length-append p.bytes (bytes_of ps) in omega arith in
    ap (λ ts. here ++ ts) (tokens_append (at + length p.bytes) ps qs)
    ∙ (sym (append_assoc here (tokens_from (at + length p.bytes) ps) (tokens_from (at + length p.bytes + length (bytes_of ps)) qs))
    ∙ ap (λ n. (here ++ tokens_from (at + length p.bytes) ps) ++ tokens_from n qs) place)

-- the tokens of lines read as their items
pub lines_read : (text : List ℕ) (at : ℕ) (ls : List Line) → Stand text at ls → ReadsAs text (tokens_from at (flat_map pieces_of ls)) (items_from at ls)
lines_read text at [] s = refl
lines_read text at (l ∷ ls) s = (
  tokens_at at l,
  tokens_from (at + length (bytes_in l)) (flat_map pieces_of ls),
  tokens_append at (pieces_of l) (flat_map pieces_of ls),
  line_reads text at l s.0,
  lines_read text (at + length (bytes_in l)) ls s.1,
)
