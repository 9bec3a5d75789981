-- The lines of a made text: their pieces, their tokens and their items.
use Rattle.std.proofs.Common.{ℕ, List, [], ◌∷◌, ◌+◌, ◌<◌, ◌^◌, ◌≡◌, length}
use Rattle.std.specs.Prelude.{codes, flat_map, slice_index_or, None}
use Rattle.std.specs.Fmt.{decimal}
use Rattle.fzn_lexer.specs.declared.Kind.TheVariants as kind
use Rattle.fzn_lexer.specs.declared.PieceKind.{PieceKind}
use Rattle.fzn_lexer.specs.declared.PieceKind.TheVariants as piece_kind
use Rattle.fzn_lexer.specs.declared.Token.{Token}
use Rattle.fzn_lexer.specs.Lexing.{Piece, tokens_from}
use Rattle.fzn_parser.specs.declared.tree.SetLit.{SetLit}
use Rattle.fzn_parser.specs.declared.tree.Elem.{Elem}
use Rattle.fzn_parser.specs.declared.tree.Expr.{Expr}
use Rattle.fzn_parser.specs.declared.tree.Shape.{Shape}
use Rattle.fzn_parser.specs.declared.tree.Aim.{Aim}
use Rattle.fzn_parser.specs.Items.{scalar_item, constraint_item, solve_item}
use Rattle.fzn_parser.specs.Parsing.{ItemTree}
use Rattle.fzn_parser.specs.Texts.{spelling}

-- ---- pieces

abbrev pub word : List ℕ → Piece
word bytes = record { kind = piece_kind.Token kind.Word; bytes = bytes }

abbrev pub int : List ℕ → Piece
int bytes = record { kind = piece_kind.Token kind.Int; bytes = bytes }

abbrev pub mark : List ℕ → Piece
mark bytes = record { kind = piece_kind.Token kind.Mark; bytes = bytes }

abbrev pub blank : ℕ → Piece
blank byte = record { kind = piece_kind.Blank; bytes = byte ∷ [] }

-- the bytes of pieces, one behind the other
abbrev pub bytes_of : List Piece → List ℕ
bytes_of ps = flat_map (λ p. p.bytes) ps

-- ---- lines

abbrev pub name : ℕ → List ℕ
name i = 120 ∷ decimal i

-- a declaration up to a bound, an order with its gap, and what is minimized
pub data Line : Type 0 where
  variable : ℕ → ℕ → Line
  order : ℕ → ℕ → ℕ → Line
  goal : ℕ → Line

abbrev pub pieces_of : Line → List Piece
pieces_of (variable u i) =
    word (codes "var") ∷ blank 32 ∷ int (codes "0") ∷ mark (codes "..") ∷ int (decimal u) ∷ mark (codes ":") ∷ blank 32
    ∷ word (name i) ∷ mark (codes ";") ∷ blank 10 ∷ []
pieces_of (order a b d) =
    word (codes "constraint") ∷ blank 32 ∷ word (codes "int_lin_le") ∷ mark (codes "(")
    ∷ mark (codes "[") ∷ int (codes "1") ∷ mark (codes ",") ∷ int (codes "-1") ∷ mark (codes "]") ∷ mark (codes ",")
    ∷ mark (codes "[") ∷ word (name a) ∷ mark (codes ",") ∷ word (name b) ∷ mark (codes "]") ∷ mark (codes ",")
    ∷ int (45 ∷ decimal d) ∷ mark (codes ")") ∷ mark (codes ";") ∷ blank 10 ∷ []
pieces_of (goal n) = word (codes "solve") ∷ blank 32 ∷ word (codes "minimize") ∷ blank 32 ∷ word (name n) ∷ mark (codes ";") ∷ blank 10 ∷ []

abbrev pub bytes_in : Line → List ℕ
bytes_in l = bytes_of (pieces_of l)

-- the numbers of a line are such as `decimal` writes whole
abbrev pub IsSmall : Line → Type 0
IsSmall (variable u i) = (u < 2 ^ 64) × (i < 2 ^ 64)
IsSmall (order a b d) = (a < 2 ^ 64) × (b < 2 ^ 64) × (d < 2 ^ 64)
IsSmall (goal n) = n < 2 ^ 64

abbrev pub AreSmall : List Line → Type 0
AreSmall [] = Unit {0}
AreSmall (l ∷ ls) = IsSmall l × AreSmall ls

-- ---- tokens and items

abbrev pub tokens_at : ℕ → Line → List Token
tokens_at at l = tokens_from at (pieces_of l)

abbrev pub nth : List Token → ℕ → Token
nth tokens k = slice_index_or tokens k (record { kind = kind.Word; from = 0; to = 0 })

abbrev pub item_at : ℕ → Line → ItemTree
item_at at (variable u i) =
    let ts = tokens_at at (variable u i) in
    record { from = at; what = scalar_item (Shape.VarIn (SetLit.Range (nth ts 1) (nth ts 3))) (nth ts 5) [] None }
item_at at (order a b d) =
    let ts = tokens_at at (order a b d) in
    record {
      from = at;
      what = constraint_item (nth ts 1)
          (Expr.Row (Elem.Int (nth ts 4) ∷ Elem.Int (nth ts 6) ∷ []) ∷ Expr.Row (Elem.Name (nth ts 10) ∷ Elem.Name (nth ts 12) ∷ []) ∷ Expr.One (Elem.Int (nth ts 15)) ∷ [])
          [];
    }
item_at at (goal n) =
    let ts = tokens_at at (goal n) in
    record { from = at; what = solve_item [] (Aim.Minimize (Expr.One (Elem.Name (nth ts 2)))) }

-- the items of lines, of which the first begins at this byte
abbrev pub items_from : ℕ → List Line → List ItemTree
items_from at [] = []
items_from at (l ∷ ls) = item_at at l ∷ items_from (at + length (bytes_in l)) ls

-- ---- where they stand

-- a token at this byte of the text is spelled so
abbrev pub IsSpelled : List ℕ → ℕ → PieceKind → List ℕ → Type 0
IsSpelled text at (piece_kind.Token k) bytes = spelling text (record { kind = k; from = at; to = at + length bytes }) ≡ bytes
IsSpelled text at piece_kind.Blank bytes = Unit {0}
IsSpelled text at piece_kind.Comment bytes = Unit {0}

abbrev pub AreSpelled : List ℕ → ℕ → List Piece → Type 0
AreSpelled text at [] = Unit {0}
AreSpelled text at (p ∷ ps) = IsSpelled text at p.kind p.bytes × AreSpelled text (at + length p.bytes) ps

-- each of the lines stands in the text, the first at this byte
abbrev pub Stand : List ℕ → ℕ → List Line → Type 0
Stand text at [] = Unit {0}
Stand text at (l ∷ ls) = AreSpelled text at (pieces_of l) × Stand text (at + length (bytes_in l)) ls
