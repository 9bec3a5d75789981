-- What spells a token, a blank and a comment of a FlatZinc text: the terminals of the grammar in the FlatZinc
-- chapter of the MiniZinc Handbook. A text is the list of its bytes. Two spellings are wider than there: a word may be
-- `_` alone, and a string literal may have `\(` in it, with which MiniZinc begins an interpolation. Nothing is decoded.
use Rattle.std.specs.Prelude.{◌≡◌, ◌<◌, ℕ, Bool, List, [], ◌∷◌, ◌++◌, ◌&&◌, ◌==◌, ◌⊎◌, length, IsTrue, codes, false}
use Rattle.std.specs.List.{flat_map, list_all}
use Rattle.std.specs.Char.{is_ascii_digit, is_ascii_hexdigit}
use Rattle.fzn_lexer.specs.Bytes.{is_octal_digit, is_letter, is_word_byte, is_exponent_letter, is_blank_byte, is_in_line, is_plain}
use Rattle.fzn_lexer.specs.declared.Kind.{Kind}
use Rattle.fzn_lexer.specs.declared.Kind.TheVariants.{Word, Int, Float, Text, Mark}
use Rattle.fzn_lexer.specs.declared.PieceKind.{PieceKind}
use Rattle.fzn_lexer.specs.declared.PieceKind.TheVariants.{Token, Blank, Comment}

-- at least one byte, and each passes the test
pub record IsRow (test : ℕ → Bool) (s : List ℕ) : Type 0 where
  pub some : 0 < length s
  pub each : IsTrue (list_all test s)

-- a letter, then letters and digits
pub record IsWord (s : List ℕ) : Type 0 where
  pub first : ℕ
  pub rest : List ℕ
  pub spelled : s ≡ first ∷ rest
  pub is_first : IsTrue (is_letter first)
  pub are_rest : IsTrue (list_all is_word_byte rest)

-- nothing, or `-`
abbrev pub IsMinus : List ℕ → Type 0
IsMinus s = (s ≡ []) ⊎ (s ≡ codes "-")

-- `-` or nothing, then decimal digits
pub record IsDecimal (s : List ℕ) : Type 0 where
  pub minus : List ℕ
  pub digits : List ℕ
  pub spelled : s ≡ minus ++ digits
  pub is_minus : IsMinus minus
  pub are_digits : IsRow is_ascii_digit digits

-- `-` or nothing, then `0`, a letter that tells the base, and digits of that base
pub record IsBased (base : List ℕ) (test : ℕ → Bool) (s : List ℕ) : Type 0 where
  pub minus : List ℕ
  pub digits : List ℕ
  pub spelled : s ≡ minus ++ (base ++ digits)
  pub is_minus : IsMinus minus
  pub are_digits : IsRow test digits

-- an integer literal in base 10, 16 or 8
abbrev pub IsInt : List ℕ → Type 0
IsInt s = IsDecimal s ⊎ (IsBased (codes "0x") is_ascii_hexdigit s ⊎ IsBased (codes "0o") is_octal_digit s)

-- decimal digits with a point inside
pub record IsPointed (s : List ℕ) : Type 0 where
  pub whole : List ℕ
  pub fraction : List ℕ
  pub spelled : s ≡ whole ++ (codes "." ++ fraction)
  pub is_whole : IsDecimal whole
  pub is_fraction : IsRow is_ascii_digit fraction

-- nothing, `+` or `-`
abbrev pub IsExponentSign : List ℕ → Type 0
IsExponentSign s = (s ≡ []) ⊎ ((s ≡ codes "+") ⊎ (s ≡ codes "-"))

-- a number with or without a point, then `e` or `E` and an exponent
pub record IsScaled (s : List ℕ) : Type 0 where
  pub mantissa : List ℕ
  pub letter : ℕ
  pub sign : List ℕ
  pub exponent : List ℕ
  pub spelled : s ≡ mantissa ++ letter ∷ (sign ++ exponent)
  pub is_mantissa : IsDecimal mantissa ⊎ IsPointed mantissa
  pub is_letter_e : IsTrue (is_exponent_letter letter)
  pub is_sign : IsExponentSign sign
  pub is_exponent : IsRow is_ascii_digit exponent

-- a float literal
abbrev pub IsFloat : List ℕ → Type 0
IsFloat s = IsPointed s ⊎ IsScaled s

-- inside a string literal: a byte that is no `"`, no `\` and no line end, or a `\` with the byte after it, no line end
abbrev pub is_text_part : List ℕ → Bool
is_text_part (b ∷ []) = is_plain b
is_text_part (a ∷ b ∷ []) = (a == 92) && is_in_line b
is_text_part _ = false

-- lists one behind the other
abbrev pub joined : List (List ℕ) → List ℕ
joined parts = flat_map (λ part. part) parts

-- a string literal, closed on its line
pub record IsText (s : List ℕ) : Type 0 where
  pub parts : List (List ℕ)
  pub spelled : s ≡ 34 ∷ (joined parts ++ 34 ∷ [])
  pub are_parts : IsTrue (list_all is_text_part parts)

-- s is one of these
abbrev pub IsOneOf : List (List ℕ) → List ℕ → Type 0
IsOneOf [] s = ⊥
IsOneOf (t ∷ ts) s = (s ≡ t) ⊎ IsOneOf ts s

-- punctuation
abbrev pub marks : List (List ℕ)
marks = codes "(" ∷ codes ")" ∷ codes "[" ∷ codes "]" ∷ codes "{" ∷ codes "}" ∷ codes "," ∷ codes ";"
    ∷ codes ":" ∷ codes "::" ∷ codes "=" ∷ codes ".." ∷ []

abbrev pub IsMark : List ℕ → Type 0
IsMark s = IsOneOf marks s

-- a token of this kind
abbrev pub SpellsToken : Kind → List ℕ → Type 0
SpellsToken Word s = IsWord s
SpellsToken Int s = IsInt s
SpellsToken Float s = IsFloat s
SpellsToken Text s = IsText s
SpellsToken Mark s = IsMark s

-- one blank byte
pub record IsBlank (s : List ℕ) : Type 0 where
  pub byte : ℕ
  pub spelled : s ≡ byte ∷ []
  pub is_byte : IsTrue (is_blank_byte byte)

-- `%` and bytes of its line. The longest such prefix of a text ends before the next line end, or with the text.
pub record IsComment (s : List ℕ) : Type 0 where
  pub rest : List ℕ
  pub spelled : s ≡ 37 ∷ rest
  pub are_rest : IsTrue (list_all is_in_line rest)

-- s spells a piece of this kind
abbrev pub Spells : PieceKind → List ℕ → Type 0
Spells (Token kind) s = SpellsToken kind s
Spells Blank s = IsBlank s
Spells Comment s = IsComment s
