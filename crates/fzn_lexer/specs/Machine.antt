-- A machine over bytes that tells which pieces the bytes spell. The code follows it; the proofs tie it to the spellings.
use Rattle.std.specs.Prelude.{ℕ, suc, drop, Bool, true, false, ◌==◌, ◌||◌, if◌then◌else◌, List, [], ◌∷◌, Option, Some, None}
use Rattle.std.specs.Char.{is_ascii_digit, is_ascii_hexdigit}
use Rattle.fzn_lexer.specs.Bytes.{is_octal_digit, is_letter, is_word_byte, is_exponent_letter, is_sign_byte, is_blank_byte, is_in_line}
use Rattle.fzn_lexer.specs.declared.machine.Found.{Found}
use Rattle.fzn_lexer.specs.declared.Kind.TheVariants as kind
use Rattle.fzn_lexer.specs.declared.PieceKind.{PieceKind}
use Rattle.fzn_lexer.specs.declared.PieceKind.TheVariants as piece_kind
use Rattle.fzn_lexer.specs.declared.machine.State.{State}
use Rattle.fzn_lexer.specs.declared.machine.State.TheVariants.{Start, Dead, InWord, Minus, Zero, Digits, HexBase, Hex, OctalBase, Octal, Point, Fraction, ExponentLetter, ExponentSign, Exponent, InText, Escape, TextEnd, MarkEnd, Colon, Dot, InComment, BlankEnd}

-- the machine's first state
abbrev pub start : State
start = Start

-- this state, or none from which a piece can be reached
abbrev pub alive_if : Bool → State → State
alive_if alive state = if alive then state else Dead

-- a mark of one byte with which no other token begins
abbrev pub is_lone_mark : ℕ → Bool
is_lone_mark b = (b == 40) || (b == 41) || (b == 91) || (b == 93) || (b == 123) || (b == 125) || (b == 44) || (b == 59) || (b == 61)

-- a first byte of a mark, a comment or a blank
abbrev pub other_step : ℕ → State
other_step b =
    if is_lone_mark b then MarkEnd
    else (if b == 58 then Colon
    else (if b == 46 then Dot
    else (if b == 37 then InComment
    else (if is_blank_byte b then BlankEnd
    else Dead))))

abbrev pub minus_step : ℕ → State
minus_step b = if b == 48 then Zero else (if is_ascii_digit b then Digits else Dead)

abbrev pub start_step : ℕ → State
start_step b =
    if is_letter b then InWord
    else (if b == 45 then Minus
    else (if b == 34 then InText
    else (if b == 48 then Zero
    else (if is_ascii_digit b then Digits
    else other_step b))))

abbrev pub digits_step : ℕ → State
digits_step b =
    if is_ascii_digit b then Digits
    else (if b == 46 then Point
    else (if is_exponent_letter b then ExponentLetter
    else Dead))

abbrev pub zero_step : ℕ → State
zero_step b = if b == 120 then HexBase else (if b == 111 then OctalBase else digits_step b)

abbrev pub fraction_step : ℕ → State
fraction_step b = if is_ascii_digit b then Fraction else (if is_exponent_letter b then ExponentLetter else Dead)

abbrev pub exponent_step : ℕ → State
exponent_step b = if is_ascii_digit b then Exponent else (if is_sign_byte b then ExponentSign else Dead)

abbrev pub text_step : ℕ → State
text_step b = if b == 34 then TextEnd else (if b == 92 then Escape else (if b == 10 then Dead else InText))

abbrev pub number_step : State → ℕ → State
number_step Minus b = minus_step b
number_step Zero b = zero_step b
number_step Digits b = digits_step b
number_step HexBase b = alive_if (is_ascii_hexdigit b) Hex
number_step Hex b = alive_if (is_ascii_hexdigit b) Hex
number_step OctalBase b = alive_if (is_octal_digit b) Octal
number_step Octal b = alive_if (is_octal_digit b) Octal
number_step Point b = alive_if (is_ascii_digit b) Fraction
number_step Fraction b = fraction_step b
number_step ExponentLetter b = exponent_step b
number_step ExponentSign b = alive_if (is_ascii_digit b) Exponent
number_step Exponent b = alive_if (is_ascii_digit b) Exponent
number_step _ b = Dead

-- the state after one more byte
abbrev pub step : State → ℕ → State
step Start b = start_step b
step InWord b = alive_if (is_word_byte b) InWord
step InText b = text_step b
step Escape b = alive_if (is_in_line b) InText
step Colon b = alive_if (b == 58) MarkEnd
step Dot b = alive_if (b == 46) MarkEnd
step InComment b = alive_if (is_in_line b) InComment
step state b = number_step state b

-- the kind of the piece that the bytes so far spell, if they spell one
abbrev pub accepted : State → Option PieceKind
accepted InWord = Some (piece_kind.Token kind.Word)
accepted Zero = Some (piece_kind.Token kind.Int)
accepted Digits = Some (piece_kind.Token kind.Int)
accepted Hex = Some (piece_kind.Token kind.Int)
accepted Octal = Some (piece_kind.Token kind.Int)
accepted Fraction = Some (piece_kind.Token kind.Float)
accepted Exponent = Some (piece_kind.Token kind.Float)
accepted TextEnd = Some (piece_kind.Token kind.Text)
accepted MarkEnd = Some (piece_kind.Token kind.Mark)
accepted Colon = Some (piece_kind.Token kind.Mark)
accepted InComment = Some piece_kind.Comment
accepted BlankEnd = Some piece_kind.Blank
accepted _ = None

-- no longer piece can be reached from this state
abbrev pub is_last : State → Bool
is_last TextEnd = true
is_last MarkEnd = true
is_last BlankEnd = true
is_last _ = false

-- the second, where there is one, else the first
abbrev pub later : Option Found → Option Found → Option Found
later first None = first
later first (Some found) = Some found

-- what is found where the bytes up to `at` leave this state
abbrev pub found_as : Option PieceKind → ℕ → Option Found
found_as None at = None
found_as (Some piece) at = Some (record { piece = piece; to = at })

-- the longest piece that ends behind `at`, where the bytes up to `at` leave this state and these bytes follow
unfoldable pub longest_found : State → ℕ → List ℕ → Option Found
longest_found state at [] = None
longest_found state at (b ∷ bs) =
    later (found_as (accepted (step state b)) (suc at)) (longest_found (step state b) (suc at) bs)

-- the pieces of which each front behind the first byte is one too
abbrev pub word : Option PieceKind
word = Some (piece_kind.Token kind.Word)

abbrev pub int : Option PieceKind
int = Some (piece_kind.Token kind.Int)

abbrev pub comment : Option PieceKind
comment = Some piece_kind.Comment

-- the longest piece, where the bytes of the text before `at` leave this state and spell this piece
abbrev pub found_on : Option PieceKind → State → ℕ → List ℕ → Option Found
found_on piece state at text = later (found_as piece at) (longest_found state at (drop at text))
