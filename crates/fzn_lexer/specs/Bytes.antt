-- The classes of bytes that the spellings of FlatZinc's tokens name, beside std's.
use Rattle.std.specs.Prelude.{ℕ, Bool, ◌==◌, ◌&&◌, ◌||◌, not, nat_le}
use Rattle.std.specs.Char.{is_ascii_digit, is_ascii_alphabetic}

-- `0` to `7`
abbrev pub is_octal_digit : ℕ → Bool
is_octal_digit b = nat_le 48 b && nat_le b 55

-- `A` to `Z`, `a` to `z`, `_`
abbrev pub is_letter : ℕ → Bool
is_letter b = is_ascii_alphabetic b || (b == 95)

-- a letter or a digit
abbrev pub is_word_byte : ℕ → Bool
is_word_byte b = is_letter b || is_ascii_digit b

-- `e` or `E`
abbrev pub is_exponent_letter : ℕ → Bool
is_exponent_letter b = (b == 101) || (b == 69)

-- `+` or `-`
abbrev pub is_sign_byte : ℕ → Bool
is_sign_byte b = (b == 43) || (b == 45)

-- a space, a tab, a carriage return, a line end
abbrev pub is_blank_byte : ℕ → Bool
is_blank_byte b = (b == 32) || (b == 9) || (b == 13) || (b == 10)

-- any byte but the line end
abbrev pub is_in_line : ℕ → Bool
is_in_line b = not (b == 10)

-- any byte but `"`, `\` and the line end
abbrev pub is_plain : ℕ → Bool
is_plain b = not (b == 34) && not (b == 92) && not (b == 10)
