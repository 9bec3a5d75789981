-- The number that an integer literal writes: its digits in base 10, 16 behind `0x` or 8 behind `0o`, negated where it
-- begins with `-`. (MiniZinc Handbook, FlatZinc: int_literal.)
use Rattle.std.specs.Prelude.{ℕ, ℤ, pos, neg_ℤ, List, length, take, drop, Bool, ◌&&◌, nat_le, nat_lt, if◌then◌else◌, codes, bytes_eq, Option, Some, None, option_map}
use Rattle.std.specs.List.{list_all}
use Rattle.std.specs.Char.{digit_value}
use Rattle.std.specs.Str.Parse.{starts_with_minus, digits_value}
use Rattle.constraint_model.specs.Numbers.{largest}

-- one digit of the base or more, and nothing else
abbrev pub is_numeral : ℕ → List ℕ → Bool
is_numeral base s = nat_lt 0 (length s) && list_all (λ c. nat_lt (digit_value c) base) s

-- the number that digits of this base write, where they are nothing else and the profile has it
unfoldable pub number_in : ℕ → List ℕ → Option ℕ
number_in base s = if is_numeral base s && nat_le (digits_value base s) largest then Some (digits_value base s) else None

-- the number of a literal without its minus
unfoldable pub natural_of : List ℕ → Option ℕ
natural_of s =
    if bytes_eq (take 2 s) (codes "0x") then number_in 16 (drop 2 s)
    else (if bytes_eq (take 2 s) (codes "0o") then number_in 8 (drop 2 s)
    else number_in 10 s)

-- the number of an integer literal, where the profile has it
unfoldable pub number_of : List ℕ → Option ℤ
number_of s =
    if starts_with_minus s then option_map (λ n. neg_ℤ (pos n)) (natural_of (drop 1 s))
    else option_map pos (natural_of s)
