use Rattle.std.proofs.Common.{◌≡◌, ◌≤◌, drop}
use Rattle.std.specs.Prelude.{nat_lt}
use Rattle.std.specs.Char.{digit_value}
use Rattle.std.specs.List.{list_all}
use Rattle.std.specs.Str.Parse.{digits_value, digits_value_after}
use Rattle.fzn_model.proofs.numbers.short_number.Given as goal

-- the number so far, with the digits that are left, is that of all
abbrev pub invariant-loop-digit : goal.invariant-loop-digit
invariant-loop-digit l =
    (digits_value_after 10 l.number (drop l.digit-index l.digits) ≡ digits_value 10 l.digits)
    × (list_all (λ c. nat_lt (digit_value c) 10) (drop l.digit-index l.digits) ≡ list_all (λ c. nat_lt (digit_value c) 10) l.digits)
    × (l.number ≤ 999999999)
