-- What the bytes that lead the machine to a state spell: with each byte the spelling grows by one.
use Rattle.std.proofs.Common.{◌≡◌, ℕ, Bool, true, false, List, [], ◌∷◌, ◌++◌, ◌⊎◌, inl, inr, refl, sym, ◌∙◌, ap, subst, append_assoc, arith, length-append}
use Rattle.std.specs.Prelude.{IsTrue, codes, ◌==◌, MatchOption}
use Rattle.std.specs.List.{list_all}
use Rattle.std.proofs.lemmas.Bool.{cond_both, eqb-true, and_from, or_cases}
use Rattle.std.proofs.lemmas.Grind.{flat_map-append}
use Rattle.std.proofs.lemmas.List.{append-nil}
use Rattle.std.proofs.lemmas.List.Folds.{list_all-append}
use Rattle.std.specs.Char.{is_ascii_digit, is_ascii_hexdigit}
use Rattle.fzn_lexer.specs.Bytes.{is_octal_digit, is_letter, is_word_byte, is_exponent_letter, is_sign_byte, is_blank_byte, is_in_line, is_plain}
use Rattle.fzn_lexer.specs.Spelling.{IsRow, IsWord, IsMinus, IsDecimal, IsBased, IsPointed, IsExponentSign, IsScaled, is_text_part, joined, IsText, IsMark, IsBlank, IsComment, Spells}
use Rattle.fzn_lexer.specs.Machine.{alive_if, is_lone_mark, other_step, minus_step, start_step, digits_step, zero_step, fraction_step, exponent_step, text_step, step, accepted}
use Rattle.fzn_lexer.specs.declared.machine.State.{State}
use Rattle.fzn_lexer.specs.declared.machine.State.TheVariants.{Start, Dead, InWord, Minus, Zero, Digits, HexBase, Hex, OctalBase, Octal, Point, Fraction, ExponentLetter, ExponentSign, Exponent, InText, Escape, TextEnd, MarkEnd, Colon, Dot, InComment, BlankEnd}

-- `-` or nothing, then exactly this
pub record AfterMinus (tail s : List ℕ) : Type 0 where
  pub minus : List ℕ
  pub spelled : s ≡ minus ++ tail
  pub is_minus : IsMinus minus

-- a decimal and the point
pub record AtPoint (s : List ℕ) : Type 0 where
  pub whole : List ℕ
  pub spelled : s ≡ whole ++ codes "."
  pub is_whole : IsDecimal whole

-- a mantissa, `e` and this sign
pub record InExponent (sign s : List ℕ) : Type 0 where
  pub mantissa : List ℕ
  pub letter : ℕ
  pub spelled : s ≡ mantissa ++ letter ∷ sign
  pub is_mantissa : IsDecimal mantissa ⊎ IsPointed mantissa
  pub is_letter_e : IsTrue (is_exponent_letter letter)

-- an open string literal, its whole parts and then this
pub record InsideText (last s : List ℕ) : Type 0 where
  pub parts : List (List ℕ)
  pub spelled : s ≡ 34 ∷ (joined parts ++ last)
  pub are_parts : IsTrue (list_all is_text_part parts)

-- what the bytes spell that lead to a state
abbrev pub Reached : State → List ℕ → Type 0
Reached Start s = s ≡ []
Reached Dead s = Unit {0}
Reached InWord s = IsWord s
Reached Minus s = s ≡ codes "-"
Reached Zero s = AfterMinus (codes "0") s
Reached Digits s = IsDecimal s
Reached HexBase s = AfterMinus (codes "0x") s
Reached Hex s = IsBased (codes "0x") is_ascii_hexdigit s
Reached OctalBase s = AfterMinus (codes "0o") s
Reached Octal s = IsBased (codes "0o") is_octal_digit s
Reached Point s = AtPoint s
Reached Fraction s = IsPointed s
Reached ExponentLetter s = InExponent [] s
Reached ExponentSign s = InExponent (codes "+") s ⊎ InExponent (codes "-") s
Reached Exponent s = IsScaled s
Reached InText s = InsideText [] s
Reached Escape s = InsideText (92 ∷ []) s
Reached TextEnd s = IsText s
Reached MarkEnd s = IsMark s
Reached Colon s = s ≡ codes ":"
Reached Dot s = s ≡ codes "."
Reached InComment s = IsComment s
Reached BlankEnd s = IsBlank s

all_more : (test : ℕ → Bool) (s : List ℕ) (b : ℕ) → list_all test s ≡ true → test b ≡ true → list_all test (s ++ b ∷ []) ≡ true
all_more test s b h t = list_all-append test s (b ∷ []) ∙ and_from (list_all test s) (list_all test (b ∷ [])) h (and_from (test b) true t refl)

row_one : (test : ℕ → Bool) (b : ℕ) → test b ≡ true → IsRow test (b ∷ [])
row_one test b t = record { some = omega arith; each = and_from (test b) true t refl }

row_more : (test : ℕ → Bool) (s : List ℕ) (b : ℕ) → IsRow test s → test b ≡ true → IsRow test (s ++ b ∷ [])
row_more test s b h t = record { some = simp length-append (omega (arith, h.some)); each = all_more test s b h.each t }

-- one more byte behind two parts
on : (s u v : List ℕ) (b : ℕ) → s ≡ u ++ v → s ++ b ∷ [] ≡ u ++ (v ++ b ∷ [])
on s u v b e = ap (λ t. t ++ b ∷ []) e ∙ append_assoc u v (b ∷ [])

-- a known byte behind two parts
on_byte : (s u v : List ℕ) (b k : ℕ) → s ≡ u ++ v → (b == k) ≡ true → s ++ b ∷ [] ≡ u ++ (v ++ k ∷ [])
on_byte s u v b k e t = on s u v b e ∙ ap (λ x. u ++ (v ++ x ∷ [])) (eqb-true b k t)

known_byte : (s t : List ℕ) (b k : ℕ) → s ≡ t → (b == k) ≡ true → s ++ b ∷ [] ≡ t ++ k ∷ []
known_byte s t b k e h = ap (λ u. u ++ b ∷ []) e ∙ ap (λ x. t ++ x ∷ []) (eqb-true b k h)

alive : (t : Bool) (q : State) (s : List ℕ) → (t ≡ true → Reached q s) → Reached (alive_if t q) s
alive true q s h = h refl
alive false q s h = tt

word_more : (s : List ℕ) (b : ℕ) → IsWord s → is_word_byte b ≡ true → IsWord (s ++ b ∷ [])
word_more s b w t = record {
  first = w.first;
  rest = w.rest ++ b ∷ [];
  spelled = ap (λ u. u ++ b ∷ []) w.spelled;
  is_first = w.is_first;
  are_rest = all_more is_word_byte w.rest b w.are_rest t;
}

comment_more : (s : List ℕ) (b : ℕ) → IsComment s → is_in_line b ≡ true → IsComment (s ++ b ∷ [])
comment_more s b w t = record {
  rest = w.rest ++ b ∷ [];
  spelled = ap (λ u. u ++ b ∷ []) w.spelled;
  are_rest = all_more is_in_line w.rest b w.are_rest t;
}

decimal_more : (s : List ℕ) (b : ℕ) → IsDecimal s → is_ascii_digit b ≡ true → IsDecimal (s ++ b ∷ [])
decimal_more s b w t = record {
  minus = w.minus;
  digits = w.digits ++ b ∷ [];
  spelled = on s w.minus w.digits b w.spelled;
  is_minus = w.is_minus;
  are_digits = row_more is_ascii_digit w.digits b w.are_digits t;
}

zero_decimal : (s : List ℕ) → AfterMinus (codes "0") s → IsDecimal s
zero_decimal s w = record {
  minus = w.minus;
  digits = codes "0";
  spelled = w.spelled;
  is_minus = w.is_minus;
  are_digits = row_one is_ascii_digit 48 refl;
}

based_first : (base : List ℕ) (test : ℕ → Bool) (s : List ℕ) (b : ℕ) → AfterMinus base s → test b ≡ true → IsBased base test (s ++ b ∷ [])
based_first base test s b w t = record {
  minus = w.minus;
  digits = b ∷ [];
  spelled = on s w.minus base b w.spelled;
  is_minus = w.is_minus;
  are_digits = row_one test b t;
}

based_more : (base : List ℕ) (test : ℕ → Bool) (s : List ℕ) (b : ℕ) → IsBased base test s → test b ≡ true → IsBased base test (s ++ b ∷ [])
based_more base test s b w t = record {
  minus = w.minus;
  digits = w.digits ++ b ∷ [];
  spelled = on s w.minus (base ++ w.digits) b w.spelled ∙ ap (λ u. w.minus ++ u) (append_assoc base w.digits (b ∷ []));
  is_minus = w.is_minus;
  are_digits = row_more test w.digits b w.are_digits t;
}

pointed_first : (s : List ℕ) (b : ℕ) → AtPoint s → is_ascii_digit b ≡ true → IsPointed (s ++ b ∷ [])
pointed_first s b w t = record {
  whole = w.whole;
  fraction = b ∷ [];
  spelled = on s w.whole (codes ".") b w.spelled;
  is_whole = w.is_whole;
  is_fraction = row_one is_ascii_digit b t;
}

pointed_more : (s : List ℕ) (b : ℕ) → IsPointed s → is_ascii_digit b ≡ true → IsPointed (s ++ b ∷ [])
pointed_more s b w t = record {
  whole = w.whole;
  fraction = w.fraction ++ b ∷ [];
  spelled = on s w.whole (46 ∷ w.fraction) b w.spelled;
  is_whole = w.is_whole;
  is_fraction = row_more is_ascii_digit w.fraction b w.is_fraction t;
}

letter_reached : (s : List ℕ) (b : ℕ) → IsDecimal s ⊎ IsPointed s → is_exponent_letter b ≡ true → InExponent [] (s ++ b ∷ [])
letter_reached s b w t = record { mantissa = s; letter = b; spelled = refl; is_mantissa = w; is_letter_e = t }

sign_reached : (s : List ℕ) (b k : ℕ) → InExponent [] s → (b == k) ≡ true → InExponent (k ∷ []) (s ++ b ∷ [])
sign_reached s b k w t = record {
  mantissa = w.mantissa;
  letter = w.letter;
  spelled = on_byte s w.mantissa (w.letter ∷ []) b k w.spelled t;
  is_mantissa = w.is_mantissa;
  is_letter_e = w.is_letter_e;
}

scaled_first : (sign s : List ℕ) (b : ℕ) → IsExponentSign sign → InExponent sign s → is_ascii_digit b ≡ true → IsScaled (s ++ b ∷ [])
scaled_first sign s b g w t = record {
  mantissa = w.mantissa;
  letter = w.letter;
  sign = sign;
  exponent = b ∷ [];
  spelled = on s w.mantissa (w.letter ∷ sign) b w.spelled;
  is_mantissa = w.is_mantissa;
  is_letter_e = w.is_letter_e;
  is_sign = g;
  is_exponent = row_one is_ascii_digit b t;
}

scaled_more : (s : List ℕ) (b : ℕ) → IsScaled s → is_ascii_digit b ≡ true → IsScaled (s ++ b ∷ [])
scaled_more s b w t = record {
  mantissa = w.mantissa;
  letter = w.letter;
  sign = w.sign;
  exponent = w.exponent ++ b ∷ [];
  spelled = on s w.mantissa (w.letter ∷ (w.sign ++ w.exponent)) b w.spelled ∙ ap (λ u. w.mantissa ++ w.letter ∷ u) (append_assoc w.sign w.exponent (b ∷ []));
  is_mantissa = w.is_mantissa;
  is_letter_e = w.is_letter_e;
  is_sign = w.is_sign;
  is_exponent = row_more is_ascii_digit w.exponent b w.is_exponent t;
}

joined_more : (parts : List (List ℕ)) (part : List ℕ) → joined (parts ++ part ∷ []) ≡ joined parts ++ part
joined_more parts part = flat_map-append (λ p. p) parts (part ∷ []) ∙ ap (λ u. joined parts ++ u) (append-nil part)

parts_more : (parts : List (List ℕ)) (part : List ℕ) → list_all is_text_part parts ≡ true → is_text_part part ≡ true → list_all is_text_part (parts ++ part ∷ []) ≡ true
parts_more parts part h t = list_all-append is_text_part parts (part ∷ []) ∙ and_from (list_all is_text_part parts) (list_all is_text_part (part ∷ [])) h (and_from (is_text_part part) true t refl)

-- the last part is whole
part_more : (last s : List ℕ) (b : ℕ) → InsideText last s → is_text_part (last ++ b ∷ []) ≡ true → InsideText [] (s ++ b ∷ [])
part_more last s b w t = record {
  parts = w.parts ++ (last ++ b ∷ []) ∷ [];
  spelled = on s (34 ∷ joined w.parts) last b w.spelled ∙ ap (λ u. 34 ∷ u) (sym (append-nil (joined (w.parts ++ (last ++ b ∷ []) ∷ [])) ∙ joined_more w.parts (last ++ b ∷ [])));
  are_parts = parts_more w.parts (last ++ b ∷ []) w.are_parts t;
}

escape_reached : (s : List ℕ) (b : ℕ) → InsideText [] s → (b == 92) ≡ true → InsideText (92 ∷ []) (s ++ b ∷ [])
escape_reached s b w t = record {
  parts = w.parts;
  spelled = on_byte s (34 ∷ joined w.parts) [] b 92 w.spelled t;
  are_parts = w.are_parts;
}

text_closed : (s : List ℕ) (b : ℕ) → InsideText [] s → (b == 34) ≡ true → IsText (s ++ b ∷ [])
text_closed s b w t = record {
  parts = w.parts;
  spelled = on_byte s (34 ∷ joined w.parts) [] b 34 w.spelled t;
  are_parts = w.are_parts;
}

plain_from : (b : ℕ) → (b == 34) ≡ false → (b == 92) ≡ false → (b == 10) ≡ false → is_plain b ≡ true
plain_from b e f g = rw (e, f, g)

from_text : (s : List ℕ) (b : ℕ) → InsideText [] s → Reached (text_step b) (s ++ b ∷ [])
from_text s b w =
    cond_both (b == 34) _ _ (λ q. Reached q (s ++ b ∷ [])) (text_closed s b w)
    (λ e. cond_both (b == 92) _ _ (λ q. Reached q (s ++ b ∷ [])) (escape_reached s b w)
    (λ f. cond_both (b == 10) _ _ (λ q. Reached q (s ++ b ∷ [])) (λ g. tt)
    (λ g. part_more [] s b w (plain_from b e f g))))

from_digits : (s : List ℕ) (b : ℕ) → IsDecimal s → Reached (digits_step b) (s ++ b ∷ [])
from_digits s b w =
    cond_both (is_ascii_digit b) _ _ (λ q. Reached q (s ++ b ∷ [])) (decimal_more s b w)
    (λ e. cond_both (b == 46) _ _ (λ q. Reached q (s ++ b ∷ []))
    (λ f. record { whole = s; spelled = ap (λ x. s ++ x ∷ []) (eqb-true b 46 f); is_whole = w })
    (λ f. cond_both (is_exponent_letter b) _ _ (λ q. Reached q (s ++ b ∷ [])) (letter_reached s b (inl w)) (λ g. tt)))

from_zero : (s : List ℕ) (b : ℕ) → AfterMinus (codes "0") s → Reached (zero_step b) (s ++ b ∷ [])
from_zero s b w =
    cond_both (b == 120) _ _ (λ q. Reached q (s ++ b ∷ []))
    (λ e. record { minus = w.minus; spelled = on_byte s w.minus (codes "0") b 120 w.spelled e; is_minus = w.is_minus })
    (λ e. cond_both (b == 111) _ _ (λ q. Reached q (s ++ b ∷ []))
    (λ f. record { minus = w.minus; spelled = on_byte s w.minus (codes "0") b 111 w.spelled f; is_minus = w.is_minus })
    (λ f. from_digits s b (zero_decimal s w)))

from_fraction : (s : List ℕ) (b : ℕ) → IsPointed s → Reached (fraction_step b) (s ++ b ∷ [])
from_fraction s b w =
    cond_both (is_ascii_digit b) _ _ (λ q. Reached q (s ++ b ∷ [])) (pointed_more s b w)
    (λ e. cond_both (is_exponent_letter b) _ _ (λ q. Reached q (s ++ b ∷ [])) (letter_reached s b (inr w)) (λ g. tt))

from_letter : (s : List ℕ) (b : ℕ) → InExponent [] s → Reached (exponent_step b) (s ++ b ∷ [])
from_letter s b w =
    cond_both (is_ascii_digit b) _ _ (λ q. Reached q (s ++ b ∷ [])) (scaled_first [] s b (inl refl) w)
    (λ e. cond_both (is_sign_byte b) _ _ (λ q. Reached q (s ++ b ∷ []))
    (λ f. elim (or_cases (b == 43) (b == 45) f) [ inl g ↦ inl (sign_reached s b 43 w g) | inr g ↦ inr (sign_reached s b 45 w g) ])
    (λ f. tt))

from_sign : (s : List ℕ) (b : ℕ) → InExponent (codes "+") s ⊎ InExponent (codes "-") s → is_ascii_digit b ≡ true → IsScaled (s ++ b ∷ [])
from_sign s b (inl w) t = scaled_first (codes "+") s b (inr (inl refl)) w t
from_sign s b (inr w) t = scaled_first (codes "-") s b (inr (inr refl)) w t

first_digit : (minus : List ℕ) (b : ℕ) → IsMinus minus → is_ascii_digit b ≡ true → IsDecimal (minus ++ b ∷ [])
first_digit minus b m t = record { minus = minus; digits = b ∷ []; spelled = refl; is_minus = m; are_digits = row_one is_ascii_digit b t }

first_zero : (minus : List ℕ) (b : ℕ) → IsMinus minus → (b == 48) ≡ true → AfterMinus (codes "0") (minus ++ b ∷ [])
first_zero minus b m t = record { minus = minus; spelled = ap (λ x. minus ++ x ∷ []) (eqb-true b 48 t); is_minus = m }

from_minus : (b : ℕ) → Reached (minus_step b) (codes "-" ++ b ∷ [])
from_minus b =
    cond_both (b == 48) _ _ (λ q. Reached q (codes "-" ++ b ∷ [])) (first_zero (codes "-") b (inr refl))
    (λ e. cond_both (is_ascii_digit b) _ _ (λ q. Reached q (codes "-" ++ b ∷ [])) (first_digit (codes "-") b (inr refl)) (λ f. tt))

is_byte : (b k : ℕ) → (b == k) ≡ true → b ∷ [] ≡ k ∷ []
is_byte b k t = ap (λ x. x ∷ []) (eqb-true b k t)

lone_mark : (b : ℕ) → is_lone_mark b ≡ true → IsMark (b ∷ [])
lone_mark b t =
    elim (or_cases _ (b == 61) t) [
      | inr h ↦ inr (inr (inr (inr (inr (inr (inr (inr (inr (inr (inl (is_byte b 61 h)))))))))))
      | inl t ↦ elim (or_cases _ (b == 59) t) [
        | inr h ↦ inr (inr (inr (inr (inr (inr (inr (inl (is_byte b 59 h))))))))
        | inl t ↦ elim (or_cases _ (b == 44) t) [
          | inr h ↦ inr (inr (inr (inr (inr (inr (inl (is_byte b 44 h)))))))
          | inl t ↦ elim (or_cases _ (b == 125) t) [
            | inr h ↦ inr (inr (inr (inr (inr (inl (is_byte b 125 h))))))
            | inl t ↦ elim (or_cases _ (b == 123) t) [
              | inr h ↦ inr (inr (inr (inr (inl (is_byte b 123 h)))))
              | inl t ↦ elim (or_cases _ (b == 93) t) [
                | inr h ↦ inr (inr (inr (inl (is_byte b 93 h))))
                | inl t ↦ elim (or_cases _ (b == 91) t) [
                  | inr h ↦ inr (inr (inl (is_byte b 91 h)))
                  | inl t ↦ elim (or_cases (b == 40) (b == 41) t) [
                    | inr h ↦ inr (inl (is_byte b 41 h))
                    | inl h ↦ inl (is_byte b 40 h)
                  ]
                ]
              ]
            ]
          ]
        ]
      ]
    ]

two_colons : (s : List ℕ) (b : ℕ) → s ≡ codes ":" → (b == 58) ≡ true → IsMark (s ++ b ∷ [])
two_colons s b e t = inr (inr (inr (inr (inr (inr (inr (inr (inr (inl (known_byte s (codes ":") b 58 e t))))))))))

two_dots : (s : List ℕ) (b : ℕ) → s ≡ codes "." → (b == 46) ≡ true → IsMark (s ++ b ∷ [])
two_dots s b e t = inr (inr (inr (inr (inr (inr (inr (inr (inr (inr (inr (inl (known_byte s (codes ".") b 46 e t))))))))))))

from_other : (b : ℕ) → Reached (other_step b) (b ∷ [])
from_other b =
    cond_both (is_lone_mark b) _ _ (λ q. Reached q (b ∷ [])) (lone_mark b)
    (λ e. cond_both (b == 58) _ _ (λ q. Reached q (b ∷ [])) (is_byte b 58)
    (λ f. cond_both (b == 46) _ _ (λ q. Reached q (b ∷ [])) (is_byte b 46)
    (λ g. cond_both (b == 37) _ _ (λ q. Reached q (b ∷ []))
    (λ h. record { rest = []; spelled = is_byte b 37 h; are_rest = refl })
    (λ h. cond_both (is_blank_byte b) _ _ (λ q. Reached q (b ∷ []))
    (λ k. record { byte = b; spelled = refl; is_byte = k }) (λ k. tt)))))

open_text : (b : ℕ) → (b == 34) ≡ true → InsideText [] (b ∷ [])
open_text b t = record { parts = []; spelled = is_byte b 34 t; are_parts = refl }

from_start : (b : ℕ) → Reached (start_step b) (b ∷ [])
from_start b =
    cond_both (is_letter b) _ _ (λ q. Reached q (b ∷ []))
    (λ e. record { first = b; rest = []; spelled = refl; is_first = e; are_rest = refl })
    (λ e. cond_both (b == 45) _ _ (λ q. Reached q (b ∷ [])) (is_byte b 45)
    (λ f. cond_both (b == 34) _ _ (λ q. Reached q (b ∷ [])) (open_text b)
    (λ g. cond_both (b == 48) _ _ (λ q. Reached q (b ∷ [])) (first_zero [] b (inl refl))
    (λ h. cond_both (is_ascii_digit b) _ _ (λ q. Reached q (b ∷ [])) (first_digit [] b (inl refl)) (λ k. from_other b)))))

-- one more byte
pub reached_more : (q : State) (s : List ℕ) (b : ℕ) → Reached q s → Reached (step q b) (s ++ b ∷ [])
reached_more Start s b w = subst (λ u. Reached (start_step b) (u ++ b ∷ [])) (sym w) (from_start b)
reached_more Dead s b w = tt
reached_more InWord s b w = alive (is_word_byte b) InWord (s ++ b ∷ []) (word_more s b w)
reached_more Minus s b w = subst (λ u. Reached (minus_step b) (u ++ b ∷ [])) (sym w) (from_minus b)
reached_more Zero s b w = from_zero s b w
reached_more Digits s b w = from_digits s b w
reached_more HexBase s b w = alive (is_ascii_hexdigit b) Hex (s ++ b ∷ []) (based_first (codes "0x") is_ascii_hexdigit s b w)
reached_more Hex s b w = alive (is_ascii_hexdigit b) Hex (s ++ b ∷ []) (based_more (codes "0x") is_ascii_hexdigit s b w)
reached_more OctalBase s b w = alive (is_octal_digit b) Octal (s ++ b ∷ []) (based_first (codes "0o") is_octal_digit s b w)
reached_more Octal s b w = alive (is_octal_digit b) Octal (s ++ b ∷ []) (based_more (codes "0o") is_octal_digit s b w)
reached_more Point s b w = alive (is_ascii_digit b) Fraction (s ++ b ∷ []) (pointed_first s b w)
reached_more Fraction s b w = from_fraction s b w
reached_more ExponentLetter s b w = from_letter s b w
reached_more ExponentSign s b w = alive (is_ascii_digit b) Exponent (s ++ b ∷ []) (from_sign s b w)
reached_more Exponent s b w = alive (is_ascii_digit b) Exponent (s ++ b ∷ []) (scaled_more s b w)
reached_more InText s b w = from_text s b w
reached_more Escape s b w = alive (is_in_line b) InText (s ++ b ∷ []) (part_more (92 ∷ []) s b w)
reached_more TextEnd s b w = tt
reached_more MarkEnd s b w = tt
reached_more Colon s b w = alive (b == 58) MarkEnd (s ++ b ∷ []) (two_colons s b w)
reached_more Dot s b w = alive (b == 46) MarkEnd (s ++ b ∷ []) (two_dots s b w)
reached_more InComment s b w = alive (is_in_line b) InComment (s ++ b ∷ []) (comment_more s b w)
reached_more BlankEnd s b w = tt

-- a state accepts only what its bytes spell
pub reached_spells : (q : State) (s : List ℕ) → Reached q s → MatchOption (accepted q) (Unit {0}) (λ kind. Spells kind s)
reached_spells Start s w = tt
reached_spells Dead s w = tt
reached_spells InWord s w = w
reached_spells Minus s w = tt
reached_spells Zero s w = inl (zero_decimal s w)
reached_spells Digits s w = inl w
reached_spells HexBase s w = tt
reached_spells Hex s w = inr (inl w)
reached_spells OctalBase s w = tt
reached_spells Octal s w = inr (inr w)
reached_spells Point s w = tt
reached_spells Fraction s w = inl w
reached_spells ExponentLetter s w = tt
reached_spells ExponentSign s w = tt
reached_spells Exponent s w = inr w
reached_spells InText s w = tt
reached_spells Escape s w = tt
reached_spells TextEnd s w = w
reached_spells MarkEnd s w = w
reached_spells Colon s w = inr (inr (inr (inr (inr (inr (inr (inr (inl w))))))))
reached_spells Dot s w = tt
reached_spells InComment s w = w
reached_spells BlankEnd s w = w
