-- The machine accepts a list of bytes as a kind of piece exactly where the bytes spell that kind.
use Rattle.std.proofs.Common.{◌≡◌, ◌<◌, ℕ, Bool, true, false, List, [], ◌∷◌, ◌++◌, ◌⊎◌, inl, inr, refl, sym, ◌∙◌, ap, subst, append_assoc, arith}
use Rattle.std.specs.Prelude.{codes, ◌==◌, ◌&&◌, not, MatchOption, Some, cond}
use Rattle.std.specs.List.{list_all}
use Rattle.std.proofs.lemmas.Bool.{cond-true, cond-false, eqb-true, or_cases, and_parts, cases_Bool, not-true}
use Rattle.std.proofs.lemmas.Bool.Decides.{nat_tests}
use Rattle.std.proofs.lemmas.List.{append-nil}
use Rattle.std.specs.Char.{is_ascii_digit, is_ascii_hexdigit}
use Rattle.fzn_lexer.specs.Bytes.{is_octal_digit, is_letter, is_word_byte, is_exponent_letter, is_blank_byte, is_in_line, is_plain}
use Rattle.fzn_lexer.specs.Spelling.{IsRow, IsWord, IsMinus, IsDecimal, IsPointed, IsExponentSign, IsScaled, is_text_part, joined, IsText, IsMark, IsBlank, IsComment, Spells}
use Rattle.fzn_lexer.specs.Machine.{alive_if, start_step, step, accepted}
use Rattle.fzn_lexer.specs.declared.Kind.TheVariants as kind
use Rattle.fzn_lexer.specs.declared.PieceKind.{PieceKind}
use Rattle.fzn_lexer.specs.declared.PieceKind.TheVariants as piece_kind
use Rattle.fzn_lexer.specs.declared.machine.State.{State}
use Rattle.fzn_lexer.specs.declared.machine.State.TheVariants.{Start, Dead, InWord, Minus, Zero, Digits, HexBase, Hex, OctalBase, Octal, Point, Fraction, ExponentLetter, ExponentSign, Exponent, InText, TextEnd, InComment, BlankEnd}
use Rattle.fzn_lexer.proofs.Reached.{Reached, reached_more, reached_spells}

-- the state after these bytes
abbrev pub run : State → List ℕ → State
run q [] = q
run q (b ∷ bs) = run (step q b) bs

reached_run : (q : State) (before s : List ℕ) → Reached q before → Reached (run q s) (before ++ s)
reached_run q before [] w = subst (λ u. Reached q u) (sym (append-nil before)) w
reached_run q before (b ∷ bs) w =
    subst (λ u. Reached (run (step q b) bs) u) (append_assoc before (b ∷ []) bs)
    (reached_run (step q b) (before ++ b ∷ []) bs (reached_more q before b w))

-- what the machine accepts is spelled so
pub accepts_spells : (kind : PieceKind) (s : List ℕ) → accepted (run Start s) ≡ Some kind → Spells kind s
accepts_spells kind s e =
    subst (λ o. MatchOption o (Unit {0}) (λ k. Spells k s)) e (reached_spells (run Start s) s (reached_run Start [] s refl))

run-append : (q : State) (s t : List ℕ) → run q (s ++ t) ≡ run (run q s) t
run-append q [] t = refl
run-append q (b ∷ bs) t = run-append (step q b) bs t

stays : (q : State) (test : ℕ → Bool) → ((b : ℕ) → test b ≡ true → step q b ≡ q) → (s : List ℕ) → list_all test s ≡ true → run q s ≡ q
stays q test h [] e = refl
stays q test h (b ∷ bs) e =
    let parts = and_parts (test b) (list_all test bs) e in
    ap (λ r. run r bs) (h b parts.0) ∙ stays q test h bs parts.1

enters : (q r : State) (test : ℕ → Bool) → ((b : ℕ) → test b ≡ true → step q b ≡ r) → ((b : ℕ) → test b ≡ true → step r b ≡ r)
    → (s : List ℕ) → IsRow test s → run q s ≡ r
enters q r test h k [] row = absurd (omega (arith, row.some))
enters q r test h k (b ∷ bs) row =
    let parts = and_parts (test b) (list_all test bs) row.each in
    ap (λ p. run p bs) (h b parts.0) ∙ stays r test k bs parts.1

alive_at : (t : Bool) (q : State) → t ≡ true → alive_if t q ≡ q
alive_at t q e = cond-true t q Dead e

digit_no_letter : (b : ℕ) → is_ascii_digit b ≡ true → is_letter b ≡ false
digit_no_letter b t = grind (arith, nat_tests)

digit_not : (b k : ℕ) → is_ascii_digit b ≡ true → (k < 48) ⊎ (57 < k) → (b == k) ≡ false
digit_not b k t h = grind (arith, nat_tests)

-- a decimal number so far
IsNumber : State → Type 0
IsNumber q = (q ≡ Zero) ⊎ (q ≡ Digits)

digits_digit : (b : ℕ) → is_ascii_digit b ≡ true → step Digits b ≡ Digits
digits_digit b t = cond-true (is_ascii_digit b) _ _ t

zero_digit : (b : ℕ) → is_ascii_digit b ≡ true → step Zero b ≡ Digits
zero_digit b t =
    cond-false (b == 120) _ _ (digit_not b 120 t (inr (omega arith)))
    ∙ (cond-false (b == 111) _ _ (digit_not b 111 t (inr (omega arith))) ∙ digits_digit b t)

start_digit : (b : ℕ) → is_ascii_digit b ≡ true → IsNumber (step Start b)
unfolding IsNumber
start_digit b t =
    let letter = digit_no_letter b t in
    let minus = digit_not b 45 t (inl (omega arith)) in
    let quote = digit_not b 34 t (inl (omega arith)) in
    let past : start_step b ≡ cond (b == 48) Zero Digits =
    cond-false (is_letter b) _ _ letter ∙ (cond-false (b == 45) _ _ minus ∙ (cond-false (b == 34) _ _ quote
    ∙ ap (λ r. cond (b == 48) Zero r) (cond-true (is_ascii_digit b) _ _ t))) in
    elim (cases_Bool (b == 48)) [
      | inl e ↦ inl (past ∙ cond-true (b == 48) _ _ e)
      | inr e ↦ inr (past ∙ cond-false (b == 48) _ _ e)
    ]

minus_digit : (b : ℕ) → is_ascii_digit b ≡ true → IsNumber (step Minus b)
unfolding IsNumber
minus_digit b t =
    elim (cases_Bool (b == 48)) [
      | inl e ↦ inl (cond-true (b == 48) _ _ e)
      | inr e ↦ inr (cond-false (b == 48) _ _ e ∙ cond-true (is_ascii_digit b) _ _ t)
    ]

number_run : (q : State) → IsNumber q → (s : List ℕ) → list_all is_ascii_digit s ≡ true → IsNumber (run q s)
unfolding IsNumber
number_run q w [] e = w
number_run q (inl z) (b ∷ bs) e =
    let parts = and_parts (is_ascii_digit b) (list_all is_ascii_digit bs) e in
    inr (ap (λ r. run (step r b) bs) z ∙ (ap (λ r. run r bs) (zero_digit b parts.0) ∙ stays Digits is_ascii_digit digits_digit bs parts.1))
number_run q (inr z) (b ∷ bs) e = inr (ap (λ r. run r (b ∷ bs)) z ∙ stays Digits is_ascii_digit digits_digit (b ∷ bs) e)

digits_run : (q : State) → ((b : ℕ) → is_ascii_digit b ≡ true → IsNumber (step q b)) → (s : List ℕ) → IsRow is_ascii_digit s → IsNumber (run q s)
digits_run q h [] row = absurd (omega (arith, row.some))
digits_run q h (b ∷ bs) row =
    let parts = and_parts (is_ascii_digit b) (list_all is_ascii_digit bs) row.each in
    number_run (step q b) (h b parts.0) bs parts.1

minus_run : (minus s : List ℕ) → IsMinus minus → IsRow is_ascii_digit s → IsNumber (run Start (minus ++ s))
minus_run minus s (inl e) row = subst (λ u. IsNumber (run Start (u ++ s))) (sym e) (digits_run Start start_digit s row)
minus_run minus s (inr e) row = subst (λ u. IsNumber (run Start (u ++ s))) (sym e) (digits_run Minus minus_digit s row)

decimal_run : (s : List ℕ) → IsDecimal s → IsNumber (run Start s)
decimal_run s w = subst (λ u. IsNumber (run Start u)) (sym w.spelled) (minus_run w.minus w.digits w.is_minus w.are_digits)

decimal_accepts : (q : State) → IsNumber q → accepted q ≡ Some (piece_kind.Token kind.Int)
unfolding IsNumber
decimal_accepts q (inl e) = ap accepted e
decimal_accepts q (inr e) = ap accepted e

hex_run : (minus s : List ℕ) → IsMinus minus → IsRow is_ascii_hexdigit s → run Start (minus ++ (codes "0x" ++ s)) ≡ Hex
hex_run minus s (inl e) row = ap (λ u. run Start (u ++ (codes "0x" ++ s))) e ∙ enters HexBase Hex is_ascii_hexdigit (λ b. alive_at (is_ascii_hexdigit b) Hex) (λ b. alive_at (is_ascii_hexdigit b) Hex) s row
hex_run minus s (inr e) row = ap (λ u. run Start (u ++ (codes "0x" ++ s))) e ∙ enters HexBase Hex is_ascii_hexdigit (λ b. alive_at (is_ascii_hexdigit b) Hex) (λ b. alive_at (is_ascii_hexdigit b) Hex) s row

octal_run : (minus s : List ℕ) → IsMinus minus → IsRow is_octal_digit s → run Start (minus ++ (codes "0o" ++ s)) ≡ Octal
octal_run minus s (inl e) row = ap (λ u. run Start (u ++ (codes "0o" ++ s))) e ∙ enters OctalBase Octal is_octal_digit (λ b. alive_at (is_octal_digit b) Octal) (λ b. alive_at (is_octal_digit b) Octal) s row
octal_run minus s (inr e) row = ap (λ u. run Start (u ++ (codes "0o" ++ s))) e ∙ enters OctalBase Octal is_octal_digit (λ b. alive_at (is_octal_digit b) Octal) (λ b. alive_at (is_octal_digit b) Octal) s row

point_step : (q : State) → IsNumber q → step q 46 ≡ Point
unfolding IsNumber
point_step q (inl e) = ap (λ r. step r 46) e
point_step q (inr e) = ap (λ r. step r 46) e

pointed_run : (s : List ℕ) → IsPointed s → run Start s ≡ Fraction
pointed_run s w =
    ap (λ u. run Start u) w.spelled ∙ (run-append Start w.whole (46 ∷ w.fraction)
    ∙ (ap (λ r. run r w.fraction) (point_step (run Start w.whole) (decimal_run w.whole w.is_whole))
    ∙ enters Point Fraction is_ascii_digit (λ b. alive_at (is_ascii_digit b) Fraction) (λ b t. cond-true (is_ascii_digit b) _ _ t) w.fraction w.is_fraction))

letter_step_at : (q : State) (k : ℕ) → IsNumber q ⊎ (q ≡ Fraction) → (step Zero k ≡ ExponentLetter) → (step Digits k ≡ ExponentLetter) → (step Fraction k ≡ ExponentLetter) → step q k ≡ ExponentLetter
unfolding IsNumber
letter_step_at q k (inl (inl e)) z d f = ap (λ r. step r k) e ∙ z
letter_step_at q k (inl (inr e)) z d f = ap (λ r. step r k) e ∙ d
letter_step_at q k (inr e) z d f = ap (λ r. step r k) e ∙ f

letter_step : (q : State) (b : ℕ) → IsNumber q ⊎ (q ≡ Fraction) → is_exponent_letter b ≡ true → step q b ≡ ExponentLetter
letter_step q b w t =
    elim (or_cases (b == 101) (b == 69) t) [
      | inl e ↦ ap (λ x. step q x) (eqb-true b 101 e) ∙ letter_step_at q 101 w refl refl refl
      | inr e ↦ ap (λ x. step q x) (eqb-true b 69 e) ∙ letter_step_at q 69 w refl refl refl
    ]

mantissa_run : (s : List ℕ) → IsDecimal s ⊎ IsPointed s → IsNumber (run Start s) ⊎ (run Start s ≡ Fraction)
mantissa_run s (inl w) = inl (decimal_run s w)
mantissa_run s (inr w) = inr (pointed_run s w)

exponent_digit : (b : ℕ) → is_ascii_digit b ≡ true → step Exponent b ≡ Exponent
exponent_digit b t = alive_at (is_ascii_digit b) Exponent t

sign_run : (sign s : List ℕ) → IsExponentSign sign → IsRow is_ascii_digit s → run ExponentLetter (sign ++ s) ≡ Exponent
sign_run sign s (inl e) row = ap (λ u. run ExponentLetter (u ++ s)) e ∙ enters ExponentLetter Exponent is_ascii_digit (λ b t. cond-true (is_ascii_digit b) _ _ t) exponent_digit s row
sign_run sign s (inr (inl e)) row = ap (λ u. run ExponentLetter (u ++ s)) e ∙ enters ExponentSign Exponent is_ascii_digit exponent_digit exponent_digit s row
sign_run sign s (inr (inr e)) row = ap (λ u. run ExponentLetter (u ++ s)) e ∙ enters ExponentSign Exponent is_ascii_digit exponent_digit exponent_digit s row

scaled_run : (s : List ℕ) → IsScaled s → run Start s ≡ Exponent
scaled_run s w =
    ap (λ u. run Start u) w.spelled ∙ (run-append Start w.mantissa (w.letter ∷ (w.sign ++ w.exponent))
    ∙ (ap (λ r. run r (w.sign ++ w.exponent)) (letter_step (run Start w.mantissa) w.letter (mantissa_run w.mantissa w.is_mantissa) w.is_letter_e)
    ∙ sign_run w.sign w.exponent w.is_sign w.is_exponent))

plain_step : (b : ℕ) → is_plain b ≡ true → step InText b ≡ InText
plain_step b t =
    let parts = and_parts (not (b == 34) && not (b == 92)) (not (b == 10)) t in
    let two = and_parts (not (b == 34)) (not (b == 92)) parts.0 in
    cond-false (b == 34) _ _ (not-true (b == 34) two.0) ∙ (cond-false (b == 92) _ _ (not-true (b == 92) two.1) ∙ cond-false (b == 10) _ _ (not-true (b == 10) parts.1))

part_run : (part : List ℕ) → is_text_part part ≡ true → run InText part ≡ InText
part_run [] t = cc
part_run (b ∷ []) t = plain_step b t
part_run (a ∷ b ∷ []) t =
    let parts = and_parts (a == 92) (is_in_line b) t in
    ap (λ x. step (step InText x) b) (eqb-true a 92 parts.0) ∙ alive_at (is_in_line b) InText parts.1
part_run (a ∷ b ∷ c ∷ rest) t = cc

parts_run : (parts : List (List ℕ)) → list_all is_text_part parts ≡ true → run InText (joined parts) ≡ InText
parts_run [] t = refl
parts_run (p ∷ ps) t =
    let two = and_parts (is_text_part p) (list_all is_text_part ps) t in
    run-append InText p (joined ps) ∙ (ap (λ r. run r (joined ps)) (part_run p two.0) ∙ parts_run ps two.1)

text_run : (s : List ℕ) → IsText s → run Start s ≡ TextEnd
text_run s w =
    ap (λ u. run Start u) w.spelled ∙ (run-append InText (joined w.parts) (34 ∷ [])
    ∙ ap (λ r. run r (34 ∷ [])) (parts_run w.parts w.are_parts))

word_run : (s : List ℕ) → IsWord s → run Start s ≡ InWord
word_run s w =
    ap (λ u. run Start u) w.spelled ∙ (ap (λ r. run r w.rest) (cond-true (is_letter w.first) _ _ w.is_first)
    ∙ stays InWord is_word_byte (λ b. alive_at (is_word_byte b) InWord) w.rest w.are_rest)

comment_run : (s : List ℕ) → IsComment s → run Start s ≡ InComment
comment_run s w = ap (λ u. run Start u) w.spelled ∙ stays InComment is_in_line (λ b. alive_at (is_in_line b) InComment) w.rest w.are_rest

blank_step : (b : ℕ) → is_blank_byte b ≡ true → start_step b ≡ BlankEnd
blank_step b t =
    elim (or_cases _ (b == 10) t) [
      | inr e ↦ ap (λ x. start_step x) (eqb-true b 10 e)
      | inl t ↦ elim (or_cases _ (b == 13) t) [
        | inr e ↦ ap (λ x. start_step x) (eqb-true b 13 e)
        | inl t ↦ elim (or_cases (b == 32) (b == 9) t) [
          | inr e ↦ ap (λ x. start_step x) (eqb-true b 9 e)
          | inl e ↦ ap (λ x. start_step x) (eqb-true b 32 e)
        ]
      ]
    ]

blank_run : (s : List ℕ) → IsBlank s → run Start s ≡ BlankEnd
blank_run s w = ap (λ u. run Start u) w.spelled ∙ blank_step w.byte w.is_byte

mark_accepts : (s : List ℕ) → IsMark s → accepted (run Start s) ≡ Some (piece_kind.Token kind.Mark)
mark_accepts s (inl e) = ap (λ u. accepted (run Start u)) e
mark_accepts s (inr (inl e)) = ap (λ u. accepted (run Start u)) e
mark_accepts s (inr (inr (inl e))) = ap (λ u. accepted (run Start u)) e
mark_accepts s (inr (inr (inr (inl e)))) = ap (λ u. accepted (run Start u)) e
mark_accepts s (inr (inr (inr (inr (inl e))))) = ap (λ u. accepted (run Start u)) e
mark_accepts s (inr (inr (inr (inr (inr (inl e)))))) = ap (λ u. accepted (run Start u)) e
mark_accepts s (inr (inr (inr (inr (inr (inr (inl e))))))) = ap (λ u. accepted (run Start u)) e
mark_accepts s (inr (inr (inr (inr (inr (inr (inr (inl e)))))))) = ap (λ u. accepted (run Start u)) e
mark_accepts s (inr (inr (inr (inr (inr (inr (inr (inr (inl e))))))))) = ap (λ u. accepted (run Start u)) e
mark_accepts s (inr (inr (inr (inr (inr (inr (inr (inr (inr (inl e)))))))))) = ap (λ u. accepted (run Start u)) e
mark_accepts s (inr (inr (inr (inr (inr (inr (inr (inr (inr (inr (inl e))))))))))) = ap (λ u. accepted (run Start u)) e
mark_accepts s (inr (inr (inr (inr (inr (inr (inr (inr (inr (inr (inr (inl e)))))))))))) = ap (λ u. accepted (run Start u)) e
mark_accepts s (inr (inr (inr (inr (inr (inr (inr (inr (inr (inr (inr (inr h)))))))))))) = absurd h

int_accepts : (s : List ℕ) → Spells (piece_kind.Token kind.Int) s → accepted (run Start s) ≡ Some (piece_kind.Token kind.Int)
int_accepts s (inl w) = decimal_accepts (run Start s) (decimal_run s w)
int_accepts s (inr (inl w)) = ap (λ u. accepted (run Start u)) w.spelled ∙ ap accepted (hex_run w.minus w.digits w.is_minus w.are_digits)
int_accepts s (inr (inr w)) = ap (λ u. accepted (run Start u)) w.spelled ∙ ap accepted (octal_run w.minus w.digits w.is_minus w.are_digits)

float_accepts : (s : List ℕ) → Spells (piece_kind.Token kind.Float) s → accepted (run Start s) ≡ Some (piece_kind.Token kind.Float)
float_accepts s (inl w) = ap accepted (pointed_run s w)
float_accepts s (inr w) = ap accepted (scaled_run s w)

-- what is spelled the machine accepts so
pub spells_accepts : (kind : PieceKind) (s : List ℕ) → Spells kind s → accepted (run Start s) ≡ Some kind
spells_accepts (piece_kind.Token kind.Word) s w = ap accepted (word_run s w)
spells_accepts (piece_kind.Token kind.Int) s w = int_accepts s w
spells_accepts (piece_kind.Token kind.Float) s w = float_accepts s w
spells_accepts (piece_kind.Token kind.Text) s w = ap accepted (text_run s w)
spells_accepts (piece_kind.Token kind.Mark) s w = mark_accepts s w
spells_accepts piece_kind.Blank s w = ap accepted (blank_run s w)
spells_accepts piece_kind.Comment s w = ap accepted (comment_run s w)
