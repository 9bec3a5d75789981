-- Rows of bytes that leave the machine in one state.
use Rattle.std.proofs.Common.{◌≡◌, ◌<◌, ◌≤◌, ◌+◌, ◌∙◌, ℕ, Bool, List, drop, length, refl, sym, ap, subst, get_or}
use Rattle.std.specs.Prelude.{true, false, Option, Some, None, IfSome, not}
use Rattle.std.specs.Char.{is_ascii_digit}
use Rattle.std.specs.Prelude.{◌==◌, ◌&&◌, ◌≢◌, [], ◌∷◌, zero, suc}
use Rattle.std.proofs.Common.{inl, inr, arith, zero-add}
use Rattle.std.proofs.lemmas.Bool.{cond-true, cond-false, cases_Bool, cases_lt, eqb-true, and_parts}
use Rattle.fzn_lexer.specs.Bytes.{is_word_byte, is_in_line}
use Rattle.fzn_lexer.specs.Machine.{step, start_step, accepted, alive_if, later, found_as, found_on, longest_found, word, int, comment}
use Rattle.fzn_lexer.specs.declared.PieceKind.{PieceKind}
use Rattle.fzn_lexer.specs.declared.machine.Found.{Found}
use Rattle.fzn_lexer.specs.declared.machine.State.{State}
use Rattle.fzn_lexer.specs.declared.machine.State.TheVariants.{Start, Dead, InWord, Zero, Digits, Point, Fraction, Colon, Dot, MarkEnd, InComment}
use Rattle.fzn_lexer.specs.declared.machine.TheConstants.{WORD_BYTES}
use Rattle.fzn_lexer.proofs.Longest.{found_more, found_dead, found_last, found_all, dead_found}

alive_at : (t : Bool) (q : State) → t ≡ true → alive_if t q ≡ q
alive_at t q e = cond-true t q Dead e

dead_at : (t : Bool) (q : State) → t ≡ false → alive_if t q ≡ Dead
dead_at t q e = cond-false t q Dead e

none_later : (o : Option Found) → later None o ≡ o
none_later None = refl
none_later (Some f) = refl

-- a number that isn't another
not_eqb : (b n : ℕ) → b ≢ n → (b == n) ≡ false
not_eqb b n h = elim (cases_Bool (b == n)) [
  | inl e ↦ absurd (h (eqb-true b n e))
  | inr e ↦ e
]

-- one more byte that stays in the state
row_more : (k : PieceKind) (q : State) (at : ℕ) (text : List ℕ) → at < length text → accepted q ≡ Some k → step q (get_or text at 0) ≡ q
    → found_on (Some k) q (at + 1) text ≡ found_on (Some k) q at text
row_more k q at text h a s =
    let first : Option Found = found_as (Some k) at in
    let whole : Option Found = found_on (Some k) q at text in
    let more = found_more first whole q at text h refl in
    let put = subst (λ (r : State). later (later first (found_as (accepted r) (at + 1))) (longest_found r (at + 1) (drop (at + 1) text)) ≡ whole) s more in
    subst (λ (o : Option PieceKind). later (later first (found_as o (at + 1))) (longest_found q (at + 1) (drop (at + 1) text)) ≡ whole) a put

row_dead : (k : PieceKind) (q : State) (at : ℕ) (text : List ℕ) → at < length text → step q (get_or text at 0) ≡ Dead
    → found_on (Some k) q at text ≡ found_as (Some k) at
row_dead k q at text h d = sym (found_dead (found_as (Some k) at) (found_on (Some k) q at text) q at text h refl d)

row_end : (k : PieceKind) (q : State) (at : ℕ) (text : List ℕ) → length text ≤ at → found_on (Some k) q at text ≡ found_as (Some k) at
row_end k q at text h = sym (found_all (found_as (Some k) at) (found_on (Some k) q at text) q at text h refl)

pub word_more : (at : ℕ) (text : List ℕ) → at < length text → is_word_byte (get_or text at 0) ≡ true → found_on word InWord (at + 1) text ≡ found_on word InWord at text
word_more at text h e = row_more _ InWord at text h refl (alive_at (is_word_byte (get_or text at 0)) InWord e)

pub word_dead : (at : ℕ) (text : List ℕ) → at < length text → is_word_byte (get_or text at 0) ≡ false → found_on word InWord at text ≡ found_as word at
word_dead at text h e = row_dead _ InWord at text h (dead_at (is_word_byte (get_or text at 0)) InWord e)

pub word_all : (at : ℕ) (text : List ℕ) → length text ≤ at → found_on word InWord at text ≡ found_as word at
word_all at text h = row_end _ InWord at text h

pub digits_more : (at : ℕ) (text : List ℕ) → at < length text → is_ascii_digit (get_or text at 0) ≡ true → found_on int Digits (at + 1) text ≡ found_on int Digits at text
digits_more at text h e = row_more _ Digits at text h refl (cond-true (is_ascii_digit (get_or text at 0)) Digits _ e)

pub digits_dead : (at : ℕ) (text : List ℕ) → at < length text → step Digits (get_or text at 0) ≡ Dead → found_on int Digits at text ≡ found_as int at
digits_dead at text h e = row_dead _ Digits at text h e

-- a point behind the digits, with no digit behind it
pub point_dead : (at : ℕ) (text : List ℕ) → at < length text → get_or text at 0 ≡ 46 → (at + 1 < length text → is_ascii_digit (get_or text (at + 1) 0) ≡ false)
    → found_on int Digits at text ≡ found_as int at
point_dead at text h e digit =
    let first : Option Found = found_as int at in
    let whole : Option Found = found_on int Digits at text in
    let more = found_more first whole Digits at text h refl in
    let put : later first (longest_found Point (at + 1) (drop (at + 1) text)) ≡ whole
    = subst (λ (b : ℕ). later (later first (found_as (accepted (step Digits b)) (at + 1))) (longest_found (step Digits b) (at + 1) (drop (at + 1) text)) ≡ whole) e more in
    elim (cases_lt (at + 1) (length text)) [
      | inl inside ↦ sym (found_dead first whole Point (at + 1) text inside put (dead_at (is_ascii_digit (get_or text (at + 1) 0)) Fraction (digit inside)))
      | inr past ↦ sym (found_all first whole Point (at + 1) text past put)
    ]

pub digits_all : (at : ℕ) (text : List ℕ) → length text ≤ at → found_on int Digits at text ≡ found_as int at
digits_all at text h = row_end _ Digits at text h

-- a 0 goes on as other digits do, but for the letters of a base
pub zero_as_digits : (at : ℕ) (text : List ℕ) → at < length text → step Digits (get_or text at 0) ≡ step Zero (get_or text at 0) → found_on int Digits at text ≡ found_on int Zero at text
zero_as_digits at text h same =
    let first : Option Found = found_as int at in
    sym (found_more first (found_on int Digits at text) Digits at text h refl)
    ∙ ap (λ (r : State). later (later first (found_as (accepted r) (at + 1))) (longest_found r (at + 1) (drop (at + 1) text))) same
    ∙ found_more first (found_on int Zero at text) Zero at text h refl

pub zero_all : (at : ℕ) (text : List ℕ) → length text ≤ at → found_as int at ≡ found_on int Zero at text
zero_all at text h = sym (row_end _ Zero at text h)

-- a second colon makes a mark of two
pub colon_two : (at : ℕ) (text : List ℕ) → at < length text → get_or text at 0 ≡ 58 → found_as (accepted Colon) (at + 1) ≡ found_on (accepted Colon) Colon at text
colon_two at text h e =
    let first : Option Found = found_as (accepted Colon) at in
    let whole : Option Found = found_on (accepted Colon) Colon at text in
    let more = found_more first whole Colon at text h refl in
    let put : later (found_as (accepted Colon) (at + 1)) (longest_found MarkEnd (at + 1) (drop (at + 1) text)) ≡ whole
    = subst (λ (b : ℕ). later (later first (found_as (accepted (step Colon b)) (at + 1))) (longest_found (step Colon b) (at + 1) (drop (at + 1) text)) ≡ whole) e more in
    found_last (found_as (accepted Colon) (at + 1)) whole MarkEnd (at + 1) (drop (at + 1) text) put refl

pub colon_one : (at : ℕ) (text : List ℕ) → at < length text → get_or text at 0 ≢ 58 → found_as (accepted Colon) at ≡ found_on (accepted Colon) Colon at text
colon_one at text h apart = sym (row_dead _ Colon at text h (dead_at (get_or text at 0 == 58) MarkEnd (not_eqb _ 58 apart)))

pub colon_all : (at : ℕ) (text : List ℕ) → length text ≤ at → found_as (accepted Colon) at ≡ found_on (accepted Colon) Colon at text
colon_all at text h = sym (row_end _ Colon at text h)

-- two points are a mark, and one is none
pub point_two : (at : ℕ) (text : List ℕ) → at < length text → get_or text at 0 ≡ 46 → found_as (accepted Colon) (at + 1) ≡ found_on (accepted Dot) Dot at text
point_two at text h e =
    let whole : Option Found = found_on (accepted Dot) Dot at text in
    let more = found_more None whole Dot at text h refl in
    let put : later (found_as (accepted Colon) (at + 1)) (longest_found MarkEnd (at + 1) (drop (at + 1) text)) ≡ whole
    = subst (λ (b : ℕ). later (later None (found_as (accepted (step Dot b)) (at + 1))) (longest_found (step Dot b) (at + 1) (drop (at + 1) text)) ≡ whole) e more in
    found_last (found_as (accepted Colon) (at + 1)) whole MarkEnd (at + 1) (drop (at + 1) text) put refl

pub point_one : (at : ℕ) (text : List ℕ) → at < length text → get_or text at 0 ≢ 46 → None ≡ found_on (accepted Dot) Dot at text
point_one at text h apart = found_dead None (found_on (accepted Dot) Dot at text) Dot at text h refl (dead_at (get_or text at 0 == 46) MarkEnd (not_eqb _ 46 apart))

pub point_all : (at : ℕ) (text : List ℕ) → length text ≤ at → None ≡ found_on (accepted Dot) Dot at text
point_all at text h = found_all None (found_on (accepted Dot) Dot at text) Dot at text h refl

pub comment_more : (at : ℕ) (text : List ℕ) → at < length text → is_in_line (get_or text at 0) ≡ true → found_on comment InComment (at + 1) text ≡ found_on comment InComment at text
comment_more at text h e = row_more _ InComment at text h refl (alive_at (is_in_line (get_or text at 0)) InComment e)

pub comment_dead : (at : ℕ) (text : List ℕ) → at < length text → is_in_line (get_or text at 0) ≡ false → found_on comment InComment at text ≡ found_as comment at
comment_dead at text h e = row_dead _ InComment at text h (dead_at (is_in_line (get_or text at 0)) InComment e)

pub comment_all : (at : ℕ) (text : List ℕ) → length text ≤ at → found_on comment InComment at text ≡ found_as comment at
comment_all at text h = row_end _ InComment at text h

-- 10 is the line end
pub line_end : (b : ℕ) → b ≡ 10 → is_in_line b ≡ false
line_end b e = subst (λ (n : ℕ). is_in_line n ≡ false) (sym e) refl

pub in_line : (b : ℕ) → b ≢ 10 → is_in_line b ≡ true
in_line b h = elim (cases_Bool (b == 10)) [
  | inl e ↦ absurd (h (eqb-true b 10 e))
  | inr e ↦ ap (λ (t : Bool). not t) e
]

-- nothing is found behind the dead state
pub dead_piece : (q : State) (at : ℕ) (text : List ℕ) → q ≡ Dead → None ≡ found_on (accepted q) q at text
dead_piece q at text e = subst (λ (r : State). None ≡ found_on (accepted r) r at text) (sym e) (sym (ap (λ (o : Option Found). later None o) (dead_found at (drop at text))))

-- a mark that nothing makes longer
pub mark_piece : (q : State) (at : ℕ) (text : List ℕ) → q ≡ MarkEnd → found_as (accepted MarkEnd) at ≡ found_on (accepted q) q at text
mark_piece q at text e =
    subst (λ (r : State). found_as (accepted MarkEnd) at ≡ found_on (accepted r) r at text) (sym e)
    (found_last (found_as (accepted MarkEnd) at) (found_on (accepted MarkEnd) MarkEnd at text) MarkEnd at (drop at text) refl refl)

-- the first byte, and what is found behind it
pub first_byte : (at : ℕ) (text : List ℕ) → at < length text
    → found_on (accepted (step Start (get_or text at 0))) (step Start (get_or text at 0)) (at + 1) text ≡ longest_found Start at (drop at text)
first_byte at text h =
    ap (λ (o : Option Found). later o (longest_found (step Start (get_or text at 0)) (at + 1) (drop (at + 1) text))) (sym (none_later (found_as (accepted (step Start (get_or text at 0))) (at + 1))))
    ∙ found_more None (longest_found Start at (drop at text)) Start at text h (none_later (longest_found Start at (drop at text)))

-- what is found from this state on, where there is something
pub told_on : (o : Option Found) (q r : State) (at : ℕ) (text : List ℕ) → q ≡ r → o ≡ found_on (accepted r) r at text
    → IfSome o (λ f. found_on (accepted q) q at text ≡ Some f)
told_on None q r at text e f = cc
told_on (Some found) q r at text e f =
    ap (λ (s : State). found_on (accepted s) s at text) e ∙ sym f

pub told_here : (o : Option Found) (q r : State) (at : ℕ) (text : List ℕ) → q ≡ r → IfSome o (λ f. found_on (accepted r) r at text ≡ Some f)
    → IfSome o (λ f. found_on (accepted q) q at text ≡ Some f)
told_here None q r at text e g = cc
told_here (Some found) q r at text e g =
    ap (λ (s : State). found_on (accepted s) s at text) e ∙ g

-- a number that begins with 0 is found as its digits are
pub told_zero : (o : Option Found) (at : ℕ) (text : List ℕ) → found_on int Digits at text ≡ found_on int Zero at text
    → IfSome o (λ f. found_on int Digits at text ≡ Some f) → IfSome o (λ f. found_on int Zero at text ≡ Some f)
told_zero None at text e g = cc
told_zero (Some found) at text e g = sym e ∙ g

-- what is found behind the first byte is found from there on
pub plain_first : (at : ℕ) (text : List ℕ) (q : State) (o : Option Found) → at < length text → q ≡ start_step (get_or text at 0)
    → IfSome o (λ f. found_on (accepted q) q (at + 1) text ≡ Some f) → IfSome o (λ f. longest_found Start at (drop at text) ≡ Some f)
plain_first at text q None h e g = cc
plain_first at text q (Some f) h e g =
    sym (first_byte at text h) ∙ subst (λ (r : State). found_on (accepted r) r (at + 1) text ≡ Some f) e g

-- nothing is found at the text's end
pub no_byte : (at : ℕ) (text : List ℕ) → at ≡ length text → None ≡ longest_found Start at (drop at text)
no_byte at text h = found_all None (longest_found Start at (drop at text)) Start at text (omega arith) (none_later (longest_found Start at (drop at text)))

-- two tests
abbrev same : Bool → Bool → Bool
same true b = b
same false b = not b

same_is : (a b : Bool) → same a b ≡ true → a ≡ b
same_is true true e = refl
same_is true false e = sym e
same_is false true e = e
same_is false false e = refl

-- entry by entry a table of 0 and 1 says what the test says of the bytes from `at` on
abbrev tells : (ℕ → Bool) → ℕ → List ℕ → Bool
tells test at [] = true
tells test at (t ∷ ts) = same (t == 1) (test at) && tells test (suc at) ts

tells_at : (test : ℕ → Bool) (at : ℕ) (ts : List ℕ) (i : ℕ) → tells test at ts ≡ true → i < length ts → (get_or ts i 0 == 1) ≡ test (at + i)
tells_at test at [] i e h = absurd (omega (arith, h))
tells_at test at (t ∷ ts) zero e h =
    let places : at ≡ at + zero = omega arith in
    subst (λ (n : ℕ). (t == 1) ≡ test n) places (same_is (t == 1) (test at) (and_parts (same (t == 1) (test at)) (tells test (suc at) ts) e).0)
tells_at test at (t ∷ ts) (suc i) e h =
    let more = tells_at test (suc at) ts i (and_parts (same (t == 1) (test at)) (tells test (suc at) ts) e).1 (omega (arith, h)) in
    let places : suc at + i ≡ at + suc i = omega arith in
    subst (λ (n : ℕ). (get_or ts i 0 == 1) ≡ test n) places more

-- the table tells the letters and digits
pub table_tells : (b : ℕ) → b < 256 → (get_or WORD_BYTES b 0 == 1) ≡ is_word_byte b
table_tells b h = subst (λ (n : ℕ). (get_or WORD_BYTES b 0 == 1) ≡ is_word_byte n) (zero-add b) (tells_at is_word_byte 0 WORD_BYTES b refl h)
