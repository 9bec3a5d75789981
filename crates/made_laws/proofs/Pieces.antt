-- When a piece of a text is the longest: by its first byte, and by the byte behind it.
use Rattle.std.proofs.Common.{◌≡◌, ◌<◌, ◌⊎◌, inl, inr, ℕ, Bool, true, false, List, [], ◌∷◌, ◌++◌, length, refl, sym, ◌∙◌, ap, subst, arith, append_assoc, length-append}
use Rattle.std.specs.Prelude.{◌==◌, ◌||◌, ◌&&◌, cond, codes}
use Rattle.std.specs.List.{list_all}
use Rattle.std.specs.Char.{is_ascii_digit}
use Rattle.std.proofs.lemmas.Bool.{and_parts, cond-true, cond-false, cases_lt}
use Rattle.std.proofs.lemmas.List.{append-nil}
use Rattle.std.proofs.lemmas.Bool.Decides.{nat_tests}
use Rattle.fzn_lexer.specs.Bytes.{is_letter, is_word_byte, is_blank_byte, is_exponent_letter}
use Rattle.fzn_lexer.specs.Spelling.{IsRow, IsWord, IsMinus, IsDecimal, IsBased, IsInt, IsPointed, IsScaled, IsFloat, IsText, IsMark, IsBlank, IsComment, Spells}
use Rattle.fzn_lexer.specs.Lexing.{IsLongest}
use Rattle.made_laws.proofs.Digits.{digit_no_minus}
use Rattle.fzn_lexer.specs.declared.Kind.TheVariants as kind
use Rattle.fzn_lexer.specs.declared.PieceKind.{PieceKind}
use Rattle.fzn_lexer.specs.declared.PieceKind.TheVariants as piece_kind

-- ---- a longer prefix goes on with the byte behind a piece

record GoesOn (s after prefix : List ℕ) : Type 0 where
  byte : ℕ
  more : List ℕ
  rest : List ℕ
  is_prefix : prefix ≡ s ++ byte ∷ more
  is_after : after ≡ byte ∷ (more ++ rest)

goes_on : (s after prefix rest : List ℕ) → s ++ after ≡ prefix ++ rest → length s < length prefix → GoesOn s after prefix
goes_on s after [] rest e longer = absurd (omega arith)
goes_on [] after (b ∷ more) rest e longer = record { byte = b; more = more; rest = rest; is_prefix = refl; is_after = e }
goes_on (x ∷ s) after (y ∷ prefix) rest e longer =
    let heads : x ≡ y = cc in
    let tails : s ++ after ≡ prefix ++ rest = cc in
    let deeper = goes_on s after prefix rest tails (omega arith) in
    record {
      byte = deeper.byte;
      more = deeper.more;
      rest = deeper.rest;
      is_prefix = ap (λ z. z ∷ prefix) (sym heads) ∙ ap (λ z. x ∷ z) deeper.is_prefix;
      is_after = deeper.is_after;
    }

-- nothing that goes on with the text behind s spells a piece
abbrev Stops : List ℕ → List ℕ → Type 0
Stops s after = (k : PieceKind) (b : ℕ) (more rest : List ℕ) → after ≡ b ∷ (more ++ rest) → Spells k (s ++ b ∷ more) → ⊥

longest : (k : PieceKind) (s after : List ℕ) → Spells k s → Stops s after → IsLongest (record { kind = k; bytes = s }) (s ++ after)
longest k s after spelled stops = record {
  spells = spelled;
  longest = λ other prefix rest e w.
      elim (cases_lt (length s) (length prefix)) [
        | inl longer ↦
            let g = goes_on s after prefix rest e longer in
            absurd (stops other g.byte g.more g.rest g.is_after (subst (λ z. Spells other z) g.is_prefix w))
        | inr shorter ↦ shorter
      ];
}

-- ---- the first byte of a piece

abbrev is_number_byte : ℕ → Bool
is_number_byte b = (b == 45) || is_ascii_digit b

abbrev is_mark_byte : ℕ → Bool
is_mark_byte b =
    (b == 40) || (b == 41) || (b == 91) || (b == 93) || (b == 123) || (b == 125) || (b == 44) || (b == 59) || (b == 58) || (b == 61) || (b == 46)

abbrev begins : PieceKind → ℕ → Bool
begins (piece_kind.Token kind.Word) b = is_letter b
begins (piece_kind.Token kind.Int) b = is_number_byte b
begins (piece_kind.Token kind.Float) b = is_number_byte b
begins (piece_kind.Token kind.Text) b = b == 34
begins (piece_kind.Token kind.Mark) b = is_mark_byte b
begins piece_kind.Blank b = is_blank_byte b
begins piece_kind.Comment b = b == 37

digit_number : (b : ℕ) → is_ascii_digit b ≡ true → is_number_byte b ≡ true
digit_number b t = grind (arith, nat_tests)

digits_begin : (b : ℕ) (r digits tail : List ℕ) → b ∷ r ≡ digits ++ tail → IsRow is_ascii_digit digits → is_number_byte b ≡ true
digits_begin b r [] tail e row = absurd (omega (arith, row.some))
digits_begin b r (d ∷ ds) tail e row =
    let same : b ≡ d = cc in
    let parts = and_parts (is_ascii_digit d) (list_all is_ascii_digit ds) row.each in
    subst (λ x. is_number_byte x ≡ true) (sym same) (digit_number d parts.0)

minus_begins : (b : ℕ) (r minus tail : List ℕ) → b ∷ r ≡ minus ++ tail → IsMinus minus → (b ∷ r ≡ tail → is_number_byte b ≡ true) → is_number_byte b ≡ true
minus_begins b r minus tail e (inl none) then_ = then_ (e ∙ ap (λ z. z ++ tail) none)
minus_begins b r minus tail e (inr one) then_ =
    let whole : b ∷ r ≡ 45 ∷ tail = e ∙ ap (λ z. z ++ tail) one in
    let same : b ≡ 45 = cc in
    ap is_number_byte same

decimal_begins : (b : ℕ) (r s tail : List ℕ) → b ∷ r ≡ s ++ tail → IsDecimal s → is_number_byte b ≡ true
decimal_begins b r s tail e w =
    minus_begins b r w.minus (w.digits ++ tail) (e ∙ ap (λ z. z ++ tail) w.spelled ∙ append_assoc w.minus w.digits tail) w.is_minus
    (λ d. digits_begin b r w.digits tail d w.are_digits)

based_begins : (b : ℕ) (r base : List ℕ) (c : ℕ) (test : ℕ → Bool) → base ≡ 48 ∷ c ∷ [] → IsBased base test (b ∷ r) → is_number_byte b ≡ true
based_begins b r base c test is w =
    minus_begins b r w.minus (base ++ w.digits) w.spelled w.is_minus
    (λ e. let whole : b ∷ r ≡ 48 ∷ c ∷ w.digits = e ∙ ap (λ z. z ++ w.digits) is in let same : b ≡ 48 = cc in ap is_number_byte same)

int_begins : (b : ℕ) (r : List ℕ) → IsInt (b ∷ r) → is_number_byte b ≡ true
int_begins b r (inl w) = decimal_begins b r (b ∷ r) [] (sym (append-nil (b ∷ r))) w
int_begins b r (inr (inl w)) = based_begins b r (codes "0x") 120 _ refl w
int_begins b r (inr (inr w)) = based_begins b r (codes "0o") 111 _ refl w

pointed_begins : (b : ℕ) (r s tail : List ℕ) → b ∷ r ≡ s ++ tail → IsPointed s → is_number_byte b ≡ true
pointed_begins b r s tail e w =
    decimal_begins b r w.whole ((codes "." ++ w.fraction) ++ tail) (e ∙ ap (λ z. z ++ tail) w.spelled ∙ append_assoc w.whole (codes "." ++ w.fraction) tail) w.is_whole

scaled_begins : (b : ℕ) (r : List ℕ) (w : IsScaled (b ∷ r)) → IsDecimal w.mantissa ⊎ IsPointed w.mantissa → is_number_byte b ≡ true
scaled_begins b r w (inl d) = decimal_begins b r w.mantissa (w.letter ∷ (w.sign ++ w.exponent)) w.spelled d
scaled_begins b r w (inr p) = pointed_begins b r w.mantissa (w.letter ∷ (w.sign ++ w.exponent)) w.spelled p

float_begins : (b : ℕ) (r : List ℕ) → IsFloat (b ∷ r) → is_number_byte b ≡ true
float_begins b r (inl w) = pointed_begins b r (b ∷ r) [] (sym (append-nil (b ∷ r))) w
float_begins b r (inr w) = scaled_begins b r w w.is_mantissa

mark_begins : (b : ℕ) (r : List ℕ) → IsMark (b ∷ r) → is_mark_byte b ≡ true
mark_begins b r (inl e) = let same : b ≡ 40 = cc in ap is_mark_byte same
mark_begins b r (inr (inl e)) = let same : b ≡ 41 = cc in ap is_mark_byte same
mark_begins b r (inr (inr (inl e))) = let same : b ≡ 91 = cc in ap is_mark_byte same
mark_begins b r (inr (inr (inr (inl e)))) = let same : b ≡ 93 = cc in ap is_mark_byte same
mark_begins b r (inr (inr (inr (inr (inl e))))) = let same : b ≡ 123 = cc in ap is_mark_byte same
mark_begins b r (inr (inr (inr (inr (inr (inl e)))))) = let same : b ≡ 125 = cc in ap is_mark_byte same
mark_begins b r (inr (inr (inr (inr (inr (inr (inl e))))))) = let same : b ≡ 44 = cc in ap is_mark_byte same
mark_begins b r (inr (inr (inr (inr (inr (inr (inr (inl e)))))))) = let same : b ≡ 59 = cc in ap is_mark_byte same
mark_begins b r (inr (inr (inr (inr (inr (inr (inr (inr (inl e))))))))) = let same : b ≡ 58 = cc in ap is_mark_byte same
mark_begins b r (inr (inr (inr (inr (inr (inr (inr (inr (inr (inl e)))))))))) = let same : b ≡ 58 = cc in ap is_mark_byte same
mark_begins b r (inr (inr (inr (inr (inr (inr (inr (inr (inr (inr (inl e))))))))))) = let same : b ≡ 61 = cc in ap is_mark_byte same
mark_begins b r (inr (inr (inr (inr (inr (inr (inr (inr (inr (inr (inr (inl e)))))))))))) = let same : b ≡ 46 = cc in ap is_mark_byte same
mark_begins b r (inr (inr (inr (inr (inr (inr (inr (inr (inr (inr (inr (inr never)))))))))))) = absurd never

word_begins : (b : ℕ) (r : List ℕ) → IsWord (b ∷ r) → is_letter b ≡ true
word_begins b r w =
    let e = w.spelled in
    let same : b ≡ w.first = cc in
    ap is_letter same ∙ w.is_first

text_begins : (b : ℕ) (r : List ℕ) → IsText (b ∷ r) → (b == 34) ≡ true
text_begins b r w =
    let e = w.spelled in
    let same : b ≡ 34 = cc in
    ap (λ x. x == 34) same

blank_begins : (b : ℕ) (r : List ℕ) → IsBlank (b ∷ r) → is_blank_byte b ≡ true
blank_begins b r w =
    let e = w.spelled in
    let same : b ≡ w.byte = cc in
    ap is_blank_byte same ∙ w.is_byte

comment_begins : (b : ℕ) (r : List ℕ) → IsComment (b ∷ r) → (b == 37) ≡ true
comment_begins b r w =
    let e = w.spelled in
    let same : b ≡ 37 = cc in
    ap (λ x. x == 37) same

piece_begins : (k : PieceKind) (b : ℕ) (r : List ℕ) → Spells k (b ∷ r) → begins k b ≡ true
piece_begins (piece_kind.Token kind.Word) b r w = word_begins b r w
piece_begins (piece_kind.Token kind.Int) b r w = int_begins b r w
piece_begins (piece_kind.Token kind.Float) b r w = float_begins b r w
piece_begins (piece_kind.Token kind.Text) b r w = text_begins b r w
piece_begins (piece_kind.Token kind.Mark) b r w = mark_begins b r w
piece_begins piece_kind.Blank b r w = blank_begins b r w
piece_begins piece_kind.Comment b r w = comment_begins b r w

-- ---- words

word_on : (r : List ℕ) (b : ℕ) (more : List ℕ) → is_word_byte b ≡ false → list_all is_word_byte (r ++ b ∷ more) ≡ true → ⊥
word_on [] b more other each = let parts = and_parts (is_word_byte b) (list_all is_word_byte more) each in let one = parts.0 in cc
word_on (x ∷ r) b more other each = word_on r b more other (and_parts (is_word_byte x) (list_all is_word_byte (r ++ b ∷ more)) each).1

word_stops : (f : ℕ) (r : List ℕ) (b : ℕ) (tail : List ℕ) → is_letter f ≡ true → is_word_byte b ≡ false → (k : PieceKind) (c : ℕ) (more rest : List ℕ)
    → b ∷ tail ≡ c ∷ (more ++ rest) → Spells k (f ∷ (r ++ c ∷ more)) → ⊥
word_stops f r b tail letter other (piece_kind.Token kind.Word) c more rest e w =
    let same : b ≡ c = cc in
    let spelled = w.spelled in
    let all : r ++ c ∷ more ≡ w.rest = cc in
    word_on r c more (ap is_word_byte (sym same) ∙ other) (ap (list_all is_word_byte) all ∙ w.are_rest)
word_stops f r b tail letter other (piece_kind.Token kind.Int) c more rest e w = let h = piece_begins (piece_kind.Token kind.Int) f (r ++ c ∷ more) w in grind (arith, nat_tests)
word_stops f r b tail letter other (piece_kind.Token kind.Float) c more rest e w = let h = piece_begins (piece_kind.Token kind.Float) f (r ++ c ∷ more) w in grind (arith, nat_tests)
word_stops f r b tail letter other (piece_kind.Token kind.Text) c more rest e w = let h = piece_begins (piece_kind.Token kind.Text) f (r ++ c ∷ more) w in grind (arith, nat_tests)
word_stops f r b tail letter other (piece_kind.Token kind.Mark) c more rest e w = let h = piece_begins (piece_kind.Token kind.Mark) f (r ++ c ∷ more) w in grind (arith, nat_tests)
word_stops f r b tail letter other piece_kind.Blank c more rest e w = let h = piece_begins piece_kind.Blank f (r ++ c ∷ more) w in grind (arith, nat_tests)
word_stops f r b tail letter other piece_kind.Comment c more rest e w = let h = piece_begins piece_kind.Comment f (r ++ c ∷ more) w in grind (arith, nat_tests)

-- a word ends before a byte that is no letter and no digit
pub longest_word : (f : ℕ) (r : List ℕ) (b : ℕ) (tail : List ℕ) → is_letter f ≡ true → list_all is_word_byte r ≡ true → is_word_byte b ≡ false
    → IsLongest (record { kind = piece_kind.Token kind.Word; bytes = f ∷ r }) (f ∷ (r ++ b ∷ tail))
longest_word f r b tail letter each other =
    longest (piece_kind.Token kind.Word) (f ∷ r) (b ∷ tail) (record { first = f; rest = r; spelled = refl; is_first = letter; are_rest = each }) (word_stops f r b tail letter other)

-- ---- marks

mark_two : (a b : ℕ) (more : List ℕ) → IsMark (a ∷ b ∷ more) → (a ≡ b) × (more ≡ [])
mark_two a b more (inl e) = cc
mark_two a b more (inr (inl e)) = cc
mark_two a b more (inr (inr (inl e))) = cc
mark_two a b more (inr (inr (inr (inl e)))) = cc
mark_two a b more (inr (inr (inr (inr (inl e))))) = cc
mark_two a b more (inr (inr (inr (inr (inr (inl e)))))) = cc
mark_two a b more (inr (inr (inr (inr (inr (inr (inl e))))))) = cc
mark_two a b more (inr (inr (inr (inr (inr (inr (inr (inl e)))))))) = cc
mark_two a b more (inr (inr (inr (inr (inr (inr (inr (inr (inl e))))))))) = cc
mark_two a b more (inr (inr (inr (inr (inr (inr (inr (inr (inr (inl e)))))))))) = (cc, cc)
mark_two a b more (inr (inr (inr (inr (inr (inr (inr (inr (inr (inr (inl e))))))))))) = cc
mark_two a b more (inr (inr (inr (inr (inr (inr (inr (inr (inr (inr (inr (inl e)))))))))))) = (cc, cc)
mark_two a b more (inr (inr (inr (inr (inr (inr (inr (inr (inr (inr (inr (inr never)))))))))))) = absurd never

-- of the pieces that begin with a mark's byte each is a mark
only_mark : (k : PieceKind) (f : ℕ) (r : List ℕ) → is_mark_byte f ≡ true → Spells k (f ∷ r) → IsMark (f ∷ r)
only_mark (piece_kind.Token kind.Word) f r m w = let h = piece_begins (piece_kind.Token kind.Word) f r w in absurd (grind (arith, nat_tests))
only_mark (piece_kind.Token kind.Int) f r m w = let h = piece_begins (piece_kind.Token kind.Int) f r w in absurd (grind (arith, nat_tests))
only_mark (piece_kind.Token kind.Float) f r m w = let h = piece_begins (piece_kind.Token kind.Float) f r w in absurd (grind (arith, nat_tests))
only_mark (piece_kind.Token kind.Text) f r m w = let h = piece_begins (piece_kind.Token kind.Text) f r w in absurd (grind (arith, nat_tests))
only_mark (piece_kind.Token kind.Mark) f r m w = w
only_mark piece_kind.Blank f r m w = let h = piece_begins piece_kind.Blank f r w in absurd (grind (arith, nat_tests))
only_mark piece_kind.Comment f r m w = let h = piece_begins piece_kind.Comment f r w in absurd (grind (arith, nat_tests))

-- a mark of one byte ends before another byte
pub longest_mark : (f b : ℕ) (tail : List ℕ) → IsMark (f ∷ []) → (f ≡ b → ⊥) → IsLongest (record { kind = piece_kind.Token kind.Mark; bytes = f ∷ [] }) (f ∷ b ∷ tail)
longest_mark f b tail spelled apart =
    longest (piece_kind.Token kind.Mark) (f ∷ []) (b ∷ tail) spelled
    (λ k c more rest e w.
    let same : b ≡ c = cc in
    let two = mark_two f c more (only_mark k f (c ∷ more) (mark_begins f [] spelled) w) in
    apart (two.0 ∙ sym same))

-- `..` is the longest wherever it stands
pub longest_dots : (tail : List ℕ) → IsLongest (record { kind = piece_kind.Token kind.Mark; bytes = codes ".." }) (46 ∷ 46 ∷ tail)
longest_dots tail =
    longest (piece_kind.Token kind.Mark) (codes "..") tail (inr (inr (inr (inr (inr (inr (inr (inr (inr (inr (inr (inl refl))))))))))))
    (λ k c more rest e w.
    let two = mark_two 46 46 (c ∷ more) (only_mark k 46 (46 ∷ c ∷ more) refl w) in
    let none = two.1 in
    cc)

-- ---- blanks

only_blank : (k : PieceKind) (f : ℕ) (r : List ℕ) → is_blank_byte f ≡ true → Spells k (f ∷ r) → IsBlank (f ∷ r)
only_blank (piece_kind.Token kind.Word) f r m w = let h = piece_begins (piece_kind.Token kind.Word) f r w in absurd (grind (arith, nat_tests))
only_blank (piece_kind.Token kind.Int) f r m w = let h = piece_begins (piece_kind.Token kind.Int) f r w in absurd (grind (arith, nat_tests))
only_blank (piece_kind.Token kind.Float) f r m w = let h = piece_begins (piece_kind.Token kind.Float) f r w in absurd (grind (arith, nat_tests))
only_blank (piece_kind.Token kind.Text) f r m w = let h = piece_begins (piece_kind.Token kind.Text) f r w in absurd (grind (arith, nat_tests))
only_blank (piece_kind.Token kind.Mark) f r m w = let h = piece_begins (piece_kind.Token kind.Mark) f r w in absurd (grind (arith, nat_tests))
only_blank piece_kind.Blank f r m w = w
only_blank piece_kind.Comment f r m w = let h = piece_begins piece_kind.Comment f r w in absurd (grind (arith, nat_tests))

-- a blank is the longest wherever it stands
pub longest_blank : (f : ℕ) (tail : List ℕ) → is_blank_byte f ≡ true → IsLongest (record { kind = piece_kind.Blank; bytes = f ∷ [] }) (f ∷ tail)
longest_blank f tail blank =
    longest piece_kind.Blank (f ∷ []) tail (record { byte = f; spelled = refl; is_byte = blank })
    (λ k c more rest e w. let one = (only_blank k f (c ∷ more) blank w).spelled in cc)

-- ---- integers

abbrev skip_digits : List ℕ → List ℕ
skip_digits [] = []
skip_digits (b ∷ s) = cond (is_ascii_digit b) (skip_digits s) (b ∷ s)

abbrev skip_minus : List ℕ → List ℕ
skip_minus [] = []
skip_minus (b ∷ s) = cond (b == 45) s (b ∷ s)

-- what stands behind the minus and the digits
abbrev skip_number : List ℕ → List ℕ
skip_number s = skip_digits (skip_minus s)

-- a byte behind digits with which a number goes on: `x`, `o`, `e`, `E`
abbrev goes_on_by : ℕ → Bool
goes_on_by b = (b == 120) || (b == 111) || (b == 101) || (b == 69)

-- what may stand behind the digits in a number
abbrev may_follow : List ℕ → Bool
may_follow [] = true
may_follow (b ∷ []) = goes_on_by b
may_follow (b ∷ c ∷ s) = goes_on_by b || ((b == 46) && is_ascii_digit c)

follows_by : (b : ℕ) (s : List ℕ) → goes_on_by b ≡ true → may_follow (b ∷ s) ≡ true
follows_by b [] t = t
follows_by b (c ∷ s) t = ap (λ x. x || ((b == 46) && is_ascii_digit c)) t

follows_point : (s tail : List ℕ) → IsRow is_ascii_digit s → may_follow (46 ∷ (s ++ tail)) ≡ true
follows_point [] tail row = absurd (omega (arith, row.some))
follows_point (d ∷ s) tail row = (and_parts (is_ascii_digit d) (list_all is_ascii_digit s) row.each).0

digits_skip : (s tail : List ℕ) → list_all is_ascii_digit s ≡ true → skip_digits (s ++ tail) ≡ skip_digits tail
digits_skip [] tail e = refl
digits_skip (b ∷ s) tail e =
    let parts = and_parts (is_ascii_digit b) (list_all is_ascii_digit s) e in
    cond-true (is_ascii_digit b) _ _ parts.0 ∙ digits_skip s tail parts.1

row_skips : (s tail : List ℕ) → IsRow is_ascii_digit s → skip_number (s ++ tail) ≡ skip_digits tail
row_skips [] tail row = absurd (omega (arith, row.some))
row_skips (b ∷ s) tail row =
    ap skip_digits (cond-false (b == 45) _ _ (digit_no_minus b (and_parts (is_ascii_digit b) (list_all is_ascii_digit s) row.each).0)) ∙ digits_skip (b ∷ s) tail row.each

minus_skips : (minus s tail : List ℕ) → IsMinus minus → IsRow is_ascii_digit s → skip_number ((minus ++ s) ++ tail) ≡ skip_digits tail
minus_skips minus s tail (inl e) row = ap (λ m. skip_number ((m ++ s) ++ tail)) e ∙ row_skips s tail row
minus_skips minus s tail (inr e) row = ap (λ m. skip_number ((m ++ s) ++ tail)) e ∙ digits_skip s tail row.each

pub decimal_skips : (s tail : List ℕ) → IsDecimal s → skip_number (s ++ tail) ≡ skip_digits tail
decimal_skips s tail w = ap (λ z. skip_number (z ++ tail)) w.spelled ∙ minus_skips w.minus w.digits tail w.is_minus w.are_digits

based_skips : (minus tail : List ℕ) (c : ℕ) → IsMinus minus → is_ascii_digit c ≡ false → skip_number (minus ++ (48 ∷ c ∷ tail)) ≡ c ∷ tail
based_skips minus tail c (inl e) other = ap (λ m. skip_number (m ++ (48 ∷ c ∷ tail))) e ∙ cond-false (is_ascii_digit c) _ _ other
based_skips minus tail c (inr e) other = ap (λ m. skip_number (m ++ (48 ∷ c ∷ tail))) e ∙ cond-false (is_ascii_digit c) _ _ other

exponent_no_digit : (b : ℕ) → is_exponent_letter b ≡ true → is_ascii_digit b ≡ false
exponent_no_digit b t = grind (arith, nat_tests)

exponent_goes_on : (b : ℕ) → is_exponent_letter b ≡ true → goes_on_by b ≡ true
exponent_goes_on b t = grind (arith, nat_tests)

decimal_follows : (s : List ℕ) → IsDecimal s → may_follow (skip_number s) ≡ true
decimal_follows s w = ap (λ z. may_follow (skip_number z)) (sym (append-nil s)) ∙ ap may_follow (decimal_skips s [] w)

int_follows : (s : List ℕ) → IsInt s → may_follow (skip_number s) ≡ true
int_follows s (inl w) = decimal_follows s w
int_follows s (inr (inl w)) = ap (λ z. may_follow (skip_number z)) w.spelled ∙ (ap may_follow (based_skips w.minus w.digits 120 w.is_minus refl) ∙ follows_by 120 w.digits refl)
int_follows s (inr (inr w)) = ap (λ z. may_follow (skip_number z)) w.spelled ∙ (ap may_follow (based_skips w.minus w.digits 111 w.is_minus refl) ∙ follows_by 111 w.digits refl)

pointed_follows : (s tail : List ℕ) → IsPointed s → may_follow (skip_number (s ++ tail)) ≡ true
pointed_follows s tail w =
    let split : s ++ tail ≡ w.whole ++ (46 ∷ (w.fraction ++ tail)) = ap (λ z. z ++ tail) w.spelled ∙ append_assoc w.whole (codes "." ++ w.fraction) tail in
    ap (λ z. may_follow (skip_number z)) split ∙ (ap may_follow (decimal_skips w.whole (46 ∷ (w.fraction ++ tail)) w.is_whole) ∙ follows_point w.fraction tail w.is_fraction)

scaled_follows : (s : List ℕ) (w : IsScaled s) → IsDecimal w.mantissa ⊎ IsPointed w.mantissa → may_follow (skip_number s) ≡ true
scaled_follows s w (inl d) =
    let behind = w.letter ∷ (w.sign ++ w.exponent) in
    ap (λ z. may_follow (skip_number z)) w.spelled
    ∙ (ap may_follow (decimal_skips w.mantissa behind d ∙ cond-false (is_ascii_digit w.letter) _ _ (exponent_no_digit w.letter w.is_letter_e))
    ∙ follows_by w.letter (w.sign ++ w.exponent) (exponent_goes_on w.letter w.is_letter_e))
scaled_follows s w (inr p) = ap (λ z. may_follow (skip_number z)) w.spelled ∙ pointed_follows w.mantissa (w.letter ∷ (w.sign ++ w.exponent)) p

float_follows : (s : List ℕ) → IsFloat s → may_follow (skip_number s) ≡ true
float_follows s (inl w) = ap (λ z. may_follow (skip_number z)) (sym (append-nil s)) ∙ pointed_follows s [] w
float_follows s (inr w) = scaled_follows s w w.is_mantissa

-- with none of these texts a number goes on
abbrev Ends : List ℕ → Type 0
Ends after = (b : ℕ) (more rest : List ℕ) → after ≡ b ∷ (more ++ rest) → (is_ascii_digit b ≡ false) × (may_follow (b ∷ more) ≡ false)

-- a piece that begins as a number does is one
number_stops : (s after : List ℕ) → IsDecimal s → Ends after → Stops s after
number_stops s after w ends k b more rest e spelled =
    let end = ends b more rest e in
    let skipped : skip_number (s ++ b ∷ more) ≡ b ∷ more = decimal_skips s (b ∷ more) w ∙ cond-false (is_ascii_digit b) _ _ end.0 in
    let not_follows : may_follow (skip_number (s ++ b ∷ more)) ≡ false = ap may_follow skipped ∙ end.1 in
    by_kind k s b more w spelled not_follows
  where
    first : (k : PieceKind) (s tail : List ℕ) → IsDecimal s → Spells k (s ++ tail) → (f : ℕ) × (begins k f ≡ true) × (is_number_byte f ≡ true)
    first k [] tail w spelled = absurd (empty_decimal w)
      where
        empty_decimal : IsDecimal [] → ⊥
        empty_decimal w = let sizes = ap length w.spelled ∙ length-append w.minus w.digits in let some = w.are_digits.some in omega arith
    first k (f ∷ r) tail w spelled = (f, piece_begins k f (r ++ tail) spelled, decimal_begins f r (f ∷ r) [] (sym (append-nil (f ∷ r))) w)

    by_kind : (k : PieceKind) (s : List ℕ) (b : ℕ) (more : List ℕ) → IsDecimal s → Spells k (s ++ b ∷ more) → may_follow (skip_number (s ++ b ∷ more)) ≡ false → ⊥
    by_kind (piece_kind.Token kind.Int) s b more w spelled other = let yes = int_follows (s ++ b ∷ more) spelled in cc
    by_kind (piece_kind.Token kind.Float) s b more w spelled other = let yes = float_follows (s ++ b ∷ more) spelled in cc
    by_kind (piece_kind.Token kind.Word) s b more w spelled other = let f = first (piece_kind.Token kind.Word) s (b ∷ more) w spelled in not_word f.0 f.1 f.2
      where
        not_word : (f : ℕ) → is_letter f ≡ true → is_number_byte f ≡ true → ⊥
        not_word f a c = grind (arith, nat_tests)
    by_kind (piece_kind.Token kind.Text) s b more w spelled other = let f = first (piece_kind.Token kind.Text) s (b ∷ more) w spelled in not_text f.0 f.1 f.2
      where
        not_text : (f : ℕ) → (f == 34) ≡ true → is_number_byte f ≡ true → ⊥
        not_text f a c = grind (arith, nat_tests)
    by_kind (piece_kind.Token kind.Mark) s b more w spelled other = let f = first (piece_kind.Token kind.Mark) s (b ∷ more) w spelled in not_mark f.0 f.1 f.2
      where
        not_mark : (f : ℕ) → is_mark_byte f ≡ true → is_number_byte f ≡ true → ⊥
        not_mark f a c = grind (arith, nat_tests)
    by_kind piece_kind.Blank s b more w spelled other = let f = first piece_kind.Blank s (b ∷ more) w spelled in not_blank f.0 f.1 f.2
      where
        not_blank : (f : ℕ) → is_blank_byte f ≡ true → is_number_byte f ≡ true → ⊥
        not_blank f a c = grind (arith, nat_tests)
    by_kind piece_kind.Comment s b more w spelled other = let f = first piece_kind.Comment s (b ∷ more) w spelled in not_comment f.0 f.1 f.2
      where
        not_comment : (f : ℕ) → (f == 37) ≡ true → is_number_byte f ≡ true → ⊥
        not_comment f a c = grind (arith, nat_tests)

-- an integer in decimal ends before a byte with which no number goes on
pub longest_int : (s : List ℕ) (b : ℕ) (tail : List ℕ) → IsDecimal s → is_ascii_digit b ≡ false → goes_on_by b ≡ false → (b == 46) ≡ false
    → IsLongest (record { kind = piece_kind.Token kind.Int; bytes = s }) (s ++ b ∷ tail)
longest_int s b tail w digit by point =
    longest (piece_kind.Token kind.Int) s (b ∷ tail) (inl w) (number_stops s (b ∷ tail) w ends)
  where
    no_follow : (more : List ℕ) → may_follow (b ∷ more) ≡ false
    no_follow [] = by
    no_follow (c ∷ more) = ap (λ x. x || ((b == 46) && is_ascii_digit c)) by ∙ ap (λ x. x && is_ascii_digit c) point

    ends : Ends (b ∷ tail)
    ends c more rest e =
        let same : b ≡ c = cc in
        (ap is_ascii_digit (sym same) ∙ digit, ap (λ x. may_follow (x ∷ more)) (sym same) ∙ no_follow more)

-- and before `..`
pub longest_before_dots : (s tail : List ℕ) → IsDecimal s → IsLongest (record { kind = piece_kind.Token kind.Int; bytes = s }) (s ++ 46 ∷ 46 ∷ tail)
longest_before_dots s tail w =
    longest (piece_kind.Token kind.Int) s (46 ∷ 46 ∷ tail) (inl w) (number_stops s (46 ∷ 46 ∷ tail) w ends)
  where
    no_follow : (c : ℕ) (more rest : List ℕ) → 46 ∷ tail ≡ more ++ rest → may_follow (46 ∷ more) ≡ false
    no_follow c [] rest e = refl
    no_follow c (d ∷ more) rest e = let same : d ≡ 46 = cc in ap is_ascii_digit same

    ends : Ends (46 ∷ 46 ∷ tail)
    ends c more rest e =
        let same : c ≡ 46 = cc in
        let tails : 46 ∷ tail ≡ more ++ rest = cc in
        (ap is_ascii_digit same, ap (λ x. may_follow (x ∷ more)) same ∙ no_follow c more rest tails)
