-- Lines are cut into their pieces, and their tokens stand where they are.
use Rattle.std.proofs.Common.{◌≡◌, ◌<◌, ◌≤◌, ◌+◌, ◌-◌, ◌^◌, inl, inr, ℕ, true, false, List, [], ◌∷◌, ◌++◌, length, take, drop, refl, sym, ◌∙◌, ap, subst, arith, append_assoc, length-append}
use Rattle.std.specs.Prelude.{◌==◌, ◌&&◌, codes, flat_map, nat_le}
use Rattle.std.specs.List.{list_all}
use Rattle.std.specs.Char.{is_ascii_digit}
use Rattle.std.specs.Fmt.{decimal}
use Rattle.std.proofs.lemmas.Bool.{and_parts, cond-true}
use Rattle.std.proofs.lemmas.Bool.Decides.{nat_tests}
use Rattle.std.proofs.Math.Seq.{take-append_seam, drop-append_seam}
use Rattle.fzn_lexer.specs.Bytes.{is_word_byte}
use Rattle.fzn_lexer.specs.Spelling.{IsDecimal}
use Rattle.fzn_lexer.specs.Lexing.{Piece, IsLongest, CutsInto, tokens_from, LexesAs}
use Rattle.fzn_lexer.specs.declared.PieceKind.{PieceKind}
use Rattle.fzn_lexer.specs.declared.PieceKind.TheVariants as piece_kind
use Rattle.fzn_parser.specs.Texts.{spelling}
use Rattle.made_laws.proofs.Digits.{all_digits, is_row}
use Rattle.made_laws.proofs.Pieces.{longest_word, longest_mark, longest_dots, longest_blank, longest_int, longest_before_dots}
use Rattle.made_laws.proofs.Lines.{bytes_of, Line, variable, order, goal, pieces_of, bytes_in, IsSmall, AreSmall, IsSpelled, AreSpelled, Stand}

-- ---- pieces

digit_word : (b : ℕ) → is_ascii_digit b ≡ true → is_word_byte b ≡ true
digit_word b t = grind (arith, nat_tests)

digits_word : (s : List ℕ) → list_all is_ascii_digit s ≡ true → list_all is_word_byte s ≡ true
digits_word [] e = refl
digits_word (b ∷ s) e =
    let parts = and_parts (is_ascii_digit b) (list_all is_ascii_digit s) e in
    ap (λ t. t && list_all is_word_byte s) (digit_word b parts.0) ∙ digits_word s parts.1

name_word : (i : ℕ) → i < 2 ^ 64 → list_all is_word_byte (decimal i) ≡ true
name_word i h = digits_word (decimal i) (all_digits i h)

decimal_is : (n : ℕ) → n < 2 ^ 64 → IsDecimal (decimal n)
decimal_is n h = record { minus = []; digits = decimal n; spelled = refl; is_minus = inl refl; are_digits = is_row n h }

negative_is : (n : ℕ) → n < 2 ^ 64 → IsDecimal (45 ∷ decimal n)
negative_is n h = record { minus = codes "-"; digits = decimal n; spelled = refl; is_minus = inr refl; are_digits = is_row n h }

zero_is : IsDecimal (codes "0")
zero_is = record { minus = []; digits = codes "0"; spelled = refl; is_minus = inl refl; are_digits = record { some = omega arith; each = refl } }

one_is : IsDecimal (codes "1")
one_is = record { minus = []; digits = codes "1"; spelled = refl; is_minus = inl refl; are_digits = record { some = omega arith; each = refl } }

minus_one_is : IsDecimal (codes "-1")
minus_one_is = record { minus = codes "-"; digits = codes "1"; spelled = refl; is_minus = inr refl; are_digits = record { some = omega arith; each = refl } }

-- each piece is the longest in what remains, where this text stands behind the last
abbrev Follow : List Piece → List ℕ → Type 0
Follow [] after = Unit {0}
Follow (p ∷ ps) after = IsLongest p (p.bytes ++ (bytes_of ps ++ after)) × Follow ps after

cut_pieces : (ps : List Piece) (after : List ℕ) → Follow ps after → CutsInto ps after (bytes_of ps ++ after)
cut_pieces [] after f = refl
cut_pieces (p ∷ ps) after f =
    let split : bytes_of (p ∷ ps) ++ after ≡ p.bytes ++ (bytes_of ps ++ after) = append_assoc p.bytes (bytes_of ps) after in
    (bytes_of ps ++ after, split, subst (λ s. IsLongest p s) (sym split) f.0, cut_pieces ps after f.1)

cut_append : (ps qs : List Piece) (text middle rest : List ℕ) → CutsInto ps middle text → CutsInto qs rest middle → CutsInto (ps ++ qs) rest text
cut_append [] qs text middle rest c d = subst (λ s. CutsInto qs rest s) (sym c) d
cut_append (p ∷ ps) qs text middle rest c d = (c.0, c.1, c.2, cut_append ps qs c.0 middle rest c.3 d)

apart : (a b : ℕ) → (a == b) ≡ false → a ≡ b → ⊥
apart a b differ e = grind (arith, nat_tests)

variable_follows : (u i : ℕ) (after : List ℕ) → u < 2 ^ 64 → i < 2 ^ 64 → Follow (pieces_of (variable u i)) after
variable_follows u i after few small = (
  longest_word 118 (codes "ar") 32 _ refl refl refl,
  (
    longest_blank 32 _ refl,
    (
      longest_before_dots (codes "0") _ zero_is,
      (
        longest_dots _,
        (
          longest_int (decimal u) 58 _ (decimal_is u few) refl refl refl,
          (
            longest_mark 58 32 _ (inr (inr (inr (inr (inr (inr (inr (inr (inl refl))))))))) (apart 58 32 refl),
            (
              longest_blank 32 _ refl,
              (
                longest_word 120 (decimal i) 59 _ refl (name_word i small) refl,
                (
                  longest_mark 59 10 _ (inr (inr (inr (inr (inr (inr (inr (inl refl)))))))) (apart 59 10 refl),
                  (
                    longest_blank 10 _ refl,
                    tt,
                  ),
                ),
              ),
            ),
          ),
        ),
      ),
    ),
  ),
)

goal_follows : (n : ℕ) (after : List ℕ) → n < 2 ^ 64 → Follow (pieces_of (goal n)) after
goal_follows n after small = (
  longest_word 115 (codes "olve") 32 _ refl refl refl,
  (
    longest_blank 32 _ refl,
    (
      longest_word 109 (codes "inimize") 32 _ refl refl refl,
      (
        longest_blank 32 _ refl,
        (
          longest_word 120 (decimal n) 59 _ refl (name_word n small) refl,
          (
            longest_mark 59 10 _ (inr (inr (inr (inr (inr (inr (inr (inl refl)))))))) (apart 59 10 refl),
            (
              longest_blank 10 _ refl,
              tt,
            ),
          ),
        ),
      ),
    ),
  ),
)

order_follows : (a b d : ℕ) (after : List ℕ) → a < 2 ^ 64 → b < 2 ^ 64 → d < 2 ^ 64 → Follow (pieces_of (order a b d)) after
order_follows a b d after small_a small_b small_d = (
  longest_word 99 (codes "onstraint") 32 _ refl refl refl,
  (
    longest_blank 32 _ refl,
    (
      longest_word 105 (codes "nt_lin_le") 40 _ refl refl refl,
      (
        longest_mark 40 91 _ (inl refl) (apart 40 91 refl),
        (
          longest_mark 91 49 _ (inr (inr (inl refl))) (apart 91 49 refl),
          (
            longest_int (codes "1") 44 _ one_is refl refl refl,
            (
              longest_mark 44 45 _ (inr (inr (inr (inr (inr (inr (inl refl))))))) (apart 44 45 refl),
              (
                longest_int (codes "-1") 93 _ minus_one_is refl refl refl,
                (
                  longest_mark 93 44 _ (inr (inr (inr (inl refl)))) (apart 93 44 refl),
                  (
                    longest_mark 44 91 _ (inr (inr (inr (inr (inr (inr (inl refl))))))) (apart 44 91 refl),
                    (
                      longest_mark 91 120 _ (inr (inr (inl refl))) (apart 91 120 refl),
                      (
                        longest_word 120 (decimal a) 44 _ refl (name_word a small_a) refl,
                        (
                          longest_mark 44 120 _ (inr (inr (inr (inr (inr (inr (inl refl))))))) (apart 44 120 refl),
                          (
                            longest_word 120 (decimal b) 93 _ refl (name_word b small_b) refl,
                            (
                              longest_mark 93 44 _ (inr (inr (inr (inl refl)))) (apart 93 44 refl),
                              (
                                longest_mark 44 45 _ (inr (inr (inr (inr (inr (inr (inl refl))))))) (apart 44 45 refl),
                                (
                                  longest_int (45 ∷ decimal d) 41 _ (negative_is d small_d) refl refl refl,
                                  (
                                    longest_mark 41 59 _ (inr (inl refl)) (apart 41 59 refl),
                                    (
                                      longest_mark 59 10 _ (inr (inr (inr (inr (inr (inr (inr (inl refl)))))))) (apart 59 10 refl),
                                      (
                                        longest_blank 10 _ refl,
                                        tt,
                                      ),
                                    ),
                                  ),
                                ),
                              ),
                            ),
                          ),
                        ),
                      ),
                    ),
                  ),
                ),
              ),
            ),
          ),
        ),
      ),
    ),
  ),
)

line_follows : (l : Line) (after : List ℕ) → IsSmall l → Follow (pieces_of l) after
line_follows (variable u i) after small = variable_follows u i after small.0 small.1
line_follows (order a b d) after small = order_follows a b d after small.0 small.1 small.2
line_follows (goal n) after small = goal_follows n after small

lines_cut : (ls : List Line) → AreSmall ls → CutsInto (flat_map pieces_of ls) [] (flat_map bytes_in ls)
lines_cut [] small = refl
lines_cut (l ∷ ls) small =
    cut_append (pieces_of l) (flat_map pieces_of ls) (bytes_in l ++ flat_map bytes_in ls) (flat_map bytes_in ls) []
    (cut_pieces (pieces_of l) (flat_map bytes_in ls) (line_follows l (flat_map bytes_in ls) small.0)) (lines_cut ls small.1)

-- lines have the tokens of their pieces
pub lines_lex : (ls : List Line) → AreSmall ls → LexesAs (flat_map bytes_in ls) (tokens_from 0 (flat_map pieces_of ls))
lines_lex ls small = record { pieces = flat_map pieces_of ls; cut = lines_cut ls small; placed = refl }

-- ---- places

within : (a n m : ℕ) → a + n ≤ m → (nat_le a (a + n) && nat_le (a + n) m) ≡ true
within a n m h = grind (arith, nat_tests)

piece_spelled : (before bytes after text : List ℕ) (at : ℕ) (k : PieceKind) → text ≡ before ++ (bytes ++ after) → at ≡ length before → IsSpelled text at k bytes
unfolding spelling
piece_spelled before bytes after text at (piece_kind.Token k) whole place =
    let size : length text ≡ length before + (length bytes + length after) = ap length whole ∙ (length-append before (bytes ++ after) ∙ ap (λ n. length before + n) (length-append bytes after)) in
    let inside : at + length bytes ≤ length text = omega arith in
    let span : at + length bytes - at ≡ length bytes = omega arith in
    cond-true (nat_le at (at + length bytes) && nat_le (at + length bytes) (length text)) _ _ (within at (length bytes) (length text) inside)
    ∙ (ap (λ n. take n (drop at text)) span
    ∙ (ap (λ t. take (length bytes) (drop at t)) whole
    ∙ (ap (λ n. take (length bytes) (drop n (before ++ (bytes ++ after)))) place
    ∙ (ap (λ u. take (length bytes) u) (drop-append_seam before (bytes ++ after)) ∙ take-append_seam bytes after))))
piece_spelled before bytes after text at piece_kind.Blank whole place = tt
piece_spelled before bytes after text at piece_kind.Comment whole place = tt

pieces_spelled : (ps : List Piece) (before after text : List ℕ) (at : ℕ) → text ≡ before ++ (bytes_of ps ++ after) → at ≡ length before → AreSpelled text at ps
pieces_spelled [] before after text at whole place = tt
pieces_spelled (p ∷ ps) before after text at whole place =
    let split : text ≡ before ++ (p.bytes ++ (bytes_of ps ++ after)) = whole ∙ ap (λ u. before ++ u) (append_assoc p.bytes (bytes_of ps) after) in (
      piece_spelled before p.bytes (bytes_of ps ++ after) text at p.kind split place,
      pieces_spelled ps (before ++ p.bytes) after text (at + length p.bytes) (split ∙ sym (append_assoc before p.bytes (bytes_of ps ++ after)))
          (ap (λ n. n + length p.bytes) place ∙ sym (length-append before p.bytes)),
    )

lines_stand_at : (ls : List Line) (before text : List ℕ) (at : ℕ) → text ≡ before ++ flat_map bytes_in ls → at ≡ length before → Stand text at ls
lines_stand_at [] before text at whole place = tt
lines_stand_at (l ∷ ls) before text at whole place = (
  pieces_spelled (pieces_of l) before (flat_map bytes_in ls) text at whole place,
  lines_stand_at ls (before ++ bytes_in l) text (at + length (bytes_in l)) (whole ∙ sym (append_assoc before (bytes_in l) (flat_map bytes_in ls)))
      (ap (λ n. n + length (bytes_in l)) place ∙ sym (length-append before (bytes_in l))),
)

-- lines stand one behind the other in the text that they are
pub lines_stand : (ls : List Line) → Stand (flat_map bytes_in ls) 0 ls
lines_stand ls = lines_stand_at ls [] (flat_map bytes_in ls) 0 refl refl
