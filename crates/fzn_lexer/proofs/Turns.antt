-- Cuts of parts of a text, one behind the other.
use Rattle.std.proofs.Common.{◌≡◌, inl, inr, ◌<◌, ◌≤◌, ◌+◌, ◌-◌, ℕ, List, [], ◌∷◌, ◌++◌, drop, length, refl, sym, ◌∙◌, ap, subst, arith, append_assoc, length-append, length-drop}
use Rattle.std.specs.Prelude.{Option, Some, None, IfSome, is_some, true, false, option_to_list}
use Rattle.std.proofs.lemmas.List.{append-nil, at_drop_all}
use Rattle.fzn_lexer.specs.Lexing.{Piece, CutsInto, token_of, tokens_from, LexesAs, LexesTo, FaultsAt, LacksPiece, LacksToken, IsNext}
use Rattle.std.specs.Prelude.{◌||◌, ◌==◌, get_or}
use Rattle.std.proofs.lemmas.Bool.{eqb-true, or_cases}
use Rattle.std.proofs.lemmas.List.{drop_more}
use Rattle.fzn_lexer.specs.Bytes.{is_blank_byte}
use Rattle.fzn_lexer.specs.Machine.{step, accepted, later, found_as, longest_found}
use Rattle.fzn_lexer.specs.declared.PieceKind.TheVariants as piece_kind
use Rattle.fzn_lexer.specs.declared.machine.State.{State}
use Rattle.fzn_lexer.proofs.Longest.{longest_cons, none_behind_last}
use Rattle.fzn_lexer.specs.declared.Token.{Token}
use Rattle.fzn_lexer.specs.declared.machine.Found.{Found}
use Rattle.fzn_lexer.specs.declared.machine.State.TheVariants.{Start, BlankEnd}
use Rattle.fzn_lexer.proofs.Cuts.{IsFound, some_found, found_after, after_is, none_stuck, end_stuck, one_cut, IsStuck}

pub nothing : (text : List ℕ) (at : ℕ) → at ≤ length text → LexesTo text at at []
nothing text at h = record { rises = omega arith; inside = h; pieces = []; cut = refl; placed = refl }

cuts_append : (ps qs : List Piece) (r mid t : List ℕ) → CutsInto ps mid t → CutsInto qs r mid → CutsInto (ps ++ qs) r t
cuts_append [] qs r mid t c d = subst (λ (u : List ℕ). CutsInto qs r u) (sym c) d
cuts_append (p ∷ ps) qs r mid t c d = (c.0, c.1, c.2, cuts_append ps qs r mid c.0 c.3 d)

-- the second pieces begin where the first ones end
placed_append : (ps qs : List Piece) (a b : ℕ) (mid t : List ℕ) → CutsInto ps mid t → a + length t ≡ b + length mid
    → tokens_from a (ps ++ qs) ≡ tokens_from a ps ++ tokens_from b qs
placed_append [] qs a b mid t c e =
    let sizes : length t ≡ length mid = ap (λ (u : List ℕ). length u) c in
    let same : a ≡ b = omega arith in
    ap (λ (n : ℕ). tokens_from n qs) same
placed_append (p ∷ ps) qs a b mid t c e =
    let sizes : length t ≡ length (p.bytes ++ c.0) = ap (λ (u : List ℕ). length u) c.1 in
    let sum : length (p.bytes ++ c.0) ≡ length p.bytes + length c.0 = length-append p.bytes c.0 in
    let behind : (a + length p.bytes) + length c.0 ≡ b + length mid = omega arith in
    ap (λ (u : List Token). token_of p.kind a (a + length p.bytes) ++ u) (placed_append ps qs (a + length p.bytes) b mid c.0 c.3 behind)
    ∙ sym (append_assoc (token_of p.kind a (a + length p.bytes)) (tokens_from (a + length p.bytes) ps) (tokens_from b qs))

pub joined : (text : List ℕ) (from at to : ℕ) (ts us : List Token) → LexesTo text from at ts → LexesTo text at to us → LexesTo text from to (ts ++ us)
joined text from at to ts us l m =
    let first : length (drop from text) ≡ length text - from = length-drop from text in
    let second : length (drop at text) ≡ length text - at = length-drop at text in
    let places : from + length (drop from text) ≡ at + length (drop at text) = omega (arith, l.rises, l.inside) in
    record {
      rises = omega (arith, l.rises, m.rises);
      inside = m.inside;
      pieces = l.pieces ++ m.pieces;
      cut = cuts_append l.pieces m.pieces (drop to text) (drop at text) (drop from text) l.cut m.cut;
      placed = ap (λ (vs : List Token). vs ++ us) l.placed ∙ (ap (λ (vs : List Token). tokens_from from l.pieces ++ vs) m.placed
          ∙ sym (placed_append l.pieces m.pieces from at (drop at text) (drop from text) l.cut places));
    }

pub whole : (text : List ℕ) (ts : List Token) → LexesTo text 0 (length text) ts → LexesAs text ts
whole text ts l =
    let none : drop (length text) text ≡ [] = at_drop_all (λ u. u) text (length text) (omega arith) in
    record { pieces = l.pieces; cut = subst (λ (u : List ℕ). CutsInto l.pieces u text) none l.cut; placed = l.placed }

-- what remains at a place has one list of tokens
pub one_rest : (text : List ℕ) (from : ℕ) (ts us : List Token) → LexesTo text from (length text) ts → LexesTo text from (length text) us → ts ≡ us
one_rest text from ts us l m =
    let none : drop (length text) text ≡ [] = at_drop_all (λ u. u) text (length text) (omega arith) in
    let first : CutsInto l.pieces [] (drop from text) = subst (λ (u : List ℕ). CutsInto l.pieces u (drop from text)) none l.cut in
    let second : CutsInto m.pieces [] (drop from text) = subst (λ (u : List ℕ). CutsInto m.pieces u (drop from text)) none m.cut in
    let same : (tokens_from from l.pieces ≡ tokens_from from m.pieces) × ([] ≡ []) = one_cut from (drop from text) l.pieces m.pieces [] [] first second end_stuck end_stuck in
    l.placed ∙ (same.0 ∙ sym m.placed)

pub fault : (text : List ℕ) (at : ℕ) (ts : List Token) → LexesTo text 0 at ts → LacksPiece text at → FaultsAt text at
fault text at ts l f = record { pieces = l.pieces; cut = l.cut; inside = f.inside; no_piece = f.no_piece }

-- the piece that was found
pub found_lexes : (text : List ℕ) (at : ℕ) (found : Found) → longest_found Start at (drop at text) ≡ Some found → at ≤ length text
    → (at < found.to) × LexesTo text at found.to (token_of found.piece at found.to)
found_lexes text at found e h =
    let w : IsFound (drop at text) at found = some_found at (drop at text) found e in
    let within : (found.to ≤ length text) × (at < found.to) = found_after text at found w h in (
      within.1,
      record {
        rises = omega (arith, within.1);
        inside = within.0;
        pieces = record { kind = found.piece; bytes = w.bytes } ∷ [];
        cut = (w.after, w.split, w.longest, after_is text at found w);
        placed = ap (λ (n : ℕ). token_of found.piece at n) w.ends ∙ sym (append-nil (token_of found.piece at (at + length w.bytes)));
      },
    )

-- pieces that are no tokens, and then one more piece
pub found_behind : (text : List ℕ) (from at : ℕ) (found : Found) → longest_found Start at (drop at text) ≡ Some found → LexesTo text from at []
    → (from < found.to) × LexesTo text from found.to (token_of found.piece at found.to)
found_behind text from at found e l =
    let here : (at < found.to) × LexesTo text at found.to (token_of found.piece at found.to) = found_lexes text at found e l.inside in
    (omega (arith, here.0, l.rises), joined text from at found.to [] (token_of found.piece at found.to) l here.1)

pub none_lacks : (text : List ℕ) (from at : ℕ) → longest_found Start at (drop at text) ≡ None → at < length text → LexesTo text from at [] → LacksToken text from at
none_lacks text from at e h l =
    let stuck : IsStuck (drop at text) = none_stuck at (drop at text) e in
    (l, record { inside = h; no_piece = stuck.none })

pub ends_here : (text : List ℕ) (from at : ℕ) → length text ≤ at → LexesTo text from at [] → LexesTo text from (length text) []
ends_here text from at h l = subst (λ (n : ℕ). LexesTo text from n []) (omega (arith, l.inside)) l

-- a token behind pieces that are none
pub token_behind : (text : List ℕ) (from at : ℕ) (found : Found) (o : Option Token) → Some found ≡ longest_found Start at (drop at text)
    → token_of found.piece at found.to ≡ option_to_list o → IfSome o (λ t. t.to ≡ found.to) → is_some o ≡ true → LexesTo text from at [] → IsNext text from o
token_behind text from at found None e f g h l = cc
token_behind text from at found (Some t) e f g h l =
    let here : (from < found.to) × LexesTo text from found.to (token_of found.piece at found.to) = found_behind text from at found (sym e) l in
    let put : (from < found.to) × LexesTo text from found.to (t ∷ []) = subst (λ (ts : List Token). (from < found.to) × LexesTo text from found.to ts) f here in
    subst (λ (n : ℕ). (from < n) × LexesTo text from n (t ∷ [])) (sym g) put

-- no token, behind pieces that are none
pub none_behind : (text : List ℕ) (from at : ℕ) (found : Found) (o : Option Token) → Some found ≡ longest_found Start at (drop at text)
    → token_of found.piece at found.to ≡ option_to_list o → is_some o ≡ false → LexesTo text from at [] → (at < found.to) × LexesTo text from found.to []
none_behind text from at found None e f h l =
    let on : (at < found.to) × LexesTo text at found.to (token_of found.piece at found.to) = found_lexes text at found (sym e) l.inside in
    let here : (from < found.to) × LexesTo text from found.to (token_of found.piece at found.to) = found_behind text from at found (sym e) l in
    (on.0, subst (λ (ts : List Token). LexesTo text from found.to ts) f here.1)
none_behind text from at found (Some t) e f h l = cc

-- a blank is one piece
blank_step : (b : ℕ) → is_blank_byte b ≡ true → step Start b ≡ BlankEnd
blank_step b e = elim (or_cases (((b == 32) || (b == 9)) || (b == 13)) (b == 10) e) [
  | inr h ↦ subst (λ (n : ℕ). step Start n ≡ BlankEnd) (sym (eqb-true b 10 h)) refl
  | inl f ↦ elim (or_cases ((b == 32) || (b == 9)) (b == 13) f) [
    | inr h ↦ subst (λ (n : ℕ). step Start n ≡ BlankEnd) (sym (eqb-true b 13 h)) refl
    | inl g ↦ elim (or_cases (b == 32) (b == 9) g) [
      | inl h ↦ subst (λ (n : ℕ). step Start n ≡ BlankEnd) (sym (eqb-true b 32 h)) refl
      | inr h ↦ subst (λ (n : ℕ). step Start n ≡ BlankEnd) (sym (eqb-true b 9 h)) refl
    ]
  ]
]

blank_found : (at b : ℕ) (bs : List ℕ) → is_blank_byte b ≡ true → longest_found Start at (b ∷ bs) ≡ Some (record { piece = piece_kind.Blank; to = at + 1 })
blank_found at b bs e =
    longest_cons Start at b bs ∙ (ap (λ (q : State). later (found_as (accepted q) (at + 1)) (longest_found q (at + 1) bs)) (blank_step b e)
    ∙ ap (λ o. later (Some (record { piece = piece_kind.Blank; to = at + 1 })) o) (none_behind_last BlankEnd (at + 1) bs refl))

-- one blank more
pub blank_more : (text : List ℕ) (from at : ℕ) → at < length text → is_blank_byte (get_or text at 0) ≡ true → LexesTo text from at [] → LexesTo text from (at + 1) []
blank_more text from at h e l =
    let found : longest_found Start at (drop at text) ≡ Some (record { piece = piece_kind.Blank; to = at + 1 })
    = ap (λ u. longest_found Start at u) (drop_more text at 0 h) ∙ blank_found at (get_or text at 0) (drop (at + 1) text) e in
    (found_behind text from at (record { piece = piece_kind.Blank; to = at + 1 }) found l).1

-- a token, where the piece behind blanks is one
pub plain_next : (text : List ℕ) (from at : ℕ) (found : Found) (o : Option Token) → longest_found Start at (drop at text) ≡ Some found
    → token_of found.piece at found.to ≡ option_to_list o → IfSome o (λ t. t.to ≡ found.to) → LexesTo text from at [] → IfSome o (λ t. IsNext text from (Some t))
plain_next text from at found None e f g l = cc
plain_next text from at found (Some t) e f g l = token_behind text from at found (Some t) (sym e) f g refl l
