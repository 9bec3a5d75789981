-- Cuts of a text into its longest pieces: made one by one, and only one is possible.
use Rattle.std.proofs.Common.{◌≡◌, ◌<◌, ◌≤◌, ◌+◌, ◌-◌, ◌⊎◌, inl, inr, ℕ, zero, suc, List, [], ◌∷◌, ◌++◌, take, drop, length, refl, sym, ◌∙◌, ap, subst, arith, append_assoc, length-append, length-drop}
use Rattle.std.specs.Prelude.{Option, Some, None, slice_range, All}
use Rattle.std.proofs.lemmas.Bool.{cases_lt}
use Rattle.std.proofs.lemmas.List.{append_cancel_left, append-nil, at_drop_all, drop-drop}
use Rattle.std.proofs.lemmas.List.Elements.{All-append, All-cons}
use Rattle.std.proofs.Math.Seq.{take-append_seam, drop-append_seam}
use Rattle.fzn_lexer.specs.Lexing.{Piece, IsLongest, CutsInto, token_of, tokens_from, LexesAs, FaultsAt, LiesIn, RiseFrom}
use Rattle.fzn_lexer.specs.Spelling.{Spells}
use Rattle.fzn_lexer.specs.Machine.{accepted, longest_found}
use Rattle.fzn_lexer.specs.declared.PieceKind.{PieceKind}
use Rattle.fzn_lexer.specs.declared.PieceKind.TheVariants as piece_kind
use Rattle.fzn_lexer.specs.declared.Token.{Token}
use Rattle.fzn_lexer.specs.declared.machine.Found.{Found}
use Rattle.fzn_lexer.specs.declared.machine.State.TheVariants.{Start}
use Rattle.fzn_lexer.proofs.Runs.{run, accepts_spells, spells_accepts}
use Rattle.fzn_lexer.proofs.Longest.{IsBest, IsBare, Best, best_found}

-- a piece has at least one byte
pub some_bytes : (kind : PieceKind) (s : List ℕ) → Spells kind s → 0 < length s
some_bytes kind [] w = let h = spells_accepts kind [] w in cc
some_bytes kind (b ∷ bs) w = omega arith

-- no prefix spells a piece
pub record IsStuck (s : List ℕ) : Type 0 where
  pub none : (kind : PieceKind) (prefix after : List ℕ) → s ≡ prefix ++ after → Spells kind prefix → ⊥

pub end_stuck : IsStuck []
end_stuck = record {
  none = λ kind prefix after e w. let some : 0 < length prefix = some_bytes kind prefix w in
      let sizes : 0 ≡ length (prefix ++ after) = ap length e in
      let sum : length (prefix ++ after) ≡ length prefix + length after = length-append prefix after in omega arith;
}

bare_stuck : (s : List ℕ) → IsBare Start s → IsStuck s
bare_stuck s w = record { none = λ kind prefix after e h. w.none kind prefix after e (some_bytes kind prefix h) (spells_accepts kind prefix h) }

-- where nothing is found, no prefix spells a piece
pub none_stuck : (at : ℕ) (s : List ℕ) → longest_found Start at s ≡ None → IsStuck s
none_stuck at s e = bare_stuck s (subst (λ (o : Option Found). Best Start at s o) e (best_found Start at s))

-- a piece found at a place, and what remains behind it
pub record IsFound (s : List ℕ) (at : ℕ) (found : Found) : Type 0 where
  pub bytes : List ℕ
  pub after : List ℕ
  pub split : s ≡ bytes ++ after
  pub some : 0 < length bytes
  pub ends : found.to ≡ at + length bytes
  pub longest : IsLongest (record { kind = found.piece; bytes = bytes }) s

best_longest : (at : ℕ) (s : List ℕ) (found : Found) → IsBest Start at s found → IsFound s at found
best_longest at s found w = record {
  bytes = w.prefix;
  after = w.after;
  split = w.split;
  some = w.some;
  ends = w.ends;
  longest = record {
    spells = accepts_spells found.piece w.prefix w.accepts;
    longest = λ kind prefix after e h.
        let most : at + length prefix ≤ found.to = w.most kind prefix after e (some_bytes kind prefix h) (spells_accepts kind prefix h) in
        omega (arith, w.ends);
  };
}

-- what is found is the longest piece
pub some_found : (at : ℕ) (s : List ℕ) (found : Found) → longest_found Start at s ≡ Some found → IsFound s at found
some_found at s found e = best_longest at s found (subst (λ (o : Option Found). Best Start at s o) e (best_found Start at s))

-- from a place on, what remains is cut so, and the tokens are these
pub record LexFrom (at : ℕ) (text rest : List ℕ) (tokens : List Token) : Type 0 where
  pub pieces : List Piece
  pub cut : CutsInto pieces rest text
  pub placed : tokens ≡ tokens_from at pieces

pub lex_nothing : (at : ℕ) (text : List ℕ) → LexFrom at text text []
lex_nothing at text = record { pieces = []; cut = refl; placed = refl }

-- one more piece in front
pub lex_piece : (s : List ℕ) (at : ℕ) (found : Found) (w : IsFound s at found) (rest : List ℕ) (ts : List Token)
    → LexFrom found.to w.after rest ts → LexFrom at s rest (token_of found.piece at found.to ++ ts)
lex_piece s at found w rest ts l = record {
  pieces = record { kind = found.piece; bytes = w.bytes } ∷ l.pieces;
  cut = (w.after, w.split, w.longest, l.cut);
  placed = ap (λ u. token_of found.piece at found.to ++ u) l.placed
      ∙ ap (λ (n : ℕ). token_of found.piece at n ++ tokens_from n l.pieces) w.ends;
}

-- what remains behind a piece that was found
pub found_after : (text : List ℕ) (at : ℕ) (found : Found) (w : IsFound (drop at text) at found) → at ≤ length text
    → (found.to ≤ length text) × (at < found.to)
found_after text at found w h =
    let sizes : length (drop at text) ≡ length (w.bytes ++ w.after) = ap length w.split in
    let sum : length (w.bytes ++ w.after) ≡ length w.bytes + length w.after = length-append w.bytes w.after in
    let left : length (drop at text) ≡ length text - at = length-drop at text in
    let some : 0 < length w.bytes = w.some in
    let ends : found.to ≡ at + length w.bytes = w.ends in
    (omega arith, omega arith)

pub after_is : (text : List ℕ) (at : ℕ) (found : Found) (w : IsFound (drop at text) at found) → w.after ≡ drop found.to text
after_is text at found w =
    sym (drop-append_seam w.bytes w.after) ∙ (ap (λ u. drop (length w.bytes) u) (sym w.split)
    ∙ (drop-drop (length w.bytes) at text ∙ ap (λ n. drop n text) (sym w.ends)))

-- what was read so far goes on with what remains
pub record Reads (text : List ℕ) (at : ℕ) (tokens : List Token) : Type 0 where
  pub goes_on : (rest : List ℕ) (ts : List Token) → LexFrom at (drop at text) rest ts → LexFrom 0 text rest (tokens ++ ts)

pub reads_nothing : (text : List ℕ) → Reads text 0 []
reads_nothing text = record { goes_on = λ rest ts l. l }

pub reads_more : (text : List ℕ) (at : ℕ) (tokens : List Token) (found : Found) → longest_found Start at (drop at text) ≡ Some found
    → Reads text at tokens → Reads text found.to (tokens ++ token_of found.piece at found.to)
reads_more text at tokens found e r =
    let w : IsFound (drop at text) at found = some_found at (drop at text) found e in
    record {
      goes_on = λ rest ts l.
          let here : LexFrom found.to w.after rest ts = subst (λ (u : List ℕ). LexFrom found.to u rest ts) (sym (after_is text at found w)) l in
          subst (λ (us : List Token). LexFrom 0 text rest us) (sym (append_assoc tokens (token_of found.piece at found.to) ts))
          (r.goes_on rest (token_of found.piece at found.to ++ ts) (lex_piece (drop at text) at found w rest ts here));
    }

pub more_within : (text : List ℕ) (at : ℕ) (found : Found) → longest_found Start at (drop at text) ≡ Some found → at ≤ length text
    → (found.to ≤ length text) × (at < found.to)
more_within text at found e h = found_after text at found (some_found at (drop at text) found e) h

pub reads_all : (text : List ℕ) (at : ℕ) (tokens : List Token) → at ≡ length text → Reads text at tokens → LexesAs text tokens
reads_all text at tokens e r =
    let none : drop at text ≡ [] = at_drop_all (λ u. u) text at (omega arith) in
    let l : LexFrom 0 text [] (tokens ++ []) = r.goes_on [] [] (subst (λ (u : List ℕ). LexFrom at u [] []) (sym none) (lex_nothing at [])) in
    record { pieces = l.pieces; cut = l.cut; placed = sym (append-nil tokens) ∙ l.placed }

pub reads_fault : (text : List ℕ) (at : ℕ) (tokens : List Token) → at < length text → longest_found Start at (drop at text) ≡ None
    → Reads text at tokens → FaultsAt text at
reads_fault text at tokens h e r =
    let l : LexFrom 0 text (drop at text) (tokens ++ []) = r.goes_on (drop at text) [] (lex_nothing at (drop at text)) in
    let stuck : IsStuck (drop at text) = none_stuck at (drop at text) e in
    record { pieces = l.pieces; cut = l.cut; inside = h; no_piece = stuck.none }

-- every text has tokens or a fault
abbrev pub Reading : List ℕ → Type 0
Reading text = ((ts : List Token) × LexesAs text ts) ⊎ ((at : ℕ) × FaultsAt text at)

reads_end : (text : List ℕ) (at : ℕ) (tokens : List Token) → at ≤ length text → longest_found Start at (drop at text) ≡ None
    → Reads text at tokens → Reading text
reads_end text at tokens h e r =
    elim (cases_lt at (length text)) [
      | inl inside ↦ inr (at, reads_fault text at tokens inside e r)
      | inr past ↦ inl (tokens, reads_all text at tokens (omega arith) r)
    ]

-- at most `n` more pieces remain
reads_on : (n : ℕ) (text : List ℕ) (at : ℕ) (tokens : List Token) (o : Option Found) → longest_found Start at (drop at text) ≡ o
    → length text ≤ at + n → at ≤ length text → Reads text at tokens → Reading text
reads_on zero text at tokens None e n h r = reads_end text at tokens h e r
reads_on (suc m) text at tokens None e n h r = reads_end text at tokens h e r
reads_on zero text at tokens (Some found) e n h r =
    let within : (found.to ≤ length text) × (at < found.to) = more_within text at found e h in absurd (omega (arith, within.0, within.1))
reads_on (suc m) text at tokens (Some found) e n h r =
    let within : (found.to ≤ length text) × (at < found.to) = more_within text at found e h in
    reads_on m text found.to (tokens ++ token_of found.piece at found.to) (longest_found Start found.to (drop found.to text)) refl
    (omega (arith, within.1)) within.0 (reads_more text at tokens found e r)

pub reading : (text : List ℕ) → Reading text
reading text = reads_on (length text) text 0 [] (longest_found Start 0 text) refl (omega arith) (omega arith) (reads_nothing text)

-- two longest prefixes of a text are one
pub one_longest : (s a b : List ℕ) (p q : Piece) → IsLongest p s → IsLongest q s → s ≡ p.bytes ++ a → s ≡ q.bytes ++ b
    → (p.kind ≡ q.kind) × (length p.bytes ≡ length q.bytes) × (a ≡ b)
one_longest s a b p q u v e f =
    let up : length q.bytes ≤ length p.bytes = u.longest q.kind q.bytes b f v.spells in
    let down : length p.bytes ≤ length q.bytes = v.longest p.kind p.bytes a e u.spells in
    let sizes : length p.bytes ≡ length q.bytes = omega arith in
    let same : p.bytes ≡ q.bytes = sym (take-append_seam p.bytes a) ∙ (ap (λ t. take (length p.bytes) t) (sym e ∙ f)
    ∙ (ap (λ n. take n (q.bytes ++ b)) sizes ∙ take-append_seam q.bytes b)) in
    let one : accepted (run Start p.bytes) ≡ Some p.kind = spells_accepts p.kind p.bytes u.spells in
    let other : accepted (run Start q.bytes) ≡ Some q.kind = spells_accepts q.kind q.bytes v.spells in
    let both : Some p.kind ≡ Some q.kind = sym one ∙ (ap (λ t. accepted (run Start t)) same ∙ other) in
    let rests : a ≡ b = append_cancel_left p.bytes a b (sym e ∙ (f ∙ ap (λ t. t ++ b) (sym same))) in
    (cc, sizes, rests)

-- two cuts of a text that go as far as they can have the same tokens and leave the same rest
pub one_cut : (at : ℕ) (s : List ℕ) (ps qs : List Piece) (r t : List ℕ) → CutsInto ps r s → CutsInto qs t s → IsStuck r → IsStuck t
    → (tokens_from at ps ≡ tokens_from at qs) × (r ≡ t)
one_cut at s [] [] r t c d u v = (refl, sym c ∙ d)
one_cut at s [] (q ∷ qs) r t c d u v = absurd (u.none q.kind q.bytes d.0 (sym c ∙ d.1) d.2.spells)
one_cut at s (p ∷ ps) [] r t c d u v = absurd (v.none p.kind p.bytes c.0 (sym d ∙ c.1) c.2.spells)
one_cut at s (p ∷ ps) (q ∷ qs) r t c d u v =
    let same : (p.kind ≡ q.kind) × (length p.bytes ≡ length q.bytes) × (c.0 ≡ d.0) = one_longest s c.0 d.0 p q c.2 d.2 c.1 d.1 in
    let here : CutsInto qs t c.0 = subst (λ (w : List ℕ). CutsInto qs t w) (sym same.2) d.3 in
    let rest : (tokens_from (at + length p.bytes) ps ≡ tokens_from (at + length p.bytes) qs) × (r ≡ t)
    = one_cut (at + length p.bytes) c.0 ps qs r t c.3 here u v in (
      ap (λ ts. token_of p.kind at (at + length p.bytes) ++ ts) rest.0
          ∙ (ap (λ (k : PieceKind). token_of k at (at + length p.bytes) ++ tokens_from (at + length p.bytes) qs) same.0
          ∙ ap (λ (n : ℕ). token_of q.kind at (at + n) ++ tokens_from (at + n) qs) same.1),
      rest.1,
    )

pub one_list : (text : List ℕ) (ts us : List Token) → LexesAs text ts → LexesAs text us → ts ≡ us
one_list text ts us l m =
    let same : (tokens_from 0 l.pieces ≡ tokens_from 0 m.pieces) × ([] ≡ []) = one_cut 0 text l.pieces m.pieces [] [] l.cut m.cut end_stuck end_stuck in
    l.placed ∙ (same.0 ∙ sym m.placed)

fault_stuck : (text : List ℕ) (at : ℕ) (f : FaultsAt text at) → IsStuck (drop at text)
fault_stuck text at f = record { none = f.no_piece }

pub one_fault : (text : List ℕ) (at place : ℕ) → FaultsAt text at → FaultsAt text place → at ≡ place
one_fault text at place f g =
    let same : (tokens_from 0 f.pieces ≡ tokens_from 0 g.pieces) × (drop at text ≡ drop place text)
    = one_cut 0 text f.pieces g.pieces (drop at text) (drop place text) f.cut g.cut (fault_stuck text at f) (fault_stuck text place g) in
    let sizes : length (drop at text) ≡ length (drop place text) = ap length same.1 in
    let left : length (drop at text) ≡ length text - at = length-drop at text in
    let right : length (drop place text) ≡ length text - place = length-drop place text in
    omega (arith, f.inside, g.inside)

pub never_both : (text : List ℕ) (ts : List Token) (at : ℕ) → LexesAs text ts → FaultsAt text at → ⊥
never_both text ts at l f =
    let same : (tokens_from 0 l.pieces ≡ tokens_from 0 f.pieces) × ([] ≡ drop at text)
    = one_cut 0 text l.pieces f.pieces [] (drop at text) l.cut f.cut end_stuck (fault_stuck text at f) in
    let sizes : 0 ≡ length (drop at text) = ap (λ (u : List ℕ). length u) same.1 in
    let left : length (drop at text) ≡ length text - at = length-drop at text in
    omega (arith, f.inside)

-- the first token may begin earlier
rise_earlier : (ts : List Token) (early late : ℕ) → early ≤ late → RiseFrom late ts → RiseFrom early ts
rise_earlier [] early late h w = tt
rise_earlier (t ∷ ts) early late h w = (let from : late ≤ t.from = w.0 in omega arith, w.1)

rise_token : (kind : PieceKind) (from to : ℕ) (ts : List Token) → from ≤ to → RiseFrom to ts → RiseFrom from (token_of kind from to ++ ts)
rise_token (piece_kind.Token kind) from to ts h w = (omega arith, w)
rise_token piece_kind.Blank from to ts h w = rise_earlier ts from to h w
rise_token piece_kind.Comment from to ts h w = rise_earlier ts from to h w

rise_pieces : (at : ℕ) (ps : List Piece) → RiseFrom at (tokens_from at ps)
rise_pieces at [] = tt
rise_pieces at (p ∷ ps) = rise_token p.kind at (at + length p.bytes) (tokens_from (at + length p.bytes) ps) (omega arith) (rise_pieces (at + length p.bytes) ps)

pub rise : (text : List ℕ) (ts : List Token) → LexesAs text ts → RiseFrom 0 ts
rise text ts l = subst (λ (us : List Token). RiseFrom 0 us) (sym l.placed) (rise_pieces 0 l.pieces)

-- the bytes of a piece at its place
bytes_at : (before bytes after : List ℕ) → slice_range (before ++ (bytes ++ after)) (length before) (length before + length bytes) ≡ bytes
bytes_at before bytes after =
    let size : length before + length bytes - length before ≡ length bytes = omega arith in
    ap (λ n. take n (drop (length before) (before ++ (bytes ++ after)))) size
    ∙ (ap (λ u. take (length bytes) u) (drop-append_seam before (bytes ++ after)) ∙ take-append_seam bytes after)

token_lies : (before bytes after : List ℕ) (kind : PieceKind) → Spells kind bytes
    → All (LiesIn (before ++ (bytes ++ after))) (token_of kind (length before) (length before + length bytes))
token_lies before bytes after (piece_kind.Token k) w =
    let some : 0 < length bytes = some_bytes (piece_kind.Token k) bytes w in
    let text : List ℕ = before ++ (bytes ++ after) in
    let sizes : length (before ++ (bytes ++ after)) ≡ length before + length (bytes ++ after) = length-append before (bytes ++ after) in
    let size : length (bytes ++ after) ≡ length bytes + length after = length-append bytes after in
    let lies : LiesIn (before ++ (bytes ++ after)) (record { kind = k; from = length before; to = length before + length bytes }) = record {
      some = omega arith;
      inside = omega arith;
      spells = subst (λ (u : List ℕ). Spells (piece_kind.Token k) u) (sym (bytes_at before bytes after)) w;
    } in
    All-cons (LiesIn (before ++ (bytes ++ after))) (record { kind = k; from = length before; to = length before + length bytes }) [] lies (λ k d h. absurd (omega arith))
token_lies before bytes after piece_kind.Blank w = λ k d h. absurd (omega arith)
token_lies before bytes after piece_kind.Comment w = λ k d h. absurd (omega arith)

lie_pieces : (before s : List ℕ) (ps : List Piece) → CutsInto ps [] s → All (LiesIn (before ++ s)) (tokens_from (length before) ps)
lie_pieces before s [] c = λ k d h. absurd (omega arith)
lie_pieces before s (p ∷ ps) c =
    let whole : before ++ s ≡ before ++ (p.bytes ++ c.0) = ap (λ u. before ++ u) c.1 in
    let split : before ++ s ≡ (before ++ p.bytes) ++ c.0 = whole ∙ sym (append_assoc before p.bytes c.0) in
    let here : All (LiesIn (before ++ s)) (token_of p.kind (length before) (length before + length p.bytes))
    = subst (λ (u : List ℕ). All (LiesIn u) (token_of p.kind (length before) (length before + length p.bytes))) (sym whole)
    (token_lies before p.bytes c.0 p.kind c.2.spells) in
    let behind : All (LiesIn ((before ++ p.bytes) ++ c.0)) (tokens_from (length (before ++ p.bytes)) ps) = lie_pieces (before ++ p.bytes) c.0 ps c.3 in
    let there : All (LiesIn (before ++ s)) (tokens_from (length before + length p.bytes) ps)
    = subst (λ (n : ℕ). All (LiesIn (before ++ s)) (tokens_from n ps)) (length-append before p.bytes)
    (subst (λ (u : List ℕ). All (LiesIn u) (tokens_from (length (before ++ p.bytes)) ps)) (sym split) behind) in
    All-append (LiesIn (before ++ s)) (token_of p.kind (length before) (length before + length p.bytes)) (tokens_from (length before + length p.bytes) ps) here there

pub lie : (text : List ℕ) (ts : List Token) → LexesAs text ts → All (LiesIn text) ts
lie text ts l = subst (λ (us : List Token). All (LiesIn text) us) (sym l.placed) (lie_pieces [] text l.pieces l.cut)
