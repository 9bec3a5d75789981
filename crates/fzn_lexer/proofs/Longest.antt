-- What the machine finds is the longest piece that a text begins with.
use Rattle.std.proofs.Common.{◌≡◌, ◌<◌, ◌≤◌, ◌+◌, ℕ, suc, List, [], ◌∷◌, ◌++◌, get_or, drop, length, refl, sym, ◌∙◌, ap, subst, arith, add-one}
use Rattle.std.specs.Prelude.{true, Option, Some, None}
use Rattle.std.proofs.lemmas.List.{drop_more, at_drop_all}
use Rattle.fzn_lexer.specs.Machine.{step, accepted, is_last, later, found_as, longest_found}
use Rattle.fzn_lexer.specs.declared.PieceKind.{PieceKind}
use Rattle.fzn_lexer.specs.declared.machine.Found.{Found}
use Rattle.fzn_lexer.specs.declared.machine.State.{State}
use Rattle.fzn_lexer.specs.declared.machine.State.TheVariants.{Start, Dead, InWord, Minus, Zero, Digits, HexBase, Hex, OctalBase, Octal, Point, Fraction, ExponentLetter, ExponentSign, Exponent, InText, Escape, TextEnd, MarkEnd, Colon, Dot, InComment, BlankEnd}
use Rattle.fzn_lexer.proofs.Runs.{run}

-- a prefix of the bytes that the machine accepts ends at `found.to`, and no longer one is accepted
pub record IsBest (q : State) (at : ℕ) (s : List ℕ) (found : Found) : Type 0 where
  pub prefix : List ℕ
  pub after : List ℕ
  pub split : s ≡ prefix ++ after
  pub some : 0 < length prefix
  pub ends : found.to ≡ at + length prefix
  pub accepts : accepted (run q prefix) ≡ Some found.piece
  pub most : (kind : PieceKind) (p r : List ℕ) → s ≡ p ++ r → 0 < length p → accepted (run q p) ≡ Some kind → at + length p ≤ found.to

-- no prefix is accepted
pub record IsBare (q : State) (s : List ℕ) : Type 0 where
  pub none : (kind : PieceKind) (p r : List ℕ) → s ≡ p ++ r → 0 < length p → accepted (run q p) ≡ Some kind → ⊥

abbrev pub Best : State → ℕ → List ℕ → Option Found → Type 0
Best q at s None = IsBare q s
Best q at s (Some found) = IsBest q at s found

nothing_left : (q : State) (kind : PieceKind) (p r : List ℕ) → [] ≡ p ++ r → 0 < length p → accepted (run q p) ≡ Some kind → ⊥
nothing_left q kind [] r e n a = absurd (omega arith)
nothing_left q kind (x ∷ p) r e n a = cc

most_after : (q : State) (at b : ℕ) (bs : List ℕ) (found : Found) → IsBest (step q b) (suc at) bs found → (kind : PieceKind) (p r : List ℕ)
    → b ∷ bs ≡ p ++ r → 0 < length p → accepted (run q p) ≡ Some kind → at + length p ≤ found.to
most_after q at b bs found w kind [] r e n a = absurd (omega arith)
most_after q at b bs found w kind (x ∷ []) r e n a = omega (arith, w.ends)
most_after q at b bs found w kind (x ∷ y ∷ p) r e n a =
    let same : x ≡ b = cc in
    let rest : bs ≡ y ∷ (p ++ r) = cc in
    let there : accepted (run (step q b) (y ∷ p)) ≡ Some kind = subst (λ z. accepted (run (step q z) (y ∷ p)) ≡ Some kind) same a in
    let below : suc at + length (y ∷ p) ≤ found.to = w.most kind (y ∷ p) r rest (omega arith) there in
    omega (arith, below)

best_after : (q : State) (at b : ℕ) (bs : List ℕ) (found : Found) → IsBest (step q b) (suc at) bs found → IsBest q at (b ∷ bs) found
best_after q at b bs found w = record {
  prefix = b ∷ w.prefix;
  after = w.after;
  split = ap (λ u. b ∷ u) w.split;
  some = omega arith;
  ends = omega (arith, w.ends);
  accepts = w.accepts;
  most = most_after q at b bs found w;
}

most_here : (q : State) (at b : ℕ) (bs : List ℕ) → IsBare (step q b) bs → (kind : PieceKind) (p r : List ℕ)
    → b ∷ bs ≡ p ++ r → 0 < length p → accepted (run q p) ≡ Some kind → at + length p ≤ suc at
most_here q at b bs w kind [] r e n a = absurd (omega arith)
most_here q at b bs w kind (x ∷ []) r e n a = omega arith
most_here q at b bs w kind (x ∷ y ∷ p) r e n a =
    let same : x ≡ b = cc in
    let rest : bs ≡ y ∷ (p ++ r) = cc in
    let there : accepted (run (step q b) (y ∷ p)) ≡ Some kind = subst (λ z. accepted (run (step q z) (y ∷ p)) ≡ Some kind) same a in
    absurd (w.none kind (y ∷ p) r rest (omega arith) there)

best_here : (q : State) (at b : ℕ) (bs : List ℕ) (k : PieceKind) → accepted (step q b) ≡ Some k → IsBare (step q b) bs
    → IsBest q at (b ∷ bs) (record { piece = k; to = suc at })
best_here q at b bs k e w = record {
  prefix = b ∷ [];
  after = bs;
  split = refl;
  some = omega arith;
  ends = omega arith;
  accepts = e;
  most = most_here q at b bs w;
}

none_here : (q : State) (b : ℕ) (bs : List ℕ) → accepted (step q b) ≡ None → IsBare (step q b) bs → (kind : PieceKind) (p r : List ℕ)
    → b ∷ bs ≡ p ++ r → 0 < length p → accepted (run q p) ≡ Some kind → ⊥
none_here q b bs d w kind [] r e n a = absurd (omega arith)
none_here q b bs d w kind (x ∷ []) r e n a =
    let same : x ≡ b = cc in
    let there : accepted (step q b) ≡ Some kind = subst (λ z. accepted (step q z) ≡ Some kind) same a in
    cc
none_here q b bs d w kind (x ∷ y ∷ p) r e n a =
    let same : x ≡ b = cc in
    let rest : bs ≡ y ∷ (p ++ r) = cc in
    let there : accepted (run (step q b) (y ∷ p)) ≡ Some kind = subst (λ z. accepted (run (step q z) (y ∷ p)) ≡ Some kind) same a in
    w.none kind (y ∷ p) r rest (omega arith) there

combine : (q : State) (at b : ℕ) (bs : List ℕ) (a : Option PieceKind) (o : Option Found) → accepted (step q b) ≡ a
    → Best (step q b) (suc at) bs o → Best q at (b ∷ bs) (later (found_as a (suc at)) o)
combine q at b bs None None e w = record { none = none_here q b bs e w }
combine q at b bs (Some k) None e w = best_here q at b bs k e w
combine q at b bs None (Some f) e w = best_after q at b bs f w
combine q at b bs (Some k) (Some f) e w = best_after q at b bs f w

-- what is found is the best
pub best_found : (q : State) (at : ℕ) (s : List ℕ) → Best q at s (longest_found q at s)
unfolding longest_found
best_found q at [] = record { none = nothing_left q }
best_found q at (b ∷ bs) = combine q at b bs (accepted (step q b)) (longest_found (step q b) (suc at) bs) refl (best_found (step q b) (suc at) bs)

-- nothing is found behind the dead state
pub dead_found : (at : ℕ) (s : List ℕ) → longest_found Dead at s ≡ None
unfolding longest_found
dead_found at [] = refl
dead_found at (b ∷ bs) = ap (λ o. later None o) (dead_found (suc at) bs)

later_assoc : (a b c : Option Found) → later a (later b c) ≡ later (later a b) c
later_assoc a b None = refl
later_assoc a b (Some f) = refl

pub longest_cons : (q : State) (at b : ℕ) (bs : List ℕ) → longest_found q at (b ∷ bs)
    ≡ later (found_as (accepted (step q b)) (at + 1)) (longest_found (step q b) (at + 1) bs)
unfolding longest_found
longest_cons q at b bs = rw (add-one) refl

longest_nil : (q : State) (at : ℕ) → longest_found q at [] ≡ None
unfolding longest_found
longest_nil q at = refl

-- one more byte: the better of what was found and what the rest will find stays
pub found_more : (first whole : Option Found) (q : State) (at : ℕ) (text : List ℕ) → at < length text
    → later first (longest_found q at (drop at text)) ≡ whole
    → later (later first (found_as (accepted (step q (get_or text at 0))) (at + 1))) (longest_found (step q (get_or text at 0)) (at + 1) (drop (at + 1) text)) ≡ whole
found_more first whole q at text h e =
    sym (later_assoc first (found_as (accepted (step q (get_or text at 0))) (at + 1)) (longest_found (step q (get_or text at 0)) (at + 1) (drop (at + 1) text)))
    ∙ (ap (λ o. later first o) (sym (ap (λ u. longest_found q at u) (drop_more text at 0 h) ∙ longest_cons q at (get_or text at 0) (drop (at + 1) text))) ∙ e)

-- at the dead state all is found
pub found_dead : (first whole : Option Found) (q : State) (at : ℕ) (text : List ℕ) → at < length text
    → later first (longest_found q at (drop at text)) ≡ whole → step q (get_or text at 0) ≡ Dead → first ≡ whole
found_dead first whole q at text h e d =
    let more = found_more first whole q at text h e in
    let put = subst (λ (r : State). later (later first (found_as (accepted r) (at + 1))) (longest_found r (at + 1) (drop (at + 1) text)) ≡ whole) d more in
    sym (ap (λ o. later first o) (dead_found (at + 1) (drop (at + 1) text))) ∙ put

-- at the end all is found
pub found_all : (first whole : Option Found) (q : State) (at : ℕ) (text : List ℕ) → length text ≤ at
    → later first (longest_found q at (drop at text)) ≡ whole → first ≡ whole
found_all first whole q at text h e =
    sym (ap (λ o. later first o) (at_drop_all (λ u. longest_found q at u) text at h ∙ longest_nil q at)) ∙ e

-- a last state dies at the next byte
step_last : (q : State) (b : ℕ) → is_last q ≡ true → step q b ≡ Dead
step_last TextEnd b e = refl
step_last MarkEnd b e = refl
step_last BlankEnd b e = refl
step_last Start b e = cc
step_last Dead b e = cc
step_last InWord b e = cc
step_last Minus b e = cc
step_last Zero b e = cc
step_last Digits b e = cc
step_last HexBase b e = cc
step_last Hex b e = cc
step_last OctalBase b e = cc
step_last Octal b e = cc
step_last Point b e = cc
step_last Fraction b e = cc
step_last ExponentLetter b e = cc
step_last ExponentSign b e = cc
step_last Exponent b e = cc
step_last InText b e = cc
step_last Escape b e = cc
step_last Colon b e = cc
step_last Dot b e = cc
step_last InComment b e = cc

-- nothing is found behind a last state
pub none_behind_last : (q : State) (at : ℕ) (s : List ℕ) → is_last q ≡ true → longest_found q at s ≡ None
unfolding longest_found
none_behind_last q at [] e = refl
none_behind_last q at (b ∷ bs) e =
    ap (λ (r : State). later (found_as (accepted r) (suc at)) (longest_found r (suc at) bs)) (step_last q b e) ∙ ap (λ o. later None o) (dead_found (suc at) bs)

-- at a last state all is found
pub found_last : (first whole : Option Found) (q : State) (at : ℕ) (s : List ℕ) → later first (longest_found q at s) ≡ whole → is_last q ≡ true → first ≡ whole
found_last first whole q at s e l = sym (ap (λ o. later first o) (none_behind_last q at s l)) ∙ e
