-- The turns of the loop that reads annotations.
use Rattle.std.proofs.Common.{◌≡◌, ℕ, zero, suc, List, [], ◌∷◌, ◌++◌, Bool, true, false, cond, Option, Some, None, refl, ap, sym, ◌∙◌, append-nil}
use Rattle.fzn_lexer.specs.declared.Token.{Token}
use Rattle.fzn_parser.specs.declared.cursor.Symbol.{Symbol}
use Rattle.fzn_parser.specs.declared.cursor.Class.{Class}
use Rattle.fzn_parser.specs.declared.cursor.Lexeme.{Lexeme}
use Rattle.fzn_parser.specs.Terminals.{begins, rest, kept_at}
use Rattle.fzn_parser.specs.Reading.{mapped, and_then}
use Rattle.fzn_parser.specs.Notes.{AnnTree, called_at, notes_more}
use Rattle.fzn_parser.proofs.Lists.{none_before, one_before}

abbrev pub noted : ℕ → ℕ → Option (AnnTree × List Lexeme) → Option (List AnnTree × List Lexeme)
noted k n o = and_then o (λ note ns. mapped (λ notes. note ∷ notes) (notes_more k n ns))

abbrev pub named : ℕ → ℕ → Option (Token × List Lexeme) → Option (List AnnTree × List Lexeme)
named k n o = and_then o (λ name ms. noted k n (called_at k name ms))

pub notes_opened : (k n : ℕ) (ls : List Lexeme) → begins Symbol.DoubleColon ls ≡ true → notes_more k (suc n) ls ≡ named k n (kept_at Class.Name (rest ls))
unfolding notes_more
notes_opened k n ls e = ap (λ b. cond b (named k n (kept_at Class.Name (rest ls))) (Some ([], ls))) e

pub notes_ended : (k n : ℕ) (ls : List Lexeme) → begins Symbol.DoubleColon ls ≡ false → notes_more k n ls ≡ Some ([], ls)
unfolding notes_more
notes_ended k zero ls e = refl
notes_ended k (suc n) ls e = ap (λ b. cond b (named k n (kept_at Class.Name (rest ls))) (Some ([], ls))) e

-- the state of the loop
pub record GoingNotes (k n : ℕ) (ls : List Lexeme) (xs : List AnnTree) (j : ℕ) (ms : List Lexeme) : Type 0 where
  pub same : notes_more k n ls ≡ mapped (λ ys. xs ++ ys) (notes_more k j ms)

pub notes_start : (k n : ℕ) (ls : List Lexeme) (xs : List AnnTree) (j : ℕ) → xs ≡ [] → j ≡ n → GoingNotes k n ls xs j ls
notes_start k n ls xs j e f = record { same = none_before _ ∙ ap (λ ys. mapped (λ zs. ys ++ zs) (notes_more k n ls)) (sym e) ∙ ap (λ m. mapped (λ zs. xs ++ zs) (notes_more k m ls)) (sym f) }

abbrev passed : Bool → List Lexeme → List Lexeme → Type 0
passed b ls ms = (b ≡ begins Symbol.DoubleColon ls) × (ms ≡ cond b (rest ls) ls)

pub notes_close : {k n : ℕ} {ls : List Lexeme} {xs : List AnnTree} {j : ℕ} {ms : List Lexeme} (b : Bool) (os : List Lexeme) → GoingNotes k n ls xs j ms → b ≡ begins Symbol.DoubleColon ms → b ≡ false → os ≡ cond b (rest ms) ms → notes_more k n ls ≡ Some (xs, os)
notes_close {k} {n} {ls} {xs} {j} {ms} b os g e f h =
    let left : os ≡ ms = h ∙ ap (λ v. cond v (rest ms) ms) f in
    g.same ∙ ap (mapped (λ ys. xs ++ ys)) (notes_ended k j ms (sym e ∙ f)) ∙ ap (λ ys. Some (ys, ms)) (append-nil xs) ∙ ap (λ ns. Some (xs, ns)) (sym left)

pub notes_out : {k n : ℕ} {ls : List Lexeme} {xs : List AnnTree} {j : ℕ} {ms : List Lexeme} → GoingNotes k n ls xs j ms → j ≡ 0 → notes_more k n ls ≡ Some (xs, ms)
unfolding notes_more
notes_out {k} {n} {ls} {xs} {j} {ms} g e = g.same ∙ ap (λ m. mapped (λ ys. xs ++ ys) (notes_more k m ms)) e ∙ ap (λ ys. Some (ys, ms)) (append-nil xs)

step : (k n : ℕ) (ms os : List Lexeme) (b : Bool) → b ≡ begins Symbol.DoubleColon ms → b ≡ true → os ≡ cond b (rest ms) ms → notes_more k (suc n) ms ≡ named k n (kept_at Class.Name os)
step k n ms os b e f h =
    let left : os ≡ rest ms = h ∙ ap (λ v. cond v (rest ms) ms) f in
    notes_opened k n ms (sym e ∙ f) ∙ ap (λ ns. named k n (kept_at Class.Name ns)) (sym left)

pub notes_nameless : {k n : ℕ} {ls : List Lexeme} {xs : List AnnTree} {j : ℕ} {ms : List Lexeme} (i : ℕ) (b : Bool) (os : List Lexeme) → GoingNotes k n ls xs j ms → j ≡ suc i → b ≡ begins Symbol.DoubleColon ms → b ≡ true → os ≡ cond b (rest ms) ms → kept_at Class.Name os ≡ None → notes_more k n ls ≡ None
notes_nameless {k} {n} {ls} {xs} {j} {ms} i b os g q e f h failed =
    g.same ∙ ap (λ m. mapped (λ ys. xs ++ ys) (notes_more k m ms)) q ∙ ap (mapped (λ ys. xs ++ ys)) (step k i ms os b e f h ∙ ap (named k i) failed)

pub notes_failed : {k n : ℕ} {ls : List Lexeme} {xs : List AnnTree} {j : ℕ} {ms : List Lexeme} (i : ℕ) (b : Bool) (os ps : List Lexeme) (name : Token) → GoingNotes k n ls xs j ms → j ≡ suc i → b ≡ begins Symbol.DoubleColon ms → b ≡ true → os ≡ cond b (rest ms) ms → kept_at Class.Name os ≡ Some (name, ps) → called_at k name ps ≡ None → notes_more k n ls ≡ None
notes_failed {k} {n} {ls} {xs} {j} {ms} i b os ps name g q e f h named_so failed =
    g.same ∙ ap (λ m. mapped (λ ys. xs ++ ys) (notes_more k m ms)) q ∙ ap (mapped (λ ys. xs ++ ys)) (step k i ms os b e f h ∙ ap (named k i) named_so ∙ ap (noted k i) failed)

pub notes_on : {k n : ℕ} {ls : List Lexeme} {xs : List AnnTree} {j : ℕ} {ms : List Lexeme} (i : ℕ) (b : Bool) (os ps qs : List Lexeme) (name : Token) (note : AnnTree) → GoingNotes k n ls xs j ms → j ≡ suc i → b ≡ begins Symbol.DoubleColon ms → b ≡ true → os ≡ cond b (rest ms) ms → kept_at Class.Name os ≡ Some (name, ps) → called_at k name ps ≡ Some (note, qs) → GoingNotes k n ls (xs ++ note ∷ []) i qs
notes_on {k} {n} {ls} {xs} {j} {ms} i b os ps qs name note g q e f h named_so done = record {
  same = g.same ∙ ap (λ m. mapped (λ ys. xs ++ ys) (notes_more k m ms)) q ∙ ap (mapped (λ ys. xs ++ ys)) (step k i ms os b e f h ∙ ap (named k i) named_so ∙ ap (noted k i) done) ∙ one_before xs note _;
}
