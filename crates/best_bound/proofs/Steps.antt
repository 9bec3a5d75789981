-- What the calls of the table of the word ask of each kind of step.
use Rattle.std.proofs.Common.{ℕ, zero, suc, ◌≡◌, ◌≢◌, ◌⊎◌, ◌<◌, ◌≤◌, min, List, [], ◌∷◌, ◌++◌, set, Bool, inl, inr, ⊎_elim, refl, sym, ap, ◌∙◌, subst, arith, length-set, eq-eqb, ne_eqb}
use Rattle.std.specs.Prelude.{slice_index, slice_set, ◌==◌}
use mathlib.Core.Option.{some, some-injective, some-ne-none}
use mathlib.Core.Option as maybe
use mathlib.Core.Logic.{dite}
use native.Mathlib.Decide.{ℕ_discrete}
use lib.ListN.{get_elem?}
use Rattle.std.proofs.lemmas.Grind.{get_or-set_at}
use Rattle.atomic_table.specs.Table.{State, Me, Allows, Splits, Joins, opening, keeps, step}
use Rattle.atomic_table.proofs.Lists.{at_set, at_snoc, at_longer, set_here, set_else}
use Rattle.best_bound.specs.declared.table.View.{View}
use Rattle.best_bound.specs.Lists.{Among}
use Rattle.best_bound.specs.Codes.{none_word}
use Rattle.best_bound.specs.Rule.{IsPosted, Knows, Lawful, Keeps, first_view, with_word, seeing, posting, Hears, looked, told, one_less, one_part, joined, spent_view, IsReady}
use Rattle.best_bound.proofs.ListLaws.{among_left, among_right, among_both, total-set, total-snoc}
use Rattle.best_bound.proofs.Moves.{Moves, moved, knows_all, still_posted, still_knows, is_inside}

pub opens : (T : ℕ → Type 0) (words : List ℕ) → words ≡ none_word ∷ [] → Keeps T (opening words [] first_view)
opens T words e = subst (λ (l : List ℕ). Keeps T (opening l [] first_view)) (sym e) (
  omega arith,
  record {
    word_is = inl refl;
    each = λ j v at. only j v at;
    total = refl;
  },
)
  where
    fresh : Knows T none_word (first_view ∷ []) first_view
    fresh = record { seen = λ x h. absurd h; posts = λ x h. absurd h; spent = λ _. refl }

    only : (j : ℕ) (v : View) → get_elem? (first_view ∷ []) j ≡ some v → Knows T none_word (first_view ∷ []) v
    only zero v at = subst (Knows T none_word (first_view ∷ [])) (some-injective first_view v at) fresh
    only (suc j) v at = absurd (some-ne-none v (sym at))

-- what the rule says of the view w of the seat id, when the word is m
hears : (T : ℕ → Type 0) (m : ℕ) (views : List View) (id : ℕ) (w : View) → Lawful T m views → get_elem? views id ≡ some w → Hears T m w
hears T m views id w law at = record {
  seen = λ x h. let k = (law.each id w at).seen x h in let p = k.1 in let q = (law.each p.seat p.view p.there).posts x p.posted in (k.0, q.1, q.2);
  posts = λ x h. (law.each id w at).posts x h;
  all = λ e x h. knows_all T m views id w x law at e ((law.each id w at).seen x h).1;
}

-- a step that leaves m in the word and w as the view
keeps_rule : (T : ℕ → Type 0) (s : State ℕ View) (id m : ℕ) (v w : View) → Keeps T s → get_elem? s.views id ≡ some v → Moves T (slice_index s.words 0) m v w
    → Keeps T record { words = slice_set s.words 0 m; homes = s.homes; views = slice_set s.views id w } × Hears T m w
keeps_rule T s id m v w law at owes =
    let after = moved T (slice_index s.words 0) m s.views id v w law.1 at owes in
    let here : slice_index (slice_set s.words 0 m) 0 ≡ m = get_or-set_at s.words 0 0 m 0 refl law.0 in (
      (let a = law.0 in omega (arith, length-set s.words 0 m), subst (λ (n : ℕ). Lawful T n (set s.views id w)) (sym here) after),
      hears T m (set s.views id w) id w after (set_here s.views id w (is_inside s.views id v at)),
    )

seen_kept : (T : ℕ → Type 0) (n x : ℕ) (seen : List ℕ) → Among (with_word (n == none_word) seen n) x → Among seen x ⊎ ((n ≡ x) × (x ≢ none_word))
seen_kept T n x seen h =
    dite (ℕ_discrete n none_word)
    (λ (e : n ≡ none_word). inl (subst (λ (b : Bool). Among (with_word b seen n) x) (eq-eqb n none_word e) h))
    (λ (ne : n ≢ none_word). ⊎_elim (λ (e : n ≡ x). inr (e, λ z. ne (e ∙ z))) (λ was. inl was) (subst (λ (b : Bool). Among (with_word b seen n) x) (ne_eqb n none_word ne) h))

pub looks : (T : ℕ → Type 0) (slots id : ℕ) (me : Me ℕ View) → IsReady me → Allows (Keeps T) slots id me 0 (λ n. n) (looked T (step slots 0 0 0 maybe.none) me)
looks T slots id me ready s law homes at fits =
    let n = slice_index s.words 0 in
    let r = keeps_rule T s id n me.0 (seeing me.0 n) law at record {
      parts = refl;
      live = ready.live;
      falls = omega arith;
      keeps = λ x h. h;
      word_is = inl refl;
      posts = λ x h. inl h;
      seen = λ x h. seen_kept T n x me.0.seen h;
    } in (seeing me.0 n, keeps, tt, r.0, record { slots = refl; view = refl; hears = r.1 })

pub tells : (T : ℕ → Type 0) (slots id word : ℕ) (me : Me ℕ View) → IsReady me → word < none_word → T word → Allows (Keeps T) slots id me 0 (λ n. min n word) (told T (step slots 0 word 0 maybe.none) me)
tells T slots id word me ready below passes s law homes at fits =
    let n = slice_index s.words 0 in
    let r = keeps_rule T s id (min n word) me.0 (posting me.0 word (min n word)) law at record {
      parts = refl;
      live = ready.live;
      falls = omega arith;
      keeps = λ x h. inr h;
      word_is = dite (ℕ_discrete (min n word) n) (λ e. inl e) (λ (ne : min n word ≢ n). inr (inl (omega arith)));
      posts = λ x h. ⊎_elim (λ (e : word ≡ x). inr (omega arith, omega arith, subst T e passes)) (λ was. inl was) h;
      seen = λ x h. ⊎_elim (λ (e : min n word ≡ x). inr (e, λ z. omega arith)) (λ was. inl was) h;
    } in (posting me.0 word (min n word), keeps, tt, r.0, record { slots = refl; view = refl; at_most = omega arith; hears = r.1 })

pub splits : (T : ℕ → Type 0) (id : ℕ) (v : View) → 1 < v.parts → Splits (Keeps T) id v (one_less v) (one_part v)
splits T id v more s law at = (
  law.0,
  record {
    word_is = ⊎_elim (λ e. inl e) (λ p. inr (carry n p)) law.1.word_is;
    each = λ j u e. ⊎_elim
        (λ (was : get_elem? (set s.views id (one_less v)) j ≡ some u). ⊎_elim
        (λ (t : (j ≡ id) × (one_less v ≡ u)). subst (Knows T n later) t.1 left)
        (λ (t : (j ≢ id) × (get_elem? s.views j ≡ some u)). still_knows T n n s.views later u (omega arith) carry (law.1.each j u t.1))
        (at_set s.views id j (one_less v) u was))
        (λ (f : one_part v ≡ u). subst (Knows T n later) f right)
        (at_snoc (set s.views id (one_less v)) (one_part v) u j e);
    total = let a = total-snoc (set s.views id (one_less v)) (one_part v) in let b = total-set s.views id v (one_less v) at in let c = law.1.total in omega arith;
  },
)
  where
    n : ℕ
    n = slice_index s.words 0

    later : List View
    later = set s.views id (one_less v) ++ one_part v ∷ []

    carry : (x : ℕ) → IsPosted s.views x → IsPosted later x
    carry x p = let q = still_posted s.views id v (one_less v) x at (λ h. h) p in record { seat = q.seat; view = q.view; there = at_longer (set s.views id (one_less v)) (one_part v ∷ []) q.seat q.view q.there; posted = q.posted }

    was : Knows T n later v
    was = still_knows T n n s.views later v (omega arith) carry (law.1.each id v at)

    left : Knows T n later (one_less v)
    left = record { seen = was.seen; posts = was.posts; spent = λ e. absurd (omega arith) }

    right : Knows T n later (one_part v)
    right = record { seen = was.seen; posts = λ x h. absurd h; spent = λ e. absurd (omega arith) }

pub joins : (T : ℕ → Type 0) (id : ℕ) (v : View) (other : ℕ) (w : View) → 1 ≤ v.parts → Joins (Keeps T) id v other w (joined v w) spent_view
joins T id v other w live s law at apart there = (
  law.0,
  record {
    word_is = ⊎_elim (λ e. inl e) (λ p. inr (carry n p)) law.1.word_is;
    each = λ j u e. ⊎_elim
        (λ (t : (j ≡ other) × (spent_view ≡ u)). subst (Knows T n later) t.1 ended)
        (λ (t : (j ≢ other) × (get_elem? first j ≡ some u)). ⊎_elim
        (λ (q : (j ≡ id) × (joined v w ≡ u)). subst (Knows T n later) q.1 both)
        (λ (q : (j ≢ id) × (get_elem? s.views j ≡ some u)). still_knows T n n s.views later u (omega arith) carry (law.1.each j u q.1))
        (at_set s.views id j (joined v w) u t.1))
        (at_set first other j spent_view u e);
    total = let a = total-set s.views id v (joined v w) at in let b = total-set first other w spent_view there in let c = law.1.total in omega arith;
  },
)
  where
    n : ℕ
    n = slice_index s.words 0

    first : List View
    first = set s.views id (joined v w)

    later : List View
    later = set first other spent_view

    old : get_elem? s.views other ≡ some w
    old = sym (set_else s.views id other (joined v w) apart) ∙ there

    -- the view of the joined seat still stands at the end
    id_last : get_elem? later id ≡ some (joined v w)
    id_last = set_else first other id spent_view (λ e. apart (sym e)) ∙ set_here s.views id (joined v w) (is_inside s.views id v at)

    carry : (x : ℕ) → IsPosted s.views x → IsPosted later x
    carry x p =
        dite (ℕ_discrete p.seat other)
        (λ (e : p.seat ≡ other). record { seat = id; view = joined v w; there = id_last; posted = among_right v.posts w.posts x (subst (λ (u : View). Among u.posts x) (some-injective p.view w (sym p.there ∙ ap (get_elem? s.views) e ∙ old)) p.posted) })
        (λ (ne : p.seat ≢ other). dite (ℕ_discrete p.seat id)
        (λ (e : p.seat ≡ id). record { seat = id; view = joined v w; there = id_last; posted = among_left v.posts w.posts x (subst (λ (u : View). Among u.posts x) (some-injective p.view v (sym p.there ∙ ap (get_elem? s.views) e ∙ at)) p.posted) })
        (λ (me : p.seat ≢ id). record { seat = p.seat; view = p.view; there = set_else first other p.seat spent_view ne ∙ set_else s.views id p.seat (joined v w) me ∙ p.there; posted = p.posted }))

    one : Knows T n later v
    one = still_knows T n n s.views later v (omega arith) carry (law.1.each id v at)

    two : Knows T n later w
    two = still_knows T n n s.views later w (omega arith) carry (law.1.each other w old)

    both : Knows T n later (joined v w)
    both = record {
      seen = λ x h. ⊎_elim (λ a. one.seen x a) (λ b. two.seen x b) (among_both v.seen w.seen x h);
      posts = λ x h. ⊎_elim (λ a. one.posts x a) (λ b. two.posts x b) (among_both v.posts w.posts x h);
      spent = λ e. absurd (omega arith);
    }

    ended : Knows T n later spent_view
    ended = record { seen = λ x h. absurd h; posts = λ x h. absurd h; spent = λ _. refl }
