-- Each kind of step keeps the rule. One lemma serves a look and a post: a step that lets the word fall and changes one view.
use Rattle.std.proofs.Common.{ℕ, zero, suc, ◌≡◌, ◌≢◌, ◌⊎◌, ◌<◌, ◌≤◌, List, [], ◌∷◌, length, set, inl, inr, ⊎_elim, sym, ap, ◌∙◌, subst, le_trans, arith}
use mathlib.Core.Option.{some, some-injective, some-ne-none}
use mathlib.Core.Logic.{dite}
use native.Mathlib.Decide.{ℕ_discrete}
use lib.ListN.{get_elem?}
use Rattle.atomic_table.proofs.Lists.{at_set, set_here, set_else}
use Rattle.best_bound.specs.declared.table.View.{View}
use Rattle.best_bound.specs.Lists.{Among}
use Rattle.best_bound.specs.Codes.{none_word}
use Rattle.best_bound.specs.Rule.{IsPosted, Knows, Lawful}
use Rattle.best_bound.proofs.ListLaws.{total-set, two_parts}

pub is_inside : {A : Type 0} (xs : List A) (i : ℕ) (x : A) → get_elem? xs i ≡ some x → i < length xs
is_inside [] i x e = absurd (some-ne-none x (sym e))
is_inside (y ∷ xs) zero x e = omega arith
is_inside (y ∷ xs) (suc i) x e = let r = is_inside xs i x e in omega arith

-- what was posted stays so where the one view that changes keeps its posts
pub still_posted : (views : List View) (id : ℕ) (v w : View) (x : ℕ) → get_elem? views id ≡ some v → (Among v.posts x → Among w.posts x) → IsPosted views x → IsPosted (set views id w) x
still_posted views id v w x at keeps p =
    dite (ℕ_discrete p.seat id)
    (λ (e : p.seat ≡ id). let same : p.view ≡ v = some-injective p.view v (sym p.there ∙ ap (get_elem? views) e ∙ at) in record { seat = id; view = w; there = set_here views id w (is_inside views id v at); posted = keeps (subst (λ (u : View). Among u.posts x) same p.posted) })
    (λ (ne : p.seat ≢ id). record { seat = p.seat; view = p.view; there = set_else views id p.seat w ne ∙ p.there; posted = p.posted })

pub here_posted : (views : List View) (id : ℕ) (v w : View) (x : ℕ) → get_elem? views id ≡ some v → Among w.posts x → IsPosted (set views id w) x
here_posted views id v w x at h = record { seat = id; view = w; there = set_here views id w (is_inside views id v at); posted = h }

-- what a view knows, it knows where the word has fallen and what was posted stays so
pub still_knows : (T : ℕ → Type 0) (n m : ℕ) (views later : List View) (u : View) → m ≤ n → ((x : ℕ) → IsPosted views x → IsPosted later x) → Knows T n views u → Knows T m later u
still_knows T n m views later u le carry k = record {
  seen = λ x h. let s = k.seen x h in (le_trans le s.0, carry x s.1);
  posts = λ x h. let s = k.posts x h in (le_trans le s.0, s.1, s.2);
  spent = k.spent;
}

-- what a step owes, after which the word is m and the view w in place of v
pub record Moves (T : ℕ → Type 0) (n m : ℕ) (v w : View) : Type 0 where
  pub parts : w.parts ≡ v.parts
  pub live : 1 ≤ v.parts
  pub falls : m ≤ n
  pub keeps : (x : ℕ) → Among v.posts x → Among w.posts x
  pub word_is : (m ≡ n) ⊎ Among w.posts m
  pub posts : (x : ℕ) → Among w.posts x → Among v.posts x ⊎ ((m ≤ x) × (x < none_word) × T x)
  pub seen : (x : ℕ) → Among w.seen x → Among v.seen x ⊎ ((m ≡ x) × (x ≢ none_word))

pub moved : (T : ℕ → Type 0) (n m : ℕ) (views : List View) (id : ℕ) (v w : View) → Lawful T n views → get_elem? views id ≡ some v → Moves T n m v w → Lawful T m (set views id w)
moved T n m views id v w law at s = record {
  word_is = word_is;
  each = λ j u e. ⊎_elim
      (λ (t : (j ≡ id) × (w ≡ u)). subst (λ (x : View). Knows T m (set views id w) x) t.1 mine)
      (λ (t : (j ≢ id) × (get_elem? views j ≡ some u)). still_knows T n m views (set views id w) u s.falls carry (law.each j u t.1))
      (at_set views id j w u e);
  total = let a = total-set views id v w at in let b = s.parts in let c = law.total in omega arith;
}
  where
    carry : (x : ℕ) → IsPosted views x → IsPosted (set views id w) x
    carry x p = still_posted views id v w x at (s.keeps x) p

    word_is : (m ≡ none_word) ⊎ IsPosted (set views id w) m
    word_is = ⊎_elim
        (λ (e : m ≡ n). ⊎_elim (λ (z : n ≡ none_word). inl (e ∙ z)) (λ p. inr (subst (IsPosted (set views id w)) (sym e) (carry n p))) law.word_is)
        (λ (h : Among w.posts m). inr (here_posted views id v w m at h))
        s.word_is

    was : Knows T n views v
    was = law.each id v at

    seen_one : (x : ℕ) → Among v.seen x ⊎ ((m ≡ x) × (x ≢ none_word)) → (m ≤ x) × IsPosted (set views id w) x
    seen_one x (inl h) = let k = was.seen x h in (le_trans s.falls k.0, carry x k.1)
    seen_one x (inr t) = (let e = t.0 in omega arith, ⊎_elim (λ (z : m ≡ none_word). absurd (t.1 (sym t.0 ∙ z))) (λ p. subst (IsPosted (set views id w)) t.0 p) word_is)

    posts_one : (x : ℕ) → Among v.posts x ⊎ ((m ≤ x) × (x < none_word) × T x) → (m ≤ x) × (x < none_word) × T x
    posts_one x (inl h) = let k = was.posts x h in (le_trans s.falls k.0, k.1, k.2)
    posts_one x (inr t) = t

    mine : Knows T m (set views id w) w
    mine = record {
      seen = λ x h. seen_one x (s.seen x h);
      posts = λ x h. posts_one x (s.posts x h);
      spent = λ e. let a = s.parts in let b = s.live in absurd (omega arith);
    }

-- a seat with all parts knows all posts
pub knows_all : (T : ℕ → Type 0) (n : ℕ) (views : List View) (id : ℕ) (v : View) (x : ℕ) → Lawful T n views → get_elem? views id ≡ some v → v.parts ≡ 1024 → IsPosted views x → Among v.posts x
knows_all T n views id v x law at all p =
    dite (ℕ_discrete p.seat id)
    (λ (e : p.seat ≡ id). subst (λ (u : View). Among u.posts x) (some-injective p.view v (sym p.there ∙ ap (get_elem? views) e ∙ at)) p.posted)
    (λ (ne : p.seat ≢ id). let t = two_parts views p.seat id p.view v ne p.there at in let c = law.total in
    absurd (subst (λ (l : List ℕ). Among l x) ((law.each p.seat p.view p.there).spent (omega arith)) p.posted))
