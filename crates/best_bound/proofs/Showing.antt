-- What a seat has seen after a look and after a post, as its caller sees it.
use Rattle.std.proofs.Common.{ℕ, ℤ, ◌≡◌, ◌≢◌, ◌<◌, ◌≤◌, ◌≤ℤ◌, List, [], ◌∷◌, map, Bool, inl, inr, refl, sym, ap, ◌∙◌, subst, arith, eq-eqb, ne_eqb}
use Rattle.std.proofs.lemmas.Int.{ints}
use mir.Val.{to_z, of_z}
use mir.Syntax.{w64}
use Rattle.atomic_table.specs.Table.{Me}
use Rattle.best_bound.specs.declared.table.View.{View}
use Rattle.best_bound.specs.Lists.{Among}
use Rattle.best_bound.specs.Codes.{none_word, middle, cost_of}
use Rattle.best_bound.specs.Rule.{with_word, Hears, Looked, Posted}
use Rattle.best_bound.specs.Seats.{IsSeenAfterPost, IsNumberSeenAfterPost}
use Rattle.best_bound.proofs.ListLaws.{among_map, among_source, nothing_among}

pub cost-rises : (n m : ℕ) → n ≤ m → cost_of n ≤ℤ cost_of m
unfolding middle cost_of
cost-rises n m h = grind (arith, ints)

pub cost_cast : (n : ℕ) → n < none_word → to_z w64 (of_z w64 (cost_of n)) ≡ cost_of n
unfolding none_word middle cost_of
cost_cast n h = grind (arith, ints)

-- a look at the word of no value shows nothing new, and nothing was seen before
pub none_kept : (T : ℕ → Type 0) (me after : Me ℕ View) (n : ℕ) → Looked T me n after → n ≡ none_word → after.0.seen ≡ me.0.seen
none_kept T me after n l e = ap (λ (v : View). v.seen) l.view ∙ ap (λ (b : Bool). with_word b me.0.seen n) (eq-eqb n none_word e)

pub none_seen : (T : ℕ → Type 0) (me after : Me ℕ View) (n : ℕ) → Looked T me n after → n ≡ none_word → after.0.seen ≡ []
none_seen T me after n l e = nothing_among after.0.seen (λ x h. let s = l.hears.seen x h in let a = s.0 in let b = s.1 in absurd (omega arith))

pub one_seen : (T : ℕ → Type 0) (me after : Me ℕ View) (n : ℕ) → Looked T me n after → n ≢ none_word → after.0.seen ≡ n ∷ me.0.seen
one_seen T me after n l ne = ap (λ (v : View). v.seen) l.view ∙ ap (λ (b : Bool). with_word b me.0.seen n) (ne_eqb n none_word ne)

pub is_among : (T : ℕ → Type 0) (me after : Me ℕ View) (n : ℕ) → Looked T me n after → n ≢ none_word → Among after.0.seen n
is_among T me after n l ne = subst (λ (xs : List ℕ). Among xs n) (sym (one_seen T me after n l ne)) (inl refl)

pub costs_pass : (C : ℤ → Type 0) (n : ℕ) (v : View) → Hears (λ word. C (cost_of word)) n v → (c : ℤ) → Among (map cost_of v.seen) c → C c
costs_pass C n v hears c h = let s = among_source cost_of v.seen c h in subst C s.2 (hears.seen s.0 s.1).2

pub posts_pass : (C : ℤ → Type 0) (n : ℕ) (v : View) → Hears (λ word. C (cost_of word)) n v → (c : ℤ) → Among (map cost_of v.posts) c → C c
posts_pass C n v hears c h = let s = among_source cost_of v.posts c h in subst C s.2 (hears.posts s.0 s.1).2

-- where the word is that of no value, nothing was posted
pub none_posted : (T : ℕ → Type 0) (n : ℕ) (v : View) → Hears T n v → n ≡ none_word → v.posts ≡ []
none_posted T n v hears e = nothing_among v.posts (λ x h. let s = hears.posts x h in let a = s.0 in let b = s.1 in absurd (omega arith))

pub costs_all : (T : ℕ → Type 0) (n : ℕ) (v : View) → Hears T n v → v.parts ≡ 1024 → (c : ℤ) → Among (map cost_of v.seen) c → Among (map cost_of v.posts) c
costs_all T n v hears e c h = let s = among_source cost_of v.seen c h in subst (Among (map cost_of v.posts)) s.2 (among_map cost_of v.posts s.0 (hears.all e s.0 s.1))

pub costs_above : (T : ℕ → Type 0) (n : ℕ) (v : View) → Hears T n v → (c : ℤ) → Among (map cost_of v.seen) c → cost_of n ≤ℤ c
costs_above T n v hears c h = let s = among_source cost_of v.seen c h in subst (λ (z : ℤ). cost_of n ≤ℤ z) s.2 (cost-rises n s.0 (hears.seen s.0 s.1).0)

-- the answer of a look that found a value
pub found_cost : (T : ℕ → Type 0) (me after : Me ℕ View) (n : ℕ) (c : ℤ) → Looked T me n after → n ≢ none_word → c ≡ cost_of n → to_z w64 (of_z w64 c) ≡ cost_of n
found_cost T me after n c l ne e = ap (λ (z : ℤ). to_z w64 (of_z w64 z)) e ∙ cost_cast n (l.hears.seen n (is_among T me after n l ne)).1

pub cost_below : (T : ℕ → Type 0) (me after : Me ℕ View) (n : ℕ) (c : ℤ) → Looked T me n after → n ≢ none_word → c ≡ cost_of n → (d : ℤ) → Among (map cost_of after.0.posts) d → to_z w64 (of_z w64 c) ≤ℤ d
cost_below T me after n c l ne e d h =
    let s = among_source cost_of after.0.posts d h in
    subst (λ (z : ℤ). z ≤ℤ d) (sym (found_cost T me after n c l ne e)) (subst (λ (z : ℤ). cost_of n ≤ℤ z) s.2 (cost-rises n s.0 (l.hears.posts s.0 s.1).0))

pub cost_seen : (T : ℕ → Type 0) (me after : Me ℕ View) (n : ℕ) (c : ℤ) → Looked T me n after → n ≢ none_word → c ≡ cost_of n → map cost_of after.0.seen ≡ to_z w64 (of_z w64 c) ∷ map cost_of me.0.seen
cost_seen T me after n c l ne e = ap (map cost_of) (one_seen T me after n l ne) ∙ ap (λ (z : ℤ). z ∷ map cost_of me.0.seen) (sym (found_cost T me after n c l ne e))

pub cost_least : (T : ℕ → Type 0) (me after : Me ℕ View) (n : ℕ) (c : ℤ) → Looked T me n after → n ≢ none_word → c ≡ cost_of n
    → Among (map cost_of after.0.seen) (to_z w64 (of_z w64 c)) × ((d : ℤ) → Among (map cost_of after.0.seen) d → to_z w64 (of_z w64 c) ≤ℤ d)
cost_least T me after n c l ne e = subst (λ (z : ℤ). Among (map cost_of after.0.seen) z × ((d : ℤ) → Among (map cost_of after.0.seen) d → z ≤ℤ d)) (sym (found_cost T me after n c l ne e))
    (among_map cost_of after.0.seen n (is_among T me after n l ne), costs_above T n after.0 l.hears)

pub cost_posted : (T : ℕ → Type 0) (me after : Me ℕ View) (x n : ℕ) (c : ℤ) → Posted T me x n after → cost_of x ≡ c → IsSeenAfterPost (map cost_of me.0.seen) (map cost_of after.0.seen) c
cost_posted T me after x n c p e = record {
  least = cost_of n;
  seen = is;
  at_most = subst (λ (z : ℤ). cost_of n ≤ℤ z) e (cost-rises n x p.at_most);
  not_above = λ d h. costs_above T n after.0 p.hears d (subst (λ (l : List ℤ). Among l d) (sym is) (inr h));
}
  where
    is : map cost_of after.0.seen ≡ cost_of n ∷ map cost_of me.0.seen
    is = ap (λ (v : View). map cost_of v.seen) p.view

pub number_posted : (T : ℕ → Type 0) (me after : Me ℕ View) (x n : ℕ) → Posted T me x n after → IsNumberSeenAfterPost me.0.seen after.0.seen x
number_posted T me after x n p = record {
  least = n;
  seen = is;
  at_most = p.at_most;
  not_above = λ d h. (p.hears.seen d (subst (λ (l : List ℕ). Among l d) (sym is) (inr h))).0;
}
  where
    is : after.0.seen ≡ n ∷ me.0.seen
    is = ap (λ (v : View). v.seen) p.view
