-- What the calls of the table of the words ask of each kind of step.
use Rattle.std.proofs.Common.{ℕ, zero, suc, ◌≡◌, ◌≢◌, ◌+◌, ◌<◌, ◌≤◌, max, List, [], ◌∷◌, ◌++◌, length, set, Bool, true, false, ⊎_elim, refl, sym, ap, ◌∙◌, subst, arith, length-set, replicate, eq-eqb, ne_eqb}
use Rattle.std.specs.Prelude.{slice_index, slice_set, ◌==◌}
use mathlib.Core.Option.{some, some-injective, some-ne-none}
use mathlib.Core.Option as maybe
use mathlib.Core.Logic.{dite}
use native.Mathlib.Decide.{ℕ_discrete, dec_le}
use lib.ListN.{get_elem?}
use Rattle.std.proofs.lemmas.Grind.{get_or-set_at}
use Rattle.std.proofs.lemmas.List.{get_or-set_other, set-get_or, get_or-replicate, length-replicate}
use Rattle.std.proofs.Math.ListN.{get_or-eq_default}
use Rattle.atomic_table.specs.Table.{Me, Allows, Splits, Joins, opening, keeps, step}
use Rattle.atomic_table.proofs.Lists.{at_set, at_snoc, set_here, set_else, set_again}
use Rattle.tickets.specs.declared.table.View.{View}
use Rattle.tickets.specs.Counting.{times}
use Rattle.tickets.specs.Rule.{times_all, Passes, Knows, Lawful, Keeps, first_view, with_number, drawing, TallyOf, drew, heard, one_less, one_part, joined, spent_view, IsReady}
use Rattle.tickets.proofs.CountingLemmas.{times-append, times-same, times-other}
use Rattle.tickets.proofs.ViewLaws.{is_inside, total-set, total-snoc, part_of_total, times_all-set, times_all-snoc, part_of_times, AreSpentEmpty, all_in_one}

-- what the rule says of the view v of a live seat
pub tally_of : (words : List ℕ) (views : List View) (id : ℕ) (v : View) → Lawful words views → get_elem? views id ≡ some v → 1 ≤ v.parts → TallyOf v
unfolding AreSpentEmpty
tally_of words views id v law at live = record {
  parts_bound = let p = part_of_total views id v at in let t = law.total in omega arith;
  next_bound = passes.next;
  once = λ k. let p = part_of_times k views id v at in let c = law.counted k in let m = law.at_most k in omega arith;
  passed = passes.ahead;
  all = λ e. record {
    once = λ k below. sym (all_in_one k views id v spent at (law.total ∙ sym e)) ∙ law.counted k ∙ passes.passed k below;
    no_other = passes.ahead;
  };
}
  where
    passes : Passes words v
    passes = (law.each id v at).live live

    spent : AreSpentEmpty views
    spent = λ j u there none. (law.each j u there).spent none

-- the list of a seat after its step: the number that it stepped on stands there once more where the word was 0
times-drawn_here : (n k : ℕ) (drawn : List ℕ) → n ≤ 1 → times k (with_number (n == 0) drawn k) + n ≡ times k drawn + 1
times-drawn_here n k drawn h =
    dite (ℕ_discrete n 0)
    (λ (e : n ≡ 0). let a : times k (with_number (n == 0) drawn k) ≡ times k (drawn ++ k ∷ []) = ap (λ (b : Bool). times k (with_number b drawn k)) (eq-eqb n 0 e) in
    let b = times-append k drawn (k ∷ []) in let c = times-same k k [] refl in omega arith)
    (λ (ne : n ≢ 0). let a : times k (with_number (n == 0) drawn k) ≡ times k drawn = ap (λ (b : Bool). times k (with_number b drawn k)) (ne_eqb n 0 ne) in omega arith)

times-drawn_else : (n k x : ℕ) (drawn : List ℕ) → x ≢ k → times k (with_number (n == 0) drawn x) ≡ times k drawn
times-drawn_else n k x drawn ne = both (n == 0)
  where
    both : (b : Bool) → times k (with_number b drawn x) ≡ times k drawn
    both true = let a = times-append k drawn (x ∷ []) in let b = times-other k x [] ne in omega arith
    both false = refl

-- what a live view says of the words still holds where one of them has become 1
still_passes : (words : List ℕ) (i : ℕ) (u : View) → i < length words → Passes words u → Passes (set words i 1) u
still_passes words i u inside p = record {
  count = length-set words i 1 ∙ p.count;
  next = p.next;
  passed = λ k below. dite (ℕ_discrete (suc k) i)
      (λ (e : suc k ≡ i). get_or-set_at words i (suc k) 1 0 e inside)
      (λ (ne : suc k ≢ i). get_or-set_other words i (suc k) 1 0 ne ∙ p.passed k below);
  ahead = p.ahead;
}

still_knows : (words : List ℕ) (i : ℕ) (u : View) → i < length words → Knows words u → Knows (set words i 1) u
still_knows words i u inside k = record { live = λ h. still_passes words i u inside (k.live h); spent = k.spent }

module _ (words : List ℕ) (views : List View) (id : ℕ) (v : View) (law : Lawful words views) (at : get_elem? views id ≡ some v) (live : 1 ≤ v.parts) (below : v.next < v.count) where
  n : ℕ
  n = slice_index words (suc v.next)

  w : View
  w = drawing v n

  passes : Passes words v
  passes = (law.each id v at).live live

  inside : suc v.next < length words
  inside = let c = passes.count in omega arith

  word_at : (k : ℕ) → k ≡ v.next → slice_index (set words (suc v.next) 1) (suc k) ≡ 1
  word_at k e = get_or-set_at words (suc v.next) (suc k) 1 0 (ap suc e) inside

  word_else : (k : ℕ) → k ≢ v.next → slice_index (set words (suc v.next) 1) (suc k) ≡ slice_index words (suc k)
  word_else k ne = get_or-set_other words (suc v.next) (suc k) 1 0 (λ e. ne (omega arith))

  counted : (k : ℕ) → times_all k (set views id w) ≡ slice_index (set words (suc v.next) 1) (suc k)
  unfolding n w
  counted k =
      let a = times_all-set k views id v w at in let c = law.counted k in
      dite (ℕ_discrete k v.next)
      (λ (e : k ≡ v.next). subst (λ (x : ℕ). times_all x (set views id w) ≡ slice_index (set words (suc v.next) 1) (suc x)) (sym e) (
      let a = times_all-set v.next views id v w at in let c = law.counted v.next in let m = law.at_most v.next in
      let t = times-drawn_here n v.next v.drawn m in let h = word_at v.next refl in omega arith))
      (λ (ne : k ≢ v.next). let t = times-drawn_else n k v.next v.drawn (λ e. ne (sym e)) in let h = word_else k ne in omega arith)

  after : Passes (set words (suc v.next) 1) w
  unfolding n w
  after = record {
    count = length-set words (suc v.next) 1 ∙ passes.count;
    next = omega arith;
    passed = λ k h. dite (ℕ_discrete k v.next)
        (λ (e : k ≡ v.next). word_at k e)
        (λ (ne : k ≢ v.next). word_else k ne ∙ passes.passed k (omega arith));
    ahead = λ k h. times-drawn_else n k v.next v.drawn (omega arith) ∙ passes.ahead k (omega arith);
  }

  drawn_law : Lawful (set words (suc v.next) 1) (set views id w)
  unfolding n w
  drawn_law = record {
    counted = counted;
    at_most = λ k. dite (ℕ_discrete k v.next)
        (λ (e : k ≡ v.next). let h = word_at k e in omega arith)
        (λ (ne : k ≢ v.next). let h = word_else k ne in let m = law.at_most k in omega arith);
    each = λ j u e. ⊎_elim
        (λ (t : (j ≡ id) × (w ≡ u)). subst (λ (x : View). Knows (set words (suc v.next) 1) x) t.1 (record { live = λ _. after; spent = λ none. absurd (omega arith) }))
        (λ (t : (j ≢ id) × (get_elem? views j ≡ some u)). still_knows words (suc v.next) u inside (law.each j u t.1))
        (at_set views id j w u e);
    total = let a = total-set views id v w at in let c = law.total in omega arith;
  }

pub draws : (slots id : ℕ) (me : Me ℕ View) → IsReady me → me.0.next < me.0.count → Allows Keeps slots id me (suc me.0.next) (λ n. max n 1) (drew (step slots (suc me.0.next) 1 0 maybe.none) me)
unfolding n w
draws slots id me ready below s law homes at fits =
    let v = me.0 in
    let n = slice_index s.words (suc v.next) in
    let m = law.at_most v.next in
    let word : max n 1 ≡ 1 = omega arith in
    let r = drawn_law s.words s.views id v law at ready.live below in
    let w = drawing v n in (
      w,
      keeps,
      tt,
      subst (λ (x : ℕ). Lawful (slice_set s.words (suc v.next) x) (slice_set s.views id w)) (sym word) r,
      record { slots = refl; view = refl; tally = tally_of (set s.words (suc v.next) 1) (set s.views id w) id w r (set_here s.views id w (is_inside s.views id v at)) ready.live },
    )

pub hears : (slots id : ℕ) (me : Me ℕ View) → IsReady me → Allows Keeps slots id me 0 (λ n. n) (heard (step slots 0 0 0 maybe.none) me)
hears slots id me ready s law homes at fits = (
  me.0,
  keeps,
  tt,
  subst (λ (l : List ℕ). Lawful l (slice_set s.views id me.0)) (sym (set-get_or s.words 0 0)) (subst (λ (l : List View). Lawful s.words l) (sym (set_again s.views id me.0 at)) law),
  record { same = refl; tally = tally_of s.words s.views id me.0 law at ready.live },
)

pub splits : (id : ℕ) (v : View) → 1 < v.parts → Splits Keeps id v (one_less v) (one_part v)
splits id v more s law at = record {
  counted = λ k. let a = times_all-snoc k (set s.views id (one_less v)) (one_part v) in let b = times_all-set k s.views id v (one_less v) at in let c = law.counted k in omega arith;
  at_most = law.at_most;
  each = λ j u e. ⊎_elim
      (λ (was : get_elem? (set s.views id (one_less v)) j ≡ some u). ⊎_elim
      (λ (t : (j ≡ id) × (one_less v ≡ u)). subst (Knows s.words) t.1 left)
      (λ (t : (j ≢ id) × (get_elem? s.views j ≡ some u)). law.each j u t.1)
      (at_set s.views id j (one_less v) u was))
      (λ (f : one_part v ≡ u). subst (Knows s.words) f right)
      (at_snoc (set s.views id (one_less v)) (one_part v) u j e);
  total = let a = total-snoc (set s.views id (one_less v)) (one_part v) in let b = total-set s.views id v (one_less v) at in let c = law.total in omega arith;
}
  where
    was : Passes s.words v
    was = (law.each id v at).live (omega arith)

    left : Knows s.words (one_less v)
    left = record { live = λ _. record { count = was.count; next = was.next; passed = was.passed; ahead = was.ahead }; spent = λ e. absurd (omega arith) }

    right : Knows s.words (one_part v)
    right = record { live = λ _. record { count = was.count; next = was.next; passed = was.passed; ahead = λ k h. refl }; spent = λ e. absurd (omega arith) }

pub joins : (id : ℕ) (v : View) (other : ℕ) (w : View) → 1 ≤ v.parts → 1 ≤ w.parts → Joins Keeps id v other w (joined v w) spent_view
joins id v other w live other_live s law at apart there = record {
  counted = λ k. let a = times_all-set k s.views id v (joined v w) at in let b = times_all-set k first other w spent_view there in let c = law.counted k in let t = times-append k v.drawn w.drawn in omega arith;
  at_most = law.at_most;
  each = λ j u e. ⊎_elim
      (λ (t : (j ≡ other) × (spent_view ≡ u)). subst (Knows s.words) t.1 (record { live = λ h. absurd (omega arith); spent = λ _. refl }))
      (λ (t : (j ≢ other) × (get_elem? first j ≡ some u)). ⊎_elim
      (λ (q : (j ≡ id) × (joined v w ≡ u)). subst (Knows s.words) q.1 both)
      (λ (q : (j ≢ id) × (get_elem? s.views j ≡ some u)). law.each j u q.1)
      (at_set s.views id j (joined v w) u t.1))
      (at_set first other j spent_view u e);
  total = let a = total-set s.views id v (joined v w) at in let b = total-set first other w spent_view there in let c = law.total in omega arith;
}
  where
    first : List View
    first = set s.views id (joined v w)

    one : Passes s.words v
    one = (law.each id v at).live live

    two : Passes s.words w
    two = (law.each other w (sym (set_else s.views id other (joined v w) apart) ∙ there)).live other_live

    both_passed : (k : ℕ) → k < max v.next w.next → slice_index s.words (suc k) ≡ 1
    both_passed k h = dite (dec_le (suc k) v.next) (λ (le : k < v.next). one.passed k le) (λ (no : ¬ (k < v.next)). two.passed k (omega arith))

    both : Knows s.words (joined v w)
    both = record {
      live = λ _. record {
        count = one.count;
        next = let a = one.next in let b = two.next in let c = one.count in let d = two.count in omega arith;
        passed = both_passed;
        ahead = λ k h. times-append k v.drawn w.drawn ∙ (let a = one.ahead k (omega arith) in let b = two.ahead k (omega arith) in omega arith);
      };
      spent = λ e. absurd (omega arith);
    }

-- the words of a new table
pub opens : (count : ℕ) → Keeps (opening (replicate (count + 1) 0) [] (first_view count))
opens count = record {
  counted = λ k. sym (word (suc k));
  at_most = λ k. let w = word (suc k) in omega arith;
  each = λ j v e. only j v e;
  total = refl;
}
  where
    word : (k : ℕ) → slice_index (replicate (count + 1) 0) k ≡ 0
    word k = dite (dec_le (suc k) (count + 1))
        (λ (h : k < count + 1). get_or-replicate (count + 1) k 0 0 h)
        (λ (no : ¬ (k < count + 1)). get_or-eq_default (replicate (count + 1) 0) 0 (let l : length (replicate {A = ℕ} (count + 1) 0) ≡ count + 1 = length-replicate (count + 1) 0 in omega arith))

    fresh : Knows (replicate (count + 1) 0) (first_view count)
    fresh = record {
      live = λ _. record { count = length-replicate (count + 1) 0 ∙ omega arith; next = omega arith; passed = λ k h. absurd (omega arith); ahead = λ k h. refl };
      spent = λ e. absurd (omega arith);
    }

    only : (j : ℕ) (v : View) → get_elem? (first_view count ∷ []) j ≡ some v → Knows (replicate (count + 1) 0) v
    only zero v e = subst (Knows (replicate (count + 1) 0)) (some-injective (first_view count) v e) fresh
    only (suc j) v e = absurd (some-ne-none v (sym e))
