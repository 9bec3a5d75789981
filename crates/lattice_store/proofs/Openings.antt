-- The start, the opening of an epoch, and the split and join of seats keep the rule.
use Rattle.std.proofs.Common.{ℕ, zero, suc, ◌≡◌, ◌≢◌, ◌+◌, ◌<◌, ◌≤◌, max, List, [], ◌∷◌, length, set, Bool, true, false, inr, refl, sym, ap, ◌∙◌, subst, le_refl, arith, length-set, get_or-set_other}
use Rattle.std.specs.Prelude.{slice_index, Option, None}
use mathlib.Core.Option.{some, some-injective, some-ne-none}
use mathlib.Core.Option as maybe
use mathlib.Core.Logic.{dite}
use native.Mathlib.Decide.{ℕ_discrete}
use lib.ListN.{get_elem?}
use Rattle.std.proofs.lemmas.Grind.{get_or-set_at}
use Rattle.atomic_table.specs.Table.{Me, keeps, Allows, step}
use Rattle.interval.specs.Boxes.{Bounds}
use Rattle.lattice_store.specs.declared.table.View.{View}
use Rattle.lattice_store.specs.Words.{epoch_of, code_of, IsCode, ceiling}
use Rattle.lattice_store.specs.Rule.{Sees, Agree, Lawful, Keeps, made_view, with_floor, named, begun, began, opened_by, opens, learned}
use Rattle.lattice_store.proofs.WordLaws.{later}
use Rattle.lattice_store.proofs.Moves.{stepped, raised}
use Rattle.lattice_store.specs.Steps.{MayTell, IsReady, IsOpening}
use Rattle.lattice_store.proofs.Telling.{off, both_ways}

under_none : (w k : ℕ) → IsCode w → code_of w ≤ ceiling None k
unfolding ceiling
under_none w k c = let a = c.below_end in omega arith

-- the words at the start
pub IsStart : List ℕ → ℕ → Type 0
IsStart words epoch = (k : ℕ) → 1 ≤ k → k < length words → IsCode (slice_index words k) × (epoch_of (slice_index words k) ≡ epoch)

only : (v u : View) (j : ℕ) → get_elem? (v ∷ []) j ≡ some u → (j ≡ 0) × (v ≡ u)
only v u zero e = (refl, some-injective v u e)
only v u (suc j) e = absurd (some-ne-none u (sym e))

pub begins_lawful : (words : List ℕ) (epoch : ℕ) → ((k : ℕ) → 1 ≤ k → k < length words → IsCode (slice_index words k) × (epoch_of (slice_index words k) ≡ epoch)) → Lawful words (made_view words epoch ∷ [])
begins_lawful words epoch start =
    let v = made_view words epoch in record {
      codes = λ k one lt. (start k one lt).0;
      lengths = λ j u e l. subst (λ (x : View). length x.seen ≡ length words) ((only v u j e).1) refl;
      opened_all = λ j u e l f. absurd (both_ways u.first f (subst (λ (x : View). x.first ≡ true) ((only v u j e).1) refl));
      sees = λ j u e l k one lt. subst (λ (x : View). Sees (slice_index words k) x k) ((only v u j e).1) (first_sees k one lt);
      agree = λ i j u w ei ej lu lw. let a = only v u i ei in let b = only v w j ej in subst (λ (x : View). Agree i j x w) a.1 (subst (λ (x : View). Agree i j v x) b.1 (first_agrees i j (a.0 ∙ sym b.0)));
    }
  where
    first_sees : (k : ℕ) → 1 ≤ k → k < length words → Sees (slice_index words k) (made_view words epoch) k
    first_sees k one lt = let s = start k one lt in record {
      at_most = le_refl (slice_index words k);
      held = λ _. under_none (slice_index words k) k s.0;
      newest = λ _. let z = s.1 in omega arith;
      unopened = λ _ h. absurd (omega arith);
      own = λ _. (s.1, under_none (slice_index words k) k s.0);
      as_made = λ _. refl;
    }

    first_agrees : (i j : ℕ) → i ≡ j → Agree i j (made_view words epoch) (made_view words epoch)
    first_agrees i j e = record {
      one_floor = λ _. refl;
      ahead = λ _. le_refl epoch;
      one_first = λ _ _. e;
      opening = λ _ h ne. absurd (ne e);
      behind = λ _ p. absurd (off p);
      alone = λ _. e;
    }

-- beside the spare word nothing is written
spare : (ws : List ℕ) (n p : ℕ) → 1 ≤ p → slice_index (set ws 0 n) p ≡ slice_index ws p
spare ws n p one = get_or-set_other ws 0 p n 0 (λ e. omega arith)

-- what the floor of a store that was just made has to meet
pub IsHeld : View → Option Bounds → Type 0
IsHeld v floor = (k : ℕ) → 1 ≤ k → k < length v.seen → code_of (slice_index v.seen k) ≤ ceiling floor k

pub names : (slots id : ℕ) (me : Me ℕ View) (floor : Option Bounds) → me.0.live ≡ true → me.0.fresh ≡ true → ((k : ℕ) → 1 ≤ k → k < length me.0.seen → code_of (slice_index me.0.seen k) ≤ ceiling floor k) → Allows Keeps slots id me 0 (λ n. n) (named floor (step slots 0 0 0 maybe.none) me)
names slots id me floor live fresh held s law homes at fits =
    let v = me.0 in
    let n = slice_index s.words 0 in
    let same = law.lengths id v at live in (
      with_floor v floor,
      keeps,
      tt,
      stepped s.words s.views id (with_floor v floor) 0 n law record {
        code = λ one. absurd (omega arith);
        others = λ j u ne e l one _. absurd (omega arith);
        length_is = λ _. same;
        opened_is = λ _ f. law.opened_all id v at live f;
        mine = λ _ p one lt. subst (λ (x : ℕ). Sees x (with_floor v floor) p) (sym (spare s.words n p one)) (one_word p one lt same (law.sees id v at live p one lt));
        pairs = λ j u ne e l _. absurd (ne (sym ((law.agree id j v u at e live l).alone fresh)));
        alone = λ _. let a = law.agree id id v v at at live live in record { one_floor = λ _. refl; ahead = λ _. le_refl v.epoch; one_first = λ _ _. refl; opening = λ _ _ ne. absurd (ne refl); behind = a.behind; alone = λ _. refl };
      },
      (refl, refl),
    )
  where
    one_word : (p : ℕ) → 1 ≤ p → p < length s.words → length me.0.seen ≡ length s.words → Sees (slice_index s.words p) me.0 p → Sees (slice_index s.words p) (with_floor me.0 floor) p
    one_word p one lt same y = let k = held p one (omega arith) in record {
      at_most = y.at_most;
      held = λ _. subst (λ (x : ℕ). code_of x ≤ ceiling floor p) (sym (y.as_made fresh)) k;
      newest = y.newest;
      unopened = y.unopened;
      own = λ h. ((y.own h).0, k);
      as_made = λ f. absurd (off f);
    }

no_true : (b : Bool) → (b ≡ true → ⊥) → b ≡ false
no_true true h = absurd (h refl)
no_true false h = refl

pub learns : (slots id : ℕ) (me : Me ℕ View) → me.0.live ≡ true → Allows Keeps slots id me 0 (λ n. n) (learned (step slots 0 0 0 maybe.none) me)
learns slots id me live s law homes at fits =
    let v = me.0 in
    let n = slice_index s.words 0 in
    let same = law.lengths id v at live in
    let self = law.agree id id v v at at live live in (
      v,
      keeps,
      tt,
      stepped s.words s.views id v 0 n law record {
        code = λ one. absurd (omega arith);
        others = λ j u ne e l one _. absurd (omega arith);
        length_is = λ _. same;
        opened_is = λ _ f. law.opened_all id v at live f;
        mine = λ _ p one lt. subst (λ (x : ℕ). Sees x v p) (sym (spare s.words n p one)) (law.sees id v at live p one lt);
        pairs = λ j u ne e l _. (law.agree id j v u at e live l, law.agree j id u v e at l live);
        alone = λ _. self;
      },
      (refl, refl, record { first_is_not_past = λ f. no_true v.past (λ p. let z = self.behind f p in omega arith); own = λ k one opened lt. (law.sees id v at live k one (omega arith)).own opened }),
    )

pub begins : (slots id x : ℕ) (me : Me ℕ View) (floor : Option Bounds) → IsReady me.0 → me.0.first ≡ true → Allows Keeps slots id me 0 (λ n. max n x) (began floor (step slots 0 x 0 maybe.none) me)
begins slots id x me floor ready first s law homes at fits =
    let v = me.0 in
    let n = max (slice_index s.words 0) x in (
      begun v floor,
      keeps,
      tt,
      stepped s.words s.views id (begun v floor) 0 n law record {
        code = λ one. absurd (omega arith);
        others = λ j u ne e l one _. absurd (omega arith);
        length_is = λ _. law.lengths id v at ready.live;
        opened_is = λ _ f. absurd (both_ways v.first f first);
        mine = λ _ p one lt. subst (λ (y : ℕ). Sees y (begun v floor) p) (sym (spare s.words n p one)) (one_word p one (law.sees id v at ready.live p one lt));
        pairs = λ j u ne e l _. one_pair j u ne (law.agree id j v u at e ready.live l) (law.agree j id u v e at l ready.live);
        alone = λ _. one_self (law.agree id id v v at at ready.live ready.live);
      },
      (refl, refl),
    )
  where
    one_word : (p : ℕ) → 1 ≤ p → Sees (slice_index s.words p) me.0 p → Sees (slice_index s.words p) (begun me.0 floor) p
    one_word p one y = let old = y.newest first in record {
      at_most = y.at_most;
      held = λ e. absurd (omega arith);
      newest = λ _. omega arith;
      unopened = λ _ _. omega arith;
      own = λ h. absurd (omega arith);
      as_made = λ f. absurd (both_ways me.0.fresh ready.fresh f);
    }

    one_pair : (j : ℕ) (u : View) → j ≢ id → Agree id j me.0 u → Agree j id u me.0 → Agree id j (begun me.0 floor) u × Agree j id u (begun me.0 floor)
    one_pair j u ne vu uv = let a = vu.ahead first in (
      record {
        one_floor = λ e. absurd (omega arith);
        ahead = λ _. omega arith;
        one_first = vu.one_first;
        opening = λ _ _ _. omega arith;
        behind = λ f p. let b = vu.behind f p in omega arith;
        alone = vu.alone;
      },
      record {
        one_floor = λ e. absurd (omega arith);
        ahead = λ f. absurd (ne (uv.one_first f first));
        one_first = uv.one_first;
        opening = λ f _ _. absurd (ne (uv.one_first f first));
        behind = λ f _. absurd (ne (uv.one_first f first));
        alone = uv.alone;
      },
    )

    one_self : Agree id id me.0 me.0 → Agree id id (begun me.0 floor) (begun me.0 floor)
    one_self vv = record {
      one_floor = λ _. refl;
      ahead = λ _. le_refl (me.0.epoch + 1);
      one_first = λ _ _. refl;
      opening = λ _ _ ne. absurd (ne refl);
      behind = λ f p. let b = vv.behind f p in absurd (omega arith);
      alone = λ _. refl;
    }

pub opens_next : (slots id k x : ℕ) (me : Me ℕ View) → IsOpening me.0 → me.0.opened ≡ k → 1 ≤ k → k < length me.0.seen → MayTell me.0 k x → Allows Keeps slots id me k (λ n. max n x) (opens (step slots k x 0 maybe.none) me)
opens_next slots id k x me is at_k one inside may s law homes at fits =
    let v = me.0 in
    let same = law.lengths id v at is.live in
    let here = law.sees id v at is.live k one (omega arith) in
    let before = here.unopened is.first (omega arith) in
    let less = later (slice_index s.words k) x (let z = may.epoch in omega arith) in
    let top : max (slice_index s.words k) x ≡ x = omega arith in (
      opened_by v k x,
      keeps,
      tt,
      subst (λ (m : ℕ). Lawful (set s.words k m) (set s.views id (opened_by v k x))) (sym top)
          (stepped s.words s.views id (opened_by v k x) k x law record {
            code = λ _. may.code;
            others = λ j u ne e l _ lt. raised id j (slice_index s.words k) x k v u ne (let z = law.lengths j u e l in omega arith) (omega arith) (inr (may.epoch, may.held)) (law.agree id j v u at e is.live l) (law.agree j id u v e at l is.live) (law.sees j u e l k one lt);
            length_is = λ _. length-set v.seen k x ∙ same;
            opened_is = λ _ f. absurd (both_ways v.first f is.first);
            mine = λ _ p op lt. one_word p op lt same (law.sees id v at is.live p op lt);
            pairs = λ j u ne e l _. one_pair j u (law.agree id j v u at e is.live l) (law.agree j id u v e at l is.live);
            alone = λ _. one_self (law.agree id id v v at at is.live is.live);
          }),
      (refl, refl),
    )
  where
    one_word : (p : ℕ) → 1 ≤ p → p < length s.words → length me.0.seen ≡ length s.words → Sees (slice_index s.words p) me.0 p → Sees (slice_index (set s.words k x) p) (opened_by me.0 k x) p
    one_word p op lt same y = dite (ℕ_discrete p k)
        (λ (e : p ≡ k).
        let word : slice_index (set s.words k x) p ≡ x = get_or-set_at s.words k p x 0 e (omega arith) in
        let seen : slice_index (set me.0.seen k x) p ≡ x = get_or-set_at me.0.seen k p x 0 e inside in
        let held : code_of x ≤ ceiling me.0.floor p = subst (λ (i : ℕ). code_of x ≤ ceiling me.0.floor i) (sym e) may.held in record {
          at_most = omega arith;
          held = λ _. subst (λ (m : ℕ). code_of m ≤ ceiling me.0.floor p) (sym word) held;
          newest = λ _. subst (λ (m : ℕ). epoch_of m ≤ me.0.epoch) (sym word) (let z = may.epoch in omega arith);
          unopened = λ _ h. absurd (omega arith);
          own = λ _. (ap epoch_of seen ∙ may.epoch, subst (λ (m : ℕ). code_of m ≤ ceiling me.0.floor p) (sym seen) held);
          as_made = λ f. absurd (both_ways me.0.fresh is.fresh f);
        })
        (λ (ne : p ≢ k).
        let word : slice_index (set s.words k x) p ≡ slice_index s.words p = get_or-set_other s.words k p x 0 ne in
        let seen : slice_index (set me.0.seen k x) p ≡ slice_index me.0.seen p = get_or-set_other me.0.seen k p x 0 ne in record {
          at_most = let z = y.at_most in omega arith;
          held = subst (λ (m : ℕ). epoch_of m ≡ me.0.epoch → code_of m ≤ ceiling me.0.floor p) (sym word) y.held;
          newest = subst (λ (m : ℕ). me.0.first ≡ true → epoch_of m ≤ me.0.epoch) (sym word) y.newest;
          unopened = λ f h. subst (λ (m : ℕ). epoch_of m < me.0.epoch) (sym word) (y.unopened f (omega arith));
          own = λ h. subst (λ (m : ℕ). (epoch_of m ≡ me.0.epoch) × (code_of m ≤ ceiling me.0.floor p)) (sym seen) (y.own (omega arith));
          as_made = λ f. absurd (both_ways me.0.fresh is.fresh f);
        })

    one_pair : (j : ℕ) (u : View) → Agree id j me.0 u → Agree j id u me.0 → Agree id j (opened_by me.0 k x) u × Agree j id u (opened_by me.0 k x)
    one_pair j u vu uv = (
      record { one_floor = vu.one_floor; ahead = vu.ahead; one_first = vu.one_first; opening = λ f h ne. vu.opening f (omega arith) ne; behind = vu.behind; alone = vu.alone },
      record { one_floor = uv.one_floor; ahead = uv.ahead; one_first = uv.one_first; opening = uv.opening; behind = uv.behind; alone = uv.alone },
    )

    one_self : Agree id id me.0 me.0 → Agree id id (opened_by me.0 k x) (opened_by me.0 k x)
    one_self vv = record { one_floor = λ _. refl; ahead = λ _. le_refl me.0.epoch; one_first = λ _ _. refl; opening = λ _ _ ne. absurd (ne refl); behind = vv.behind; alone = λ _. refl }
