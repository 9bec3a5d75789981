-- Where there is no limit on rounds it doesn't matter how many lanes propagate.
use Rattle.std.proofs.Common.{◌≡◌, ℕ, ℤ, List}
use Rattle.search.specs.declared.ends.Why.{Why}
use Rattle.search.specs.Machine.{Search, State, Reached, begun, stepped}
use Rattle.search.specs.Ends.{EndsDone, EndsSpent}
use Rattle.search.specs.Laws.{LaneLaws}

module _ (s : Search) (lanes : ℕ) (free : s.round_limit ≡ 0) where
  abbrev others : Search
  others = record s { lanes = lanes }

  reached_by_others : (state : State) → Reached s state → Reached others state
  reached_by_others state (begun _ _ e f n k) = begun others state e f n k
  reached_by_others state (stepped _ before _ r on st) =
      stepped others before state (reached_by_others before r) (record { below = on.below; sought = on.sought })
      (record {
        best = st.best;
        rest = st.rest;
        top = st.top;
        back = st.back;
        recorded = st.recorded;
        takes = record { falls = st.takes.falls; taken = st.takes.taken };
        node = st.node;
        unspent = λ _ spends. spends.limited free;
        stack = st.stack;
        falls = st.falls;
        count = st.count;
        found = st.found;
      })

  done_by_others : (found : List (List ℤ)) → EndsDone s found → EndsDone others found
  done_by_others found h = record { state = h.state; reached = reached_by_others h.state h.reached; done = h.done; is_found = h.is_found }

  spent_by_others : (why : Why) (nodes : ℕ) (found : List (List ℤ)) → EndsSpent s why nodes found → EndsSpent others why nodes found
  spent_by_others Why.Nodes nodes found h = record {
    state = h.state;
    reached = reached_by_others h.state h.reached;
    out = record { limited = h.out.limited; full = h.out.full; left = h.out.left; sought = h.out.sought };
    is_count = h.is_count;
    is_found = h.is_found;
  }
  spent_by_others Why.Rounds nodes found h = absurd (h.out.given_up.limited free)

pub lane_laws : LaneLaws
lane_laws = record {
  reached = λ s lanes state free r. reached_by_others s lanes free state r;
  done = λ s lanes found free h. done_by_others s lanes free found h;
  spent = λ s lanes why nodes found free h. spent_by_others s lanes free why nodes found h;
}
