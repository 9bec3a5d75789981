-- Where more costs are posted a search reaches what it reached.
use Rattle.std.proofs.Common.{ℤ, List, inl, inr, Option}
use Rattle.std.specs.List.{Contains}
use Rattle.interval.specs.Boxes.{Bounds}
use Rattle.search.specs.Machine.{Search, State, MayFall, Takes, Reached, begun, stepped}
use Rattle.search.specs.Laws.{MorePosted}

module _ (s : Search) (more : List ℤ) (all : (cost : ℤ) → Contains s.posted cost → Contains more cost) where
  abbrev wider : Search
  wider = record s { posted = more }

  pub falls_more : (best after : Option ℤ) → MayFall s.posted best after → MayFall more best after
  falls_more best after (inl e) = inl e
  falls_more best after (inr h) = inr (h.0, (all h.0 h.1.0, h.1.1))

  pub takes_more : (state : State) (best : Option ℤ) (rest : List Bounds) (top : Bounds) → Takes s state best rest top → Takes wider state best rest top
  takes_more state best rest top t = record { falls = falls_more state.best best t.falls; taken = t.taken }

  pub reached_more : (state : State) → Reached s state → Reached wider state
  reached_more state (begun _ _ e f n k) = begun wider state e f n k
  reached_more state (stepped _ before _ r on st) =
      stepped wider before state (reached_more before r) (record { below = on.below; sought = on.sought })
      (record {
        best = st.best;
        rest = st.rest;
        top = st.top;
        back = st.back;
        recorded = st.recorded;
        takes = takes_more before st.best st.rest st.top st.takes;
        node = st.node;
        unspent = st.unspent;
        stack = st.stack;
        falls = st.falls;
        count = st.count;
        found = st.found;
      })

pub more_posted : MorePosted
more_posted s more state all r = reached_more s more all state r
