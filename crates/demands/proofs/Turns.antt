-- Moves of a worker that leave page and bitmap as they are, and the write of a link: the relation after each. Assumes nothing.
use Prim.Native.Nat.{ℕ, ◌+◌, ◌<◌}
use mathlib.Core.Path.{◌≡◌, refl, sym, ap, subst}
use mathlib.Core.Logic.{◌≢◌, ◌⊎◌, inl, inr}
use mathlib.Core.Bool.{false}
use mathlib.Core.List.{List, [], ◌∷◌}
use native.Mathlib.Omega.{arith}
use lib.ListN.{get_or, set, length-set}
use lib.Seq.{get_or-set_same, get_or-set_other, set-get_or}
use Rattle.words.specs.Tagged.{tag_of, address_of}
use Rattle.page.specs.Page.{lent, place}
use Rattle.page.specs.Sequences.{hit, times, Listed, Runs, OthersStay}
use Rattle.page.proofs.Rules.{place-apart, place_inside}
use Rattle.page.proofs.Counting.{hit-is, hit_same}
use Rattle.page.proofs.Running.{others-run}
use Rattle.operations.specs.declared.Worker.{Worker}
use Rattle.machine.specs.Config.{Config, config, state_of, lent_of, worker_of, put_worker}
use Rattle.demands.specs.Simple.{Simple, simple, Hands, still, hands_of, held_by}
use Rattle.demands.specs.Relation.{Doing, Fits, Sim}
use Rattle.demands.proofs.Facts.{one_place, held-part, held_two}
use Rattle.demands.proofs.Change.{rebuild, fits-stays}

module _ (c : Config) (s : Simple) (m : Sim c s) (w : ℕ) (l : w < c.state.w) where
  abbrev mine : Hands
  mine = hands_of s w

  -- another record, other head words and sequences, on the same page and bitmap
  pub turn-changes : (k : Worker) (shared tagged : ℕ) (xs ys : List ℕ) (tag : ℕ) (t : Hands)
      → Runs (lent_of c) shared xs → Runs (lent_of c) (address_of tagged) ys → tag_of tagged ≡ tag → (s.on ≡ false → (ys ≡ []) × (tag ≡ 0))
      → Fits (lent_of c) c.state.on k t
      → ((i : ℕ) → times i xs + times i ys + held_by i t ≡ times i s.shared + times i s.tagged + held_by i mine)
      → Sim (config (state_of c.state.n c.state.bw c.state.w shared tagged c.state.on (set c.state.workers w k)) c.page c.bits)
      (simple s.n xs ys tag s.on (set s.workers w t))
  turn-changes k shared tagged xs ys tag t rs rt e off fits moved =
      rebuild c s m w l
      (record {
        page = c.page;
        bits = c.bits;
        shared = shared;
        tagged = tagged;
        worker = k;
        shared_list = xs;
        tagged_list = ys;
        tag = tag;
        hands = t;
      })
      (record {
        words = refl;
        marks = refl;
        shared = rs;
        tagged = rt;
        tag = e;
        off = off;
        mine = fits;
        others = λ u lu n. m.each u lu;
        moved = λ i. omega (arith, moved i);
      })

  -- under way: only the record changes, and the simple machine stands still
  pub stage-changes : (k : Worker) → k.own ≡ (worker_of c w).own → k.got ≡ (worker_of c w).got → Doing (lent_of c) c.state.on k mine
      → Sim (config (put_worker c.state w k) c.page c.bits) s
  stage-changes k own got doing =
      rw (set-get_or s.workers w still) at
      (turn-changes k c.state.shared c.state.tagged s.shared s.tagged s.tag mine m.shared m.tagged m.tag m.off
      (record { own = rw own (m.each w l).own; got = rw got (m.each w l).got; doing = doing }) (λ i. refl))

  -- the link of the block in hand is written: every other block stays
  pub write-changes : (k : Worker) (a v : ℕ) → mine.hand ≡ a ∷ [] → Listed (lent_of c) a → k.own ≡ (worker_of c w).own → k.got ≡ (worker_of c w).got
      → (get_or (set c.page (place c.state.bw a) v) (place c.state.bw a) 0 ≡ v
      → Doing (lent c.state.n c.state.bw (set c.page (place c.state.bw a) v) c.bits) c.state.on k mine)
      → Sim (config (put_worker c.state w k) (set c.page (place c.state.bw a) v) c.bits) s
  write-changes k a v hand g own got doing =
      rw (set-get_or s.workers w still) at
      (rebuild c s m w l
      (record {
        page = set c.page (place c.state.bw a) v;
        bits = c.bits;
        shared = c.state.shared;
        tagged = c.state.tagged;
        worker = k;
        shared_list = s.shared;
        tagged_list = s.tagged;
        tag = s.tag;
        hands = mine;
      })
      (record {
        words = length-set c.page (place c.state.bw a) v;
        marks = refl;
        shared = runs c.state.shared s.shared m.shared (omega (arith, alone));
        tagged = runs (address_of c.state.tagged) s.tagged m.tagged (omega (arith, alone));
        tag = m.tag;
        off = m.off;
        mine = record {
          own = rw own (runs (worker_of c w).own mine.own (m.each w l).own (omega (arith, alone)));
          got = rw got (runs (worker_of c w).got mine.got (m.each w l).got (omega (arith, alone)));
          doing = doing (get_or-set_same c.page (place c.state.bw a) v 0 (place_inside (lent_of c) a m.rules g.high));
        };
        others = λ u lu n.
            fits-stays c.state.n c.state.bw c.page (set c.page (place c.state.bw a) v) c.bits c.bits (a ∷ []) stay c.state.on (worker_of c u)
            (hands_of s u) (λ i h. free u lu n i h (hit-is i a)) (m.each u lu);
        moved = λ i. refl;
      }))
    where
      -- the block in hand is nowhere else
      alone : times a s.shared + times a s.tagged + times a mine.own + times a mine.got ≡ 0
      alone = omega (arith, held-part c s m w a l, one_place c s m a, ap (times a) hand, hit_same a)

      stay : OthersStay (lent_of c) (lent c.state.n c.state.bw (set c.page (place c.state.bw a) v) c.bits) (a ∷ [])
      stay i h z =
          record {
            link = get_or-set_other c.page (place c.state.bw a) (place c.state.bw i) v 0 (λ e. differ (place-apart c.state.bw i a m.rules.some e));
            listed = record { low = h.low; high = h.high; bit = h.bit };
          }
        where
          differ : i ≡ a → ⊥
          differ e = omega (arith, subst (λ (j : ℕ). times j (a ∷ []) ≡ 0) e z, hit_same a)

      runs : (h : ℕ) (xs : List ℕ) → Runs (lent_of c) h xs → times a xs ≡ 0
          → Runs (lent c.state.n c.state.bw (set c.page (place c.state.bw a) v) c.bits) h xs
      runs h xs x z =
          others-run c.state.n c.state.bw c.page (set c.page (place c.state.bw a) v) c.bits c.bits (a ∷ []) stay h xs x (λ i b. apart i b (hit-is i a))
        where
          apart : (i : ℕ) → 0 < times i (a ∷ []) → ((i ≡ a) × (hit i a ≡ 1)) ⊎ ((i ≢ a) × (hit i a ≡ 0)) → times i xs ≡ 0
          apart i b (inl e) = subst (λ (j : ℕ). times j xs ≡ 0) (sym e.0) z
          apart i b (inr e) = absurd (omega arith)

      free : (u : ℕ) → u < c.state.w → u ≢ w → (i : ℕ) → 0 < held_by i (hands_of s u) → ((i ≡ a) × (hit i a ≡ 1)) ⊎ ((i ≢ a) × (hit i a ≡ 0)) → times i (a ∷ []) ≡ 0
      free u lu n i h (inl e) = absurd (omega (arith, held_two c s m u w i lu l n, ap (times i) hand))
      free u lu n i h (inr e) = omega arith
