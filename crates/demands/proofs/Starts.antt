-- The start of requests 6 to 12: the note is made, and a push takes its block into the hand. Assumes nothing.
use Prim.Native.Nat.{ℕ, ◌+◌, ◌≤◌, ◌<◌}
use mathlib.Core.Path.{◌≡◌, refl}
use mathlib.Core.Logic.{inl}
use mathlib.Core.Bool.{true}
use mathlib.Core.List.{List, [], ◌∷◌}
use native.Mathlib.Omega.{arith}
use lib.ListN.{length}
use Rattle.words.specs.Tagged.{address_of}
use Rattle.bitmap.specs.Bitmap.{bit_at, bit_put}
use Rattle.bitmap.proofs.Bits.{bit-lt, put-length, at-put-same}
use Rattle.page.specs.Page.{lent}
use Rattle.page.specs.Sequences.{times, Listed, Runs, OthersStay}
use Rattle.page.proofs.Rules.{bit-inside}
use Rattle.page.proofs.Running.{others-run}
use Rattle.lists.proofs.Sequences.{bit-set-adds}
use Rattle.operations.specs.declared.Worker.{Worker}
use Rattle.operations.specs.Operations.{push_shared, take_shared, push_tagged, take_tagged, set_tag, ask_tag, await_tag, pushes_b, first_stage}
use Rattle.staged.specs.Workers.{begun}
use Rattle.staged.specs.Start.{start_act}
use Rattle.machine.specs.Config.{Config, config, lent_of, worker_of, starter_of, put_worker, put_starter, over}
use Rattle.demands.specs.Simple.{Simple, Hands, hands, hands_of, put_hands, times_in, over_hands}
use Rattle.demands.specs.Simple as simple
use Rattle.demands.specs.Relation.{loads, Doing, pushing_shared, pushing_tagged, taking_shared, taking_tagged, setting, asking, awaiting, Sim}
use Rattle.demands.proofs.Facts.{free-clear}
use Rattle.demands.proofs.Change.{rebuild, fits-stays}

module _ (c : Config) (s : Simple) (m : Sim c s) (w : ℕ) (l : w < c.state.w) where
  abbrev mine : Hands
  mine = hands_of s w

  -- a record set afresh beside its heads, and a bitmap on which every listed block stays
  pub begin-changes : (b : List ℕ) (k : Worker) (hand : List ℕ) (note want : ℕ) → length b ≡ length c.bits
      → OthersStay (lent_of c) (lent c.state.n c.state.bw c.page b) [] → k.own ≡ (worker_of c w).own → k.got ≡ (worker_of c w).got
      → Doing (lent c.state.n c.state.bw c.page b) c.state.on k (hands mine.own mine.got hand note want)
      → ((i : ℕ) → times i hand + bit_at c.bits i ≡ times i mine.hand + bit_at b i)
      → Sim (config (put_worker c.state w k) c.page b) (put_hands s w (hands mine.own mine.got hand note want))
  begin-changes b k hand note want marks stay own got doing moved =
      rebuild c s m w l
      (record {
        page = c.page;
        bits = b;
        shared = c.state.shared;
        tagged = c.state.tagged;
        worker = k;
        shared_list = s.shared;
        tagged_list = s.tagged;
        tag = s.tag;
        hands = hands mine.own mine.got hand note want;
      })
      (record {
        words = refl;
        marks = marks;
        shared = still-runs c.state.shared s.shared m.shared;
        tagged = still-runs (address_of c.state.tagged) s.tagged m.tagged;
        tag = m.tag;
        off = m.off;
        mine = record {
          own = rw own (still-runs (worker_of c w).own mine.own (m.each w l).own);
          got = rw got (still-runs (worker_of c w).got mine.got (m.each w l).got);
          doing = doing;
        };
        others = λ u lu n. fits-stays c.state.n c.state.bw c.page c.page c.bits b [] stay c.state.on (worker_of c u) (hands_of s u) (λ i h. refl) (m.each u lu);
        moved = λ i. omega (arith, moved i);
      })
    where
      still-runs : (h : ℕ) (ys : List ℕ) → Runs (lent_of c) h ys → Runs (lent c.state.n c.state.bw c.page b) h ys
      still-runs h ys y = others-run c.state.n c.state.bw c.page c.page c.bits b [] stay h ys y (λ i h. absurd (omega arith))

  same-stay : OthersStay (lent_of c) (lent_of c) []
  same-stay i g z = record { link = refl; listed = g }

  module _ (empty : mine.hand ≡ []) where
    -- a push's block in hand
    push-sim : (a : ℕ) (k : Worker) (note want : ℕ) → 1 ≤ a → a ≤ c.state.n → times_in a s ≡ 0 → k.own ≡ (worker_of c w).own → k.got ≡ (worker_of c w).got
        → (Listed (lent c.state.n c.state.bw c.page (bit_put c.bits a 1)) a
        → Doing (lent c.state.n c.state.bw c.page (bit_put c.bits a 1)) c.state.on k (hands mine.own mine.got (a ∷ []) note want))
        → Sim (config (put_worker c.state w k) c.page (bit_put c.bits a 1)) (put_hands s w (hands mine.own mine.got (a ∷ []) note want))
    push-sim a k note want low high free own got doing =
        let clear : bit_at c.bits a ≡ 0 = free-clear c s m a low high free in
        let adds = bit-set-adds (lent_of c) m.rules a high clear in
        begin-changes (bit_put c.bits a 1) k (a ∷ []) note want (put-length c.bits a 1)
        (λ i g z. record { link = refl; listed = record { low = g.low; high = g.high; bit = omega (arith, adds i, bit-lt (bit_put c.bits a 1) i, g.bit) } })
        own got
        (doing (record { low = low; high = high; bit = at-put-same c.bits a 1 (omega arith) (bit-inside (lent_of c) a m.rules high) }))
        (λ i. rw empty (omega (arith, adds i)))

    -- an operation without a block
    plain-sim : (k : Worker) (note want : ℕ) → k.own ≡ (worker_of c w).own → k.got ≡ (worker_of c w).got
        → Doing (lent_of c) c.state.on k (hands mine.own mine.got [] note want)
        → Sim (config (put_worker c.state w k) c.page c.bits) (put_hands s w (hands mine.own mine.got [] note want))
    plain-sim k note want own got doing = begin-changes c.bits k [] note want refl same-stay own got doing (λ i. rw empty refl)

    module _ (a : ℕ) where
      abbrev Begins : ℕ → Type 0
      Begins code = Sim (over (put_starter c w) (start_act (starter_of c w) code a)).after (over_hands s w (simple.start_act mine code a)).after

      pub begin-push-shared : 1 ≤ a → a ≤ c.state.n → times_in a s ≡ 0 → Begins push_shared
      unfolding start_act simple.start_act begun first_stage pushes_b
      begin-push-shared low high free =
          push-sim a (begun (worker_of c w) push_shared a) push_shared 0 low high free refl refl (λ g. pushing_shared refl refl refl g (inl refl) (loads refl))

      pub begin-push-tagged : 1 ≤ a → a ≤ c.state.n → times_in a s ≡ 0 → c.state.on ≡ true → Begins push_tagged
      unfolding start_act simple.start_act begun first_stage pushes_b
      begin-push-tagged low high free on =
          push-sim a (begun (worker_of c w) push_tagged a) push_tagged 0 low high free refl refl (λ g. pushing_tagged refl refl refl g on (loads refl))

      pub begin-take-shared : mine.got ≡ [] → Begins take_shared
      unfolding start_act simple.start_act begun first_stage pushes_b
      begin-take-shared none = plain-sim (begun (worker_of c w) take_shared a) take_shared 0 refl refl (taking_shared refl refl refl none (inl refl))

      pub begin-take-tagged : mine.got ≡ [] → c.state.on ≡ true → Begins take_tagged
      unfolding start_act simple.start_act begun first_stage pushes_b
      begin-take-tagged none on = plain-sim (begun (worker_of c w) take_tagged a) take_tagged 0 refl refl (taking_tagged refl refl refl none on refl)

      pub begin-set : a ≤ 3 → c.state.on ≡ true → Begins set_tag
      unfolding start_act simple.start_act begun first_stage pushes_b
      begin-set small on = plain-sim (begun (worker_of c w) set_tag a) set_tag a refl refl (setting refl refl refl refl small on (inl refl))

      pub begin-ask : c.state.on ≡ true → Begins ask_tag
      unfolding start_act simple.start_act begun first_stage pushes_b
      begin-ask on = plain-sim (begun (worker_of c w) ask_tag a) ask_tag 0 refl refl (asking refl refl refl (omega arith) on (inl refl))

      pub begin-await : c.state.on ≡ true → Begins await_tag
      unfolding start_act simple.start_act begun first_stage pushes_b
      begin-await on = plain-sim (begun (worker_of c w) await_tag a) await_tag 0 refl refl (awaiting refl refl refl on refl)
