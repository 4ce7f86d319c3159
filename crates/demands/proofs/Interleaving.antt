-- Demand 3, proved: by induction over the events, from any configuration that stands for a simple one. Assumes nothing.
use Prim.Native.Nat.{ℕ, zero, suc, ◌/◌, ◌%◌, ◌^◌, ◌≤◌}
use mathlib.Core.Path.{◌≡◌, refl, ◌∙◌}
use mathlib.Core.Bool.{Bool, true, false}
use mathlib.Core.List.{[], ◌∷◌}
use native.Mathlib.Omega.{arith}
use native.Mathlib.Nat.{zero-div}
use lib.ListN.{length, replicate, length-replicate}
use Rattle.answers.specs.Numbers.{done}
use Rattle.words.specs.Digits.{digit}
use Rattle.bitmap.specs.Bitmap.{bit_at}
use Rattle.page.specs.Limits.{max_workers}
use Rattle.page.specs.Page.{lent, Rules, keeps_rules_b, workers_b}
use Rattle.page.proofs.Rules.{rules-facts, workers-facts}
use Rattle.page.proofs.Running.{run_none}
use Rattle.machine.specs.Config.{config, blank, rules_b, fresh_state, zeroed, fresh_of}
use Rattle.machine.proofs.FreshStart.{repeated}
use Rattle.demands.specs.Simple.{still, start, held_by, sum_over}
use Rattle.demands.specs.Moments.{step, is_moment, moment, follow}
use Rattle.demands.specs.Relation.{resting, Sim}
use Rattle.demands.specs.Every.{EveryInterleaving, FreshStands, FromFresh}
use Rattle.demands.proofs.Events.{event-sim}
use Rattle.demands.proofs.Saying.{said}
use Rattle.demands.proofs.Notes.{balance, same_w}

pub every-interleaving : EveryInterleaving
every-interleaving c s m [] ok = record { said = tt; lists = m; once = λ w l. omega arith }
every-interleaving c s m (e ∷ es) ok =
    let m' : Sim (step c e).after (follow (is_moment (moment c e)) s e) = event-sim c s m e ok.0 in
    let rest = every-interleaving (step c e).after (follow (is_moment (moment c e)) s e) m' es ok.1 in
    record {
      said = (said c s m e ok.0, rest.said);
      lists = rest.lists;
      once = λ w l. omega (arith, balance c s m w l e ok.0, rest.once w (omega (arith, same_w c e)));
    }

-- ---- a fresh page

-- no bit of a zeroed bitmap is set
pub zeroed-clear : (m i : ℕ) → bit_at (replicate m 0) i ≡ 0
unfolding bit_at digit
zeroed-clear m i = rw (repeated {A = ℕ} m (i / 64) 0) (omega (arith, zero-div (2 ^ (i % 64))))

still-sum : (i m : ℕ) → sum_over (held_by i) (replicate m still) ≡ 0
still-sum i zero = refl
still-sum i (suc m) = omega (arith, still-sum i m)

pub fresh-stands : FreshStands
unfolding fresh_of rules_b
fresh-stands n bw w page bits e = go (keeps_rules_b (lent n bw page bits)) refl (workers_b w) refl e
  where
    stands : Rules (lent n bw page bits) → (1 ≤ w) × (w ≤ max_workers) → Sim (config (fresh_state n bw w) page (zeroed bits)) (start n w)
    stands r f =
        record {
          rules = record { blocks = r.blocks; some = r.some; narrow = r.narrow; words = r.words; marks = length-replicate (length bits) 0 ∙ r.marks };
          some = f.0;
          most = f.1;
          records = length-replicate max_workers blank;
          n = refl;
          count = length-replicate w still;
          shared = run_none _;
          tagged = run_none _;
          tag = refl;
          on = refl;
          off = λ z. (refl, refl);
          each = λ u l. rw (repeated max_workers u blank, repeated w u still) (record { own = run_none _; got = run_none _; doing = resting refl refl refl });
          once = λ i lo hi. omega (arith, still-sum i w, zeroed-clear (length bits) i);
          within = λ i b. absurd (omega (arith, still-sum i w));
        }

    go : (a : Bool) → keeps_rules_b (lent n bw page bits) ≡ a → (b : Bool) → workers_b w ≡ b → (fresh_of n bw w page bits).number ≡ done
        → Sim (fresh_of n bw w page bits).after (start n w)
    go true p true q e = rw (p, q) (stands (rules-facts (lent n bw page bits) p) (workers-facts w q))
    go true p false q e = absurd (omega (arith, rw (p, q) at e))
    go false p b q e = absurd (omega (arith, rw p at e))

-- demand 3
pub from-fresh : FromFresh
from-fresh n bw w page bits e es ok =
    every-interleaving (fresh_of n bw w page bits).after (start n w) (fresh-stands n bw w page bits e) es ok
