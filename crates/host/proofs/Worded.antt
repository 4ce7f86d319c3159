-- Which of the 70 words is what: the statements of `Words`, proved. Assumes nothing.
use Prim.Native.Nat.{ℕ, zero, suc, ◌≤◌, ◌<◌}
use mathlib.Core.Path.{◌≡◌, refl, sym, ap, subst}
use mathlib.Core.Logic.{◌≢◌, ◌↔◌}
use mathlib.Core.Bool.{Bool, true, false, not, cond, true≢false}
use mathlib.Core.List.{List}
use native.Mathlib.Omega.{arith}
use lib.Dec.{eqb}
use lib.ListN.{get_or}
use borrow.Author.Tests.{eqb-true, eqb-false, lt-ltb, le-ltb}
use Rattle.operations.specs.declared.Worker.{Worker}
use Rattle.machine.specs.Config.{blank}
use Rattle.host.specs.Spelling.{worker_at, spelled, words_of}
use Rattle.host.specs.Calls.{written}
use Rattle.host.specs.Words.{Words, WordsAreRead, WordsAreWritten, RefusedLeavesWords}
use Rattle.host.proofs.Spelled.{length-joined, spelled-words}

-- a word that is not 0 means on
on-is : (x : ℕ) → (not (eqb x 0) ≡ true) ↔ (x ≢ 0)
on-is x = go (eqb x 0) refl
  where
    go : (b : Bool) → eqb x 0 ≡ b → (not b ≡ true) ↔ (x ≢ 0)
    go true e = (λ q. absurd (true≢false (sym q)), λ n. absurd (n (eqb-true x 0 e)))
    go false e = (λ q. eqb-false x 0 e, λ n. refl)

-- record i of eight
record-at : (words : List ℕ) (i : ℕ) → i < 8 → get_or (spelled words).workers i blank ≡ worker_at words i
unfolding spelled
record-at words zero l = refl
record-at words (suc zero) l = refl
record-at words (suc (suc zero)) l = refl
record-at words (suc (suc (suc zero))) l = refl
record-at words (suc (suc (suc (suc zero)))) l = refl
record-at words (suc (suc (suc (suc (suc zero))))) l = refl
record-at words (suc (suc (suc (suc (suc (suc zero)))))) l = refl
record-at words (suc (suc (suc (suc (suc (suc (suc zero))))))) l = refl
record-at words (suc (suc (suc (suc (suc (suc (suc (suc i)))))))) l = absurd (omega arith)

pub words-are-read : WordsAreRead
unfolding spelled
words-are-read words = (
  record {
    n = refl;
    bw = refl;
    w = refl;
    shared = refl;
    tagged = refl;
    on = on-is (get_or words 5 0);
    own = λ i l. ap (λ (k : Worker). k.own) (record-at words i l);
    got = λ i l. ap (λ (k : Worker). k.got) (record-at words i l);
    operation = λ i l. ap (λ (k : Worker). k.operation) (record-at words i l);
    stage = λ i l. ap (λ (k : Worker). k.stage) (record-at words i l);
    tag = λ i l. ap (λ (k : Worker). k.tag) (record-at words i l);
    hand = λ i l. ap (λ (k : Worker). k.hand) (record-at words i l);
    seen = λ i l. ap (λ (k : Worker). k.seen) (record-at words i l);
    sightings = λ i l. ap (λ (k : Worker). k.sightings) (record-at words i l);
  },
  refl,
)

pub words-are-written : WordsAreWritten
unfolding words_of
words-are-written s e =
    record {
      each = subst (Words (words_of s)) (spelled-words s e) (words-are-read (words_of s)).0;
      long = omega (arith, length-joined s.workers);
      switch = small s.on;
    }
  where
    small : (b : Bool) → cond b 1 0 ≤ 1
    small true = omega arith
    small false = omega arith

pub refused-leaves-words : RefusedLeavesWords
unfolding written
refused-leaves-words words number s = (λ l. rw (lt-ltb number 2 (omega arith)), λ l. rw (le-ltb number 2 l))
