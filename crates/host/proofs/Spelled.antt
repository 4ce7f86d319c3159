-- A state and its words: each says the other. Assumes nothing.
use Prim.Native.Nat.{ℕ, zero, suc, ◌*◌, ◌≤◌}
use mathlib.Core.Path.{◌≡◌, refl, sym, subst}
use mathlib.Core.Bool.{Bool, true, false, not, cond}
use mathlib.Core.List.{List, [], ◌∷◌}
use native.Mathlib.Omega.{arith}
use mir.Val.{bool_byte}
use lib.Dec.{eqb}
use lib.ListN.{length, get_or, set, take}
use lib.Seq.{sets, take_all}
use Rattle.page.specs.Limits.{max_workers}
use Rattle.operations.specs.declared.Worker.{Worker}
use Rattle.machine.specs.declared.State.{State}
use Rattle.machine.specs.Config.{state_of, blank}
use Rattle.host.specs.Spelling.{state_words, worker_at, spelled, joined, words_of}
use Rattle.host.proofs.Elements.{elements, written_out, sets-all}

-- ---- the records in words

pub length-joined : (ks : List Worker) → length (joined ks) ≡ length ks * 8
length-joined [] = refl
length-joined (k ∷ ks) = let e = length-joined ks in omega arith

-- ---- what the functions' returns cite

-- a state by the records that were read
pub read_is : (words : List ℕ) {k0 k1 k2 k3 k4 k5 k6 k7 : Worker} → k0 ≡ worker_at words 0 → k1 ≡ worker_at words 1 → k2 ≡ worker_at words 2 → k3 ≡ worker_at words 3
    → k4 ≡ worker_at words 4 → k5 ≡ worker_at words 5 → k6 ≡ worker_at words 6 → k7 ≡ worker_at words 7
    → state_of (get_or words 0 0) (get_or words 1 0) (get_or words 2 0) (get_or words 3 0) (get_or words 4 0) (not (eqb (get_or words 5 0) 0)) (k0 ∷ k1 ∷ k2 ∷ k3 ∷ k4 ∷ k5 ∷ k6 ∷ k7 ∷ [])
    ≡ spelled words
unfolding spelled
read_is words p0 p1 p2 p3 p4 p5 p6 p7 = simp (p0, p1, p2, p3, p4, p5, p6, p7)

-- on as a number
as_number : (b : Bool) → bool_byte b ≡ cond b 1 0
as_number true = refl
as_number false = refl

-- the words of a state, stored over as many words
all-stored : (words : List ℕ) (s : State) → length words ≡ state_words → length s.workers ≡ max_workers → sets words 0 (words_of s) ≡ words_of s
unfolding words_of
all-stored words s e f = let h = length-joined s.workers in sets-all words _ (omega arith)

-- all words by the first six and the records
pub stored_is : (words : List ℕ) (s : State) (i : ℕ) → length words ≡ state_words → length s.workers ≡ max_workers → max_workers ≤ i
    → sets (set (set (set (set (set (set words 0 s.n) 1 s.bw) 2 s.w) 3 s.shared) 4 s.tagged) 5 (bool_byte s.on)) 6 (joined (take i s.workers)) ≡ words_of s
unfolding words_of
stored_is words s i e f h =
    let t : take i s.workers ≡ s.workers = take_all i s.workers (omega arith) in
    simp (t, as_number) (all-stored words s e f)

-- ---- each says the other

spelled-eight : (n bw w shared tagged : ℕ) (on : Bool) (k0 k1 k2 k3 k4 k5 k6 k7 : Worker)
    → let s = state_of n bw w shared tagged on (k0 ∷ k1 ∷ k2 ∷ k3 ∷ k4 ∷ k5 ∷ k6 ∷ k7 ∷ []) in spelled (words_of s) ≡ s
unfolding spelled words_of
spelled-eight n bw w shared tagged true k0 k1 k2 k3 k4 k5 k6 k7 = refl
spelled-eight n bw w shared tagged false k0 k1 k2 k3 k4 k5 k6 k7 = refl

-- a state of eight records is what its words spell
pub spelled-words : (s : State) → length s.workers ≡ max_workers → spelled (words_of s) ≡ s
spelled-words s e =
    let same : s.workers ≡ elements s.workers blank 0 max_workers = written_out s.workers blank 0 max_workers (omega arith) in
    subst (λ (ks : List Worker). let t = state_of s.n s.bw s.w s.shared s.tagged s.on ks in spelled (words_of t) ≡ t) (sym same)
    (spelled-eight s.n s.bw s.w s.shared s.tagged s.on _ _ _ _ _ _ _ _)

-- a word that is 0 or 1
one_bit : (x : ℕ) → x ≤ 1 → cond (not (eqb x 0)) 1 0 ≡ x
one_bit zero h = refl
one_bit (suc zero) h = refl
one_bit (suc (suc x)) h = absurd (omega arith)

-- 70 words whose sixth is 0 or 1 are those of the state that they spell
pub words-spelled : (words : List ℕ) → length words ≡ state_words → get_or words 5 0 ≤ 1 → words_of (spelled words) ≡ words
unfolding words_of spelled
words-spelled words e h =
    let same : words ≡ elements words 0 0 state_words = written_out words 0 0 state_words (omega arith) in
    simp (one_bit (get_or words 5 0) h) (sym same)
