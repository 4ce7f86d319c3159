-- Both machines refuse alike: the rows agree, one by one, as far as no row above applies. Assumes nothing.
use Prim.Native.Nat.{ℕ, zero, suc, ◌+◌, ◌≤◌, ◌<◌}
use mathlib.Core.Path.{◌≡◌, refl, sym, ap, ap₂, ◌∙◌, subst}
use mathlib.Core.Bool.{Bool, true, false, not, ◌&&◌, ◌||◌, true≢false}
use mathlib.Core.List.{List, [], ◌∷◌}
use native.Mathlib.Omega.{arith}
use lib.Dec.{eqb, ltb}
use borrow.Author.Tests.{eqb-true, eq-eqb, ne_eqb, ltb-true, lt-ltb, not-false}
use Rattle.answers.specs.Numbers.{bad_page, no_worker, no_such, busy, switched, not_empty, listed, none_left, damaged}
use Rattle.answers.proofs.Rows.{none, then, first-agree}
use Rattle.bitmap.specs.Bitmap.{bit_at, any_from}
use Rattle.page.specs.Page.{listed_b, link_at, sound_in}
use Rattle.page.specs.Sequences.{Runs}
use Rattle.page.proofs.Rules.{rules-test, workers-test, block-facts, run-facts}
use Rattle.page.proofs.Running.{run_sound, run-some, run-rest, walk_is}
use Rattle.operations.specs.Operations.{push_shared, push_tagged, staged_b, pushes_b, takes_b, on_tagged_b}
use Rattle.staged.specs.Start.{start_fits_b}
use Rattle.machine.specs.Config.{Config, worker_of, rules_b}
use Rattle.machine.specs.Config as machine
use Rattle.machine.specs.Table.{insert, pop, append, extend, release, table, arguments_fit_b, any_named, own_unsound, link_unsound, walk_broken, tests_of, request_refusal}
use Rattle.demands.specs.Simple.{Simple, hands_of, times_in, in_use, is_nil, judged}
use Rattle.demands.specs.Relation.{Doing, resting, pushing_shared, pushing_tagged, taking_shared, taking_tagged, setting, asking, awaiting, Sim}
use Rattle.demands.proofs.Facts.{one_place, own-sound}

-- ---- tests

and_no : (b : Bool) → (b && false) ≡ false
and_no true = refl
and_no false = refl

all-no : (a b d : Bool) → ((a && b && false) || (d && false)) ≡ false
all-no true true true = refl
all-no true true false = refl
all-no true false true = refl
all-no true false false = refl
all-no false b true = refl
all-no false b false = refl

-- a request that names one block has it among 1 to n
pub named-block : (n code a b : ℕ) → arguments_fit_b n code a b ≡ true → (eqb code insert || pushes_b code) ≡ true → (1 ≤ a) × (a ≤ n)
unfolding arguments_fit_b staged_b pushes_b start_fits_b
named-block n code a b fit e = go (eqb code insert) refl (eqb code push_shared) refl (eqb code push_tagged) refl e
  where
    at : (k : ℕ) → code ≡ k → arguments_fit_b n k a b ≡ true
    at k q = subst (λ (j : ℕ). arguments_fit_b n j a b ≡ true) q fit

    go : (x : Bool) → eqb code insert ≡ x → (y : Bool) → eqb code push_shared ≡ y → (z : Bool) → eqb code push_tagged ≡ z → (x || (y || z)) ≡ true → (1 ≤ a) × (a ≤ n)
    go true p y q z r e = block-facts n a (at insert (eqb-true _ _ p))
    go false p true q z r e = block-facts n a (at push_shared (eqb-true _ _ q))
    go false p false q true r e = block-facts n a (at push_tagged (eqb-true _ _ r))
    go false p false q false r e = absurd (true≢false (sym e))

pub named-run : (n code a b : ℕ) → arguments_fit_b n code a b ≡ true → code ≡ extend → (1 ≤ a) × (1 ≤ b) × (a + b ≤ n + 1)
unfolding arguments_fit_b staged_b
named-run n code a b fit e = run-facts n a b (subst (λ (j : ℕ). arguments_fit_b n j a b ≡ true) e fit)

module _ (c : Config) (s : Simple) (m : Sim c s) where
  pub rules-hold : rules_b c ≡ true
  unfolding rules_b
  rules-hold = simp (rules-test (machine.lent_of c) m.rules, workers-test c.state.w (m.some, m.most))

  -- a note is the operation under way
  pub note-is : (w : ℕ) → w < c.state.w → (worker_of c w).operation ≡ (hands_of s w).note
  note-is w l = go (m.each w l).doing
    where
      go : Doing (machine.lent_of c) c.state.on (worker_of c w) (hands_of s w) → (worker_of c w).operation ≡ (hands_of s w).note
      go (resting h a d) = a ∙ sym d
      go (pushing_shared h a d g x y) = a ∙ sym d
      go (pushing_tagged h a d g x y) = a ∙ sym d
      go (taking_shared h a d x y) = a ∙ sym d
      go (taking_tagged h a d x y z) = a ∙ sym d
      go (setting h a d x y z u) = a ∙ sym d
      go (asking h a d x y u) = a ∙ sym d
      go (awaiting h a d x y) = a ∙ sym d

  -- a block of 1 to n has its bit set exactly if it is in use
  pub used-is : (i : ℕ) → 1 ≤ i → i ≤ c.state.n → listed_b c.bits i ≡ in_use s i
  used-is i l h = go (times_in i s) refl
    where
      go : (k : ℕ) → times_in i s ≡ k → listed_b c.bits i ≡ in_use s i
      go zero e = simp (e, sym (m.once i l h) ∙ e)
      go (suc k) e = simp (omega-one, lt-ltb 0 (times_in i s) (omega arith))
        where
          omega-one : bit_at c.bits i ≡ 1
          omega-one = omega (arith, m.once i l h, one_place c s m i)

  -- a head is 0 exactly if its sequence is empty
  pub empty-is : (h : ℕ) (xs : List ℕ) → Runs (machine.lent_of c) h xs → eqb h 0 ≡ is_nil xs
  empty-is h [] x = eq-eqb h 0 x.chain
  empty-is h (i ∷ xs) x = ne_eqb h 0 (run-some (machine.lent_of c) m.rules h i xs x)

  any-is : (a k : ℕ) → 1 ≤ a → a + k ≤ c.state.n + 1 → any_from (listed_b c.bits) a k ≡ any_from (in_use s) a k
  unfolding any_from
  any-is a zero l h = refl
  any-is a (suc k) l h = ap₂ (λ (x y : Bool). x || y) (any-is a k l (omega arith)) (used-is (a + k) (omega arith) (omega arith))

  -- ---- the rows

  own-fine : (w code : ℕ) → w < c.state.w → own_unsound c w code ≡ false
  unfolding own_unsound
  own-fine w code l =
      rw (own-sound c s m w l) (and_no (eqb code insert || eqb code pop || eqb code extend || (eqb code append && not (eqb (worker_of c w).got 0))))

  link-fine : (w code : ℕ) → w < c.state.w → (eqb code pop && is_nil (hands_of s w).own) ≡ false → link_unsound c w code ≡ false
  unfolding link_unsound
  link-fine w code l e = go (eqb code pop) (hands_of s w).own (m.each w l).own e
    where
      go : (b : Bool) (xs : List ℕ) → Runs (machine.lent_of c) (worker_of c w).own xs → (b && is_nil xs) ≡ false
          → (b && not (sound_in (machine.lent_of c) (link_at c.page (worker_of c w).own))) ≡ false
      go false xs x e = refl
      go true [] x e = absurd (true≢false e)
      go true (i ∷ xs) x e =
          rw (run_sound (machine.lent_of c) m.rules (link_at c.page (worker_of c w).own) xs (run-rest (machine.lent_of c) (worker_of c w).own i xs x))

  walk_fine : (w code : ℕ) → w < c.state.w → walk_broken c w code ≡ false
  unfolding walk_broken
  walk_fine w code l =
      let f = m.each w l in
      rw (walk_is (machine.lent_of c) m.rules (worker_of c w).got (hands_of s w).got f.got, walk_is (machine.lent_of c) m.rules (worker_of c w).own (hands_of s w).own f.own)
      (all-no (eqb code append) (not (eqb (worker_of c w).got 0)) (eqb code release))

  -- the blocks that a request names are of 1 to n
  named-is : (code a b : ℕ) → arguments_fit_b c.state.n code a b ≡ true → any_named (listed_b c.bits) code a b ≡ any_named (in_use s) code a b
  unfolding any_named
  named-is code a b fit = ap₂ (λ (x y : Bool). x || y) (one (eqb code insert || pushes_b code) refl) (many (eqb code extend) refl)
    where
      one : (q : Bool) → (eqb code insert || pushes_b code) ≡ q → (q && listed_b c.bits a) ≡ (q && in_use s a)
      one false e = refl
      one true e = let f = named-block c.state.n code a b fit e in used-is a f.0 f.1

      many : (q : Bool) → eqb code extend ≡ q → (q && any_from (listed_b c.bits) a b) ≡ (q && any_from (in_use s) a b)
      many false e = refl
      many true e = let f = named-run c.state.n code a b fit (eqb-true code extend e) in any-is a b f.0 f.2

  pub refused-alike : (w code a b : ℕ) → request_refusal c w code a b ≡ table code (judged s w code a b)
  unfolding table tests_of judged
  refused-alike w code a b =
      first-agree
      (then bad_page (ap not rules-hold) (λ r.
      then no_worker (ap (λ (k : ℕ). not (ltb w k)) (sym m.count)) (λ there.
      let l : w < c.state.w = ltb-true w c.state.w (not-false _ there) in
      let f = m.each w l in
      then no_such (ap (λ (k : ℕ). not (arguments_fit_b k code a b)) (sym m.n)) (λ fit.
      then busy (ap (λ (k : ℕ). not (eqb k 0)) (note-is w l)) (λ idle.
      then switched (ap (λ (o : Bool). on_tagged_b code && not o) m.on) (λ on.
      then not_empty (ap (λ (o : Bool). takes_b code && not o) (empty-is (worker_of c w).got (hands_of s w).got f.got)) (λ free.
      then listed (named-is code a b (not-false _ fit)) (λ new.
      then none_left (ap (λ (o : Bool). eqb code pop && o) (empty-is (worker_of c w).own (hands_of s w).own f.own)) (λ some.
      then damaged (fine w code l (sym (ap (λ (o : Bool). eqb code pop && o) (empty-is (worker_of c w).own (hands_of s w).own f.own)) ∙ some))
      (λ z. none))))))))))
    where
      fine : (w code : ℕ) → w < c.state.w → (eqb code pop && is_nil (hands_of s w).own) ≡ false → (own_unsound c w code || link_unsound c w code || walk_broken c w code) ≡ false
      fine w code l e = rw (own-fine w code l, link-fine w code l e, walk_fine w code l)
