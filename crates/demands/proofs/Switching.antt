-- T switched on and off: refused alike, done alike. Assumes nothing.
use Prim.Native.Nat.{ℕ, zero, suc, ◌≤◌, ◌<◌, suc-le-suc}
use mathlib.Core.Path.{◌≡◌, refl, sym, ap, ap₂, ◌∙◌, subst}
use mathlib.Core.Bool.{Bool, true, false, not, ◌||◌, true≢false}
use mathlib.Core.List.{List, [], ◌∷◌}
use native.Mathlib.Omega.{arith}
use native.Mathlib.Nat.{le_of_suc-le-suc}
use lib.Dec.{eqb}
use lib.ListN.{length, get_or}
use borrow.Author.Tests.{eqb-true, not-false}
use Rattle.answers.specs.Numbers.{bad_page, busy, switched, not_empty}
use Rattle.answers.specs.Rows.{Row, row, first, outcome, unless}
use Rattle.answers.proofs.Rows.{none, then, first-agree, first_past, first-none}
use Rattle.words.specs.Tagged.{tag_of, address_of}
use Rattle.page.specs.Page.{Lent}
use Rattle.page.specs.Sequences.{times}
use Rattle.page.proofs.Running.{run_none}
use Rattle.operations.specs.declared.Worker.{Worker}
use Rattle.operations.specs.Operations.{busy_b}
use Rattle.machine.specs.Config.{Config, lent_of, worker_of, blank, rules_b}
use Rattle.machine.specs.Table.{any_busy, on_refusal, off_refusal}
use Rattle.machine.specs.Switch.{with_switch, switch_on_of, switch_off_of}
use Rattle.demands.specs.Simple.{Simple, simple, Hands, still, hands_of, is_nil, any_note}
use Rattle.demands.specs.Simple as machine
use Rattle.demands.specs.Relation.{Doing, resting, pushing_shared, pushing_tagged, taking_shared, taking_tagged, setting, asking, awaiting, Sim}
use Rattle.demands.proofs.Refusals.{rules-hold, note-is, empty-is}
use Rattle.demands.proofs.Requests.{Explained, nil_is}

-- any worker busy, any note made
any-alike : (ks : List Worker) (ts : List Hands) (n : ℕ) → length ts ≡ n → n ≤ length ks
    → ((w : ℕ) → w < n → busy_b (get_or ks w blank) ≡ not (eqb (get_or ts w still).note 0)) → any_busy ks n ≡ any_note ts
unfolding any_busy
any-alike [] [] n e l f = refl
any-alike [] (t ∷ ts) n e l f = absurd (omega arith)
any-alike (k ∷ ks) [] zero e l f = refl
any-alike (k ∷ ks) [] (suc n) e l f = absurd (omega arith)
any-alike (k ∷ ks) (t ∷ ts) zero e l f = absurd (omega arith)
any-alike (k ∷ ks) (t ∷ ts) (suc n) e l f =
    ap₂ (λ (x y : Bool). x || y) (f 0 (omega arith)) (any-alike ks ts n (omega arith) (le_of_suc-le-suc l) (λ w h. f (suc w) (suc-le-suc h)))

-- no note is made
none-noted : (ts : List Hands) (w : ℕ) → any_note ts ≡ false → (get_or ts w still).note ≡ 0
none-noted [] w e = refl
none-noted (t ∷ ts) w e = go (eqb t.note 0) refl e w (λ v f. none-noted ts v f)
  where
    go : (b : Bool) → eqb t.note 0 ≡ b → (not b || any_note ts) ≡ false → (w : ℕ) → ((v : ℕ) → any_note ts ≡ false → (get_or ts v still).note ≡ 0)
        → (get_or (t ∷ ts) w still).note ≡ 0
    go true q f zero ih = eqb-true t.note 0 q
    go true q f (suc w) ih = ih w f
    go false q f w ih = absurd (true≢false f)

-- a worker fits on either side of the switch: nothing on T was under way while off
turned_on : (c : Lent) (k : Worker) (t : Hands) → Doing c false k t → Doing c true k t
turned_on c k t (resting h a d) = resting h a d
turned_on c k t (pushing_shared h a d g x y) = pushing_shared h a d g x y
turned_on c k t (pushing_tagged h a d g x y) = absurd (true≢false (sym x))
turned_on c k t (taking_shared h a d x y) = taking_shared h a d x y
turned_on c k t (taking_tagged h a d x y z) = absurd (true≢false (sym y))
turned_on c k t (setting h a d x y z u) = absurd (true≢false (sym z))
turned_on c k t (asking h a d x y u) = absurd (true≢false (sym y))
turned_on c k t (awaiting h a d x y) = absurd (true≢false (sym x))

at_rest : (c : Lent) (on off : Bool) (k : Worker) (t : Hands) → t.note ≡ 0 → Doing c on k t → Doing c off k t
at_rest c on off k t z (resting h a d) = resting h a d
at_rest c on off k t z (pushing_shared h a d g x y) = absurd (omega arith)
at_rest c on off k t z (pushing_tagged h a d g x y) = absurd (omega arith)
at_rest c on off k t z (taking_shared h a d x y) = absurd (omega arith)
at_rest c on off k t z (taking_tagged h a d x y u) = absurd (omega arith)
at_rest c on off k t z (setting h a d x y u v) = absurd (omega arith)
at_rest c on off k t z (asking h a d x y u) = absurd (omega arith)
at_rest c on off k t z (awaiting h a d x y) = absurd (omega arith)

module _ (c : Config) (s : Simple) (m : Sim c s) where
  -- T empty, on or off, every worker fitting
  switch-changes : (on : Bool) → s.tagged ≡ [] → ((w : ℕ) → w < c.state.w → Doing (lent_of c) on (worker_of c w) (hands_of s w))
      → Sim (with_switch c on) (simple s.n s.shared [] 0 on s.workers)
  switch-changes on empty doing =
      record {
        rules = record { blocks = m.rules.blocks; some = m.rules.some; narrow = m.rules.narrow; words = m.rules.words; marks = m.rules.marks };
        some = m.some;
        most = m.most;
        records = m.records;
        n = m.n;
        count = m.count;
        shared = m.shared;
        tagged = run_none (lent_of c);
        tag = refl;
        on = refl;
        off = λ f. (refl, refl);
        each = λ w l. record { own = (m.each w l).own; got = (m.each w l).got; doing = doing w l };
        once = λ i lo hi. omega (arith, m.once i lo hi, ap (times i) empty);
        within = λ i b. m.within i (omega (arith, ap (times i) empty));
      }

  on_alike : on_refusal c ≡ first (row switched s.on ∷ [])
  unfolding on_refusal
  on_alike = first_past (row bad_page (not (rules_b c))) _ (ap not (rules-hold c s m)) ∙ first-agree (then switched m.on (λ z. none))

  pub on-explained : Explained (switch_on_of c) (machine.switch_on s)
  unfolding switch_on_of machine.switch_on
  on-explained = rw on_alike (go (first (row switched s.on ∷ [])) refl (eqb (first (row switched s.on ∷ [])) 0) refl)
    where
      go : (k : ℕ) → first (row switched s.on ∷ []) ≡ k → (q : Bool) → eqb k 0 ≡ q
          → Explained (unless k c (outcome 0 0 (with_switch c true))) (unless k s (outcome 0 0 (simple s.n s.shared [] 0 true s.workers)))
      go k e false q = rw q (record { sim = m; number = refl; value = refl })
      go k e true q =
          let off : s.on ≡ false = (first-none _ _ _ (omega arith) (e ∙ eqb-true k 0 q)).0 in
          rw q
          (record {
            sim = switch-changes true (m.off off).0 (λ w l. turned_on (lent_of c) (worker_of c w) (hands_of s w) (subst (λ (o : Bool). Doing (lent_of c) o (worker_of c w) (hands_of s w)) (m.on ∙ off) (m.each w l).doing));
            number = refl;
            value = refl;
          })

  off-alike : off_refusal c ≡ first (row busy (any_note s.workers) ∷ row switched (not s.on) ∷ row not_empty (not (is_nil s.tagged)) ∷ [])
  unfolding off_refusal
  off-alike =
      first_past (row bad_page (not (rules_b c))) _ (ap not (rules-hold c s m))
      ∙ first-agree
      (then busy (any-alike c.state.workers s.workers c.state.w m.count (omega (arith, m.records, m.most)) (λ w l. ap (λ (o : ℕ). not (eqb o 0)) (note-is c s m w l)))
      (λ idle. then switched (ap not m.on)
      (λ live. then not_empty (ap not (empty-is c s m (address_of c.state.tagged) s.tagged m.tagged)) (λ z. none))))

  pub off-explained : Explained (switch_off_of c) (machine.switch_off s)
  unfolding switch_off_of machine.switch_off
  off-explained = rw off-alike (go (first rows) refl (eqb (first rows) 0) refl)
    where
      rows : List Row
      rows = row busy (any_note s.workers) ∷ row switched (not s.on) ∷ row not_empty (not (is_nil s.tagged)) ∷ []

      go : (k : ℕ) → first rows ≡ k → (q : Bool) → eqb k 0 ≡ q
          → Explained (unless k c (outcome 0 (tag_of c.state.tagged) (with_switch c false))) (unless k s (outcome 0 s.tag (simple s.n s.shared [] 0 false s.workers)))
      go k e false q = rw q (record { sim = m; number = refl; value = refl })
      go k e true q =
          let t5 = first-none _ _ _ (omega arith) (e ∙ eqb-true k 0 q) in
          let t7 = first-none _ _ _ (omega arith) t5.1 in
          let t8 = first-none _ _ _ (omega arith) t7.1 in
          rw q
          (record {
            sim = switch-changes false (nil_is s.tagged (not-false _ t8.0))
                (λ w l. at_rest (lent_of c) c.state.on false (worker_of c w) (hands_of s w) (none-noted s.workers w t5.0) (m.each w l).doing);
            number = refl;
            value = m.tag;
          })
