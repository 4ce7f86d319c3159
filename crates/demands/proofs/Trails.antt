-- A trail's steps join up, its last place is the block's place, a place tells where the block is and an order after how many
-- it is read, and each step tells its event. Assumes nothing.
use Prim.Native.Nat.{ℕ, zero, suc, ◌+◌, ◌<◌}
use mathlib.Core.Path.{◌≡◌, refl, sym, ap, ◌∙◌, subst}
use mathlib.Core.Logic.{◌≢◌}
use mathlib.Core.Bool.{Bool, true, false, cond}
use mathlib.Core.List.{List, [], ◌∷◌}
use native.Mathlib.Omega.{arith}
use lib.Dec.{eqb}
use lib.ListN.{get_or}
use borrow.Author.Tests.{eqb-true, eqb-false, ltb-true, ltb-false}
use Rattle.answers.proofs.Rows.{and_left, and_right}
use Rattle.page.specs.Sequences.{hit, times}
use Rattle.demands.specs.Simple.{Simple, Hands, still, hands_of, held_by, sum_over}
use Rattle.demands.specs.Moments.{step, moment, is_moment, follow, simple_end}
use Rattle.demands.specs.Trail.{Place, caller, shared, tagged, own, got, hand, before, spot, is_in, spot_among, spot_of, place_of, kind_of, whose, same_place, step_if, trail, Joins, TrailJoins, IsAt, PlaceTells, ReadAfter, IsOrder, OrderTells, Told, ends, stays, moves, TrailTells}

-- the place of a kind and a worker
at : ℕ → ℕ → Place
at zero w = caller
at (suc zero) w = shared
at (suc (suc zero)) w = tagged
at (suc (suc (suc zero))) w = own w
at (suc (suc (suc (suc zero)))) w = got w
at (suc (suc (suc (suc (suc k))))) w = hand w

at-is : (p : Place) → at (kind_of p) (whose p) ≡ p
unfolding kind_of whose at
at-is caller = refl
at-is shared = refl
at-is tagged = refl
at-is (own w) = refl
at-is (got w) = refl
at-is (hand w) = refl

-- places found the same are equal
same-is : (p q : Place) → same_place p q ≡ true → p ≡ q
unfolding same_place
same-is p q e =
    let kinds : kind_of p ≡ kind_of q = eqb-true _ _ (and_left (eqb (kind_of p) (kind_of q)) (eqb (whose p) (whose q)) e) in
    let workers : whose p ≡ whose q = eqb-true _ _ (and_right (eqb (kind_of p) (kind_of q)) (eqb (whose p) (whose q)) e) in
    sym (at-is p) ∙ ap (λ (k : ℕ). at k (whose p)) kinds ∙ ap (at (kind_of q)) workers ∙ at-is q

pub trail-joins : TrailJoins
trail-joins i c s [] = refl
trail-joins i c s (e ∷ es) = go (same_place (place_of i s) (place_of i s')) refl (trail-joins i (step c e).after s' es)
  where
    s' : Simple
    s' = follow (is_moment (moment c e)) s e

    go : (b : Bool) → same_place (place_of i s) (place_of i s') ≡ b → Joins (place_of i s') (trail i (step c e).after s' es) (place_of i (simple_end (step c e).after s' es))
        → Joins (place_of i s) (step_if b e (place_of i s) (spot_of i s') (trail i (step c e).after s' es)) (place_of i (simple_end (step c e).after s' es))
    go true q rest = subst (λ (p : Place). Joins p (trail i (step c e).after s' es) (place_of i (simple_end (step c e).after s' es))) (sym (same-is (place_of i s) (place_of i s') q)) rest
    go false q rest = (refl, rest)

-- ---- a place tells where the block is

-- among the workers from number w on
abbrev IsAmong : ℕ → ℕ → List Hands → Place → Type 0
IsAmong i w ts caller = sum_over (held_by i) ts ≡ 0
IsAmong i w ts shared = ⊥
IsAmong i w ts tagged = ⊥
IsAmong i w ts (own v) = (k : ℕ) × (v ≡ w + k) × (0 < times i (get_or ts k still).own)
IsAmong i w ts (got v) = (k : ℕ) × (v ≡ w + k) × (0 < times i (get_or ts k still).got)
IsAmong i w ts (hand v) = (k : ℕ) × (v ≡ w + k) × (0 < times i (get_or ts k still).hand)

-- what is among the later workers is among all
later : (i w : ℕ) (t : Hands) (ts : List Hands) (p : Place) → held_by i t ≡ 0 → IsAmong i (suc w) ts p → IsAmong i w (t ∷ ts) p
later i w t ts caller z x = omega arith
later i w t ts shared z x = x
later i w t ts tagged z x = x
later i w t ts (own v) z x = (suc x.0, omega (arith, x.1), x.2)
later i w t ts (got v) z x = (suc x.0, omega (arith, x.1), x.2)
later i w t ts (hand v) z x = (suc x.0, omega (arith, x.1), x.2)

among : (i w : ℕ) (ts : List Hands) → IsAmong i w ts (spot_among i w ts).place
unfolding spot_among
among i w [] = refl
among i w (t ∷ ts) = go (is_in i t.own) refl (is_in i t.got) refl (is_in i t.hand) refl (among i (suc w) ts)
  where
    here : w ≡ w + 0
    here = omega arith

    go : (a : Bool) → is_in i t.own ≡ a → (b : Bool) → is_in i t.got ≡ b → (c : Bool) → is_in i t.hand ≡ c → IsAmong i (suc w) ts (spot_among i (suc w) ts).place
        → IsAmong i w (t ∷ ts)
        (cond a (spot (own w) (before i t.own)) (cond b (spot (got w) (before i t.got)) (cond c (spot (hand w) 0) (spot_among i (suc w) ts)))).place
    go true p b q c r x = (0, here, ltb-true _ _ p)
    go false p true q c r x = (0, here, ltb-true _ _ q)
    go false p false q true r x = (0, here, ltb-true _ _ r)
    go false p false q false r x =
        later i w t ts (spot_among i (suc w) ts).place
        (omega (arith, ltb-false 0 (times i t.own) p, ltb-false 0 (times i t.got) q, ltb-false 0 (times i t.hand) r)) x

pub place-tells : PlaceTells
unfolding spot_of
place-tells i s = go (is_in i s.shared) refl (is_in i s.tagged) refl
  where
    workers : times i s.shared ≡ 0 → times i s.tagged ≡ 0 → (p : Place) → IsAmong i 0 s.workers p → IsAt i s p
    workers z y caller x = omega arith
    workers z y shared x = absurd x
    workers z y tagged x = absurd x
    workers z y (own v) x = subst (λ (k : ℕ). 0 < times i (hands_of s k).own) (omega (arith, x.1)) x.2
    workers z y (got v) x = subst (λ (k : ℕ). 0 < times i (hands_of s k).got) (omega (arith, x.1)) x.2
    workers z y (hand v) x = subst (λ (k : ℕ). 0 < times i (hands_of s k).hand) (omega (arith, x.1)) x.2

    go : (a : Bool) → is_in i s.shared ≡ a → (b : Bool) → is_in i s.tagged ≡ b
        → IsAt i s (cond a (spot shared (before i s.shared)) (cond b (spot tagged (before i s.tagged)) (spot_among i 0 s.workers))).place
    go true p b q = ltb-true _ _ p
    go false p true q = ltb-true _ _ q
    go false p false q =
        workers (omega (arith, ltb-false 0 (times i s.shared) p)) (omega (arith, ltb-false 0 (times i s.tagged) q)) (spot_among i 0 s.workers).place (among i 0 s.workers)

-- ---- an order tells after how many blocks it is read

before-reads : (i : ℕ) (xs : List ℕ) → 0 < times i xs → ReadAfter (before i xs) i xs
unfolding before hit
before-reads i [] p = absurd (omega arith)
before-reads i (x ∷ xs) p = go (eqb i x) refl (λ q. before-reads i xs q)
  where
    behind : (i ≡ x → ⊥) → (k : ℕ) → ReadAfter k i xs → ReadAfter (suc k) i (x ∷ xs)
    behind n k r = record { within = omega (arith, r.within); here = r.here; first = none }
      where
        none : (j : ℕ) → j < suc k → get_or (x ∷ xs) j 0 ≢ i
        none zero l e = n (sym e)
        none (suc j) l e = r.first j (omega arith) e

    go : (b : Bool) → eqb i x ≡ b → (0 < times i xs → ReadAfter (before i xs) i xs) → ReadAfter (before i (x ∷ xs)) i (x ∷ xs)
    go true e rest = rw e (record { within = omega arith; here = sym (eqb-true i x e); first = λ j l. absurd (omega arith) })
    go false e rest = rw e (behind (eqb-false i x e) (before i xs) (rest (omega (arith, rw e at p))))

-- among the workers from number w on
abbrev OrderAmong : ℕ → ℕ → List Hands → Place → ℕ → Type 0
OrderAmong i w ts caller n = n ≡ 0
OrderAmong i w ts shared n = ⊥
OrderAmong i w ts tagged n = ⊥
OrderAmong i w ts (own v) n = (k : ℕ) × (v ≡ w + k) × ReadAfter n i (get_or ts k still).own
OrderAmong i w ts (got v) n = (k : ℕ) × (v ≡ w + k) × ReadAfter n i (get_or ts k still).got
OrderAmong i w ts (hand v) n = n ≡ 0

order-later : (i w : ℕ) (t : Hands) (ts : List Hands) (p : Place) (n : ℕ) → OrderAmong i (suc w) ts p n → OrderAmong i w (t ∷ ts) p n
order-later i w t ts caller n x = x
order-later i w t ts shared n x = x
order-later i w t ts tagged n x = x
order-later i w t ts (own v) n x = (suc x.0, omega (arith, x.1), x.2)
order-later i w t ts (got v) n x = (suc x.0, omega (arith, x.1), x.2)
order-later i w t ts (hand v) n x = x

order-among : (i w : ℕ) (ts : List Hands) → OrderAmong i w ts (spot_among i w ts).place (spot_among i w ts).order
unfolding spot_among
order-among i w [] = refl
order-among i w (t ∷ ts) = go (is_in i t.own) refl (is_in i t.got) refl (is_in i t.hand) refl (order-among i (suc w) ts)
  where
    here : w ≡ w + 0
    here = omega arith

    go : (a : Bool) → is_in i t.own ≡ a → (b : Bool) → is_in i t.got ≡ b → (c : Bool) → is_in i t.hand ≡ c
        → OrderAmong i (suc w) ts (spot_among i (suc w) ts).place (spot_among i (suc w) ts).order
        → OrderAmong i w (t ∷ ts) (spot_among i w (t ∷ ts)).place (spot_among i w (t ∷ ts)).order
    go true p b q c r x = rw p (0, here, before-reads i t.own (ltb-true _ _ p))
    go false p true q c r x = rw (p, q) (0, here, before-reads i t.got (ltb-true _ _ q))
    go false p false q true r x = rw (p, q, r) refl
    go false p false q false r x = rw (p, q, r) (order-later i w t ts (spot_among i (suc w) ts).place (spot_among i (suc w) ts).order x)

pub order-tells : OrderTells
unfolding spot_of
order-tells i s = go (is_in i s.shared) refl (is_in i s.tagged) refl
  where
    workers : (p : Place) (n : ℕ) → OrderAmong i 0 s.workers p n → IsOrder i s p n
    workers caller n x = x
    workers shared n x = absurd x
    workers tagged n x = absurd x
    workers (own v) n x = subst (λ (k : ℕ). ReadAfter n i (hands_of s k).own) (omega (arith, x.1)) x.2
    workers (got v) n x = subst (λ (k : ℕ). ReadAfter n i (hands_of s k).got) (omega (arith, x.1)) x.2
    workers (hand v) n x = x

    go : (a : Bool) → is_in i s.shared ≡ a → (b : Bool) → is_in i s.tagged ≡ b → IsOrder i s (spot_of i s).place (spot_of i s).order
    go true p b q = rw p (before-reads i s.shared (ltb-true _ _ p))
    go false p true q = rw (p, q) (before-reads i s.tagged (ltb-true _ _ q))
    go false p false q = rw (p, q) (workers (spot_among i 0 s.workers).place (spot_among i 0 s.workers).order (order-among i 0 s.workers))

-- ---- each step tells its event

pub trail-tells : TrailTells
trail-tells i c s [] = ends
trail-tells i c s (e ∷ es) = go (same_place (place_of i s) (place_of i s')) refl (trail-tells i (step c e).after s' es)
  where
    s' : Simple
    s' = follow (is_moment (moment c e)) s e

    go : (b : Bool) → same_place (place_of i s) (place_of i s') ≡ b → Told i (step c e).after s' es (trail i (step c e).after s' es)
        → Told i c s (e ∷ es) (step_if b e (place_of i s) (spot_of i s') (trail i (step c e).after s' es))
    go true q rest = stays (same-is (place_of i s) (place_of i s') q) rest
    go false q rest = moves (record { by = refl; away = q; was = place-tells i s; is = place-tells i s'; read = order-tells i s' }) rest
