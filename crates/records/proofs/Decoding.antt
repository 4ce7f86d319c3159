-- What the definitions of a record come to, test by test. Assumes nothing.
use Prim.Native.Nat.{ℕ, ◌+◌, ◌-◌, ◌≤◌, ◌<◌}
use mathlib.Core.Path.{◌≡◌, refl, sym}
use mathlib.Core.Bool.{Bool, true, false, cond}
use mathlib.Core.List.{List, [], ◌∷◌}
use native.Mathlib.Omega.{arith}
use lib.Dec.{eqb, leb, ltb}
use lib.ListN.{length, get_or}
use borrow.Author.Tests.{leb-true, leb-false, ltb-false, lt-leb, le-ltb}
use Rattle.std.proofs.Common.{Result, Ok, Err}
use Rattle.records.specs.declared.Stop.TheVariants.{Ended, Cut, Unknown, NoRoom}
use Rattle.records.specs.declared.Stop.{Stop}
use Rattle.records.specs.Records.{EventWords, marked_by, event_at, decode_at}

-- what stands at a place by the three tests there
pub decode_is : (bytes : List ℕ) (at : ℕ) {p q r : Bool} → leb (length bytes) at ≡ p → ltb (length bytes - at) 8 ≡ q → eqb (event_at bytes at).kind 0 ≡ r
    → decode_at bytes at ≡ cond p (Err Ended) (cond q (Err Cut) (cond r (Err Unknown) (Ok (event_at bytes at))))
unfolding decode_at
decode_is bytes at d e f = rw (d, e, f)

-- an event stands only where its 8 bytes do, and is theirs
pub event-whole : (bytes : List ℕ) (at : ℕ) {e : EventWords} → decode_at bytes at ≡ Ok e → (at + 8 ≤ length bytes) × (e ≡ event_at bytes at)
event-whole bytes at {e} h = go (leb (length bytes) at) (ltb (length bytes - at) 8) (eqb (event_at bytes at).kind 0) refl refl refl
  where
    go : (p q r : Bool) → leb (length bytes) at ≡ p → ltb (length bytes - at) 8 ≡ q → eqb (event_at bytes at).kind 0 ≡ r
        → (at + 8 ≤ length bytes) × (e ≡ event_at bytes at)
    go true q r d f g = absurd (cc (decode_is bytes at d f g))
    go false true r d f g = absurd (cc (decode_is bytes at d f g))
    go false false true d f g = absurd (cc (decode_is bytes at d f g))
    go false false false d f g = (omega (arith, leb-false, ltb-false), cc (decode_is bytes at d f g))

-- the end stands only past the last byte
pub end-past : (bytes : List ℕ) (at : ℕ) → decode_at bytes at ≡ Err Ended → length bytes ≤ at
end-past bytes at h = go (leb (length bytes) at) (ltb (length bytes - at) 8) (eqb (event_at bytes at).kind 0) refl refl refl
  where
    go : (p q r : Bool) → leb (length bytes) at ≡ p → ltb (length bytes - at) 8 ≡ q → eqb (event_at bytes at).kind 0 ≡ r → length bytes ≤ at
    go true q r d f g = leb-true (length bytes) at d
    go false true r d f g = absurd (cc (decode_is bytes at d f g))
    go false false true d f g = absurd (cc (decode_is bytes at d f g))
    go false false false d f g = absurd (cc (decode_is bytes at d f g))

-- no decoding wants room
pub decode-room : (bytes : List ℕ) (at : ℕ) → decode_at bytes at ≡ Err NoRoom → ⊥
decode-room bytes at h = go (leb (length bytes) at) (ltb (length bytes - at) 8) (eqb (event_at bytes at).kind 0) refl refl refl
  where
    go : (p q r : Bool) → leb (length bytes) at ≡ p → ltb (length bytes - at) 8 ≡ q → eqb (event_at bytes at).kind 0 ≡ r → ⊥
    go true q r d f g = cc (decode_is bytes at d f g)
    go false true r d f g = cc (decode_is bytes at d f g)
    go false false true d f g = cc (decode_is bytes at d f g)
    go false false false d f g = cc (decode_is bytes at d f g)

-- ---- at a place with 8 bytes

same-stop : {stop other : Stop} → ◌≡◌ {A = Result ℕ Stop} (Err stop) (Err other) → stop ≡ other
same-stop e = cc

same-kind : {k m : ℕ} → ◌≡◌ {A = Result ℕ Stop} (Ok k) (Ok m) → k ≡ m
same-kind e = cc

not-both : {k : ℕ} {stop : Stop} → ◌≡◌ {A = Result ℕ Stop} (Ok k) (Err stop) → ⊥
not-both e = cc

module _ (bytes : List ℕ) (at : ℕ) (h : at < length bytes) (g : 8 ≤ length bytes - at) where
  -- its mark is none
  pub unmarked-is : {stop : Stop} → ◌≡◌ {A = Result ℕ Stop} (Err stop) (marked_by (get_or bytes at 0 ∷ get_or bytes (at + 1) 0 ∷ [])) → Err stop ≡ decode_at bytes at
  unmarked-is {stop} e = go (eqb (event_at bytes at).kind 0) refl
    where
      go : (b : Bool) → eqb (event_at bytes at).kind 0 ≡ b → Err stop ≡ decode_at bytes at
      go true r = rw (same-stop (rw r at e)) (sym (decode_is bytes at (lt-leb _ _ h) (le-ltb _ _ g) r))
      go false r = absurd (not-both (sym (rw r at e)))

  -- its mark is one
  pub marked-is : {kind : ℕ} → Ok kind ≡ marked_by (get_or bytes at 0 ∷ get_or bytes (at + 1) 0 ∷ []) → (kind ≡ (event_at bytes at).kind) × (Ok (event_at bytes at) ≡ decode_at bytes at)
  marked-is {kind} e = go (eqb (event_at bytes at).kind 0) refl
    where
      go : (b : Bool) → eqb (event_at bytes at).kind 0 ≡ b → (kind ≡ (event_at bytes at).kind) × (Ok (event_at bytes at) ≡ decode_at bytes at)
      go true r = absurd (not-both (rw r at e))
      go false r = (same-kind (rw r at e), sym (decode_is bytes at (lt-leb _ _ h) (le-ltb _ _ g) r))
