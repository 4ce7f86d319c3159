-- The turns of a fill, as the code makes them: what one turn does, and that filling stays as it stopped. Assumes nothing.
use Rattle.std.proofs.Common.{◌≡◌, ℕ, zero, suc, ◌+◌, ◌-◌, ◌*◌, ◌/◌, ◌≤◌, Bool, cond, List, ltb, length, Some, Result, Ok, sym, ap, ◌∙◌, add-one, arith}
use Rattle.records.specs.declared.Stop.{Stop}
use Rattle.records.specs.Records.{EventWords, decode_at}
use Rattle.records.specs.Fill.{no_room, going, Filling, filling, put_event, put_next, next, fill_in, fill_of}

-- one turn, by what stands there
pub next-is : (bytes : List ℕ) (k : ℕ) (words : List ℕ) {r : Result EventWords Stop} → r ≡ decode_at bytes (8 * k) → put_next k words r ≡ next bytes (filling k going words)
unfolding next
next-is bytes k words e = ap (put_next k words) e

-- at an event, by the test of its room
pub event-is : (bytes : List ℕ) (k : ℕ) (words : List ℕ) {e : EventWords} {p : Bool} → Ok e ≡ decode_at bytes (8 * k) → ltb (length words - 5 * k) 5 ≡ p
    → cond p (filling k no_room words) (filling (k + 1) going (put_event words (5 * k) e)) ≡ next bytes (filling k going words)
event-is bytes k words {e} h r =
    ap (λ (b : Bool). cond b (filling k no_room words) (filling (k + 1) going (put_event words (5 * k) e))) (sym r) ∙ next-is bytes k words h

-- after a stop no turn changes anything
pub next-stopped : (bytes : List ℕ) (f : Filling) {stop : Stop} → f.stop ≡ Some stop → next bytes f ≡ f
unfolding next
next-stopped bytes f e = rw e

stays : (bytes words : List ℕ) (t : ℕ) {stop : Stop} → (fill_in bytes t words).stop ≡ Some stop → (m u : ℕ) → u ≡ m + t → fill_in bytes u words ≡ fill_in bytes t words
unfolding fill_in
stays bytes words t s zero u e = let z : u ≡ t = omega arith in ap (λ (x : ℕ). fill_in bytes x words) z
stays bytes words t s (suc m) zero e = absurd (omega arith)
stays bytes words t s (suc m) (suc u) e = ap (next bytes) (stays bytes words t s m u (omega arith)) ∙ next-stopped bytes (fill_in bytes t words) s

-- a turn of the code, made behind k that did not stop
module _ (bytes words₀ : List ℕ) (k : ℕ) (words : List ℕ) (same : fill_in bytes k words₀ ≡ filling k going words) where
  -- it goes on or stops
  pub turned-is : {f : Filling} → f ≡ next bytes (filling k going words) → fill_in bytes (k + 1) words₀ ≡ f
  unfolding fill_in
  turned-is {f} e = ap (λ (t : ℕ). fill_in bytes t words₀) (add-one k) ∙ ap (next bytes) same ∙ sym e

  -- where it stops, that is the whole
  pub turn-out : {after : List ℕ} {stop : Stop} → filling k (Some stop) after ≡ next bytes (filling k going words) → 8 * k ≤ length bytes → filling k (Some stop) after ≡ fill_of bytes words₀
  turn-out e h =
      sym (turned-is e) ∙ sym (stays bytes words₀ (k + 1) (ap (λ (f : Filling). f.stop) (turned-is e)) (length bytes / 8 - k) (length bytes / 8 + 1) (omega arith))
