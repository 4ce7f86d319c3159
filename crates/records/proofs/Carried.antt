-- What is carried over from one piece of the bytes to the next decodes as it does in the whole. Assumes nothing.
use Prim.Native.Nat.{ℕ, ◌+◌, ◌-◌, ◌≤◌, ◌<◌}
use mathlib.Core.Path.{◌≡◌, refl, sym, ap, ◌∙◌}
use mathlib.Core.Bool.{Bool, true, false, cond}
use mathlib.Core.List.{List, ◌++◌}
use native.Mathlib.Omega.{arith}
use native.Mathlib.Nat.{add_assoc, add-zero}
use lib.Dec.{eqb, leb, ltb}
use lib.ListN.{length, get_or, drop, length-drop, length-append, get_or-append}
use lib.Seq.{get_or-drop}
use borrow.Author.Tests.{leb-true, leb-false, lt-leb, le-leb, le-ltb}
use Rattle.std.proofs.Common.{Result, Ok, Err}
use Rattle.records.specs.declared.Stop.{Stop}
use Rattle.records.specs.declared.Stop.TheVariants.{Ended, Cut, Unknown}
use Rattle.records.specs.Records.{EventWords, event_at, decode_at}

-- two places whose 8 bytes are the same have the same event
event-same : (s t : List ℕ) (i j : ℕ) → ((m : ℕ) → m < 8 → get_or s (i + m) 0 ≡ get_or t (j + m) 0) → event_at s i ≡ event_at t j
event-same s t i j h =
    let z : get_or s i 0 ≡ get_or t j 0 = simp add-zero at (h 0 (omega arith)) in
    let h1 = h 1 (omega arith) in
    let h4 = h 4 (omega arith) in
    let h5 = h 5 (omega arith) in
    let h6 = h 6 (omega arith) in
    let h7 = h 7 (omega arith) in
    fields (cc) (h 2 (omega arith)) (h 3 (omega arith)) (omega arith) (omega arith)
  where
    fields : {e f : EventWords} → e.kind ≡ f.kind → e.worker ≡ f.worker → e.code ≡ f.code → e.a ≡ f.a → e.b ≡ f.b → e ≡ f
    fields k w c a b = λ x. record { kind = k x; worker = w x; code = c x; a = a x; b = b x }

-- what stands at a place, by the bytes left there and their event
decode-same : (s t : List ℕ) (i j : ℕ) → leb (length s) i ≡ leb (length t) j → ltb (length s - i) 8 ≡ ltb (length t - j) 8 → event_at s i ≡ event_at t j
    → decode_at s i ≡ decode_at t j
unfolding decode_at
decode-same s t i j p q r =
    ap (λ (b : Bool). given b (ltb (length s - i) 8) (event_at s i)) p
    ∙ ap (λ (b : Bool). given (leb (length t) j) b (event_at s i)) q
    ∙ ap (given (leb (length t) j) (ltb (length t - j) 8)) r
  where
    given : Bool → Bool → EventWords → Result EventWords Stop
    given p q e = cond p (Err Ended) (cond q (Err Cut) (cond (eqb e.kind 0) (Err Unknown) (Ok e)))

-- the bytes from k on: at a place there stands what stands k further in the whole
pub decode-rest : (bytes : List ℕ) (k at : ℕ) → decode_at (drop k bytes) at ≡ decode_at bytes (k + at)
decode-rest bytes k at =
    let l : length (drop k bytes) - at ≡ length bytes - (k + at) = omega (arith, length-drop k bytes) in
    decode-same (drop k bytes) bytes at (k + at) (ends (leb (length bytes) (k + at)) refl)
    (ap (λ (n : ℕ). ltb n 8) l)
    (event-same (drop k bytes) bytes at (k + at) (λ m h. get_or-drop k bytes (at + m) 0 ∙ ap (λ (n : ℕ). get_or bytes n 0) (sym (add_assoc k at m))))
  where
    ends : (b : Bool) → leb (length bytes) (k + at) ≡ b → leb (length (drop k bytes)) at ≡ b
    ends true e = le-leb (length (drop k bytes)) at (omega (arith, leb-true, length-drop k bytes))
    ends false e = lt-leb (length (drop k bytes)) at (omega (arith, leb-false, length-drop k bytes))

-- further bytes change nothing where 8 bytes stand already
pub decode-more : (bytes more : List ℕ) (at : ℕ) → at + 8 ≤ length bytes → decode_at (bytes ++ more) at ≡ decode_at bytes at
decode-more bytes more at h =
    let l = length-append bytes more in
    decode-same (bytes ++ more) bytes at at
    (lt-leb (length (bytes ++ more)) at (omega arith) ∙ sym (lt-leb (length bytes) at (omega arith)))
    (le-ltb (length (bytes ++ more) - at) 8 (omega arith) ∙ sym (le-ltb (length bytes - at) 8 (omega arith)))
    (event-same (bytes ++ more) bytes at at (λ m g. get_or-append bytes more 0 (at + m) (omega arith)))
