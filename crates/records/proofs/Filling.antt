-- What a fill leaves, turn by turn: the statement of `Filled`, and that a fill which ends on a record's end used
-- every byte. Assumes nothing.
use Prim.Native.Nat.{ℕ, zero, suc, ◌+◌, ◌-◌, ◌*◌, ◌/◌, ◌≤◌, ◌<◌}
use mathlib.Core.Path.{◌≡◌, refl, sym, ap, ◌∙◌, subst}
use mathlib.Core.Logic.{◌≢◌}
use mathlib.Core.Bool.{Bool, true, false, cond}
use mathlib.Core.List.{List}
use native.Mathlib.Omega.{arith}
use native.Mathlib.Decide.{dec_lt}
use lib.Dec.{ltb}
use lib.ListN.{length, get_or, set, length-set}
use lib.Seq.{get_or-set_same, get_or-set_other}
use borrow.Author.Tests.{ltb-true, ltb-false}
use Rattle.std.proofs.Common.{Option, Some, None, Result, Ok, Err}
use Rattle.records.specs.declared.Stop.{Stop}
use Rattle.records.specs.declared.Stop.TheVariants.{Ended, NoRoom}
use Rattle.records.specs.Records.{EventWords, event_at, decode_at}
use Rattle.records.specs.Fill.{ended, no_room, going, Filling, filling, put_event, put_next, next, fill_in, fill_of}
use Rattle.records.specs.Filled.{EventStands, why_of, FillHolds, Stopped, FillTells}
use Rattle.records.proofs.Decoding.{event-whole, end-past, decode-room}
use Rattle.records.proofs.Turns.{next-stopped, turned-is}

-- ---- the five stores

module _ (words : List ℕ) (to : ℕ) (e : EventWords) where
  w1 : List ℕ
  w1 = set words to e.kind

  w2 : List ℕ
  w2 = set w1 (to + 1) e.worker

  w3 : List ℕ
  w3 = set w2 (to + 2) e.code

  w4 : List ℕ
  w4 = set w3 (to + 3) e.a

  put-length : length (put_event words to e) ≡ length words
  put-length = simp length-set

  -- a word past the third, second, first of them, and past none
  past-3 : (j : ℕ) → j ≢ to + 4 → get_or (put_event words to e) j 0 ≡ get_or w4 j 0
  unfolding w1 w2 w3 w4
  past-3 j h = get_or-set_other w4 (to + 4) j e.b 0 h

  past-2 : (j : ℕ) → j ≢ to + 4 → j ≢ to + 3 → get_or (put_event words to e) j 0 ≡ get_or w3 j 0
  unfolding w4
  past-2 j h g = past-3 j h ∙ get_or-set_other w3 (to + 3) j e.a 0 g

  past-1 : (j : ℕ) → j ≢ to + 4 → j ≢ to + 3 → j ≢ to + 2 → get_or (put_event words to e) j 0 ≡ get_or w2 j 0
  unfolding w3
  past-1 j h g f = past-2 j h g ∙ get_or-set_other w2 (to + 2) j e.code 0 f

  past-0 : (j : ℕ) → j ≢ to + 4 → j ≢ to + 3 → j ≢ to + 2 → j ≢ to + 1 → get_or (put_event words to e) j 0 ≡ get_or w1 j 0
  unfolding w2
  past-0 j h g f d = past-1 j h g f ∙ get_or-set_other w1 (to + 1) j e.worker 0 d

  put_other : (j : ℕ) → j ≢ to + 4 → j ≢ to + 3 → j ≢ to + 2 → j ≢ to + 1 → j ≢ to → get_or (put_event words to e) j 0 ≡ get_or words j 0
  unfolding w1
  put_other j h g f d b = past-0 j h g f d ∙ get_or-set_other words to j e.kind 0 b

  put-stands : to + 5 ≤ length words → EventStands (put_event words to e) to e
  unfolding w1 w2 w3 w4
  put-stands h =
      let l1 : length w1 ≡ length words = simp length-set in
      let l2 : length w2 ≡ length words = simp length-set in
      let l3 : length w3 ≡ length words = simp length-set in
      let l4 : length w4 ≡ length words = simp length-set in
      record {
        kind = past-0 to (omega arith) (omega arith) (omega arith) (omega arith) ∙ get_or-set_same words to e.kind 0 (omega arith);
        worker = past-1 (to + 1) (omega arith) (omega arith) (omega arith) ∙ get_or-set_same w1 (to + 1) e.worker 0 (omega arith);
        code = past-2 (to + 2) (omega arith) (omega arith) ∙ get_or-set_same w2 (to + 2) e.code 0 (omega arith);
        a = past-3 (to + 3) (omega arith) ∙ get_or-set_same w3 (to + 3) e.a 0 (omega arith);
        b = get_or-set_same w4 (to + 4) e.b 0 (omega arith);
      }

-- an event stands yet where another is put behind it
stands-behind : (words : List ℕ) (i to : ℕ) (e d : EventWords) → i + 5 ≤ to → EventStands words i e → EventStands (put_event words to d) i e
stands-behind words i to e d h s =
    record {
      kind = below i (omega arith) ∙ s.kind;
      worker = below (i + 1) (omega arith) ∙ s.worker;
      code = below (i + 2) (omega arith) ∙ s.code;
      a = below (i + 3) (omega arith) ∙ s.a;
      b = below (i + 4) (omega arith) ∙ s.b;
    }
  where
    below : (j : ℕ) → j < to → get_or (put_event words to d) j 0 ≡ get_or words j 0
    below j l = put_other words to d j (omega arith) (omega arith) (omega arith) (omega arith) (omega arith)

-- ---- after any number of turns

-- a stop is none that goes on
not-going : (stop : Stop) → Some stop ≡ going → ⊥
not-going stop e = cc

module _ (bytes words : List ℕ) where
  record After (t : ℕ) (f : Filling) : Type 0 where
    holds : FillHolds bytes words f
    all-used : f.stop ≡ going → f.records ≡ t
    stopped : (stop : Stop) → f.stop ≡ Some stop → Stopped bytes words f

  -- one record more
  more : (k : ℕ) (w : List ℕ) (s : Option Stop) → FillHolds bytes words (filling k s w) → 8 * k + 8 ≤ length bytes → 5 * k + 5 ≤ length words
      → decode_at bytes (8 * k) ≡ Ok (event_at bytes (8 * k)) → FillHolds bytes words (filling (k + 1) going (put_event w (5 * k) (event_at bytes (8 * k))))
  more k w s h u r d =
      let e = event_at bytes (8 * k) in
      record {
        used = omega arith;
        room = omega arith;
        size = put-length w (5 * k) e ∙ h.size;
        found = λ i l. found i l (dec_lt i k);
        stands = λ i l. stands i l (dec_lt i k);
        past = λ j l. put_other w (5 * k) e j (omega arith) (omega arith) (omega arith) (omega arith) (omega arith) ∙ h.past j (omega arith);
      }
    where
      found : (i : ℕ) → i < k + 1 → Dec (i < k) → decode_at bytes (8 * i) ≡ Ok (event_at bytes (8 * i))
      found i l (yes b) = h.found i b
      found i l (no b) =
          let z : i ≡ k = omega arith in
          subst (λ (x : ℕ). decode_at bytes (8 * x) ≡ Ok (event_at bytes (8 * x))) (sym z) d

      stands : (i : ℕ) → i < k + 1 → Dec (i < k) → EventStands (put_event w (5 * k) (event_at bytes (8 * k))) (5 * i) (event_at bytes (8 * i))
      stands i l (yes b) = stands-behind w (5 * i) (5 * k) (event_at bytes (8 * i)) (event_at bytes (8 * k)) (omega arith) (h.stands i b)
      stands i l (no b) =
          let z : i ≡ k = omega arith in
          subst (λ (x : ℕ). EventStands (put_event w (5 * k) (event_at bytes (8 * k))) (5 * x) (event_at bytes (8 * x))) (sym z)
          (put-stands w (5 * k) (event_at bytes (8 * k)) (omega (arith, h.size)))

  -- a stop leaves what held
  stop : (t : ℕ) (f : Filling) → After t f → (s : Stop) → s ≡ why_of (decode_at bytes (8 * f.records)) → (s ≡ NoRoom → length words < 5 * f.records + 5)
      → After (suc t) (filling f.records (Some s) f.words)
  stop t f h s w r =
      let o = h.holds in
      record {
        holds = record { used = o.used; room = o.room; size = o.size; found = o.found; stands = o.stands; past = o.past };
        all-used = λ z. absurd (not-going s z);
        stopped = λ _ _. record { why = ap Some w; full = λ z. r (cc) };
      }

  -- what was decoded, put behind the others
  put : (t : ℕ) (f : Filling) → After t f → f.stop ≡ going → (r : Result EventWords Stop) → decode_at bytes (8 * f.records) ≡ r → After (suc t) (put_next f.records f.words r)
  put t f h g (Err s) e = stop t f h s (ap why_of (sym e)) (λ z. absurd (decode-room bytes (8 * f.records) (e ∙ ap Err z)))
  put t f h g (Ok v) e = fits (ltb (length f.words - 5 * f.records) 5) refl
    where
      fits : (b : Bool) → ltb (length f.words - 5 * f.records) 5 ≡ b
          → After (suc t) (cond b (filling f.records no_room f.words) (filling (f.records + 1) going (put_event f.words (5 * f.records) v)))
      fits true r = stop t f h NoRoom (ap why_of (sym e)) (λ _. omega (arith, ltb-true, h.holds.size))
      fits false r =
          let w = event-whole bytes (8 * f.records) e in
          record {
            holds =
                subst (λ (x : EventWords). FillHolds bytes words (filling (f.records + 1) going (put_event f.words (5 * f.records) x))) (sym w.1)
                (more f.records f.words f.stop h.holds w.0 (omega (arith, ltb-false, h.holds.size)) (e ∙ ap Ok w.1));
            all-used = λ _. omega (arith, h.all-used g);
            stopped = λ s z. absurd (not-going s (sym z));
          }

  -- a turn
  turn : (t : ℕ) (f : Filling) → After t f → (stop : Option Stop) → f.stop ≡ stop → After (suc t) (next bytes f)
  unfolding next
  turn t f h None e = rw e (put t f h e (decode_at bytes (8 * f.records)) refl)
  turn t f h (Some s) e =
      subst (After (suc t)) (sym (next-stopped bytes f e))
      (record { holds = h.holds; all-used = λ z. absurd (not-going s (sym e ∙ z)); stopped = h.stopped })

  after : (t : ℕ) → After t (fill_in bytes t words)
  unfolding fill_in
  after zero =
      record {
        holds =
            record {
              used = omega arith;
              room = omega arith;
              size = refl;
              found = λ i l. absurd (omega arith);
              stands = λ i l. absurd (omega arith);
              past = λ j l. refl;
            };
        all-used = λ _. refl;
        stopped = λ s z. absurd (not-going s (sym z));
      }
  after (suc t) = turn t (fill_in bytes t words) (after t) (fill_in bytes t words).stop refl

  pub holds_at : (t : ℕ) {f : Filling} → fill_in bytes t words ≡ f → FillHolds bytes words f
  holds_at t e = subst (FillHolds bytes words) e (after t).holds

  -- a turn that goes on used 8 bytes
  pub turn-used : (k : ℕ) (before after : List ℕ) → fill_in bytes k words ≡ filling k going before → filling (k + 1) going after ≡ next bytes (filling k going before)
      → 8 * (k + 1) ≤ length bytes
  turn-used k before after same e = (holds_at (k + 1) (turned-is bytes words k before same e)).used

  -- ---- the whole

  -- it stops
  pub fill_stops : (stop : Stop) × ((fill_of bytes words).stop ≡ Some stop)
  fill_stops = by_stop (fill_of bytes words).stop refl
    where
      by_stop : (s : Option Stop) → (fill_of bytes words).stop ≡ s → (stop : Stop) × ((fill_of bytes words).stop ≡ Some stop)
      by_stop (Some s) e = (s, e)
      by_stop None e =
          let a = after (length bytes / 8 + 1) in
          absurd (omega (arith, a.all-used e, a.holds.used))

  pub fill_holds : FillHolds bytes words (fill_of bytes words)
  fill_holds = (after (length bytes / 8 + 1)).holds

  pub fill-why : Stopped bytes words (fill_of bytes words)
  fill-why = (after (length bytes / 8 + 1)).stopped fill_stops.0 fill_stops.1

  -- where the bytes ended, all of them are used
  pub fill-whole : (fill_of bytes words).stop ≡ ended → 8 * (fill_of bytes words).records ≡ length bytes
  fill-whole z =
      let f = fill_of bytes words in
      let past = end-past bytes (8 * f.records) (why-end (decode_at bytes (8 * f.records)) (sym fill-why.why ∙ z)) in
      omega (arith, past, fill_holds.used)
    where
      why-end : (r : Result EventWords Stop) → Some (why_of r) ≡ ended → r ≡ Err Ended
      why-end (Err stop) e = cc
      why-end (Ok v) e = cc

pub fill-tells : FillTells
fill-tells bytes words = (fill_holds bytes words, fill-why bytes words)
