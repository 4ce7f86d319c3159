-- The simple machine: sequences, hands, a tag, a switch and notes (document 01, The simple machine). It has no page, no
-- bitmap, no heads and no stages.
use Rattle.std.specs.Prelude.{ℕ, ◌+◌, Bool, true, false, not, ◌||◌, cond, List, [], ◌∷◌, ◌++◌, ltb, eqb, length, get_or, set, replicate}
use Rattle.answers.specs.Numbers.{done, under_way, no_worker, busy, idle, switched, not_empty}
use Rattle.answers.specs.Rows.{row, first, Outcome, outcome, unless}
use Rattle.words.specs.Tagged.{use_delayed_free, freeing, no_delayed_free}
use Rattle.page.specs.Sequences.{one, times, up_from}
use Rattle.operations.specs.Operations.{push_shared, take_shared, push_tagged, take_tagged, set_tag, ask_tag, staged_b, pushes_b}
use Rattle.machine.specs.Table.{insert, pop, append, extend, release, Tests, table, arguments_fit_b, any_named}

-- a worker: its own list and its got, the block in its hand, the note of its operation under way (0 is none) and the tag
-- that the operation wants
pub record Hands : Type 0 where
  pub own : List ℕ
  pub got : List ℕ
  pub hand : List ℕ
  pub note : ℕ
  pub want : ℕ

abbrev pub hands : List ℕ → List ℕ → List ℕ → ℕ → ℕ → Hands
hands own got hand note want = record { own = own; got = got; hand = hand; note = note; want = want }

-- n, S, T with its tag and its switch, and the workers
pub record Simple : Type 0 where
  pub n : ℕ
  pub shared : List ℕ
  pub tagged : List ℕ
  pub tag : ℕ
  pub on : Bool
  pub workers : List Hands

abbrev pub simple : ℕ → List ℕ → List ℕ → ℕ → Bool → List Hands → Simple
simple n shared tagged tag on workers = record { n = n; shared = shared; tagged = tagged; tag = tag; on = on; workers = workers }

-- empty hands
abbrev pub still : Hands
still = hands [] [] [] 0 0

-- a fresh page: every block is with its caller
abbrev pub start : ℕ → ℕ → Simple
start n w = simple n [] [] 0 false (replicate w still)

abbrev pub hands_of : Simple → ℕ → Hands
hands_of s w = get_or s.workers w still

abbrev pub put_hands : Simple → ℕ → Hands → Simple
put_hands s w t = simple s.n s.shared s.tagged s.tag s.on (set s.workers w t)

-- ---- places

-- how often block i is with a worker, and anywhere at all
abbrev pub held_by : ℕ → Hands → ℕ
held_by i t = times i t.own + times i t.got + times i t.hand

abbrev pub sum_over : (Hands → ℕ) → List Hands → ℕ
sum_over f [] = 0
sum_over f (t ∷ ts) = f t + sum_over f ts

abbrev pub times_in : ℕ → Simple → ℕ
times_in i s = times i s.shared + times i s.tagged + sum_over (held_by i) s.workers

-- on a list or in a hand
abbrev pub in_use : Simple → ℕ → Bool
in_use s i = ltb 0 (times_in i s)

abbrev pub is_nil : List ℕ → Bool
is_nil [] = true
is_nil (x ∷ xs) = false

-- ---- requests

-- the rows of the table, judged by sequences, hands and notes; 2 and 11 never apply
unfoldable pub judged : Simple → ℕ → ℕ → ℕ → ℕ → Tests
judged s w code a b = record {
  rules = false;
  worker = not (ltb w (length s.workers));
  arguments = not (arguments_fit_b s.n code a b);
  busy = not (eqb (hands_of s w).note 0);
  off = not s.on;
  holds = not (is_nil (hands_of s w).got);
  listed = any_named (in_use s) code a b;
  empty = is_nil (hands_of s w).own;
  damaged = false;
}

-- the front block, 0 if there is none, and the rest
abbrev pub front : List ℕ → ℕ
front [] = 0
front (x ∷ xs) = x

abbrev pub rest : List ℕ → List ℕ
rest [] = []
rest (x ∷ xs) = xs

-- 1 to 5 and 13: the worker's hands afterwards, and the value
unfoldable pub own_act : Hands → ℕ → ℕ → ℕ → Outcome Hands
own_act t code a b =
    cond (eqb code insert) (outcome done 0 (hands (a ∷ t.own) t.got t.hand t.note t.want))
    (cond (eqb code pop) (outcome done (front t.own) (hands (rest t.own) t.got t.hand t.note t.want))
    (cond (eqb code append) (outcome done (length t.got) (hands (t.got ++ t.own) [] t.hand t.note t.want))
    (cond (eqb code extend) (outcome done b (hands (up_from a b ++ t.own) t.got t.hand t.note t.want))
    (cond (eqb code release) (outcome done (length t.own) (hands [] t.got t.hand t.note t.want))
    (outcome done (one (is_nil t.own)) t)))))

-- 6 to 12: the note is made, and a push takes its block into the hand
unfoldable pub start_act : Hands → ℕ → ℕ → Outcome Hands
start_act t code a = outcome under_way 0 (hands t.own t.got (cond (pushes_b code) (a ∷ []) []) code (cond (eqb code set_tag) a 0))

abbrev pub over_hands : Simple → ℕ → Outcome Hands → Outcome Simple
over_hands s w o = outcome o.number o.value (put_hands s w o.after)

unfoldable pub request : Simple → ℕ → ℕ → ℕ → ℕ → Outcome Simple
request s w code a b =
    unless (table code (judged s w code a b)) s
    (over_hands s w (cond (staged_b code) (start_act (hands_of s w) code a) (own_act (hands_of s w) code a b)))

-- ---- the act of an operation under way, at its moment; its note goes

-- the operation is over
abbrev pub rests : Hands → Hands
rests t = hands t.own t.got [] 0 0

-- the operation is over and the list taken is in got
abbrev pub holds : Hands → List ℕ → Hands
holds t xs = hands t.own xs [] 0 0

unfoldable pub act : Simple → ℕ → Hands → Outcome Simple
act s w t =
    -- 6: the block in hand goes to the front of S
    cond (eqb t.note push_shared) (outcome done 0 (simple s.n (t.hand ++ s.shared) s.tagged s.tag s.on (set s.workers w (rests t))))
    -- 7: S whole goes to got; the value is its front block, or 0
    (cond (eqb t.note take_shared) (outcome done (front s.shared) (simple s.n [] s.tagged s.tag s.on (set s.workers w (holds t s.shared))))
    -- 8: the block in hand goes to the front of T; the value is the tag
    (cond (eqb t.note push_tagged) (outcome done s.tag (simple s.n s.shared (t.hand ++ s.tagged) s.tag s.on (set s.workers w (rests t))))
    -- 9: T whole goes to got, and the tag stays
    (cond (eqb t.note take_tagged) (outcome done (front s.tagged) (simple s.n s.shared [] s.tag s.on (set s.workers w (holds t s.tagged))))
    -- 10: the tag becomes the one wanted; the value is the tag before
    (cond (eqb t.note set_tag) (outcome done s.tag (simple s.n s.shared s.tagged t.want s.on (set s.workers w (rests t))))
    -- 11: tag 2 becomes 0; the value is 0 exactly if the tag is 1
    (cond (eqb t.note ask_tag)
    (outcome done (one (not (eqb s.tag freeing)))
    (simple s.n s.shared s.tagged (cond (eqb s.tag no_delayed_free) use_delayed_free s.tag) s.on (set s.workers w (rests t))))
    -- 12: the value is the tag
    (outcome done s.tag (put_hands s w (rests t))))))))

-- a move that is a moment, or that is refused by 3 or 6
unfoldable pub move : Simple → ℕ → Outcome Simple
move s w =
    unless (first (row no_worker (not (ltb w (length s.workers))) ∷ row idle (eqb (hands_of s w).note 0) ∷ [])) s (act s w (hands_of s w))

-- ---- the switch

abbrev pub any_note : List Hands → Bool
any_note [] = false
any_note (t ∷ ts) = not (eqb t.note 0) || any_note ts

unfoldable pub switch_on : Simple → Outcome Simple
switch_on s = unless (first (row switched s.on ∷ [])) s (outcome done 0 (simple s.n s.shared [] 0 true s.workers))

unfoldable pub switch_off : Simple → Outcome Simple
switch_off s =
    unless (first (row busy (any_note s.workers) ∷ row switched (not s.on) ∷ row not_empty (not (is_nil s.tagged)) ∷ [])) s
    (outcome done s.tag (simple s.n s.shared [] 0 false s.workers))
