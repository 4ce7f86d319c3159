-- A request that no row of the table refuses passed every test. Assumes nothing.
use Prim.Native.Nat.{ℕ}
use mathlib.Core.Path.{◌≡◌}
use mathlib.Core.Bool.{false, ◌&&◌}
use native.Mathlib.Omega.{arith}
use lib.Dec.{eqb}
use Rattle.answers.proofs.Rows.{first-none}
use Rattle.operations.specs.Operations.{takes_b, on_tagged_b}
use Rattle.machine.specs.Table.{pop, Tests, table}

pub record Passed (code : ℕ) (t : Tests) : Type 0 where
  pub rules : t.rules ≡ false
  pub worker : t.worker ≡ false
  pub arguments : t.arguments ≡ false
  pub busy : t.busy ≡ false
  pub off : (on_tagged_b code && t.off) ≡ false
  pub holds : (takes_b code && t.holds) ≡ false
  pub listed : t.listed ≡ false
  pub empty : (eqb code pop && t.empty) ≡ false
  pub damaged : t.damaged ≡ false

pub passed : (code : ℕ) (t : Tests) → table code t ≡ 0 → Passed code t
unfolding table
passed code t e =
    let t2 = first-none _ _ _ (omega arith) e in
    let t3 = first-none _ _ _ (omega arith) t2.1 in
    let t4 = first-none _ _ _ (omega arith) t3.1 in
    let t5 = first-none _ _ _ (omega arith) t4.1 in
    let t7 = first-none _ _ _ (omega arith) t5.1 in
    let t8 = first-none _ _ _ (omega arith) t7.1 in
    let t9 = first-none _ _ _ (omega arith) t8.1 in
    let t10 = first-none _ _ _ (omega arith) t9.1 in
    let t11 = first-none _ _ _ (omega arith) t10.1 in
    record {
      rules = t2.0;
      worker = t3.0;
      arguments = t4.0;
      busy = t5.0;
      off = t7.0;
      holds = t8.0;
      listed = t9.0;
      empty = t10.0;
      damaged = t11.0;
    }
