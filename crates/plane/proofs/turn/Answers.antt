use mathlib.Core.Path.{sym, subst}
use Prim.Native.Nat.{◌≤◌}
use native.Mathlib.Omega.{arith}
use lib.IntN.{ℤ, pos, nat_abs, ◌-ℤ◌}
use Rattle.plane.specs.Plane.{turn}
use Rattle.plane.proofs.Sizes.{size_gap, Computed, multiplied, subtracted, turn_bound}
use Rattle.plane.proofs.turn.Goals as goal

-- the two products, and what is made of them
all : (c : goal.After-product-2) → Computed ◌-ℤ◌ c.product.result c.product-2.result (turn c.args.a c.args.b c.args.c)
all c =
    let a = c.args.a in
    let b = c.args.b in
    let p = c.args.c in
    subtracted
    (multiplied c.gap.result c.gap-2.result (pos b.x -ℤ pos a.x) (pos p.y -ℤ pos a.y) c.product.result c.gap.ensures c.gap-2.ensures
    (size_gap 65535 a.x b.x (omega arith) (omega arith)) (size_gap 65535 a.y p.y (omega arith) (omega arith)) c.product.ensures)
    (multiplied c.gap-3.result c.gap-4.result (pos b.y -ℤ pos a.y) (pos p.x -ℤ pos a.x) c.product-2.result c.gap-3.ensures c.gap-4.ensures
    (size_gap 65535 a.y b.y (omega arith) (omega arith)) (size_gap 65535 a.x p.x (omega arith) (omega arith)) c.product-2.ensures)

pub overflow_sub-result : goal.overflow_sub-result
overflow_sub-result c = (all c).fit

pub returns : goal.returns
returns c =
    record {
      value = (all c).value;
      bound = λ ha hb hc. subst (λ (z : ℤ). nat_abs z ≤ 2147352578) (sym (all c).value)
          (omega (arith, turn_bound 32767 c.args.a c.args.b c.args.c (record { ax = ha.0; ay = ha.1; bx = hb.0; by = hb.1; cx = hc.0; cy = hc.1 })));
    }
