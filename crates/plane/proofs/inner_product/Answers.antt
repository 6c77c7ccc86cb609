use mathlib.Core.Path.{sym, subst}
use Prim.Native.Nat.{◌≤◌}
use native.Mathlib.Omega.{arith}
use lib.IntN.{ℤ, pos, nat_abs, ◌+ℤ◌, ◌-ℤ◌}
use Rattle.plane.specs.Plane.{inner}
use Rattle.plane.proofs.Sizes.{size_gap, Computed, multiplied, added, inner_bound}
use Rattle.plane.proofs.inner_product.Goals as goal

-- the two products, and what is made of them
all : (c : goal.After-product-2) → Computed ◌+ℤ◌ c.product.result c.product-2.result (inner c.args.a c.args.b c.args.c)
all c =
    let a = c.args.a in
    let b = c.args.b in
    let p = c.args.c in
    added
    (multiplied c.gap.result c.gap-2.result (pos a.x -ℤ pos p.x) (pos b.x -ℤ pos p.x) c.product.result c.gap.ensures c.gap-2.ensures
    (size_gap 65535 p.x a.x (omega arith) (omega arith)) (size_gap 65535 p.x b.x (omega arith) (omega arith)) c.product.ensures)
    (multiplied c.gap-3.result c.gap-4.result (pos a.y -ℤ pos p.y) (pos b.y -ℤ pos p.y) c.product-2.result c.gap-3.ensures c.gap-4.ensures
    (size_gap 65535 p.y a.y (omega arith) (omega arith)) (size_gap 65535 p.y b.y (omega arith) (omega arith)) c.product-2.ensures)

pub overflow_add-result : goal.overflow_add-result
overflow_add-result c = (all c).fit

pub returns : goal.returns
returns c =
    record {
      value = (all c).value;
      bound = λ ha hb hc. subst (λ (z : ℤ). nat_abs z ≤ 2147352578) (sym (all c).value)
          (omega (arith, inner_bound 32767 c.args.a c.args.b c.args.c (record { ax = ha.0; ay = ha.1; bx = hb.0; by = hb.1; cx = hc.0; cy = hc.1 })));
    }
