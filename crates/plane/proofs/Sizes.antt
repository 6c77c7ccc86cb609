-- How large a turn or an inner product can be
use mathlib.Core.Path.{◌≡◌, sym, ◌∙◌, subst}
use Prim.Native.Nat.{ℕ, ◌+◌, ◌*◌, ◌≤◌}
use native.Mathlib.Omega.{arith}
use native.Mathlib.Nat.{mul-le-mul}
use lib.IntN.{ℤ, pos, negsuc, nat_abs, ◌+ℤ◌, ◌-ℤ◌, ◌*ℤ◌}
use borrow.Author.Differences.{ints, fits_in}
use mir.Val.{SFits, to_z, of_z}
use borrow.Author.Rules.{to_z-of_z_to}
use mir.Syntax.{w64}
use Rattle.plane.specs.declared.Point.{Point}
use Rattle.plane.specs.Plane.{turn, inner}

pub size_gap : (n a b : ℕ) → a ≤ n → b ≤ n → nat_abs (pos b -ℤ pos a) ≤ n
size_gap n a b h k = omega (arith, ints)

size_product_is : (p q : ℤ) → nat_abs (p *ℤ q) ≡ nat_abs p * nat_abs q
size_product_is (pos m) (pos n) = omega (arith, ints)
size_product_is (pos m) (negsuc n) = omega (arith, ints)
size_product_is (negsuc m) (pos n) = omega (arith, ints)
size_product_is (negsuc m) (negsuc n) = omega (arith, ints)

pub size_product : (n : ℕ) (p q : ℤ) → nat_abs p ≤ n → nat_abs q ≤ n → nat_abs (p *ℤ q) ≤ n * n
size_product n p q h k = subst (λ (m : ℕ). m ≤ n * n) (sym (size_product_is p q)) (mul-le-mul h k)

pub size_sum : (y z : ℤ) → nat_abs (y +ℤ z) ≤ nat_abs y + nat_abs z
size_sum y z = omega (arith, ints)

pub size_difference : (y z : ℤ) → nat_abs (y -ℤ z) ≤ nat_abs y + nat_abs z
size_difference y z = omega (arith, ints)

pub fits : (z : ℤ) → nat_abs z ≤ 8589672450 → SFits w64 z
fits z h = fits_in w64 z (omega (arith, ints))

-- what an i64 holds of a number that it can hold
pub held : (x z : ℤ) → x ≡ z → nat_abs z ≤ 8589672450 → to_z w64 (of_z w64 x) ≡ z
held x z e h = to_z-of_z_to w64 x z (fits x (subst (λ (y : ℤ). nat_abs y ≤ 8589672450) (sym e) h)) e

-- two products of gaps, each gap at most n
module _ (n : ℕ) (p q r s : ℤ) (hp : nat_abs p ≤ n) (hq : nat_abs q ≤ n) (hr : nat_abs r ≤ n) (hs : nat_abs s ≤ n) where
  pub difference_bound : nat_abs (p *ℤ q -ℤ r *ℤ s) ≤ n * n + n * n
  difference_bound = omega (arith, size_difference (p *ℤ q) (r *ℤ s), size_product n p q hp hq, size_product n r s hr hs)

  pub sum_bound : nat_abs (p *ℤ q +ℤ r *ℤ s) ≤ n * n + n * n
  sum_bound = omega (arith, size_sum (p *ℤ q) (r *ℤ s), size_product n p q hp hq, size_product n r s hr hs)

-- a number by its four gaps, in an i64: it fits, it is read back, and it is small for points in range
pub record Computed (f : ℤ → ℤ → ℤ) (y z : ℤ) (v : ℤ) : Type 0 where
  pub fit : SFits w64 (f (to_z w64 (of_z w64 y)) (to_z w64 (of_z w64 z)))
  pub value : to_z w64 (of_z w64 (f (to_z w64 (of_z w64 y)) (to_z w64 (of_z w64 z)))) ≡ v

computed : (f : ℤ → ℤ → ℤ) (y z Y Z : ℤ) → y ≡ Y → z ≡ Z → nat_abs Y ≤ 4294836225 → nat_abs Z ≤ 4294836225 → nat_abs (f Y Z) ≤ 8589672450 → Computed f y z (f Y Z)
computed f y z Y Z e d hY hZ h =
    let back : f (to_z w64 (of_z w64 y)) (to_z w64 (of_z w64 z)) ≡ f Y Z = λ i. f (held y Y e (omega arith) i) (held z Z d (omega arith) i) in
    record { fit = subst (SFits w64) (sym back) (fits (f Y Z) h); value = held _ (f Y Z) back h }

-- a product, made of two gaps that an i64 holds
pub record Product (r G H : ℤ) : Type 0 where
  pub is : r ≡ G *ℤ H
  pub size : nat_abs (G *ℤ H) ≤ 4294836225

pub multiplied : (g h G H r : ℤ) → g ≡ G → h ≡ H → nat_abs G ≤ 65535 → nat_abs H ≤ 65535 → r ≡ to_z w64 (of_z w64 g) *ℤ to_z w64 (of_z w64 h) → Product r G H
multiplied g h G H r e d hG hH p =
    record { is = p ∙ (λ i. held g G e (omega arith) i *ℤ held h H d (omega arith) i); size = omega (arith, size_product 65535 G H hG hH) }

pub subtracted : {y z G H K L : ℤ} → Product y G H → Product z K L → Computed ◌-ℤ◌ y z (G *ℤ H -ℤ K *ℤ L)
subtracted {y} {z} {G} {H} {K} {L} p q = computed ◌-ℤ◌ y z (G *ℤ H) (K *ℤ L) p.is q.is p.size q.size (omega (arith, size_difference (G *ℤ H) (K *ℤ L), p.size, q.size))

pub added : {y z G H K L : ℤ} → Product y G H → Product z K L → Computed ◌+ℤ◌ y z (G *ℤ H +ℤ K *ℤ L)
added {y} {z} {G} {H} {K} {L} p q = computed ◌+ℤ◌ y z (G *ℤ H) (K *ℤ L) p.is q.is p.size q.size (omega (arith, size_sum (G *ℤ H) (K *ℤ L), p.size, q.size))

-- all coordinates of three points are at most n
pub record UpTo (n : ℕ) (a b c : Point) : Type 0 where
  pub ax : a.x ≤ n
  pub ay : a.y ≤ n
  pub bx : b.x ≤ n
  pub by : b.y ≤ n
  pub cx : c.x ≤ n
  pub cy : c.y ≤ n

pub turn_bound : (n : ℕ) (a b c : Point) → UpTo n a b c → nat_abs (turn a b c) ≤ n * n + n * n
turn_bound n a b c h = difference_bound n (pos b.x -ℤ pos a.x) (pos c.y -ℤ pos a.y) (pos b.y -ℤ pos a.y) (pos c.x -ℤ pos a.x)
    (size_gap n a.x b.x h.ax h.bx) (size_gap n a.y c.y h.ay h.cy) (size_gap n a.y b.y h.ay h.by) (size_gap n a.x c.x h.ax h.cx)

pub inner_bound : (n : ℕ) (a b c : Point) → UpTo n a b c → nat_abs (inner a b c) ≤ n * n + n * n
inner_bound n a b c h = sum_bound n (pos a.x -ℤ pos c.x) (pos b.x -ℤ pos c.x) (pos a.y -ℤ pos c.y) (pos b.y -ℤ pos c.y)
    (size_gap n c.x a.x h.cx h.ax) (size_gap n c.x b.x h.cx h.bx) (size_gap n c.y a.y h.cy h.ay) (size_gap n c.y b.y h.cy h.by)
