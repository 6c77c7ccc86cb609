-- The nodes in service with a direction just left of the way from s to t: a floor of the plane
use Rattle.std.proofs.Common.{◌≡◌, ℕ, ◌+◌, ◌*◌, ◌≤◌, true, false, eqb, ℤ, pos, ◌-ℤ◌, nat_abs, ◌<ℤ◌, sym, ap, arith, eq-eqb}
use mathlib.Core.Bool.{Bool-set}
use mathlib.Core.HLevel.{Discrete, Σ_prop_path, Σ_prop_discrete}
use native.Mathlib.Decide.{ℕ_discrete}
use borrow.Author.Differences.{ints}
use borrow.Author.Tests.{apart_eqb}
use Rattle.plane.specs.declared.Point.{Point}
use Rattle.plane.specs.Plane.{InRange, farthest}
use Rattle.plane.proofs.Vectors.{Vector, position, dot, diff}
use Rattle.plane.proofs.Sites.{det, far}
use Rattle.plane.proofs.Signs.{St}
use Rattle.plane.proofs.General.{Floor, Off, is}
use Rattle.plane.proofs.Sizes.{size_gap, sum_bound}
use Rattle.plane.proofs.Nearer.{dir, Within, Sided, sided}
use Rattle.plane.proofs.Direction.{low, along}
use Rattle.floor.specs.Meaning.{Meaning, Serving}
use Rattle.floor.specs.Planar.{Blocks, Lawful}
use Rattle.order.proofs.Sooner.{apart as points_apart}
use Rattle.delivery.specs.Law.{serving}
use Rattle.delivery.proofs.Ground.{pt}
use Rattle.delivery.proofs.Nodes.{S, on_point, off}
use Rattle.delivery.proofs.Around.{away}

-- a node in service
abbrev pub Up : Meaning → Type 0
Up m = (i : ℕ) × (serving m i ≡ true)

abbrev pub spot_of : (m : Meaning) → Up m → Vector
spot_of m i = position (pt m i.0)

module _ (m : Meaning) where
  pub same_node : (i j : Up m) → i.0 ≡ j.0 → i ≡ j
  same_node i j e = Σ_prop_path (λ (k : ℕ) (p q : serving m k ≡ true). Bool-set (serving m k) true p q) e

  pub same? : Discrete (Up m)
  same? = Σ_prop_discrete (λ (k : ℕ) (p q : serving m k ≡ true). Bool-set (serving m k) true p q) ℕ_discrete

  pub same_is : (i j : Up m) → is (same? i j) ≡ eqb i.0 j.0
  same_is i j = go (same? i j)
    where
      go : (d : Dec (i ≡ j)) → is d ≡ eqb i.0 j.0
      go (yes e) = sym (eq-eqb i.0 j.0 (ap (λ (k : Up m). k.0) e))
      go (no n) = sym (apart_eqb i.0 j.0 (λ e. n (same_node i j e)))

-- ---- the direction
wide : ℤ
wide = pos 8589934592

pub heading : Meaning → ℕ → ℕ → Vector
heading m s t = dir wide (position (pt m s)) (position (pt m t))

-- no product of ways between points of the map is as large
within : (a b c d : Point) → InRange a → InRange b → InRange c → InRange d → Within wide (dot (diff (position b) (position a)) (diff (position d) (position c)))
unfolding wide
within a b c d ha hb hc hd = small (dot (diff (position b) (position a)) (diff (position d) (position c)))
    (sum_bound farthest (pos b.x -ℤ pos a.x) (pos d.x -ℤ pos c.x) (pos b.y -ℤ pos a.y) (pos d.y -ℤ pos c.y)
    (size_gap farthest a.x b.x ha.0 hb.0) (size_gap farthest c.x d.x hc.0 hd.0) (size_gap farthest a.y b.y ha.1 hb.1) (size_gap farthest c.y d.y hc.1 hd.1))
  where
    small : (z : ℤ) → nat_abs z ≤ farthest * farthest + farthest * farthest → Within (pos 8589934592) z
    small z h = (omega (arith, ints), omega (arith, ints))

module _ (b : Blocks) (m : Meaning) (l : Lawful b) (g : Serving m) (s t : ℕ) (es : serving m s ≡ true) (et : serving m t ≡ true) (st : ¬ (s ≡ t)) where
  in_range : (i : ℕ) → serving m i ≡ true → InRange (pt m i)
  in_range i e = g.general.in_range i (pt m i) (on_point m i e)

  apart : (i j : ℕ) → serving m i ≡ true → serving m j ≡ true → ¬ (i ≡ j) → pos 0 <ℤ dot (diff (position (pt m j)) (position (pt m i))) (diff (position (pt m j)) (position (pt m i)))
  apart i j ei ej n = points_apart (pt m i) (pt m j) (λ e. away b m l g i j ei ej n (sym e))

  -- t is just below s
  pub t_low : St false (det (S m s) (far (heading m s t)) (S m t))
  unfolding heading
  t_low = low wide (position (pt m s)) (position (pt m t)) (apart s t es et st)

  pub clear : (i j : ℕ) → serving m i ≡ true → serving m j ≡ true → ¬ (i ≡ j) → Off (S m i) (S m j) (far (heading m s t))
  unfolding heading
  clear i j ei ej n = along wide (position (pt m s)) (position (pt m t)) (position (pt m i)) (position (pt m j)) (apart s t es et st) (apart i j ei ej n)
      (within (pt m s) (pt m t) (pt m i) (pt m j) (in_range s es) (in_range t et) (in_range i ei) (in_range j ej))

  abbrev pub floor : Floor (Up m) (spot_of m) (heading m s t)
  floor = record {
    same? = same? m;
    off = λ i j k ij ik jk. off b m l g i.0 j.0 k.0 i.1 j.1 k.1 (λ e. ij (same_node m i j e)) (λ e. ik (same_node m i k e)) (λ e. jk (same_node m j k e));
    along = λ i j ij. clear i.0 j.0 i.1 j.1 (λ e. ij (same_node m i j e));
  }

  -- any other node is on one side of both levels
  pub on_side : (z : ℕ) → serving m z ≡ true → ¬ (s ≡ z) → ¬ (t ≡ z) → Sided (heading m s t) (position (pt m s)) (position (pt m t)) (position (pt m z))
  unfolding heading
  on_side z ez sz tz = sided wide (position (pt m s)) (position (pt m t)) (position (pt m z)) (off b m l g s t z es et ez st sz tz)
      (within (pt m s) (pt m t) (pt m s) (pt m z) (in_range s es) (in_range t et) (in_range s es) (in_range z ez))
      (within (pt m s) (pt m t) (pt m t) (pt m z) (in_range s es) (in_range t et) (in_range t et) (in_range z ez))
