-- Of three distinct points: one in the closed disc over the other two is strictly nearer to both than they are to each other.
use Rattle.std.specs.Prelude.{◌≡◌, ℕ, zero, suc, Bool, true, false, ◌&&◌, T, ◌≢◌, ◌⊎◌, ℤ, pos, negsuc, ◌+ℤ◌, ◌-ℤ◌, ◌*ℤ◌, ◌≤ℤ◌, ◌<ℤ◌, int_lt, refl}
use Rattle.std.proofs.Common.{sym, inl, inr, ⊎_elim, arith}
use Rattle.std.specs.Int.Signed.{le_z_yes}
use Rattle.std.proofs.lemmas.Int.{ints}
use Rattle.std.proofs.lemmas.Bool.{cases_eq}
use Rattle.plane.specs.declared.Point.{Point}
use Rattle.plane.specs.Plane.{inner, squared}
use Rattle.plane.proofs.Vectors.{position}
use Rattle.plane.proofs.Ring.{E, add, sub, ring}
use Rattle.plane.proofs.Identities.{Vectorᵉ, diffᵉ, dotᵉ, innerᵉ, A, B, C, env}
use Rattle.plane.proofs.Positive.{square_nonneg, add_pos_le}
use Rattle.floor.specs.Planar.{gabriel, relative}

squaredᵉ : Vectorᵉ → Vectorᵉ → E
squaredᵉ a b = dotᵉ (diffᵉ b a) (diffᵉ b a)

-- either end first
pub inner_turned : (u v w : Point) → inner u v w ≡ inner v u w
inner_turned u v w = ring (env (position u) (position v) (position w) (position w)) (innerᵉ A B C) (innerᵉ B A C) tt

pub squared_turned : (u v : Point) → squared u v ≡ squared v u
unfolding squaredᵉ
squared_turned u v = ring (env (position u) (position v) (position v) (position v)) (squaredᵉ A B) (squaredᵉ B A) tt

-- the law of cosines
cosines : (u v w : Point) → squared u v ≡ squared w u +ℤ squared w v -ℤ (inner u v w +ℤ inner u v w)
unfolding squaredᵉ
cosines u v w = ring (env (position u) (position v) (position w) (position w))
    (squaredᵉ A B) (sub (add (squaredᵉ C A) (squaredᵉ C B)) (add (innerᵉ A B C) (innerᵉ A B C))) tt

square_pos : (z : ℤ) → z ≢ pos 0 → pos 0 <ℤ (z *ℤ z)
square_pos (pos zero) n = absurd (n refl)
square_pos (pos (suc m)) n = omega (arith, ints)
square_pos (negsuc m) n = omega (arith, ints)

gap_not_zero : (a b : ℕ) → a ≢ b → pos b -ℤ pos a ≢ pos 0
gap_not_zero a b n e = n (omega (arith, ints))

-- one of two squares is positive
squares_pos : (a b : ℤ) → (a ≢ pos 0) ⊎ (b ≢ pos 0) → pos 0 <ℤ (a *ℤ a +ℤ b *ℤ b)
squares_pos a b (inl n) = add_pos_le (square_pos a n) (square_nonneg b)
squares_pos a b (inr n) = le_add_pos (a *ℤ a) (b *ℤ b) (square_nonneg a) (square_pos b n)
  where
    le_add_pos : (x y : ℤ) → pos 0 ≤ℤ x → pos 0 <ℤ y → pos 0 <ℤ (x +ℤ y)
    le_add_pos x y h k = omega (arith, ints)

-- distinct points are apart
distance_pos : (p q : Point) → p ≢ q → pos 0 <ℤ squared p q
distance_pos p q n = squares_pos (pos q.x -ℤ pos p.x) (pos q.y -ℤ pos p.y) (⊎_elim same_x other_x (cases_eq p.x q.x))
  where
    Apart : Type 0
    Apart = (pos q.x -ℤ pos p.x ≢ pos 0) ⊎ (pos q.y -ℤ pos p.y ≢ pos 0)

    other_x : p.x ≢ q.x → Apart
    other_x x = inl (gap_not_zero p.x q.x x)

    same_x : p.x ≡ q.x → Apart
    same_x x = inr (gap_not_zero p.y q.y (λ y. n (λ i. record { x = x i; y = y i })))

-- each side of an angle of at least a right one is shorter than the side across it
shorter : (uv wu wv i : ℤ) → uv ≡ wu +ℤ wv -ℤ (i +ℤ i) → i ≤ℤ pos 0 → pos 0 <ℤ wu → pos 0 <ℤ wv → (wu <ℤ uv) × (wv <ℤ uv)
shorter uv wu wv i e h k l = (omega (arith, ints), omega (arith, ints))

both : (a b : Bool) → T a → T b → T (a && b)
both true b h k = k
both false b h k = h

pub disc_in_lune : (u v w : Point) → u ≢ w → v ≢ w → T (gabriel u v w) → T (relative u v w)
disc_in_lune u v w uw vw h =
    let to_u = distance_pos w u (λ e. uw (sym e)) in
    let to_v = distance_pos w v (λ e. vw (sym e)) in
    let less = shorter (squared u v) (squared w u) (squared w v) (inner u v w) (cosines u v w) (le_z_yes h) to_u to_v in
    both (int_lt (squared w u) (squared u v)) (int_lt (squared w v) (squared u v)) less.0.lt less.1.lt
