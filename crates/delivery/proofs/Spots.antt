-- Where darts cross the way from s to t
use Rattle.std.proofs.Common.{◌≡◌, ℕ, zero, suc, ◌*◌, ◌<◌, Bool, true, false, cond, not, ◌&&◌, eqb, ◌⊎◌, ℤ, pos, negsuc, ◌*ℤ◌, nat_abs, Some, None, Option, sym, refl, ap, ◌∙◌, subst, ap₂, inl, inr, true≢false, arith, lt-ltb, eq-eqb, eqb-true}
use lib.IntN.{zero-*ℤ, *ℤ-zero}
use lib.Signed.{lt_z}
use Rattle.plane.specs.Plane.{turn}
use Rattle.order.specs.declared.Place.{Place}
use Rattle.order.specs.Places.{nearer}
use Rattle.order.specs.Nearest as nearest
use Rattle.floor.specs.Numbers.{differ}
use Rattle.floor.specs.Meaning.{Meaning}
use Rattle.kept.specs.Laws.{strictly_cross}
use Rattle.kept.proofs.Near.{differ_apart, both, same_some, some_none}
use Rattle.kept.proofs.Crossing.{cross_back, size_back}
use Rattle.face.specs.Crossing.{crosses, meeting, four_nodes, opposite}
use Rattle.orbit.proofs.Darts.{Dart}
use Rattle.delivery.proofs.Ground.{pt, nd, spot, beyond, nearer_than, or_source, twin}

-- four different nodes
pub record Four (s t u v : ℕ) : Type 0 where
  pub st : ¬ (s ≡ t)
  pub su : ¬ (s ≡ u)
  pub sv : ¬ (s ≡ v)
  pub tu : ¬ (t ≡ u)
  pub tv : ¬ (t ≡ v)
  pub uv : ¬ (u ≡ v)

and_swap : (a b c d e f : Bool) → (a && b && c && d && e && f) ≡ (a && c && b && e && d && f)
and_swap false b c d e f = refl
and_swap true false false d e f = refl
and_swap true false true d e f = refl
and_swap true true false d e f = refl
and_swap true true true false false f = refl
and_swap true true true false true f = refl
and_swap true true true true false f = refl
and_swap true true true true true f = refl

differ_back : (i j : ℕ) → differ i j ≡ differ j i
differ_back i j = ap not (go (eqb i j) (eqb j i) refl refl)
  where
    go : (a b : Bool) → eqb i j ≡ a → eqb j i ≡ b → a ≡ b
    go true true e f = refl
    go true false e f = sym (eq-eqb j i (sym (eqb-true i j e))) ∙ f
    go false true e f = sym e ∙ eq-eqb i j (sym (eqb-true j i f))
    go false false e f = refl

not_zero : (z : ℤ) → ¬ (z ≡ pos 0) → 0 < nat_abs z
not_zero (pos zero) n = absurd (n refl)
not_zero (pos (suc k)) n = omega arith
not_zero (negsuc k) n = omega arith

module _ (m : Meaning) (s t : ℕ) where
  pub spot_some : (x : Dart) (p : Place) → spot m s t x ≡ Some p
      → Four s t x.0 x.1 × (strictly_cross (pt m s) (pt m t) (pt m x.0) (pt m x.1) ≡ true)
      × (p ≡ meeting (nd m s) (nd m t) (nd m x.0) (nd m x.1)) × (0 < p.above) × (0 < p.below)
  spot_some x p e = go (crosses (nd m s) (nd m t) (nd m x.0) (nd m x.1)) refl e
    where
      at : Place
      at = meeting (nd m s) (nd m t) (nd m x.0) (nd m x.1)

      go : (c : Bool) → crosses (nd m s) (nd m t) (nd m x.0) (nd m x.1) ≡ c → cond c (Some at) None ≡ Some p
          → Four s t x.0 x.1 × (strictly_cross (pt m s) (pt m t) (pt m x.0) (pt m x.1) ≡ true) × (p ≡ at) × (0 < p.above) × (0 < p.below)
      go false c f = absurd (some_none p f)
      go true c f =
          let (q, o₂) = both c in
          let (four, o₁) = both q in
          let (five, uv) = both four in
          let (four', tv) = both five in
          let (three, tu) = both four' in
          let (two, sv) = both three in
          let (st, su) = both two in
          let is : p ≡ at = sym (same_some at p f) in (
            record { st = differ_apart s t st; su = differ_apart s x.0 su; sv = differ_apart s x.1 sv; tu = differ_apart t x.0 tu; tv = differ_apart t x.1 tv; uv = differ_apart x.0 x.1 uv },
            ap₂ ◌&&◌ o₁ o₂,
            is,
            subst (λ (z : Place). 0 < z.above) (sym is) (not_zero (turn (pt m x.0) (pt m x.1) (pt m s)) (λ z. true≢false (sym o₂ ∙ ap (λ w. lt_z w (pos 0)) (ap (λ w. w *ℤ turn (pt m x.0) (pt m x.1) (pt m t)) z ∙ zero-*ℤ (turn (pt m x.0) (pt m x.1) (pt m t)))))),
            subst (λ (z : Place). 0 < z.below) (sym is) (not_zero (turn (pt m x.0) (pt m x.1) (pt m t)) (λ z. true≢false (sym o₂ ∙ ap (λ w. lt_z w (pos 0)) (ap (λ w. turn (pt m x.0) (pt m x.1) (pt m s) *ℤ w) z ∙ *ℤ-zero (turn (pt m x.0) (pt m x.1) (pt m s)))))),
          )

  pub twin_spot : (x : Dart) → spot m s t (twin x) ≡ spot m s t x
  twin_spot x = ap₂ (λ (c : Bool) (p : Place). cond c (Some p) None) (sym same) (λ i. record { above = size_back (pt m u) (pt m v) (pt m s) i; below = size_back (pt m u) (pt m v) (pt m t) i })
    where
      u : ℕ
      u = x.0

      v : ℕ
      v = x.1

      assoc : (a b c : Bool) → (a && b && c) ≡ (a && (b && c))
      assoc true b c = refl
      assoc false b c = refl

      same : crosses (nd m s) (nd m t) (nd m u) (nd m v) ≡ crosses (nd m s) (nd m t) (nd m v) (nd m u)
      same =
          assoc (four_nodes (nd m s) (nd m t) (nd m u) (nd m v)) (opposite (turn (pt m s) (pt m t) (pt m u)) (turn (pt m s) (pt m t) (pt m v))) (opposite (turn (pt m u) (pt m v) (pt m s)) (turn (pt m u) (pt m v) (pt m t)))
          ∙ ap₂ ◌&&◌
          (and_swap (differ s t) (differ s u) (differ s v) (differ t u) (differ t v) (differ u v) ∙ ap (λ (f : Bool). differ s t && differ s v && differ s u && differ t v && differ t u && f) (differ_back u v))
          (cross_back (pt m s) (pt m t) (pt m u) (pt m v))
          ∙ sym (assoc (four_nodes (nd m s) (nd m t) (nd m v) (nd m u)) (opposite (turn (pt m s) (pt m t) (pt m v)) (turn (pt m s) (pt m t) (pt m u))) (opposite (turn (pt m v) (pt m u) (pt m s)) (turn (pt m v) (pt m u) (pt m t))))

  pub source_spot : (w : ℕ) → spot m s t (s, w) ≡ None
  source_spot w = ap (λ (c : Bool). cond c (Some (meeting (nd m s) (nd m t) (nd m s) (nd m w))) None)
      (none (differ s t) (differ s s) (differ s w) (differ t s) (differ t w) (differ s w) (opposite (turn (pt m s) (pt m t) (pt m s)) (turn (pt m s) (pt m t) (pt m w))) (opposite (turn (pt m s) (pt m w) (pt m s)) (turn (pt m s) (pt m w) (pt m t)))
      (ap not (eq-eqb s s refl)))
    where
      none : (a b c d e f g h : Bool) → b ≡ false → (a && b && c && d && e && f && g && h) ≡ false
      none false b c d e f g h k = refl
      none true true c d e f g h k = absurd (true≢false k)
      none true false c d e f g h k = refl

  -- ---- the order of the places
  positive_entry : (x : Dart) → 0 < (or_source (spot m s t x)).below
  positive_entry x = go (spot m s t x) refl
    where
      go : (o : Option Place) → spot m s t x ≡ o → 0 < (or_source o).below
      go None e = omega arith
      go (Some p) e = (spot_some x p e).4

  pub beyond_never : (x : Dart) → beyond m s t x x ≡ false
  beyond_never x = go (spot m s t x)
    where
      go : (o : Option Place) → nearer_than (or_source o) o ≡ false
      go None = refl
      go (Some p) = nearest.never p

  pub beyond_trans : (x y z : Dart) → beyond m s t x y ≡ true → beyond m s t y z ≡ true → beyond m s t x z ≡ true
  beyond_trans x y z h k = go (spot m s t y) refl (spot m s t z) refl h k
    where
      go : (o : Option Place) → spot m s t y ≡ o → (o' : Option Place) → spot m s t z ≡ o'
          → nearer_than (or_source (spot m s t x)) o ≡ true → nearer_than (or_source o) o' ≡ true → nearer_than (or_source (spot m s t x)) o' ≡ true
      go None e o' f h k = absurd (true≢false (sym h))
      go (Some q) e None f h k = absurd (true≢false (sym k))
      go (Some q) e (Some r) f h k = nearest.transitive r q (or_source (spot m s t x)) (spot_some z r f).4 (spot_some y q e).4 (positive_entry x) k h

  pub beyond_between : (x y z : Dart) → beyond m s t x z ≡ true → (beyond m s t x y ≡ true) ⊎ (beyond m s t y z ≡ true)
  beyond_between x y z h = go (spot m s t y) refl (spot m s t z) refl h
    where
      e : Place
      e = or_source (spot m s t x)

      go : (o : Option Place) → spot m s t y ≡ o → (o' : Option Place) → spot m s t z ≡ o' → nearer_than e o' ≡ true → (nearer_than e o ≡ true) ⊎ (nearer_than (or_source o) o' ≡ true)
      go o f None k h = absurd (true≢false (sym h))
      go None f (Some r) k h = inr (lt-ltb (0 * r.below) (r.above * 1) (ahead r (spot_some z r k).3))
        where
          ahead : (r : Place) → 0 < r.above → 0 * r.below < r.above * 1
          ahead r h = omega arith
      go (Some q) f (Some r) k h = pick (nearer r q) refl (nearer q r) refl
        where
          pick : (a : Bool) → nearer r q ≡ a → (c : Bool) → nearer q r ≡ c → (nearer q e ≡ true) ⊎ (nearer r q ≡ true)
          pick true a c d = inr a
          pick false a true d = inl (nearest.transitive q r e (spot_some y q f).4 (spot_some z r k).4 (positive_entry x) d h)
          pick false a false d = inl (sym (nearest.alike r q e (spot_some z r k).4 (spot_some y q f).4 (positive_entry x) a d).0 ∙ h)
