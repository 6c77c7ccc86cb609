-- THE GROUND of every run: what geometry owes to it
use Rattle.std.proofs.Common.{◌≡◌, ℕ, ◌*◌, ◌≤◌, true, false, ◌⊎◌, nat_abs, Some, subst, inl, inr, arith, ltb-false}
use Rattle.plane.specs.Plane.{turn}
use Rattle.order.specs.declared.Place.{Place}
use Rattle.order.specs.Places.{nearer}
use Rattle.floor.specs.Meaning.{Meaning, Serving}
use Rattle.floor.specs.Planar.{Blocks, Lawful}
use Rattle.kept.specs.Laws.{same_place}
use Rattle.kept.proofs.Lists.{told}
use Rattle.kept.proofs.SameLink as kept
use Rattle.orbit.specs.Walks.{In}
use Rattle.orbit.proofs.Darts.{Dart}
use Rattle.delivery.specs.Law.{serving}
use Rattle.delivery.proofs.Ground.{Ground, pt, spot, twin}
use Rattle.delivery.proofs.Nodes.{on_point, keeps_on, keeps_to}
use Rattle.delivery.proofs.Rotations.{rotation}
use Rattle.delivery.proofs.Spots.{spot_some, twin_spot, source_spot, beyond_trans, beyond_never, beyond_between}
use Rattle.delivery.proofs.Winding.{F, in_all}
use Rattle.delivery.proofs.Opening.{opens, joined_keeps}
use Rattle.delivery.proofs.OddAtSource.{odd_at_source}
use Rattle.delivery.proofs.OddAtLink.{leads, twin_leads, odd_at_link}

-- places of which neither is nearer are one
level : (p q : Place) → nearer p q ≡ false → nearer q p ≡ false → p.above * q.below ≡ q.above * p.below
level p q h k = between (ltb-false (q.above * p.below) (p.above * q.below) h) (ltb-false (p.above * q.below) (q.above * p.below) k)
  where
    between : p.above * q.below ≤ q.above * p.below → q.above * p.below ≤ p.above * q.below → p.above * q.below ≡ q.above * p.below
    between a b = omega arith

module _ (b : Blocks) (m : Meaning) (l : Lawful b) (g : Serving m) (s t : ℕ) (es : serving m s ≡ true) (et : serving m t ≡ true) where
  same_link : (x y : Dart) (p q : Place) → In x (F b m l g).all → In y (F b m l g).all → spot m s t x ≡ Some p → spot m s t y ≡ Some q
      → nearer p q ≡ false → nearer q p ≡ false → (x ≡ y) ⊎ (x ≡ twin y)
  same_link x y p q i j e f h k =
      let kx = in_all b m l g x i in
      let ky = in_all b m l g y j in
      let (_, over, is-p, _, _) = spot_some m s t x p e in
      let (_, over', is-q, _, _) = spot_some m s t y q f in
      let one : same_place (pt m s) (pt m t) (pt m x.0) (pt m x.1) (pt m y.0) (pt m y.1) =
      subst (λ (z : Place). nat_abs (turn (pt m x.0) (pt m x.1) (pt m s)) * z.below ≡ z.above * nat_abs (turn (pt m x.0) (pt m x.1) (pt m t))) is-q
      (subst (λ (z : Place). z.above * q.below ≡ q.above * z.below) is-p (level p q h k)) in
      elim (kept.same_link b m l g s t x.0 x.1 y.0 y.1 (pt m s) (pt m t) (pt m x.0) (pt m x.1) (pt m y.0) (pt m y.1)
      (on_point m s es) (on_point m t et) (on_point m x.0 (keeps_on b m l g x.0 x.1 kx)) (on_point m x.1 (keeps_to b m l g x.0 x.1 kx))
      (on_point m y.0 (keeps_on b m l g y.0 y.1 ky)) (on_point m y.1 (keeps_to b m l g y.0 y.1 ky)) (told kx) (told ky) over over' one) [
        | inl (u, v) ↦ inl (λ n. (u n, v n))
        | inr (u, v) ↦ inr (λ n. (u n, v n))
      ]

pub ground : (b : Blocks) (m : Meaning) → Lawful b → Serving m → (s t : ℕ) → serving m s ≡ true → serving m t ≡ true → ¬ (s ≡ t) → Ground b m s t
ground b m l g s t es et st = record {
  rotation = rotation b m l g;
  beyond_trans = beyond_trans m s t;
  beyond_never = beyond_never m s t;
  beyond_between = beyond_between m s t;
  twin_spot = twin_spot m s t;
  leads = leads b m l g s t es et st;
  twin_leads = twin_leads b m l g s t es et st;
  same_link = same_link b m l g s t es et;
  source_spot = source_spot m s t;
  opens = opens b m l g s t es et st;
  joined_keeps = joined_keeps b m l g s t es et st;
  odd_at_source = odd_at_source b m l g s t es et st;
  odd_at_link = odd_at_link b m l g s t es et st;
}
