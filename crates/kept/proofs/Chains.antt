-- Chains of kept links join what chains of radio links join
use Rattle.std.proofs.Common.{◌≡◌, ℕ, zero, suc, true, T, ◌⊎◌, ℤ, pos, negsuc, nat_abs, ◌≤ℤ◌, sym, ◌∙◌, subst, ap₂, inl, inr, arith}
use lib.Signed.{lt_z}
use borrow.Author.Differences.{ints}
use Rattle.plane.specs.Plane.{way, squared}
use Rattle.plane.proofs.Positive.{square_nonneg, add_nonneg}
use Rattle.floor.specs.Meaning.{Meaning, Serving, Joined}
use Rattle.floor.specs.Planar.{Blocks, Lawful}
use Rattle.floor.specs.DiscInLune.{squared_turned}
use Rattle.kept.specs.Kept.{Kept}
use Rattle.kept.specs.Laws.{Near, Chained, KeptChainsJoin}
use Rattle.kept.proofs.Near.{near, near_back}
use Rattle.kept.proofs.Graph.{blocked_or_kept, blocks_near, kept_clear}

module _ (b : Blocks) (m : Meaning) where
  pub chain_joined : {u v w : ℕ} → Chained b m u v → Chained b m v w → Chained b m u w
  chain_joined (Chained.here i) c = c
  chain_joined (Chained.on i j k h d) c = Chained.on i j _ h (chain_joined d c)

  module _ (l : Lawful b) (g : Serving m) where
    -- a link whose squared length is below n, by induction on n
    near_chained : (n : ℕ) (u v : ℕ) (s : Near m u v) → T (lt_z (squared s.p s.q) (pos n)) → Chained b m u v
    near_chained zero u v s h = absurd (never (squared s.p s.q) (add_nonneg (square_nonneg (way s.p s.q).x) (square_nonneg (way s.p s.q).y)) h)
      where
        never : (z : ℤ) → pos 0 ≤ℤ z → T (lt_z z (pos 0)) → ⊥
        never z k h = omega (arith, ints)
    near_chained (suc n) u v s h = go (blocked_or_kept b m u v s) (λ i j t. near_chained n i j t)
      where
        less : (y z : ℤ) (n : ℕ) → lt_z y z ≡ true → T (lt_z z (pos (suc n))) → T (lt_z y (pos n))
        less y z n e k = omega (arith, ints)

        go : ((w : ℕ) × (t : Near m u w) × (¬ (w ≡ v)) × (b s.p s.q t.q ≡ true)) ⊎ Kept b m u v
            → ((i j : ℕ) (t : Near m i j) → T (lt_z (squared t.p t.q) (pos n)) → Chained b m i j) → Chained b m u v
        go (inr k) more = Chained.on u v v k (Chained.here v)
        go (inl (w, t, d, e)) more =
            let (x, y, xp, xq, yp, yq, (a, c)) = blocks_near b m l g u v w s t.q (λ f. t.apart (sym f)) d t.at_v e in
            let first : T (lt_z (squared x.p x.q) (pos n)) =
            subst (λ z. T (lt_z z (pos n))) (squared_turned t.q s.p ∙ sym (ap₂ squared xp xq)) (less (squared t.q s.p) (squared s.p s.q) n a h) in
            let second : T (lt_z (squared y.q y.p) (pos n)) =
            subst (λ z. T (lt_z z (pos n))) (sym (ap₂ squared yq yp)) (less (squared t.q s.q) (squared s.p s.q) n c h) in
            chain_joined (more u w x first) (more w v (near_back m v w y) second)

    pub joined_chained : {u v : ℕ} → Joined m u v → Chained b m u v
    joined_chained (Joined.here i) = Chained.here i
    joined_chained (Joined.on i j k h d) =
        let s : Near m i j = (near m i j).0 h in
        chain_joined (near_chained (suc (nat_abs (squared s.p s.q))) i j s (below (squared s.p s.q))) (joined_chained d)
      where
        below : (z : ℤ) → T (lt_z z (pos (suc (nat_abs z))))
        below (pos n) = omega (arith, ints)
        below (negsuc n) = omega (arith, ints)

    pub chained_joined : {u v : ℕ} → Chained b m u v → Joined m u v
    chained_joined (Chained.here i) = Joined.here i
    chained_joined (Chained.on i j k h d) = Joined.on i j k ((near m i j).1 (kept_clear b m l g i j h).0) (chained_joined d)

pub chains_join : KeptChainsJoin
chains_join b m l g u v = (λ j. joined_chained b m l g j, λ c. chained_joined b m l g c)
