-- Kept links are the radio links that no node in service blocks
use Rattle.std.proofs.Common.{◌≡◌, ℕ, ◌*◌, Bool, true, false, not, ◌&&◌, T, ◌≢◌, ◌⊎◌, ℤ, pos, Some, None, Option, sym, refl, ap, ◌∙◌, subst, ap₂, inl, inr, true≢false, arith}
use lib.Signed.{le_z, lt_z}
use borrow.Author.Differences.{ints}
use Rattle.plane.specs.declared.Point.{Point}
use Rattle.plane.specs.Plane.{squared}
use Rattle.floor.specs.declared.node.Node.{Node}
use Rattle.floor.specs.declared.node.Radio.{Radio}
use Rattle.std.specs.List.{list_any}
use Rattle.floor.specs.Numbers.{differ}
use Rattle.floor.specs.Meaning.{Meaning, Serving, radio, neighbours, serving_at}
use Rattle.floor.specs.Planar.{Blocks, Lawful}
use Rattle.floor.specs.DiscInLune.{squared_turned}
use Rattle.kept.specs.Kept.{Kept, kept_of, kept_neighbours}
use Rattle.kept.specs.Laws.{Near, Clear, KeptExactly, KeptIsSymmetric}
use Rattle.kept.proofs.Lists.{Has, holds, told, alike, fails, some_found, found_some, filter_has, has_filter}
use Rattle.kept.proofs.Near.{differ_apart, apart_differ, is_same, same_is, both, pair, same_some, serving_radio, neighbours_has, has_neighbours, near_back, one_point}

module _ (b : Blocks) (m : Meaning) where
  -- w, a neighbour of u, blocks the link u v
  abbrev pub blocker : Point → Node → Node → Bool
  blocker p v w = differ w.number v.number && b p v.point w.point

  abbrev pub target : (u v : ℕ) → Near m u v → Node
  target u v s = record { number = v; point = s.q }

  -- the kept neighbours are those to which no neighbour blocks the link, at their points
  pub kept_has : (u : ℕ) (n : Node) → Has n (kept_neighbours b m u)
      → (s : Near m u n.number) × (n.point ≡ s.q) × (list_any (blocker s.p n) (neighbours m u) ≡ false)
  kept_has u n h = go (radio m u) refl h
    where
      off : (t : Bool) → not t ≡ true → t ≡ false
      off true e = sym e
      off false e = refl

      go : (o : Option Radio) → radio m u ≡ o → Has n (kept_of b (neighbours m u) o)
          → (s : Near m u n.number) × (n.point ≡ s.q) × (list_any (blocker s.p n) (neighbours m u) ≡ false)
      go None e g = elim g [ ]
      go (Some p) e g =
          let (i, k) = filter_has (λ (v : Node). not (list_any (blocker p.point v) (neighbours m u))) (neighbours m u) n g in
          let (s, at) = neighbours_has m u n i in
          let (r, f, on, x) = serving_radio m u s.p s.at_u in
          let same : p.point ≡ s.p = ap (λ (z : Radio). z.point) (same_some p r (sym e ∙ f)) ∙ x in
          (s, at, ap (λ (z : Point). list_any (blocker z n) (neighbours m u)) (sym same) ∙ off (list_any (blocker p.point n) (neighbours m u)) k)

  pub has_kept : (u v : ℕ) (s : Near m u v) → list_any (blocker s.p (target u v s)) (neighbours m u) ≡ false → Has (target u v s) (kept_neighbours b m u)
  has_kept u v s k =
      let (r, f, on, x) = serving_radio m u s.p s.at_u in
      subst (Has (target u v s)) (sym (ap (kept_of b (neighbours m u)) f))
      (has_filter (λ (n : Node). not (list_any (blocker r.point n) (neighbours m u))) (neighbours m u) (target u v s) (has_neighbours m u v s)
      (ap not (ap (λ (z : Point). list_any (blocker z (target u v s)) (neighbours m u)) x ∙ k)))

  -- a neighbour that blocks, or a kept link
  pub blocked_or_kept : (u v : ℕ) (s : Near m u v) → ((w : ℕ) × (t : Near m u w) × (¬ (w ≡ v)) × (b s.p s.q t.q ≡ true)) ⊎ Kept b m u v
  blocked_or_kept u v s = go (list_any (blocker s.p (target u v s)) (neighbours m u)) refl
    where
      go : (t : Bool) → list_any (blocker s.p (target u v s)) (neighbours m u) ≡ t → ((w : ℕ) × (t : Near m u w) × (¬ (w ≡ v)) × (b s.p s.q t.q ≡ true)) ⊎ Kept b m u v
      go true e =
          let (n, h, k) = some_found (blocker s.p (target u v s)) (neighbours m u) e in
          let (t, at) = neighbours_has m u n h in
          let (d, f) = both k in
          inl (n.number, t, differ_apart n.number v d, ap (b s.p s.q) (sym at) ∙ f)
      go false e = inr (told (found_some (λ (n : Node). not (differ n.number v)) (kept_neighbours b m u) (target u v s) (has_kept u v s e) (same_is v v refl)))

  -- a kept link is a radio link that no neighbour blocks
  pub kept_near : (u v : ℕ) → Kept b m u v → (s : Near m u v) × ((w : ℕ) (t : Near m u w) → ¬ (w ≡ v) → b s.p s.q t.q ≡ false)
  kept_near u v k =
      let (n, h, e) = some_found (λ (n : Node). not (differ n.number v)) (kept_neighbours b m u) (holds k) in
      let (s, at, none) = kept_has u n h in
      move n (is_same n.number v e) s at none
    where
      move : (n : Node) → n.number ≡ v → (s : Near m u n.number) → n.point ≡ s.q → list_any (blocker s.p n) (neighbours m u) ≡ false
          → (s : Near m u v) × ((w : ℕ) (t : Near m u w) → ¬ (w ≡ v) → b s.p s.q t.q ≡ false)
      move n e s at none =
          subst (λ (v : ℕ). (s : Near m u v) × ((w : ℕ) (t : Near m u w) → ¬ (w ≡ v) → b s.p s.q t.q ≡ false)) e
          (s, λ w t d. fails (λ f. true≢false (sym (found_some (blocker s.p n) (neighbours m u) (target u w t) (has_neighbours m u w t) (pair (apart_differ w n.number d) (ap (λ (z : Point). b s.p z t.q) at ∙ f))) ∙ none)))

-- ---- with the laws of the planariser: what blocks is strictly nearer to both ends
shorter : (y z k : ℤ) → lt_z y z ≡ true → T (le_z z k) → T (le_z y k)
shorter y z k e h = omega (arith, ints)

module _ (b : Blocks) (m : Meaning) (l : Lawful b) (g : Serving m) where
  pub points_apart : (i j : ℕ) (p q : Point) → ¬ (i ≡ j) → serving_at m i ≡ Some p → serving_at m j ≡ Some q → p ≢ q
  points_apart i j p q n e f = g.general.apart i j p q n e f

  abbrev pub Shorter : Point → Point → Point → Type 0
  Shorter p q r = (lt_z (squared r p) (squared p q) ≡ true) × (lt_z (squared r q) (squared p q) ≡ true)

  -- a node in service that blocks is a neighbour of both ends, by shorter links
  pub blocks_near : (u v w : ℕ) (s : Near m u v) (r : Point) → ¬ (w ≡ u) → ¬ (w ≡ v) → serving_at m w ≡ Some r → b s.p s.q r ≡ true
      → (t : Near m u w) × (t' : Near m v w) × (t.p ≡ s.p) × (t.q ≡ r) × (t'.p ≡ s.q) × (t'.q ≡ r) × Shorter s.p s.q r
  blocks_near u v w s r wu wv e k =
      let (x, y) = both (holds (l.nearer_only s.p s.q r (points_apart u v s.p s.q s.apart s.at_u s.at_v)
      (points_apart u w s.p r (λ f. wu (sym f)) s.at_u e) (points_apart v w s.q r (λ f. wv (sym f)) s.at_v e) (told k))) in (
        record {
          p = s.p;
          q = r;
          at_u = s.at_u;
          at_v = e;
          apart = λ f. wu (sym f);
          close = subst (λ z. T (le_z z (pos (m.reach * m.reach)))) (squared_turned r s.p) (shorter (squared r s.p) (squared s.p s.q) (pos (m.reach * m.reach)) x s.close);
        },
        record {
          p = s.q;
          q = r;
          at_u = s.at_v;
          at_v = e;
          apart = λ f. wv (sym f);
          close = subst (λ z. T (le_z z (pos (m.reach * m.reach)))) (squared_turned r s.q) (shorter (squared r s.q) (squared s.p s.q) (pos (m.reach * m.reach)) y s.close);
        },
        refl,
        refl,
        refl,
        refl,
        (x, y),
      )

  pub kept_clear : (u v : ℕ) → Kept b m u v → Near m u v × Clear b m u v
  kept_clear u v k = let (s, clear) = kept_near b m u v k in (
    s,
    λ w p q r wu wv ep eq er.
        fails (λ f.
        let sp : s.p ≡ p = one_point m u s.p p s.at_u ep in
        let sq : s.q ≡ q = one_point m v s.q q s.at_v eq in
        let block : b s.p s.q r ≡ true = ap₂ (λ (y z : Point). b y z r) sp sq ∙ f in
        let (t, t', tp, tq, tp', tq', sh) = blocks_near u v w s r wu wv er block in
        true≢false (sym (ap (b s.p s.q) tq ∙ block) ∙ clear w t wv)),
  )

  pub clear_kept : (u v : ℕ) → Near m u v → Clear b m u v → Kept b m u v
  clear_kept u v s clear = elim (blocked_or_kept b m u v s) [
    | inl (w, t, n, f) ↦ absurd (true≢false (sym f ∙ clear w s.p s.q t.q (λ e. t.apart (sym e)) n s.at_u s.at_v t.at_v))
    | inr k ↦ k
  ]

  pub kept_back : (u v : ℕ) → Kept b m u v → Kept b m v u
  kept_back u v k =
      let (s, clear) = kept_clear u v k in
      clear_kept v u (near_back m u v s) (λ w p q r wv wu ep eq er.
      sym (l.either_way q p r (points_apart u v q p s.apart eq ep) (points_apart u w q r (λ f. wu (sym f)) eq er) (points_apart v w p r (λ f. wv (sym f)) ep er))
      ∙ clear w q p r wu wv eq ep er)

pub exactly : (b : Blocks) → Lawful b → KeptExactly b
exactly b l m g u v = (λ k. kept_clear b m l g u v k, λ s. clear_kept b m l g u v s.0 s.1)

pub symmetric : KeptIsSymmetric
symmetric b m l g u v = alike (λ e. holds (kept_back b m l g u v (told e))) (λ e. holds (kept_back b m l g v u (told e)))
