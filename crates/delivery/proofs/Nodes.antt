-- Nodes in service: where they are, and their kept links
use Rattle.std.proofs.Common.{◌≡◌, ℕ, zero, suc, ◌<◌, Bool, true, false, cond, not, eqb, ◌⊎◌, List, [], ◌∷◌, length, Some, None, Option, sym, refl, ap, ◌∙◌, subst, inl, inr, true≢false, arith, eq-eqb, eqb-true}
use Rattle.plane.specs.declared.Point.{Point}
use Rattle.plane.proofs.Vectors.{position}
use Rattle.plane.proofs.Sites as sites
use Rattle.plane.proofs.General.{Off}
use Rattle.floor.specs.declared.node.Node.{Node}
use Rattle.floor.specs.declared.node.Radio.{Radio}
use Rattle.std.specs.List.{slice_get, find}
use Rattle.floor.specs.Numbers.{differ}
use Rattle.floor.specs.Meaning.{Meaning, Serving, Joined, radio, place_of, serving_at, serving_place, heard_by, known_as, node}
use Rattle.floor.specs.Planar.{Blocks, Lawful}
use Rattle.kept.specs.Kept.{kept, kept_of, kept_neighbours}
use Rattle.kept.specs.Laws.{Near}
use Rattle.kept.proofs.Lists.{Has, told, fails, some_found, found_some}
use Rattle.kept.proofs.Near.{near, is_same, same_is, one_point}
use Rattle.kept.proofs.Graph.{kept_has, kept_clear}
use Rattle.kept.proofs.Graph as graph
use Rattle.kept.proofs.Crossing.{three_off, do_not_cross, cross_is}
use Rattle.delivery.specs.Law.{serving}
use Rattle.floor.specs.Meaning.{serves}
use Rattle.delivery.proofs.Ground.{pt, nd, point_or_zero, keeps, size_of}
use Rattle.delivery.proofs.Ground as ground

-- where node i is, as the plane's lemmas read it
abbrev pub S : Meaning → ℕ → sites.Site
S m i = sites.node (position (pt m i))

module _ (m : Meaning) where
  pub on_point : (i : ℕ) → serving m i ≡ true → serving_at m i ≡ Some (pt m i)
  on_point i h = go (radio m i) h
    where
      go : (o : Option Radio) → serves o ≡ true → serving_place o ≡ Some (point_or_zero (place_of o))
      go None e = absurd (true≢false (sym e))
      go (Some r) e = ap (λ (b : Bool). cond b (Some r.point) None) e

  pub point_on : (i : ℕ) (p : Point) → serving_at m i ≡ Some p → serving m i ≡ true
  point_on i p h = go (radio m i) h
    where
      none : {X : Type 0} → None ≡ Some p → X
      none e = cc

      go : (o : Option Radio) → serving_place o ≡ Some p → serves o ≡ true
      go None e = none e
      go (Some r) e = on r.serving e
        where
          on : (b : Bool) → cond b (Some r.point) None ≡ Some p → b ≡ true
          on true k = refl
          on false k = none k

  pub the_point : (i : ℕ) (p : Point) → serving_at m i ≡ Some p → p ≡ pt m i
  the_point i p h = one_point m i p (pt m i) h (on_point i (point_on i p h))

  pub on_small : (i : ℕ) → serving m i ≡ true → i < size_of m
  on_small i h = go m.nodes i h
    where
      go : (rs : List Radio) (i : ℕ) → serves (slice_get rs i) ≡ true → i < length rs
      go [] i e = absurd (true≢false (sym e))
      go (r ∷ rs) zero e = omega arith
      go (r ∷ rs) (suc i) e = let h : i < length rs = go rs i e in omega arith

  pub on_node : (i : ℕ) → serving m i ≡ true → node m i ≡ Some (nd m i)
  on_node i h = go (radio m i) h
    where
      go : (o : Option Radio) → serves o ≡ true → known_as i o ≡ Some (record { number = i; point = point_or_zero (place_of o) })
      go None e = absurd (true≢false (sym e))
      go (Some r) e = refl

module _ (b : Blocks) (m : Meaning) where
  -- the kept neighbours as the step sees them are those of the meaning
  pub near_is : (v : ℕ) → ground.near b m v ≡ kept_neighbours b m v
  near_is v = go (radio m v)
    where
      go : (o : Option Radio) → kept b (point_or_zero (place_of o)) (heard_by m v o) ≡ kept_of b (heard_by m v o) o
      go None = refl
      go (Some r) = refl

  module _ (l : Lawful b) (g : Serving m) where
    pub keeps_near : (u v : ℕ) → keeps b m u v ≡ true → Near m u v
    keeps_near u v k = (kept_clear b m l g u v (told k)).0

    pub keeps_on : (u v : ℕ) → keeps b m u v ≡ true → serving m u ≡ true
    keeps_on u v k = let s = keeps_near u v k in point_on m u s.p s.at_u

    pub keeps_to : (u v : ℕ) → keeps b m u v ≡ true → serving m v ≡ true
    keeps_to u v k = let s = keeps_near u v k in point_on m v s.q s.at_v

    pub keeps_apart : (u v : ℕ) → keeps b m u v ≡ true → ¬ (u ≡ v)
    keeps_apart u v k = (keeps_near u v k).apart

    pub symmetric : (u v : ℕ) → keeps b m u v ≡ keeps b m v u
    symmetric u v = graph.symmetric b m l g u v

    pub back : (u v : ℕ) → keeps b m u v ≡ true → keeps b m v u ≡ true
    back u v k = symmetric v u ∙ k

    pub irreflexive : (u : ℕ) → keeps b m u u ≡ false
    irreflexive u = fails (λ k. keeps_apart u u k refl)

    pub joins : (u v : ℕ) → keeps b m u v ≡ true → Joined m u v
    joins u v k = Joined.on u v v ((near m u v).1 (keeps_near u v k)) (Joined.here v)

    -- ---- the kept neighbours of v, each at its point
    pub member : (v : ℕ) (n : Node) → Has n (ground.near b m v) → (keeps b m v n.number ≡ true) × (n ≡ nd m n.number)
    member v n h =
        let h' = subst (Has n) (near_is v) h in
        let (s, at, _) = kept_has b m v n h' in
        let spot : n.point ≡ pt m n.number = at ∙ the_point m n.number s.q s.at_v in (
          found_some (λ (k : Node). not (differ k.number n.number)) (kept_neighbours b m v) n h' (same_is n.number n.number refl),
          λ i. record { number = n.number; point = spot i },
        )

    pub has_member : (v u : ℕ) → keeps b m v u ≡ true → Has (nd m u) (ground.near b m v)
    has_member v u k =
        let (n, h, e) = some_found (λ (n : Node). not (differ n.number u)) (kept_neighbours b m v) k in
        let h' = subst (Has n) (sym (near_is v)) h in
        subst (λ (z : Node). Has z (ground.near b m v)) ((member v n h').1 ∙ ap (nd m) (is_same n.number u e)) h'

    pub known_is : (v u : ℕ) → keeps b m v u ≡ true → find (λ (n : Node). eqb n.number u) (ground.near b m v) ≡ Some (nd m u)
    known_is v u k = go (ground.near b m v) (has_member v u k) (λ n h e. (member v n h).1 ∙ ap (nd m) (eqb-true n.number u e))
      where
        go : (ns : List Node) → Has (nd m u) ns → ((n : Node) → Has n ns → eqb n.number u ≡ true → n ≡ nd m u) → find (λ (n : Node). eqb n.number u) ns ≡ Some (nd m u)
        go [] h only = elim h [ ]
        go (n ∷ ns) h only = pick (eqb n.number u) refl h (λ i. go ns i (λ k j. only k (inr j)))
          where
            pick : (t : Bool) → eqb n.number u ≡ t → (nd m u ≡ n) ⊎ Has (nd m u) ns → (Has (nd m u) ns → find (λ (n : Node). eqb n.number u) ns ≡ Some (nd m u))
                → cond t (Some n) (find (λ (n : Node). eqb n.number u) ns) ≡ Some (nd m u)
            pick true e i more = ap Some (only n (inl refl) e)
            pick false e (inl i) more = absurd (true≢false (sym (ap (λ (z : Node). eqb z.number u) (sym i) ∙ eq-eqb u u refl) ∙ e))
            pick false e (inr i) more = more i

    -- ---- three nodes in service are on no line; kept links do not cross
    pub off : (i j k : ℕ) → serving m i ≡ true → serving m j ≡ true → serving m k ≡ true → ¬ (i ≡ j) → ¬ (i ≡ k) → ¬ (j ≡ k) → Off (S m i) (S m j) (S m k)
    off i j k ei ej ek ij ik jk = three_off b m l g i j k (pt m i) (pt m j) (pt m k) ij ik jk (on_point m i ei) (on_point m j ej) (on_point m k ek)

    -- two neighbours of v
    pub off_at : (v i j : ℕ) → keeps b m v i ≡ true → keeps b m v j ≡ true → ¬ (i ≡ j) → Off (S m v) (S m i) (S m j)
    off_at v i j ki kj ij = off v i j (keeps_on v i ki) (keeps_to v i ki) (keeps_to v j kj) (keeps_apart v i ki) (keeps_apart v j kj) ij

    pub no_crossing : (i j u v : ℕ) → keeps b m i j ≡ true → keeps b m u v ≡ true → ¬ (i ≡ u) → ¬ (i ≡ v) → ¬ (j ≡ u) → ¬ (j ≡ v) → sites.crossing (S m i) (S m j) (S m u) (S m v) ≡ false
    no_crossing i j u v k h iu iv ju jv =
        let ei = keeps_on i j k in
        let ej = keeps_to i j k in
        let eu = keeps_on u v h in
        let ev = keeps_to u v h in
        let ij = keeps_apart i j k in
        let uv = keeps_apart u v h in
        sym (cross_is (pt m i) (pt m j) (pt m u) (pt m v) (off i j u ei ej eu ij iu ju) (off i j v ei ej ev ij iv jv) (off u v i eu ev ei uv (λ e. iu (sym e)) (λ e. iv (sym e))) (off u v j eu ev ej uv (λ e. ju (sym e)) (λ e. jv (sym e))))
        ∙ do_not_cross b m l g i j u v (pt m i) (pt m j) (pt m u) (pt m v) (on_point m i ei) (on_point m j ej) (on_point m u eu) (on_point m v ev) (told k) (told h)
