-- The opening: the first link clockwise from the direction of t, and the corner at s before it
use Rattle.std.proofs.Common.{◌≡◌, ℕ, true, false, not, ◌⊎◌, Some, None, Option, sym, refl, ap, ◌∙◌, subst, ap₂, inl, inr, true≢false}
use native.Mathlib.Decide.{ℕ_discrete}
use Rattle.plane.specs.Plane.{way}
use Rattle.plane.proofs.Vectors.{position}
use Rattle.plane.proofs.Sites.{far, inside}
use Rattle.plane.proofs.General.{Off}
use Rattle.plane.proofs.Strip.{pqr, prq}
use Rattle.plane.proofs.SharedEnds.{qpp}
use Rattle.plane.proofs.Arcs.{full_turn, other_arc, turned}
use Rattle.plane.proofs.Direction.{opening, opening_last}
use Rattle.order.specs.declared.Sense.TheVariants.{Clockwise}
use Rattle.order.specs.declared.Start.TheVariants.{NoTurn}
use Rattle.order.specs.Directions.{sooner}
use Rattle.order.proofs.ArcTest.{arc_between, start_foremost}
use Rattle.floor.specs.declared.node.Node.{Node}
use Rattle.floor.specs.Meaning.{Meaning, Serving, Joined}
use Rattle.floor.specs.Planar.{Blocks, Lawful}
use Rattle.kept.specs.Kept.{first_round}
use Rattle.kept.specs.Laws.{Chained}
use Rattle.kept.proofs.Lists.{holds}
use Rattle.kept.proofs.Near.{same_some, some_none}
use Rattle.kept.proofs.Chains.{joined_chained}
use Rattle.delivery.specs.Law.{serving}
use Rattle.delivery.proofs.Ground.{pt, nd, near, keeps}
use Rattle.delivery.proofs.Nodes.{S, keeps_to, keeps_apart, off}
use Rattle.delivery.proofs.Around.{away, first_found}
use Rattle.delivery.proofs.Floors.{heading, t_low, on_side}

module _ (b : Blocks) (m : Meaning) (l : Lawful b) (g : Serving m) (s t : ℕ) (es : serving m s ≡ true) (et : serving m t ≡ true) (st : ¬ (s ≡ t)) where
  abbrev found : Option Node
  found = first_round Clockwise NoTurn (pt m s) (way (pt m s) (pt m t)) (near b m s)

  abbrev first : ℕ → Type 0
  first w = (x : ℕ) → keeps b m s x ≡ true → sooner Clockwise NoTurn (way (pt m s) (pt m t)) (way (pt m s) (pt m x)) (way (pt m s) (pt m w)) ≡ false

  pub opens : ((w : ℕ) × (keeps b m s w ≡ true) × (found ≡ Some (nd m w))) ⊎ ((found ≡ None) × ((w : ℕ) → keeps b m s w ≡ false))
  opens = elim (first_found b m l g s Clockwise NoTurn (pt m t) (away b m l g s t es et st)) [
    | inl (w, e, k, none) ↦ inl (w, k, e)
    | inr (e, none) ↦ inr (e, none)
  ]

  pub joined_keeps : Joined m s t → (w : ℕ) × (keeps b m s w ≡ true)
  joined_keeps j = go s t st (joined_chained b m l g j)
    where
      go : (s t : ℕ) → ¬ (s ≡ t) → Chained b m s t → (w : ℕ) × (keeps b m s w ≡ true)
      go s t n (Chained.here i) = absurd (n refl)
      go s t n (Chained.on i j k h c) = (j, holds h)

  found_first : (w : ℕ) → found ≡ Some (nd m w) → first w
  found_first w e = go (first_found b m l g s Clockwise NoTurn (pt m t) (away b m l g s t es et st))
    where
      go : ((v : ℕ) × (found ≡ Some (nd m v)) × (keeps b m s v ≡ true) × first v) ⊎ ((found ≡ None) × ((x : ℕ) → keeps b m s x ≡ false)) → first w
      go (inl (v, f, k, none)) = subst first (ap (λ (n : Node). n.number) (same_some (nd m v) (nd m w) (sym f ∙ e))) none
      go (inr (f, none)) = absurd (some_none (nd m w) (sym f ∙ e))

  -- the corner at s that ends with the first link holds the direction
  pub corner_holds : (u w : ℕ) → keeps b m s u ≡ true → keeps b m s w ≡ true → found ≡ Some (nd m w) → inside (S m s) (S m u) (far (heading m s t)) (S m w) ≡ true
  corner_holds u w ku kw e = go (ℕ_discrete t w) (ℕ_discrete t u) (ℕ_discrete u w)
    where
      eu : serving m u ≡ true
      eu = keeps_to b m l g s u ku

      ew : serving m w ≡ true
      ew = keeps_to b m l g s w kw

      alone : inside (S m s) (S m t) (far (heading m s t)) (S m t) ≡ true
      alone = rw (pqr (S m s) (far (heading m s t)) (S m t) (t_low b m l g s t es et st), prq (S m s) (far (heading m s t)) (S m t) (t_low b m l g s t es et st), qpp (S m t) (S m s)) refl

      -- t is no neighbour unless it is the first
      not_there : ¬ (t ≡ w) → ¬ (keeps b m s t ≡ true)
      not_there tw kt = true≢false (sym
          (start_foremost Clockwise (pt m s) (pt m t) (pt m w) (λ z. away b m l g s t es et st (sym z)) (off b m l g s t w es et ew st (keeps_apart b m l g s w kw) tw))
          ∙ found_first w e t kt)

      go : Dec (t ≡ w) → Dec (t ≡ u) → Dec (u ≡ w) → inside (S m s) (S m u) (far (heading m s t)) (S m w) ≡ true
      go (yes p) (yes q) r = sym (ap₂ (λ (i j : ℕ). inside (S m s) (S m i) (far (heading m s t)) (S m j)) q p) ∙ alone
      go (yes p) (no q) r =
          let hu = on_side b m l g s t es et st u eu (keeps_apart b m l g s u ku) q in
          sym (ap (λ (j : ℕ). inside (S m s) (S m u) (far (heading m s t)) (S m j)) p) ∙ opening_last (heading m s t) (position (pt m s)) (position (pt m t)) (position (pt m u)) (position (pt m u)) (t_low b m l g s t es et st) hu hu
      go (no p) (yes q) r = absurd (not_there p (ap (keeps b m s) q ∙ ku))
      go (no p) (no q) r =
          let hu = on_side b m l g s t es et st u eu (keeps_apart b m l g s u ku) q in
          let hw = on_side b m l g s t es et st w ew (keeps_apart b m l g s w kw) p in
          opening (heading m s t) (position (pt m s)) (position (pt m t)) (position (pt m u)) (position (pt m w)) (t_low b m l g s t es et st) hu hw ∙ arc r
        where
          su : ¬ (s ≡ u)
          su = keeps_apart b m l g s u ku

          sw : ¬ (s ≡ w)
          sw = keeps_apart b m l g s w kw

          stu : Off (S m s) (S m t) (S m u)
          stu = off b m l g s t u es et eu st su q

          stw : Off (S m s) (S m t) (S m w)
          stw = off b m l g s t w es et ew st sw p

          arc : Dec (u ≡ w) → inside (S m s) (S m u) (S m t) (S m w) ≡ true
          arc (yes r) = ap (λ (j : ℕ). inside (S m s) (S m u) (S m t) (S m j)) (sym r) ∙ full_turn (S m s) (S m u) (S m t) (off b m l g s u t es eu et su st (λ f. q (sym f)))
          arc (no r) =
              let suw = off b m l g s u w es eu ew su sw r in
              let swu = off b m l g s w u es ew eu sw su (λ f. r (sym f)) in
              let sut = off b m l g s u t es eu et su st (λ f. q (sym f)) in
              let swt = off b m l g s w t es ew et sw st (λ f. p (sym f)) in
              turned (S m s) (S m w) (S m u) (S m t) swu sut swt
              ∙ other_arc (S m s) (S m t) (S m u) (S m w) stu suw stw
              ∙ ap not (sym (arc_between Clockwise NoTurn (pt m s) (pt m t) (pt m u) (pt m w) stu stw) ∙ found_first w e u ku)
