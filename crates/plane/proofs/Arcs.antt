-- The clockwise arc, strictly inside: its laws. Seen from v; no level and no weight is spoken of.
use mathlib.Core.Path.{◌≡◌, refl, sym, ◌∙◌, ap, subst}
use mathlib.Core.Bool.{Bool, true, false, not}
use mathlib.Core.HLevel.{Discrete}
use lib.Dec.{T}
use Rattle.plane.proofs.Sites.{Site, L, and, or, most, inside}
use Rattle.plane.proofs.Signs.{weak, mixed3, eqB, seen}
use Rattle.plane.proofs.SignTable.{every, at, follows, no_or}
use Rattle.plane.proofs.Strip.{Off, off_flip, left_sign, prq}
use Rattle.plane.proofs.SharedEnds.{qpp}

-- the mirror image: strictly inside the counter-clockwise arc from p to q
abbrev pub insideᶜ : Site → Site → Site → Site → Bool
insideᶜ v p x q = most (L v p x) (L v x q) (not (L v p q))

most_swap : (a b c : Bool) → most a b c ≡ most b a c
most_swap true true c = refl
most_swap true false c = refl
most_swap false true c = refl
most_swap false false c = refl

-- one arc, walked from either end: with no condition
pub mirror : (v u x w : Site) → insideᶜ v w x u ≡ inside v u x w
mirror v u x w = most_swap (L v w x) (L v x u) (not (L v w u))

-- the ends of an arc are not inside it: with no condition
pub not_first : (v u w : Site) → inside v u u w ≡ false
not_first v u w = rw (qpp u v) (go (L v w u))
  where
    go : (t : Bool) → and t (not t) ≡ false
    go true = refl
    go false = refl

pub not_last : (v u w : Site) → inside v u w w ≡ false
not_last v u w = rw (qpp w v) (go (L v w u))
  where
    go : (t : Bool) → most t false (not t) ≡ false
    go true = refl
    go false = refl

-- a full turn has all but its end
pub full_turn : (v u x : Site) → Off v u x → inside v u x u ≡ true
full_turn v u x n = rw (qpp u v, prq v u x (left_sign v u x n)) (go (L v u x))
  where
    go : (t : Bool) → most (not t) t true ≡ true
    go true = refl
    go false = refl

-- three different directions
module _ (v p x q : Site) (px : Off v p x) (xq : Off v x q) (pq : Off v p q) where
  pub arc : inside v p x q ≡ most (not (L v p x)) (not (L v x q)) (not (not (L v p q)))
  arc = rw (prq v p x (left_sign v p x px), prq v x q (left_sign v x q xq), prq v p q (left_sign v p q pq)) refl

  -- inside the arc from p to q or inside that from q to p
  pub other_arc : inside v q x p ≡ not (inside v p x q)
  other_arc = rw (prq v p x (left_sign v p x px), prq v x q (left_sign v x q xq), prq v p q (left_sign v p q pq)) (go (L v p x) (L v x q) (L v p q))
    where
      go : (a b c : Bool) → most b a (not c) ≡ not (most (not a) (not b) (not (not c)))
      go true true true = refl
      go true true false = refl
      go true false true = refl
      go true false false = refl
      go false true true = refl
      go false true false = refl
      go false false true = refl
      go false false false = refl

  -- turned round
  pub turned : inside v x q p ≡ inside v p x q
  turned = rw (prq v p x (left_sign v p x px), prq v x q (left_sign v x q xq), prq v p q (left_sign v p q pq)) (go (L v p x) (L v x q) (L v p q))
    where
      go : (a b c : Bool) → most (not b) c (not a) ≡ most (not a) (not b) (not (not c))
      go true true true = refl
      go true true false = refl
      go true false true = refl
      go true false false = refl
      go false true true = refl
      go false true false = refl
      go false false true = refl
      go false false false = refl

  -- of two, seen from p, one comes first
  pub one_first : inside v p q x ≡ not (inside v p x q)
  one_first = rw (prq v p x (left_sign v p x px), prq v x q (left_sign v x q xq), prq v p q (left_sign v p q pq)) (go (L v p x) (L v x q) (L v p q))
    where
      go : (a b c : Bool) → most (not c) b (not (not a)) ≡ not (most (not a) (not b) (not (not c)))
      go true true true = refl
      go true true false = refl
      go true false true = refl
      go true false false = refl
      go false true true = refl
      go false true false = refl
      go false false true = refl
      go false false false = refl

-- ---- four directions: checks of six signs ux uy uz xy xz yz
abbrev Six : Type 0
Six = Bool → Bool → Bool → Bool → Bool → Bool → Bool

abbrev every6 : Six → Bool
every6 f = every (λ a. every (λ b. every (λ c. every (λ d. every (λ e. every (λ g. f a b c d e g))))))

at6 : (f : Six) → every6 f ≡ true → (a b c d e g : Bool) → f a b c d e g ≡ true
at6 f t a b c d e g = at (λ g. f a b c d e g) (at (λ e. every (λ g. f a b c d e g)) (at (λ d. every (λ e. every (λ g. f a b c d e g)))
    (at (λ c. every (λ d. every (λ e. every (λ g. f a b c d e g)))) (at (λ b. every (λ c. every (λ d. every (λ e. every (λ g. f a b c d e g)))))
    (at (λ a. every (λ b. every (λ c. every (λ d. every (λ e. every (λ g. f a b c d e g)))))) t a) b) c) d) e) g

abbrev round : Six
round ux uy uz xy xz yz = mixed3 (eqB ux yz) (not (eqB uy xz)) (eqB uz xy)

module _ (v u x y z : Site) (ux : Off v u x) (uy : Off v u y) (uz : Off v u z) (xy : Off v x y) (xz : Off v x z) (yz : Off v y z) where
  by_round : (f : Six) → every6 (λ a b c d e g. or (not (round a b c d e g)) (f a b c d e g)) ≡ true → f (L v u x) (L v u y) (L v u z) (L v x y) (L v x z) (L v y z) ≡ true
  by_round f t = follows _ _ (at6 (λ a b c d e g. or (not (round a b c d e g)) (f a b c d e g)) t (L v u x) (L v u y) (L v u z) (L v x y) (L v x z) (L v y z))
      (seen v u x y z (weak (left_sign v u x ux)) (weak (left_sign v y z yz)) (left_sign v u y uy) (left_sign v x z xz) (weak (left_sign v u z uz)) (weak (left_sign v x y xy)))

  -- x before y and y before z, from u: x before z
  pub before_trans : inside v u x y ≡ true → inside v u y z ≡ true → inside v u x z ≡ true
  before_trans h k = arc v u x z ux xz uz ∙ follows _ _ (follows _ _
      (by_round (λ ux uy uz xy xz yz. or (not (most (not ux) (not xy) (not (not uy)))) (or (not (most (not uy) (not yz) (not (not uz)))) (most (not ux) (not xz) (not (not uz))))) refl)
      (sym (arc v u x y ux xy uy) ∙ h)) (sym (arc v u y z uy yz uz) ∙ k)

  -- x inside the arc from u to y, z not inside: from z, u comes before x
  pub outside : inside v u x y ≡ true → inside v u z y ≡ false → inside v z u x ≡ true
  outside h k =
      let k' : most (not (L v u z)) (L v y z) (not (not (L v u y))) ≡ false = sym (rw (prq v u z (left_sign v u z uz), prq v u y (left_sign v u y uy)) refl) ∙ k in
      rw (prq v u x (left_sign v u x ux)) (follows _ _ (no_or _ _
      (by_round (λ ux uy uz xy xz yz. or (most (not uz) yz (not (not uy))) (or (not (most (not ux) (not xy) (not (not uy)))) (most uz (not ux) (not xz)))) refl)
      k') (sym (arc v u x y ux xy uy) ∙ h))

-- ---- next and previous, among the neighbours K of v
module _ {I : Type 0} (same? : Discrete I) (at' : I → Site) (v : Site) (K : I → Type 0) (apart : (i j : I) → K i → K j → ¬ (i ≡ j) → Off v (at' i) (at' j)) where
  -- w comes next clockwise after u: no neighbour strictly inside. u comes next counter-clockwise after w: the same
  abbrev pub Next : I → I → Type 0
  Next u w = (x : I) → K x → inside v (at' u) (at' x) (at' w) ≡ false

  abbrev pub Previous : I → I → Type 0
  Previous w u = (x : I) → K x → insideᶜ v (at' w) (at' x) (at' u) ≡ false

  pub undo : (u w : I) → Next u w → Previous w u
  undo u w n x k = mirror v (at' u) (at' x) (at' w) ∙ n x k

  pub redo : (u w : I) → Previous w u → Next u w
  redo u w n x k = sym (mirror v (at' u) (at' x) (at' w)) ∙ n x k

  clash {ℓ} : {X : Type ℓ} → true ≡ false → X
  clash e = absurd (subst (λ b. T b) e tt)

  -- where u comes next after itself there is no other
  pub alone : (u x : I) → K u → K x → Next u u → x ≡ u
  alone u x ku kx n = go (same? x u)
    where
      go : Dec (x ≡ u) → x ≡ u
      go (yes e) = e
      go (no d) = clash (sym (full_turn v (at' u) (at' x) (apart u x ku kx (λ e. d (sym e)))) ∙ n x kx)

  -- one next
  pub next_once : (u w w' : I) → K u → K w → K w' → Next u w → Next u w' → w ≡ w'
  next_once u w w' ku kw kw' n n' = go (same? w w') (same? u w) (same? u w')
    where
      go : Dec (w ≡ w') → Dec (u ≡ w) → Dec (u ≡ w') → w ≡ w'
      go (yes e) p q = e
      go (no d) (yes p) q = sym p ∙ sym (alone u w' ku kw' (subst (λ i. Next u i) (sym p) n))
      go (no d) (no p) (yes q) = alone u w ku kw (subst (λ i. Next u i) (sym q) n') ∙ q
      go (no d) (no p) (no q) = clash (sym (one_first v (at' u) (at' w') (at' w) (apart u w' ku kw' q) (apart w' w kw' kw (λ e. d (sym e))) (apart u w ku kw p) ∙ ap not (n w' kw')) ∙ n' w kw)

  -- one before
  pub next_injective : (u u' w : I) → K u → K u' → K w → Next u w → Next u' w → u ≡ u'
  next_injective u u' w ku ku' kw n n' = go (same? u u') (same? u w) (same? u' w)
    where
      go : Dec (u ≡ u') → Dec (u ≡ w) → Dec (u' ≡ w) → u ≡ u'
      go (yes e) p q = e
      go (no d) (yes p) q = sym (alone u u' ku ku' (subst (λ i. Next u i) (sym p) n))
      go (no d) (no p) (yes q) = alone u' u ku' ku (subst (λ i. Next u' i) (sym q) n')
      go (no d) (no p) (no q) =
          let wu = apart w u kw ku (λ e. p (sym e)) in
          let wu' = apart w u' kw ku' (λ e. q (sym e)) in
          clash (sym
          (turned v (at' w) (at' u') (at' u) wu' (apart u' u ku' ku (λ e. d (sym e))) wu
          ∙ one_first v (at' w) (at' u) (at' u') wu (apart u u' ku ku' d) wu'
          ∙ ap not (sym (turned v (at' w) (at' u) (at' u') wu (apart u u' ku ku' d) wu') ∙ n u' ku'))
          ∙ n' u ku)

  -- a direction o lies inside one corner only
  module _ (o : Site) (clear : (i : I) → K i → Off v (at' i) o) where
    pub one_corner : (u w u' w' : I) → K u → K w → K u' → K w' → Next u w → Next u' w'
        → inside v (at' u) o (at' w) ≡ true → inside v (at' u') o (at' w') ≡ true → u ≡ u'
    one_corner u w u' w' ku kw ku' kw' n n' h h' = go (same? u u') (same? u w) (same? u' w') (same? u' w) (same? u w')
      where
        turn_off : (i : I) → K i → Off v o (at' i)
        turn_off i k = off_flip v (at' i) o (clear i k)

        -- from u', u comes before o
        first : ¬ (u ≡ u') → ¬ (u ≡ w) → Dec (u' ≡ w) → inside v (at' u') (at' u) o ≡ true
        first d p (yes r) = ap (λ i. inside v (at' i) (at' u) o) r
            ∙ turned v o (at' w) (at' u) (turn_off w kw) (apart w u kw ku (λ e. p (sym e))) (turn_off u ku)
            ∙ turned v (at' u) o (at' w) (clear u ku) (turn_off w kw) (apart u w ku kw p) ∙ h
        first d p (no r) = outside v (at' u) o (at' w) (at' u') (clear u ku) (apart u w ku kw p) (apart u u' ku ku' d) (turn_off w kw) (turn_off u' ku') (apart w u' kw ku' (λ e. r (sym e))) h (n u' ku')

        go : Dec (u ≡ u') → Dec (u ≡ w) → Dec (u' ≡ w') → Dec (u' ≡ w) → Dec (u ≡ w') → u ≡ u'
        go (yes e) p q r s = e
        go (no d) (yes p) q r s = sym (alone u u' ku ku' (subst (λ i. Next u i) (sym p) n))
        go (no d) (no p) (yes q) r s = alone u' u ku' ku (subst (λ i. Next u' i) (sym q) n')
        -- o would be both before and behind u
        go (no d) (no p) (no q) r (yes s) = clash (sym h' ∙ ap (λ i. inside v (at' u') o (at' i)) (sym s)
            ∙ one_first v (at' u') (at' u) o (apart u' u ku' ku (λ e. d (sym e))) (clear u ku) (clear u' ku') ∙ ap not (first d p r))
        go (no d) (no p) (no q) r (no s) = clash (sym
            (before_trans v (at' u') (at' u) o (at' w') (apart u' u ku' ku (λ e. d (sym e))) (clear u' ku') (apart u' w' ku' kw' q) (clear u ku) (apart u w' ku kw' s) (turn_off w' kw')
            (first d p r) h')
            ∙ n' u ku)
