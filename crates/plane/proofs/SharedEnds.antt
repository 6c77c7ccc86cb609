-- Four sites: darts at an end of the link, and corners one of whose sides is the link
use mathlib.Core.Path.{◌≡◌, refl, sym, ◌∙◌, ap, ap₂}
use mathlib.Core.Bool.{Bool, true, false, not, cond}
use lib.IntN.{pos}
use lib.Signed.{◌<ℤ◌, lt_z}
use Rattle.plane.proofs.Sites.{Site, det, L, xor, and, or, most, up, In, seg, hit, De, Sa, Sb, inside}
use Rattle.plane.proofs.Signs.{St, weak, mixed3, levels}
use Rattle.plane.proofs.Determinants.{det_same, det_cycle}
use Rattle.plane.proofs.SignTable.{every, at, follows, same, same_is, no_or, not_true}
use Rattle.plane.proofs.Strip.{Off, left_sign, qrp, rpq, qpr, prq, rqp}

-- ---- a site twice: no turn
pub ppq : (p q : Site) → L p p q ≡ false
unfolding L
ppq p q = ap (lt_z (pos 0)) (det_same p q)

pub pqp : (p q : Site) → L p q p ≡ false
unfolding L
pqp p q = ap (lt_z (pos 0)) (det_cycle p p q ∙ det_same p q)

pub qpp : (p q : Site) → L q p p ≡ false
unfolding L
qpp p q = ap (lt_z (pos 0)) (sym (det_cycle q p p) ∙ det_same p q)

-- ---- checks of four: abw abo awo bwo
abbrev Four : Type 0
Four = Bool → Bool → Bool → Bool → Bool

abbrev every4 : Four → Bool
every4 f = every (λ a. every (λ b. every (λ c. every (λ d. f a b c d))))

at4 : (f : Four) → every4 f ≡ true → (a b c d : Bool) → f a b c d ≡ true
at4 f t a b c d = at (λ d. f a b c d) (at (λ c. every (λ d. f a b c d)) (at (λ b. every (λ c. every (λ d. f a b c d))) (at (λ a. every (λ b. every (λ c. every (λ d. f a b c d)))) t a) b) c) d

-- where b is higher than a and levels have no cycle, l and r are the same
abbrev agree : Four → Four → Four
agree l r abw abo awo bwo = or (not (mixed3 abo bwo (not awo))) (or abo (same (l abw abo awo bwo) (r abw abo awo bwo)))

checked : (l r : Four) → every4 (agree l r) ≡ true → (abw abo awo bwo : Bool) → mixed3 abo bwo (not awo) ≡ true → abo ≡ false → l abw abo awo bwo ≡ r abw abo awo bwo
checked l r t abw abo awo bwo m h = same_is _ _ (no_or _ _ (follows _ _ (at4 (agree l r) t abw abo awo bwo) m) h)

pub record General₄ (a b w o : Site) : Type 0 where
  pub ha : pos 0 <ℤ a.h
  pub hb : pos 0 <ℤ b.h
  pub hw : pos 0 <ℤ w.h
  pub ho : o.h ≡ pos 0
  pub abw : Off a b w
  pub abo : Off a b o
  pub awo : Off a w o
  pub bwo : Off b w o

-- a dart and its twin add the same
flip : (c x y : Bool) → cond (not c) x y ≡ cond c y x
flip true x y = refl
flip false x y = refl

pub hit_twin : (o a u v : Site) → Off u v o → hit o a u v ≡ hit o a v u
hit_twin o a u v n = rw (prq u v o (left_sign u v o n), qrp u v o (left_sign u v o n)) (flip (L u v o) (seg o a u v) (seg o a v u))

exchange : (x y z : Bool) → xor x (xor y z) ≡ xor y (xor x z)
exchange true true z = refl
exchange true false z = refl
exchange false true z = refl
exchange false false z = refl

pub De_twin : (o a b u v : Site) → Off u v o → De o a b u v ≡ De o a b v u
De_twin o a b u v n = exchange (In o a b u) (In o a b v) (xor (hit o a u v) (hit o b u v))
    ∙ ap₂ (λ p q. xor (In o a b v) (xor (In o a b u) (xor p q))) (hit_twin o a u v n) (hit_twin o b u v n)

-- ---- a link alone: a and b, b higher
module _ (a b o : Site) (n : Off a b o) (above : up o a b ≡ true) where
  lower : up o b a ≡ false
  lower = qrp a b o (left_sign a b o n) ∙ not_true (L a b o) (sym (prq a b o (left_sign a b o n)) ∙ above)

  pub dart_ab : De o a b a b ≡ false
  dart_ab = rw (above, pqp a o, pqp b o) refl

  pub dart_ba : De o a b b a ≡ false
  dart_ba = rw (above, lower, pqp a o, pqp b o) refl

  -- degree one at a, degree one at b: the corner b a b, the corner a b a
  pub lone_a : xor (Sa o a b b) (Sa o a b b) ≡ not (inside a b o b)
  lone_a = rw (above, pqp b a, qpp b a, not_true (L a b o) (sym (prq a b o (left_sign a b o n)) ∙ above)) refl

  pub lone_b : xor (Sb o a b a) (Sb o a b a) ≡ not (inside b a o a)
  lone_b = rw (above, lower, qpp a b, qpr a b o (left_sign a b o n), not_true (L a b o) (sym (prq a b o (left_sign a b o n)) ∙ above)) refl

module _ (a b w o : Site) (g : General₄ a b w o) (above : up o a b ≡ true) where
  abw! : St (L a b w) (det a b w)
  abw! = left_sign a b w g.abw

  abo! : St (L a b o) (det a b o)
  abo! = left_sign a b o g.abo

  awo! : St (L a w o) (det a w o)
  awo! = left_sign a w o g.awo

  bwo! : St (L b w o) (det b w o)
  bwo! = left_sign b w o g.bwo

  by_check : (l r : Four) → every4 (agree l r) ≡ true → l (L a b w) (L a b o) (L a w o) (L b w o) ≡ r (L a b w) (L a b o) (L a w o) (L b w o)
  by_check l r t = checked l r t (L a b w) (L a b o) (L a w o) (L b w o)
      (levels a b w o g.ha g.hb g.hw g.ho abo! (weak bwo!) (weak awo!))
      (not_true (L a b o) (sym (prq a b o abo!) ∙ above))

  -- darts at a
  pub dart_a : De o a b a w ≡ Sa o a b w
  dart_a = rw (pqp a o, prq a w o awo!, qrp b w o bwo!, qpr a b w abw!, qrp a w o awo!, prq a b o abo!, prq b w o bwo!, prq a b w abw!, qrp a b o abo!, rpq a b w abw!)
      (by_check (λ abw abo awo bwo. xor (and (not awo) (and bwo (not abw))) (xor (cond (not awo) false (and awo false))
      (cond (not awo) (and (not abo) (and (not bwo) (not abw))) (and bwo (and abo abw)))))
      (λ abw abo awo bwo. and (not awo) (not abw)) refl)

  -- darts at b
  pub dart_b : De o a b b w ≡ Sb o a b w
  dart_b = rw (pqp b o, prq a b o abo!, prq a w o awo!, qrp b w o bwo!, qpr a b w abw!, prq b w o bwo!, qrp a b o abo!, qrp a b w abw!, qrp a w o awo!, rqp a b w abw!)
      (by_check (λ abw abo awo bwo. xor (and (not abo) false) (xor (and (not awo) (and bwo (not abw)))
      (xor (cond (not bwo) (and abo (and (not awo) abw)) (and awo (and (not abo) (not abw)))) (cond (not bwo) false (and bwo false)))))
      (λ abw abo awo bwo. and bwo (not abw)) refl)

  -- corners at a: the first side is the link; the last side is the link
  pub corner_a_first : xor (Sa o a b b) (Sa o a b w) ≡ not (inside a b o w)
  corner_a_first = rw (pqp b a, prq a b o abo!, prq a w o awo!, qpr a b w abw!, prq a b w abw!)
      (by_check (λ abw abo awo bwo. xor (and (not abo) false) (and (not awo) (not abw))) (λ abw abo awo bwo. not (most (not abo) awo (not (not abw)))) refl)

  pub corner_a_last : xor (Sa o a b w) (Sa o a b b) ≡ inside a w o b
  corner_a_last = rw (pqp b a, prq a b o abo!, prq a w o awo!, qpr a b w abw!)
      (by_check (λ abw abo awo bwo. xor (and (not awo) (not abw)) (and (not abo) false)) (λ abw abo awo bwo. most (not awo) abo (not abw)) refl)

  -- corners at b: the last side is the link; the first side is the link
  pub corner_b_last : xor (Sb o a b w) (Sb o a b a) ≡ not (inside b w o a)
  corner_b_last = rw (qpp a b, prq a b o abo!, qrp b w o bwo!, qpr a b w abw!, prq b w o bwo!, qpr a b o abo!)
      (by_check (λ abw abo awo bwo. xor (and bwo (not abw)) (and (not abo) false)) (λ abw abo awo bwo. not (most (not bwo) (not abo) (not (not abw)))) refl)

  pub corner_b_first : xor (Sb o a b a) (Sb o a b w) ≡ inside b a o w
  corner_b_first = rw (qpp a b, prq a b o abo!, qrp b w o bwo!, qpr a b w abw!, qrp a b o abo!, qrp a b w abw!)
      (by_check (λ abw abo awo bwo. xor (and (not abo) false) (and bwo (not abw))) (λ abw abo awo bwo. most abo bwo (not abw)) refl)
