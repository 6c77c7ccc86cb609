-- Five sites: the rules hold of their signs, and the tables become statements
use mathlib.Core.Path.{◌≡◌, refl, sym, ◌∙◌, ap}
use mathlib.Core.Bool.{Bool, true, false, not, cond}
use native.Mathlib.Omega.{arith}
use borrow.Author.Differences.{ints}
use Rattle.plane.proofs.Determinants.{det_flip, det_swap, det_cycle}
use lib.IntN.{ℤ, pos, neg_ℤ}
use lib.Signed.{◌<ℤ◌}
use Rattle.plane.proofs.Sites.{Site, det, L, xor, and, most, up, hit, De, Sa, Sb, crossing, inside}
pub use Rattle.plane.proofs.General.{Off}
use Rattle.plane.proofs.Signs.{St, Wk, weak, sure, tells, st_cycle, st_swap, wk_cycle, wk_swap, seen, flat4, levels}
use Rattle.plane.proofs.SignTable.{rules, and_both, use_table, strip_claim, strip_table, below_claim, below_table, above_claim, above_table, same_is, no_or, not_true, not_not}

-- ---- a sign read in the six orders
module _ (p q r : Site) {b : Bool} (s : St b (det p q r)) where
  pub pqr : L p q r ≡ b
  unfolding L
  pqr = tells s

  pub qrp : L q r p ≡ b
  unfolding L
  qrp = tells (st_cycle p q r s)

  pub rpq : L r p q ≡ b
  unfolding L
  rpq = tells (st_cycle q r p (st_cycle p q r s))

  pub qpr : L q p r ≡ not b
  unfolding L
  qpr = tells (st_swap p q r s)

  pub prq : L p r q ≡ not b
  unfolding L
  prq = tells (st_cycle q p r (st_swap p q r s))

  pub rqp : L r q p ≡ not b
  unfolding L
  rqp = tells (st_cycle p r q (st_cycle q p r (st_swap p q r s)))

-- ---- five sites, the last a direction
pub record Frame (a y u v o : Site) : Type 0 where
  pub ha : pos 0 <ℤ a.h
  pub hy : pos 0 <ℤ y.h
  pub hu : pos 0 <ℤ u.h
  pub hv : pos 0 <ℤ v.h
  pub ho : o.h ≡ pos 0

-- their signs; those of a y u and y u v may be 0
pub record Signs (a y u v o : Site) (ayu ayv ayo auv auo avo yuv yuo yvo uvo : Bool) : Type 0 where
  pub frame : Frame a y u v o
  pub ayu? : Wk ayu (det a y u)
  pub ayv! : St ayv (det a y v)
  pub ayo! : St ayo (det a y o)
  pub auv! : St auv (det a u v)
  pub auo! : St auo (det a u o)
  pub avo! : St avo (det a v o)
  pub yuv? : Wk yuv (det y u v)
  pub yuo! : St yuo (det y u o)
  pub yvo! : St yvo (det y v o)
  pub uvo! : St uvo (det u v o)

module _ (a y u v o : Site) {ayu ayv ayo auv auo avo yuv yuo yvo uvo : Bool} (s : Signs a y u v o ayu ayv ayo auv auo avo yuv yuo yvo uvo) where
  pub obeyed : rules ayu ayv ayo auv auo avo yuv yuo yvo uvo ≡ true
  unfolding rules
  obeyed =
      and_both (seen a y u v o s.ayu? (weak s.avo!) s.ayv! s.auo! (weak s.ayo!) (weak s.auv!))
      (and_both (seen y a u v o (wk_swap a y u s.ayu?) (weak s.yvo!) (st_swap a y v s.ayv!) s.yuo! (weak (st_swap a y o s.ayo!)) s.yuv?)
      (and_both (seen u a y v o (wk_cycle y u a (wk_cycle a y u s.ayu?)) (weak s.uvo!) (st_swap a u v s.auv!) (st_swap y u o s.yuo!) (weak (st_swap a u o s.auo!)) (wk_swap y u v s.yuv?))
      (and_both (seen v a y u o (weak (st_cycle y v a (st_cycle a y v s.ayv!))) (weak (st_swap u v o s.uvo!)) (st_cycle u v a (st_cycle a u v s.auv!)) (st_swap y v o s.yvo!) (weak (st_swap a v o s.avo!)) (wk_cycle u v y (wk_cycle y u v s.yuv?)))
      (and_both (seen o a y u v (weak (st_cycle y o a (st_cycle a y o s.ayo!))) (weak (st_cycle v o u (st_cycle u v o s.uvo!))) (st_cycle u o a (st_cycle a u o s.auo!)) (st_cycle v o y (st_cycle y v o s.yvo!)) (weak (st_cycle v o a (st_cycle a v o s.avo!))) (weak (st_cycle u o y (st_cycle y u o s.yuo!))))
      (and_both (flat4 a y u v s.frame.ha s.frame.hy s.frame.hu s.frame.hv s.ayu? s.ayv! s.yuv? (weak s.auv!))
      (and_both (levels a y u o s.frame.ha s.frame.hy s.frame.hu s.frame.ho s.ayo! (weak s.yuo!) (weak s.auo!))
      (and_both (levels a y v o s.frame.ha s.frame.hy s.frame.hv s.frame.ho s.ayo! (weak s.yvo!) (weak s.avo!))
      (and_both (levels a u v o s.frame.ha s.frame.hu s.frame.hv s.frame.ho s.auo! (weak s.uvo!) (weak s.avo!))
      (levels y u v o s.frame.hy s.frame.hu s.frame.hv s.frame.ho s.yuo! (weak s.uvo!) (weak s.yvo!))))))))))

  -- a double negation in y's level
  higher : L a o y ≡ true → ayo ≡ false
  higher e = not_true ayo (sym (prq a y o s.ayo!) ∙ e)

  -- what a dart adds, where the tests of the two signs that may be 0 are given
  pub strip_signs : up o a y ≡ true → L y a u ≡ not ayu
      → hit o y u v ≡ cond (not uvo) (and yuo (and (not yvo) yuv)) (and yvo (and (not yuo) (not yuv)))
      → De o a y u v ≡ and (xor ayu ayv) (xor auv yuv)
  unfolding strip_claim
  strip_signs above e k =
      let t = same_is _ _ (no_or _ _ (use_table strip_claim strip_table ayu ayv ayo auv auo avo yuv yuo yvo uvo obeyed) (higher above)) in
      rw (k, e, prq a u o s.auo!, qrp y u o s.yuo!, prq a v o s.avo!, qrp y v o s.yvo!, qpr a y v s.ayv!, prq u v o s.uvo!, qrp a u o s.auo!, qrp a u v s.auv!, qrp a v o s.avo!, rqp a u v s.auv!) t

-- ---- general position
pub off_flip : (p q r : Site) → Off p q r → Off p r q
off_flip p q r n e = n (zero_of (det p q r) (sym (det_flip p q r) ∙ e))
  where
    zero_of : (z : ℤ) → neg_ℤ z ≡ pos 0 → z ≡ pos 0
    zero_of z e = omega (arith, ints)

pub off_swap : (p q r : Site) → Off p q r → Off q p r
off_swap p q r n e = n (zero_of (det p q r) (sym (det_swap p q r) ∙ e))
  where
    zero_of : (z : ℤ) → neg_ℤ z ≡ pos 0 → z ≡ pos 0
    zero_of z e = omega (arith, ints)

pub off_cycle : (p q r : Site) → Off p q r → Off q r p
off_cycle p q r n e = n (sym (det_cycle p q r) ∙ e)

pub left_sign : (p q r : Site) → Off p q r → St (L p q r) (det p q r)
unfolding L
left_sign p q r n = sure (det p q r) n

pub record General (a y u v o : Site) : Type 0 where
  pub frame : Frame a y u v o
  pub ayu : Off a y u
  pub ayv : Off a y v
  pub ayo : Off a y o
  pub auv : Off a u v
  pub auo : Off a u o
  pub avo : Off a v o
  pub yuv : Off y u v
  pub yuo : Off y u o
  pub yvo : Off y v o
  pub uvo : Off u v o

module _ (a y u v o : Site) (g : General a y u v o) where
  pub signs : Signs a y u v o (L a y u) (L a y v) (L a y o) (L a u v) (L a u o) (L a v o) (L y u v) (L y u o) (L y v o) (L u v o)
  signs = record {
    frame = g.frame;
    ayu? = weak (left_sign a y u g.ayu);
    ayv! = left_sign a y v g.ayv;
    ayo! = left_sign a y o g.ayo;
    auv! = left_sign a u v g.auv;
    auo! = left_sign a u o g.auo;
    avo! = left_sign a v o g.avo;
    yuv? = weak (left_sign y u v g.yuv);
    yuo! = left_sign y u o g.yuo;
    yvo! = left_sign y v o g.yvo;
    uvo! = left_sign u v o g.uvo;
  }

  -- THE DART: y higher than a. What u v adds is whether it crosses a y
  pub dart : up o a y ≡ true → De o a y u v ≡ crossing a y u v
  dart above =
      strip_signs a y u v o signs above (qpr a y u (left_sign a y u g.ayu))
      (rw (
        prq u v o signs.uvo!,
        qrp y u o signs.yuo!,
        prq y v o signs.yvo!,
        qrp y u v (left_sign y u v g.yuv),
        qrp y v o signs.yvo!,
        prq y u o signs.yuo!,
        rqp y u v (left_sign y u v g.yuv),
      ) refl)
      ∙ rw (qrp a u v signs.auv!, qrp y u v (left_sign y u v g.yuv)) refl

  -- THE CORNER at a, of a link a y with y higher: y not inside the corner u a v
  pub corner_low : up o a y ≡ true → inside a u y v ≡ false → xor (Sa o a y u) (Sa o a y v) ≡ inside a u o v
  unfolding below_claim
  corner_low above out =
      let not_in : most (L a y u) (not (L a y v)) (L a u v) ≡ false = sym (rw (prq a y v signs.ayv!, prq a u v signs.auv!, not_not (L a u v)) refl) ∙ out in
      let t = same_is _ _ (no_or _ _ (no_or _ _ (use_table below_claim below_table (L a y u) (L a y v) (L a y o) (L a u v) (L a u o) (L a v o) (L y u v) (L y u o) (L y v o) (L u v o)
      (obeyed a y u v o signs)) (higher a y u v o signs above)) not_in) in
      rw (prq a u o signs.auo!, prq a v o signs.avo!, qpr a y u (left_sign a y u g.ayu), qpr a y v signs.ayv!, prq a u v signs.auv!, not_not (L a u v)) t

  -- THE CORNER at a, of a link y a with y lower: y not inside the corner u a v
  pub corner_high : up o y a ≡ true → inside a u y v ≡ false → xor (Sb o y a u) (Sb o y a v) ≡ inside a u o v
  unfolding above_claim
  corner_high below out =
      let not_in : most (L a y u) (not (L a y v)) (L a u v) ≡ false = sym (rw (prq a y v signs.ayv!, prq a u v signs.auv!, not_not (L a u v)) refl) ∙ out in
      let lower : not (L a y o) ≡ false = ap not (sym (qrp a y o signs.ayo!) ∙ below) in
      let t = same_is _ _ (no_or _ _ (no_or _ _ (use_table above_claim above_table (L a y u) (L a y v) (L a y o) (L a u v) (L a u o) (L a v o) (L y u v) (L y u o) (L y v o) (L u v o)
      (obeyed a y u v o signs)) lower) not_in) in
      rw (qrp a u o signs.auo!, qrp a v o signs.avo!, prq a u o signs.auo!, prq a u v signs.auv!, not_not (L a u v)) t
