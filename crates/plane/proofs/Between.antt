-- The strip from a up to a place x on the link a b: as Law, with x in the part of b. One sign may be 0.
use mathlib.Core.Path.{◌≡◌, refl, sym, ◌∙◌, ap, subst}
use mathlib.Core.Bool.{Bool, true, false, not, cond}
use native.Mathlib.Omega.{arith}
use lib.IntN.{ℤ, pos, ◌+ℤ◌, ◌*ℤ◌, neg_ℤ, *ℤ-zero}
use lib.Signed.{◌<ℤ◌, lt_z}
use borrow.Author.Differences.{ints}
use Rattle.plane.proofs.Sites.{Site, det, L, xor, and, up, De, Sa, crossing}
use Rattle.plane.proofs.Determinants.{det_same, det_cycle, det_flip}
use Rattle.plane.proofs.Signs.{St, Strict, Wk, Weak, weak, st_mul, st_cycle, st_swap, wk_cycle, wk_swap}
use Rattle.plane.proofs.SignTable.{not_not}
use Rattle.plane.proofs.Strip.{Off, off_cycle, left_sign, Frame, Signs, strip_signs, pqr, qrp, qpr, prq, rqp}
use Rattle.plane.proofs.SharedEnds.{General₄, dart_a, pqp}

-- x lies strictly between a and b: m parts of a, n of b
pub record Between (a b x : Site) : Type 0 where
  pub m : ℤ
  pub n : ℤ
  pub hm : pos 0 <ℤ m
  pub hn : pos 0 <ℤ n
  pub is : (p q : Site) → det p q x ≡ m *ℤ det p q a +ℤ n *ℤ det p q b

-- signs of sums
pub plus : {z : ℤ} → pos 0 <ℤ z → St true z
plus h = record { is = h }

pub st_sum : {b : Bool} {y z : ℤ} → St b y → Wk b z → St b (y +ℤ z)
st_sum {b = b} {y = y} {z = z} h k = go b h.is k.is
  where
    go : (b : Bool) → Strict b y → Weak b z → St b (y +ℤ z)
    go true h k = record { is = omega (arith, ints) }
    go false h k = record { is = omega (arith, ints) }

pub sum_st : {b : Bool} {y z : ℤ} → Wk b y → St b z → St b (y +ℤ z)
sum_st {b = b} {y = y} {z = z} h k = go b h.is k.is
  where
    go : (b : Bool) → Weak b y → Strict b z → St b (y +ℤ z)
    go true h k = record { is = omega (arith, ints) }
    go false h k = record { is = omega (arith, ints) }

pub nought : (b : Bool) (k z : ℤ) → z ≡ pos 0 → Wk b (k *ℤ z)
nought b k z e = subst (λ w. Wk b w) (sym (ap (λ w. k *ℤ w) e ∙ *ℤ-zero k)) (go b)
  where
    go : (b : Bool) → Wk b (pos 0)
    go true = record { is = record { le = tt } }
    go false = record { is = record { le = tt } }

-- the test of a number that may be 0
pub test : (z : ℤ) → Wk (lt_z (pos 0) z) z
test z = go (lt_z (pos 0) z) refl
  where
    go : (t : Bool) → lt_z (pos 0) z ≡ t → Wk t z
    go true e = record { is = omega (arith, ints) }
    go false e = record { is = omega (arith, ints) }

pub left_test : (p q r : Site) → Wk (L p q r) (det p q r)
unfolding L
left_test p q r = test (det p q r)

module _ (a b x : Site) (w : Between a b x) where
  -- seen from p and a: x is where b is; seen from p and b: x is where a is; a, x and b are on one line
  pub by_a : (p : Site) {s : Bool} → St s (det p a b) → St s (det p a x)
  by_a p {s = s} h = subst (λ z. St s z) (sym (w.is p a)) (sum_st (nought s w.m (det p a a) (sym (det_cycle p a a) ∙ det_same a p)) (st_mul (plus w.hn) h))

  pub by_b : (p : Site) {s : Bool} → St s (det p b a) → St s (det p b x)
  by_b p {s = s} h = subst (λ z. St s z) (sym (w.is p b)) (st_sum (st_mul (plus w.hm) h) (nought s w.n (det p b b) (sym (det_cycle p b b) ∙ det_same b p)))

  -- a and b on one side of p q: x on that side
  pub by_both : (p q : Site) {s : Bool} → St s (det p q a) → St s (det p q b) → St s (det p q x)
  by_both p q {s = s} h k = subst (λ z. St s z) (sym (w.is p q)) (st_sum (st_mul (plus w.hm) h) (weak (st_mul (plus w.hn) k)))

  pub on_line : det a b x ≡ pos 0
  on_line = w.is a b ∙ zeros (w.m *ℤ det a b a) (w.n *ℤ det a b b)
      (ap (λ z. w.m *ℤ z) (det_cycle a a b ∙ det_same a b) ∙ *ℤ-zero w.m) (ap (λ z. w.n *ℤ z) (sym (det_cycle a b b) ∙ det_same b a) ∙ *ℤ-zero w.n)
    where
      zeros : (y z : ℤ) → y ≡ pos 0 → z ≡ pos 0 → y +ℤ z ≡ pos 0
      zeros y z e f = omega (arith, ints)

pick : (c p q r s m n : Bool) → cond c (and p (and q m)) (and r (and s n)) ≡ cond c (and p (and q (cond c m (not n)))) (and r (and s (not (cond c m (not n)))))
pick true p q r s m n = refl
pick false p q r s m n = ap (λ t. and r (and s t)) (sym (not_not n))

-- a link a b with a place x on it, b the higher, and a dart u v away from a and b that does not cross it
module _ (a b x u v o : Site) (w : Between a b x) (fr : Frame a x u v o)
    (abu : Off a b u) (abv : Off a b v) (abo : Off a b o) (auv : Off a u v) (buv : Off b u v) (auo : Off a u o) (avo : Off a v o) (xuo : Off x u o) (xvo : Off x v o) (uvo : Off u v o)
    (above : up o a b ≡ true) where
  side : Bool
  side = cond (not (L u v o)) (L u v x) (not (L v u x))

  axu! : St (L a b u) (det a x u)
  axu! = st_cycle u a x (by_a a b x w u (st_cycle b u a (st_cycle a b u (left_sign a b u abu))))

  axv! : St (L a b v) (det a x v)
  axv! = st_cycle v a x (by_a a b x w v (st_cycle b v a (st_cycle a b v (left_sign a b v abv))))

  axo! : St (L a b o) (det a x o)
  axo! = st_cycle o a x (by_a a b x w o (st_cycle b o a (st_cycle a b o (left_sign a b o abo))))

  side? : Wk side (det x u v)
  unfolding side
  side? = go (not (L u v o))
    where
      go : (c : Bool) → Wk (cond c (L u v x) (not (L v u x))) (det x u v)
      go true = wk_cycle v x u (wk_cycle u v x (left_test u v x))
      go false = wk_cycle v x u (wk_cycle u v x (wk_swap v u x (left_test v u x)))

  signs : Signs a x u v o (L a b u) (L a b v) (L a b o) (L a u v) (L a u o) (L a v o) side (L x u o) (L x v o) (L u v o)
  signs = record {
    frame = fr;
    ayu? = weak axu!;
    ayv! = axv!;
    ayo! = axo!;
    auv! = left_sign a u v auv;
    auo! = left_sign a u o auo;
    avo! = left_sign a v o avo;
    yuv? = side?;
    yuo! = left_sign x u o xuo;
    yvo! = left_sign x v o xvo;
    uvo! = left_sign u v o uvo;
  }

  pub entry_apart : crossing a b u v ≡ false → De o a x u v ≡ false
  unfolding side
  entry_apart out =
      strip_signs a x u v o signs (prq a x o axo! ∙ sym (prq a b o (left_sign a b o abo)) ∙ above) (qpr a x u axu!)
      (rw (prq u v o (left_sign u v o uvo), qrp x u o (left_sign x u o xuo), prq x v o (left_sign x v o xvo), qrp x v o (left_sign x v o xvo), prq x u o (left_sign x u o xuo))
      (pick (not (L u v o)) (L x u o) (not (L x v o)) (L x v o) (not (L x u o)) (L u v x) (L v u x)))
      ∙ rest (xor (L a b u) (L a b v)) out
    where
      fin : (p c : Bool) → xor p (cond c p (not (not p))) ≡ false
      fin true true = refl
      fin true false = refl
      fin false true = refl
      fin false false = refl

      alike : (p q : Bool) → xor p q ≡ false → q ≡ p
      alike true true e = refl
      alike true false e = sym e
      alike false true e = e
      alike false false e = refl

      uva! : St (L a u v) (det u v a)
      uva! = st_cycle a u v (left_sign a u v auv)

      uvb! : St (L u v b) (det u v b)
      uvb! = left_sign u v b (off_cycle b u v buv)

      beside : xor (L u v a) (L u v b) ≡ false → St (L a u v) (det u v x)
      beside e = by_both a b x w u v uva! (subst (λ t. St t (det u v b)) (alike (L u v a) (L u v b) e ∙ qrp a u v (left_sign a u v auv)) uvb!)

      rest : (c : Bool) → and c (xor (L u v a) (L u v b)) ≡ false → and c (xor (L a u v) (cond (not (L u v o)) (L u v x) (not (L v u x)))) ≡ false
      rest false e = refl
      rest true e = rw (pqr u v x (beside e), qpr u v x (beside e)) (fin (L a u v) (not (L u v o)))

-- a dart between b and v
module _ (a b x v o : Site) (w : Between a b x) (fr : Frame a x b v o)
    (abv : Off a b v) (abo : Off a b o) (avo : Off a v o) (xvo : Off x v o) (bvo : Off b v o) (above : up o a b ≡ true) where
  axv₁ : St (L a b v) (det a x v)
  axv₁ = st_cycle v a x (by_a a b x w v (st_cycle b v a (st_cycle a b v (left_sign a b v abv))))

  axo₁ : St (L a b o) (det a x o)
  axo₁ = st_cycle o a x (by_a a b x w o (st_cycle b o a (st_cycle a b o (left_sign a b o abo))))

  -- x b z as a b z
  xbz : (z : Site) (n : Off a b z) → St (L a b z) (det x b z)
  xbz z n = subst (λ t. St t (det x b z)) (not_not (L a b z)) (st_swap b x z (st_cycle z b x (by_b a b x w z (st_cycle a z b (st_cycle b a z (st_swap a b z (left_sign a b z n)))))))

  -- three on a line
  axb : det a x b ≡ pos 0
  axb = det_flip a b x ∙ ap neg_ℤ (on_line a b x w)

  any : (t : Bool) (z : ℤ) → z ≡ pos 0 → Wk t z
  any true z e = record { is = omega (arith, ints) }
  any false z e = record { is = omega (arith, ints) }

  xab : L x a b ≡ false
  unfolding L
  xab = ap (lt_z (pos 0)) (sym (det_cycle x a b) ∙ on_line a b x w)

  signs₁ : Signs a x b v o true (L a b v) (L a b o) (L a b v) (L a b o) (L a v o) (L a b v) (L a b o) (L x v o) (L b v o)
  signs₁ = record {
    frame = fr;
    ayu? = any true (det a x b) axb;
    ayv! = axv₁;
    ayo! = axo₁;
    auv! = left_sign a b v abv;
    auo! = left_sign a b o abo;
    avo! = left_sign a v o avo;
    yuv? = weak (xbz v abv);
    yuo! = xbz o abo;
    yvo! = left_sign x v o xvo;
    uvo! = left_sign b v o bvo;
  }

  pub entry_b : De o a x b v ≡ false
  entry_b =
      strip_signs a x b v o signs₁ (prq a x o axo₁ ∙ sym (prq a b o (left_sign a b o abo)) ∙ above) xab
      (rw (
        prq b v o (left_sign b v o bvo),
        qrp x b o (xbz o abo),
        prq x v o (left_sign x v o xvo),
        qrp x b v (xbz v abv),
        qrp x v o (left_sign x v o xvo),
        prq x b o (xbz o abo),
        rqp x b v (xbz v abv),
      ) refl)
      ∙ fin (L a b v)
    where
      fin : (t : Bool) → and (xor true t) (xor t t) ≡ false
      fin true = refl
      fin false = refl

-- darts between a and v, and between a and b
module _ (a b x v o : Site) (w : Between a b x) (g : General₄ a x v o) (abv : Off a b v) (above : up o a x ≡ true) where
  pub entry_a : De o a x a v ≡ Sa o a b v
  entry_a = dart_a a x v o g above ∙ ap (and (L a o v)) (qpr a x v same_side ∙ sym (qpr a b v (left_sign a b v abv)))
    where
      same_side : St (L a b v) (det a x v)
      same_side = st_cycle v a x (by_a a b x w v (st_cycle b v a (st_cycle a b v (left_sign a b v abv))))

module _ (a b x o : Site) (w : Between a b x) (abo : Off a b o) (above : up o a b ≡ true) where
  abx : L a b x ≡ false
  unfolding L
  abx = ap (lt_z (pos 0)) (on_line a b x w)

  xab₁ : L x a b ≡ false
  unfolding L
  xab₁ = ap (lt_z (pos 0)) (sym (det_cycle x a b) ∙ on_line a b x w)

  pub entry_ab : De o a x a b ≡ false
  entry_ab = rw (above, pqp a o, xab₁, abx) (go (L b o x) (L a o x) (L x o b))
    where
      go : (p q r : Bool) → xor (and p false) (and q (and r false)) ≡ false
      go true true true = refl
      go true true false = refl
      go true false r = refl
      go false true true = refl
      go false true false = refl
      go false false r = refl
