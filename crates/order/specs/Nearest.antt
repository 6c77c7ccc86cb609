-- Places along the way to the target: their order
use Rattle.std.specs.Prelude.{◌≡◌, ℕ, ◌*◌, ◌<◌, true, false, nat_lt}
use Rattle.std.proofs.Common.{sym, arith, mul-lt-mul_of_pos_right, lt_of_mul-lt-mul_right, mul_comm}
use Rattle.std.proofs.lemmas.Bool.Decides.{nat_tests}
use Rattle.order.specs.declared.Place.{Place}
use Rattle.order.specs.Places.{nearer}

pub never : (p : Place) → nearer p p ≡ false
never p = grind (arith, nat_tests, mul_comm p.above p.below)

same_tests : (i j k l : ℕ) → (i < j → k < l) → (k < l → i < j) → nat_lt i j ≡ nat_lt k l
same_tests i j k l there back = grind (arith, nat_tests)

-- a/b, c/d and e/f; b, d and f positive
module _ (a b c d e f : ℕ) (hb : 0 < b) (hd : 0 < d) (hf : 0 < f) where
  chained : c * b < a * d → e * d < c * f → e * b < a * f
  chained h k =
      let h' : (c * b) * f < (a * d) * f = mul-lt-mul_of_pos_right h hf in
      let k' : (e * d) * b < (c * f) * b = mul-lt-mul_of_pos_right k hb in
      let both : (e * b) * d < (a * f) * d = omega arith in
      lt_of_mul-lt-mul_right d both

  -- a/b is c/d
  module _ (same : a * d ≡ c * b) where
    farther : e * b < a * f → e * d < c * f
    farther h =
        let h' : (e * b) * d < (a * f) * d = mul-lt-mul_of_pos_right h hd in
        let s : (a * d) * f ≡ (c * b) * f = λ i. same i * f in
        let both : (e * d) * b < (c * f) * b = omega arith in
        lt_of_mul-lt-mul_right b both

    nearer_still : a * f < e * b → c * f < e * d
    nearer_still h =
        let h' : (a * f) * d < (e * b) * d = mul-lt-mul_of_pos_right h hd in
        let s : (a * d) * f ≡ (c * b) * f = λ i. same i * f in
        let both : (c * f) * b < (e * d) * b = omega arith in
        lt_of_mul-lt-mul_right b both

module _ (p q r : Place) (hp : 0 < p.below) (hq : 0 < q.below) (hr : 0 < r.below) where
  pub transitive : nearer p q ≡ true → nearer q r ≡ true → nearer p r ≡ true
  transitive h k =
      let step = chained p.above p.below q.above q.below r.above r.below hp hq hr in
      grind (arith, nat_tests)

  pub alike : nearer p q ≡ false → nearer q p ≡ false → (nearer p r ≡ nearer q r) × (nearer r p ≡ nearer r q)
  alike h k =
      let same : p.above * q.below ≡ q.above * p.below = grind (arith, nat_tests) in
      let back : q.above * p.below ≡ p.above * q.below = sym same in (
        same_tests _ _ _ _ (farther p.above p.below q.above q.below r.above r.below hp hq hr same)
            (farther q.above q.below p.above p.below r.above r.below hq hp hr back),
        same_tests _ _ _ _ (nearer_still p.above p.below q.above q.below r.above r.below hp hq hr same)
            (nearer_still q.above q.below p.above p.below r.above r.below hq hp hr back),
      )
