-- Darts and corners of a floor: what a sum over a face adds up. All cases, degenerate ones too.
use mathlib.Core.Path.{◌≡◌, refl, sym, ◌∙◌, ap, ap₂, subst}
use mathlib.Core.Bool.{Bool, true, false, not}
use lib.Dec.{T}
use lib.IntN.{pos}
use lib.Signed.{◌<ℤ◌}
use Rattle.plane.proofs.Vectors.{Vector}
use Rattle.plane.proofs.Sites.{Site, node, far, xor, and, up, De, Sa, Sb, crossing, inside}
pub use Rattle.plane.proofs.General.{Floor, is}
use Rattle.plane.proofs.Strip.{General, dart, corner_low, corner_high}
use Rattle.plane.proofs.SharedEnds.{General₄, dart_a, dart_b, dart_ab, dart_ba, De_twin, corner_a_first, corner_a_last, corner_b_first, corner_b_last, lone_a, lone_b, pqp, qpp}
use Rattle.plane.proofs.Arcs.{full_turn}

pub clash {ℓ} : {X : Type ℓ} → true ≡ false → X
clash e = absurd (subst (λ b. T b) e tt)

pub xor_false : (b : Bool) → xor b false ≡ b
xor_false true = refl
xor_false false = refl

module _ {I : Type 0} (at' : I → Vector) (d : Vector) (f : Floor I at' d) where
  abbrev pub S : I → Site
  S i = node (at' i)

  abbrev pub o : Site
  o = far d

  abbrev pub eq : I → I → Bool
  eq i j = is (f.same? i j)

  pub one : pos 0 <ℤ pos 1
  one = record { lt = tt }

  pub general₄ : (a b w : I) → ¬ (a ≡ b) → ¬ (a ≡ w) → ¬ (b ≡ w) → General₄ (S a) (S b) (S w) o
  general₄ a b w ab aw bw = record { ha = one; hb = one; hw = one; ho = refl; abw = f.off a b w ab aw bw; abo = f.along a b ab; awo = f.along a w aw; bwo = f.along b w bw }

  pub general : (a y u v : I) → ¬ (a ≡ y) → ¬ (a ≡ u) → ¬ (a ≡ v) → ¬ (y ≡ u) → ¬ (y ≡ v) → ¬ (u ≡ v) → General (S a) (S y) (S u) (S v) o
  general a y u v ay au av yu yv uv = record {
    frame = record { ha = one; hy = one; hu = one; hv = one; ho = refl };
    ayu = f.off a y u ay au yu;
    ayv = f.off a y v ay av yv;
    ayo = f.along a y ay;
    auv = f.off a u v au av uv;
    auo = f.along a u au;
    avo = f.along a v av;
    yuv = f.off y u v yu yv uv;
    yuo = f.along y u yu;
    yvo = f.along y v yv;
    uvo = f.along u v uv;
  }

  pub back : {i j : I} → ¬ (i ≡ j) → ¬ (j ≡ i)
  back n e = n (sym e)

  -- a link a b, b the higher
  module _ (a b : I) (ab : ¬ (a ≡ b)) (above : up o (S a) (S b) ≡ true) where
    abbrev pub A : Site
    A = S a

    abbrev pub B : Site
    B = S b

    pub Sa_b : Sa o A B B ≡ false
    Sa_b = rw (above, pqp B A) refl

    Sb_a : Sb o A B A ≡ false
    Sb_a = rw (above, qpp A B) refl

    -- DARTS
    pub dart_law : (u v : I) → ¬ (u ≡ v)
        → (¬ (a ≡ u) → ¬ (a ≡ v) → ¬ (b ≡ u) → ¬ (b ≡ v) → crossing A B (S u) (S v) ≡ false)
        → De o A B (S u) (S v) ≡ xor (and (eq u a) (Sa o A B (S v))) (xor (and (eq v a) (Sa o A B (S u))) (xor (and (eq u b) (Sb o A B (S v))) (and (eq v b) (Sb o A B (S u)))))
    dart_law u v uv apart = go (f.same? u a) (f.same? v a) (f.same? u b) (f.same? v b)
      where
        go : (ua : Dec (u ≡ a)) (va : Dec (v ≡ a)) (ub : Dec (u ≡ b)) (vb : Dec (v ≡ b))
            → De o A B (S u) (S v) ≡ xor (and (is ua) (Sa o A B (S v))) (xor (and (is va) (Sa o A B (S u))) (xor (and (is ub) (Sb o A B (S v))) (and (is vb) (Sb o A B (S u)))))
        go (yes p) (yes q) ub vb = absurd (uv (p ∙ sym q))
        go (yes p) (no q) (yes r) vb = absurd (ab (sym p ∙ r))
        go (yes p) (no q) (no r) (yes s) = ap₂ (λ i j. De o A B (S i) (S j)) p s ∙ dart_ab A B o (f.along a b ab) above
            ∙ sym (ap₂ xor (ap (λ i. Sa o A B (S i)) s ∙ Sa_b) (ap (λ i. Sb o A B (S i)) p ∙ Sb_a))
        go (yes p) (no q) (no r) (no s) = ap (λ i. De o A B (S i) (S v)) p ∙ dart_a A B (S v) o (general₄ a b v ab (back q) (back s)) above ∙ sym (xor_false (Sa o A B (S v)))
        go (no p) (yes q) (yes r) (yes s) = absurd (uv (r ∙ sym s))
        go (no p) (yes q) (yes r) (no s) = ap₂ (λ i j. De o A B (S i) (S j)) r q ∙ dart_ba A B o (f.along a b ab) above
            ∙ sym (ap₂ xor (ap (λ i. Sa o A B (S i)) r ∙ Sa_b) (ap (λ b. xor b false) (ap (λ i. Sb o A B (S i)) q ∙ Sb_a)))
        go (no p) (yes q) (no r) (yes s) = absurd (ab (sym q ∙ s))
        go (no p) (yes q) (no r) (no s) = De_twin o A B (S u) (S v) (f.along u v uv) ∙ ap (λ i. De o A B (S i) (S u)) q
            ∙ dart_a A B (S u) o (general₄ a b u ab (back p) (back r)) above ∙ sym (xor_false (Sa o A B (S u)))
        go (no p) (no q) (yes r) (yes s) = absurd (uv (r ∙ sym s))
        go (no p) (no q) (yes r) (no s) = ap (λ i. De o A B (S i) (S v)) r ∙ dart_b A B (S v) o (general₄ a b v ab (back q) (back s)) above ∙ sym (xor_false (Sb o A B (S v)))
        go (no p) (no q) (no r) (yes s) = De_twin o A B (S u) (S v) (f.along u v uv) ∙ ap (λ i. De o A B (S i) (S u)) s
            ∙ dart_b A B (S u) o (general₄ a b u ab (back p) (back r)) above
        go (no p) (no q) (no r) (no s) = dart A B (S u) (S v) o (general a b u v ab (back p) (back q) (back r) (back s) uv) above ∙ apart (back p) (back q) (back r) (back s)

    -- CORNERS u a w
    pub corner_law_a : (u w : I) → ¬ (a ≡ u) → ¬ (a ≡ w) → inside A (S u) B (S w) ≡ false
        → xor (Sa o A B (S u)) (Sa o A B (S w)) ≡ xor (eq u b) (inside A (S u) o (S w))
    corner_law_a u w au aw out = go (f.same? u b) (f.same? w b) (f.same? u w)
      where
        go : (ub : Dec (u ≡ b)) → Dec (w ≡ b) → Dec (u ≡ w) → xor (Sa o A B (S u)) (Sa o A B (S w)) ≡ xor (is ub) (inside A (S u) o (S w))
        go (yes p) (yes q) r = ap₂ (λ i j. xor (Sa o A B (S i)) (Sa o A B (S j))) p q ∙ lone_a A B o (f.along a b ab) above ∙ sym (ap₂ (λ i j. not (inside A (S i) o (S j))) p q)
        go (yes p) (no q) r = ap (λ i. xor (Sa o A B (S i)) (Sa o A B (S w))) p ∙ corner_a_first A B (S w) o (general₄ a b w ab aw (back q)) above ∙ sym (ap (λ i. not (inside A (S i) o (S w))) p)
        go (no p) (yes q) r = ap (λ i. xor (Sa o A B (S u)) (Sa o A B (S i))) q ∙ corner_a_last A B (S u) o (general₄ a b u ab au (back p)) above ∙ sym (ap (λ i. inside A (S u) o (S i)) q)
        go (no p) (no q) (yes r) = clash (sym (ap (λ i. inside A (S u) B (S i)) (sym r) ∙ full_turn A (S u) B (f.off a u b au ab p)) ∙ out)
        go (no p) (no q) (no r) = corner_low A B (S u) (S w) o (general a b u w ab au aw (back p) (back q) r) above out

    -- CORNERS u b w
    pub corner_law_b : (u w : I) → ¬ (b ≡ u) → ¬ (b ≡ w) → inside B (S u) A (S w) ≡ false
        → xor (Sb o A B (S u)) (Sb o A B (S w)) ≡ xor (eq w a) (inside B (S u) o (S w))
    corner_law_b u w bu bw out = go (f.same? w a) (f.same? u a) (f.same? u w)
      where
        go : (wa : Dec (w ≡ a)) → Dec (u ≡ a) → Dec (u ≡ w) → xor (Sb o A B (S u)) (Sb o A B (S w)) ≡ xor (is wa) (inside B (S u) o (S w))
        go (yes p) (yes q) r = ap₂ (λ i j. xor (Sb o A B (S i)) (Sb o A B (S j))) q p ∙ lone_b A B o (f.along a b ab) above ∙ sym (ap₂ (λ i j. not (inside B (S i) o (S j))) q p)
        go (yes p) (no q) r = ap (λ i. xor (Sb o A B (S u)) (Sb o A B (S i))) p ∙ corner_b_last A B (S u) o (general₄ a b u ab (back q) bu) above ∙ sym (ap (λ i. not (inside B (S u) o (S i))) p)
        go (no p) (yes q) r = ap (λ i. xor (Sb o A B (S i)) (Sb o A B (S w))) q ∙ corner_b_first A B (S w) o (general₄ a b w ab (back p) bw) above ∙ sym (ap (λ i. inside B (S i) o (S w)) q)
        go (no p) (no q) (yes r) = clash (sym (ap (λ i. inside B (S u) A (S i)) (sym r) ∙ full_turn B (S u) A (f.off b u a bu (back ab) q)) ∙ out)
        go (no p) (no q) (no r) = corner_high B A (S u) (S w) o (general b a u w (back ab) bu bw (back q) (back p) r) above out
